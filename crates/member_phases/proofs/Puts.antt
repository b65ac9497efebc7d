-- What the disk keeps once the snapshots of a phase are put.
use Rattle.std.proofs.Common.{◌≡◌, ◌⊎◌, inl, inr, ℕ, zero, suc, ◌+◌, ◌*◌, ◌<◌, ◌≤◌, ◌^◌, ◌==◌, ℤ, ◌≤ℤ◌, pos, Bool, true, false, ◌&&◌, ◌||◌, List, [], ◌∷◌, length, take, refl, sym, ap, ◌∙◌, subst, arith, if◌then◌else◌}
use Rattle.std.specs.Prelude.{int_le, int_lt, nat_le, slice_get}
use Rattle.std.specs.List.{filter, list_any}
use Rattle.std.proofs.lemmas.Int.{ints}
use Rattle.std.proofs.lemmas.List.{take-map}
use Rattle.std.proofs.lemmas.Option.{slice_get_within}
use Rattle.cl_base.specs.Disk.{FileState}
use Rattle.cl_base.specs.declared.entry.Entry.{Entry}
use Rattle.entry_log.specs.Durable.{SnapshotEntry}
use Rattle.entry_log.specs.Log.{Log, place}
use Rattle.entry_log.specs.Shape.{end_from-shape_of, end_of, entry_shape, shape_of}
use Rattle.log_segment.specs.Held.{IsHeld, new_terms}
use Rattle.recording_log.specs.declared.entry.RecEntry.{RecEntry}
use Rattle.recording_log.specs.Valid.{in_range, is_snapshot as is_put}
use Rattle.member_disk.specs.declared.durable.SnapshotHead.{SnapshotHead}
use Rattle.member_disk.specs.Changes.{IsHead, base_of, entry_for}
use Rattle.member_disk.specs.Kept.{Kept}
use Rattle.member_disk.proofs.NewTerms.{base_ranged, new_terms_ranged}
use Rattle.consensus_agent.proofs.Views.{front_ends}
use Rattle.run_world.proofs.Rows.{both}
use Rattle.sbe_events.specs.declared.event.Event.{Event}
use Rattle.sbe_events.specs.declared.event.Event.TheVariants as events
use Rattle.sbe_events.specs.Spelling.{HasSpelling, IsNumber, term_of}
use Rattle.service_api.specs.declared.shipped.Kind.{Kind}
use Rattle.service_phases.specs.Pairs.{Each, Each2}
use Rattle.service_runs.specs.Hosts.{actions, snap_of}
use Rattle.service_runs.proofs.Sendings.{actions-below}
use Rattle.module_state.specs.Entries.{IsWellFormedOn, events_in}
use Rattle.module_state.specs.Places.{entry_of}
use Rattle.one_log.specs.Ruled.{is_snapshot, rules_of}
use Rattle.run_orders.specs.Kept.{IsStored}
use Rattle.member_phases.proofs.Counted.{event-at, spelled-at}
use Rattle.member_phases.proofs.Events.{entry-there, front-more, log-long, some-is, some_of, there}

-- ---- entries that name an action

-- of some entry of the log
abbrev pub NamedIn : List Kind → Log → SnapshotEntry → Type 0
NamedIn kinds log s =
    (k : ℕ) × (x : Entry) × (seat : ℕ) × (slice_get log k ≡ some_of x) × ((rules_of kinds).is_action x ≡ true) × (seat ≤ length kinds) × (s ≡ snap_of (rules_of kinds) (take k log) x seat) × (actions (rules_of kinds) (take k log) < 256)

three : (a b : ℕ) → (a < b) ⊎ ((b < a) ⊎ (a ≡ b))
three a b = grind (arith)

pub one-of : (kinds : List Kind) (log : Log) (s t : SnapshotEntry) → length kinds ≤ 3 → NamedIn kinds log s → NamedIn kinds log t → s.recording ≡ t.recording → s ≡ t
one-of kinds log s t few z y same =
    let r = rules_of kinds in
    let a = actions r (take z.0 log) in
    let b = actions r (take y.0 log) in
    let is : s.recording ≡ 4 * a + z.2 = ap (λ (q : SnapshotEntry). q.recording) z.6 in
    let it : t.recording ≡ 4 * b + y.2 = ap (λ (q : SnapshotEntry). q.recording) y.6 in
    let low = z.5 in
    let low' = y.5 in
    let eq : 4 * a + z.2 ≡ 4 * b + y.2 = sym is ∙ same ∙ it in
    let number : a ≡ b = omega (arith, eq, low, low', few) in
    let seat : z.2 ≡ y.2 = omega (arith, eq, low, low', few) in
    let at : z.0 ≡ y.0 = elim (three z.0 y.0) [
      | inl lt ↦ absurd (let h = actions-below r log z.0 y.0 z.1 z.3 z.4 lt in omega (arith, h, number))
      | inr more ↦ elim more [ inl gt ↦ absurd (let h = actions-below r log y.0 z.0 y.1 y.3 y.4 gt in omega (arith, h, number)) | inr e ↦ e ]
    ] in
    let entry : z.1 ≡ y.1 = some-is z.1 y.1 (sym z.3 ∙ ap (slice_get log) at ∙ y.3) in
    z.6 ∙ (λ i. snap_of r (take (at i) log) (entry i) (seat i)) ∙ sym y.6

action-term : (e : Event) → HasSpelling e → is_snapshot (some_of e) ≡ true → IsNumber (term_of e)
action-term (events.Snapshot term position stamp) spelled is = spelled.0
action-term (events.Term term position stamp base leader) spelled is = absurd (cc)
action-term (events.Opened term corr session stamp stream channel) spelled is = absurd (cc)
action-term (events.Message term session stamp payload) spelled is = absurd (cc)
action-term (events.ServiceMessage term service n stamp payload) spelled is = absurd (cc)
action-term (events.Timer term corr stamp) spelled is = absurd (cc)
action-term (events.Closed term session stamp reason) spelled is = absurd (cc)

-- its numbers are in their ranges
pub named-head : (kinds : List Kind) (log : Log) (s : SnapshotEntry) → length kinds ≤ 3 → IsWellFormedOn kinds log → IsHeld log → NamedIn kinds log s → IsHead (record { recording = s.recording; service = s.service; term = s.term; position = s.position; stamp = s.stamp })
named-head kinds log s few formed held z =
    let k = z.0 in
    let x : Entry = z.1 in
    let within : k < length log = slice_get_within log k x z.3 in
    let long = log-long kinds log formed in
    let found = there (events_in log) k (omega (arith, within, long)) in
    let e : Event = found.0 in
    let is : x ≡ entry_of e = some-is x (entry_of e) (sym z.3 ∙ entry-there kinds log formed k e found.1) in
    let act : is_snapshot (some_of e) ≡ true = ap is_snapshot (sym (event-at kinds log formed k e found.1)) ∙ ap (λ (y : Entry). (rules_of kinds).is_action y) (sym is) ∙ z.4 in
    let ranged : IsNumber (term_of e) = action-term e (spelled-at kinds log formed k e found.1) act in
    let term : s.term ≡ term_of e = ap (λ (q : SnapshotEntry). q.term) z.6 ∙ ap (λ (y : Entry). y.term) is in
    let at : s.position ≡ end_of (take (suc k) (shape_of log)) =
    ap (λ (q : SnapshotEntry). q.position) z.6 ∙ ap place (sym (front-more log k x z.3)) ∙ sym (end_from-shape_of 0 (take (suc k) log)) ∙ ap end_of (sym (take-map entry_shape (suc k) log)) in
    let ends = front_ends (suc k) (shape_of log) in
    let room = held.room in
    let whole : end_of (shape_of log) ≡ place log = end_from-shape_of 0 log in
    let number = ap (λ (q : SnapshotEntry). q.recording) z.6 in
    let seat = z.5 in
    let below = z.7 in
    record {
      recording = omega (arith, number, seat, below, few);
      low = subst (λ (t : ℤ). pos 0 ≤ℤ t) (sym term) ranged.0;
      high = subst (λ (t : ℤ). t ≤ℤ pos (2 ^ 62)) (sym term) ranged.1;
      position = omega (arith, at, ends, room, whole);
    }

-- ---- an entry that counts

abbrev tests : Bool → Bool → Bool → Bool → Bool → Bool
tests t b l h p = (nat_le 1 1 && t && b && (1 == 0 || (l && h && p))) && (1 == 1)

ranged : (z : ℤ) → pos 0 ≤ℤ z → z ≤ℤ pos (2 ^ 62) → in_range z ≡ true
ranged z low high = both (int_le (pos 0) z) (int_le z (pos (2 ^ 62))) (grind (arith, ints, low)) (grind (arith, ints, high))

pub counts : (k : Kept) (h : SnapshotHead) → IsHead h → IsHeld k.log → is_put (entry_for k h) ≡ true
counts k h head held =
    let base = base_of h.term (new_terms 0 k.log) in
    let b = base_ranged h.term (new_terms 0 k.log) (new_terms_ranged 0 k.log held.events) in
    let p = head.position in
    let r = head.recording in
    let base-in : in_range (pos base) ≡ true = ranged (pos base) (omega (arith, ints)) (omega (arith, ints, b)) in
    let place-in : in_range (pos h.position) ≡ true = ranged (pos h.position) (omega (arith, ints)) (omega (arith, ints, p)) in
    let low : int_le (pos 0) (pos h.recording) ≡ true = grind (arith, ints) in
    let high : int_lt (pos h.recording) (pos 1024) ≡ true = grind (arith, ints, r) in
    let term-in : in_range h.term ≡ true = ranged h.term head.low head.high in
    (λ i. tests (term-in i) (base-in i) (low i) (high i) (place-in i))

-- ---- what is there, on both sides

or-left : (a b : Bool) → a ≡ true → (a || b) ≡ true
or-left true b e = refl
or-left false b e = absurd (cc)

or-right : (a b : Bool) → b ≡ true → (a || b) ≡ true
or-right true b e = refl
or-right false b e = e

pub no-both : (b : Bool) → b ≡ true → b ≡ false → ⊥
no-both true e f = cc
no-both false e f = cc

module _ (f : ℕ → FileState) (p : SnapshotEntry → Bool) where
  pub any-there : (e : RecEntry) (es : List RecEntry) (ts : List SnapshotEntry) → Each2 (IsStored f) (filter is_put es) ts → (i : ℕ) → slice_get es i ≡ some_of e → is_put e ≡ true → ((t : SnapshotEntry) → IsStored f e t → p t ≡ true) → list_any p ts ≡ true
  any-there e [] ts each i at valid so = absurd (cc)
  any-there e (x ∷ es) ts each i at valid so = by (λ us all j is. any-there e es us all j is valid so) (is_put x) refl i at ts each
    where
      by : ((us : List SnapshotEntry) → Each2 (IsStored f) (filter is_put es) us → (j : ℕ) → slice_get es j ≡ some_of e → list_any p us ≡ true) → (b : Bool) → is_put x ≡ b → (i : ℕ) → slice_get (x ∷ es) i ≡ some_of e → (ts : List SnapshotEntry) → Each2 (IsStored f) (if b then x ∷ filter is_put es else filter is_put es) ts → list_any p ts ≡ true
      by again false out zero at ts each = absurd (no-both (is_put x) (ap is_put (some-is x e at) ∙ valid) out)
      by again false out (suc i) at ts each = again ts each i at
      by again true in_it i at [] each = absurd each
      by again true in_it zero at (t ∷ ts) each = or-left (p t) (list_any p ts) (so t (subst (λ (z : RecEntry). IsStored f z t) (some-is x e at) each.0))
      by again true in_it (suc i) at (t ∷ ts) each = or-right (p t) (list_any p ts) (again ts each.1 i at)

  pub record Found (Q : RecEntry → Type 0) (es : List RecEntry) : Type 0 where
    pub index : ℕ
    pub entry : RecEntry
    pub snap : SnapshotEntry
    pub at : slice_get es index ≡ some_of entry
    pub valid : is_put entry ≡ true
    pub so : Q entry
    pub stored : IsStored f entry snap
    pub passes : p snap ≡ true

  pub there-any : (Q : RecEntry → Type 0) (es : List RecEntry) (ts : List SnapshotEntry) → Each2 (IsStored f) (filter is_put es) ts → Each Q (filter is_put es) → list_any p ts ≡ true → Found Q es
  there-any Q [] [] each so any = absurd (cc)
  there-any Q [] (t ∷ ts) each so any = absurd each
  there-any Q (x ∷ es) ts each so any = by (λ us all them yes'. there-any Q es us all them yes') (is_put x) refl ts each so any
    where
      later : Found Q es → Found Q (x ∷ es)
      later z = record { index = suc z.index; entry = z.entry; snap = z.snap; at = z.at; valid = z.valid; so = z.so; stored = z.stored; passes = z.passes }

      by : ((us : List SnapshotEntry) → Each2 (IsStored f) (filter is_put es) us → Each Q (filter is_put es) → list_any p us ≡ true → Found Q es) → (b : Bool) → is_put x ≡ b → (ts : List SnapshotEntry) → Each2 (IsStored f) (if b then x ∷ filter is_put es else filter is_put es) ts → Each Q (if b then x ∷ filter is_put es else filter is_put es) → list_any p ts ≡ true → Found Q (x ∷ es)
      by again false out ts each so any = later (again ts each so any)
      by again true in_it [] each so any = absurd each
      by again true in_it (t ∷ ts) each so any = or-case (p t) refl any
        where
          or-case : (a : Bool) → p t ≡ a → (a || list_any p ts) ≡ true → Found Q (x ∷ es)
          or-case true e any = record { index = 0; entry = x; snap = t; at = refl; valid = in_it; so = so.0; stored = each.0; passes = e }
          or-case false e any = later (again ts each.1 so.1 any)
