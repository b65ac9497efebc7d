-- In a lawful world the term of each snapshot of a member begins in its log.
use Rattle.std.proofs.Common.{◌≡◌, ◌≢◌, inl, inr, ℕ, zero, suc, ◌+◌, ◌<◌, ◌≤◌, ◌==◌, ◌&&◌, ℤ, negsuc, Bool, true, false, List, [], ◌∷◌, ◌++◌, length, take, drop, Some, refl, sym, ap, ◌∙◌, subst, arith, length-append, if◌then◌else◌}
use Rattle.std.specs.Prelude.{Contains, Option, None, slice_get}
use Rattle.std.specs.Int.{w64, cast_unsigned}
use Rattle.std.specs.List.{AllByRecursion}
use Rattle.std.proofs.lemmas.List.{append-nil, append_assoc}
use Rattle.std.proofs.lemmas.Option.{slice_get_within}
use Rattle.std.specs.Ordering.{int_eq}
use Rattle.std.proofs.lemmas.Bool.{and_from, cases_Bool, eq-eqb}
use Rattle.std.proofs.lemmas.Bool.Decides.{Decides-int_eq}
use Rattle.std.proofs.lemmas.Int.{ints}
use Rattle.std.proofs.lemmas.List.Elements.{Contains-append_right}
use Rattle.agreement.proofs.Snaps2.{cons-here}
use Rattle.agreement.proofs.Fronts.{last-snoc}
use Rattle.cl_base.specs.declared.entry.Entry.{Entry}
use Rattle.wire_prims.specs.Fields.{i64_at, le16, length-le16, u16_at, u16_at-put}
use Rattle.wire_prims.specs.Strict.{block_bytes, message}
use Rattle.wire_prims.specs.StrictLaws.{length-message}
use Rattle.entry_log.specs.Durable.{SnapshotEntry}
use Rattle.entry_log.specs.Log.{IsPrefixOf, Log, last, place}
use Rattle.log_segment.specs.Held.{IsEventEntry, new_term_of, new_terms, put_term}
use Rattle.log_segment.specs.declared.kept.NewTerm.{NewTerm}
use Rattle.log_segment.proofs.HeldLemmas.{ranged}
use Rattle.service_api.specs.declared.shipped.Kind.{Kind}
use Rattle.service_phases.specs.Pairs.{Each}
use Rattle.service_runs.proofs.Lists.{take-snoc}
use Rattle.module_state.specs.Entries.{IsSpellable, events_in}
use Rattle.module_state.specs.Places.{log_of}
use Rattle.sbe_events.specs.Laws.{encoded, event_term}
use Rattle.sbe_events.specs.Spelling.{fields_of}
use Rattle.sbe_events.specs.declared.event.Event.{Event}
use Rattle.consensus_core.specs.Member.{Member}
use Rattle.consensus_core.specs.Reign.{term_event}
use Rattle.world.specs.World.{World, member, term_bytes, term_entry}
use Rattle.one_log.specs.Led.{Led, led, turns}
use Rattle.one_log.specs.Opened.{OpensTerms}
use Rattle.one_log.specs.Ruled.{rules_of}
use Rattle.one_log.proofs.Opened.{opens-terms}
use Rattle.one_log.proofs.Turns.{logs-formed, stays}
use Rattle.run_world.specs.Lawful.{Lawful}
use Rattle.run_world.specs.RunWorld.{RunWorld, seat}
use Rattle.run_world.proofs.Shown.{member-shown}
use Rattle.run_orders.specs.Kept.{Begins}
use Rattle.run_orders.proofs.Bases.{terms-append}

-- ---- the entry by which a term begins

term-long : (t : ℤ) (at now leader : ℕ) → length (term_bytes t at now leader) ≡ 48
unfolding term_bytes
term-long t at now leader =
    let e = term_event t at now leader in
    length-append (message 24 (fields_of e)) [] ∙ ap (λ (n : ℕ). n + 0) (length-message 24 (fields_of e))

term-number : (t : ℤ) (at now leader : ℕ) → u16_at 2 (term_bytes t at now leader) ≡ 24
unfolding term_bytes message
term-number t at now leader =
    let fs = fields_of (term_event t at now leader) in
    let rest : List ℕ = le16 111 ++ (le16 0 ++ block_bytes fs) in
    ap (u16_at 2) (append-nil (le16 40 ++ (le16 24 ++ rest))) ∙ u16_at-put 2 24 (le16 40) rest (length-le16 40) (omega arith)

-- the term of such an entry begins there
opens-there : (xs rest : Log) (x : Entry) (at now leader : ℕ) → IsEventEntry x → x ≡ term_entry x.term at now leader → Begins x.term (xs ++ x ∷ rest)
opens-there xs rest x at now leader event is =
    let i : ℕ = 0 + length xs in
    let same : x.bytes ≡ term_bytes x.term at now leader = ap (λ (y : Entry). y.bytes) is in
    let test : ((length x.bytes == 48) && (u16_at 2 x.bytes == 24)) ≡ true =
    and_from (length x.bytes == 48) (u16_at 2 x.bytes == 24) (eq-eqb (length x.bytes) 48 (ap length same ∙ term-long x.term at now leader)) (eq-eqb (u16_at 2 x.bytes) 24 (ap (u16_at 2) same ∙ term-number x.term at now leader)) in
    let made : NewTerm = record { entry = i; term = i64_at 8 x.bytes; base = cast_unsigned w64 (i64_at 32 x.bytes); stamp = i64_at 24 x.bytes } in
    let new : new_term_of i x.bytes ≡ Some made = ap (λ (b : Bool). if b then Some made else None) test in
    let here : Contains (new_terms i (x ∷ rest)) made = subst (λ (o : Option NewTerm). Contains (put_term o (new_terms (i + 1) rest)) made) (sym new) (cons-here made (new_terms (i + 1) rest)) in (
      made,
      subst (λ (ts : List NewTerm). Contains ts made) (sym (terms-append 0 xs (x ∷ rest))) (Contains-append_right (new_terms 0 xs) (new_terms i (x ∷ rest)) made here),
      sym (event.2 ∙ (event_term x.bytes event.0 event.1).1),
    )

-- ---- of every entry of a log that opens its terms

each-at : {X : Type 0} (P : X → Type 0) (xs : List X) (k : ℕ) (x : X) → Each P xs → slice_get xs k ≡ Some x → P x
each-at P [] k x each at = absurd (cc)
each-at P (y ∷ xs) zero x each at = subst P (cc) each.0
each-at P (y ∷ xs) (suc k) x each at = each-at P xs k x each.1 at

all-events : (es : List Event) → AllByRecursion IsSpellable es → Each IsEventEntry (log_of es)
all-events [] all = tt
all-events (e ∷ es) all = ((e, encoded e all.0.0, refl), all-events es all.1)

there : {X : Type 0} (xs : List X) (k : ℕ) → k < length xs → (x : X) × (slice_get xs k ≡ Some x)
there [] k less = absurd (omega (arith, less))
there (x ∷ xs) zero less = (x, refl)
there (x ∷ xs) (suc k) less = there xs k (omega (arith, less))

split : (log : Log) (k : ℕ) (x : Entry) → slice_get log k ≡ Some x → log ≡ take k log ++ x ∷ drop (suc k) log
split [] k x at = absurd (cc)
split (y ∷ log) zero x at = (λ i. entry-is y x at i ∷ log)
  where
    entry-is : (a b : Entry) → Some a ≡ Some b → a ≡ b
    entry-is a b e = cc
split (y ∷ log) (suc k) x at = ap (λ (l : Log). y ∷ l) (split log k x at)

each-has : {X : Type 0} (P : X → Type 0) (xs : List X) → ((x : X) → Contains xs x → P x) → Each P xs
each-has P [] all = tt
each-has P (x ∷ xs) all = (all x (0, omega arith, refl), each-has P xs (λ y has. all y (suc has.0, (let a = has.1 in omega (arith, a)), has.2)))

module _ (w : World) (log : Log) (opens : OpensTerms w log) (events : Each IsEventEntry log) where
  front-of : (k : ℕ) (x : Entry) → slice_get log k ≡ Some x → IsPrefixOf (take k log ++ x ∷ []) log
  front-of k x at = (drop (suc k) log, append_assoc (take k log) (x ∷ []) (drop (suc k) log) ∙ sym (split log k x at))

  first-of : (k : ℕ) (x : Entry) → slice_get log k ≡ Some x → last (take k log) ≢ x.term → Begins x.term log
  first-of k x at new =
      let z = opens (take k log) x (front-of k x at) new in
      let reign = z.0 in
      subst (Begins x.term) (sym (split log k x at)) (opens-there (take k log) (drop (suc k) log) x (place (take k log)) z.1 reign.member (each-at IsEventEntry log k x events at) z.5)

  pub begun : (k : ℕ) (x : Entry) → slice_get log k ≡ Some x → Begins x.term log
  begun zero x at =
      let low = (ranged x (each-at IsEventEntry log 0 x events at)).low in
      first-of zero x at (λ e. absurd (omega (arith, ints, low, e)))
  begun (suc k) x at =
      let long = slice_get_within log (suc k) x at in
      let before = there log k (omega (arith, long)) in
      let y : Entry = before.0 in
      let is : last (take (suc k) log) ≡ y.term = ap last (take-snoc k y log before.1) ∙ last-snoc (negsuc 0) (take k log) y in
      elim (cases_Bool (int_eq y.term x.term)) [
        | inl same ↦ subst (λ (t : ℤ). Begins t log) ((Decides-int_eq y.term x.term).0 same) (begun k y before.1)
        | inr other ↦ first-of (suc k) x at (λ e. clash ((Decides-int_eq y.term x.term).1 (sym is ∙ e)) other)
      ]
    where
      clash : {b : Bool} → b ≡ true → b ≡ false → ⊥
      clash same other = cc

-- ---- of a member of a lawful world

module _ (n : ℕ) (kinds : List Kind) (w : RunWorld) (m : ℕ) (five : n ≤ 5) (three : length kinds ≤ 3) (lawful : Lawful n kinds w) where
  abbrev d : Led
  d = turns kinds (rules_of kinds) (led n) lawful.taken

  abbrev BegunIn : Log → Type 0
  BegunIn log = (k : ℕ) (x : Entry) → slice_get log k ≡ Some x → Begins x.term log

  there-begin : BegunIn (member d.hosted.world m).durable.log
  there-begin =
      let st = stays n kinds (rules_of kinds) lawful.taken five three in
      let log = (member d.hosted.world m).durable.log in
      let formed = ((logs-formed n kinds (rules_of kinds) d st).members m).formed in
      begun d.hosted.world log (opens-terms n d.hosted.world log st.held.fits st.opened (st.held.fits.grounded.anchored m)) (subst (Each IsEventEntry) (sym formed.are) (all-events (events_in log) formed.spellable))

  -- the term of each entry of its log
  pub entries-begin : BegunIn (seat w m).member.durable.log
  entries-begin = subst (λ (x : Member). BegunIn x.durable.log) (member-shown d.hosted w m lawful.shows) there-begin

  -- and that of each of its snapshots
  pub snapshots-begin : Each (λ (s : SnapshotEntry). Begins s.term (seat w m).member.durable.log) (seat w m).member.durable.snapshots
  snapshots-begin =
      let st = stays n kinds (rules_of kinds) lawful.taken five three in
      let log = (member d.hosted.world m).durable.log in
      subst (λ (x : Member). Each (λ (s : SnapshotEntry). Begins s.term x.durable.log) x.durable.snapshots) (member-shown d.hosted w m lawful.shows)
      (each-has (λ (s : SnapshotEntry). Begins s.term log) (member d.hosted.world m).durable.snapshots
      (λ s has. let z = st.held.snaps m s has in subst (λ (t : ℤ). Begins t log) (sym (ap (λ (q : SnapshotEntry). q.term) z.6)) (there-begin z.0 z.1 z.3)))
