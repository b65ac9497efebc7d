-- Well-formed logs of entries: fronts, and what a leader appends.
use Rattle.std.proofs.Common.{◌≡◌, ℕ, ◌+◌, ◌≤◌, ◌^◌, ℤ, pos, negsuc, ◌≤ℤ◌, ◌<ℤ◌, List, [], ◌∷◌, ◌++◌, length, take, drop, refl, sym, ap, ◌∙◌, subst, arith, take-append-drop, length-append}
use Rattle.std.specs.List.{AllByRecursion}
use Rattle.std.proofs.lemmas.Int.{ints}
use Rattle.std.proofs.lemmas.List.{map-append, append-nil, length-map}
use Rattle.cl_base.specs.declared.entry.Entry.{Entry}
use Rattle.wire_prims.specs.Fields.{IsBytes}
use Rattle.entry_log.specs.Log.{Log, place, last, IsWritten}
use Rattle.log_replication.specs.Prefixes.{Leads, place-up, is_prefix}
use Rattle.sbe_events.specs.declared.event.Event.{Event}
use Rattle.sbe_events.specs.declared.event.Event.TheVariants as events
use Rattle.sbe_events.specs.Spelling.{HasSpelling, IsNumber, term_of}
use Rattle.service_api.specs.declared.shipped.Kind.{Kind}
use Rattle.module_state.specs.Part.{run_events}
use Rattle.pending_messages.specs.Pending.{PendingTable}
use Rattle.module_state.specs.Dispatch.{pending_part, pending_after}
use Rattle.module_state.specs.Module.{Module, tentative}
use Rattle.module_state.specs.Services.{history_of, module_of}
use Rattle.module_state.specs.Places as Places
use Rattle.module_state.specs.Places.{entry_of, log_of, place_of, stamp_of, last_term, last_stamp, last_stamp_from}
use Rattle.module_state.specs.Logs.{MayFollowLog, IsWellFormedLog, LeadsLog, due_in}
use Rattle.module_state.specs.Admitted.{IsAdmitted}
use Rattle.module_state.specs.Entries.{events_in, IsSpellable, IsWellFormedOn}
use Rattle.module_state.proofs.FollowLaws.{all_append, all_front}
use Rattle.module_state.proofs.PendingLaws.{length_after}
use Rattle.module_state.proofs.DueLaws.{length_pending}
use Rattle.module_state.proofs.PlaceLaws.{few_entries}
use Rattle.world.proofs.LogRows.{event-some}
use Rattle.module_state.proofs.RangeLaws.{module_fits, tentative_fits, due_spells}
use Rattle.module_state.proofs.LogLaws.{front_well_formed, push_well_formed, due_stays_well_formed, admitted_follows, term_follows}
use Rattle.module_state.proofs.EntryLaws.{events_in_back, last_same, well_formed_on, history_fits}
use Rattle.world.specs.World as World
use Rattle.world.specs.World.{term_entry, term_bytes}
use Rattle.one_log.specs.Formed.{IsFormed}
use Rattle.one_log.proofs.Offered.{IsDue, due-bytes}

abbrev pub IsBy : ℕ → Event → Type 0
IsBy now e = stamp_of e ≤ℤ pos now

-- the spellings of events that are allowed one after the other, stamped at most now, within the log's limit
pub record Good (kinds : List Kind) (now : ℕ) (log : Log) : Type 0 where
  pub es : List Event
  pub are : log ≡ log_of es
  pub spellable : AllByRecursion IsSpellable es
  pub stamps : AllByRecursion (IsBy now) es
  pub allowed : IsWellFormedLog kinds es
  pub room : place log ≤ 16777216

pub good-nil : (kinds : List Kind) (now : ℕ) → Good kinds now []
good-nil kinds now = record { es = []; are = refl; spellable = tt; stamps = tt; allowed = tt; room = omega arith }

cons-same : (a b : Entry) (xs ys : Log) → a ≡ b → xs ≡ ys → a ∷ xs ≡ b ∷ ys
cons-same a b xs ys e f = cc

split : (es : List Event) (xs rest : Log) → xs ++ rest ≡ log_of es → (a : List Event) × (b : List Event) × (a ++ b ≡ es) × (xs ≡ log_of a) × (rest ≡ log_of b)
split es [] rest e = ([], es, refl, refl, e)
split [] (x ∷ xs) rest e = absurd (cc)
split (v ∷ es) (x ∷ xs) rest e =
    let head : x ≡ entry_of v = cc in
    let tail : xs ++ rest ≡ log_of es = cc in
    let z = split es xs rest tail in
    (v ∷ z.0, z.1, ap (λ (l : List Event). v ∷ l) z.2, cons-same x (entry_of v) xs (log_of z.0) head z.3, z.4)

pub all_weaker : {X : Type 0} (P Q : X → Type 0) → ((x : X) → P x → Q x) → (xs : List X) → AllByRecursion P xs → AllByRecursion Q xs
all_weaker P Q f [] h = tt
all_weaker P Q f (x ∷ xs) h = (f x h.0, all_weaker P Q f xs h.1)

all_back : {X : Type 0} (P : X → Type 0) (xs ys : List X) → AllByRecursion P (xs ++ ys) → AllByRecursion P ys
all_back P [] ys h = h
all_back P (x ∷ xs) ys h = all_back P xs ys h.1

all_both : {X : Type 0} (P Q : X → Type 0) (xs : List X) → AllByRecursion P xs → AllByRecursion Q xs → AllByRecursion (λ x. P x × Q x) xs
all_both P Q [] h k = tt
all_both P Q (x ∷ xs) h k = ((h.0, k.0), all_both P Q xs h.1 k.1)

term_number : (e : Event) → HasSpelling e → pos 0 ≤ℤ term_of e
term_number (events.Term term position stamp base leader) h = h.0.0
term_number (events.Opened term corr session stamp stream channel) h = h.0.0
term_number (events.Message term session stamp payload) h = h.0.0
term_number (events.ServiceMessage term service n stamp payload) h = h.0.0
term_number (events.Timer term corr stamp) h = h.0.0
term_number (events.Closed term session stamp reason) h = h.0.0
term_number (events.Snapshot term position stamp) h = h.0.0

written : (es : List Event) → AllByRecursion IsSpellable es → IsWritten (log_of es)
written [] h = tt
written (e ∷ es) h = (event-some e, term_number e h.0.0, written es h.1)

spelled : (es : List Event) → AllByRecursion IsSpellable es → AllByRecursion HasSpelling es
spelled es h = all_weaker IsSpellable HasSpelling (λ e s. s.0) es h

-- a front of a good log is good
pub good-front : (kinds : List Kind) (now : ℕ) (xs ys : Log) → Leads xs ys → Good kinds now ys → Good kinds now xs
good-front kinds now xs ys p g =
    let q = is_prefix xs ys p in
    let s = split g.es xs q.0 (q.1 ∙ g.are) in
    let w : IsWritten ys = subst IsWritten (sym g.are) (written g.es g.spellable) in
    record {
      es = s.0;
      are = s.3;
      spellable = all_front IsSpellable s.0 s.1 (subst (AllByRecursion IsSpellable) (sym s.2) g.spellable);
      stamps = all_front (IsBy now) s.0 s.1 (subst (AllByRecursion (IsBy now)) (sym s.2) g.stamps);
      allowed = front_well_formed kinds s.0 s.1 (subst (IsWellFormedLog kinds) (sym s.2) g.allowed);
      room = (let a = place-up 0 xs ys w p in let b = g.room in omega (arith, a, b));
    }

pub good-later : (kinds : List Kind) (now now' : ℕ) (log : Log) → now ≤ now' → Good kinds now log → Good kinds now' log
good-later kinds now now' log up g = record {
  es = g.es;
  are = g.are;
  spellable = g.spellable;
  stamps = all_weaker (IsBy now) (IsBy now') (λ e s. by (stamp_of e) s) g.es g.stamps;
  allowed = g.allowed;
  room = g.room;
}
  where
    by : (s : ℤ) → s ≤ℤ pos now → s ≤ℤ pos now'
    by s h = omega (arith, ints, h, up)

pub is-formed : (kinds : List Kind) (now : ℕ) (log : Log) → Good kinds now log → IsFormed kinds now log
is-formed kinds now log g = record {
  formed = subst (IsWellFormedOn kinds) (sym g.are) (well_formed_on kinds g.es g.spellable g.allowed);
  stamps = subst (AllByRecursion (IsBy now)) (sym (ap events_in g.are ∙ events_in_back g.es g.spellable)) g.stamps;
  room = g.room;
}

last_by : (now : ℕ) (t : ℤ) (es : List Event) → t ≤ℤ pos now → AllByRecursion (IsBy now) es → last_stamp_from t es ≤ℤ pos now
last_by now t [] h k = h
last_by now t (e ∷ es) h k = last_by now (stamp_of e) es k.0 k.1

place-same : (es : List Event) → place_of es ≡ place (log_of es)
unfolding Places.place_of
place-same es = refl

pub drop-front : (xs ys : Log) → drop (length xs) (xs ++ ys) ≡ ys
drop-front [] ys = refl
drop-front (x ∷ xs) ys = drop-front xs ys

-- so many more
good-many : (kinds : List Kind) (now : ℕ) (log : Log) (g : Good kinds now log) (front : List Event) → AllByRecursion IsSpellable front → AllByRecursion (IsBy now) front → IsWellFormedLog kinds (g.es ++ front) → place (log ++ log_of front) ≤ 16777216 → Good kinds now (log ++ log_of front)
good-many kinds now log g front s b w room = record {
  es = g.es ++ front;
  are = ap (λ (x : Log). x ++ log_of front) g.are ∙ sym (map-append entry_of g.es front);
  spellable = all_append IsSpellable g.es front g.spellable s;
  stamps = all_append (IsBy now) g.es front g.stamps b;
  allowed = w;
  room = room;
}

good-push : (kinds : List Kind) (now : ℕ) (log : Log) (g : Good kinds now log) (e : Event) → IsSpellable e → stamp_of e ≤ℤ pos now → MayFollowLog kinds g.es e → place (log ++ entry_of e ∷ []) ≤ 16777216 → Good kinds now (log ++ entry_of e ∷ [])
good-push kinds now log g e s b a room = good-many kinds now log g (e ∷ []) (s, tt) (b, tt) (push_well_formed kinds g.es e g.allowed a) room

last-stamp : (kinds : List Kind) (now : ℕ) (log : Log) (g : Good kinds now log) → last_stamp g.es ≤ℤ pos now
last-stamp kinds now log g = last_by now (pos 0) g.es (omega (arith, ints)) g.stamps

last-term : (kinds : List Kind) (now : ℕ) (log : Log) (g : Good kinds now log) → last_term g.es ≡ last log
last-term kinds now log g = sym (last_same (negsuc 0) g.es) ∙ ap last (sym g.are)

few : (es more : List Event) (log : Log) → log ≡ log_of es → place (log ++ log_of more) ≤ 16777216 → length es + length more ≤ 262144
few es more log e h =
    let whole : log ++ log_of more ≡ log_of (es ++ more) = ap (λ (x : Log). x ++ log_of more) e ∙ sym (map-append entry_of es more) in
    let p : place_of (es ++ more) ≤ 16777216 = subst (λ n. n ≤ 16777216) (ap place whole ∙ sym (place-same (es ++ more))) h in
    let f = few_entries (es ++ more) p in
    let l = length-append es more in
    omega (arith, f, l)

no-bytes : IsBytes []
no-bytes i = omega arith

-- a new term's event
pub good-open : (kinds : List Kind) (now : ℕ) (log : Log) (t : ℤ) (m : ℕ) → Good kinds now log → last log <ℤ t → pos 0 ≤ℤ t → t ≤ℤ pos (2 ^ 62) → now ≤ 2 ^ 60 → m ≤ 4 → place (log ++ term_entry t (place log) now m ∷ []) ≤ 16777216
    → Good kinds now (log ++ term_entry t (place log) now m ∷ [])
unfolding World.term_bytes
good-open kinds now log t m g lt low high early small room =
    let e : Event = events.Term t (pos (place log)) (pos now) (pos (place log)) (pos m) in
    let at : place_of g.es ≡ place log = place-same g.es ∙ ap place (sym g.are) in
    let n : length g.es + 0 ≤ 262144 = few g.es [] log g.are (subst (λ (x : Log). place x ≤ 16777216) (sym (append-nil log)) g.room) in
    let follows : MayFollowLog kinds g.es e =
    subst (λ (p : ℕ). MayFollowLog kinds g.es (events.Term t (pos p) (pos now) (pos p) (pos m))) at
    (term_follows kinds g.es t now (pos m) g.allowed (subst (λ u. u <ℤ t) (sym (last-term kinds now log g)) lt) (last-stamp kinds now log g) (omega (arith, n))) in
    let p = g.room in
    good-push kinds now log g e (((low, high), (omega (arith, ints), omega (arith, ints, p)), (omega (arith, ints), omega (arith, ints, early)), refl, (omega (arith, ints), omega (arith, ints, small))), no-bytes) (omega (arith, ints)) follows room

-- ---- what a leader appends over its tentative state

pending-length : (m : PendingTable) (es : List Event) → length (run_events pending_part m es) ≡ length m
pending-length m [] = refl
pending-length m (e ∷ es) = pending-length (pending_after m e) es ∙ length_after m e

due-spellable : (kinds : List Kind) (a b : List Event) (alive : List (ℤ × ℕ)) (term : ℤ) (now since : ℕ) → AllByRecursion IsSpellable a → AllByRecursion IsSpellable b → length kinds ≤ 3 → IsNumber term → now ≤ 2 ^ 62
    → AllByRecursion IsSpellable (due_in kinds a b alive term now since) × AllByRecursion (IsBy now) (due_in kinds a b alive term now since)
due-spellable kinds a b alive term now since sa sb three t early =
    let m : Module = module_of kinds a in
    let view : Module = tentative m b in
    let fits = module_fits (length kinds) (history_of kinds a) (history_fits kinds a sa) in
    let size : length view.pending ≡ length kinds = pending-length m.pending b ∙ length_pending (length kinds) (history_of kinds a) in
    let spells = due_spells m view b alive term now since fits (tentative_fits m b fits (spelled b sb)) (omega (arith, size, three)) t early in
    let bytes = due-bytes kinds a b alive term now since in (
      all_weaker (λ (e : Event). HasSpelling e × IsDue term now e) IsSpellable (λ e z. (z.0, z.1.0)) (due_in kinds a b alive term now since) (all_both HasSpelling (IsDue term now) (due_in kinds a b alive term now since) spells bytes),
      all_weaker (IsDue term now) (IsBy now) (λ e z. by (stamp_of e) z.2) (due_in kinds a b alive term now since) bytes,
    )
  where
    by : (s : ℤ) → s ≡ pos now → s ≤ℤ pos now
    by s e = omega (arith, ints, e)

-- so many of the entries that are due, over a front of the log that was applied
pub good-due : (kinds : List Kind) (now : ℕ) (log c : Log) (t : ℤ) (count : ℕ) (alive : List (ℤ × ℕ)) (since : ℕ) → Good kinds now log → Leads c log → last log ≡ t → pos 0 ≤ℤ t → t ≤ℤ pos (2 ^ 62) → now ≤ 2 ^ 60 → length kinds ≤ 3
    → place (log ++ log_of (take count (due_in kinds (events_in c) (events_in (drop (length c) log)) alive t now since))) ≤ 16777216
    → Good kinds now (log ++ log_of (take count (due_in kinds (events_in c) (events_in (drop (length c) log)) alive t now since)))
good-due kinds now log c t count alive since g lead lt low high early three room =
    let q = is_prefix c log lead in
    let rest : drop (length c) log ≡ q.0 = ap (drop (length c)) (sym q.1) ∙ drop-front c q.0 in
    let s = split g.es c q.0 (q.1 ∙ g.are) in
    let a : List Event = s.0 in
    let b : List Event = s.1 in
    let both : AllByRecursion IsSpellable (a ++ b) = subst (AllByRecursion IsSpellable) (sym s.2) g.spellable in
    let sa : AllByRecursion IsSpellable a = all_front IsSpellable a b both in
    let sb : AllByRecursion IsSpellable b = all_back IsSpellable a b both in
    let ea : events_in c ≡ a = ap events_in s.3 ∙ events_in_back a sa in
    let eb : events_in (drop (length c) log) ≡ b = ap events_in (rest ∙ s.4) ∙ events_in_back b sb in
    let all : List Event = due_in kinds (events_in c) (events_in (drop (length c) log)) alive t now since in
    let same : due_in kinds a b alive t now since ≡ all = ap (λ (x : List Event). due_in kinds x b alive t now since) (sym ea) ∙ ap (λ (x : List Event). due_in kinds (events_in c) x alive t now since) (sym eb) in
    let good = due-spellable kinds a b alive t now since sa sb three (low, high) (omega (arith, early)) in
    let front : List Event = take count all in
    let parts : front ++ drop count all ≡ all = take-append-drop count all in
    let n : length g.es + length front ≤ 262144 = few g.es front log g.are room in
    let leads : LeadsLog (a ++ b) t now (length front) = record {
      in_term = ap last_term s.2 ∙ last-term kinds now log g ∙ lt;
      is_term = low;
      stamps = subst (λ (x : List Event). last_stamp x ≤ℤ pos now) (sym s.2) (last-stamp kinds now log g);
      room = (let k = ap length s.2 in omega (arith, n, k));
    } in
    let formed : IsWellFormedLog kinds ((a ++ b) ++ front) = due_stays_well_formed kinds a b alive t now since front (drop count all) (subst (IsWellFormedLog kinds) (sym s.2) g.allowed) (parts ∙ sym same) leads in
    good-many kinds now log g front
    (all_front IsSpellable front (drop count all) (subst (AllByRecursion IsSpellable) (same ∙ sym parts) good.0))
    (all_front (IsBy now) front (drop count all) (subst (AllByRecursion (IsBy now)) (same ∙ sym parts) good.1))
    (subst (λ (x : List Event). IsWellFormedLog kinds (x ++ front)) s.2 formed) room

-- one event that is admitted
pub good-asked : (kinds : List Kind) (now : ℕ) (log c : Log) (t : ℤ) (e : Event) → Good kinds now log → Leads c log → last log ≡ t → pos 0 ≤ℤ t → IsSpellable e → term_of e ≡ t → stamp_of e ≡ pos now
    → IsAdmitted (tentative (module_of kinds (events_in c)) (events_in (drop (length c) log))) (place log) e → place (log ++ entry_of e ∷ []) ≤ 16777216 → Good kinds now (log ++ entry_of e ∷ [])
good-asked kinds now log c t e g lead lt low fits of_t at ok room =
    let q = is_prefix c log lead in
    let rest : drop (length c) log ≡ q.0 = ap (drop (length c)) (sym q.1) ∙ drop-front c q.0 in
    let s = split g.es c q.0 (q.1 ∙ g.are) in
    let a : List Event = s.0 in
    let b : List Event = s.1 in
    let both : AllByRecursion IsSpellable (a ++ b) = subst (AllByRecursion IsSpellable) (sym s.2) g.spellable in
    let sa : AllByRecursion IsSpellable a = all_front IsSpellable a b both in
    let sb : AllByRecursion IsSpellable b = all_back IsSpellable a b both in
    let ea : events_in c ≡ a = ap events_in s.3 ∙ events_in_back a sa in
    let eb : events_in (drop (length c) log) ≡ b = ap events_in (rest ∙ s.4) ∙ events_in_back b sb in
    let n : length g.es + length (e ∷ []) ≤ 262144 = few g.es (e ∷ []) log g.are room in
    let leads : LeadsLog (a ++ b) (term_of e) now 1 = record {
      in_term = ap last_term s.2 ∙ last-term kinds now log g ∙ lt ∙ sym of_t;
      is_term = subst (λ u. pos 0 ≤ℤ u) (sym of_t) low;
      stamps = subst (λ (x : List Event). last_stamp x ≤ℤ pos now) (sym s.2) (last-stamp kinds now log g);
      room = (let k = ap length s.2 in omega (arith, n, k));
    } in
    let ends : place log ≡ place_of (a ++ b) = ap place g.are ∙ sym (place-same g.es) ∙ ap place_of (sym s.2) in
    let view : IsAdmitted (tentative (module_of kinds a) b) (place_of (a ++ b)) e =
    subst (λ (x : List Event). IsAdmitted (tentative (module_of kinds x) b) (place_of (a ++ b)) e) ea
    (subst (λ (x : List Event). IsAdmitted (tentative (module_of kinds (events_in c)) x) (place_of (a ++ b)) e) eb
    (subst (λ (p : ℕ). IsAdmitted (tentative (module_of kinds (events_in c)) (events_in (drop (length c) log))) p e) ends ok)) in
    let follows : MayFollowLog kinds (a ++ b) e = admitted_follows kinds a b e now (subst (IsWellFormedLog kinds) (sym s.2) g.allowed) leads at view in
    good-push kinds now log g e fits (by (stamp_of e) at) (subst (λ (x : List Event). MayFollowLog kinds x e) s.2 follows) room
  where
    by : (s : ℤ) → s ≡ pos now → s ≤ℤ pos now
    by s e = omega (arith, ints, e)

take-front : (xs ys : List Event) → take (length xs) (xs ++ ys) ≡ xs
take-front [] ys = refl
take-front (x ∷ xs) ys = ap (λ (l : List Event). x ∷ l) (take-front xs ys)

drop-events : (xs ys : List Event) → drop (length xs) (xs ++ ys) ≡ ys
drop-events [] ys = refl
drop-events (x ∷ xs) ys = drop-events xs ys

-- what is due over a log's front is what is due over its first events
pub due-of-events : (kinds : List Kind) (now : ℕ) (log c : Log) (t : ℤ) (alive : List (ℤ × ℕ)) (since : ℕ) → Good kinds now log → Leads c log
    → due_in kinds (events_in c) (events_in (drop (length c) log)) alive t now since ≡ due_in kinds (take (length c) (events_in log)) (drop (length c) (events_in log)) alive t now since
due-of-events kinds now log c t alive since g lead =
    let q = is_prefix c log lead in
    let rest : drop (length c) log ≡ q.0 = ap (drop (length c)) (sym q.1) ∙ drop-front c q.0 in
    let s = split g.es c q.0 (q.1 ∙ g.are) in
    let a : List Event = s.0 in
    let b : List Event = s.1 in
    let both : AllByRecursion IsSpellable (a ++ b) = subst (AllByRecursion IsSpellable) (sym s.2) g.spellable in
    let ea : events_in c ≡ a = ap events_in s.3 ∙ events_in_back a (all_front IsSpellable a b both) in
    let eb : events_in (drop (length c) log) ≡ b = ap events_in (rest ∙ s.4) ∙ events_in_back b (all_back IsSpellable a b both) in
    let whole : events_in log ≡ a ++ b = ap events_in g.are ∙ events_in_back g.es g.spellable ∙ sym s.2 in
    let size : length c ≡ length a = ap length s.3 ∙ length-map a entry_of in
    let front : take (length c) (events_in log) ≡ a = ap (take (length c)) whole ∙ ap (λ (k : ℕ). take k (a ++ b)) size ∙ take-front a b in
    let back : drop (length c) (events_in log) ≡ b = ap (drop (length c)) whole ∙ ap (λ (k : ℕ). drop k (a ++ b)) size ∙ drop-events a b in
    ap (λ (x : List Event). due_in kinds x (events_in (drop (length c) log)) alive t now since) (ea ∙ sym front) ∙ ap (λ (x : List Event). due_in kinds (take (length c) (events_in log)) x alive t now since) (eb ∙ sym back)
