-- What is said of a log of events can be spelled, and is read as it was said.
use Rattle.std.proofs.Common.{◌≡◌, ℕ, zero, suc, ◌≤◌, Bool, true, false, ◌&&◌, List, [], ◌∷◌, ◌++◌, length, map, take, drop, Option, Some, None, refl, sym, ap, ◌∙◌, subst, arith, if◌then◌else◌}
use Rattle.std.specs.Prelude.{⊤, not, nat_lt, nat_eq, is_none, slice_index_or}
use Rattle.std.specs.List.{AllByRecursion}
use Rattle.std.proofs.lemmas.List.{drop-map, length-map}
use Rattle.cl_base.specs.declared.entry.Entry.{Entry}
use Rattle.entry_log.specs.Log.{Log}
use Rattle.entry_log.specs.Shape.{Shape, entry_shape, shape_of, end_of, ends_by}
use Rattle.entry_log.specs.Batches.{is_batch}
use Rattle.sbe_consensus.specs.Laws.{encoded}
use Rattle.sbe_consensus.specs.Spelling.{HasSpelling, AreEntries}
use Rattle.sbe_consensus.specs.declared.packet.Outgoing.{Outgoing}
use Rattle.sbe_consensus.specs.declared.packet.Packet.{Packet}
use Rattle.consensus_core.specs.Member.{Sent, said, speaks, entries_in, spelled_packet}
use Rattle.consensus_core.specs.Reign.{greatest}
use Rattle.consensus_core.specs.Sends.{batch_of, to_others, batch_count, batch_to, batches, announcement_to, announcements, sends_of, ranges, spelled, CanSpell, AreWanted}
use Rattle.consensus_core.specs.declared.plan.Plan.{Plan}
use Rattle.consensus_core.specs.declared.plan.Plan.TheVariants as plans
use Rattle.consensus_core.specs.declared.plan.Word.{Word}
use Rattle.consensus_core.specs.declared.plan.Word.TheVariants as words
use Rattle.consensus_core.specs.declared.sends.Send.{Send}
use Rattle.consensus_core.specs.declared.sends.Send.TheVariants.{Says, Hands}
use Rattle.consensus_core.specs.declared.values.Values.{Values}
use Rattle.consensus_core.proofs.Spoken.{IsSpoken, can_spell}
use Rattle.consensus_core.proofs.Speech.{same_spelled_law}
use Rattle.world_steps.specs.Fit.{Speaks, AreSpelled}
use Rattle.world_steps.specs.Members.{read_all, with_packet}

-- ---- the entries of a LogBatch are there

Within : List Send → Log → Type 0
Within [] log = ⊤
Within (Says to w ∷ ss) log = Within ss log
Within (Hands to start from count ∷ ss) log = (count ≤ length (drop from log)) × Within ss log

within_append : (xs ys : List Send) (log : Log) → Within xs log → Within ys log → Within (xs ++ ys) log
unfolding Within
within_append [] ys log a b = b
within_append (Says to w ∷ ss) ys log a b = within_append ss ys log a b
within_append (Hands to start from count ∷ ss) ys log a b = (a.0, within_append ss ys log a.1 b)

greatest_within : (test : ℕ → Bool) (n : ℕ) → greatest test n ≤ n
greatest_within test zero = omega arith
greatest_within test (suc n) = at (test (suc n)) (greatest_within test n)
  where
    at : (b : Bool) → greatest test n ≤ n → (if b then suc n else greatest test n) ≤ suc n
    at true h = omega arith
    at false h = omega (arith, h)

count_within : (from : ℕ) (log : Log) → batch_count from (shape_of log) ≤ length (drop from log)
count_within from log =
    let a = greatest_within (λ k. is_batch (end_of (take from (shape_of log))) (take k (drop from (shape_of log)))) (length (drop from (shape_of log))) in
    let same : length (drop from (shape_of log)) ≡ length (drop from log) = ap length (drop-map entry_shape from log) ∙ length-map (drop from log) entry_shape in
    subst (λ n. batch_count from (shape_of log) ≤ n) same a

batch_within : (k m : ℕ) (log : Log) (acked : Option ℕ) → Within (batch_to k m (shape_of log) acked) log
unfolding Within
batch_within k m log None = tt
batch_within k m log (Some p) = at (nat_lt p (end_of (shape_of log)) && not (nat_eq k m))
  where
    at : (b : Bool) → Within (if b then Hands k p (ends_by p (shape_of log)) (batch_count (ends_by p (shape_of log)) (shape_of log)) ∷ [] else []) log
    at true = (count_within (ends_by p (shape_of log)) log, tt)
    at false = tt

batches_within : (n m : ℕ) (log : Log) (acked : List (Option ℕ)) → Within (batches n m acked (shape_of log)) log
unfolding Within
batches_within zero m log acked = tt
batches_within (suc n) m log acked =
    within_append (batches n m acked (shape_of log)) (batch_to n m (shape_of log) (slice_index_or acked n None)) log (batches_within n m log acked) (batch_within n m log (slice_index_or acked n None))

others_within : (n m : ℕ) (w : Word) (log : Log) → Within (to_others n m w) log
unfolding Within
others_within zero m w log = tt
others_within (suc n) m w log = within_append (to_others n m w) (if nat_eq n m then [] else Says n w ∷ []) log (others_within n m w log) (at (nat_eq n m))
  where
    at : (b : Bool) → Within (if b then [] else Says n w ∷ []) log
    at true = tt
    at false = tt

announcements_within : (n m : ℕ) (acked : List (Option ℕ)) (log : Log) → Within (announcements n m acked) log
unfolding Within
announcements_within zero m acked log = tt
announcements_within (suc n) m acked log =
    within_append (announcements n m acked) (announcement_to n m (slice_index_or acked n None)) log (announcements_within n m acked log) (at (is_none (slice_index_or acked n None) && not (nat_eq n m)))
  where
    at : (b : Bool) → Within (if b then Says n words.Announcement ∷ [] else []) log
    at true = tt
    at false = tt

optional : (b : Bool) (ss : List Send) (log : Log) → Within ss log → Within (if b then ss else []) log
unfolding Within
optional true ss log h = h
optional false ss log h = tt

plan_within : (p : Plan) (v : Values) (log : Log) → Within (sends_of p v (shape_of log)) log
unfolding Within
plan_within plans.Silence v log = tt
plan_within (plans.All word) v log = others_within v.election.members v.election.id word log
plan_within (plans.One to word) v log = tt
plan_within (plans.Beat commit announce) v log =
    let n = v.election.members in
    let m = v.election.id in
    let others = to_others n m words.Commit in
    let news = announcements n m v.rest.acked in
    within_append (batches n m v.rest.acked (shape_of log)) ((if commit then others else []) ++ (if announce then news else [])) log
    (batches_within n m log v.rest.acked)
    (within_append (if commit then others else []) (if announce then news else []) log (optional commit others log (others_within n m words.Commit log)) (optional announce news log (announcements_within n m v.rest.acked log)))

-- ---- what is said of a log of events

take_front : (n : ℕ) (xs ys : Log) → n ≤ length xs → take n (take n xs ++ ys) ≡ take n xs
take_front zero xs ys h = refl
take_front (suc n) [] ys h = absurd (omega (arith, h))
take_front (suc n) (x ∷ xs) ys h = ap (λ (l : Log). x ∷ l) (take_front n xs ys (omega (arith, h)))

drop_front : (n : ℕ) (xs ys : Log) → n ≤ length xs → drop n (take n xs ++ ys) ≡ ys
drop_front zero xs ys h = refl
drop_front (suc n) [] ys h = absurd (omega (arith, h))
drop_front (suc n) (x ∷ xs) ys h = drop_front n xs ys (omega (arith, h))

front_long : (n : ℕ) (xs ys : Log) → n ≤ length xs → n ≤ length (take n xs ++ ys)
front_long zero xs ys h = omega arith
front_long (suc n) [] ys h = absurd (omega (arith, h))
front_long (suc n) (x ∷ xs) ys h = let z = front_long n xs ys (omega (arith, h)) in omega (arith, z)

take_entries : (k : ℕ) (es : Log) → AreEntries es → AreEntries (take k es)
take_entries zero es h = tt
take_entries (suc k) [] h = tt
take_entries (suc k) (x ∷ xs) h = (h.0, take_entries k xs h.1)

drop_entries : (k : ℕ) (es : Log) → AreEntries es → AreEntries (drop k es)
drop_entries zero es h = h
drop_entries (suc k) [] h = tt
drop_entries (suc k) (x ∷ xs) h = drop_entries k xs h.1

wanted : (ss : List Send) (log : Log) → Within ss log → AreEntries log → AreWanted ss (entries_in (ranges ss) log)
unfolding Within
wanted [] log w e = tt
wanted (Says to word ∷ ss) log w e = wanted ss log w e
wanted (Hands to start from count ∷ ss) log w e =
    let rest = entries_in (ranges ss) log in (
      front_long count (drop from log) rest w.0,
      subst AreEntries (sym (take_front count (drop from log) rest w.0)) (take_entries count (drop from log) (drop_entries from log e)),
      subst (AreWanted ss) (sym (drop_front count (drop from log) rest w.0)) (wanted ss log w.1 e),
    )

said_spelled : (ss : List Send) (v : Values) (log : Log) → Within ss log → CanSpell ss v (shape_of log) (entries_in (ranges ss) log) → AllByRecursion (λ (s : Sent). HasSpelling s.packet) (said ss v log)
unfolding Within
said_spelled [] v log w c = tt
said_spelled (Says to word ∷ ss) v log w c = (c.0, said_spelled ss v log w c.1)
said_spelled (Hands to start from count ∷ ss) v log w c =
    let rest = entries_in (ranges ss) log in (
      subst (λ (es : Log). HasSpelling (batch_of v start es)) (take_front count (drop from log) rest w.0) c.1,
      said_spelled ss v log w.1 (subst (λ (es : Log). CanSpell ss v (shape_of log) es) (drop_front count (drop from log) rest w.0) c.2),
    )

-- ---- what a member says

wanted-here : (p : Plan) (v : Values) (log : Log) → AreEntries log → AreWanted (sends_of p v (shape_of log)) (entries_in (ranges (sends_of p v (shape_of log))) log)
wanted-here p v log e = wanted (sends_of p v (shape_of log)) log (plan_within p v log) e

all-spelled : (p : Plan) (v : Values) (log : Log) → Speaks v p log → AllByRecursion (λ (s : Sent). HasSpelling s.packet) (speaks p v log)
all-spelled p v log s =
    let ss = sends_of p v (shape_of log) in
    let fits = s.runs.log_fits in
    let w = plan_within p v log in
    let spoken : IsSpoken (shape_of log) = record { place = fits.place; term = fits.term; rises = fits.rises } in
    said_spelled ss v log w (can_spell p v (shape_of log) (entries_in (ranges ss) log) s.sound.fit s.sound.plan spoken (wanted ss log w fits.entries))

are-spelled : (ps : List Sent) → AllByRecursion (λ (s : Sent). HasSpelling s.packet) ps → AreSpelled (map spelled_packet ps)
are-spelled [] h = tt
are-spelled (s ∷ ps) h = ((s.packet, h.0, refl), are-spelled ps h.1)

read-back : (ps : List Sent) → AllByRecursion (λ (s : Sent). HasSpelling s.packet) ps → read_all (map spelled_packet ps) ≡ ps
read-back [] h = refl
read-back (s ∷ ps) h =
    ap (λ (q : Option Packet). with_packet s.to q (read_all (map spelled_packet ps))) (encoded s.packet h.0)
    ∙ ap (λ (rest : List Sent). s ∷ rest) (read-back ps h.1)

-- the entries that are wanted of a log are there
pub wanted_for : (p : Plan) (v : Values) (log : Log) (xs : Shape) (es : List Entry) → xs ≡ shape_of log → es ≡ entries_in (ranges (sends_of p v xs)) log → AreEntries log → AreWanted (sends_of p v xs) es
wanted_for p v log xs es is these e =
    subst (AreWanted (sends_of p v xs)) (sym these) (subst (λ (z : Shape). AreWanted (sends_of p v z) (entries_in (ranges (sends_of p v z)) log)) (sym is) (wanted-here p v log e))

bytes-are : (p : Plan) (v : Values) (log : Log) (xs : Shape) (es : List Entry) (out : List Outgoing) → xs ≡ shape_of log → es ≡ entries_in (ranges (sends_of p v xs)) log → out ≡ spelled (sends_of p v xs) v xs es → out ≡ map spelled_packet (speaks p v log)
bytes-are p v log xs es out is these all =
    all
    ∙ ap (λ (ys : List Entry). spelled (sends_of p v xs) v xs ys) these
    ∙ ap (λ (z : Shape). spelled (sends_of p v z) v z (entries_in (ranges (sends_of p v z)) log)) is
    ∙ sym (same_spelled_law p v log)

-- the bytes that a member sends spell what it says
pub spelled_for : (p : Plan) (v : Values) (log : Log) (xs : Shape) (es : List Entry) (out : List Outgoing) → Speaks v p log → xs ≡ shape_of log → es ≡ entries_in (ranges (sends_of p v xs)) log → out ≡ spelled (sends_of p v xs) v xs es → AreSpelled out
spelled_for p v log xs es out s is these all = subst AreSpelled (sym (bytes-are p v log xs es out is these all)) (are-spelled (speaks p v log) (all-spelled p v log s))

pub read_for : (p : Plan) (v : Values) (log : Log) (xs : Shape) (es : List Entry) (out : List Outgoing) → Speaks v p log → xs ≡ shape_of log → es ≡ entries_in (ranges (sends_of p v xs)) log → out ≡ spelled (sends_of p v xs) v xs es → read_all out ≡ speaks p v log
read_for p v log xs es out s is these all = ap read_all (bytes-are p v log xs es out is these all) ∙ read-back (speaks p v log) (all-spelled p v log s)
