-- What is sent, with the entries read from the log, is what is spelled.
use Rattle.std.proofs.Common.{◌≡◌, ℕ, zero, suc, ◌+◌, ◌<◌, ◌≤◌, Bool, true, false, ◌&&◌, List, [], ◌∷◌, ◌++◌, length, take, drop, Option, Some, None, refl, sym, ap, ◌∙◌, subst, arith, if◌then◌else◌}
use Rattle.std.specs.Prelude.{⊤, map, not, nat_lt, nat_eq, is_none, slice_index_or}
use Rattle.std.proofs.lemmas.List.{drop-map, length-map}
use Rattle.entry_log.specs.Log.{Log}
use Rattle.entry_log.specs.Shape.{Shape, entry_shape, shape_of, end_of, ends_by}
use Rattle.entry_log.specs.Batches.{is_batch}
use Rattle.sbe_consensus.specs.Spelling.{spelling_of}
use Rattle.sbe_consensus.specs.declared.packet.Outgoing.{Outgoing}
use Rattle.consensus_core.specs.declared.plan.Plan.{Plan}
use Rattle.consensus_core.specs.declared.plan.Plan.TheVariants as plans
use Rattle.consensus_core.specs.declared.plan.Word.{Word}
use Rattle.consensus_core.specs.declared.plan.Word.TheVariants as words
use Rattle.consensus_core.specs.declared.sends.Send.{Send}
use Rattle.consensus_core.specs.declared.sends.Send.TheVariants.{Says, Hands}
use Rattle.consensus_core.specs.declared.values.Values.{Values}
use Rattle.consensus_core.specs.Reign.{greatest}
use Rattle.consensus_core.specs.Sends.{packet_of, batch_of, to_others, batch_count, batch_to, batches, announcement_to, announcements, beats, sends_of, ranges, spelled}
use Rattle.consensus_core.specs.Member.{said, speaks, spelled_packet, entries_in}
use Rattle.consensus_core.specs.OverLog.{SameSpelled}

-- each LogBatch's entries are there
Within : List Send → Log → Type 0
Within [] log = ⊤
Within (Says to w ∷ ss) log = Within ss log
Within (Hands to start from count ∷ ss) log = (count ≤ length (drop from log)) × Within ss log

within_append : (xs ys : List Send) (log : Log) → Within xs log → Within ys log → Within (xs ++ ys) log
unfolding Within
within_append [] ys log a b = b
within_append (Says to w ∷ ss) ys log a b = within_append ss ys log a b
within_append (Hands to start from count ∷ ss) ys log a b = (a.0, within_append ss ys log a.1 b)

take_front : (n : ℕ) (xs ys : Log) → n ≤ length xs → take n (take n xs ++ ys) ≡ take n xs
take_front zero xs ys h = refl
take_front (suc n) [] ys h = absurd (omega (arith, h))
take_front (suc n) (x ∷ xs) ys h = ap (λ (l : Log). x ∷ l) (take_front n xs ys (omega (arith, h)))

drop_front : (n : ℕ) (xs ys : Log) → n ≤ length xs → drop n (take n xs ++ ys) ≡ ys
drop_front zero xs ys h = refl
drop_front (suc n) [] ys h = absurd (omega (arith, h))
drop_front (suc n) (x ∷ xs) ys h = drop_front n xs ys (omega (arith, h))

said_spelled : (ss : List Send) (v : Values) (log : Log) → Within ss log → map spelled_packet (said ss v log) ≡ spelled ss v (shape_of log) (entries_in (ranges ss) log)
unfolding Within
said_spelled [] v log h = refl
said_spelled (Says to w ∷ ss) v log h = ap (λ (l : List Outgoing). record { to = to; bytes = spelling_of (packet_of w v (shape_of log)) } ∷ l) (said_spelled ss v log h)
said_spelled (Hands to start from count ∷ ss) v log h =
    let es : Log = take count (drop from log) ++ entries_in (ranges ss) log in
    let head : Log → Outgoing = λ (l : Log). record { to = to; bytes = spelling_of (batch_of v start l) } in
    ap (λ (l : List Outgoing). head (take count (drop from log)) ∷ l) (said_spelled ss v log h.1)
    ∙ ap (λ (l : Log). head l ∷ spelled ss v (shape_of log) (entries_in (ranges ss) log)) (sym (take_front count (drop from log) (entries_in (ranges ss) log) h.0))
    ∙ ap (λ (l : Log). head (take count es) ∷ spelled ss v (shape_of log) l) (sym (drop_front count (drop from log) (entries_in (ranges ss) log) h.0))

greatest_within : (test : ℕ → Bool) (n : ℕ) → greatest test n ≤ n
greatest_within test zero = omega arith
greatest_within test (suc n) = at (test (suc n)) (greatest_within test n)
  where
    at : (b : Bool) → greatest test n ≤ n → (if b then suc n else greatest test n) ≤ suc n
    at true h = omega arith
    at false h = omega (arith, h)

count_within : (from : ℕ) (log : Log) → batch_count from (shape_of log) ≤ length (drop from log)
count_within from log =
    let a = greatest_within (λ k. is_batch (end_of (take from (shape_of log))) (take k (drop from (shape_of log)))) (length (drop from (shape_of log))) in
    let same : length (drop from (shape_of log)) ≡ length (drop from log) = ap length (drop-map entry_shape from log) ∙ length-map (drop from log) entry_shape in
    subst (λ n. batch_count from (shape_of log) ≤ n) same a

batch_within : (k m : ℕ) (log : Log) (acked : Option ℕ) → Within (batch_to k m (shape_of log) acked) log
unfolding Within
batch_within k m log None = tt
batch_within k m log (Some p) = at (nat_lt p (end_of (shape_of log)) && not (nat_eq k m))
  where
    from : ℕ
    from = ends_by p (shape_of log)

    at : (b : Bool) → Within (if b then Hands k p (ends_by p (shape_of log)) (batch_count (ends_by p (shape_of log)) (shape_of log)) ∷ [] else []) log
    at true = (count_within (ends_by p (shape_of log)) log, tt)
    at false = tt

batches_within : (n m : ℕ) (log : Log) (acked : List (Option ℕ)) → Within (batches n m acked (shape_of log)) log
unfolding Within
batches_within zero m log acked = tt
batches_within (suc n) m log acked =
    within_append (batches n m acked (shape_of log)) (batch_to n m (shape_of log) (slice_index_or acked n None)) log (batches_within n m log acked) (batch_within n m log (slice_index_or acked n None))

others_within : (n m : ℕ) (w : Word) (log : Log) → Within (to_others n m w) log
unfolding Within
others_within zero m w log = tt
others_within (suc n) m w log = within_append (to_others n m w) (if nat_eq n m then [] else Says n w ∷ []) log (others_within n m w log) (at (nat_eq n m))
  where
    at : (b : Bool) → Within (if b then [] else Says n w ∷ []) log
    at true = tt
    at false = tt

announcements_within : (n m : ℕ) (acked : List (Option ℕ)) (log : Log) → Within (announcements n m acked) log
unfolding Within
announcements_within zero m acked log = tt
announcements_within (suc n) m acked log =
    within_append (announcements n m acked) (announcement_to n m (slice_index_or acked n None)) log (announcements_within n m acked log) (at (is_none (slice_index_or acked n None) && not (nat_eq n m)))
  where
    at : (b : Bool) → Within (if b then Says n words.Announcement ∷ [] else []) log
    at true = tt
    at false = tt

optional : (b : Bool) (ss : List Send) (log : Log) → Within ss log → Within (if b then ss else []) log
unfolding Within
optional true ss log h = h
optional false ss log h = tt

plan_within : (p : Plan) (v : Values) (log : Log) → Within (sends_of p v (shape_of log)) log
unfolding Within
plan_within plans.Silence v log = tt
plan_within (plans.All word) v log = others_within v.election.members v.election.id word log
plan_within (plans.One to word) v log = tt
plan_within (plans.Beat commit announce) v log =
    let n = v.election.members in
    let m = v.election.id in
    let others = to_others n m words.Commit in
    let news = announcements n m v.rest.acked in
    within_append (batches n m v.rest.acked (shape_of log)) ((if commit then others else []) ++ (if announce then news else [])) log
    (batches_within n m log v.rest.acked)
    (within_append (if commit then others else []) (if announce then news else []) log (optional commit others log (others_within n m words.Commit log)) (optional announce news log (announcements_within n m v.rest.acked log)))

pub same_spelled_law : SameSpelled
same_spelled_law plan v log = said_spelled (sends_of plan v (shape_of log)) v log (plan_within plan v log)
