-- What is wanted of a log lies within it, and what was read of it is what is wanted.
use Rattle.std.proofs.Common.{ℕ, zero, suc, ◌-◌, ◌<◌, ◌≤◌, Bool, true, false, ◌&&◌, List, [], ◌∷◌, ◌++◌, length, get_or, take, drop, Option, Some, None, arith, if◌then◌else◌, length-drop}
use Rattle.std.specs.Prelude.{not, nat_lt, nat_eq, is_none, slice_index_or}
use Rattle.entry_log.specs.Shape.{Shape, end_of, ends_by}
use Rattle.entry_log.specs.Batches.{is_batch}
use Rattle.consensus_core.specs.declared.plan.Plan.{Plan}
use Rattle.consensus_core.specs.declared.plan.Plan.TheVariants as plans
use Rattle.consensus_core.specs.declared.plan.Word.{Word}
use Rattle.consensus_core.specs.declared.plan.Word.TheVariants as words
use Rattle.consensus_core.specs.declared.sends.Send.{Send}
use Rattle.consensus_core.specs.declared.sends.Send.TheVariants.{Says, Hands}
use Rattle.consensus_core.specs.declared.values.Values.{Values}
use Rattle.consensus_core.specs.Fit.{Held}
use Rattle.consensus_core.specs.Reign.{greatest}
use Rattle.consensus_core.specs.Sends.{to_others, batch_count, batch_to, batches, announcement_to, announcements, sends_of, ranges}
use Rattle.consensus_core.specs.Whole.{wanted}
use Rattle.consensus_agent.specs.Reads.{AreWithin}

-- ---- what is wanted lies within the log

within_append : (xs ys : List Send) (n : ℕ) → AreWithin (ranges xs) n → AreWithin (ranges ys) n → AreWithin (ranges (xs ++ ys)) n
within_append [] ys n a b = b
within_append (Says to w ∷ ss) ys n a b = within_append ss ys n a b
within_append (Hands to start from count ∷ ss) ys n a b = (a.0, within_append ss ys n a.1 b)

greatest_within : (test : ℕ → Bool) (n : ℕ) → greatest test n ≤ n
greatest_within test zero = omega arith
greatest_within test (suc n) = at (test (suc n)) (greatest_within test n)
  where
    at : (b : Bool) → greatest test n ≤ n → (if b then suc n else greatest test n) ≤ suc n
    at true h = omega arith
    at false h = omega (arith, h)

count_within : (from : ℕ) (xs : Shape) → batch_count from xs ≤ length xs - from
count_within from xs =
    let a = greatest_within (λ k. is_batch (end_of (take from xs)) (take k (drop from xs))) (length (drop from xs)) in
    let many = length-drop from xs in
    omega (arith, a, many)

batch_within : (k m : ℕ) (xs : Shape) (acked : Option ℕ) → AreWithin (ranges (batch_to k m xs acked)) (length xs)
batch_within k m xs None = tt
batch_within k m xs (Some p) = at (nat_lt p (end_of xs) && not (nat_eq k m))
  where
    at : (b : Bool) → AreWithin (ranges (if b then Hands k p (ends_by p xs) (batch_count (ends_by p xs) xs) ∷ [] else [])) (length xs)
    at true = (count_within (ends_by p xs) xs, tt)
    at false = tt

batches_within : (n m : ℕ) (acked : List (Option ℕ)) (xs : Shape) → AreWithin (ranges (batches n m acked xs)) (length xs)
batches_within zero m acked xs = tt
batches_within (suc n) m acked xs = within_append (batches n m acked xs) (batch_to n m xs (slice_index_or acked n None)) (length xs) (batches_within n m acked xs) (batch_within n m xs (slice_index_or acked n None))

others_within : (n m : ℕ) (w : Word) (len : ℕ) → AreWithin (ranges (to_others n m w)) len
others_within zero m w len = tt
others_within (suc n) m w len = within_append (to_others n m w) (if nat_eq n m then [] else Says n w ∷ []) len (others_within n m w len) (at (nat_eq n m))
  where
    at : (b : Bool) → AreWithin (ranges (if b then [] else Says n w ∷ [])) len
    at true = tt
    at false = tt

announcements_within : (n m : ℕ) (acked : List (Option ℕ)) (len : ℕ) → AreWithin (ranges (announcements n m acked)) len
announcements_within zero m acked len = tt
announcements_within (suc n) m acked len =
    within_append (announcements n m acked) (announcement_to n m (slice_index_or acked n None)) len (announcements_within n m acked len) (at (is_none (slice_index_or acked n None) && not (nat_eq n m)))
  where
    at : (b : Bool) → AreWithin (ranges (if b then Says n words.Announcement ∷ [] else [])) len
    at true = tt
    at false = tt

optional : (b : Bool) (ss : List Send) (n : ℕ) → AreWithin (ranges ss) n → AreWithin (ranges (if b then ss else [])) n
optional true ss n h = h
optional false ss n h = tt

plan_within : (p : Plan) (v : Values) (xs : Shape) → AreWithin (ranges (sends_of p v xs)) (length xs)
plan_within plans.Silence v xs = tt
plan_within (plans.All word) v xs = others_within v.election.members v.election.id word (length xs)
plan_within (plans.One to word) v xs = tt
plan_within (plans.Beat commit announce) v xs =
    let n = v.election.members in
    let m = v.election.id in
    let others = to_others n m words.Commit in
    let news = announcements n m v.rest.acked in
    within_append (batches n m v.rest.acked xs) ((if commit then others else []) ++ (if announce then news else [])) (length xs)
    (batches_within n m v.rest.acked xs)
    (within_append (if commit then others else []) (if announce then news else []) (length xs) (optional commit others (length xs) (others_within n m words.Commit (length xs))) (optional announce news (length xs) (announcements_within n m v.rest.acked (length xs))))

pub wanted_within : (c : Held) (xs : Shape) → AreWithin (wanted c xs) (length xs)
wanted_within c xs = plan_within c.plan c.values xs

-- each of them does
pub within_at : (rs : List (ℕ × ℕ)) (n k : ℕ) (d : ℕ × ℕ) → AreWithin rs n → k < length rs → (get_or rs k d).1 ≤ n - (get_or rs k d).0
within_at [] n k d h less = absurd (omega (arith, less))
within_at (r ∷ rs) n zero d h less = h.0
within_at (r ∷ rs) n (suc k) d h less = within_at rs n k d h.1 (omega (arith, less))
