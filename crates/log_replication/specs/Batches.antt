-- The longest batch behind the first entries of a log.
use Rattle.std.specs.Prelude.{◌≡◌, ℕ, ◌≤◌, true, ◌++◌, length, take, drop}
use Rattle.entry_log.specs.Batches.{is_batch}
use Rattle.entry_log.specs.Log.{IsPrefixOf, IsWritten, Log, place}
use Rattle.entry_log.specs.Shape.{Shape, end_of, shape_of}
use Rattle.log_replication.specs.Replication.{past}

-- the first n entries of those behind the first `from` are the longest batch
pub record IsLongestBatch (xs : Shape) (from n : ℕ) : Type 0 where
  pub within : n ≤ length (drop from xs)
  pub fits : is_batch (end_of (take from xs)) (take n (drop from xs)) ≡ true
  pub longest : (m : ℕ) → m ≤ length (drop from xs) → is_batch (end_of (take from xs)) (take m (drop from xs)) ≡ true → m ≤ n

-- A follower's log that is a prefix of a reign's and reaches the batch's start is one with the batch's new entries too,
-- where the reign's log has this shape and the batch is n entries behind its first `from`.
abbrev pub FollowsBatch : Shape → ℕ → ℕ → Type 0
FollowsBatch xs from n = (reign own : Log) → shape_of reign ≡ xs → IsWritten reign → IsPrefixOf own reign → place (take from reign) ≤ place own
    → IsPrefixOf (own ++ past (place (take from reign)) (place own) (take n (drop from reign))) reign
