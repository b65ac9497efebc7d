-- When an entry is committed.
use Rattle.std.specs.Prelude.{◌≡◌, ℕ, ◌≤◌, Bool, true, ◌&&◌, List, length, max, fold, filter, count_by, nat_le, nat_lt, if◌then◌else◌}
use Rattle.entry_log.specs.Quorum.{is_quorum}

-- a quorum of these reports reach this place
abbrev pub is_reached : List ℕ → ℕ → Bool
is_reached reports q = is_quorum (length reports) (count_by (λ r. nat_le q r) reports)

-- the greatest number that a quorum of the reports reach
pub record IsQuorumPosition (reports : List ℕ) (q : ℕ) : Type 0 where
  pub reached : is_reached reports q ≡ true
  pub greatest : (p : ℕ) → is_reached reports p ≡ true → p ≤ q

-- the same as a function: the greatest of the reports that a quorum reach
abbrev pub quorum_position : List ℕ → ℕ
quorum_position reports = fold max 0 (filter (is_reached reports) reports)

-- the new commit, at a quorum position q: q where it reaches the end of the reign's own first entry and is above the commit
abbrev pub commit_after : ℕ → ℕ → ℕ → ℕ
commit_after commit own_end q = if nat_le own_end q && nat_lt commit q then q else commit
