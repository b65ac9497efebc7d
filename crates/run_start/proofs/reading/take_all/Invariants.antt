use Rattle.std.proofs.Common.{length, ◌-◌, ◌≡◌, ◌≤◌, ◌++◌, ℕ, IsTrue, List, Bool}
use Rattle.run_start.proofs.reading.take_all.Given as goal

-- what was read and what is left are what the source had
pub record Taken {I : Type 0} (tells : I → Bool) (left : I → List ℕ) (faults : I → ℕ) (old new : I) (bytes block : List ℕ) : Type 0 where
  pub within : length bytes ≤ 1048576
  pub room : length block ≡ 4096
  pub same : tells new ≡ tells old
  pub later : faults old ≤ faults new
  pub all : IsTrue (tells old) → bytes ++ left new ≡ left old

abbrev pub invariant-loop-n : goal.invariant-loop-n
invariant-loop-n g l = Taken g.I.Source.tells g.I.Source.left g.I.Source.fault_count l.initial.source l.source l.bytes.items l.block

abbrev pub decreases-loop-n : goal.decreases-loop-n
decreases-loop-n g l = 1048577 - length l.bytes.items
