use Rattle.std.proofs.Common.{length, ◌-◌, ◌≡◌, ◌≤◌, ◌++◌, ℕ, IsTrue, take, List, Bool}
use Rattle.line_text.proofs.stream.give.Given as goal

-- the front of the text up to here is written
pub record Written {O : Type 0} (tells : O → Bool) (held : O → List ℕ) (faults : O → ℕ) (old new : O) (text : List ℕ) (at : ℕ) : Type 0 where
  pub within : at ≤ length text
  pub same : tells new ≡ tells old
  pub later : faults old ≤ faults new
  pub front : IsTrue (tells old) → held new ≡ held old ++ take at text

abbrev pub invariant-loop-at : goal.invariant-loop-at
invariant-loop-at g l = Written g.O.Sink.tells g.O.Sink.held g.O.Sink.fault_count l.initial.sink l.sink l.text l.at

abbrev pub decreases-loop-at : goal.decreases-loop-at
decreases-loop-at g l = length l.text - l.at
