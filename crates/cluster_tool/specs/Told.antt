-- What an answer leaves of a sink.
use Rattle.std.specs.Prelude.{◌≡◌, ℕ, ◌≤◌, Bool, IsTrue, List, ◌++◌}
use Rattle.cl_base.specs.Counts.{Rose}
use Rattle.line_text.specs.Written.{IsFront}
use Rattle.cluster_tool.specs.declared.status.ToolStatus.{ToolStatus}
use Rattle.cluster_tool.specs.declared.status.ToolStatus.TheVariants as status
use Rattle.cluster_tool.specs.Status.{IsOrGivesUp}

-- an answer that isn't meant but given where a sink fails
abbrev pub NoWriteFault : ToolStatus → Type 0
NoWriteFault status.WriteFault = ⊥
NoWriteFault _ = Unit {0}

-- An answer was meant, and its text told: the call ends so, or gives up. WriteFault comes only where the sink's count
-- rose. A sink that tells holds what it held and more: where the call ends as it was meant, all of the text.
pub record Told {O : Type 0} (tells : O → Bool) (held : O → List ℕ) (faults : O → ℕ) (old new : O) (meant : ToolStatus) (text : List ℕ) (given : ToolStatus) : Type 0 where
  pub answer : IsOrGivesUp given meant
  pub later : faults old ≤ faults new
  pub same : tells new ≡ tells old
  pub fault : given ≡ status.WriteFault → Rose (faults old) (faults new)
  pub whole : IsTrue (tells old) → given ≡ meant → held new ≡ held old ++ text
  pub more : IsTrue (tells old) → IsFront (held old) (held new)
