-- A member that a call failed under.
use Rattle.std.specs.Prelude.{⊤, Result, Ok, Err}
use Rattle.consensus_agent.specs.declared.fault.AgentFault.{AgentFault}
use Rattle.consensus_agent.specs.declared.fault.AgentFault.TheVariants as fault
use Rattle.run_orders.specs.Stands.{UpSeen}
use Rattle.run_seats.specs.declared.stopped.Failed.{Failed}

-- it was not memory that was wanted
abbrev pub NotMemory : AgentFault → Type 0
NotMemory fault.NoMemory = ⊥
NotMemory _ = ⊤

-- a fact of a member whose disk failed under a call
abbrev pub IfFailed : {D T : Type 0} → Result T (Failed D) → (UpSeen D → Type 0) → Type 0
IfFailed (Ok x) P = ⊤
IfFailed (Err f) P = NotMemory f.fault → P f.member.seen
