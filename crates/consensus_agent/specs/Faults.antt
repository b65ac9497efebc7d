-- Why a call of a member was not done.
use Rattle.std.specs.Prelude.{ℕ, ◌≤◌, Result, IsErrOf}
use Rattle.cl_base.specs.Counts.{Rose}
use Rattle.cl_base.specs.declared.fault.MemberFault.{MemberFault}
use Rattle.cl_base.specs.declared.fault.MemberFault.TheVariants as disk
use Rattle.consensus_agent.specs.declared.fault.AgentFault.{AgentFault}
use Rattle.consensus_agent.specs.declared.fault.AgentFault.TheVariants as agent

-- what a member answers where a call of its disk was not done
abbrev pub answered : MemberFault → AgentFault
answered disk.Device = agent.Device
answered (disk.Damaged file place) = agent.Damaged file place
answered (disk.LogFull place) = agent.NoMemory
answered disk.NoMemory = agent.NoMemory

-- the disk's count of faults never falls, and Device is answered only where it rose
pub record HasCause {T : Type 0} (old new : ℕ) (result : Result T AgentFault) : Type 0 where
  pub later : old ≤ new
  pub device : IsErrOf result agent.Device → Rose old new

-- a fault that names no wrong byte
abbrev pub IsNoDamage : AgentFault → Type 0
IsNoDamage (agent.Damaged file place) = ⊥
IsNoDamage _ = Unit {0}
