-- How a call of the tool ends, and what is written then.
use Rattle.std.specs.Prelude.{◌≡◌, ◌⊎◌, ℕ, List, [], ◌++◌, codes, Result, Ok, Err}
use Rattle.cl_base.specs.declared.fault.Trouble.{Trouble}
use Rattle.cl_base.specs.declared.fault.Trouble.TheVariants as trouble
use Rattle.cl_base.specs.declared.fault.MemberFault.{MemberFault}
use Rattle.cl_base.specs.declared.fault.MemberFault.TheVariants as fault
use Rattle.line_text.specs.Pieces.{count}
use Rattle.cluster_tool.specs.declared.status.ToolStatus.{ToolStatus}
use Rattle.cluster_tool.specs.declared.status.ToolStatus.TheVariants as status

-- the exit status of the program
abbrev pub exit_code : ToolStatus → ℕ
exit_code status.Done = 0
exit_code status.Usage = 2
exit_code status.WriteFault = 8
exit_code (status.DiskFault disk) = 9
exit_code status.NoMemory = 10
exit_code (status.Damaged disk file place) = 11
exit_code (status.Old disk) = 12

-- what a refusal writes: one line. The others write nothing of their own.
abbrev pub status_text : ToolStatus → List ℕ
status_text status.Usage = codes "usage: clusterd run [--dir D] | check | make N [--dir D] | tool describe S DIR | tool recording-log DIR | tool verify DIR DIR\n"
status_text (status.Old disk) = count (codes "disk ") disk ++ codes ": version 1\n"
status_text (status.DiskFault disk) = count (codes "disk ") disk ++ codes ": fault\n"
status_text (status.Damaged disk file place) = count (codes "damaged ") disk ++ count (codes " ") file ++ count (codes " ") place ++ codes "\n"
status_text status.Done = []
status_text status.WriteFault = []
status_text status.NoMemory = []

-- what a fault of a disk's files means
abbrev pub status_of : ℕ → MemberFault → ToolStatus
status_of disk fault.Device = status.DiskFault disk
status_of disk (fault.Damaged file place) = status.Damaged disk file place
status_of disk fault.NoMemory = status.NoMemory
status_of disk (fault.LogFull place) = status.NoMemory

-- how a call ends that means this answer, by how the writing of its text went
abbrev pub ended : {T : Type 0} → ToolStatus → Result T Trouble → ToolStatus
ended meant (Ok t) = meant
ended meant (Err trouble.Failed) = status.WriteFault
ended meant (Err trouble.NoMemory) = status.NoMemory

-- the answer is this one, unless the sink failed under its text or no memory was there
abbrev pub IsOrGivesUp : ToolStatus → ToolStatus → Type 0
IsOrGivesUp given meant = (given ≡ meant) ⊎ ((given ≡ status.WriteFault) ⊎ (given ≡ status.NoMemory))

-- an answer whose text is one line
abbrev pub IsRefusal : ToolStatus → Type 0
IsRefusal status.Done = ⊥
IsRefusal status.WriteFault = ⊥
IsRefusal status.NoMemory = ⊥
IsRefusal _ = Unit {0}
