-- How a call of the program ends, and what is written then.
use Rattle.std.specs.Prelude.{◌≡◌, ◌⊎◌, ℕ, ◌≤◌, Bool, IsTrue, List, [], ◌++◌, codes, Result, Ok, Err}
use Rattle.cl_base.specs.Counts.{Rose}
use Rattle.cl_base.specs.declared.fault.Trouble.{Trouble}
use Rattle.cl_base.specs.declared.fault.Trouble.TheVariants as trouble
use Rattle.scenario.specs.Causes.{cause_text}
use Rattle.line_text.specs.Pieces.{count}
use Rattle.line_text.specs.Written.{IsFront}
use Rattle.run_start.specs.declared.status.Status.{Status}
use Rattle.run_start.specs.declared.status.Status.TheVariants as status

-- the exit status of the program
abbrev pub exit_code : Status → ℕ
exit_code status.Done = 0
exit_code status.Usage = 2
exit_code (status.Refused line c) = 3
exit_code status.TooLong = 4
exit_code (status.FewDisks members disks) = 5
exit_code (status.Used member file) = 6
exit_code status.ReadFault = 7
exit_code status.WriteFault = 8
exit_code (status.DiskFault member) = 9
exit_code status.NoMemory = 10

-- what a refusal writes: one line. The others write nothing of their own.
abbrev pub status_text : Status → List ℕ
status_text status.Usage = codes "usage: clusterd run [--dir D] | check | make N [--dir D] | tool describe S DIR | tool recording-log DIR | tool verify DIR DIR\n"
status_text (status.Refused line c) = count (codes "refused line ") line ++ codes ": " ++ cause_text c ++ codes "\n"
status_text status.TooLong = codes "scenario longer than 1048576 bytes\n"
status_text (status.FewDisks members disks) = count (codes "members ") members ++ count (codes ", disks ") disks ++ codes "\n"
status_text (status.Used member file) = count (codes "disk ") member ++ count (codes ": file ") file ++ codes " is not empty\n"
status_text status.ReadFault = codes "read fault\n"
status_text (status.DiskFault member) = count (codes "disk ") member ++ codes ": fault\n"
status_text status.Done = []
status_text status.WriteFault = []
status_text status.NoMemory = []

-- how a call ends that means this answer, by how the writing of its text went
abbrev pub ended : {T : Type 0} → Status → Result T Trouble → Status
ended meant (Ok t) = meant
ended meant (Err trouble.Failed) = status.WriteFault
ended meant (Err trouble.NoMemory) = status.NoMemory

-- the answer is this one, unless the sink failed under its text or no memory was there
abbrev pub IsOrGivesUp : Status → Status → Type 0
IsOrGivesUp given meant = (given ≡ meant) ⊎ ((given ≡ status.WriteFault) ⊎ (given ≡ status.NoMemory))

-- an answer whose text is one line
abbrev pub IsRefusal : Status → Type 0
IsRefusal status.Done = ⊥
IsRefusal status.WriteFault = ⊥
IsRefusal status.NoMemory = ⊥
IsRefusal _ = Unit {0}

-- What a call that ends so leaves of a sink: WriteFault comes only where its count rose. Where it tells what it holds, that
-- is what it held and more: the one line of a refusal.
pub record Leaves {O : Type 0} (tells : O → Bool) (held : O → List ℕ) (faults : O → ℕ) (old new : O) (given : Status) : Type 0 where
  pub later : faults old ≤ faults new
  pub same : tells new ≡ tells old
  pub fault : given ≡ status.WriteFault → Rose (faults old) (faults new)
  pub refusal : IsTrue (tells old) → IsRefusal given → held new ≡ held old ++ status_text given
  pub more : IsTrue (tells old) → IsFront (held old) (held new)
