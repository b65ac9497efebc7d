-- Looking makes no moment.
use Rattle.std.proofs.Common.{arith}
use Rattle.std.proofs.lemmas.Grind.{common_steps}
use Rattle.cl_memdisk.proofs.TimeLemmas.{elapses_kept}
use Rattle.cl_memdisk.proofs.disk.MemDiskDisk.len.Goals as goal

pub returns-then-self-clause-time : goal.returns-then-self-clause-time
returns-then-self-clause-time c honest = elapses_kept c.args.self.now c.refuse.new.self (grind (arith, common_steps)) (grind (arith, common_steps))

pub returns-then-fails-clause-time : goal.returns-then-fails-clause-time
returns-then-fails-clause-time c honest = elapses_kept c.args.self.now c.break_down.new.self (grind (arith, common_steps)) (grind (arith, common_steps))

pub returns-clause-time : goal.returns-clause-time
returns-clause-time c honest = elapses_kept c.args.self.now c.next_fails-fails.new.self (grind (arith, common_steps)) (grind (arith, common_steps))
