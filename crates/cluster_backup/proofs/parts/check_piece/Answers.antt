use Rattle.std.proofs.Common.{Ok, Err, refl}
use Rattle.sbe_local.specs.Pieces.{first_fault_piece}
use Rattle.cluster_backup.proofs.PartLists.{free_from, fault_from}
use Rattle.cluster_backup.proofs.parts.check_piece.Goals as goal

pub returns-in-Ok-clause-free : goal.returns-in-Ok-clause-free
returns-in-Ok-clause-free c = free_from (first_fault_piece c.args.bytes.now) (Ok c.in-Ok._piece) c.in-Ok._piece c.in-Ok.ensures.bad refl

pub returns-in-Err-clause-fault : goal.returns-in-Err-clause-fault
returns-in-Err-clause-fault c = fault_from (first_fault_piece c.args.bytes.now) (Err c.in-Err.fault) c.in-Err.fault c.in-Err.ensures.bad refl
