use Rattle.std.proofs.Common.{arith}
use Rattle.sbe_local.proofs.CommandLaws.{found, only}
use Rattle.sbe_local.proofs.command.decode_command.Goals as goal

pub returns-clause-spelled : goal.returns-clause-spelled
returns-clause-spelled c = found c.args.bytes.now c.read_command.result (λ i. omega (arith, c.type_inv.bytes i)) c.read_command.ensures

pub returns-clause-only : goal.returns-clause-only
returns-clause-only c = only c.args.bytes.now c.read_command.result c.read_command.ensures
