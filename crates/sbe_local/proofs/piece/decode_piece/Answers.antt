use Rattle.std.proofs.Common.{arith}
use Rattle.sbe_local.proofs.PieceLaws.{found, only}
use Rattle.sbe_local.proofs.piece.decode_piece.Goals as goal

pub returns-clause-spelled : goal.returns-clause-spelled
returns-clause-spelled c = found c.args.bytes.now c.read_piece.result (λ i. omega (arith, c.type_inv.bytes i)) c.read_piece.ensures

pub returns-clause-only : goal.returns-clause-only
returns-clause-only c = only c.args.bytes.now c.read_piece.result c.read_piece.ensures
