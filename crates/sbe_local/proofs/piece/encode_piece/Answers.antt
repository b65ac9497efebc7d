use Rattle.sbe_local.proofs.PieceLaws.{apart, prefix_free}
use Rattle.sbe_local.proofs.piece.encode_piece.Goals as goal

pub returns-clause-alone : goal.returns-clause-alone
returns-clause-alone c = λ other has is. apart other c.args.p.now has c.requires is

pub returns-clause-prefix_free : goal.returns-clause-prefix_free
returns-clause-prefix_free c = λ other rest has is. prefix_free c.args.p.now other rest c.requires has is
