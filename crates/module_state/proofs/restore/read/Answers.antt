use Rattle.std.proofs.Common.{◌∙◌, ap, Err}
use Rattle.wire_prims.specs.declared.fault.DecodeFault.{DecodeFault}
use Rattle.module_state.proofs.FrontLaws.{read_ok}
use Rattle.module_state.proofs.restore.read.Goals as goal

pub returns-in-Ok : goal.returns-in-Ok
returns-in-Ok c = read_ok c.args.record.now c.in-Ok.piece c.in-Ok.ensures.spelled

pub returns-in-Bad : goal.returns-in-Bad
returns-in-Bad c = (c.decode_piece.ensures.bad c.in-Bad.bad).0 (c.in-Err.is ∙ ap (λ (e : DecodeFault). Err e) c.in-Bad.is)
