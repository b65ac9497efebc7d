use Rattle.std.proofs.Common.{sym}
use Rattle.wire_prims.specs.StrictLaws.{strict_none}
use Rattle.sbe_local.proofs.strict.strict.Goals as goal

pub returns-in-None-clause-sound : goal.returns-in-None-clause-sound
returns-in-None-clause-sound c = strict_none c.args.rules.now c.args.tail c.args.bytes.now (sym c.in-None.ensures)
