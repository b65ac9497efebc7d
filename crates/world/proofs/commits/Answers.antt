use Rattle.std.proofs.Common.{refl}
use Rattle.entry_log.specs.Log.{end_after}
use Rattle.wire_prims.specs.Strict.{message}
use Rattle.wire_prims.specs.Fields.{le16, le32, le64, signed32, signed64}
use Rattle.world.specs.World.{acts}
use Rattle.world.proofs.commits.Goals as goal

pub returns-clause-one : goal.returns-clause-one
unfolding acts end_after message le16 le32 le64 signed32 signed64
returns-clause-one c = refl

pub returns-clause-of_three : goal.returns-clause-of_three
unfolding acts end_after message le16 le32 le64 signed32 signed64
returns-clause-of_three c = refl
