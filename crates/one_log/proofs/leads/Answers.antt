use Rattle.std.proofs.Common.{refl}
use Rattle.wire_prims.specs.Strict.{message}
use Rattle.wire_prims.specs.Fields.{le16, le32, le64, signed32, signed64}
use Rattle.entry_log.specs.Log.{end_after}
use Rattle.world.specs.World.{acts}
use Rattle.one_log.proofs.leads.Goals as goal
use Rattle.one_log.proofs.Ran.{is-asked, one-more}

pub returns-clause-elected : goal.returns-clause-elected
unfolding acts end_after message le16 le32 le64 signed32 signed64
returns-clause-elected c = refl

pub returns-clause-asked : goal.returns-clause-asked
returns-clause-asked c = is-asked

pub returns-clause-opens : goal.returns-clause-opens
returns-clause-opens c = one-more
