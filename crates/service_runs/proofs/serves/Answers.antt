use Rattle.std.proofs.Common.{refl}
use Rattle.entry_log.specs.Log.{end_after}
use Rattle.wire_prims.specs.Strict.{message}
use Rattle.wire_prims.specs.Fields.{le16, le32, le64, signed32, signed64}
use Rattle.world.specs.World.{acts}
use Rattle.service_runs.proofs.serves.Goals as goal

pub returns-clause-sent : goal.returns-clause-sent
unfolding acts end_after message le16 le32 le64 signed32 signed64
returns-clause-sent c = refl

pub returns-clause-put : goal.returns-clause-put
unfolding acts end_after message le16 le32 le64 signed32 signed64
returns-clause-put c = refl

pub returns-clause-again : goal.returns-clause-again
unfolding acts end_after message le16 le32 le64 signed32 signed64
returns-clause-again c = refl

pub returns-clause-dropped : goal.returns-clause-dropped
unfolding acts end_after message le16 le32 le64 signed32 signed64
returns-clause-dropped c = refl

pub returns-clause-short : goal.returns-clause-short
unfolding acts end_after message le16 le32 le64 signed32 signed64
returns-clause-short c = refl

pub returns-clause-late : goal.returns-clause-late
unfolding acts end_after message le16 le32 le64 signed32 signed64
returns-clause-late c = refl

pub returns-clause-unsent : goal.returns-clause-unsent
unfolding acts end_after message le16 le32 le64 signed32 signed64
returns-clause-unsent c = refl

pub returns-clause-past : goal.returns-clause-past
unfolding acts end_after message le16 le32 le64 signed32 signed64
returns-clause-past c = refl

pub returns-clause-printed : goal.returns-clause-printed
unfolding acts end_after message le16 le32 le64 signed32 signed64
returns-clause-printed c = refl

pub returns-clause-over : goal.returns-clause-over
unfolding acts end_after message le16 le32 le64 signed32 signed64
returns-clause-over c = refl

pub returns-clause-stale : goal.returns-clause-stale
unfolding acts end_after message le16 le32 le64 signed32 signed64
returns-clause-stale c = refl

pub returns-clause-cut : goal.returns-clause-cut
unfolding acts end_after message le16 le32 le64 signed32 signed64
returns-clause-cut c = refl

pub returns-clause-goes_on : goal.returns-clause-goes_on
unfolding acts end_after message le16 le32 le64 signed32 signed64
returns-clause-goes_on c = refl

pub returns-clause-taken : goal.returns-clause-taken
unfolding acts end_after message le16 le32 le64 signed32 signed64
returns-clause-taken c = refl
