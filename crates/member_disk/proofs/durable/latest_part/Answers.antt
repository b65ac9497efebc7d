use Rattle.std.proofs.Common.{pos, get_or, arith, length, ◌-◌, sym, subst}
use Rattle.std.specs.Int.{w32}
use Rattle.std.proofs.lemmas.Int.{to_z-of_z}
use Rattle.recording_log.specs.declared.entry.SnapshotAt.{SnapshotAt}
use Rattle.recording_log.specs.Listed.{IsLastPart}
use Rattle.member_disk.specs.Changes.{IsMemberOf}
use Rattle.member_disk.proofs.Latest.{some_there, part_of_last, part_there}
use Rattle.member_disk.proofs.durable.latest_part.Goals as goal

abbrev zero_set : SnapshotAt
zero_set = record { recording = 0; term = pos 0; position = 0 }

pub overflow_sub-set : goal.overflow_sub-set
overflow_sub-set c = let some = some_there c.args.services c.args.recording.now c.args.sets.now c.requires.sets c.requires.some in omega (arith, some)

pub bounds-sets-sets : goal.bounds-sets-sets
bounds-sets-sets c = let some = some_there c.args.services c.args.recording.now c.args.sets.now c.requires.sets c.requires.some in omega (arith, some)

pub last_part-requires-clause-recording : goal.last_part-requires-clause-recording
last_part-requires-clause-recording c =
    let some = some_there c.args.services c.args.recording.now c.args.sets.now c.requires.sets c.requires.some in
    (c.requires.sets.each (length c.args.sets.now - 1) _ (omega (arith, some))).recording

pub last_part-requires-clause-position : goal.last_part-requires-clause-position
last_part-requires-clause-position c =
    let some = some_there c.args.services c.args.recording.now c.args.sets.now c.requires.sets c.requires.some in
    (c.requires.sets.each (length c.args.sets.now - 1) _ (omega (arith, some))).position

pub unreachable-requires : goal.unreachable-requires
unreachable-requires c =
    let some = some_there c.args.services c.args.recording.now c.args.sets.now c.requires.sets c.requires.some in
    let whole = (c.requires.sets.each (length c.args.sets.now - 1) _ (omega (arith, some))).whole in
    let member = subst (IsMemberOf c.args.services) (sym (to_z-of_z w32 c.args.service c.ranges.service)) c.requires.service in
    c.in-None.ensures (part_there c.args.services c.args.recording.now _ _ _ whole member)

pub returns : goal.returns
returns c =
    let some = some_there c.args.services c.args.recording.now c.args.sets.now c.requires.sets c.requires.some in
    let set = get_or c.args.sets.now (length c.args.sets.now - 1) zero_set in
    let part = subst (λ s. IsLastPart c.args.recording.now set.term (pos set.position) s c.in-Some.entry) (to_z-of_z w32 c.args.service c.ranges.service) c.in-Some.ensures in
    part_of_last c.args.services c.args.recording.now c.args.sets.now c.requires.sets c.args.service zero_set c.in-Some.entry some part
