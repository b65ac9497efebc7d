use Rattle.std.proofs.Common.{arith, ap, ◌∙◌}
use Rattle.sbe_consensus.specs.Spelling.{parts_there, events_fault}
use Rattle.sbe_consensus.specs.Laws.{is_batch}
use Rattle.sbe_consensus.specs.declared.template.Template.TheVariants as templates
use Rattle.sbe_consensus.proofs.Cut.{sound_long}
use Rattle.sbe_consensus.proofs.batch.batch_at.Goals as goal

pub count_of-requires : goal.count_of-requires
count_of-requires c = sound_long templates.LogBatch c.args.bytes.now c.requires

pub entries_at-requires-clause-long : goal.entries_at-requires-clause-long
entries_at-requires-clause-long c = sound_long templates.LogBatch c.args.bytes.now c.requires

pub entries_at-requires-clause-there : goal.entries_at-requires-clause-there
entries_at-requires-clause-there c = ap (λ n. parts_there n 32 c.args.bytes.now) c.count_of.ensures ∙ (is_batch c.args.bytes.now c.requires.free).parts

pub entries_at-requires-clause-free : goal.entries_at-requires-clause-free
entries_at-requires-clause-free c = ap (λ n. events_fault n 32 c.args.bytes.now) c.count_of.ensures ∙ (is_batch c.args.bytes.now c.requires.free).events

pub get_i64-requires : goal.get_i64-requires
get_i64-requires c = omega (arith, sound_long templates.LogBatch c.args.bytes.now c.requires)

pub get_i64-requires-2 : goal.get_i64-requires-2
get_i64-requires-2 c = omega (arith, sound_long templates.LogBatch c.args.bytes.now c.requires)

pub get_i32-requires : goal.get_i32-requires
get_i32-requires c = omega (arith, sound_long templates.LogBatch c.args.bytes.now c.requires)
