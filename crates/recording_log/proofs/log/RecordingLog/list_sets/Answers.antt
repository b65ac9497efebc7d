use Rattle.std.proofs.Common.{List, [], length, ap, arith, sym, subst}
use Rattle.recording_log.specs.declared.entry.RecEntry.{RecEntry}
use Rattle.recording_log.specs.declared.entry.SnapshotAt.{SnapshotAt}
use Rattle.recording_log.specs.Listed.{HaveThese, Rise, AreSets}
use Rattle.recording_log.specs.Parts.{Tells}
use Rattle.recording_log.proofs.ListLemmas.{no_sets, no_rise, first_none, all_sets, item_there}
use Rattle.recording_log.proofs.log.RecordingLog.list_sets.Goals as goal

pub loop-entry-init : goal.loop-entry-init
loop-entry-init c =
    let none = c.clear.ensures.items in
    let entries = c.entries-entries.result.now in
    record {
      these = subst (λ (l : List SnapshotAt). HaveThese c.args.services entries 0 l) (sym none) (record { each = no_sets c.args.services entries; first = first_none c.args.services entries [] });
      rise = subst (λ (l : List SnapshotAt). Rise l) (sym none) no_rise;
      few = omega (arith, c.clear.ensures.len);
      room = let size = ap length c.entries-entries.ensures in omega (arith, c.clear.ensures.capacity, c.requires, size);
    }

pub loop-entry-preserved : goal.loop-entry-preserved
loop-entry-preserved c =
    let inv = c.loop-entry.invariant in
    let entries = c.entries-entries.result.now in
    let i = c.loop-entry.entry-index in
    let tells : Tells c.parts-parts.result.now entries = subst (λ (l : List RecEntry). Tells c.parts-parts.result.now l) (sym c.entries-entries.ensures) c.parts-parts.ensures in
    let done = c.take_set.ensures in
    record {
      these = done.taken entries i tells (item_there entries i c.loop-entry-test.true) inv.these;
      rise = done.rise;
      few = omega (arith, done.len);
      room = omega (arith, done.capacity);
    }

pub returns : goal.returns
returns c =
    let inv = c.loop-entry.invariant in
    let entries = c.entries-entries.result.now in
    subst (λ (l : List RecEntry). AreSets c.args.services l c.loop-entry.sets.items) c.entries-entries.ensures
    (record { each = inv.these.each; rise = inv.rise; all = all_sets c.args.services entries c.loop-entry.sets.items c.loop-entry.entry-index (omega arith) inv.these.first })
