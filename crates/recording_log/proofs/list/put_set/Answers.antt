use Rattle.std.proofs.Common.{List, sym, subst}
use Rattle.recording_log.specs.declared.entry.SnapshotAt.{SnapshotAt}
use Rattle.recording_log.specs.Listed.{IsFound, IsPutIn}
use Rattle.recording_log.proofs.PutLemmas.{replaced, inserted}
use Rattle.recording_log.proofs.list.put_set.Goals as goal

pub returns-then-is_there-clause-put : goal.returns-then-is_there-clause-put
returns-then-is_there-clause-put c =
    let xs = c.args.sets.now.items in
    let at = c.find_place-place.result.0 in
    let found = subst (λ (l : List SnapshotAt). IsFound c.args.set l at c.find_place-place.result.1) c.deref.ensures.value c.find_place-place.ensures in
    let same = found.same c.if-is_there.true in
    replaced xs c.args.set at c.requires.rise found.place same.0 same.1

pub returns-clause-put : goal.returns-clause-put
returns-clause-put c =
    let xs = c.args.sets.now.items in
    let at = c.find_place-place.result.0 in
    let found = subst (λ (l : List SnapshotAt). IsFound c.args.set l at c.find_place-place.result.1) c.deref.ensures.value c.find_place-place.ensures in
    subst (λ (l : List SnapshotAt). IsPutIn c.args.set xs l) (sym c.in-Ok.ensures.items) (inserted xs c.args.set at c.requires.rise found.place (λ d within. found.other c.if-is_there.false d within))
