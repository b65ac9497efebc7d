-- An entry that is a part, or none.
use Rattle.std.proofs.Common.{◌≡◌, true, sym, ◌∙◌, subst}
use Rattle.std.specs.BTreeSet.{Updates}
use Rattle.recording_log.specs.declared.parts.Part.{Part}
use Rattle.recording_log.specs.Valid.{is_snapshot}
use Rattle.recording_log.specs.Parts.{part_cmp}
use Rattle.recording_log.proofs.PartLemmas.{tells_more, tells_past}
use Rattle.recording_log.proofs.parts.Parts.take_in.Goals as goal

pub returns-in_ok-insert-clause-ok : goal.returns-in_ok-insert-clause-ok
returns-in_ok-insert-clause-ok c entries tells =
    let is : is_snapshot c.args.entry ≡ true = sym c.is_snapshot.ensures ∙ c.if-is_snapshot.true in
    let updates = subst (λ (k : Part). Updates part_cmp c.args.self.now.parts c.insert.new.self k true) c.part_of.ensures c.in_ok-insert.ensures.updates in
    tells_more c.args.self.now (record { parts = c.insert.new.self }) entries c.args.entry is tells updates

pub returns-else-is_snapshot-clause-ok : goal.returns-else-is_snapshot-clause-ok
returns-else-is_snapshot-clause-ok c entries tells =
    tells_past c.args.self.now entries c.args.entry (sym c.is_snapshot.ensures ∙ c.if-is_snapshot.false) tells
