use Rattle.std.proofs.Common.{◌∙◌}
use Rattle.snapshot_store.proofs.Pieces.{front_number}
use Rattle.snapshot_store.proofs.file.read_length.Goals as goal

pub returns-in-Ok-clause-gives : goal.returns-in-Ok-clause-gives
returns-in-Ok-clause-gives g c told =
    let read = c.in-Ok.ensures.gives told in
    (c.number_of.ensures.spells ∙ read, c.number_of.ensures.value ∙ front_number c.args.at ((g.D.Disk.state c.args.disk.now).files c.args.file).reads c.read_all.new.buf read)
