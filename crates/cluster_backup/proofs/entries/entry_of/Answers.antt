use Rattle.std.proofs.Common.{rules, FitsSigned, w64, ap, ◌∙◌}
use Rattle.std.proofs.lemmas.Int.{to_z-of_z}
use Rattle.cluster_backup.proofs.Events.{some_event, term_read, made}
use Rattle.cluster_backup.proofs.entries.entry_of.Goals as goal

pub term_of-requires : goal.term_of-requires
term_of-requires c = some_event c.args.bytes.now c.requires

pub returns : goal.returns
returns c =
    let fits : FitsSigned w64 c.term_of.result = search rules in
    made _ _ c.args.bytes.now (to_z-of_z w64 c.term_of.result fits ∙ term_read c.args.bytes.now c.term_of.result c.requires c.term_of.ensures) c.in_ok-copy.ensures
