use Rattle.std.proofs.Common.{rules, FitsSigned, w64, ◌∙◌}
use Rattle.std.proofs.lemmas.Int.{to_z-of_z}
use Rattle.sbe_consensus.proofs.Parts.{event_there, event_term_at}
use Rattle.sbe_consensus.proofs.batch.entry_of.Goals as goal

pub returns : goal.returns
returns c =
    let fits : FitsSigned w64 c.term_of.result = search rules in
    let e = event_there c.args.bytes.now c.requires in
    (to_z-of_z w64 c.term_of.result fits ∙ c.term_of.ensures e.0 e.1 ∙ event_term_at c.args.bytes.now e.0 e.1, c.in_ok-copy.ensures)
