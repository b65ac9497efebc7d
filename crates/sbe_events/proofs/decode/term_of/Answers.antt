use Rattle.std.proofs.Common.{rules, refl, sym, ◌∙◌, FitsSigned, w64}
use Rattle.std.proofs.lemmas.Int.{to_z-of_z}
use Rattle.sbe_events.specs.Spelling.{event_of}
use Rattle.sbe_events.specs.Laws.{event_long, event_term}
use Rattle.sbe_events.proofs.decode.term_of.Goals as goal

pub get_i64-requires : goal.get_i64-requires
get_i64-requires c = event_long c.args.bytes.now (event_of c.args.bytes.now) refl c.requires

pub returns : goal.returns
returns c = λ e is.
    let fits : FitsSigned w64 c.get_i64.result = search rules in
    to_z-of_z w64 c.get_i64.result fits ∙ c.get_i64.ensures ∙ sym (event_term c.args.bytes.now e is).1
