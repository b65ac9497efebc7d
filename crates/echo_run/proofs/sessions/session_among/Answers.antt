use Rattle.std.proofs.Common.{rules, tests, ◌∙◌}
use Rattle.std.proofs.lemmas.Iterator.{YieldsList-from_slice}
use Rattle.std.proofs.lemmas.Iterator.Search.{find_from_yields_List}
use Rattle.echo_run.specs.Module.{is_session}
use Rattle.echo_run.proofs.sessions.session_among.Goals as goal

pub returns : goal.returns
returns c = c.copied.ensures ∙ find_from_yields_List (is_session c.args.id) _ _ c.find.result c.find.ensures.ran (YieldsList-from_slice c.args.sessions.now cc) (λ x b q k. search (rules, tests))
