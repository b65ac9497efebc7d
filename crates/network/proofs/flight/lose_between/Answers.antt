-- What `retain` keeps is what the test tells.
use Rattle.std.proofs.Common.{rules, tests, not}
use Rattle.std.proofs.lemmas.Fn.{filter_same}
use Rattle.network.specs.Net.{is_between}
use Rattle.network.proofs.flight.lose_between.Goals as goal

pub returns : goal.returns
returns c = filter_same _ (λ p. not (is_between c.args.from c.args.to p)) _ (λ x b f' k. search (rules, tests)) _ _ c.retain.ensures.filtered
