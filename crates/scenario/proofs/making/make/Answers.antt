use Rattle.std.proofs.Common.{rules, ◌≡◌, ap, ◌∙◌}
use Rattle.scenario.specs.Made.{made}
use Rattle.scenario.specs.Orders.{reading_of}
use Rattle.scenario.proofs.MadeAgain.{made_read}
use Rattle.scenario.proofs.making.make.Goals as goal

pub returns-clause-parses : goal.returns-clause-parses
unfolding made
returns-clause-parses c =
    let text : c.from_vec.result ≡ made c.args.n = search rules in
    ap reading_of text ∙ made_read c.args.n c.requires.high
