use Rattle.scenario.proofs.LineLaws.{line_at, line_last}
use Rattle.scenario.proofs.lines.first_line.Goals as goal

pub returns-in-Some-clause-line : goal.returns-in-Some-clause-line
returns-in-Some-clause-line c =
    rw (c.without_return.ensures, c.around.ensures.before, c.around.ensures.behind) (line_at c.args.text.now c.in-Some.at c.in-Some.ensures.place)

pub returns-in-None-clause-line : goal.returns-in-None-clause-line
returns-in-None-clause-line c = line_last c.args.text.now c.in-None.ensures.place c.requires
