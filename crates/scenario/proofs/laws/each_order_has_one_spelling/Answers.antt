use Rattle.scenario.proofs.CanonicalLines.{line_text, small_in_range}
use Rattle.scenario.proofs.laws.each_order_has_one_spelling.Goals as goal

pub returns : goal.returns
returns c = λ n m line o le e within. line_text n line o e (small_in_range m o le within)
