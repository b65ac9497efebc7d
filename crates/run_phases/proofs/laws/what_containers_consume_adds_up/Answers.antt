use Rattle.run_phases.proofs.Grown.{goes_twice, grew_rising}
use Rattle.run_phases.proofs.laws.what_containers_consume_adds_up.Goals as goal

pub returns-clause-twice : goal.returns-clause-twice
returns-clause-twice x c d e whole h k = goes_twice c d e whole h k

pub returns-clause-rises : goal.returns-clause-rises
returns-clause-rises x c d whole h = grew_rising c d h whole
