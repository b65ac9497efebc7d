use Rattle.std.proofs.Common.{subst, map, string_bytes}
use Rattle.plan.specs.Words.{AsksWithin, plan_of}
use Rattle.plan.proofs.Within.{asks_within}
use Rattle.plan.proofs.words.plan_words.Goals as goal

pub returns-clause-made : goal.returns-clause-made
returns-clause-made c = λ n dir e. subst (λ p. AsksWithin p) (rw e at c.planned.ensures.plan) (asks_within (map string_bytes c.args.words.now))
