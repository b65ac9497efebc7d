use Rattle.std.proofs.Common.{◌≡◌, subst}
use Rattle.entry_log.specs.Log.{Log}
use Rattle.cluster_tool.specs.declared.compare.Outcome.TheVariants as outcome
use Rattle.cluster_tool.specs.Compared.{compared_from}
use Rattle.cluster_tool.proofs.Equal.{equal_from, equal_to}
use Rattle.cluster_tool.proofs.laws.tells_equal_logs.Goals as goal

pub returns : goal.returns
returns c first second = (equal_from 0 first second, λ is. subst (λ (ys : Log). (compared_from 0 first ys).outcome ≡ outcome.Equal) is (equal_to 0 first))
