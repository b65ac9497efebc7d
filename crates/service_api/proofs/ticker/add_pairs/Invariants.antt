use Rattle.std.proofs.Common.{◌≡◌, ◌++◌}
use Rattle.service_api.specs.Ticker.{spelled_pairs}
use Rattle.service_api.proofs.ticker.add_pairs.Given as goal

abbrev pub invariant-loop-pair : goal.invariant-loop-pair
invariant-loop-pair l = l.bytes.items ++ spelled_pairs l.pair-iterator ≡ l.initial.bytes.items ++ spelled_pairs l.ids.entries
