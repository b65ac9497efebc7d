use Rattle.std.proofs.Common.{◌≡◌, length, ◌++◌, Ok}
use Rattle.scenario.specs.Result.{◌>>=◌}
use Rattle.scenario.specs.Words.{hex_pairs}
use Rattle.scenario.proofs.hex.pairs_of.Given as goal

-- the bytes so far and those of the rest are those of all
abbrev pub invariant-loop-rest : goal.invariant-loop-rest
invariant-loop-rest l = (hex_pairs l.rest >>= λ others. Ok (l.bytes.items ++ others)) ≡ hex_pairs l.text

abbrev pub decreases-loop-rest : goal.decreases-loop-rest
decreases-loop-rest l = length l.rest
