-- An outbox: what came out of a service, each output with the index of its entry.
use Rattle.std.specs.Prelude.{ℕ, ◌==◌, List, filter}
use Rattle.std.specs.List.Sorted.{IsNonDecreasingBy}
use Rattle.service_api.specs.declared.output.Output.{Output}

-- the index of an output's entry
abbrev pub index_of : ℕ × Output → ℕ
index_of o = o.0

-- the outputs stand in the order of their entries
abbrev pub IndicesRise : List (ℕ × Output) → Type 0
IndicesRise os = IsNonDecreasingBy index_of os

-- the outputs of the entry at an index
abbrev pub outputs_in : ℕ → List (ℕ × Output) → List (ℕ × Output)
outputs_in i os = filter (λ (o : ℕ × Output). o.0 == i) os
