-- Outputs of services.
use Rattle.std.specs.Prelude.{◌≡◌, List, ◌++◌}
use Rattle.service_api.specs.declared.output.Output.{Output}

-- these outputs stand at the front
abbrev pub BeginsWith : List Output → List Output → Type 0
BeginsWith front whole = (rest : List Output) × (whole ≡ front ++ rest)
