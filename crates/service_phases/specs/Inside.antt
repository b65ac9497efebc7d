-- What the fields of `Services` say, and the facts that tie them.
use Rattle.std.specs.Prelude.{◌+◌, ◌≤◌, map, vec_len, vec_capacity, length}
use Rattle.service_phases.specs.declared.services.Services.TheInside.{Inside}
use Rattle.service_phases.specs.Phases.{Lending, BeginsAt}
use Rattle.service_phases.specs.Pairs.{Each2}

abbrev pub lending_of : Inside → Lending
lending_of s = record { kept = s.kept.items; lent = map (λ x. x.value) s.lent.items; begun = map (λ x. x.value) s.begun.items }

-- there is room for what was lent, and each image began at its container
pub record IsServices (s : Inside) : Type 0 where
  pub room : vec_len s.kept + length s.lent.items ≤ vec_capacity s.kept
  pub begins : Each2 BeginsAt (lending_of s).lent (lending_of s).begun
