use Rattle.std.proofs.Common.{◌≡◌, ◌-◌, length}
use Rattle.joined_clients.specs.Joined.{hears}
use Rattle.joined_clients.proofs.joined.Joined.hear.Given as goal

-- the records that are left make of it what all make of it that weren't given
abbrev pub invariant-each : goal.invariant-each
invariant-each l = hears l.stream l.self ≡ hears l.stream l.initial.self

abbrev pub decreases-each : goal.decreases-each
decreases-each l = length l.stream - l.self.given
