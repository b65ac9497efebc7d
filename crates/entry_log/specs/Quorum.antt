-- More than half of the members.
use Rattle.std.specs.Prelude.{ℕ, Bool, ◌+◌, ◌/◌, nat_le}

-- so many of the members are a quorum
abbrev pub is_quorum : ℕ → ℕ → Bool
is_quorum members count = nat_le (members / 2 + 1) count
