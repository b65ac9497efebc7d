-- What a member gives to a backup.
use Rattle.std.specs.Prelude.{ℕ, ◌^◌, ◌<◌, ℤ, List, length, IsSome}
use Rattle.sbe_events.specs.Spelling.{event_of}
use Rattle.sbe_consensus.specs.Spelling.{IsNumber}

-- the bytes spell an event
abbrev pub IsEvent : List ℕ → Type 0
IsEvent bytes = IsSome (event_of bytes)

-- a snapshot of this stamp and with these pieces can stand in a packet: the stamp is 0 to 2^62, and the pieces are fewer than 2^31
abbrev pub FitsPacket : ℤ → List (List ℕ) → Type 0
FitsPacket stamp pieces = IsNumber stamp × (length pieces < 2 ^ 31)
