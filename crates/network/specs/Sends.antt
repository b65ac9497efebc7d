-- What a link keeps, after any calls of the network.
use Rattle.std.specs.Prelude.{ℕ, zero, suc, ◌-◌, ◌<◌, ◌==◌, true, false, ◌&&◌, if◌then◌else◌, List, [], ◌∷◌, ◌++◌, length, drop, Option, ⊤}
use Rattle.std.specs.List.{AllByRecursion, slice_get}
use Rattle.sbe_consensus.specs.declared.packet.Outgoing.{Outgoing}
use Rattle.network.specs.Net.{NetSeen, Way, link_place, latest_on, sent, taken, with_link_cut, lost_between, replayed}

-- a call of the network
pub data Act : Type 0 where
  Sends : ℕ → Outgoing → Act
  Takes : Act
  Cuts : ℕ → ℕ → Act
  Heals : ℕ → ℕ → Act
  Loses : ℕ → ℕ → Act
  Replays : ℕ → ℕ → ℕ → Act

abbrev pub acted : NetSeen → Act → NetSeen
acted n (Sends a o) = sent a o n
acted n Takes = taken n
acted n (Cuts a b) = with_link_cut true a b n
acted n (Heals a b) = with_link_cut false a b n
acted n (Loses a b) = lost_between a b n
acted n (Replays a b k) = replayed a b k n

-- after these calls, in order
abbrev pub after_all : NetSeen → List Act → NetSeen
after_all n [] = n
after_all n (act ∷ acts) = after_all (acted n act) acts

abbrev pub sends_on : ℕ → ℕ → Act → List (List ℕ)
sends_on a b (Sends c o) = if (c == a) && (o.to == b) then o.bytes ∷ [] else []
sends_on a b _ = []

-- what a sent to b, in order: a packet that is sent again isn't one that a sent
abbrev pub sent_between : ℕ → ℕ → List Act → List (List ℕ)
sent_between a b [] = []
sent_between a b (act ∷ acts) = sends_on a b act ++ sent_between a b acts

-- the latest 256 of a list
abbrev pub latest : List (List ℕ) → List (List ℕ)
latest xs = drop (length xs - 256) xs

abbrev pub kept_at : List Way → ℕ → List (List ℕ)
kept_at [] i = []
kept_at (w ∷ ws) zero = w.kept
kept_at (w ∷ ws) (suc i) = kept_at ws i

-- what the link from a to b keeps
abbrev pub kept_on : NetSeen → ℕ → ℕ → List (List ℕ)
kept_on n a b = kept_at n.links (link_place n.members a b)

-- what the link from a to b has to be sent again
abbrev pub again_on : ℕ → NetSeen → ℕ → ℕ → Option (List ℕ)
again_on k n a b = latest_on k (slice_get n.links (link_place n.members a b))

-- packets are sent by members to members
abbrev pub IsAmong : ℕ → Act → Type 0
IsAmong members (Sends a o) = (a < members) × (o.to < members)
IsAmong members _ = ⊤

abbrev pub AreAmong : ℕ → List Act → Type 0
AreAmong members acts = AllByRecursion (IsAmong members) acts
