-- The network between members: packets in flight, and the links from each member to each other.
use Rattle.std.specs.Prelude.{ℕ, ◌+◌, ◌-◌, ◌*◌, nat_lt, nat_le, Bool, false, not, ◌&&◌, ◌==◌, if◌then◌else◌, List, [], ◌∷◌, ◌++◌, length, drop, filter, replicate, slice_set, Option, Some, None}
use Rattle.std.specs.List.{slice_get}
use Rattle.sbe_consensus.specs.declared.packet.Outgoing.{Outgoing}

-- packets with their senders, in order of sending
abbrev pub Flight : Type 0
Flight = List (ℕ × Outgoing)

-- a link: whether its packets are dropped at delivery, and the latest that were sent on it, the latest last
pub record Way : Type 0 where
  pub cut : Bool
  pub kept : List (List ℕ)

-- what is in flight: what is left of the round that goes on, None between rounds, and what was sent since. The link
-- from A to B stands at A * members + B
pub record NetSeen : Type 0 where
  pub members : ℕ
  pub round : Option Flight
  pub later : Flight
  pub links : List Way

abbrev pub open_link : Way
open_link = record { cut = false; kept = [] }

abbrev pub with_cut : Bool → Way → Way
with_cut b w = record w { cut = b }

-- the latest 256 stay
abbrev pub kept_more : List ℕ → Way → Way
kept_more bytes w = record w { kept = (if nat_le 256 (length w.kept) then drop 1 w.kept else w.kept) ++ bytes ∷ [] }

-- the k-th latest of a list, 1 being the latest
abbrev pub kth_latest : ℕ → List (List ℕ) → Option (List ℕ)
kth_latest k xs = if nat_lt 0 k && nat_le k (length xs) then slice_get xs (length xs - k) else None

-- the k-th latest that is kept
abbrev pub latest_of : ℕ → Way → Option (List ℕ)
latest_of k w = kth_latest k w.kept

abbrev pub link_place : ℕ → ℕ → ℕ → ℕ
link_place members a b = a * members + b

-- the packets of a link that isn't there pass
abbrev pub is_cut : Option Way → Bool
is_cut None = false
is_cut (Some w) = w.cut

-- the packet is dropped at delivery
abbrev pub is_lost : ℕ → List Way → ℕ × Outgoing → Bool
is_lost members links p = is_cut (slice_get links (link_place members p.0 p.1.to))

-- the packets from the first on whose link is open
abbrev pub open_front : ℕ → List Way → Flight → Flight
open_front members links [] = []
open_front members links (p ∷ ps) = if is_lost members links p then open_front members links ps else p ∷ ps

abbrev pub is_between : ℕ → ℕ → ℕ × Outgoing → Bool
is_between a b p = (p.0 == a) && (p.1.to == b)

-- the packets from a to b are gone
abbrev pub without : ℕ → ℕ → Flight → Flight
without a b ps = filter (λ p. not (is_between a b p)) ps

abbrev pub changed : (Way → Way) → Option Way → ℕ → List Way → List Way
changed f None i links = links
changed f (Some w) i links = slice_set links i (f w)

-- the link from a to b changes
abbrev pub at_link : ℕ → ℕ → (Way → Way) → NetSeen → NetSeen
at_link a b f n = record n { links = changed f (slice_get n.links (link_place n.members a b)) (link_place n.members a b) n.links }

-- a packet is in flight behind all others
abbrev pub put : ℕ → Outgoing → NetSeen → NetSeen
put a o n = record n { later = n.later ++ (a, o) ∷ [] }

abbrev pub quiet_net : ℕ → NetSeen
quiet_net members = record { members = members; round = None; later = []; links = replicate (members * members) open_link }

-- a packet that is sent is in flight, and its link keeps it
abbrev pub sent : ℕ → Outgoing → NetSeen → NetSeen
sent a o n = put a o (at_link a o.to (kept_more o.bytes) n)

abbrev pub with_link_cut : Bool → ℕ → ℕ → NetSeen → NetSeen
with_link_cut b from to n = at_link from to (with_cut b) n

abbrev pub round_without : ℕ → ℕ → Option Flight → Option Flight
round_without a b None = None
round_without a b (Some ps) = Some (without a b ps)

-- what is in flight from a to b vanishes
abbrev pub lost_between : ℕ → ℕ → NetSeen → NetSeen
lost_between a b n = record n { round = round_without a b n.round; later = without a b n.later }

abbrev pub sent_again : ℕ → ℕ → Option (List ℕ) → NetSeen → NetSeen
sent_again a b None n = n
sent_again a b (Some bytes) n = put a (record { to = b; bytes = bytes }) n

abbrev pub latest_on : ℕ → Option Way → Option (List ℕ)
latest_on k None = None
latest_on k (Some w) = latest_of k w

-- the k-th latest that a sent to b is in flight again, and isn't kept once more
abbrev pub replayed : ℕ → ℕ → ℕ → NetSeen → NetSeen
replayed a b k n = sent_again a b (latest_on k (slice_get n.links (link_place n.members a b))) n

-- a round that begins has what is then in flight
abbrev pub in_round : Option Flight → Flight → Flight
in_round None later = later
in_round (Some ps) later = ps

abbrev pub since_round : Option Flight → Flight → Flight
since_round None later = []
since_round (Some ps) later = later

-- what the round that goes on, or that begins now, still hands on, but for cut links behind the first packet
abbrev pub coming : NetSeen → Flight
coming n = open_front n.members n.links (in_round n.round n.later)

abbrev pub first_of : Flight → Option (ℕ × Outgoing)
first_of [] = None
first_of (p ∷ ps) = Some p

-- the round goes on with what is behind the first packet, or has ended where there was none
abbrev pub left_behind : Flight → Option Flight
left_behind [] = None
left_behind (p ∷ ps) = Some ps

abbrev pub taken : NetSeen → NetSeen
taken n = record n { round = left_behind (coming n); later = since_round n.round n.later }

-- how it is kept: one queue for the round, which is empty between rounds
abbrev pub seen_of : ℕ → Bool → Flight → Flight → List Way → NetSeen
seen_of members going round later links = record {
  members = members;
  round = if going then Some round else None;
  later = later;
  links = links;
}
