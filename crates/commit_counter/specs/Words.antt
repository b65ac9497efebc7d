-- Word 0 is twice the published commit, and one more after the end. Word 1 is the service's position.
-- One seat at most publishes: it knows word 0, and what it found word 1 to be at least. One seat at most polls: it knows word 1, and what it saw of word 0 is no more than word 0 has, and all of it once it saw the end.
use Rattle.std.specs.Prelude.{◌≡◌, ℕ, ◌*◌, ◌/◌, ◌%◌, ◌≤◌, Bool, true, false, [], ◌∷◌}
use mathlib.Core.Option.{some}
use lib.ListN.{get_elem?}
use Rattle.atomic_table.specs.Table.{State, Me, Step}
use Rattle.commit_counter.specs.declared.words.Known.{Known}

-- a view, in the order of its fields
abbrev pub known : Bool → Bool → ℕ → ℕ → ℕ → ℕ → Known
known a b word seen position found = record { feeds = a; polls = b; word = word; seen = seen; position = position; found = found }

-- the view of the seat that both publishes and polls, as the image begins
abbrev pub first_of : ℕ → Known
first_of start = known true true (2 * start) (2 * start) start start

-- what the seat that publishes keeps of it
abbrev pub feeder_of : Known → Known
feeder_of v = known true false v.word 0 0 v.found

-- what the seat that polls keeps of it
abbrev pub poller_of : Known → Known
poller_of v = known false true 0 v.seen v.position 0

-- the view of both seats once they are one again
abbrev pub both_of : Known → Known → Known
both_of v u = known true true v.word u.seen u.position v.found

-- the view of a seat that neither publishes nor polls
abbrev pub nobody : Known
nobody = known false false 0 0 0 0

-- what a view says is true of the words, and each right is that of one seat
abbrev pub Fits : ℕ → ℕ → ℕ → ℕ → ℕ → Known → Type 0
Fits feeder poller word position seat v =
    (v.feeds ≡ true → (seat ≡ feeder) × (v.word ≡ word) × (v.found ≤ position))
    × (v.polls ≡ true → (seat ≡ poller) × (v.position ≡ position) × (position ≤ v.seen / 2) × (v.seen / 2 ≤ word / 2) × (v.seen % 2 ≡ 1 → v.seen ≡ word))

-- the rule of the two words: the position is within the published commit, and each view fits
abbrev pub Counted : State (Unit {0}) Known → Type 0
Counted s =
    (feeder : ℕ) × (poller : ℕ) × (word : ℕ) × (position : ℕ)
    × (s.words ≡ word ∷ position ∷ []) × (position ≤ word / 2)
    × ((seat : ℕ) (v : Known) → get_elem? s.views seat ≡ some v → Fits feeder poller word position seat v)

-- a seat as its owner sees it
abbrev pub Seat : Type 0
Seat = Me (Unit {0}) Known

-- the feeder stored word 0
abbrev pub Published : Step (Unit {0}) → Seat → ℕ → Seat → Type 0
Published st m r n = n ≡ (record m.0 { word = st.first }, m.1)

-- the poller loaded word 0: it never falls, and stays after the end
abbrev pub Looked : Step (Unit {0}) → Seat → ℕ → Seat → Type 0
Looked st m r n = (n ≡ (record m.0 { seen = r }, m.1)) × (m.0.seen / 2 ≤ r / 2) × (m.0.seen % 2 ≡ 1 → r ≡ m.0.seen)

-- the poller stored word 1
abbrev pub Moved : Step (Unit {0}) → Seat → ℕ → Seat → Type 0
Moved st m r n = n ≡ (record m.0 { position = st.first }, m.1)

-- the feeder loaded word 1: it is at most the published commit, and at least what was found before
abbrev pub Asked : Step (Unit {0}) → Seat → ℕ → Seat → Type 0
Asked st m r n = (n ≡ (record m.0 { found = r }, m.1)) × (r ≤ m.0.word / 2) × (m.0.found ≤ r)

-- who publishes and polls loaded word 0: no more was found than was taken
abbrev pub Settled : Step (Unit {0}) → Seat → ℕ → Seat → Type 0
Settled st m r n = (n ≡ m) × (r ≡ m.0.word) × (m.0.position ≤ m.0.seen / 2) × (m.0.seen / 2 ≤ r / 2) × (m.0.seen % 2 ≡ 1 → m.0.seen ≡ r) × (m.0.found ≤ m.0.position)
