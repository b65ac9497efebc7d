-- What a leader answers to a Canvass, what a follower keeps on the answer, and what it appends of a batch.
use Rattle.std.specs.Prelude.{◌≡◌, ◌≢◌, ◌⊎◌, ℕ, ℤ, negsuc, ◌≤ℤ◌, ◌≤◌, true, ◌&&◌, [], ◌∷◌, length, take, nat_le, int_le, if◌then◌else◌, ⊤}
use Rattle.entry_log.specs.Log.{Log, end_after, place, last, IsPrefixOf, IsWritten, Rises}
use Rattle.entry_log.specs.Shape.{Shape, end_of, end_of_term, has_term, shape_of}

-- P13's sentence, over the shape of the leader's log: u is the greatest term at most f in it and e is that term's
-- end, or they are -1 and 0 where it has no such term.
pub record IsAnswer (xs : Shape) (f u : ℤ) (e : ℕ) : Type 0 where
  pub there : ((has_term u xs ≡ true) × (u ≤ℤ f) × (e ≡ end_of_term u xs)) ⊎ ((u ≡ negsuc 0) × (e ≡ 0))
  pub greatest : (t : ℤ) → has_term t xs ≡ true → t ≤ℤ f → t ≤ℤ u

-- each term is at most u
abbrev pub TermsWithin : ℤ → Shape → Type 0
TermsWithin u [] = ⊤
TermsWithin u (x ∷ xs) = (x.term ≤ℤ u) × TermsWithin u xs

-- P12's sentence, over the shape of the follower's log: its first n entries are the longest prefix whose terms are at
-- most u and whose place is at most e.
pub record IsKept (xs : Shape) (u : ℤ) (e n : ℕ) : Type 0 where
  pub within : n ≤ length xs
  pub terms : TermsWithin u (take n xs)
  pub ends : end_of (take n xs) ≤ e
  pub longest : (m : ℕ) → m ≤ length xs → TermsWithin u (take m xs) → end_of (take m xs) ≤ e → m ≤ n

-- The same over whole logs, as functions. The longest prefix whose terms are at most u:
abbrev pub upto : ℤ → Log → Log
upto u [] = []
upto u (x ∷ xs) = if int_le x.term u then x ∷ upto u xs else []

-- the answer's u, of a log whose terms don't fall
abbrev pub answer_term : Log → ℤ → ℤ
answer_term log f = last (upto f log)

-- the answer's e
abbrev pub answer_end : Log → ℤ → ℕ
answer_end log f = place (upto f log)

-- the longest prefix whose terms are at most u and whose place is at most e, of a log that begins at p
abbrev pub kept_from : ℕ → ℤ → ℕ → Log → Log
kept_from p u e [] = []
kept_from p u e (x ∷ xs) =
    if int_le x.term u && nat_le (end_after p (length x.bytes)) e
    then x ∷ kept_from (end_after p (length x.bytes)) u e xs
    else []

-- what a follower keeps on the answer (u, e)
abbrev pub kept : ℤ → ℕ → Log → Log
kept u e log = kept_from 0 u e log

-- P16: the entries of a batch from p that end past this place
abbrev pub past : ℕ → ℕ → Log → Log
past p limit [] = []
past p limit (x ∷ xs) = if nat_le (end_after p (length x.bytes)) limit then past (end_after p (length x.bytes)) limit xs else x ∷ xs

-- each prefix of the log is a prefix of what the reign of its last term wrote
abbrev pub IsAnchored : (ℤ → Log) → Log → Type 0
IsAnchored reign log = (xs : Log) → IsPrefixOf xs log → xs ≢ [] → IsPrefixOf xs (reign (last xs))

-- u and e are what the leader's log answers to a Canvass of a follower with this log
pub record IsAnswered (own leader : Log) (u : ℤ) (e : ℕ) : Type 0 where
  pub own_written : IsWritten own
  pub own_rises : Rises own
  pub leader_written : IsWritten leader
  pub leader_rises : Rises leader
  pub term : u ≡ answer_term leader (last own)
  pub end : e ≡ answer_end leader (last own)

-- The first n entries have all that a follower's log of this shape has in common with its leader's, from the front.
abbrev pub KeepsCommon : Shape → ℤ → ℕ → ℕ → Type 0
KeepsCommon xs u e n = (own leader common : Log) → shape_of own ≡ xs → IsAnswered own leader u e → IsPrefixOf common own → IsPrefixOf common leader → IsPrefixOf common (take n own)

-- Where their last term is u, they have nothing else, if both logs go back to the same reigns.
abbrev pub KeepsNoMore : Shape → ℤ → ℕ → ℕ → Type 0
KeepsNoMore xs u e n = (reign : ℤ → Log) (own leader : Log) → shape_of own ≡ xs → IsAnswered own leader u e → ((t : ℤ) → IsWritten (reign t)) → IsAnchored reign own → IsAnchored reign leader → last (take n own) ≡ u → IsPrefixOf (take n own) leader
