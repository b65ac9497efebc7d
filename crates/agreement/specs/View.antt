-- What the safety of committed prefixes speaks of: candidate terms, logs, votes, reigns, and who held what.
use Rattle.std.specs.Prelude.{◌≡◌, ◌≢◌, ◌⊎◌, ℕ, ℤ, ◌≤ℤ◌, ◌<ℤ◌, ◌<◌, Bool, true, false, List, [], Contains, length, take, ◌≤◌}
use Rattle.entry_log.specs.Log.{Log, last, place, better, IsPrefixOf, name_of}
use Rattle.entry_log.specs.Quorum.{is_quorum}
use Rattle.entry_log.specs.declared.name.LogName.{LogName}
use Rattle.election.specs.declared.member.State.TheVariants.{FollowerLogReplication}
use Rattle.log_replication.specs.Replication.{IsAnchored, kept}
use Rattle.entry_log.specs.Log.{IsWritten, Rises}
use Rattle.world.specs.World.{World, Raise, Reign, Holding, member, reign_in, holds_at}
use Rattle.consensus_core.specs.Member.{Sent}
use Rattle.world.specs.Said.{says, AnswerOf}
use Rattle.world.specs.Safe.{count_below}

pub record View : Type 0 where
  pub members : ℕ
  pub candidate : ℕ → ℤ
  pub log : ℕ → Log
  pub raises : List Raise
  pub reigns : List Reign
  pub reign : ℤ → Log  -- the log of the term's reign, as far as it was written
  pub holdings : List Holding

-- the member held this prefix in the term
abbrev pub Holds : View → ℕ → ℤ → Log → Type 0
Holds v m t xs = (log : Log) × Contains v.holdings (record { member = m; term = t; log = log }) × IsPrefixOf xs log

-- a quorum of which each member is so
abbrev pub Quorum : ℕ → (ℕ → Type 0) → Type 0
Quorum n P = (test : ℕ → Bool) × (is_quorum n (count_below n test) ≡ true) × ((k : ℕ) → test k ≡ true → P k)

abbrev pub IsCommitted : View → ℤ → Log → Type 0
IsCommitted v t xs = (last xs ≡ t) × (xs ≢ []) × Quorum v.members (λ k. Holds v k t xs)

-- it is committed, or may still come to be
abbrev pub IsOpen : View → ℤ → Log → Type 0
IsOpen v t xs = (last xs ≡ t) × (xs ≢ []) × Quorum v.members (λ k. Holds v k t xs ⊎ (v.candidate k ≤ℤ t))

-- settled for whoever has this candidate term
abbrev pub IsSettled : View → ℤ → Log → Type 0
IsSettled v c xs = (xs ≡ []) ⊎ ((t : ℤ) × (ys : Log) × (t ≤ℤ c) × IsCommitted v t ys × IsPrefixOf xs ys)

-- what the logs are made of
pub record IsGrounded (v : View) : Type 0 where
  pub written : (t : ℤ) → IsWritten (v.reign t)
  pub rises : (t : ℤ) → Rises (v.reign t)
  pub top : (t : ℤ) → v.reign t ≢ [] → last (v.reign t) ≤ℤ t
  pub reign_anchored : (t : ℤ) → IsAnchored v.reign (v.reign t)
  pub raise_low : (r : Raise) → Contains v.raises r → last r.log <ℤ r.term
  pub reigned : (t : ℤ) → v.reign t ≢ [] → (r : Reign) × Contains v.reigns r × (r.term ≡ t)
  pub first : (r : Reign) → Contains v.reigns r → IsPrefixOf r.first (v.reign r.term)
  pub before : (r : Reign) → Contains v.reigns r → last r.first <ℤ r.term
  pub anchored : (m : ℕ) → IsAnchored v.reign (v.log m)
  pub raise_anchored : (r : Raise) → Contains v.raises r → IsAnchored v.reign r.log
  pub first_anchored : (r : Reign) → Contains v.reigns r → IsAnchored v.reign r.first
  pub below : (r : Raise) → Contains v.raises r → r.term ≤ℤ v.candidate r.voter
  pub elected : (r : Reign) → Contains v.reigns r → Quorum v.members (λ k. (log : Log) × Contains v.raises (record { voter = k; term = r.term; choice = r.member; log = log }) × (better (last log) (place log) (last r.first) (place r.first) ≡ false))
  pub held : (h : Holding) → Contains v.holdings h → IsPrefixOf h.log (v.reign h.term)

-- what is open stays
pub record IsAgreed (v : View) : Type 0 where
  -- each later reign began with what is open
  pub firsts : (t : ℤ) (xs : Log) → IsOpen v t xs → (r : Reign) → Contains v.reigns r → t <ℤ r.term → IsPrefixOf xs r.first
  -- who held it has it
  pub logs : (t : ℤ) (xs : Log) (m : ℕ) → IsOpen v t xs → Holds v m t xs → IsPrefixOf xs (v.log m)
  -- and had it at each later raise for a vote
  pub votes : (t : ℤ) (xs : Log) (r : Raise) → IsOpen v t xs → Holds v r.voter t xs → Contains v.raises r → t <ℤ r.term → IsPrefixOf xs r.log

-- a step of the member m
pub record IsMove (m : ℕ) (v w : View) : Type 0 where
  pub members : w.members ≡ v.members
  pub candidates : (k : ℕ) → k ≢ m → w.candidate k ≡ v.candidate k
  pub logs : (k : ℕ) → k ≢ m → w.log k ≡ v.log k
  pub rises : v.candidate m ≤ℤ w.candidate m
  pub raises : (r : Raise) → Contains w.raises r → Contains v.raises r ⊎ ((r.voter ≡ m) × (v.candidate m <ℤ r.term) × (r.term ≤ℤ w.candidate m) × (r.log ≡ v.log m))
  pub holdings : (h : Holding) → Contains w.holdings h → Contains v.holdings h ⊎ ((h.member ≡ m) × (h.term ≡ w.candidate m) × (h.log ≡ w.log m))
  pub one_more : (r r' : Reign) → Contains w.reigns r → Contains w.reigns r' → Contains v.reigns r ⊎ (Contains v.reigns r' ⊎ (r ≡ r'))
  pub keeps : (t : ℤ) (xs : Log) → IsOpen v t xs → Holds v m t xs → IsPrefixOf xs (w.log m)

-- what a world shows of this
abbrev pub view_of : World → View
view_of w = record {
  members = length w.members;
  candidate = λ m. (member w m).durable.candidate;
  log = λ m. (member w m).durable.log;
  raises = w.raises;
  reigns = w.reigns;
  reign = reign_in w.written;
  holdings = w.holdings;
}

-- what a commit covers is settled, and who leads or follows has a part of the term's log
pub record CommitsHold (w : World) : Type 0 where
  -- the first commit entries of each member are settled for it
  pub settled : (m : ℕ) → IsSettled (view_of w) (member w m).durable.candidate (take (member w m).values.rest.commit (member w m).durable.log)
  pub within : (m : ℕ) → (member w m).values.rest.commit ≤ length (member w m).durable.log
  -- of two committed lists one is a prefix of the other
  pub one_line : (t u : ℤ) (xs ys : Log) → IsCommitted (view_of w) t xs → IsCommitted (view_of w) u ys → IsPrefixOf xs ys ⊎ IsPrefixOf ys xs
  -- who reigns or follows in a term has a prefix of its reign
  pub follows : (m : ℕ) → holds_at (member w m).values.election.state ≡ true → IsPrefixOf (member w m).durable.log (reign_in w.written (member w m).values.election.term)
  pub low : (m : ℕ) → last (member w m).durable.log ≤ℤ (member w m).durable.candidate

-- an answer that a member's log fits cuts nothing that the log has in common with a list committed in a term at most the answer's
abbrev pub CutsKeep : World → Type 0
CutsKeep w = (m : ℕ) (s : Sent) (t : ℤ) (asked keep : LogName) → m < length w.members → (member w m).up ≡ true
    → Contains w.sent s → says s.packet ≡ AnswerOf t asked keep
    → (member w m).values.election.state ≡ FollowerLogReplication → (member w m).values.election.term ≡ t → asked ≡ name_of (member w m).durable.log
    → (u : ℤ) (xs ys : Log) → u ≤ℤ t → IsCommitted (view_of w) u ys → IsPrefixOf xs ys → IsPrefixOf xs (member w m).durable.log
    → IsPrefixOf xs (kept keep.term keep.place (member w m).durable.log)
