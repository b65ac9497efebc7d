-- What is safe in elections.
use Rattle.std.specs.Prelude.{◌≡◌, ℕ, zero, suc, ℤ, ◌≤ℤ◌, Bool, true, false, ◌+◌, Some, Contains, if◌then◌else◌}
use Rattle.entry_log.specs.Log.{Log, name_of, better, last, place}
use Rattle.entry_log.specs.Quorum.{is_quorum}
use Rattle.entry_log.specs.declared.name.LogName.{LogName}
use Rattle.consensus_core.specs.Fit.{has_term}
use Rattle.consensus_core.specs.Member.{Sent}
use Rattle.consensus_core.specs.Sendable.{sender_of}
use Rattle.world.specs.Said.{says, VoteOf, RequestOf}
use Rattle.world.specs.World.{World, Reign, member}

-- how many numbers below n pass
abbrev pub count_below : ℕ → (ℕ → Bool) → ℕ
count_below zero test = 0
count_below (suc n) test = count_below n test + (if test n then 1 else 0)

-- the member of this number raised its candidate term to c for a vote for k, with this log
abbrev pub Raised : World → ℕ → ℤ → ℕ → Log → Type 0
Raised w voter c k log = Contains w.raises (record { voter = voter; term = c; choice = k; log = log })

-- a quorum raised to c for a vote for k
abbrev pub Elected : World → ℕ → ℤ → ℕ → Type 0
Elected w n c k = (test : ℕ → Bool) × (is_quorum n (count_below n test) ≡ true) × ((v : ℕ) → test v ≡ true → (log : Log) × Raised w v c k log)

abbrev pub candidate_of : World → ℕ → ℤ
candidate_of w m = (member w m).durable.candidate

-- a member that leads or follows is in its candidate term
pub record TermsHold (w : World) : Type 0 where
  pub term : (m : ℕ) → has_term (member w m).values.election.state ≡ true → (member w m).values.election.term ≡ candidate_of w m

-- a member votes for one member a term, and the disk keeps the last vote
pub record VotesHold (w : World) : Type 0 where
  pub once : (v : ℕ) (c : ℤ) (k k' : ℕ) (log log' : Log) → Raised w v c k log → Raised w v c k' log' → k ≡ k'
  pub below : (v : ℕ) (c : ℤ) (k : ℕ) (log : Log) → Raised w v c k log → c ≤ℤ candidate_of w v
  pub kept : (v k : ℕ) (log : Log) → Raised w v (candidate_of w v) k log → (member w v).durable.voted ≡ Some k
  pub given : (s : Sent) (c : ℤ) (own : LogName) → Contains w.sent s → says s.packet ≡ VoteOf c true own → (log : Log) × Raised w (sender_of s.packet) c s.to log

-- who reigns was elected by a quorum, over logs that were not better than the one that each request named
pub record ReignsHold (n : ℕ) (w : World) : Type 0 where
  pub named : (s : Sent) (c : ℤ) (name : LogName) → Contains w.sent s → says s.packet ≡ RequestOf c name → (log : Log) × Raised w (sender_of s.packet) c (sender_of s.packet) log × (name ≡ name_of log)
  pub not_better : (v : ℕ) (c : ℤ) (k : ℕ) (log : Log) → Raised w v c k log → (first : Log) × Raised w k c k first × (better (last log) (place log) (last first) (place first) ≡ false)
  pub one_log : (k : ℕ) (c : ℤ) (log log' : Log) → Raised w k c k log → Raised w k c k log' → log ≡ log'
  pub elected : (r : Reign) → Contains w.reigns r → Elected w n r.term r.member
  pub first : (r : Reign) → Contains w.reigns r → Raised w r.member r.term r.member r.first
  pub one : (r r' : Reign) → Contains w.reigns r → Contains w.reigns r' → r.term ≡ r'.term → r ≡ r'
