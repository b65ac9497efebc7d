-- What each answer of a poll tells, of the poller before and after it.
use Rattle.std.specs.Prelude.{◌≡◌, ◌<◌, ◌≤◌, true, false, [], ◌∷◌, ◌++◌}
use Rattle.commit_counter.specs.declared.poller.Poll.{Poll}
use Rattle.commit_counter.specs.declared.poller.Poll.TheVariants.{Took, NotYet, Empty, Ended}
use Rattle.commit_counter.specs.Ends.{Polled, taken_to, HasEnded}

-- Took: the entry joins what was taken, at its index, which is below the commit seen in this call.
-- NotYet: nothing was due, and the end wasn't there.
-- Empty: something was due, and nothing was taken.
-- Ended: all was taken, and the end was there.
abbrev pub Answers : Polled → Poll → Polled → Type 0
Answers p (Took i e) q = (i ≡ taken_to p) × (i < q.seen) × (q.list ≡ p.list ++ e ∷ [])
Answers p (NotYet n) q = (n ≡ q.seen) × (q.list ≡ p.list) × (q.last ≡ false) × (taken_to q ≡ n)
Answers p (Empty n) q = (n ≡ q.seen) × (q.list ≡ p.list) × (taken_to q < n)
Answers p (Ended n) q = (n ≡ q.seen) × (q.list ≡ p.list) × HasEnded q

-- It is the same image. What is seen of the commit doesn't fall, and stays once the end was seen.
pub record GoesOn (p q : Polled) : Type 0 where
  pub name : q.name ≡ p.name
  pub start : q.start ≡ p.start
  pub rises : p.seen ≤ q.seen
  pub ends : p.last ≡ true → q.last ≡ true
  pub stays : p.last ≡ true → q.seen ≡ p.seen
