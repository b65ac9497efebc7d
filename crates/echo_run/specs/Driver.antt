-- The world that a run is in, and what the values of a run keep of each other.
use Rattle.std.specs.Prelude.{◌≡◌, ℕ, ◌+◌, ◌≤◌, ◌<◌, ℤ, negsuc, ◌≤ℤ◌, List, [], ◌∷◌, take, length, All, ⊤}
use Rattle.election.specs.declared.member.State.{State}
use Rattle.election.specs.declared.member.State.TheVariants.{CandidateBallot, LeaderInit, LeaderReady}
use Rattle.election.specs.declared.member.Election.{Election}
use Rattle.sbe_events.specs.Spelling.{IsNumber, HasSpelling}
use Rattle.scenario.specs.declared.order.Order.{Order}
use Rattle.scenario.specs.declared.order.Order.TheVariants as order
use Rattle.echo_run.specs.Form.{rounds_in}
use Rattle.echo_run.specs.Module.{place_of, module_of}
use Rattle.echo_run.specs.LeaderRows.{Member, name_of}
use Rattle.echo_run.specs.World.{World}
use Rattle.sbe_client.specs.Spelling.{HasEgressSpelling}
use Rattle.echo_run.specs.declared.run.Run.{Run}
use Rattle.echo_run.specs.declared.sent.Sent.{Sent}

-- the member of a run
abbrev pub member_in : Run → Member
member_in r = record { election = r.election; log = r.log; commit = r.commit; own_end = r.own_end; acked = []; last_heard = [] }

-- the world that a run is in
abbrev pub world_of : Run → World
world_of r = record {
  now = r.clock;
  member = member_in r;
  inputs = take r.consumed r.log;
  printed = take r.commit r.log;
  sent = r.sent;
  told = r.told;
  connects = r.connects;
}

-- the term in which a member stands or leads is a number that an event may have
abbrev pub IsTermed : State → ℤ → ℤ → Type 0
IsTermed CandidateBallot candidate term = IsNumber candidate
IsTermed LeaderInit candidate term = IsNumber term
IsTermed LeaderReady candidate term = IsNumber term
IsTermed s candidate term = ⊤

-- the one member of its cluster, with terms in their ranges
pub record IsAlone (m : Election) : Type 0 where
  pub id : m.id ≡ 0
  pub members : m.members ≡ 1
  pub candidate : negsuc 0 ≤ℤ m.candidate
  pub term : IsTermed m.state m.candidate m.term

-- a record that can be written as bytes
abbrev pub IsWritable : Sent → Type 0
IsWritable s = HasEgressSpelling s.egress

-- what a run keeps beside its world's values: the log's name, where its commit ends, and the module before and after
pub record IsKept (r : Run) : Type 0 where
  pub election : IsAlone r.election
  pub commit : r.commit ≤ length r.log
  pub consumed : r.consumed ≤ r.commit
  pub spelled : All HasSpelling r.log
  pub name : r.name ≡ name_of r.log
  pub room : place_of r.log ≤ 16777216
  pub commit_place : r.commit_place ≡ place_of (take r.commit r.log)
  pub committed : r.committed ≡ module_of (take r.consumed r.log)
  pub tentative : r.tentative ≡ module_of r.log
  pub clients : length r.connects ≡ 64
  pub connects : All (λ n. n ≤ length r.told) r.connects
  pub records : All IsWritable r.sent

-- the client that an order names is one of 64
abbrev pub IsNamed : Order → Type 0
IsNamed (order.Connect line client member) = client < 64
IsNamed (order.Send line client member text) = client < 64
IsNamed _ = ⊤

-- the rounds of all orders
abbrev pub rounds_of : List Order → ℕ
rounds_of [] = 0
rounds_of (o ∷ orders) = rounds_in o + rounds_of orders
