-- What is true of a run: who owes each record, which phase sent it, and in which term.
use Rattle.std.specs.Prelude.{◌≡◌, ℕ, zero, suc, ◌+◌, ◌-◌, ℤ, pos, negsuc, List, [], ◌∷◌, ◌++◌, take, drop, length, slice_get, All, AllPairs, Contains, Option, Some, None, ⊤}
use Rattle.election.specs.declared.member.State.TheVariants.{LeaderReady}
use Rattle.scenario.specs.declared.order.Order.{Order}
use Rattle.scenario.specs.declared.order.Order.TheVariants as order
use Rattle.sbe_events.specs.declared.event.Event.{Event}
use Rattle.sbe_events.specs.declared.event.Event.TheVariants as event
use Rattle.sbe_events.specs.Spelling.{term_of}
use Rattle.echo_run.specs.Module.{module_of}
use Rattle.echo_run.specs.Owed.{owed}
use Rattle.echo_run.specs.World.{World, first_world, turn, round, step, sent_from, world_after}
use Rattle.echo_run.specs.declared.sent.Origin.{Origin}
use Rattle.echo_run.specs.declared.sent.Origin.TheVariants as origin
use Rattle.echo_run.specs.declared.sent.Sent.{Sent}

-- the entry that owes a record; none owes the answer to a refused connect
abbrev pub entry_of : Origin → Option ℕ
entry_of (origin.Module i j) = Some i
entry_of (origin.Service i v j) = Some i
entry_of origin.Direct = None

-- entry i of the log is e, and among what e owes there is this record: the same egress on the same stream
abbrev pub IsOwed : List Event → Sent → Type 0
IsOwed log s = (i : ℕ) → entry_of s.origin ≡ Some i → (e : Event) × (slice_get log i ≡ Some e) × Contains (owed (module_of (take i log)) i e) s

-- two records have not the same entry, service (or the module) and number, unless no entry owes them
abbrev pub IsOther : Sent → Sent → Type 0
IsOther s t = s.origin ≡ t.origin → entry_of s.origin ≡ None

-- what the phase sends that begins in a world
abbrev pub phase_sends : World → List Sent
phase_sends w =
    let from = length w.inputs in
    sent_from w.member.election (module_of (take from w.member.log)) from (take (w.member.commit - from) (drop from w.member.log))

-- the worlds in which the phases of n rounds begin
abbrev pub phases_in : ℕ → World → List World
phases_in zero w = []
phases_in (suc n) w = turn (record w { now = w.now + 10 }) ∷ phases_in n (round w)

-- the worlds in which an order's phases begin
abbrev pub phases_at : World → Order → List World
phases_at w (order.Rounds line n) = phases_in n w
phases_at w _ = []

abbrev pub phases_from : World → List Order → List World
phases_from w [] = []
phases_from w (o ∷ orders) = phases_at w o ++ phases_from (step w o) orders

-- the worlds in which the phases of a run begin
abbrev pub phases_of : List Order → List World
phases_of orders = phases_from first_world orders

-- this phase sends the record, and the member is LEADER_READY in the term as it begins
pub record IsSentIn (v : World) (t : ℤ) (s : Sent) : Type 0 where
  pub sent : Contains (phase_sends v) s
  pub leads : v.member.election.state ≡ LeaderReady
  pub term : v.member.election.term ≡ t

-- one of these phases sends the record, in which the member leads in the term of the entry that owes it
abbrev pub IsSentByLeader : List World → List Event → Sent → Type 0
IsSentByLeader phases log s = (i : ℕ) → entry_of s.origin ≡ Some i → (e : Event) × (slice_get log i ≡ Some e) × ((v : World) × Contains phases v × IsSentIn v (term_of e) s)

-- a term, and who leads in it
pub record Reign : Type 0 where
  pub term : ℤ
  pub leader : ℤ

abbrev pub no_reign : Reign
no_reign = record { term = negsuc 0; leader = negsuc 0 }

-- a new term event begins a reign
abbrev pub reign_after : Reign → Event → Reign
reign_after r (event.Term term position stamp base leader) = record { term = term; leader = leader }
reign_after r _ = r

-- Each entry has the term of the last new term event up to it, and that event names this leader. The reign before is r.
abbrev pub IsLedBy : ℤ → Reign → List Event → Type 0
IsLedBy leader r [] = ⊤
IsLedBy leader r (e ∷ es) = (reign_after r e ≡ record { term = term_of e; leader = leader }) × IsLedBy leader (reign_after r e) es

-- What is true after each list of orders.
pub record Headline (orders : List Order) : Type 0 where
  -- the service has consumed a front of the printed log
  pub inputs : (world_after orders).inputs ≡ take (length (world_after orders).inputs) (world_after orders).printed
  -- what is sent for an entry is owed by that entry of the printed log
  pub owed : All (IsOwed (world_after orders).printed) (world_after orders).sent
  -- and it is sent once
  pub once : AllPairs IsOther (world_after orders).sent
  -- by the leader of the entry's term
  pub led : All (IsSentByLeader (phases_of orders) (world_after orders).printed) (world_after orders).sent
  -- whom the last new term event up to the entry names
  pub named : IsLedBy (pos 0) no_reign (world_after orders).printed
