-- The world of one member with the echo service: what orders and rounds make of it.
use Rattle.std.specs.Prelude.{ℕ, zero, suc, ◌+◌, ◌-◌, ℤ, pos, negsuc, Bool, true, false, ◌&&◌, nat_le, nat_lt, List, [], ◌∷◌, ◌++◌, take, drop, fold, length, slice_index, slice_set, replicate, Option, Some, None, if◌then◌else◌}
use Rattle.entry_log.specs.Log.{same_term}
use Rattle.election.specs.declared.member.State.{State}
use Rattle.election.specs.declared.member.State.TheVariants.{LeaderReady}
use Rattle.election.specs.declared.member.Election.{Election}
use Rattle.election.specs.Rows.{begins}
use Rattle.scenario.specs.declared.order.Order.{Order}
use Rattle.scenario.specs.declared.order.Order.TheVariants as order
use Rattle.sbe_events.specs.declared.event.Event.{Event}
use Rattle.sbe_events.specs.declared.event.Event.TheVariants as event
use Rattle.sbe_client.specs.declared.egress.Egress.{Egress}
use Rattle.sbe_client.specs.declared.egress.Egress.TheVariants as egress
use Rattle.echo_run.specs.LeaderRows.{Member, duty_of, appends}
use Rattle.sbe_events.specs.Spelling.{term_of}
use Rattle.echo_run.specs.Module.{place_of, module_of, module_after, session_of}
use Rattle.echo_run.specs.Owed.{owed}
use Rattle.echo_run.specs.declared.sent.Origin.TheVariants as origin
use Rattle.echo_run.specs.declared.module.Module.{Module}
use Rattle.echo_run.specs.declared.clients.Known.{Known}
use Rattle.echo_run.specs.declared.sent.Sent.{Sent}
use Rattle.echo_run.specs.declared.sent.Outcome.{Outcome}
use Rattle.echo_run.specs.declared.sent.Outcome.TheVariants as outcome
use Rattle.echo_run.specs.declared.sent.OrderLine.{OrderLine}

pub record World : Type 0 where
  pub now : ℕ  -- in ms
  pub member : Member
  pub inputs : List Event  -- what the service consumed
  pub printed : List Event  -- the longest log at which the member's commit stood
  pub sent : List Sent
  pub told : List OrderLine
  pub connects : List ℕ  -- how many connects each client has sent

-- a member on a formatted disk
abbrev pub first_member : Member
first_member = record { election = begins 0 1 (negsuc 0) None; log = []; commit = 0; own_end = 0; acked = []; last_heard = [] }

abbrev pub first_world : World
first_world = record { now = 0; member = first_member; inputs = []; printed = []; sent = []; told = []; connects = replicate 64 0 }

-- the member leads in the term of an entry
abbrev pub is_ready : State → Bool
is_ready LeaderReady = true
is_ready _ = false

abbrev pub leads_in : Election → ℤ → Bool
leads_in election term = is_ready election.state && same_term election.term term

-- what entry i owes, where the module was this before, if the member leads in its term
abbrev pub sent_at : Election → Module → ℕ → Event → List Sent
sent_at election m i e = if leads_in election (term_of e) then owed m i e else []

-- what entries owe of which the first is number i, where the module was this before, as far as the member leads in their terms
abbrev pub sent_from : Election → Module → ℕ → List Event → List Sent
sent_from election m i [] = []
sent_from election m i (e ∷ es) = sent_at election m i e ++ sent_from election (module_after m e) (suc i) es

-- the longest log at which a commit stood
abbrev pub longer : List Event → List Event → List Event
longer printed committed = if nat_lt (length printed) (length committed) then committed else printed

-- the member has changed
abbrev pub with_member : World → Member → World
with_member w m = record w { member = m }

-- the member has changed, and its commit stands where it does now
abbrev pub committed_world : World → Member → World
committed_world w m = record w { member = m; printed = longer w.printed (take m.commit m.log) }

-- A member's turn. No session is silent for 10,000 ms in the rounds that are run, so nothing is due.
abbrev pub turn : World → World
turn w = committed_world w (duty_of w.member [] w.now)

-- A phase: the service consumes what is committed and not consumed yet, and then what these entries owe is sent.
abbrev pub phase : World → World
phase w =
    let log = w.member.log in
    let from = length w.inputs in
    let entries = take (w.member.commit - from) (drop from log) in
    record w {
      inputs = w.inputs ++ entries;
      sent = w.sent ++ sent_from w.member.election (module_of (take from log)) from entries;
    }

-- a round: 10 ms pass, the member has its turn, and then its phase
abbrev pub round : World → World
round w = phase (turn (record w { now = w.now + 10 }))

abbrev pub rounds : ℕ → World → World
rounds zero w = w
rounds (suc n) w = rounds n (round w)

-- an entry that is offered is appended where the entries past the commit stay within the window and the log within its end
abbrev pub admitted : Member → Event → Outcome
admitted m e =
    let place = place_of (m.log ++ e ∷ []) in
    let waiting = place - place_of (take m.commit m.log) in
    if nat_lt 32768 waiting then outcome.BackPressure waiting else if nat_lt 16777216 place then outcome.LogFull place else outcome.Accepted (length m.log)

-- what becomes of a connect
abbrev pub connect_outcome : Member → Event → Outcome
connect_outcome m e =
    if is_ready m.election.state
    then (if nat_le 1024 (length (module_of m.log).sessions) then outcome.SessionLimit else admitted m e)
    else outcome.NotLeader m.election.leader

-- what becomes of a message of n bytes that names a term and a session
abbrev pub message_outcome : Member → ℤ → ℤ → ℕ → Event → Outcome
message_outcome m term session n e =
    if is_ready m.election.state
    then (if same_term term m.election.term
    then (elim (session_of (module_of m.log) session) [ None ↦ outcome.NoSession session | Some s ↦ if nat_lt 16384 n then outcome.TooLarge n else admitted m e ])
    else outcome.WrongTerm term)
    else outcome.NotLeader m.election.leader

-- an accepted entry is in the leader's log
abbrev pub taken : Member → Event → Outcome → Member
taken m e (outcome.Accepted i) = appends m e
taken m e _ = m

abbrev pub number_of : Option ℕ → ℤ
number_of None = negsuc 0
number_of (Some id) = pos id

-- the answer to a connect that was refused, owed by no entry
abbrev pub direct : ℕ → ℤ → Election → ℕ → Sent
direct client corr election code = record { stream = pos client; origin = origin.Direct; egress = egress.SessionEvent (negsuc 0) corr election.term (number_of election.leader) code }

abbrev pub answers : ℕ → ℤ → Election → Outcome → List Sent
answers client corr election (outcome.Accepted i) = []
answers client corr election (outcome.NotLeader leader) = direct client corr election 2 ∷ []
answers client corr election _ = direct client corr election 1 ∷ []

-- a client asks for a session
abbrev pub connects_to : ℕ → ℕ → World → World
connects_to line client w =
    let corr = pos (suc (slice_index w.connects client)) in
    let e = event.Opened w.member.election.term corr (module_of w.member.log).next_id (pos w.now) (pos client) [] in
    let given = connect_outcome w.member e in
    record w {
      member = taken w.member e given;
      sent = w.sent ++ answers client corr w.member.election given;
      told = w.told ++ record { line = line; outcome = given } ∷ [];
      connects = slice_set w.connects client (suc (slice_index w.connects client));
    }

-- an OK tells both, and the news of a leader the term
abbrev pub learns : Known → Egress → Known
learns k (egress.SessionEvent session corr term leader code) = if nat_le code 0 then record { term = term; session = session } else k
learns k (egress.NewLeader term session leader) = if same_term session k.session then record k { term = term } else k
learns k (egress.Message term session stamp payload) = k

abbrev pub learns_on : ℕ → Known → Sent → Known
learns_on client k s = if same_term s.stream (pos client) then learns k s.egress else k

abbrev pub known_by : ℕ → List Sent → Known
known_by client sent = fold (learns_on client) (record { term = negsuc 0; session = negsuc 0 }) sent

-- a client sends a message
abbrev pub sends : ℕ → ℕ → List ℕ → World → World
sends line client text w =
    let k = known_by client w.sent in
    let e = event.Message w.member.election.term k.session (pos w.now) text in
    let given = message_outcome w.member k.term k.session (length text) e in
    record w { member = taken w.member e given; told = w.told ++ record { line = line; outcome = given } ∷ [] }

-- one order
abbrev pub step : World → Order → World
step w (order.Rounds line n) = rounds n w
step w (order.Connect line client member) = connects_to line client w
step w (order.Send line client member text) = sends line client text w
step w _ = w

-- the world after a list of orders
abbrev pub world_after : List Order → World
world_after orders = fold step first_world orders
