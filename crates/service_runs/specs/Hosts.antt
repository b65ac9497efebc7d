-- The runs of services in the world: what each consumed, the phases, the snapshots that a phase's end puts, the outputs sent and the printed log.
use Rattle.std.specs.Prelude.{ℕ, zero, suc, ℤ, pos, negsuc, Bool, true, false, ◌&&◌, ◌||◌, not, List, [], ◌∷◌, ◌++◌, length, take, drop, replicate, set, slice_get, slice_index_or, min, nat_eq, nat_lt, nat_le, if◌then◌else◌, Option, Some, None, ◌+◌, ◌*◌}
use Rattle.cl_base.specs.declared.entry.Entry.{Entry}
use Rattle.entry_log.specs.Durable.{SnapshotEntry}
use Rattle.entry_log.specs.Log.{same_term}
use Rattle.entry_log.specs.Log.{Log, place}
use Rattle.world.specs.World.{World, Step, Passes, Starts, Stops, Duty, Delivers, Client, Puts, Invalidates, step, member, is_running, formatted}
use Rattle.consensus_core.specs.Member.{Member, Run, Sent, Cut, is_ready, with_next}

-- what the services and the module of a cluster do, as functions of the log up to an entry and with it; seat 0 is the module, seat s + 1 the service s
pub record Rules : Type 0 where
  pub services : ℕ
  pub is_action : Entry → Bool
  pub stamp : Entry → ℤ
  pub owed : Log → ℕ → List (List ℕ)
  pub pieces : Log → ℕ → List (List ℕ)

-- the snapshot actions in a log
abbrev pub actions : Rules → Log → ℕ
actions r [] = 0
actions r (x ∷ xs) = (if r.is_action x then 1 else 0) + actions r xs

-- the service id of a seat, -1 for the module
abbrev pub service_of : ℕ → ℤ
service_of zero = negsuc 0
service_of (suc n) = pos n

-- the entry of a seat for the action x after a log
abbrev pub snap_of : Rules → Log → Entry → ℕ → SnapshotEntry
snap_of r before x seat = record {
  recording = 4 * actions r before + seat;
  service = service_of seat;
  term = x.term;
  position = place (before ++ x ∷ []);
  stamp = r.stamp x;
  pieces = r.pieces (before ++ x ∷ []) seat;
}

-- a snapshot entry that a phase's end puts, and the entries that it stands for
pub record Due : Type 0 where
  pub entries : ℕ
  pub snap : SnapshotEntry

abbrev pub due_for : Rules → Log → Entry → ℕ → Due
due_for r before x seat = record { entries = suc (length before); snap = snap_of r before x seat }

-- those of the services 1 to n, rising
abbrev pub services_due : Rules → Log → Entry → ℕ → List Due
services_due r before x zero = []
services_due r before x (suc n) = services_due r before x n ++ due_for r before x (suc n) ∷ []

-- the services' and then the module's
abbrev pub due_of : Rules → Log → Option Entry → List Due
due_of r before None = []
due_of r before (Some x) = if r.is_action x && nat_lt (actions r before) 256 then services_due r before x r.services ++ due_for r before x 0 ∷ [] else []

-- of the entries from this one on, below n
abbrev pub due_in : Rules → Log → ℕ → ℕ → List Due
due_in r log from zero = []
due_in r log from (suc n) = due_in r log from n ++ (if nat_le from n then due_of r (take n log) (slice_get log n) else [])

-- a record sent that has an entry
pub record Output : Type 0 where
  pub member : ℕ
  pub entry : ℕ
  pub seat : ℕ
  pub number : ℕ
  pub bytes : List ℕ

abbrev pub numbered : ℕ → ℕ → ℕ → ℕ → List (List ℕ) → List Output
numbered m n seat j [] = []
numbered m n seat j (b ∷ bs) = record { member = m; entry = n; seat = seat; number = j; bytes = b } ∷ numbered m n seat (suc j) bs

-- of the seats below q
abbrev pub by_seat : Rules → ℕ → Log → ℕ → ℕ → List Output
by_seat r m log n zero = []
by_seat r m log n (suc q) = by_seat r m log n q ++ numbered m n q 0 (r.owed (take (suc n) log) q)

abbrev pub of_term : Option ℤ → ℤ → Bool
of_term None t = false
of_term (Some u) t = same_term u t

-- what is owed by an entry of the term in which the member was LEADER_READY as the phase began
abbrev pub sent_at : Rules → ℕ → Option ℤ → Log → ℕ → Option Entry → List Output
sent_at r m role log n None = []
sent_at r m role log n (Some x) = if of_term role x.term then by_seat r m log n (suc r.services) else []

abbrev pub sent_in : Rules → ℕ → Option ℤ → Log → ℕ → ℕ → List Output
sent_in r m role log from zero = []
sent_in r m role log from (suc n) = sent_in r m role log from n ++ (if nat_le from n then sent_at r m role log n (slice_get log n) else [])

pub data Stage : Type 0 where
  Idle : Stage  -- no phase runs
  Taking : Stage
  Over : Stage  -- the log was cut, or the member became LEADER_READY
  Ending : (upto : ℕ) → (due : List Due) → Stage  -- what is still to be put

-- the queue of a service in a phase: its inputs as the phase began and all that was pushed since, and the commit published
pub record Feeding : Type 0 where
  pub fed : Log
  pub published : ℕ

pub record Host : Type 0 where
  pub run : Run
  pub applied : ℕ  -- the entries that the module applied
  pub role : Option ℤ  -- the term in which the member was LEADER_READY as the phase began
  pub stage : Stage
  pub feeds : List Feeding
  pub past : List Run

abbrev pub no_run : Run
no_run = record { first = 0; inputs = [] }

abbrev pub no_host : Host
no_host = record { run = no_run; applied = 0; role = None; stage = Idle; feeds = []; past = [] }

pub record Hosted : Type 0 where
  pub world : World
  pub hosts : ℕ → Host
  pub outputs : List Output
  pub printed : Log

-- a row cut the log, or the member became LEADER_READY
abbrev pub is_over : Member → Member → Bool
is_over x y = nat_lt (length y.durable.log) (length x.durable.log) || (is_ready y.values.election.state && not (is_ready x.values.election.state))

abbrev pub marked : Member → Member → Stage → Stage
marked x y Taking = if is_over x y then Over else Taking
marked x y s = s

-- P1's part: each service has the entries that the latest valid set stands for
abbrev pub begun : Rules → Member → List Run → Host
begun r y past = record {
  run = record { first = y.values.rest.commit; inputs = replicate r.services (take y.values.rest.commit y.durable.log) };
  applied = y.values.rest.commit;
  role = None;
  stage = Idle;
  feeds = [];
  past = past;
}

-- what a step of the member makes of its runs: a start begins them, a stop ends them with what they consumed
abbrev pub follow : Rules → Member → Member → Host → Host
follow r x y h =
    if y.up
    then (if x.up then record h { stage = marked x y h.stage } else begun r y h.past)
    else (if x.up then record no_host { past = h.past ++ h.run ∷ [] } else h)

abbrev pub longer : Log → Log → Log
longer xs ys = if nat_lt (length xs) (length ys) then ys else xs

-- the longest of these lists and of those at which the commits of the members below n stand
abbrev pub printed_by : ℕ → World → Log → Log
printed_by zero v printed = printed
printed_by (suc n) v printed = longer (printed_by n v printed) (take (member v n).values.rest.commit (member v n).durable.log)

-- the world after a step of its members
abbrev pub noted : Rules → Hosted → World → Hosted
noted r w v = record {
  world = v;
  hosts = λ m. follow r (member w.world m) (member v m) (w.hosts m);
  outputs = w.outputs;
  printed = printed_by (length v.members) v w.printed;
}

pub data Act : Type 0 where
  Rows : Step → Act
  Mounts : (member : ℕ) → Act  -- P1
  Drops : (member : ℕ) → Act  -- P22
  Opens : (member : ℕ) → Act  -- a phase begins
  Feeds : (member service count : ℕ) → Act  -- so many of the log's next entries are pushed, and the commit is published
  Takes : (member service : ℕ) → Act  -- P21
  Closes : (member : ℕ) → Act  -- its end begins
  Writes : (member : ℕ) → Cut → Act  -- its next put
  Sends : (member : ℕ) → Act  -- and at last its outputs

-- the rows that the driver takes of its own accord
abbrev pub is_row : Step → Bool
is_row (Passes now) = true
is_row (Stops m) = true
is_row (Duty m due cut) = true
is_row (Delivers which cut) = true
is_row (Client m event cut) = true
is_row (Starts m services) = false
is_row (Puts m k s cut) = false
is_row (Invalidates m services) = false

abbrev pub all_published : ℕ → List Feeding → Bool
all_published c [] = true
all_published c (z ∷ zs) = nat_eq z.published c && all_published c zs

-- before the member's next row each of its services may take up to the commit, and a phase that is over has ended
abbrev pub lets_rows : Member → Host → Stage → Bool
lets_rows x h Idle = true
lets_rows x h Taking = all_published x.values.rest.commit h.feeds
lets_rows x h Over = false
lets_rows x h (Ending upto due) = false

abbrev pub lets_at : Hosted → ℕ → Bool
lets_at w m = lets_rows (member w.world m) (w.hosts m) (w.hosts m).stage

abbrev pub lets_packet : Hosted → Option Sent → Bool
lets_packet w None = true
lets_packet w (Some s) = lets_at w s.to

abbrev pub is_free : Hosted → Step → Bool
is_free w (Duty m due cut) = lets_at w m
is_free w (Client m event cut) = lets_at w m
is_free w (Delivers which cut) = lets_packet w (slice_get w.world.sent which)
is_free w _ = true

abbrev pub with_host : Hosted → ℕ → Host → Hosted
with_host w m h = record { world = w.world; hosts = λ k. if nat_eq k m then h else w.hosts k; outputs = w.outputs; printed = w.printed }

abbrev pub is_idle : Stage → Bool
is_idle Idle = true
is_idle _ = false

abbrev pub is_taking : Stage → Bool
is_taking Taking = true
is_taking Over = true
is_taking _ = false

abbrev pub role_of : Member → Option ℤ
role_of x = if is_ready x.values.election.state then Some x.values.election.term else None

-- each queue begins at what its service consumed
abbrev pub opened : List Log → List Feeding
opened [] = []
opened (xs ∷ rest) = record { fed = xs; published = length xs } ∷ opened rest

abbrev pub opens : Hosted → ℕ → Hosted
opens w m =
    if is_running w.world m && is_idle (w.hosts m).stage
    then with_host w m (record { run = (w.hosts m).run; applied = (w.hosts m).applied; role = role_of (member w.world m); stage = Taking; feeds = opened (w.hosts m).run.inputs; past = (w.hosts m).past })
    else w

abbrev pub input : Host → ℕ → Log
input h k = slice_index_or h.run.inputs k []

abbrev pub no_feed : Feeding
no_feed = record { fed = []; published = 0 }

abbrev pub feed_of : Host → ℕ → Feeding
feed_of h k = slice_index_or h.feeds k no_feed

-- with so many of the log's next entries
abbrev pub pushed : ℕ → Log → Log → Log
pushed n xs log = xs ++ take n (drop (length xs) log)

abbrev pub fed_more : ℕ → Feeding → Member → Feeding
fed_more n z x = record { fed = pushed n z.fed x.durable.log; published = min x.values.rest.commit (length (pushed n z.fed x.durable.log)) }

abbrev pub is_feeding : Stage → Bool
is_feeding Taking = true
is_feeding _ = false

-- while the phase isn't over
abbrev pub feeds : Hosted → ℕ → ℕ → ℕ → Hosted
feeds w m k n =
    let h = w.hosts m in
    if is_running w.world m && is_feeding h.stage
    then with_host w m (record { run = h.run; applied = h.applied; role = h.role; stage = h.stage; feeds = set h.feeds k (fed_more n (feed_of h k) (member w.world m)); past = h.past })
    else w

-- the next entry of the service's queue, below what was published
abbrev pub takes : Rules → Hosted → ℕ → ℕ → Hosted
takes r w m k =
    let h = w.hosts m in
    if is_running w.world m && (is_taking h.stage && (nat_lt k r.services && nat_lt (length (input h k)) (feed_of h k).published))
    then with_host w m (record { run = record { first = h.run.first; inputs = set h.run.inputs k (with_next (input h k) (feed_of h k).fed) }; applied = h.applied; role = h.role; stage = h.stage; feeds = h.feeds; past = h.past })
    else w

abbrev pub all_reach : ℕ → List Log → Bool
all_reach c [] = true
all_reach c (xs ∷ rest) = nat_eq (length xs) c && all_reach c rest

-- each service consumed up to the commit
abbrev pub closes : Rules → Hosted → ℕ → Hosted
closes r w m =
    let h = w.hosts m in
    let x = member w.world m in
    if is_running w.world m && (is_taking h.stage && all_reach x.values.rest.commit h.run.inputs)
    then with_host w m (record { run = h.run; applied = h.applied; role = h.role; stage = Ending x.values.rest.commit (due_in r x.durable.log h.applied x.values.rest.commit); feeds = h.feeds; past = h.past })
    else w

abbrev pub writes : Rules → Hosted → ℕ → Stage → Cut → Hosted
writes r w m (Ending upto (d ∷ due)) cut =
    let h = w.hosts m in
    if is_running w.world m
    then noted r (with_host w m (record { run = h.run; applied = h.applied; role = h.role; stage = Ending upto due; feeds = h.feeds; past = h.past })) (step w.world (Puts m d.entries d.snap cut))
    else w
writes r w m _ cut = w

abbrev pub sends : Rules → Hosted → ℕ → Stage → Hosted
sends r w m (Ending upto []) =
    let h = w.hosts m in
    if is_running w.world m
    then record {
      world = w.world;
      hosts = λ k. if nat_eq k m then record { run = h.run; applied = upto; role = None; stage = Idle; feeds = h.feeds; past = h.past } else w.hosts k;
      outputs = w.outputs ++ sent_in r m h.role (member w.world m).durable.log h.applied upto;
      printed = w.printed;
    }
    else w
sends r w m _ = w

abbrev pub act : Rules → Hosted → Act → Hosted
act r w (Rows s) = if is_row s && is_free w s then noted r w (step w.world s) else w
act r w (Mounts m) = noted r w (step w.world (Starts m r.services))
act r w (Drops m) = noted r w (step w.world (Invalidates m r.services))
act r w (Opens m) = opens w m
act r w (Feeds m k n) = feeds w m k n
act r w (Takes m k) = takes r w m k
act r w (Closes m) = closes r w m
act r w (Writes m cut) = writes r w m (w.hosts m).stage cut
act r w (Sends m) = sends r w m (w.hosts m).stage

abbrev pub acts_on : Rules → Hosted → List Act → Hosted
acts_on r w [] = w
acts_on r w (a ∷ as') = acts_on r (act r w a) as'

-- formatted members, stopped
abbrev pub hosted : ℕ → Hosted
hosted n = record { world = formatted n; hosts = λ m. no_host; outputs = []; printed = [] }
