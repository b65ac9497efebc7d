-- The world: the members, every packet ever sent, and its steps.
use Rattle.std.specs.Prelude.{ℕ, ℤ, Bool, true, false, ◌&&◌, not, List, [], ◌∷◌, ◌++◌, length, set, replicate, take, slice_get, slice_index_or, nat_eq, nat_lt, nat_le, if◌then◌else◌, Option, Some, None}
use Rattle.sbe_events.specs.declared.event.Event.{Event}
use Rattle.sbe_events.specs.Spelling.{term_of, spelling_of}
use Rattle.cl_base.specs.declared.entry.Entry.{Entry}
use Rattle.consensus_core.specs.Reign.{term_event}
use Rattle.entry_log.specs.Durable.{SnapshotEntry, fresh}
use Rattle.entry_log.specs.Log.{Log, place, last, same_term}
use Rattle.election.specs.declared.member.State.{State}
use Rattle.election.specs.declared.member.State.TheVariants.{LeaderInit, LeaderReady, FollowerReady}
use Rattle.election.specs.declared.member.Election.{Election}
use Rattle.consensus_core.specs.declared.change.Change.{Change}
use Rattle.consensus_core.specs.declared.change.Change.TheVariants as changes
use Rattle.consensus_core.specs.declared.row.Row.{Row}
use Rattle.consensus_core.specs.Member.{Member, Sent, Cut, Whole, Before, stopped, after, sent_by, row_of_packet, row_of_duty, row_of_client, starts, stops, puts, invalidates}

-- a member raised its candidate term to vote for this member; the log is the voter's at that moment
pub record Raise : Type 0 where
  pub voter : ℕ
  pub term : ℤ
  pub choice : ℕ
  pub log : Log

-- a member was elected in this term; the log is that at the beginning of the reign
pub record Reign : Type 0 where
  pub term : ℤ
  pub member : ℕ
  pub first : Log

-- the log of a reign at some moment of it
pub record Written : Type 0 where
  pub term : ℤ
  pub log : Log

-- a member had this log on disk while it reigned in the term, or was FOLLOWER_READY in it
pub record Holding : Type 0 where
  pub member : ℕ
  pub term : ℤ
  pub log : Log

-- what is, and what was: packets, raises, reigns and holdings only grow
pub record World : Type 0 where
  pub now : ℕ  -- ms
  pub members : List Member
  pub sent : List Sent
  pub raises : List Raise
  pub reigns : List Reign
  pub written : List Written  -- the newest first
  pub holdings : List Holding

-- the log of the term's reign, as far as it was written
abbrev pub reign_in : List Written → ℤ → Log
reign_in [] t = []
reign_in (x ∷ xs) t = if same_term x.term t then x.log else reign_in xs t

-- the bytes of the new term event of t, at this place and moment: its term, position, stamp, base and leader
unfoldable pub term_bytes : ℤ → ℕ → ℕ → ℕ → List ℕ
term_bytes t at now leader = spelling_of (term_event t at now leader)

-- its entry
abbrev pub term_entry : ℤ → ℕ → ℕ → ℕ → Entry
term_entry t at now leader = record { term = t; bytes = term_bytes t at now leader }

pub data Step : Type 0 where
  Passes : (now : ℕ) → Step
  Starts : (member services : ℕ) → Step  -- P1
  Stops : (member : ℕ) → Step  -- P20
  Duty : (member : ℕ) → (due : List Event) → Cut → Step
  Delivers : (which : ℕ) → Cut → Step  -- a packet that was sent, whenever
  Client : (member : ℕ) → (event : Event) → Cut → Step  -- P19
  Puts : (member entries : ℕ) → (snap : SnapshotEntry) → Cut → Step  -- a snapshot of the first entries
  Invalidates : (member services : ℕ) → Step  -- P22

-- the member of this number
abbrev pub member : World → ℕ → Member
member w m = slice_index_or w.members m (stopped fresh)

abbrev pub is_running : World → ℕ → Bool
is_running w m = nat_lt m (length w.members) && (member w m).up

abbrev pub is_stopped : World → ℕ → Bool
is_stopped w m = nat_lt m (length w.members) && not (member w m).up

-- ---- what the world notes of a member's change

-- the raises for a vote in a change
abbrev pub raises_of : ℕ → Log → Change → List Raise
raises_of m log changes.Nothing = []
raises_of m log (changes.Raise term None) = []
raises_of m log (changes.Append entries) = []
raises_of m log (changes.Cut kept) = []
raises_of m log (changes.Raise term (Some k)) = record { voter = m; term = term; choice = k; log = log } ∷ []

-- those of a row that a stop may cut
abbrev pub raises_by : ℕ → Log → Change → Cut → List Raise
raises_by m log c Before = []
raises_by m log c _ = raises_of m log c

abbrev pub is_elected : State → Bool
is_elected LeaderInit = true
is_elected _ = false

-- a row that comes to LEADER_INIT begins a reign
abbrev pub reigns_of : ℕ → Election → Election → Log → List Reign
reigns_of m old new log =
    if not (is_elected old.state) && is_elected new.state
    then record { term = new.term; member = m; first = log } ∷ []
    else []

abbrev pub reigns_by : ℕ → Member → Row → Cut → List Reign
reigns_by m x row Whole = reigns_of m x.values.election row.values.election x.durable.log
reigns_by m x row _ = []

abbrev pub reigns_at : State → Bool
reigns_at LeaderInit = true
reigns_at LeaderReady = true
reigns_at _ = false

abbrev pub holds_at : State → Bool
holds_at LeaderInit = true
holds_at LeaderReady = true
holds_at FollowerReady = true
holds_at _ = false

abbrev pub first_logs : List Reign → List Written
first_logs [] = []
first_logs (r ∷ rs) = record { term = r.term; log = r.first } ∷ first_logs rs

-- the log that a member now has is that of the reign in which it was
abbrev pub written_by : Member → Log → List Written
written_by old log = if reigns_at old.values.election.state then record { term = old.values.election.term; log = log } ∷ [] else []

abbrev pub held_by : ℕ → Member → List Holding
held_by m x = if holds_at x.values.election.state then record { member = m; term = x.values.election.term; log = x.durable.log } ∷ [] else []

-- the member m becomes x, with these raises, packets and reigns; the world notes what was written in a reign and what x holds
abbrev pub put : World → ℕ → Member → List Raise → List Sent → List Reign → World
put w m x raises sent reigns =
    record {
      now = w.now;
      members = set w.members m x;
      sent = w.sent ++ sent;
      raises = w.raises ++ raises;
      reigns = w.reigns ++ reigns;
      written = first_logs reigns ++ (written_by (member w m) x.durable.log ++ w.written);
      holdings = w.holdings ++ held_by m x;
    }

-- a row of a running member, which a stop may cut
unfoldable pub acts : World → ℕ → Row → Cut → World
acts w m row cut = put w m (after row cut (member w m)) (raises_by m (member w m).durable.log row.change cut) (sent_by row cut (member w m)) (reigns_by m (member w m) row cut)

-- ---- the steps: one whose guard fails changes nothing

-- events of the member's term
abbrev pub are_of : ℤ → List Event → Bool
are_of t [] = true
are_of t (e ∷ es) = same_term (term_of e) t && are_of t es

abbrev pub does : World → ℕ → List Event → Cut → World
does w m due cut = if is_running w m && are_of (member w m).values.election.term due then acts w m (row_of_duty (member w m) due w.now) cut else w

abbrev pub comes : World → Option Sent → Cut → World
comes w None cut = w
comes w (Some s) cut = if is_running w s.to then acts w s.to (row_of_packet (member w s.to) s.packet w.now) cut else w

abbrev pub client : World → ℕ → Event → Cut → World
client w m event cut = if is_running w m && are_of (member w m).values.election.term (event ∷ []) then acts w m (row_of_client (member w m) event) cut else w

-- a change of the member without a row
abbrev pub becomes : World → ℕ → Member → World
becomes w m x = put w m x [] [] []

-- the entry names the end of the first k entries, which are below the commit
abbrev pub names : ℕ → SnapshotEntry → Member → Bool
names k s x = nat_le k x.values.rest.commit && (nat_eq s.position (place (take k x.durable.log)) && same_term s.term (last (take k x.durable.log)))

abbrev pub step : World → Step → World
step w (Passes now) = record w { now = (if nat_lt w.now now then now else w.now) }
step w (Starts m services) = if is_stopped w m then becomes w m (starts m (length w.members) services (member w m).durable) else w
step w (Stops m) = if is_running w m then becomes w m (stops (member w m)) else w
step w (Duty m due cut) = does w m due cut
step w (Delivers which cut) = comes w (slice_get w.sent which) cut
step w (Client m event cut) = client w m event cut
step w (Puts m k s cut) = if is_running w m && names k s (member w m) then becomes w m (puts s cut (member w m)) else w
step w (Invalidates m services) = if is_stopped w m then becomes w m (invalidates services (member w m)) else w

-- a whole list of steps
abbrev pub run : World → List Step → World
run w [] = w
run w (s ∷ ss) = run (step w s) ss

-- formatted members, stopped
abbrev pub formatted : ℕ → World
formatted n = record { now = 0; members = replicate n (stopped fresh); sent = []; raises = []; reigns = []; written = []; holdings = [] }
