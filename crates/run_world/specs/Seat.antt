-- One member of a run: what it is, what its services consumed, its phase, and how its disk fails.
use Rattle.std.specs.Prelude.{ℕ, ℤ, Bool, true, false, ◌&&◌, not, List, [], ◌∷◌, ◌++◌, Option, Some, None, if◌then◌else◌}
use Rattle.cl_base.specs.declared.disk.Choice.{Choice}
use Rattle.cl_base.specs.declared.disk.Choice.TheVariants.{Keep}
use Rattle.entry_log.specs.Durable.{fresh, first_commit}
use Rattle.consensus_core.specs.declared.row.Row.{Row}
use Rattle.consensus_core.specs.Member.{Member, Run, Cut, Whole, Before, After, stopped, after, starts, stops, puts, invalidates, begins_run, service_takes, is_ready}
use Rattle.service_runs.specs.Hosts.{Rules, Due, due_in, is_over, no_run, role_of}

-- what a disk will do: how many changing calls its fuse lets pass, none being set; what the crash that comes next leaves; and how often it failed of itself
pub record Faults : Type 0 where
  pub lets : Option ℕ
  pub choice : Choice
  pub own : ℕ

-- what the disk did in an act: whether it cut the act's change, how many calls its fuse lets pass from then on, and how often it has failed of itself
pub record Fate : Type 0 where
  pub cut : Cut
  pub lets : Option ℕ
  pub own : ℕ

-- where a member stands in its phases: between two; in one, with the term in which it led as the phase began, and whether it is over; or at its end, with the entries that its module will have applied and the snapshot entries that are still to be put
pub data Phase : Type 0 where
  Rests : Phase
  Goes : (role : Option ℤ) → (over : Bool) → Phase
  Ends : (role : Option ℤ) → (upto : ℕ) → (due : List Due) → Phase

-- one member: what it knows and what its disk keeps, what its services consumed since it started, the entries that its module applied, its phase, what its services consumed in earlier runs, each session's last keep-alive in its reign and when that began, and its disk's faults
pub record Seat : Type 0 where
  pub member : Member
  pub run : Run
  pub applied : ℕ
  pub phase : Phase
  pub ended : List Run
  pub alive : List (ℤ × ℕ)
  pub since : ℕ  -- ms
  pub faults : Faults

-- a disk at rest after a crash, which clears its fuse
abbrev pub at_rest : ℕ → Faults
at_rest own = record { lets = None; choice = Keep; own = own }

abbrev pub faults_left : Fate → Faults → Faults
faults_left f x = record { lets = f.lets; choice = x.choice; own = f.own }

-- a member on a formatted disk, before its first start
abbrev pub first_seat : Seat
first_seat = record { member = stopped fresh; run = no_run; applied = 0; phase = Rests; ended = []; alive = []; since = 0; faults = at_rest 0 }

-- the member stopped, and its disk is at rest: its services' runs have ended with what they consumed
abbrev pub halted : Member → ℕ → Seat → Seat
halted y own s = record { member = y; run = no_run; applied = 0; phase = Rests; ended = s.ended ++ s.run ∷ []; alive = []; since = 0; faults = at_rest own }

-- a phase is over once a row cuts the log, or makes its member ready to lead
abbrev pub phase_after : Member → Member → Phase → Phase
phase_after x y (Goes role false) = Goes role (is_over x y)
phase_after x y p = p

-- it goes on
abbrev pub went_on : Member → Fate → Seat → Seat
went_on y f s = record s { member = y; phase = phase_after s.member y s.phase; faults = faults_left f s.faults }

-- a running member is now y
abbrev pub becomes : Member → Fate → Seat → Seat
becomes y f s = if y.up then went_on y f s else halted y f.own s

-- a reign that begins has no keep-alives yet
abbrev pub reigns_from : ℕ → Row → Seat → Seat
reigns_from now row s = if is_ready row.values.election.state && not (is_ready s.member.values.election.state) then record s { alive = []; since = now } else s

-- a row of a running member, which its disk may cut
abbrev pub acted : Row → ℕ → Fate → Seat → Seat
acted row now f s = becomes (after row f.cut s.member) f (reigns_from now row s)

-- a member that starts has its disk's state, and its services the entries of the latest valid set
abbrev pub begun : Member → ℕ → Fate → Seat → Seat
begun y services f s = record {
  member = y;
  run = begins_run services y.durable;
  applied = first_commit services y.durable;
  phase = Rests;
  ended = s.ended;
  alive = [];
  since = 0;
  faults = faults_left f s.faults;
}

-- a stopped member whose disk failed
abbrev pub failed : Member → ℕ → Seat → Seat
failed y own s = record s { member = y; faults = at_rest own }

-- a start of member m of so many, with so many services, which fails where its disk does
abbrev pub started : ℕ → ℕ → ℕ → Fate → Cut → Seat → Seat
started m members services f Whole s = begun (starts m members services s.member.durable) services f s
started m members services f Before s = failed s.member f.own s
started m members services f After s = failed s.member f.own s

-- the member stops; its disk's count of its own faults is this
abbrev pub rested : ℕ → Seat → Seat
rested own s = halted (stops s.member) own s

-- the latest valid set of a stopped member is struck, unless its disk fails before
abbrev pub struck : ℕ → Fate → Cut → Seat → Seat
struck services f Whole s = record s { member = invalidates services s.member; faults = faults_left f s.faults }
struck services f After s = failed (invalidates services s.member) f.own s
struck services f Before s = failed s.member f.own s

-- a fuse is set
abbrev pub fused : ℕ → Choice → Seat → Seat
fused calls choice s = record s { faults = record { lets = Some calls; choice = choice; own = s.faults.own } }

-- ---- phases

abbrev pub is_resting : Phase → Bool
is_resting Rests = true
is_resting _ = false

abbrev pub is_going : Phase → Bool
is_going (Goes role over) = true
is_going _ = false

-- a member's calls wait for the end of a phase that is over, or has begun to end
abbrev pub lets_calls : Phase → Bool
lets_calls Rests = true
lets_calls (Goes role over) = not over
lets_calls (Ends role upto due) = false

-- a phase begins
abbrev pub opened : Seat → Seat
opened s = record s { phase = Goes (role_of s.member) false }

-- a service consumes the next entry of its member's log
abbrev pub fed : ℕ → Seat → Seat
fed service s = record s { run = service_takes s.member service s.run }

-- its end begins: a snapshot is due of each action that its services consumed
abbrev pub closed : Rules → Option ℤ → Seat → Seat
closed r role s = record s { phase = Ends role s.member.values.rest.commit (due_in r s.member.durable.log s.applied s.member.values.rest.commit) }

-- a snapshot entry is put, which its disk may cut
abbrev pub written : Option ℤ → ℕ → Due → List Due → Fate → Seat → Seat
written role upto d due f s = becomes (puts d.snap f.cut s.member) f (record s { phase = Ends role upto due })

-- its module has applied what its services consumed
abbrev pub sent : ℕ → Seat → Seat
sent upto s = record s { applied = upto; phase = Rests }
