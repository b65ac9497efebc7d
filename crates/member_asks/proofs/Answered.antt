-- What `Agent::client` and `Agent::action` say, as what is done in the world.
use Rattle.std.proofs.Common.{ℕ, Bool, List, Option}
use Rattle.std.specs.Prelude.{IsTrue}
use Rattle.cl_base.specs.Disk.{DiskState, CrashLeaves}
use Rattle.cl_base.specs.Images.{IsSound as IsSoundFile}
use Rattle.cl_base.specs.declared.disk.Choice.{Choice}
use Rattle.wire_prims.specs.Fields.{IsBytes}
use Rattle.egress.specs.declared.sent.Sent.{Sent}
use Rattle.sbe_events.specs.Spelling.{content_of}
use Rattle.service_api.specs.declared.shipped.Kind.{Kind}
use Rattle.ingress.specs.declared.decision.Decided.{Decided}
use Rattle.ingress.specs.declared.decision.Decided.TheVariants as decisions
use Rattle.ingress.specs.declared.outcome.Outcome.{Outcome}
use Rattle.ingress.specs.declared.view.View.{View}
use Rattle.consensus_agent.specs.Accepted.{IsDecided, IsDecidedAction}
use Rattle.member_module.specs.Held.{at_end}
use Rattle.module_state.specs.Module.{Module}
use Rattle.run_world.specs.Seat.{Seat}
use Rattle.run_orders.specs.Stands.{EndedSeen, IsSeat, UpSeen}
use Rattle.consensus_agent.specs.Accepted.{OnAppend}
use Rattle.member_asks.specs.Clauses.{ActionFailed, ActionTaken, ClientFailed, ClientTaken}
use Rattle.member_asks.specs.Made.{Falls, Makes}
use Rattle.member_rows.specs.Places.{running_seat, stopped_seat}
use Rattle.member_asks.proofs.Read.{action-content, client-content}
use Rattle.member_asks.proofs.Taken.{fallen, made}

-- what an event that was asked for has besides its numbers is bytes
client-bytes : (w : View) (bytes : List ℕ) (now : ℕ) (d : Decided) → IsBytes bytes → IsDecided w bytes now d → OnAppend d (λ e. IsBytes (content_of e))
client-bytes w bytes now (decisions.Refuse refusal) fit is = tt
client-bytes w bytes now (decisions.Alive session) fit is = tt
client-bytes w bytes now (decisions.Append e) fit is = client-content w bytes now e fit is

action-bytes : (w : View) (t : Module) (now : ℕ) (d : Decided) → IsDecidedAction w t now d → OnAppend d (λ e. IsBytes (content_of e))
action-bytes w t now (decisions.Refuse refusal) is = tt
action-bytes w t now (decisions.Alive session) is = tt
action-bytes w t now (decisions.Append e) is = action-content w t.counts.actions now e is.is

module _ {D : Type 0} (state : D → DiskState) (is_told is_honest : D → Bool) (kinds : List Kind) (u v : UpSeen D) (going : Bool) (choice : Choice) (ended : List EndedSeen) (s : Seat) (now : ℕ) where
  pub client-taken : (bytes : List ℕ) (o : Outcome) (answer : Option Sent) → IsSeat state kinds (running_seat choice ended u going) s → IsTrue (is_honest u.disk.disk) → (by : ClientTaken state is_told is_honest bytes now o answer u v)
      → Makes state kinds by.took.decision now s (running_seat choice ended v going)
  client-taken bytes o answer seat honest by =
      made state is_told is_honest kinds u v going choice ended s now o u.core.values.election.term by.took.view by.took.decision seat honest by.stays by.sound by.whole by.untouched by.leaves by.took.is (by.took.by.admits (at_end u.module_held).counts.actions)
      (client-bytes by.took.view bytes now by.took.decision by.octets by.took.by) by.took.adds by.took.done

  pub action-taken : (o : Outcome) → IsSeat state kinds (running_seat choice ended u going) s → IsTrue (is_honest u.disk.disk) → (by : ActionTaken state is_told is_honest now o u v) → Makes state kinds by.took.decision now s (running_seat choice ended v going)
  action-taken o seat honest by =
      made state is_told is_honest kinds u v going choice ended s now o u.core.values.election.term by.took.view by.took.decision seat honest by.stays by.sound by.whole by.untouched by.leaves by.took.is by.took.by.admits
      (action-bytes by.took.view (at_end u.module_held) now by.took.decision by.took.by) by.took.adds by.took.done

  -- ---- where the disk failed

  module _ (d : D) (files : (x : D) → IsTrue (is_honest x) → (g : ℕ) → IsSoundFile ((state x).files g)) (seat : IsSeat state kinds (running_seat choice ended u going) s) (honest : IsTrue (is_honest u.disk.disk)) (crash : CrashLeaves choice (state v.disk.disk) (state d)) where
    pub client-failed : (bytes : List ℕ) (by : ClientFailed state is_told is_honest bytes now u v) → Falls state kinds now s by.tried.event (stopped_seat ended v going d)
    client-failed bytes by =
        let t = by.tried in
        fallen state is_told is_honest kinds u going s seat.home now t.view t.event t.is (t.by.admits (at_end u.module_held).counts.actions) v choice ended d files honest by.stays by.sound (t.tries.spelled, client-content t.view bytes now t.event by.octets t.by) t.tries.went crash seat

    pub action-failed : (by : ActionFailed state is_told is_honest now u v) → Falls state kinds now s by.tried.event (stopped_seat ended v going d)
    action-failed by =
        let t = by.tried in
        fallen state is_told is_honest kinds u going s seat.home now t.view t.event t.is t.by.admits v choice ended d files honest by.stays by.sound (t.tries.spelled, action-content t.view (at_end u.module_held).counts.actions now t.event t.by.is) t.tries.went crash seat
