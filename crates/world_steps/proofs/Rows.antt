-- A row that the code runs at a member is the protocol's, and leaves what that one leaves.
use Rattle.std.proofs.Common.{◌≡◌, ℕ, Bool, true, false, List, [], ◌∷◌, refl, ap, ◌∙◌, subst, if◌then◌else◌}
use Rattle.entry_log.specs.Durable.{Durable}
use Rattle.entry_log.specs.Shape.{Shape, shape_of}
use Rattle.election.specs.declared.member.State.{State}
use Rattle.sbe_consensus.specs.declared.packet.Packet.{Packet}
use Rattle.sbe_events.specs.declared.event.Event.{Event}
use Rattle.consensus_core.specs.Fit.{Held, held_by}
use Rattle.consensus_core.specs.Member.{Member, Sent, Cut, stopped, after, sent_by, is_ready, row_of_packet, row_of_duty, row_of_client}
use Rattle.consensus_core.specs.Reign.{entry_of, does_duty}
use Rattle.consensus_core.specs.Sendable.{receives}
use Rattle.consensus_core.specs.declared.change.Change.{Change}
use Rattle.consensus_core.specs.declared.change.Change.TheVariants as changes
use Rattle.consensus_core.specs.declared.plan.Plan.TheVariants as plans
use Rattle.consensus_core.specs.declared.row.Row.{Row}
use Rattle.consensus_core.specs.declared.values.Values.{Values}
use Rattle.world.specs.World.{Raise, Reign, raises_by}
use Rattle.world_steps.specs.Members.{row_run, reigns_from, change_of_client}

-- ---- the row

pub packet_row : (x : Member) (p : Packet) (now : ℕ) (v : Values) (xs : Shape) (h : Held) (c : Change) → v ≡ x.values → xs ≡ shape_of x.durable.log
    → h ≡ held_by (receives v xs p now) → c ≡ (receives v xs p now).change → row_run h c ≡ row_of_packet x p now
packet_row x p now v xs h c values index held change = (λ i. row_run (held i) (change i)) ∙ (λ i. receives (values i) (index i) p now)

pub duty_row : (x : Member) (due : List Event) (now : ℕ) (v : Values) (xs : Shape) (h : Held) (c : Change) → v ≡ x.values → xs ≡ shape_of x.durable.log
    → h ≡ held_by (does_duty v xs due now) → c ≡ (does_duty v xs due now).change → row_run h c ≡ row_of_duty x due now
duty_row x due now v xs h c values index held change = (λ i. row_run (held i) (change i)) ∙ (λ i. does_duty (values i) (index i) due now)

pub client_row : (x : Member) (e : Event) (v : Values) (h : Held) (c : Change) (was : State) → v ≡ x.values → h ≡ record { values = v; plan = plans.Silence } → c ≡ change_of_client was e → was ≡ x.values.election.state
    → row_run h c ≡ row_of_client x e
client_row x e v h c was values held change state =
    (λ i. row_run (held i) (change i))
    ∙ ap (λ (u : Values). row_run (record { values = u; plan = plans.Silence }) (change_of_client was e)) values
    ∙ ap (λ (s : State). row_run (record { values = x.values; plan = plans.Silence }) (change_of_client s e)) state
    ∙ at (is_ready x.values.election.state)
  where
    at : (b : Bool) → row_run (record { values = x.values; plan = plans.Silence }) (if b then changes.Append (entry_of e ∷ []) else changes.Nothing)
        ≡ (if b then record { values = x.values; change = changes.Append (entry_of e ∷ []); plan = plans.Silence } else record { values = x.values; change = changes.Nothing; plan = plans.Silence })
    at true = refl
    at false = refl

-- ---- what it leaves

-- what a row of a member with this disk leaves
pub record Leaves (m : ℕ) (was : State) (row : Row) (cut : Cut) (d : Durable) (y : Member) (raises : List Raise) (sent : List Sent) (reigns : List Reign) : Type 0 where
  pub member_is : y ≡ after row cut (stopped d)
  pub raises_are : raises ≡ raises_by m d.log row.change cut
  pub sent_is : sent ≡ sent_by row cut (stopped d)
  pub reigns_are : reigns ≡ reigns_from m was row d.log cut

-- z is the member x without its part in the agreement
pub leaves : (m : ℕ) (x z : Member) (was : State) (ran row : Row) (cut : Cut) (y : Member) (raises : List Raise) (sent : List Sent) (reigns : List Reign)
    → z ≡ stopped x.durable → was ≡ x.values.election.state → ran ≡ row → Leaves m was ran cut z.durable y raises sent reigns → Leaves m x.values.election.state row cut x.durable y raises sent reigns
leaves m x z was ran row cut y raises sent reigns out state is l =
    subst (λ (d : Durable). Leaves m x.values.election.state row cut d y raises sent reigns) (ap (λ (a : Member). a.durable) out)
    (subst (λ (s : State). Leaves m s row cut z.durable y raises sent reigns) state
    (subst (λ (r : Row). Leaves m was r cut z.durable y raises sent reigns) is l))
