-- A module and a disk through a start.
use Rattle.std.proofs.Common.{◌≡◌, ℕ, suc, List, [], ◌∷◌, ◌++◌, None, pos, Result, refl, sym, ap, subst, ◌∙◌, arith}
use Rattle.std.specs.Prelude.{IfOk}
use Rattle.std.proofs.lemmas.Int.{ints}
use Rattle.cl_base.specs.declared.entry.Entry.{Entry}
use Rattle.cl_base.specs.declared.fault.MemberFault.{MemberFault}
use Rattle.entry_log.specs.Shape.{Shape}
use Rattle.recording_log.specs.declared.entry.RecEntry.{RecEntry}
use Rattle.recording_log.specs.declared.entry.SnapshotAt.{SnapshotAt}
use Rattle.recording_log.specs.Sets.{HasNoSet}
use Rattle.sbe_events.specs.declared.event.Event.{Event}
use Rattle.module_state.specs.Entries.{events_in}
use Rattle.module_state.specs.Module.{Module}
use Rattle.member_module.specs.Held.{Held as ModuleHeld, Holds}
use Rattle.service_api.specs.declared.shipped.Kind.{Kind}
use Rattle.service_api.specs.Shipped.{first_of}
use Rattle.service_container.specs.Held.{Held as ContainerHeld, begun}
use Rattle.service_phases.specs.Pairs.{Each}
use Rattle.service_phases.specs.Phases.{IsAt}
use Rattle.consensus_agent.specs.Copies.{IsNewest}
use Rattle.consensus_agent.specs.Starts.{IsNew, ends_at, first_containers}
use Rattle.consensus_agent.specs.declared.mounting.Start.{Start}
use Rattle.consensus_agent.proofs.Phasing.{begun_at}
use Rattle.consensus_agent.proofs.Taking.{events_more}

-- with one more entry ahead
pub new_more : (m n : ModuleHeld) (x : Entry) → IsNew m → n ≡ record m { ahead = n.ahead; latest = n.latest } → n.ahead.entries ≡ m.ahead.entries ++ x ∷ [] → n.ahead.events ≡ m.ahead.events ++ events_in (x ∷ []) → IsNew n
new_more m n x new is entries events = record {
  events = events ∙ ap (λ (l : List Event). l ++ events_in (x ∷ [])) new.events ∙ sym (events_more m.ahead.entries (x ∷ [])) ∙ ap events_in (sym entries);
  coming = ap (λ (z : ModuleHeld). z.coming) is ∙ new.coming;
  alive = ap (λ (z : ModuleHeld). z.alive) is ∙ new.alive;
  since = ap (λ (z : ModuleHeld). z.since) is ∙ new.since;
}

-- of a member that starts
pub new_first : (m : ModuleHeld) (s : Module) (k : ℕ) → Holds m [] [] → m ≡ record { state = s; consumed = k; ahead = m.ahead; coming = None; latest = None; alive = []; since = 0 } → IsNew m
new_first m s k holds is = record {
  events = holds.events ∙ ap events_in (sym holds.entries);
  coming = ap (λ (z : ModuleHeld). z.coming) is;
  alive = ap (λ (z : ModuleHeld). z.alive) is;
  since = ap (λ (z : ModuleHeld). z.since) is;
}

-- the first containers are at the log's first entry
all_at : (number : ℕ) (kinds : List Kind) → Each (IsAt 0) (first_containers number kinds)
all_at number [] = tt
all_at number (kind ∷ kinds) = (begun_at 0 number (begun number 0 (first_of kind)) (first_of kind) refl, all_at (suc number) kinds)

pub first_at : (number : ℕ) (kinds : List Kind) (cs : List ContainerHeld) → cs ≡ first_containers number kinds → Each (IsAt 0) cs
first_at number kinds cs is = subst (Each (IsAt 0)) (sym is) (all_at number kinds)

-- ---- the latest valid set is one

pub newest_once : (services : ℕ) (entries : List RecEntry) (a b : SnapshotAt) → IsNewest services entries a → IsNewest services entries b → a.position ≡ b.position
newest_once services entries a b first second =
    let one = (first.latest b.term (pos b.position) second.listed.whole).0 in
    let two = (second.latest a.term (pos a.position) first.listed.whole).0 in
    omega (arith, ints, one, two)

pub newest_base : (services : ℕ) (entries : List RecEntry) (a b : SnapshotAt) (xs : Shape) (result : Result Start MemberFault) → IsNewest services entries a → IsNewest services entries b
    → IfOk result (λ s. s.base ≡ ends_at a.position xs) → IfOk result (λ s. s.base ≡ ends_at b.position xs)
newest_base services entries a b xs result first second at = subst (λ (p : ℕ). IfOk result (λ s. s.base ≡ ends_at p xs)) (newest_once services entries a b first second) at

-- where there is none
pub none_newest : (services : ℕ) (entries : List RecEntry) (a : SnapshotAt) → HasNoSet services entries → IsNewest services entries a → ⊥
none_newest services entries a none is = none a.term (pos a.position) is.listed.whole
