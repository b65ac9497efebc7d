-- What is refused, and a keep-alive: the member goes on with the same log.
use Rattle.std.proofs.Common.{◌≡◌, ℕ, ℤ, ◌≤◌, Bool, List, [], ◌∷◌, ◌++◌, length, sym, ap, ◌∙◌, subst, arith, length-append}
use Rattle.std.specs.Prelude.{IsTrue}
use Rattle.cl_base.specs.Disk.{DiskState}
use Rattle.cl_base.specs.declared.entry.Entry.{Entry}
use Rattle.cl_base.specs.declared.disk.Choice.{Choice}
use Rattle.commit_counter.specs.declared.role.Role.{Role}
use Rattle.entry_log.specs.Log.{Log}
use Rattle.service_api.specs.declared.shipped.Kind.{Kind}
use Rattle.service_phases.specs.Phases.{Lending}
use Rattle.ingress.specs.declared.outcome.Outcome.{Outcome}
use Rattle.ingress.specs.declared.outcome.Outcome.TheVariants as outcome
use Rattle.member_disk.specs.Kept.{Kept, Held as DiskHeld, EachStands}
use Rattle.member_module.specs.Held.{Held as ModuleHeld, heard}
use Rattle.consensus_agent.specs.Accepted.{IsCalm, IsHeard, Leaves, OnNothingNew}
use Rattle.run_world.specs.Seat.{Seat}
use Rattle.run_world.specs.RunWorld.{hears}
use Rattle.run_orders.specs.Kept.{HasFaults, IsMountable, IsStateOf}
use Rattle.run_orders.specs.Stands.{EndedSeen, HasModule, HaveInputs, IsPhase, IsSeat, IsUp, UpSeen, containers_of}
use Rattle.member_asks.specs.Clauses.{Stays}
use Rattle.member_rows.specs.Places.{running_seat}

longer-log : (a : Log) (x : Entry) → a ≡ a ++ x ∷ [] → ⊥
longer-log a x same = let n = length-append a (x ∷ []) in let e = ap length same in omega (arith, n, e)

-- where what is kept stays, nothing new was put behind the log
pub nothing-new : (P : Type 0) (o : Outcome) (term : ℤ) (a b : Kept) → Leaves o term a b → b ≡ a → OnNothingNew o P → P
nothing-new P (outcome.Accepted i) term a b leaves same p = absurd (longer-log a.log _ (ap (λ (k : Kept). k.log) (sym same) ∙ leaves.appended.kept.log))
nothing-new P _ term a b leaves same p = p

pub calm-module : (kinds : List Kind) (m n : ModuleHeld) (s : Seat) → IsCalm m n → HasModule kinds m s → HasModule kinds n s
calm-module kinds m n s calm has = record {
  applied = calm.consumed ∙ has.applied;
  state = calm.state ∙ has.state;
  entries = calm.entries ∙ has.entries;
  events = calm.events ∙ has.events;
  coming = calm.coming ∙ has.coming;
  alive = calm.alive ∙ has.alive;
  since = calm.since ∙ has.since;
}

pub heard-module : (kinds : List Kind) (session : ℤ) (now : ℕ) (m n : ModuleHeld) (s : Seat) → IsHeard session now m n → HasModule kinds m s → HasModule kinds n (hears session now s)
heard-module kinds session now m n s is has = record {
  applied = is.consumed ∙ has.applied;
  state = is.state ∙ has.state;
  entries = is.entries ∙ has.entries;
  events = is.events ∙ has.events;
  coming = is.coming ∙ has.coming;
  alive = is.alive ∙ ap (heard session now) has.alive;
  since = is.since ∙ has.since;
}

-- what stays of the containers, and of the phase
pub inputs-stay : (D : Type 0) (kinds : List Kind) (u v : UpSeen D) (going : Bool) (log : Log) (xss : List Log) → Stays u v → HaveInputs kinds u.base log 0 (containers_of going u.lending) xss → HaveInputs kinds v.base log 0 (containers_of going v.lending) xss
inputs-stay D kinds u v going log xss stays have =
    subst (λ (l : Lending). HaveInputs kinds v.base log 0 (containers_of going l) xss) (sym stays.services)
    (subst (λ (b : ℕ). HaveInputs kinds b log 0 (containers_of going u.lending) xss) (sym stays.base) have)

pub phase-stays : (D : Type 0) (u v : UpSeen D) (going : Bool) (s : Seat) → Stays u v → IsPhase going u.role u.over s.phase → IsPhase going v.role v.over s.phase
phase-stays D u v going s stays is =
    subst (λ (r : Role). IsPhase going r v.over s.phase) (sym stays.role) (subst (λ (b : Bool). IsPhase going u.role b s.phase) (sym stays.over) is)

module _ {D : Type 0} (state : D → DiskState) (kinds : List Kind) where
  -- on the same disk, but for the keep-alives
  still-up : (u v : UpSeen D) (going : Bool) (s : Seat) (alive : List (ℤ × ℕ)) → Stays u v → v.disk ≡ u.disk → HasModule kinds v.module_held (record s { alive = alive }) → IsUp state kinds u going s → IsUp state kinds v going (record s { alive = alive })
  still-up u v going s alive stays disk has is = record {
    up = is.up;
    values = stays.values ∙ is.values;
    whole = subst (λ (d : DiskHeld D). IsTrue d.whole) (sym disk) is.whole;
    mountable = subst (λ (d : DiskHeld D). IsMountable (length kinds) d.kept) (sym disk) is.mountable;
    each = subst (λ (d : DiskHeld D). EachStands d.kept (state d.disk).files) (sym disk) is.each;
    durable = subst (λ (d : DiskHeld D). IsStateOf d.kept (state d.disk).files s.member.durable) (sym disk) is.durable;
    has_module = has;
    first = stays.base ∙ is.first;
    within = subst (λ (b : ℕ). b ≤ length s.member.durable.log) (sym stays.base) is.within;
    inputs = inputs-stay D kinds u v going s.member.durable.log s.run.inputs stays is.inputs;
    phase = phase-stays D u v going s stays is.phase;
  }

  still-seat : (u v : UpSeen D) (going : Bool) (choice : Choice) (ended : List EndedSeen) (s : Seat) (alive : List (ℤ × ℕ)) → Stays u v → v.disk ≡ u.disk → HasModule kinds v.module_held (record s { alive = alive })
      → IsSeat state kinds (running_seat choice ended u going) s → IsSeat state kinds (running_seat choice ended v going) (record s { alive = alive })
  still-seat u v going choice ended s alive stays disk has is = record {
    home = still-up u v going s alive stays disk has is.home;
    faults = subst (λ (d : DiskHeld D). HasFaults (state d.disk) choice s.faults) (sym disk) is.faults;
    ended = is.ended;
  }

  -- it refused, and nothing changed
  pub refused : (u v : UpSeen D) (going : Bool) (choice : Choice) (ended : List EndedSeen) (s : Seat) → Stays u v → v.disk ≡ u.disk → IsCalm u.module_held v.module_held
      → IsSeat state kinds (running_seat choice ended u going) s → IsSeat state kinds (running_seat choice ended v going) s
  refused u v going choice ended s stays disk calm is = still-seat u v going choice ended s s.alive stays disk (calm-module kinds u.module_held v.module_held s calm is.home.has_module) is

  -- a session was heard of
  pub heard-seat : (u v : UpSeen D) (going : Bool) (choice : Choice) (ended : List EndedSeen) (s : Seat) (session : ℤ) (now : ℕ) → Stays u v → v.disk ≡ u.disk → IsHeard session now u.module_held v.module_held
      → IsSeat state kinds (running_seat choice ended u going) s → IsSeat state kinds (running_seat choice ended v going) (hears session now s)
  heard-seat u v going choice ended s session now stays disk is' is =
      still-seat u v going choice ended s (heard session now s.alive) stays disk (heard-module kinds session now u.module_held v.module_held s is' is.home.has_module) is
