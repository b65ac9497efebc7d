-- A phase that begins, on both sides.
use Rattle.std.proofs.Common.{◌≡◌, ℕ, ℤ, suc, true, false, List, [], ◌∷◌, map, Option, sym, ap}
use Rattle.cl_base.specs.Disk.{DiskState}
use Rattle.commit_counter.specs.Ends.{Fed}
use Rattle.commit_counter.specs.declared.role.Role.{Role}
use Rattle.entry_log.specs.Log.{Log}
use Rattle.service_api.specs.declared.shipped.Kind.{Kind}
use Rattle.service_container.specs.Held.{Held as ContainerHeld}
use Rattle.service_phases.specs.Phases.{forgetting}
use Rattle.service_runs.specs.Hosts.{role_of}
use Rattle.run_world.specs.Seat.{Seat, Goes, opened}
use Rattle.run_orders.specs.Stands.{UpSeen, HasInput, HaveInputs, IsUp, term_led, with_phase}

forgets : (kind : Kind) (count : ℕ) (log : Log) (number : ℕ) (c : ContainerHeld) (xs : Log) → HasInput kind count log number c xs → HasInput kind count log number (forgetting c) xs
forgets kind count log number c xs is = record { service = is.service; base = is.base; inputs = is.inputs; state = is.state; records = is.records; whole = is.whole }

all-forget : (kinds : List Kind) (base : ℕ) (log : Log) (number : ℕ) (cs : List ContainerHeld) (xss : List Log) → HaveInputs kinds base log number cs xss → HaveInputs kinds base log number (map forgetting cs) xss
all-forget [] base log number [] [] have = have
all-forget [] base log number [] (xs ∷ xss) have = absurd have
all-forget [] base log number (c ∷ cs) xss have = absurd have
all-forget (kind ∷ kinds) base log number [] xss have = absurd have
all-forget (kind ∷ kinds) base log number (c ∷ cs) [] have = absurd have
all-forget (kind ∷ kinds) base log number (c ∷ cs) (xs ∷ xss) have = (forgets kind base log number c xs have.0, all-forget kinds base log (suc number) cs xss have.1)

module _ {D : Type 0} (state : D → DiskState) (kinds : List Kind) where
  pub up-opens : (u : UpSeen D) (s : Seat) (role : Role) (feeds : List Fed) → term_led role ≡ role_of s.member → IsUp state kinds u false s → IsUp state kinds (with_phase role feeds u) true (opened s)
  up-opens u s role feeds led is = record {
    up = is.up;
    values = is.values;
    whole = is.whole;
    mountable = is.mountable;
    each = is.each;
    durable = is.durable;
    has_module = record {
      applied = is.has_module.applied;
      state = is.has_module.state;
      entries = is.has_module.entries;
      events = is.has_module.events;
      coming = is.has_module.coming;
      alive = is.has_module.alive;
      since = is.has_module.since;
    };
    first = is.first;
    within = is.within;
    inputs = all-forget kinds u.base s.member.durable.log 0 u.lending.kept s.run.inputs is.inputs;
    phase = ap (λ (r : Option ℤ). Goes r false) (sym led);
  }
