-- What goes on to stand to a world.
use Rattle.std.proofs.Common.{◌≡◌, ℕ, zero, suc, ℤ, List, [], ◌∷◌, set, ap, ◌∙◌}
use Rattle.cl_base.specs.Disk.{DiskState}
use Rattle.consensus_core.specs.Member.{Sent as Packet}
use Rattle.member_module.specs.Held.{Held as ModuleHeld, at_end}
use Rattle.module_state.specs.Due.{due}
use Rattle.module_state.specs.Module.{Module, tentative}
use Rattle.module_state.specs.Services.{module_of}
use Rattle.sbe_events.specs.declared.event.Event.{Event}
use Rattle.service_api.specs.declared.shipped.Kind.{Kind}
use Rattle.service_phases.specs.Pairs.{Each2}
use Rattle.service_runs.specs.Hosts.{longer}
use Rattle.entry_log.specs.Log.{Log}
use Rattle.network.specs.Net.{NetSeen}
use Rattle.run_world.specs.Seat.{Seat}
use Rattle.run_world.specs.RunWorld.{RunWorld, all_sent, applied_events, ahead_events, committed, due_at, put, view_at}
use Rattle.run_orders.specs.Stands.{HasModule, IsSeat, RunSeen, SeatSeen, Stands, seen_put}

each-set : {A B : Type 0} (R : A → B → Type 0) (xs : List A) (ys : List B) (i : ℕ) (x : A) (y : B) → Each2 R xs ys → R x y → Each2 R (set xs i x) (set ys i y)
each-set R [] [] i x y each is = each
each-set R [] (b ∷ ys) i x y each is = absurd each
each-set R (a ∷ xs) [] i x y each is = absurd each
each-set R (a ∷ xs) (b ∷ ys) zero x y each is = (is, each.1)
each-set R (a ∷ xs) (b ∷ ys) (suc i) x y each is = (each.0, each-set R xs ys i x y each.1 is)

pub put-stands : (D : Type 0) (state : D → DiskState) (kinds : List Kind) (x : RunSeen D) (w : RunWorld) (m : ℕ) (y : SeatSeen D) (s : Seat) (ps : List Packet)
    → Stands state kinds x w → IsSeat state kinds y s → Stands state kinds (seen_put m y ps (committed s.member) x) (put m s ps w)
put-stands D state kinds x w m y s ps stands is = record {
  now = stands.now;
  seats = each-set (IsSeat state kinds) x.seats w.seats m y s stands.seats is;
  net = ap (λ (n : NetSeen). all_sent m ps n) stands.net;
  records = stands.records;
  printed = ap (λ (log : Log). longer log (committed s.member)) stands.printed;
}

abbrev module_there : List Kind → Seat → Module
module_there kinds s = module_of kinds (applied_events s)

pub sees-end : (kinds : List Kind) (m : ModuleHeld) (s : Seat) → HasModule kinds m s → at_end m ≡ view_at kinds s
sees-end kinds m s has = ap (λ (t : Module). tentative t m.ahead.events) has.state ∙ ap (λ (es : List Event). tentative (module_there kinds s) es) has.events

pub sees-due : (kinds : List Kind) (m : ModuleHeld) (s : Seat) (now : ℕ) → HasModule kinds m s → due m.state (at_end m) m.ahead.events m.alive s.member.values.election.term now m.since ≡ due_at kinds s now
sees-due kinds m s now has =
    let term = s.member.values.election.term in
    ap (λ (t : Module). due t (at_end m) m.ahead.events m.alive term now m.since) has.state
    ∙ ap (λ (t : Module). due (module_there kinds s) t m.ahead.events m.alive term now m.since) (sees-end kinds m s has)
    ∙ ap (λ (es : List Event). due (module_there kinds s) (view_at kinds s) es m.alive term now m.since) has.events
    ∙ ap (λ (a : List (ℤ × ℕ)). due (module_there kinds s) (view_at kinds s) (ahead_events s) a term now m.since) has.alive
    ∙ ap (λ (since : ℕ). due (module_there kinds s) (view_at kinds s) (ahead_events s) s.alive term now since) has.since
