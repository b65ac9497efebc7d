-- An invalidation, as an act.
use Rattle.std.proofs.Common.{◌≡◌, ℕ, ◌<◌, Bool, true, false, not, ◌&&◌, List, [], length, refl, sym, ap, subst, arith, if◌then◌else◌}
use Rattle.std.specs.Prelude.{nat_lt}
use Rattle.std.proofs.lemmas.Bool.Decides.{nat_tests}
use Rattle.cl_base.specs.Disk.{DiskState}
use Rattle.cl_base.specs.declared.disk.Choice.{Choice}
use Rattle.entry_log.specs.Log.{Log}
use Rattle.service_api.specs.declared.shipped.Kind.{Kind}
use Rattle.consensus_core.specs.Member.{Member}
use Rattle.run_world.specs.RunWorld.{Invalidates, RunWorld, committed, is_down, put, seat}
use Rattle.run_world.specs.Seat.{struck}
use Rattle.run_orders.specs.Stands.{EndedSeen, IsDown, IsSeat, RunSeen, Stands, seen_put}
use Rattle.run_orders.proofs.Standing.{put-stands}
use Rattle.member_rows.specs.Turns.{IsTurn}
use Rattle.member_starts.specs.Strikes.{HasStruck, down_seat}

down-true : (a up : Bool) → a ≡ true → up ≡ false → (a && not up) ≡ true
down-true true false a up = refl
down-true true true a up = absurd (cc)
down-true false up a e = absurd (cc)

module _ {D : Type 0} (state : D → DiskState) (kinds : List Kind) where
  -- a stopped member may be started, and its set made invalid
  pub is-down : (w : RunWorld) (m : ℕ) (disk : D) → m < length w.seats → IsDown state kinds disk (seat w m) → is_down w m ≡ true
  is-down w m disk low down = down-true (nat_lt m (length w.seats)) (seat w m).member.up (grind (arith, nat_tests, low)) (ap (λ (x : Member). x.up) down.member)

  pub struck-turn : (x : RunSeen D) (w : RunWorld) (m : ℕ) (choice left : Choice) (ended : List EndedSeen) (disk d : D) → Stands state kinds x w → m < length w.seats → IsSeat state kinds (down_seat choice ended disk) (seat w m)
      → HasStruck state kinds (seat w m) (down_seat left ended d) → IsTurn state kinds (Invalidates m) m (down_seat left ended d) [] [] x w
  struck-turn x w m choice left ended disk d stands low is z =
      let f = z.fate in
      let t = struck (length kinds) f f.cut (seat w m) in
      let y = down_seat left ended d in
      let home : IsDown state kinds d t = z.seat.home in
      let here = put-stands D state kinds x w m y t [] stands z.seat in
      record {
        fate = f;
        sent = [];
        spelled = refl;
        stands = subst (λ (b : Bool). Stands state kinds (seen_put m y [] [] x) (if b then put m t [] w else w)) (sym (is-down w m disk low is.home))
            (subst (λ (l : Log). Stands state kinds (seen_put m y [] l x) (put m t [] w)) (ap committed home.member) here);
      }
