-- Which phases go on in a world, by what a driver has.
use Rattle.std.proofs.Common.{◌≡◌, ℕ, zero, suc, true, false, List, [], ◌∷◌, length, sym, ap, ◌∙◌}
use Rattle.std.specs.Prelude.{nat_lt, not, slice_index_or}
use Rattle.cl_base.specs.Disk.{DiskState}
use Rattle.service_api.specs.declared.shipped.Kind.{Kind}
use Rattle.service_phases.specs.Pairs.{Each, Each2}
use Rattle.consensus_core.specs.Member.{Member}
use Rattle.world.proofs.Rows.{and_true}
use Rattle.run_world.specs.Seat.{Seat, first_seat, is_resting}
use Rattle.run_world.specs.RunWorld.{RunWorld, seat}
use Rattle.run_orders.specs.Phases.{AllGoOn, AllRest, goes_on}
use Rattle.run_orders.specs.Stands.{Down, HomeSeen, IsHome, IsSeat, RunSeen, SeatSeen, Stands, Up}
use Rattle.member_phases.specs.Frees.{IsOff, IsOn}

clash : false ≡ true → ⊥
clash e = cc

module _ {D : Type 0} (state : D → DiskState) (kinds : List Kind) where
  one-on : (h : HomeSeen D) (s : Seat) → IsHome state kinds h s → IsOn h → s.member.up ≡ true → goes_on s.phase ≡ true
  one-on (Up u true) s is on up = ap goes_on is.phase ∙ ap not on
  one-on (Up u false) s is on up = absurd on
  one-on (Down disk) s is on up = absurd (clash (sym (ap (λ (x : Member). x.up) is.member) ∙ up))

  each-on : (xs : List (SeatSeen D)) (ys : List Seat) → Each2 (IsSeat state kinds) xs ys → Each (λ (x : SeatSeen D). IsOn x.home) xs → (m : ℕ) → (slice_index_or ys m first_seat).member.up ≡ true → goes_on (slice_index_or ys m first_seat).phase ≡ true
  each-on [] [] all on m up = absurd (clash up)
  each-on [] (y ∷ ys) all on m up = absurd all
  each-on (x ∷ xs) [] all on m up = absurd all
  each-on (x ∷ xs) (y ∷ ys) all on zero up = one-on x.home y all.0.home on.0 up
  each-on (x ∷ xs) (y ∷ ys) all on (suc m) up = each-on xs ys all.1 on.1 m up

  pub all-on : (x : RunSeen D) (w : RunWorld) → Stands state kinds x w → Each (λ (y : SeatSeen D). IsOn y.home) x.seats → AllGoOn w
  all-on x w stands on m up = each-on x.seats w.seats stands.seats on m (and_true (nat_lt m (length w.seats)) (seat w m).member.up up).1

  one-off : (h : HomeSeen D) (s : Seat) → IsHome state kinds h s → IsOff h → is_resting s.phase ≡ true
  one-off (Up u true) s is off = absurd off
  one-off (Up u false) s is off = ap is_resting is.phase
  one-off (Down disk) s is off = ap is_resting is.phase

  each-off : (xs : List (SeatSeen D)) (ys : List Seat) → Each2 (IsSeat state kinds) xs ys → Each (λ (x : SeatSeen D). IsOff x.home) xs → (m : ℕ) → is_resting (slice_index_or ys m first_seat).phase ≡ true
  each-off [] [] all off m = λ i. true
  each-off [] (y ∷ ys) all off m = absurd all
  each-off (x ∷ xs) [] all off m = absurd all
  each-off (x ∷ xs) (y ∷ ys) all off zero = one-off x.home y all.0.home off.0
  each-off (x ∷ xs) (y ∷ ys) all off (suc m) = each-off xs ys all.1 off.1 m

  pub all-off : (x : RunSeen D) (w : RunWorld) → Stands state kinds x w → Each (λ (y : SeatSeen D). IsOff y.home) x.seats → AllRest w
  all-off x w stands off m = each-off x.seats w.seats stands.seats off m
