-- What a start leaves of a member's seat.
use Rattle.std.proofs.Common.{◌≡◌, ℕ, Bool, true, List, [], length, refl, ap, ◌∙◌, if◌then◌else◌, get_or-set_same}
use Rattle.service_api.specs.declared.shipped.Kind.{Kind}
use Rattle.consensus_core.specs.Member.{Cut, Whole, Before, After, begins_run}
use Rattle.run_world.specs.Seat.{Seat, Fate, first_seat, started}
use Rattle.run_world.specs.RunWorld.{RunWorld, Starts, seat, put, is_down, does}
use Rattle.run_world.proofs.Starts.{down-parts}

start-seat : (kinds : List Kind) (w : RunWorld) (m : ℕ) (f : Fate) → is_down w m ≡ true → seat (does kinds w (Starts m f)) m ≡ started m (length w.seats) (length kinds) f f.cut (seat w m)
start-seat kinds w m f down =
    ap (λ (b : Bool). seat (if b then put m (started m (length w.seats) (length kinds) f f.cut (seat w m)) [] w else w) m) down
    ∙ get_or-set_same w.seats m (started m (length w.seats) (length kinds) f f.cut (seat w m)) first_seat (down-parts w m down).0

same-disk : (m members services : ℕ) (f : Fate) (c : Cut) (s : Seat) → (started m members services f c s).member.durable ≡ s.member.durable
same-disk m members services f Whole s = refl
same-disk m members services f Before s = refl
same-disk m members services f After s = refl

pub start-kept : (kinds : List Kind) (w : RunWorld) (m : ℕ) (f : Fate) → is_down w m ≡ true → (seat (does kinds w (Starts m f)) m).member.durable ≡ (seat w m).member.durable
start-kept kinds w m f down = ap (λ (s : Seat). s.member.durable) (start-seat kinds w m f down) ∙ same-disk m (length w.seats) (length kinds) f f.cut (seat w m)

pub start-runs : (kinds : List Kind) (w : RunWorld) (m : ℕ) (f : Fate) → is_down w m ≡ true → f.cut ≡ Whole → (seat (does kinds w (Starts m f)) m).run ≡ begins_run (length kinds) (seat w m).member.durable
start-runs kinds w m f down whole = ap (λ (s : Seat). s.run) (start-seat kinds w m f down) ∙ ap (λ (c : Cut). (started m (length w.seats) (length kinds) f c (seat w m)).run) whole
