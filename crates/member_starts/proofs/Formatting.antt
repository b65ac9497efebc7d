-- A formatted disk, on both sides.
use Rattle.std.proofs.Common.{List, [], length, refl, sym, ap, ◌∙◌, arith}
use Rattle.cl_base.specs.Disk.{DiskState}
use Rattle.cl_base.specs.Fuse.{less}
use Rattle.cl_base.specs.declared.disk.Choice.TheVariants.{Keep}
use Rattle.log_segment.specs.Held.{IsHeld}
use Rattle.member_disk.specs.Fresh.{IsFresh, fresh}
use Rattle.service_api.specs.declared.shipped.Kind.{Kind}
use Rattle.run_world.specs.Seat.{first_seat}
use Rattle.run_orders.specs.Stands.{Down, IsDown, IsSeat}
use Rattle.member_starts.specs.Formats.{Formatted, IsBlank}

pub none-held : IsHeld []
none-held = record { events = λ k d low. absurd (omega (arith, low)); rises = tt; room = omega arith }

module _ {D : Type 0} (state : D → DiskState) (kinds : List Kind) (old new : D) where
  fresh-down : IsFresh (state new).files → IsDown state kinds new first_seat
  fresh-down is = record {
    kept = fresh (length kinds);
    mountable = record { count = refl; held = none-held; terms = tt; bases = tt };
    settled = is.settled;
    reads = record { node = (is.reads (length kinds)).node.0; entries = (is.reads (length kinds)).entries; log = (is.reads (length kinds)).log };
    durable = record { candidate = refl; voted = refl; log = refl; snapshots = tt };
    member = refl;
    run = refl;
    applied = refl;
    phase = refl;
    alive = refl;
    since = refl;
  }

  pub formatted-first : IsBlank (state old) → Formatted (state old) (state new) → IsSeat state kinds (record { home = Down new; choice = Keep; ended = [] }) first_seat
  formatted-first blank done =
      let passed = done.passed blank.alive in
      record {
        home = fresh-down (done.fresh blank.empty);
        faults = record { lets = sym (passed.lets ∙ ap (less done.calls) blank.lets); left = refl; own = sym (passed.own ∙ blank.own); alive = passed.burnt };
        ended = tt;
      }
