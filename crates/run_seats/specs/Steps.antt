-- What a step of a member, in no phase that goes on, makes of its seat.
use Rattle.std.specs.Prelude.{◌≡◌, ℕ, ◌≤◌, Bool, false, IsTrue, ◌++◌, length, Some}
use Rattle.cl_base.specs.Disk.{CrashLeaves, DiskState}
use Rattle.cl_base.specs.declared.disk.Choice.{Choice}
use Rattle.cl_base.specs.declared.disk.Choice.TheVariants.{Keep}
use Rattle.member_rows.specs.Places.{run_ended}
use Rattle.run_orders.specs.Stands.{Down, Up, UpSeen}
use Rattle.run_seats.specs.Seats.{SeatHeld}

-- the member runs on
abbrev pub up_held : {D : Type 0} → SeatHeld D → UpSeen D → SeatHeld D
up_held s u = record s { home = Some (Up u false) }

-- it stopped, and this disk is left: what its services consumed is kept
abbrev pub stopped_held : {D : Type 0} → SeatHeld D → UpSeen D → D → SeatHeld D
stopped_held s u disk = record { member = s.member; home = Some (Down disk); choice = Keep; ended = s.ended ++ run_ended u false }

module _ {D : Type 0} (state : D → DiskState) (is_told is_honest : D → Bool) where
  -- a crash left this of a disk
  pub record CrashedTo (choice : Choice) (a d : D) : Type 0 where
    pub tells : is_told d ≡ is_told a
    pub honest : is_honest d ≡ is_honest a
    pub left : IsTrue (is_told a) → CrashLeaves choice (state a) (state d)

  -- a member stopped by a crash that leaves what this choice says
  pub record Crashed (choice : Choice) (u : UpSeen D) (s t : SeatHeld D) : Type 0 where
    pub disk : D
    pub crash : CrashedTo choice u.disk.disk disk
    pub stopped : length u.lending.kept ≤ 255 → t ≡ stopped_held s u disk
