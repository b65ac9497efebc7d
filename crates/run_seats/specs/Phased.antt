-- What a whole phase makes of a member and of the outside.
use Rattle.std.specs.Prelude.{◌≡◌, ◌<◌, ◌≤◌, Bool, List, []}
use Rattle.cl_base.specs.Disk.{DiskState}
use Rattle.egress.specs.declared.sent.Sent.{Sent}
use Rattle.run_orders.specs.Stands.{UpSeen}
use Rattle.member_phases.specs.Calls.{IsBetween, PhaseDone, commit_of}
use Rattle.run_outside.specs.Gives.{with_records}
use Rattle.run_outside.specs.declared.outside.Outside.{Outside}

module _ {D : Type 0} (state : D → DiskState) (is_told is_honest : D → Bool) where
  -- a phase ran, and these records go out: it did what was due; where nothing was, nothing is another
  pub record PhaseRan (u v : UpSeen D) (sent : List Sent) : Type 0 where
    pub was : IsBetween u
    pub rests : commit_of u ≤ u.module_held.consumed → (v ≡ u) × (sent ≡ [])
    pub done : u.module_held.consumed < commit_of u → PhaseDone state is_told is_honest u v sent

  -- it ran, and they were sent
  pub record Phased (u v : UpSeen D) (a b : Outside) : Type 0 where
    pub sent : List Sent
    pub ran : PhaseRan u v sent
    pub egress : b.egress ≡ with_records sent a.egress
    pub net : b.net ≡ a.net
    pub printed : b.printed ≡ a.printed
