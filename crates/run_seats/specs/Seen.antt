-- A running member as contracts see it.
use Rattle.std.specs.Prelude.{◌≡◌, ℕ, Bool, IsTrue, Some}
use Rattle.cl_base.specs.Disk.{DiskState}
use Rattle.consensus_agent.specs.Phases.{stage}
use Rattle.run_orders.specs.Stands.{UpSeen}
use Rattle.service_phases.specs.Stages.{Stage}

-- what stands to the world of a run, and whether no call of the member failed
pub record MemberSeen (D : Type 0) : Type 0 where
  pub seen : UpSeen D
  pub whole : Bool

-- where it stands in its phases
abbrev pub stage_of : {D : Type 0} → MemberSeen D → Stage
stage_of m = stage m.seen.lending m.seen.module_held m.seen.core m.seen.over

-- a member's disk was read: all stays but how often the disk failed
pub record IsRead {D : Type 0} (a b : MemberSeen D) : Type 0 where
  pub rest : b ≡ record a { seen = record a.seen { disk = b.seen.disk } }
  pub kept : b.seen.disk.kept ≡ a.seen.disk.kept

-- the same of what stands to the world
pub record IsLooked {D : Type 0} (u v : UpSeen D) : Type 0 where
  pub rest : v ≡ record u { disk = v.disk }
  pub kept : v.disk.kept ≡ u.disk.kept

module _ {D : Type 0} (state : D → DiskState) (is_told is_honest : D → Bool) where
  -- the fuse of a member's disk was set: it lets so many changing calls pass, and all else stays
  pub record IsFused (calls : ℕ) (u v : UpSeen D) : Type 0 where
    pub rest : v ≡ record u { disk = record u.disk { disk = v.disk.disk } }
    pub tells : is_told v.disk.disk ≡ is_told u.disk.disk
    pub honest : is_honest v.disk.disk ≡ is_honest u.disk.disk
    pub set : IsTrue (is_told u.disk.disk) → state v.disk.disk ≡ record (state u.disk.disk) { lets = Some calls }
