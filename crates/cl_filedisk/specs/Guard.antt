-- What the calls of a disk leave of its fuse and of its count of faults.
use Rattle.std.specs.Prelude.{◌≡◌, ◌⊎◌, true, false, Bool, ◌||◌, None, Result, Ok, Err}
use Rattle.cl_base.specs.Counts.{Rose}
use Rattle.cl_base.specs.Disk.{fuse_ends, after_call}
use Rattle.cl_base.specs.declared.fault.Trouble.{Trouble}
use Rattle.cl_base.specs.declared.fault.Trouble.TheVariants.{Failed, NoMemory}
use Rattle.cl_filedisk.specs.declared.guard.Guard.{Guard}

-- no fuse is set, and no fault was counted
pub record IsFresh (g : Guard) : Type 0 where
  pub lets : g.lets ≡ None
  pub burnt : g.burnt ≡ false
  pub faults : g.faults ≡ 0

-- the fuse refuses the next changing call
abbrev pub refuses : Guard → Bool
refuses g = g.burnt || fuse_ends g.lets

-- a fault was counted, and the fuse stays
pub record CountsFault (old new : Guard) : Type 0 where
  pub lets : new.lets ≡ old.lets
  pub burnt : new.burnt ≡ old.burnt
  pub rose : Rose old.faults new.faults

-- a looking call passes only where the fuse has refused no call
abbrev pub LookGuarded : {T : Type 0} → Guard → Guard → Result T Trouble → Type 0
LookGuarded old new (Ok v) = (old.burnt ≡ false) × (new ≡ old)
LookGuarded old new (Err Failed) = CountsFault old new
LookGuarded old new (Err NoMemory) = new ≡ old

-- a changing call that the fuse refused
pub record IsRefused (old new : Guard) : Type 0 where
  pub cause : refuses old ≡ true
  pub lets : new.lets ≡ old.lets
  pub burnt : new.burnt ≡ true
  pub rose : Rose old.faults new.faults

-- one that failed by the disk itself uses up a call of the fuse
pub record IsBroken (old new : Guard) : Type 0 where
  pub let_pass : refuses old ≡ false
  pub lets : new.lets ≡ after_call old.lets
  pub burnt : new.burnt ≡ old.burnt
  pub rose : Rose old.faults new.faults

-- a changing call passes only where the fuse lets it
abbrev pub ChangeGuarded : {T : Type 0} → Guard → Guard → Result T Trouble → Type 0
ChangeGuarded old new (Ok v) = (refuses old ≡ false) × (new ≡ record old { lets = after_call old.lets })
ChangeGuarded old new (Err Failed) = IsRefused old new ⊎ IsBroken old new
ChangeGuarded old new (Err NoMemory) = new ≡ old
