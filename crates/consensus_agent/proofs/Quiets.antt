-- What calls that only read leave of a mount.
use Rattle.std.proofs.Common.{◌≡◌, ⊎_elim, ℕ, ◌≤◌, Bool, true, false, IsTrue, List, Result, Ok, Err, sym, ap, subst, ◌∙◌, arith}
use Rattle.std.specs.Prelude.{OnOk, IfErr}
use Rattle.cl_base.specs.Counts.{Rose}
use Rattle.cl_base.specs.Disk.{DiskState, FileState, IsImage, IsImageOf, LeavesOnly, OthersStay}
use Rattle.cl_base.specs.Faults.{HasMountCause}
use Rattle.cl_base.specs.Looks.{Looks, looks_same, same_none, same_more}
use Rattle.cl_base.specs.Runs.{EachImage}
use Rattle.cl_base.specs.declared.fault.MemberFault.{MemberFault}
use Rattle.cl_base.specs.declared.fault.MemberFault.TheVariants as fault
use Rattle.member_disk.specs.Kept.{Kept, Held as DiskHeld, Means}
use Rattle.member_disk.specs.Parts.{MountEnds}
use Rattle.consensus_agent.specs.Disks.{Looked}
use Rattle.consensus_agent.specs.Quiet.{Quiet, Failed}

rose_later : (a b c : ℕ) → a ≤ b → Rose b c → Rose a c
rose_later a b c le rose = omega (arith, le, rose)

differ : true ≡ false → ⊥
differ is = cc

module _ {D : Type 0} (faults : D → ℕ) (state : D → DiskState) (is_told : D → Bool) where
  -- ---- one call

  pub quiet_none : (a b : DiskHeld D) → b ≡ a → Quiet faults state is_told a b
  quiet_none a b is = subst (Quiet faults state is_told a) (sym is) (record { later = omega arith; same = λ told. same_none (state a.disk) })

  pub failed_none : (a b : DiskHeld D) (e : MemberFault) → b ≡ a → (e ≡ fault.Device → ⊥) → Failed faults state is_told a b e
  failed_none a b e is other = subst (λ (d : DiskHeld D). Failed faults state is_told a d e) (sym is) (record { later = omega arith; device = λ h. absurd (other h); own = λ told alive h. absurd (other h) })

  pub quiet_once : {T : Type 0} (a b : DiskHeld D) (x : T) → HasMountCause {T = T} (faults a.disk) (faults b.disk) (Ok x) → (IsTrue (is_told a.disk) → Looks fault.Device (state a.disk) (state b.disk) (Ok x)) → Quiet faults state is_told a b
  quiet_once {T} a b x cause looks = record { later = cause.later; same = λ told. looks_same fault.Device (state a.disk) (state b.disk) (Ok x) (looks told) (λ is. absurd (cc)) }

  pub failed_once : {T : Type 0} (a b : DiskHeld D) (e : MemberFault) → HasMountCause {T = T} (faults a.disk) (faults b.disk) (Err e) → (IsTrue (is_told a.disk) → Looks {T = T} fault.Device (state a.disk) (state b.disk) (Err e)) → Failed faults state is_told a b e
  failed_once {T} a b e cause looks = record {
    later = cause.later;
    device = λ is. cause.device (ap Err is);
    own = λ told alive is. ⊎_elim (λ was. absurd (differ (sym was.0 ∙ alive))) (λ rose. rose.1) ((looks told).failed (ap Err is));
  }

  pub quiet_by : {T : Type 0} (a b : DiskHeld D) (result : Result T MemberFault) → HasMountCause (faults a.disk) (faults b.disk) result → (IsTrue (is_told a.disk) → Looks fault.Device (state a.disk) (state b.disk) result) → OnOk result (Quiet faults state is_told a b)
  quiet_by a b (Ok x) cause looks = quiet_once a b x cause looks
  quiet_by a b (Err e) cause looks = tt

  pub failed_by : {T : Type 0} (a b : DiskHeld D) (result : Result T MemberFault) → HasMountCause (faults a.disk) (faults b.disk) result → (IsTrue (is_told a.disk) → Looks fault.Device (state a.disk) (state b.disk) result) → IfErr result (Failed faults state is_told a b)
  failed_by a b (Ok x) cause looks = tt
  failed_by a b (Err e) cause looks = failed_once a b e cause looks

  -- ---- after others

  pub quiet_more : (a b c : DiskHeld D) → is_told b.disk ≡ is_told a.disk → Quiet faults state is_told a b → Quiet faults state is_told b c → Quiet faults state is_told a c
  quiet_more a b c tells first second = record {
    later = (let x = first.later in let y = second.later in omega (arith, x, y));
    same = λ told. same_more (state a.disk) (state b.disk) (state c.disk) (first.same told) (second.same (subst IsTrue (sym tells) told));
  }

  pub failed_more : (a b c : DiskHeld D) (e : MemberFault) → is_told b.disk ≡ is_told a.disk → Quiet faults state is_told a b → Failed faults state is_told b c e → Failed faults state is_told a c e
  failed_more a b c e tells first second = record {
    later = (let x = first.later in let y = second.later in omega (arith, x, y));
    device = λ is. rose_later (faults a.disk) (faults b.disk) (faults c.disk) first.later (second.device is);
    own = λ told alive is.
        let same = first.same told in
        subst (λ n. Rose n (state c.disk).own_faults) same.own (second.own (subst IsTrue (sym tells) told) (same.burnt ∙ alive) is);
  }

  -- and then a fault that isn't the disk's
  pub failed_other : (a b : DiskHeld D) (e : MemberFault) → Quiet faults state is_told a b → (e ≡ fault.Device → ⊥) → Failed faults state is_told a b e
  failed_other a b e first other = record { later = first.later; device = λ is. absurd (other is); own = λ told alive is. absurd (other is) }

  -- ---- behind a mount

  pub ends_quiet : (n : ℕ) (kept : Kept) (s0 : DiskState) (a b : DiskHeld D) → IsTrue (is_told a.disk) → MountEnds {T = Unit {0}} n kept s0 (state a.disk) (Ok tt) → Quiet faults state is_told a b → MountEnds {T = Unit {0}} n kept s0 (state b.disk) (Ok tt)
  ends_quiet n kept s0 a b told ends quiet alive =
      let first = ends alive in
      let is = quiet.same told in
      record { enough = first.enough; lets = is.lets ∙ first.lets; burnt = is.burnt ∙ first.burnt; own = is.own ∙ first.own }

  pub ends_failed : (n : ℕ) (kept : Kept) (s0 : DiskState) (a b : DiskHeld D) (e : MemberFault) → IsTrue (is_told a.disk) → MountEnds {T = Unit {0}} n kept s0 (state a.disk) (Ok tt) → Failed faults state is_told a b e → MountEnds {T = Unit {0}} n kept s0 (state b.disk) (Err e)
  ends_failed n kept s0 a b e told ends failed alive = λ is stays.
      let first = ends alive in
      absurd (stays (subst (λ n. Rose n (state b.disk).own_faults) first.own (failed.own told first.burnt is)))

-- ---- what a mount leaves stays where it is only read

pub others_looked : {D : Type 0} (state : D → DiskState) (is_told is_honest : D → Bool) (d : D) (a b : DiskHeld D) → Looked state is_told is_honest a b → IsTrue (is_told a.disk) → OthersStay 0 (state d).files (state a.disk).files → OthersStay 0 (state d).files (state b.disk).files
others_looked state is_told is_honest d a b looked told others g other = looked.files told g ∙ others g other

pub means_looked : {D : Type 0} (state : D → DiskState) (is_told is_honest : D → Bool) (kept : Kept) (a b : DiskHeld D) → Looked state is_told is_honest a b → IsTrue (is_told a.disk) → EachImage (Means kept) (state a.disk).files → EachImage (Means kept) (state b.disk).files
means_looked state is_told is_honest kept a b looked told each c image = each c (λ g. subst (λ (s : FileState). IsImage s (c g)) (looked.files told g) (image g))

-- what a run leaves at any moment it leaves at its end
pub means_at_end : {D : Type 0} (state : D → DiskState) (moment : D → ℕ) (left_since : D → ℕ → (ℕ → List ℕ) → Type 0) (P : (ℕ → List ℕ) → Type 0) (old new : D)
    → ((t : ℕ) (c : ℕ → List ℕ) → t ≤ moment new → IsImageOf (state new).files c → left_since new t c) → LeavesOnly moment left_since old new P → EachImage P (state new).files
means_at_end state moment left_since P old new counts run c image = run.each c (counts (moment old) c run.later image)
