-- What calls that only look leave of a disk.
use Rattle.std.specs.Prelude.{◌≡◌, ◌⊎◌, ℕ, true, false, Result, Ok, Err, IsErrOf, OnOk}
use Rattle.std.proofs.Common.{inl, inr, ⊎_elim, sym, ◌∙◌, ap, subst, refl}
use Rattle.cl_base.specs.Counts.{Rose}
use Rattle.cl_base.specs.Disk.{DiskState, LookGives}
use Rattle.cl_base.specs.Fuse.{FuseEnds, passes_none}
use Rattle.cl_base.specs.declared.fault.Trouble.{Trouble}
use Rattle.cl_base.specs.declared.fault.Trouble.TheVariants.{Failed, NoMemory}

-- all that a disk tells is as it was
pub record Same (old new : DiskState) : Type 0 where
  pub files : (g : ℕ) → new.files g ≡ old.files g
  pub lets : new.lets ≡ old.lets
  pub burnt : new.burnt ≡ old.burnt
  pub own : new.own_faults ≡ old.own_faults

-- What calls that only look leave: files and fuse as they were. They fail where a fuse had refused a call, or else only
-- where the disk's own faults rose; these rise in no other way.
pub record Looks {T E : Type 0} (fault : E) (old new : DiskState) (result : Result T E) : Type 0 where
  pub files : (g : ℕ) → new.files g ≡ old.files g
  pub lets : new.lets ≡ old.lets
  pub burnt : new.burnt ≡ old.burnt
  pub ok : OnOk result (old.burnt ≡ false)
  pub own : (IsErrOf result fault → ⊥) → new.own_faults ≡ old.own_faults
  pub failed : IsErrOf result fault → ((old.burnt ≡ true) × (new.own_faults ≡ old.own_faults)) ⊎ ((old.burnt ≡ false) × Rose old.own_faults new.own_faults)

pub same_none : (d : DiskState) → Same d d
same_none d = record { files = λ g. refl; lets = refl; burnt = refl; own = refl }

pub same_more : (d0 d1 d2 : DiskState) → Same d0 d1 → Same d1 d2 → Same d0 d2
same_more d0 d1 d2 first second = record {
  files = λ g. second.files g ∙ first.files g;
  lets = second.lets ∙ first.lets;
  burnt = second.burnt ∙ first.burnt;
  own = second.own ∙ first.own;
}

same_of : (old new : DiskState) → new ≡ old → Same old new
same_of old new is = record {
  files = λ g. ap (λ (d : DiskState). d.files g) is;
  lets = ap (λ (d : DiskState). d.lets) is;
  burnt = ap (λ (d : DiskState). d.burnt) is;
  own = ap (λ (d : DiskState). d.own_faults) is;
}

-- one call
pub looks_one : {T : Type 0} (gives : T → Type 0) (old new : DiskState) (result : Result T Trouble) → LookGives gives old new result → Looks Failed old new result
looks_one gives old new (Ok v) look =
    let same = same_of old new look.1 in
    record { files = same.files; lets = same.lets; burnt = same.burnt; ok = look.0; own = λ apart. same.own; failed = λ is. absurd (cc) }
looks_one gives old new (Err Failed) look = record { files = look.files; lets = look.lets; burnt = look.burnt; ok = tt; own = λ apart. absurd (apart refl); failed = λ is. look.cause }
looks_one gives old new (Err NoMemory) look =
    let same = same_of old new look in
    record { files = same.files; lets = same.lets; burnt = same.burnt; ok = tt; own = λ apart. same.own; failed = λ is. absurd (cc) }

-- after any answer but the fault all is as it was
pub looks_same : {T E : Type 0} (fault : E) (old new : DiskState) (result : Result T E) → Looks fault old new result → (IsErrOf result fault → ⊥) → Same old new
looks_same fault old new result look other = record { files = look.files; lets = look.lets; burnt = look.burnt; own = look.own other }

-- looks after others that found all as it was
pub looks_after : {T E : Type 0} (fault : E) (d0 d1 d2 : DiskState) (result : Result T E) → Same d0 d1 → Looks fault d1 d2 result → Looks fault d0 d2 result
looks_after fault d0 d1 d2 result same look = record {
  files = λ g. look.files g ∙ same.files g;
  lets = look.lets ∙ same.lets;
  burnt = look.burnt ∙ same.burnt;
  ok = on_ok result look.ok;
  own = λ apart. look.own apart ∙ same.own;
  failed = λ is. ⊎_elim
      (λ was. inl (sym same.burnt ∙ was.0, was.1 ∙ same.own))
      (λ rose. inr (sym same.burnt ∙ rose.0, subst (λ n. Rose n d2.own_faults) same.own rose.1))
      (look.failed is);
}
  where
    on_ok : {T E : Type 0} (result : Result T E) → OnOk result (d1.burnt ≡ false) → OnOk result (d0.burnt ≡ false)
    on_ok (Ok v) is = sym same.burnt ∙ is
    on_ok (Err e) is = tt

-- the same calls answer otherwise
pub looks_as : {T U E F : Type 0} (fault : E) (other : F) (old new : DiskState) (result : Result T E) (answer : Result U F) → (OnOk result (old.burnt ≡ false) → OnOk answer (old.burnt ≡ false)) → (IsErrOf answer other → IsErrOf result fault) → (IsErrOf result fault → IsErrOf answer other) → Looks fault old new result → Looks other old new answer
looks_as fault other old new result answer ok to from look = record {
  files = look.files;
  lets = look.lets;
  burnt = look.burnt;
  ok = ok look.ok;
  own = λ apart. look.own (λ is. apart (from is));
  failed = λ is. look.failed (to is);
}

-- no fuse that hasn't refused a call ends them
pub looks_ends : {T E : Type 0} (fault : E) (P : DiskState → ℕ → Type 0) (old new : DiskState) (result : Result T E) → Looks fault old new result → FuseEnds 0 fault P old new result
looks_ends fault P old new (Ok v) look alive = passes_none old new look.lets (look.burnt ∙ alive) (look.own (λ is. absurd (cc)))
looks_ends fault P old new (Err e) look alive = λ failed stays. absurd (⊎_elim (λ was. differ (sym was.0 ∙ alive)) (λ rose. stays rose.1) (look.failed (ap Err failed)))
  where
    differ : true ≡ false → ⊥
    differ is = cc
