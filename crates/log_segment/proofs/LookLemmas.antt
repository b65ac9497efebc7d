-- Reading calls, one after the other.
use Rattle.std.specs.Prelude.{OnOk, IfOk, IfErr, IsErrOf}
use Rattle.std.proofs.Common.{inl, ◌≡◌, ℕ, ◌≤◌, Bool, false, IsTrue, List, Result, Ok, Err, refl, sym, ◌∙◌, ap, subst, arith}
use Rattle.cl_base.specs.Counts.{Rose, HasCause}
use Rattle.cl_base.specs.Disk.{DiskState, LeavesOnly, IsImage, IsImageOf}
use Rattle.cl_base.specs.Faults.{IsNoLogFull, fault_of}
use Rattle.cl_base.specs.Looks.{Looks, Same, same_none, looks_as, looks_after, looks_same}
use Rattle.cl_base.specs.Torn.{run_after, weaker}
use Rattle.cl_base.specs.declared.fault.Trouble.{Trouble}
use Rattle.cl_base.specs.declared.fault.Trouble.TheVariants as trouble
use Rattle.cl_base.specs.declared.fault.MemberFault.{MemberFault}
use Rattle.cl_base.specs.declared.fault.MemberFault.TheVariants as fault
use Rattle.log_segment.specs.Looked.{Looked, IsDamage}

abbrev pub ok_of : {T : Type 0} → T → Result T MemberFault
ok_of v = Ok v

abbrev pub err_of : (T : Type 0) → MemberFault → Result T MemberFault
err_of T e = Err e

-- an answer by which nothing of the outside failed
abbrev pub IsQuiet : {T : Type 0} → Result T MemberFault → Type 0
IsQuiet (Ok v) = Unit {0}
IsQuiet (Err fault.NoMemory) = Unit {0}
IsQuiet (Err (fault.Damaged file place)) = Unit {0}
IsQuiet (Err fault.Device) = ⊥
IsQuiet (Err (fault.LogFull place)) = ⊥

quiet_device : {T : Type 0} (q : Result T MemberFault) → IsQuiet q → IsErrOf q fault.Device → ⊥
quiet_device (Ok v) quiet is = absurd (cc)
quiet_device (Err fault.NoMemory) quiet is = absurd (cc)
quiet_device (Err (fault.Damaged file place)) quiet is = absurd (cc)
quiet_device (Err fault.Device) quiet is = quiet
quiet_device (Err (fault.LogFull place)) quiet is = quiet

quiet_full : {T : Type 0} (q : Result T MemberFault) → IsQuiet q → IfErr q IsNoLogFull
quiet_full (Ok v) quiet = tt
quiet_full (Err fault.NoMemory) quiet = tt
quiet_full (Err (fault.Damaged file place)) quiet = tt
quiet_full (Err fault.Device) quiet = tt
quiet_full (Err (fault.LogFull place)) quiet = quiet

-- a disk's answer as a member's
abbrev pub as_member : {T : Type 0} → Result T Trouble → Result T MemberFault
as_member (Ok v) = Ok v
as_member (Err e) = Err (fault_of e)

on_any : {T : Type 0} {P : Type 0} (q : Result T MemberFault) → P → OnOk q P
on_any (Ok v) is = is
on_any (Err e) is = tt

-- what calls that went well left, any number of them
pub record AsRead {D : Type 0} (faults : D → ℕ) (tells honest : D → Bool) (state : D → DiskState) (moment : D → ℕ) (left_since : D → ℕ → (ℕ → List ℕ) → Type 0) (old new : D) : Type 0 where
  pub later : faults old ≤ faults new
  pub tells_same : tells new ≡ tells old
  pub honest_same : honest new ≡ honest old
  pub same : IsTrue (tells old) → Same (state old) (state new)
  pub run : IsTrue (honest old) → LeavesOnly moment left_since old new (IsImageOf (state old).files)

pub quiet_damage : (T : Type 0) (e : MemberFault) → IsDamage e → IsQuiet (err_of T e)
quiet_damage T (fault.Damaged file place) is = tt
quiet_damage T fault.Device is = is
quiet_damage T fault.NoMemory is = tt
quiet_damage T (fault.LogFull place) is = is

-- of a value that came, more is known
pub if_ok : {T E : Type 0} (P Q : T → Type 0) (r : Result T E) → ((v : T) → P v → Q v) → IfOk r P → IfOk r Q
if_ok P Q (Ok v) so is = so v is
if_ok P Q (Err e) so is = is

pub if_both : {T E : Type 0} (P Q R : T → Type 0) (r : Result T E) → ((v : T) → P v → Q v → R v) → IfOk r P → IfOk r Q → IfOk r R
if_both P Q R (Ok v) so one two = so v one two
if_both P Q R (Err e) so one two = one

rose_after : (a b c : ℕ) → a ≤ b → Rose b c → Rose a c
rose_after a b c le rose = omega (arith, le, rose)

module _ {D : Type 0} {faults : D → ℕ} {tells honest : D → Bool} {state : D → DiskState} {moment : D → ℕ} {left_since : D → ℕ → (ℕ → List ℕ) → Type 0} where
  -- what was read leads to another answer
  pub looked_ok : {T U : Type 0} {old new : D} {v : T} {q : Result U MemberFault} → Looked faults tells honest state moment left_since old new (ok_of v) → IsQuiet q → Looked faults tells honest state moment left_since old new q
  looked_ok {q = q} was quiet = record {
    cause = record { later = was.cause.later; device = λ is. absurd (quiet_device q quiet is); not_full = quiet_full q quiet };
    tells_same = was.tells_same;
    honest_same = was.honest_same;
    looks = λ told. let look = was.looks told in record {
      files = look.files;
      lets = look.lets;
      burnt = look.burnt;
      ok = on_any q look.ok;
      own = λ apart. look.own (λ is. absurd (cc));
      failed = λ is. absurd (quiet_device q quiet is);
    };
    run = was.run;
  }

  -- a fault is handed on
  pub looked_err : {T U : Type 0} {old new : D} {e : MemberFault} → Looked faults tells honest state moment left_since old new (err_of T e) → Looked faults tells honest state moment left_since old new (err_of U e)
  looked_err {T = T} {U = U} {old = old} {new = new} {e = e} was = record {
    cause = record { later = was.cause.later; device = λ is. was.cause.device (as_err e is); not_full = was.cause.not_full };
    tells_same = was.tells_same;
    honest_same = was.honest_same;
    looks = λ told. looks_as fault.Device fault.Device (state old) (state new) (err_of T e) (err_of U e) (λ ok. tt) (as_err e) (as_back e) (was.looks told);
    run = was.run;
  }
    where
      failed : (X : Type 0) → MemberFault → Result X MemberFault
      failed X e = Err e

      same : (X : Type 0) (e f : MemberFault) → failed X e ≡ failed X f → e ≡ f
      same X e f is = cc

      as_err : (e : MemberFault) → IsErrOf (err_of U e) fault.Device → IsErrOf (err_of T e) fault.Device
      as_err e is = ap (failed T) (same U e fault.Device is)

      as_back : (e : MemberFault) → IsErrOf (err_of T e) fault.Device → IsErrOf (err_of U e) fault.Device
      as_back e is = ap (failed U) (same T e fault.Device is)

  -- reading from a file
  pub looked_some : {T : Type 0} {d0 d1 : D} (r : Result T Trouble) → HasCause (faults d0) (faults d1) r → tells d1 ≡ tells d0 → honest d1 ≡ honest d0 → (IsTrue (tells d0) → Looks trouble.Failed (state d0) (state d1) r)
      → (IsTrue (honest d0) → LeavesOnly moment left_since d0 d1 (IsImageOf (state d0).files)) → Looked faults tells honest state moment left_since d0 d1 (as_member r)
  looked_some (Ok v) cause told honest looks run = record {
    cause = record { later = cause.later; device = λ is. absurd (cc); not_full = tt };
    tells_same = told;
    honest_same = honest;
    looks = λ tell. let look = looks tell in record { files = look.files; lets = look.lets; burnt = look.burnt; ok = look.ok; own = λ apart. look.own (λ is. absurd (cc)); failed = λ is. absurd (cc) };
    run = run;
  }
  looked_some (Err trouble.Failed) cause told honest looks run = record {
    cause = record { later = cause.later; device = λ is. cause.failed refl; not_full = tt };
    tells_same = told;
    honest_same = honest;
    looks = λ tell. let look = looks tell in record { files = look.files; lets = look.lets; burnt = look.burnt; ok = tt; own = λ apart. absurd (apart refl); failed = λ is. look.failed refl };
    run = run;
  }
  looked_some (Err trouble.NoMemory) cause told honest looks run = record {
    cause = record { later = cause.later; device = λ is. absurd (cc); not_full = tt };
    tells_same = told;
    honest_same = honest;
    looks = λ tell. let look = looks tell in record { files = look.files; lets = look.lets; burnt = look.burnt; ok = tt; own = λ apart. look.own (λ is. absurd (cc)); failed = λ is. absurd (cc) };
    run = run;
  }

  -- another call after one that went well
  pub looked_then : (honest_tells : (d : D) → IsTrue (honest d) → IsTrue (tells d)) {T U : Type 0} {d0 d1 d2 : D} {v : T} {q : Result U MemberFault} → Looked faults tells honest state moment left_since d0 d1 (ok_of v) → Looked faults tells honest state moment left_since d1 d2 q → Looked faults tells honest state moment left_since d0 d2 q
  looked_then honest_tells {T = T} {d0 = d0} {d1 = d1} {d2 = d2} {v = v} {q = q} one two = record {
    cause = record { later = omega (arith, one.cause.later, two.cause.later); device = λ is. rose_after (faults d0) (faults d1) (faults d2) one.cause.later (two.cause.device is); not_full = two.cause.not_full };
    tells_same = two.tells_same ∙ one.tells_same;
    honest_same = two.honest_same ∙ one.honest_same;
    looks = λ told. looks_after fault.Device (state d0) (state d1) (state d2) q (looks_same fault.Device (state d0) (state d1) (ok_of v) (one.looks told) (λ is. absurd (cc))) (two.looks (subst IsTrue (sym one.tells_same) told));
    run = λ is_honest.
        let told = honest_tells d0 is_honest in
        let same = (one.looks told).files in
        run_after moment left_since d0 d1 d2 (IsImageOf (state d0).files) (one.run is_honest)
        (weaker moment left_since d1 d2 (IsImageOf (state d1).files) (IsImageOf (state d0).files) (λ c image g. subst (λ s. IsImage s (c g)) (same g) (image g)) (two.run (subst IsTrue (sym one.honest_same) is_honest)));
  }

  -- no call yet
  pub read_none : (only_now : (d : D) (c : ℕ → List ℕ) → IsTrue (honest d) → left_since d (moment d) c → IsImageOf (state d).files c) → (d : D) → AsRead faults tells honest state moment left_since d d
  read_none only_now d = record {
    later = omega arith;
    tells_same = refl;
    honest_same = refl;
    same = λ told. same_none (state d);
    run = λ is_honest. record { later = omega arith; each = λ c left. only_now d c is_honest left; before = λ t c le left. inl left };
  }

  -- a call after those
  pub read_then : (honest_tells : (d : D) → IsTrue (honest d) → IsTrue (tells d)) {U : Type 0} {d0 d1 d2 : D} {q : Result U MemberFault} → AsRead faults tells honest state moment left_since d0 d1 → Looked faults tells honest state moment left_since d1 d2 q → Looked faults tells honest state moment left_since d0 d2 q
  read_then honest_tells {d0 = d0} {d1 = d1} {d2 = d2} {q = q} one two = record {
    cause = record { later = omega (arith, one.later, two.cause.later); device = λ is. rose_after (faults d0) (faults d1) (faults d2) one.later (two.cause.device is); not_full = two.cause.not_full };
    tells_same = two.tells_same ∙ one.tells_same;
    honest_same = two.honest_same ∙ one.honest_same;
    looks = λ told. looks_after fault.Device (state d0) (state d1) (state d2) q (one.same told) (two.looks (subst IsTrue (sym one.tells_same) told));
    run = λ is_honest.
        let same = (one.same (honest_tells d0 is_honest)).files in
        run_after moment left_since d0 d1 d2 (IsImageOf (state d0).files) (one.run is_honest)
        (weaker moment left_since d1 d2 (IsImageOf (state d1).files) (IsImageOf (state d0).files) (λ c image g. subst (λ s. IsImage s (c g)) (same g) (image g)) (two.run (subst IsTrue (sym one.honest_same) is_honest)));
  }

  -- and where it went well too
  pub read_more : {U : Type 0} {d0 d1 : D} {v : U} → Looked faults tells honest state moment left_since d0 d1 (ok_of v) → AsRead faults tells honest state moment left_since d0 d1
  read_more {d0 = d0} {d1 = d1} {v = v} was = record {
    later = was.cause.later;
    tells_same = was.tells_same;
    honest_same = was.honest_same;
    same = λ told. looks_same fault.Device (state d0) (state d1) (Ok v) (was.looks told) (λ is. absurd (cc));
    run = was.run;
  }

  -- where a call went well, no fuse had refused one
  pub read_done : {U : Type 0} {d0 d1 : D} {v : U} → AsRead faults tells honest state moment left_since d0 d1 → (IsTrue (tells d0) → (state d0).burnt ≡ false) → Looked faults tells honest state moment left_since d0 d1 (ok_of v)
  read_done {d0 = d0} {d1 = d1} {v = v} was alive = record {
    cause = record { later = was.later; device = λ is. absurd (cc); not_full = tt };
    tells_same = was.tells_same;
    honest_same = was.honest_same;
    looks = λ told. let same = was.same told in record { files = same.files; lets = same.lets; burnt = same.burnt; ok = alive told; own = λ apart. same.own; failed = λ is. absurd (cc) };
    run = was.run;
  }
