-- What reads of entries find.
use Rattle.std.proofs.Common.{◌≡◌, ℕ, ◌+◌, ◌<◌, List, ◌∷◌, ◌++◌, length, get_or, take, drop, Bool, IsTrue, Result, Ok, Err, refl, sym, ap, ◌∙◌, subst, arith, add-one, length-take-le, take-append-drop}
use Rattle.std.specs.Prelude.{IfOk, IfErr}
use Rattle.std.proofs.Math.Seq.{drop-cons}
use Rattle.cl_base.specs.declared.fault.MemberFault.{MemberFault}
use Rattle.log_segment.specs.Looked.{IsOnly, IsNoDamage}
use Rattle.cl_base.specs.Disk.{DiskState}
use Rattle.cl_base.specs.declared.fault.MemberFault.TheVariants as fault
use Rattle.member_disk.specs.Kept.{Held}
use Rattle.cluster_tool.specs.Status.{status_of}
use Rattle.cluster_tool.specs.Disks.{IsUntouched, IsStill, Reads, EndsFor}

-- an entry with those before it and those behind it
pub parted : {X : Type 0} (xs : List X) (i : ℕ) (d : X) → i < length xs → xs ≡ take i xs ++ get_or xs i d ∷ drop (i + 1) xs
parted xs i d below = sym (take-append-drop i xs) ∙ ap (λ ys. take i xs ++ ys) (drop-cons xs i d below ∙ ap (λ k. get_or xs i d ∷ drop k xs) (sym (add-one i)))

pub front_count : {X : Type 0} (xs : List X) (i : ℕ) → i < length xs → length (take i xs) ≡ i
front_count xs i below = length-take-le i xs (omega arith)

pub only_ok : {T : Type 0} (v : T) (r : Result T MemberFault) → IsOnly v r → IfOk r (λ w. w ≡ v)
only_ok v (Ok w) only = only
only_ok v (Err e) only = tt

pub only_err : {T : Type 0} (v : T) (r : Result T MemberFault) → IsOnly v r → IfErr r IsNoDamage
only_err v (Ok w) only = tt
only_err v (Err e) only = only

pub untouched_then : (a b c : DiskState) → IsUntouched a b → IsUntouched b c → IsUntouched a c
untouched_then a b c one two = record { files = λ g. two.files g ∙ one.files g; lets = two.lets ∙ one.lets; burnt = two.burnt ∙ one.burnt }

module _ {D : Type 0} (tells honest : D → Bool) (state : D → DiskState) (faults : D → ℕ) where
  pub still_none : (a : Held D) → IsTrue a.whole → IsStill tells honest state faults a a
  still_none a whole = record { whole = whole; kept = refl; disk = record { same = refl; still = refl; later = omega arith; untouched = λ t. record { files = λ g. refl; lets = refl; burnt = refl } } }

  pub still_then : (a b c : Held D) → IsStill tells honest state faults a b → IsStill tells honest state faults b c → IsStill tells honest state faults a c
  still_then a b c one two = record {
    whole = two.whole;
    kept = two.kept ∙ one.kept;
    disk = record {
      same = two.disk.same ∙ one.disk.same;
      still = two.disk.still ∙ one.disk.still;
      later = omega (arith, one.disk.later, two.disk.later);
      untouched = λ t. untouched_then (state a.disk) (state b.disk) (state c.disk) (one.disk.untouched t) (two.disk.untouched (subst IsTrue (sym one.disk.same) t));
    };
  }

  pub reads_ok : {T : Type 0} (a b : Held D) (u : T) → IsStill tells honest state faults a b → Reads tells honest state faults a b (Ok u)
  reads_ok a b u still = record { still = still; cause = record { later = still.disk.later; device = λ is. absurd cc; not_full = tt }; sound = λ t. tt }

  pub reads_err : {T U : Type 0} (a b : Held D) (e : MemberFault) → Reads {T = T} tells honest state faults a b (Err e) → Reads {T = U} tells honest state faults a b (Err e)
  reads_err a b e reads = record { still = reads.still; cause = record { later = reads.cause.later; device = λ is. reads.cause.device cc; not_full = reads.cause.not_full }; sound = reads.sound }

  -- more was read before
  pub reads_then : {T : Type 0} (a b c : Held D) (e : MemberFault) → IsStill tells honest state faults a b → Reads {T = T} tells honest state faults b c (Err e) → Reads {T = T} tells honest state faults a c (Err e)
  reads_then a b c e still reads = record {
    still = still_then a b c still reads.still;
    cause = record { later = omega (arith, still.disk.later, reads.cause.later); device = λ is. omega (arith, still.disk.later, reads.cause.device is); not_full = reads.cause.not_full };
    sound = λ t. reads.sound (subst IsTrue (sym still.disk.same) t);
  }

  -- what a fault in reading a mounted disk means
  pub ends_read : {T : Type 0} (number : ℕ) (a b : Held D) (e : MemberFault) → Reads {T = T} tells honest state faults a b (Err e) → EndsFor tells faults number a.disk b.disk (status_of number e)
  ends_read number a b fault.Device reads = (refl, reads.cause.device refl)
  ends_read number a b (fault.Damaged file place) reads = (refl, λ t. reads.sound t)
  ends_read number a b fault.NoMemory reads = tt
  ends_read number a b (fault.LogFull place) reads = tt
