-- An addition, of its three parts: the entry's bytes, the gate behind it, its own gate.
use Rattle.std.specs.Prelude.{◌&&◌, if◌then◌else◌}
use Rattle.std.proofs.Common.{◌≡◌, ◌≢◌, inl, inr, ℕ, ◌+◌, ◌-◌, ◌≤◌, ◌==◌, Bool, List, length, Result, Err, IsTrue, sym, ◌∙◌, subst, arith}
use Rattle.std.proofs.lemmas.Bool.{cases_eq, eq-eqb, ne_eqb}
use Rattle.cl_base.specs.Disk.{FileState, DiskState, IsImage, IsImageOf, Elapses, LeavesOnly, Passes, written_file, IsTornWrite, ChangeGives, left_by}
use Rattle.cl_base.specs.Images.{IsSound, left_is_image}
use Rattle.cl_base.specs.Torn.{write_may, started, goes_on}
use Rattle.cl_base.specs.Fuse.{FuseEnds, Passed, LetNone, Early, Later, passes_one, ends_one, ends_weaker, fuse_first, fuse_then}
use Rattle.cl_base.specs.declared.disk.Choice.{Choice}
use Rattle.cl_base.specs.declared.fault.Trouble.{Trouble}
use Rattle.cl_base.specs.declared.fault.Trouble.TheVariants.{Failed}
use Rattle.cl_base.specs.Every.{EveryImage, FileIs}
use Rattle.cl_base.specs.EveryRun.{every_moment, every_written}
use Rattle.cl_base.specs.Torn.{Torn}

module _ {D : Type 0} (state : D → DiskState) (is_honest : D → Bool) (moment : D → ℕ) (left_since : D → ℕ → (ℕ → List ℕ) → Type 0)
    (reads : (d : D) (f : ℕ) → IsTrue (is_honest d) → IsImage ((state d).files f) ((state d).files f).reads)
    (synced : (d : D) (f : ℕ) → IsTrue (is_honest d) → IsImage ((state d).files f) ((state d).files f).synced)
    (tells : D → Bool) (honest_tells : (d : D) → IsTrue (is_honest d) → IsTrue (tells d))
    (only_now : (d : D) (c : ℕ → List ℕ) → IsTrue (is_honest d) → left_since d (moment d) c → IsImageOf (state d).files c)
    (old : D) (honest : IsTrue (is_honest old)) where
  abbrev files : D → ℕ → FileState
  files d = (state d).files

  pub sound_at : (d : D) (f : ℕ) → IsTrue (is_honest d) → IsSound (files d f)
  sound_at d f h = record { reads = reads d f h; synced = synced d f h }

  -- the first call, a write that may be torn and takes nothing away
  module _ {T : Type 0} (file at : ℕ) (bytes : List ℕ) (P : List ℕ → Type 0) (every : EveryImage file P (files old) (files old)) (new : D) (result : Result T Trouble)
      (fits : at ≤ length (files old file).reads) (torn : (e c : List ℕ) → P e → Torn at (length bytes) e c → P c)
      (gives : IsTrue (tells old) → ChangeGives file (written_file at bytes) (IsTornWrite at (length bytes)) (state old) (state new) result)
      (time : IsTrue (is_honest old) → Elapses (moment old) (moment new) (left_since old) (left_since new) (IsImageOf (files new))) where
    pub first_every : EveryImage file P (files old) (files new)
    first_every = every_written file P (files old) P at (length bytes) (files old) (files new) every (sound_at old file honest) torn
        (write_may file at bytes (state old) (state new) result fits (gives (honest_tells old honest)))

    pub first_run : LeavesOnly moment left_since old new (FileIs file P (files old))
    first_run = goes_on moment left_since old old new (FileIs file P (files old)) (IsImageOf (files new))
        (started moment left_since old (FileIs file P (files old)) (λ c left. every_moment file P (files old) (files old) every c (only_now old c honest left)))
        (time honest) (every_moment file P (files old) (files new) first_every)

-- what a fuse leaves, where all that is to be said is where it ends the calls
pub first_ends : (T U : Type 0) (file : ℕ) (done : FileState → FileState) (tears : FileState → FileState → Type 0) (s0 s1 : DiskState) (n : ℕ) (trouble : Trouble) → ChangeGives {T = T} file done tears s0 s1 (Err trouble)
    → FuseEnds {T = U} (1 + n) Failed (λ _ _. Unit {0}) s0 s1 (Err trouble)
first_ends T U file done tears s0 s1 n trouble gives =
    ends_weaker U Trouble Failed (1 + n) (Early 1 (LetNone s0.files)) (λ _ _. Unit {0}) s0 s1 (Err trouble) (λ k few left. tt)
    (fuse_first T U Trouble Failed 1 n (LetNone s0.files) s0 s1 trouble (ends_one T file done tears s0 s1 (Err trouble) gives))

-- one call that passed, and then n calls
pub then_ends : (T : Type 0) (file n : ℕ) (P : DiskState → ℕ → Type 0) (next : FileState) (s0 s1 s2 : DiskState) (result : Result T Trouble) → Passes file next s0 s1 → FuseEnds n Failed P s1 s2 result
    → FuseEnds (1 + n) Failed (λ _ _. Unit {0}) s0 s2 result
then_ends T file n P next s0 s1 s2 result passes second =
    ends_weaker T Trouble Failed (1 + n) (Later 1 P) (λ _ _. Unit {0}) s0 s2 result (λ k few left. tt) (fuse_then T Trouble Failed 1 n P s0 s1 s2 result (passes_one passes) second)

-- three calls that leave what was there, and a byte with its sync
module _ (V : Type 0) (Is : V → List ℕ → Type 0) (before after : V) (file : ℕ) (takes_it : Choice → Bool) where
  abbrev pub Left : (n : ℕ) → DiskState → ℕ → Type 0
  Left n left k = (choice : Choice) → Is (if (k == n) && takes_it choice then after else before) (left_by choice (left.files file))

  pub left_before : (T : Type 0) (n : ℕ) (s0 s1 : DiskState) (e : Trouble) → IsSound (s1.files file) → ((c : List ℕ) → IsImage (s1.files file) c → Is before c) → FuseEnds {T = T} n Failed (λ _ _. Unit {0}) s0 s1 (Err e)
      → FuseEnds {T = T} (n + 2) Failed (Left (n + 1)) s0 s1 (Err e)
  left_before T n s0 s1 e sound every ends =
      ends_weaker T Trouble Failed (n + 2) (Early n (λ _ _. Unit {0})) (Left (n + 1)) s0 s1 (Err e)
      (λ k few left.
      let differs : k ≢ n + 1 = omega (arith, left.0) in
      λ choice. subst (λ b. Is (if b && takes_it choice then after else before) (left_by choice (s1.files file))) (sym (ne_eqb k (n + 1) differs)) (every (left_by choice (s1.files file)) (left_is_image choice (s1.files file) sound)))
      (fuse_first T T Trouble Failed n 2 (λ _ _. Unit {0}) s0 s1 e ends)

  pub fuse_of_two : (T : Type 0) (m : ℕ) (s0 s1 s2 : DiskState) (result : Result T Trouble) → Passed m s0 s1 → FuseEnds {T = T} 2 Failed (Left 1) s1 s2 result → FuseEnds {T = T} (m + 2) Failed (Left (m + 1)) s0 s2 result
  fuse_of_two T m s0 s1 s2 result first second =
      ends_weaker T Trouble Failed (m + 2) (Later m (Left 1)) (Left (m + 1)) s0 s2 result
      (λ k few left. λ choice. subst (λ b. Is (if b && takes_it choice then after else before) (left_by choice (s2.files file))) (same_test k left.0) (left.1 choice))
      (fuse_then T Trouble Failed m 2 (Left 1) s0 s1 s2 result first second)
    where
      same_test : (k : ℕ) → m ≤ k → (k - m == 1) ≡ (k == m + 1)
      same_test k enough = elim (cases_eq k (m + 1)) [
        | inl e ↦ let less : k - m ≡ 1 = omega (arith, e) in eq-eqb (k - m) 1 less ∙ sym (eq-eqb k (m + 1) e)
        | inr ne ↦ let less : k - m ≢ 1 = λ h. ne (omega (arith, h, enough)) in ne_eqb (k - m) 1 less ∙ sym (ne_eqb k (m + 1) ne)
      ]
