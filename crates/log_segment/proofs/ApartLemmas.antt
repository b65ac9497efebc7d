-- At any moment of a change of segments, the other files are as a crash could leave them before.
use Rattle.std.proofs.Common.{◌≡◌, ◌≢◌, ◌⊎◌, ⊎_elim, ℕ, ◌+◌, ◌<◌, ◌≤◌, List, length, sym, subst, arith}
use Rattle.cl_base.specs.Disk.{FileState, IsImage, LeavesOnly}
use Rattle.cl_base.specs.Every.{FileIs}
use Rattle.cl_base.specs.Gated.{LedImage}
use Rattle.cl_base.specs.Through.{IsTornFrom}
use Rattle.cl_base.specs.Torn.{weaker, run_after}
use Rattle.log_segment.specs.Whole.{IsApart}

-- a file that is no segment's isn't one of these
pub not_these : (g f : ℕ) → 2 ≤ f → f < 258 → g < 2 ⊎ 258 ≤ g → g ≢ f
not_these g f low high far is = ⊎_elim (λ under. omega (arith, under, is, low)) (λ over. omega (arith, over, is, high)) far

module _ {D : Type 0} (moment : D → ℕ) (left_since : D → ℕ → (ℕ → List ℕ) → Type 0) (d0 d1 : D) (f0 : ℕ → FileState) where
  pub apart_through : (f at n : ℕ) → 2 ≤ f → f < 258 → LeavesOnly moment left_since d0 d1 (IsTornFrom f at n f0) → LeavesOnly moment left_since d0 d1 (IsApart f0)
  apart_through f at n low high run = weaker moment left_since d0 d1 (IsTornFrom f at n f0) (IsApart f0) (λ c is. λ g far. is.others g (not_these g f low high far)) run

  pub apart_file : (f : ℕ) (P : List ℕ → Type 0) → 2 ≤ f → f < 258 → LeavesOnly moment left_since d0 d1 (FileIs f P f0) → LeavesOnly moment left_since d0 d1 (IsApart f0)
  apart_file f P low high run = weaker moment left_since d0 d1 (FileIs f P f0) (IsApart f0) (λ c is. λ g far. is.others g (not_these g f low high far)) run

  pub apart_led : (a at : ℕ) (head : List ℕ) (gate b : ℕ) (bytes : List ℕ) → 2 ≤ a → a < 258 → 2 ≤ b → b < 258 → LeavesOnly moment left_since d0 d1 (LedImage a at head gate b bytes f0) → LeavesOnly moment left_since d0 d1 (IsApart f0)
  apart_led a at head gate b bytes low high low_b high_b run = weaker moment left_since d0 d1 (LedImage a at head gate b bytes f0) (IsApart f0)
      (λ c is. λ g far.
      let not_a = not_these g a low high far in
      let not_b = not_these g b low_b high_b far in
      ⊎_elim
      (λ from. subst (IsImage (f0 g)) (sym (from.so.others g not_a not_b)) (from.image g))
      (λ torn. torn.others g not_a not_b)
      is) run

-- one change of segments after another
pub apart_after : {D : Type 0} (moment : D → ℕ) (left_since : D → ℕ → (ℕ → List ℕ) → Type 0) (d0 d1 d2 : D) (f0 f1 : ℕ → FileState) → ((g : ℕ) → g < 2 ⊎ 258 ≤ g → f1 g ≡ f0 g)
    → LeavesOnly moment left_since d0 d1 (IsApart f0) → LeavesOnly moment left_since d1 d2 (IsApart f1) → LeavesOnly moment left_since d0 d2 (IsApart f0)
apart_after moment left_since d0 d1 d2 f0 f1 same first second = run_after moment left_since d0 d1 d2 (IsApart f0) first
    (weaker moment left_since d1 d2 (IsApart f1) (IsApart f0) (λ c is. λ g far. subst (λ s. IsImage s (c g)) (same g far) (is g far)) second)
