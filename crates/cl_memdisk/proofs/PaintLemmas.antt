-- A byte in one range after the other.
use Rattle.std.proofs.Common.{◌≡◌, ◌⊎◌, ℕ, ◌<◌, ◌≤◌, Bool, true, false, List, [], ◌∷◌, nat_le, nat_lt, refl, inl, inr}
use Rattle.std.specs.Prelude.{◌&&◌, ◌||◌, if◌then◌else◌}
use Rattle.std.proofs.lemmas.Bool.{leb-true, leb-false, ltb-true, ltb-false}
use Rattle.cl_base.specs.Disk.{covers, spot}

-- the byte at a place, after a range was filled
pub spot-more : (x from end k old new : ℕ) → (from ≤ k → k < end → new ≡ x) → (k < from ⊎ end ≤ k → new ≡ old) → (rs : List (ℕ × ℕ)) (past : ℕ)
    → spot x rs past k new ≡ spot x ((from, end) ∷ rs) past k old
spot-more x from end k old new inside outside rs past = by_tests (nat_le from k) (nat_lt k end) (covers rs k) (nat_le past k) refl refl
  where
    by_tests : (a b c d : Bool) → nat_le from k ≡ a → nat_lt k end ≡ b → (if c || d then x else new) ≡ (if ((a && b) || c) || d then x else old)
    by_tests true true true d p q = refl
    by_tests true true false true p q = refl
    by_tests true true false false p q = inside (leb-true from k p) (ltb-true k end q)
    by_tests true false true d p q = refl
    by_tests true false false true p q = refl
    by_tests true false false false p q = outside (inr (ltb-false k end q))
    by_tests false b true d p q = refl
    by_tests false b false true p q = refl
    by_tests false b false false p q = outside (inl (leb-false from k p))

-- and after all was filled from a place on
pub spot-last : (x from k old new : ℕ) → (from ≤ k → new ≡ x) → (k < from → new ≡ old) → new ≡ spot x [] from k old
spot-last x from k old new inside outside = by_test (nat_le from k) refl
  where
    by_test : (d : Bool) → nat_le from k ≡ d → new ≡ (if false || d then x else old)
    by_test true p = inside (leb-true from k p)
    by_test false p = outside (leb-false from k p)
