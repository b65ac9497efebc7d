-- What a change of one member prints.
use Rattle.std.proofs.Common.{◌≡◌, ◌≢◌, inl, inr, ℕ, zero, suc, ◌<◌, ◌≤◌, Bool, true, false, length, refl, sym, ap, ◌∙◌, subst, arith, if◌then◌else◌}
use Rattle.std.specs.Prelude.{nat_lt}
use Rattle.std.proofs.lemmas.Bool.{cases_eq, cases_lt}
use Rattle.std.proofs.lemmas.Bool.Decides.{nat_tests}
use Rattle.entry_log.specs.Log.{Log}
use Rattle.world.specs.World.{World, member}
use Rattle.world.proofs.Effects.{if-cases}
use Rattle.service_runs.specs.Hosts.{longer, printed_by}
use Rattle.run_world.specs.RunWorld.{committed}

pub longer-short : (xs ys : Log) → length ys ≤ length xs → longer xs ys ≡ xs
longer-short xs ys h = if-cases (λ (z : Log). z ≡ xs) (nat_lt (length xs) (length ys)) ys xs (λ b. absurd (grind (arith, nat_tests, b, h))) (λ b. refl)

longer-up : (xs ys : Log) → length xs ≤ length (longer xs ys)
longer-up xs ys = if-cases (λ (z : Log). length xs ≤ length z) (nat_lt (length xs) (length ys)) ys xs (λ b. grind (arith, nat_tests, b)) (λ b. omega arith)

test-true : (m n : ℕ) → m < n → nat_lt m n ≡ true
test-true m n h = grind (arith, nat_tests, h)

test-false : (m n : ℕ) → n ≤ m → nat_lt m n ≡ false
test-false m n h = grind (arith, nat_tests, h)

-- where the others' commits stand within what is printed, the members below k print what the member m does
below : (v : World) (m k : ℕ) (p : Log) → ((j : ℕ) → j ≢ m → length (committed (member v j)) ≤ length p)
    → printed_by k v p ≡ (if nat_lt m k then longer p (committed (member v m)) else p)
below v m zero p few = if-cases (λ (z : Log). p ≡ z) (nat_lt m 0) _ _ (λ b. absurd (grind (arith, nat_tests, b))) (λ b. refl)
below v m (suc k) p few =
    let before = below v m k p few in
    let mine = committed (member v m) in
    let its = committed (member v k) in
    ap (λ (z : Log). longer z its) before ∙ elim (cases_eq k m) [
      | inl same ↦
          ap (λ (b : Bool). longer (if b then longer p mine else p) its) (test-false m k (omega (arith, same)))
          ∙ ap (λ (j : ℕ). longer p (committed (member v j))) same
          ∙ sym (ap (λ (b : Bool). if b then longer p mine else p) (test-true m (suc k) (omega (arith, same))))
      | inr other ↦ elim (cases_lt m k) [
        | inl lt ↦
            ap (λ (b : Bool). longer (if b then longer p mine else p) its) (test-true m k lt)
            ∙ longer-short (longer p mine) its (let a = few k other in let b = longer-up p mine in omega (arith, a, b))
            ∙ sym (ap (λ (b : Bool). if b then longer p mine else p) (test-true m (suc k) (omega (arith, lt))))
        | inr ge ↦
            ap (λ (b : Bool). longer (if b then longer p mine else p) its) (test-false m k ge)
            ∙ longer-short p its (few k other)
            ∙ sym (ap (λ (b : Bool). if b then longer p mine else p) (test-false m (suc k) (above k m ge other)))
      ]
    ]
  where
    above : (k m : ℕ) → k ≤ m → (k ≡ m → ⊥) → suc k ≤ m
    above k m h ne = omega (arith, h, ne)

pub prints-one : (v : World) (m k : ℕ) (p : Log) → m < k → ((j : ℕ) → j ≢ m → length (committed (member v j)) ≤ length p) → printed_by k v p ≡ longer p (committed (member v m))
prints-one v m k p l few = below v m k p few ∙ ap (λ (b : Bool). if b then longer p (committed (member v m)) else p) (test-true m k l)

-- where no commit stands past what is printed, nothing more is printed
pub prints-none : (v : World) (k : ℕ) (p : Log) → ((j : ℕ) → length (committed (member v j)) ≤ length p) → printed_by k v p ≡ p
prints-none v zero p few = refl
prints-none v (suc k) p few = ap (λ (z : Log). longer z (committed (member v k))) (prints-none v k p few) ∙ longer-short p (committed (member v k)) (few k)
