-- Two logs are told as equal exactly where they are.
use Rattle.std.proofs.Common.{◌≡◌, ℕ, suc, Bool, true, false, [], ◌∷◌, Some, None, refl, ap, ◌∙◌}
use Rattle.std.specs.Prelude.{if◌then◌else◌, bytes_eq}
use Rattle.std.specs.Ordering.{int_eq}
use Rattle.std.proofs.lemmas.Bool.{and_parts, and_from}
use Rattle.std.proofs.lemmas.Bool.Decides.{Decides-int_eq}
use Rattle.std.proofs.lemmas.Slice.Eq.{bytes_eq-Decides}
use Rattle.cl_base.specs.declared.entry.Entry.{Entry}
use Rattle.entry_log.specs.Log.{Log}
use Rattle.cluster_tool.specs.declared.compare.Outcome.TheVariants as outcome
use Rattle.cluster_tool.specs.declared.compare.Comparison.{Comparison}
use Rattle.cluster_tool.specs.Compared.{is_same, differ_or, compared_from}

same_true : (a b : Entry) → is_same a b ≡ true → a ≡ b
same_true a b is =
    let parts = and_parts (int_eq a.term b.term) (bytes_eq a.bytes b.bytes) is in
    let term = (Decides-int_eq a.term b.term).0 parts.0 in
    let bytes = (bytes_eq-Decides a.bytes b.bytes).0 parts.1 in
    λ i. record { term = term i; bytes = bytes i }

same_self : (a : Entry) → is_same a a ≡ true
same_self a = and_from (int_eq a.term a.term) (bytes_eq a.bytes a.bytes) ((Decides-int_eq a.term a.term).1 refl) ((bytes_eq-Decides a.bytes a.bytes).1 refl)

abbrev differs : ℕ → Entry → Entry → Comparison
differs n a b = record { common = n; outcome = outcome.Differ a.term b.term }

-- by whether two entries are the same
abbrev by : Bool → ℕ → Entry → Entry → Comparison → Comparison
by b n x y behind = differ_or (if b then None else Some (differs n x y)) behind

step : (b : Bool) (n : ℕ) (x y : Entry) (xs ys : Log) (behind : Comparison) → is_same x y ≡ b → (behind.outcome ≡ outcome.Equal → xs ≡ ys) → (by b n x y behind).outcome ≡ outcome.Equal → x ∷ xs ≡ y ∷ ys
step true n x y xs ys behind same others is = λ i. same_true x y same i ∷ others is i
step false n x y xs ys behind same others is = absurd cc

pub equal_from : (n : ℕ) (xs ys : Log) → (compared_from n xs ys).outcome ≡ outcome.Equal → xs ≡ ys
equal_from n [] [] is = refl
equal_from n [] (y ∷ ys) is = absurd cc
equal_from n (x ∷ xs) [] is = absurd cc
equal_from n (x ∷ xs) (y ∷ ys) is = step (is_same x y) n x y xs ys (compared_from (suc n) xs ys) refl (equal_from (suc n) xs ys) is

pub equal_to : (n : ℕ) (xs : Log) → (compared_from n xs xs).outcome ≡ outcome.Equal
equal_to n [] = refl
equal_to n (x ∷ xs) = ap (λ (b : Bool). (by b n x x (compared_from (suc n) xs xs)).outcome) (same_self x) ∙ equal_to (suc n) xs
