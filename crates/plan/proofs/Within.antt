-- A generated scenario that is asked for has 1 to 20,000 messages.
use Rattle.std.proofs.Common.{◌≡◌, ℕ, ◌≤◌, Bool, true, false, cond, ◌&&◌, leb, List, [], ◌∷◌, Option, Some, None, IfSome, option_map, bytes_eq, codes, refl, arith}
use Rattle.std.specs.Str.Parse.{digits_value}
use Rattle.std.proofs.lemmas.Bool.{and_parts}
use Rattle.std.proofs.lemmas.Bool.Decides.{nat_tests}
use Rattle.plan.specs.declared.words.Plan.{Plan}
use Rattle.plan.specs.declared.words.Plan.TheVariants as plans
use Rattle.plan.specs.Words.{Words, is_numeral, number_of, joined_dir, spaced_dir, dir_of, run_plan, check_plan, make_in, make_alone, or_else, make_plan, plan_of, IsMade, AsksWithin}

tested : (a b c : Bool) (v : ℕ) → (b ≡ true → 1 ≤ v) → (c ≡ true → v ≤ 20000) → IfSome (cond (a && b && c) (Some v) None) IsMade
tested true true true v low high = (low refl, high refl)
tested true true false v low high = tt
tested true false c v low high = tt
tested false b c v low high = tt

at_least : (v : ℕ) → leb 1 v ≡ true → 1 ≤ v
at_least v e = grind (arith, nat_tests)

at_most : (v : ℕ) → leb v 20000 ≡ true → v ≤ 20000
at_most v e = grind (arith, nat_tests)

number_within : (word : List ℕ) → IfSome (number_of word) IsMade
unfolding number_of
number_within word = tested (is_numeral word) (leb 1 (digits_value 10 word)) (leb (digits_value 10 word) 20000) (digits_value 10 word) (at_least (digits_value 10 word)) (at_most (digits_value 10 word))

in_within : (n : Option ℕ) (dir : Option (List ℕ)) → IfSome n IsMade → AsksWithin (make_in n dir)
in_within None dir h = tt
in_within (Some n) None h = tt
in_within (Some n) (Some d) h = h

alone_within : (n : Option ℕ) → IfSome n IsMade → AsksWithin (make_alone n)
alone_within None h = tt
alone_within (Some n) h = h

else_within : (p q : Option Plan) → AsksWithin p → AsksWithin q → AsksWithin (or_else p q)
else_within None q h k = k
else_within (Some p) q h k = h

run_within : (dir : Option (List ℕ)) → AsksWithin (option_map (λ d. plans.Run (Some d)) dir)
run_within None = tt
run_within (Some d) = tt

runs : (words : Words) → AsksWithin (run_plan words)
runs [] = tt
runs (word ∷ words) = run_within (dir_of (word ∷ words))

checks : (words : Words) → AsksWithin (check_plan words)
checks [] = tt
checks (word ∷ words) = tt

makes : (words : Words) → AsksWithin (make_plan words)
makes [] = tt
makes (n ∷ []) = alone_within (number_of n) (number_within n)
makes (a ∷ b ∷ []) = else_within (make_in (number_of a) (joined_dir b)) (make_in (number_of b) (joined_dir a)) (in_within (number_of a) (joined_dir b) (number_within a)) (in_within (number_of b) (joined_dir a) (number_within b))
makes (a ∷ b ∷ c ∷ []) = else_within (make_in (number_of a) (spaced_dir b c)) (make_in (number_of c) (spaced_dir a b)) (in_within (number_of a) (spaced_dir b c) (number_within a)) (in_within (number_of c) (spaced_dir a b) (number_within c))
makes (a ∷ b ∷ c ∷ d ∷ others) = tt

one_of : (b : Bool) (p q : Option Plan) → AsksWithin p → AsksWithin q → AsksWithin (cond b p q)
one_of true p q h k = h
one_of false p q h k = k

pub asks_within : (words : Words) → AsksWithin (plan_of words)
asks_within [] = tt
asks_within (word ∷ words) =
    one_of (bytes_eq word (codes "run")) (run_plan words) (cond (bytes_eq word (codes "check")) (check_plan words) (cond (bytes_eq word (codes "make")) (make_plan words) None)) (runs words)
    (one_of (bytes_eq word (codes "check")) (check_plan words) (cond (bytes_eq word (codes "make")) (make_plan words) None) (checks words)
    (one_of (bytes_eq word (codes "make")) (make_plan words) None (makes words) tt))
