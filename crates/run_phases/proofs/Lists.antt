-- Facts at each place of lists.
use Rattle.std.proofs.Common.{◌≡◌, List, [], ◌∷◌, ◌++◌, map, length, take, drop, refl, arith}
use Rattle.std.proofs.lemmas.Grind.{common_steps}
use Rattle.service_phases.specs.Pairs.{Each, Each2}

pub same_length : {A B : Type 0} (R : A → B → Type 0) (xs : List A) (ys : List B) → Each2 R xs ys → length xs ≡ length ys
same_length R [] [] h = refl
same_length R [] (y ∷ ys) h = absurd h
same_length R (x ∷ xs) [] h = absurd h
same_length R (x ∷ xs) (y ∷ ys) h = omega (arith, same_length R xs ys h.1)

-- what a slice of a list leaves, where it kept its length
pub written : {A : Type 0} (xs ys : List A) → length xs ≡ length ys → take (length xs) (ys ++ drop (length ys) xs) ≡ ys
written xs ys e = grind (arith, common_steps)

pub each_weaker : {A : Type 0} (P Q : A → Type 0) → ((x : A) → P x → Q x) → (xs : List A) → Each P xs → Each Q xs
each_weaker P Q f [] h = tt
each_weaker P Q f (x ∷ xs) h = (f x h.0, each_weaker P Q f xs h.1)

pub each_after : {A B : Type 0} (R : A → B → Type 0) (P : B → Type 0) → ((x : A) (y : B) → R x y → P y) → (xs : List A) (ys : List B) → Each2 R xs ys → Each P ys
each_after R P f [] [] h = tt
each_after R P f [] (y ∷ ys) h = absurd h
each_after R P f (x ∷ xs) [] h = absurd h
each_after R P f (x ∷ xs) (y ∷ ys) h = (f x y h.0, each_after R P f xs ys h.1)

pub each2_then : {A B C : Type 0} (R : A → B → Type 0) (S : B → C → Type 0) (T : A → C → Type 0) → ((x : A) (y : B) (z : C) → R x y → S y z → T x z) → (xs : List A) (ys : List B) (zs : List C)
    → Each2 R xs ys → Each2 S ys zs → Each2 T xs zs
each2_then R S T f [] [] [] h k = tt
each2_then R S T f [] [] (z ∷ zs) h k = absurd k
each2_then R S T f [] (y ∷ ys) zs h k = absurd h
each2_then R S T f (x ∷ xs) [] zs h k = absurd h
each2_then R S T f (x ∷ xs) (y ∷ ys) [] h k = absurd k
each2_then R S T f (x ∷ xs) (y ∷ ys) (z ∷ zs) h k = (f x y z h.0 k.0, each2_then R S T f xs ys zs h.1 k.1)

pub each2_both : {A B : Type 0} (R S : A → B → Type 0) (xs : List A) (ys : List B) → Each2 R xs ys → Each2 S xs ys → Each2 (λ x y. R x y × S x y) xs ys
each2_both R S [] [] h k = tt
each2_both R S [] (y ∷ ys) h k = absurd h
each2_both R S (x ∷ xs) [] h k = absurd h
each2_both R S (x ∷ xs) (y ∷ ys) h k = ((h.0, k.0), each2_both R S xs ys h.1 k.1)

pub each2_with : {A B : Type 0} (P : A → Type 0) (R : A → B → Type 0) (xs : List A) (ys : List B) → Each P xs → Each2 R xs ys → Each2 (λ x y. P x × R x y) xs ys
each2_with P R [] [] h k = tt
each2_with P R [] (y ∷ ys) h k = absurd k
each2_with P R (x ∷ xs) [] h k = absurd k
each2_with P R (x ∷ xs) (y ∷ ys) h k = ((h.0, k.0), each2_with P R xs ys h.1 k.1)

pub each2_right : {A B : Type 0} (P : B → Type 0) (R : A → B → Type 0) (xs : List A) (ys : List B) → Each P ys → Each2 R xs ys → Each2 (λ x y. R x y × P y) xs ys
each2_right P R [] [] h k = tt
each2_right P R [] (y ∷ ys) h k = absurd k
each2_right P R (x ∷ xs) [] h k = absurd k
each2_right P R (x ∷ xs) (y ∷ ys) h k = ((k.0, h.0), each2_right P R xs ys h.1 k.1)

pub each_map : {A B : Type 0} (f : A → B) (P : B → Type 0) (xs : List A) → Each (λ x. P (f x)) xs → Each P (map f xs)
each_map f P [] h = tt
each_map f P (x ∷ xs) h = (h.0, each_map f P xs h.1)

pub each2_weaker : {A B : Type 0} (R S : A → B → Type 0) → ((x : A) (y : B) → R x y → S x y) → (xs : List A) (ys : List B) → Each2 R xs ys → Each2 S xs ys
each2_weaker R S f [] [] h = tt
each2_weaker R S f [] (y ∷ ys) h = absurd h
each2_weaker R S f (x ∷ xs) [] h = absurd h
each2_weaker R S f (x ∷ xs) (y ∷ ys) h = (f x y h.0, each2_weaker R S f xs ys h.1)
