-- The last keep-alive of each session.
use Rattle.std.proofs.Common.{◌≡◌, ℕ, suc, ◌+◌, ◌<◌, ◌≤◌, ℤ, Bool, true, false, List, [], ◌∷◌, ◌++◌, length, set, Option, Some, None, refl, ap, subst, arith, nat_lt, tests, rules, ltb-false}
use Rattle.std.specs.Ordering.{int_eq}
use Rattle.std.specs.List.{position, position_or_len}
use Rattle.member_module.specs.Held.{heard}

-- whether a keep-alive is of this session
abbrev pub of_session : ℤ → ℤ × ℕ → Bool
of_session session a = int_eq a.0 session

there_first : (session : ℤ) (now : ℕ) (x : ℤ × ℕ) (xs : List (ℤ × ℕ)) (b : Bool) → int_eq x.0 session ≡ b → position_or_len (of_session session) (x ∷ xs) < length (x ∷ xs)
    → (position_or_len (of_session session) xs < length xs → heard session now xs ≡ set xs (position_or_len (of_session session) xs) (session, now))
    → heard session now (x ∷ xs) ≡ set (x ∷ xs) (position_or_len (of_session session) (x ∷ xs)) (session, now)
there_first session now x xs true is h rest = rw is refl
there_first session now x xs false is h rest =
    let place : position_or_len (of_session session) (x ∷ xs) ≡ 1 + position_or_len (of_session session) xs = rw is refl in
    let next : 1 + position_or_len (of_session session) xs ≡ suc (position_or_len (of_session session) xs) = omega arith in
    rw (is, next) (ap (λ (l : List (ℤ × ℕ)). x ∷ l) (rest (omega (arith, h, place))))

-- it takes the place of the one of its session
heard_there : (session : ℤ) (now : ℕ) (xs : List (ℤ × ℕ)) → position_or_len (of_session session) xs < length xs → heard session now xs ≡ set xs (position_or_len (of_session session) xs) (session, now)
heard_there session now [] h = absurd (omega (arith, h))
heard_there session now (x ∷ xs) h = there_first session now x xs (int_eq x.0 session) refl h (heard_there session now xs)

none_first : (session : ℤ) (now : ℕ) (x : ℤ × ℕ) (xs : List (ℤ × ℕ)) (b : Bool) → int_eq x.0 session ≡ b → length (x ∷ xs) ≤ position_or_len (of_session session) (x ∷ xs)
    → (length xs ≤ position_or_len (of_session session) xs → heard session now xs ≡ xs ++ (session, now) ∷ [])
    → heard session now (x ∷ xs) ≡ (x ∷ xs) ++ (session, now) ∷ []
none_first session now x xs true is h rest =
    let place : position_or_len (of_session session) (x ∷ xs) ≡ 0 = rw is refl in
    absurd (omega (arith, h, place))
none_first session now x xs false is h rest =
    let place : position_or_len (of_session session) (x ∷ xs) ≡ 1 + position_or_len (of_session session) xs = rw is refl in
    rw is (ap (λ (l : List (ℤ × ℕ)). x ∷ l) (rest (omega (arith, h, place))))

-- or stands behind the others
heard_none : (session : ℤ) (now : ℕ) (xs : List (ℤ × ℕ)) → length xs ≤ position_or_len (of_session session) xs → heard session now xs ≡ xs ++ (session, now) ∷ []
heard_none session now [] h = refl
heard_none session now (x ∷ xs) h = none_first session now x xs (int_eq x.0 session) refl h (heard_none session now xs)

same_some : (i j : ℕ) → Some i ≡ Some j → i ≡ j
same_some i j h = search rules

-- by the place where the first of its session stands
pub heard_at : (session : ℤ) (now : ℕ) (xs : List (ℤ × ℕ)) (r : Option ℕ) (i : ℕ) → r ≡ position (of_session session) xs → r ≡ Some i → heard session now xs ≡ set xs i (session, now)
heard_at session now xs r i found is = at (nat_lt (position_or_len (of_session session) xs) (length xs)) refl
  where
    at : (b : Bool) → nat_lt (position_or_len (of_session session) xs) (length xs) ≡ b → heard session now xs ≡ set xs i (session, now)
    at true less =
        subst (λ k. heard session now xs ≡ set xs k (session, now)) (same_some (position_or_len (of_session session) xs) i (cc)) (heard_there session now xs (search tests))
    at false less = absurd (cc)

pub heard_last : (session : ℤ) (now : ℕ) (xs : List (ℤ × ℕ)) (r : Option ℕ) → r ≡ position (of_session session) xs → r ≡ None → heard session now xs ≡ xs ++ (session, now) ∷ []
heard_last session now xs r found is = at (nat_lt (position_or_len (of_session session) xs) (length xs)) refl
  where
    at : (b : Bool) → nat_lt (position_or_len (of_session session) xs) (length xs) ≡ b → heard session now xs ≡ xs ++ (session, now) ∷ []
    at true less = absurd (cc)
    at false less = heard_none session now xs (ltb-false _ _ less)
