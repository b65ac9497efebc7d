-- Prefixes by recursion.
use Rattle.std.proofs.Common.{◌≡◌, ◌⊎◌, inl, inr, ℕ, ◌<◌, ◌≤◌, [], ◌∷◌, ◌++◌, length, refl, sym, ◌∙◌, subst, arith, ℤ, pos, ◌≤ℤ◌}
use Rattle.std.specs.Prelude.{⊤}
use Rattle.std.proofs.lemmas.Int.{ints}
use Rattle.cl_base.specs.declared.entry.Entry.{Entry}
use Rattle.entry_log.specs.Log.{Log, end_after, place_from, last_from, IsPrefixOf, IsWritten, RisesFrom}
use Rattle.entry_log.specs.Places.{end_after-past, place_from-up}

abbrev pub Leads : Log → Log → Type 0
Leads [] ys = ⊤
Leads (x ∷ xs) [] = ⊥
Leads (x ∷ xs) (y ∷ ys) = (x ≡ y) × Leads xs ys

pub leads : (xs ys : Log) → IsPrefixOf xs ys → Leads xs ys
leads [] ys p = tt
leads (x ∷ xs) [] p = let e = p.1 in absurd (cc)
leads (x ∷ xs) (y ∷ ys) p = (head-same x y (xs ++ p.0) ys p.1, leads xs ys (p.0, tail-same x y (xs ++ p.0) ys p.1))
  where
    head-same : (x y : Entry) (xs ys : Log) → x ∷ xs ≡ y ∷ ys → x ≡ y
    head-same x y xs ys e = cc

    tail-same : (x y : Entry) (xs ys : Log) → x ∷ xs ≡ y ∷ ys → xs ≡ ys
    tail-same x y xs ys e = cc

pub is_prefix : (xs ys : Log) → Leads xs ys → IsPrefixOf xs ys
is_prefix [] ys p = (ys, refl)
is_prefix (x ∷ xs) [] p = absurd p
is_prefix (x ∷ xs) (y ∷ ys) p = let q = is_prefix xs ys p.1 in (q.0, (λ i. p.0 i ∷ q.1 i))

pub Leads-self : (xs : Log) → Leads xs xs
Leads-self [] = tt
Leads-self (x ∷ xs) = (refl, Leads-self xs)

pub Leads-trans : (xs ys zs : Log) → Leads xs ys → Leads ys zs → Leads xs zs
Leads-trans [] ys zs p q = tt
Leads-trans (x ∷ xs) [] zs p q = absurd p
Leads-trans (x ∷ xs) (y ∷ ys) [] p q = absurd q
Leads-trans (x ∷ xs) (y ∷ ys) (z ∷ zs) p q = (p.0 ∙ q.0, Leads-trans xs ys zs p.1 q.1)

pub Leads-append : (xs ys : Log) → Leads xs (xs ++ ys)
Leads-append [] ys = tt
Leads-append (x ∷ xs) ys = (refl, Leads-append xs ys)

-- two prefixes of a log
pub Leads-either : (xs ys zs : Log) → Leads xs zs → Leads ys zs → Leads xs ys ⊎ Leads ys xs
Leads-either [] ys zs p q = inl tt
Leads-either (x ∷ xs) [] zs p q = inr tt
Leads-either (x ∷ xs) (y ∷ ys) [] p q = absurd p
Leads-either (x ∷ xs) (y ∷ ys) (z ∷ zs) p q = elim (Leads-either xs ys zs p.1 q.1) [ inl a ↦ inl (p.0 ∙ sym q.0, a) | inr b ↦ inr (q.0 ∙ sym p.0, b) ]

pub IsWritten-front : (xs ys : Log) → Leads xs ys → IsWritten ys → IsWritten xs
IsWritten-front [] ys p w = tt
IsWritten-front (x ∷ xs) [] p w = absurd p
IsWritten-front (x ∷ xs) (y ∷ ys) p w = (subst (λ (z : Entry). 0 < length z.bytes) (sym p.0) w.0, subst (λ (z : Entry). pos 0 ≤ℤ z.term) (sym p.0) w.1, IsWritten-front xs ys p.1 w.2)

-- of two prefixes of a written log that with the lower place leads the other
pub Leads-by_place : (p : ℕ) (xs ys zs : Log) → IsWritten zs → Leads xs zs → Leads ys zs → place_from p xs ≤ place_from p ys → Leads xs ys
Leads-by_place p [] ys zs w a b h = tt
Leads-by_place p (x ∷ xs) ys [] w a b h = absurd a
Leads-by_place p (x ∷ xs) [] (z ∷ zs) w a b h =
    let wx = IsWritten-front (x ∷ xs) (z ∷ zs) a w in
    absurd (let f = end_after-past p (length x.bytes) wx.0 in let g = place_from-up (end_after p (length x.bytes)) xs wx.2 in omega (arith, f, g, h))
Leads-by_place p (x ∷ xs) (y ∷ ys) (z ∷ zs) w a b h =
    let same : x ≡ y = a.0 ∙ sym b.0 in
    (same, Leads-by_place (end_after p (length x.bytes)) xs ys zs w.2 a.1 b.1 (subst (λ (v : Entry). place_from (end_after p (length x.bytes)) xs ≤ place_from (end_after p (length v.bytes)) ys) (sym same) h))

pub place-up : (p : ℕ) (xs ys : Log) → IsWritten ys → Leads xs ys → place_from p xs ≤ place_from p ys
place-up p [] ys w a = place_from-up p ys w
place-up p (x ∷ xs) [] w a = absurd a
place-up p (x ∷ xs) (y ∷ ys) w a = subst (λ (v : Entry). place_from (end_after p (length x.bytes)) xs ≤ place_from (end_after p (length v.bytes)) ys) a.0 (place-up (end_after p (length x.bytes)) xs ys w.2 a.1)

pub last_from-up : (t : ℤ) (xs : Log) → RisesFrom t xs → t ≤ℤ last_from t xs
last_from-up t [] r = omega (arith, ints)
last_from-up t (x ∷ xs) r = let a = r.0 in let b = last_from-up x.term xs r.1 in omega (arith, ints, a, b)

-- the last term of a prefix is no greater
pub last-up : (t : ℤ) (xs ys : Log) → RisesFrom t ys → Leads xs ys → last_from t xs ≤ℤ last_from t ys
last-up t [] ys r a = last_from-up t ys r
last-up t (x ∷ xs) [] r a = absurd a
last-up t (x ∷ xs) (y ∷ ys) r a = subst (λ (v : Entry). last_from v.term xs ≤ℤ last_from y.term ys) (sym a.0) (last-up y.term xs ys r.1 a.1)

pub Rises-front : (t : ℤ) (xs ys : Log) → Leads xs ys → RisesFrom t ys → RisesFrom t xs
Rises-front t [] ys p r = tt
Rises-front t (x ∷ xs) [] p r = absurd p
Rises-front t (x ∷ xs) (y ∷ ys) p r = (subst (λ (z : Entry). t ≤ℤ z.term) (sym p.0) r.0, subst (λ (z : Entry). RisesFrom z.term xs) (sym p.0) (Rises-front y.term xs ys p.1 r.1))
