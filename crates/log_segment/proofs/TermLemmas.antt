-- The terms that begin in a log, with one entry more and in its first entries.
use Rattle.std.specs.Prelude.{Some, None, nat_lt, ◌==◌, ◌&&◌, if◌then◌else◌}
use Rattle.std.specs.List.{AllWithin}
use Rattle.std.specs.List.Sorted.{IsNonDecreasingBy}
use Rattle.std.specs.Int.{w64, cast_unsigned}
use Rattle.std.proofs.Common.{pos, ◌≡◌, ℕ, zero, suc, ◌+◌, ◌<◌, ◌≤◌, Bool, true, false, List, [], ◌∷◌, ◌++◌, length, take, get_or, Option, refl, sym, ◌∙◌, ap, subst, arith}
use Rattle.std.proofs.lemmas.Bool.{lt-ltb, ltb-true}
use Rattle.cl_base.specs.declared.entry.Entry.{Entry}
use Rattle.wire_prims.specs.Fields.{u16_at, i64_at}
use Rattle.entry_log.specs.Log.{Log}
use Rattle.log_segment.specs.declared.kept.NewTerm.{NewTerm}
use Rattle.log_segment.specs.Held.{new_term_of, put_term, new_terms}

put_append : (o : Option NewTerm) (a b : List NewTerm) → put_term o (a ++ b) ≡ put_term o a ++ b
put_append None a b = refl
put_append (Some t) a b = refl

pub new_terms_more : (i : ℕ) (log : Log) (e : Entry) → new_terms i (log ++ e ∷ []) ≡ new_terms i log ++ put_term (new_term_of (i + length log) e.bytes) []
new_terms_more i [] e = let here : i ≡ i + 0 = omega arith in ap (λ k. put_term (new_term_of k e.bytes) []) here
new_terms_more i (x ∷ xs) e =
    let next : i + 1 + length xs ≡ i + suc (length xs) = omega arith in
    ap (put_term (new_term_of i x.bytes)) (new_terms_more (i + 1) xs e ∙ ap (λ k. new_terms (i + 1) xs ++ put_term (new_term_of k e.bytes) []) next) ∙ put_append (new_term_of i x.bytes) (new_terms (i + 1) xs) (put_term (new_term_of (i + suc (length xs)) e.bytes) [])

-- ---- by the indices of their entries

abbrev IsOf : ℕ → Option NewTerm → Type 0
IsOf i None = Unit {0}
IsOf i (Some t) = t.entry ≡ i

abbrev made : ℕ → List ℕ → NewTerm
made i event = record { entry = i; term = i64_at 8 event; base = cast_unsigned w64 (i64_at 32 event); stamp = i64_at 24 event }

of_index : (i : ℕ) (event : List ℕ) → IsOf i (new_term_of i event)
of_index i event = go ((length event == 48) && (u16_at 2 event == 24))
  where
    go : (b : Bool) → IsOf i (if b then Some (made i event) else None)
    go true = refl
    go false = tt

abbrev Above : ℕ → List NewTerm → Type 0
Above i [] = Unit {0}
Above i (t ∷ ts) = (i ≤ t.entry) × Above (t.entry + 1) ts

above_up : (i j : ℕ) (ts : List NewTerm) → i ≤ j → Above j ts → Above i ts
above_up i j [] le is = tt
above_up i j (t ∷ ts) le is = (let first = is.0 in omega arith, is.1)

put_above : (i : ℕ) (o : Option NewTerm) (ts : List NewTerm) → IsOf i o → Above (i + 1) ts → Above i (put_term o ts)
put_above i None ts is above = above_up i (i + 1) ts (omega arith) above
put_above i (Some t) ts is above = (omega (arith, is), subst (λ k. Above (k + 1) ts) (sym is) above)

terms_above : (i : ℕ) (log : Log) → Above i (new_terms i log)
terms_above i [] = tt
terms_above i (e ∷ es) = put_above i (new_term_of i e.bytes) (new_terms (i + 1) es) (of_index i e.bytes) (terms_above (i + 1) es)

above_at : (i : ℕ) (ts : List NewTerm) (k : ℕ) (d : NewTerm) → Above i ts → k < length ts → i ≤ (get_or ts k d).entry
above_at i [] k d is below = absurd (omega (arith, below))
above_at i (t ∷ ts) zero d is below = is.0
above_at i (t ∷ ts) (suc k) d is below = let rest = above_at (t.entry + 1) ts k d is.1 (omega (arith, below)) in let first = is.0 in omega (arith, rest, first)

rising : (i : ℕ) (ts : List NewTerm) (j k : ℕ) (d : NewTerm) → Above i ts → j ≤ k → k < length ts → (get_or ts j d).entry ≤ (get_or ts k d).entry
rising i [] j k d is le below = absurd (omega (arith, below))
rising i (t ∷ ts) zero zero d is le below = omega arith
rising i (t ∷ ts) zero (suc k) d is le below = let rest = above_at (t.entry + 1) ts k d is.1 (omega (arith, below)) in omega (arith, rest)
rising i (t ∷ ts) (suc j) zero d is le below = absurd (omega (arith, le))
rising i (t ∷ ts) (suc j) (suc k) d is le below = rising (t.entry + 1) ts j k d is.1 (omega (arith, le)) (omega (arith, below))

abbrev pub begins_before : ℕ → NewTerm → Bool
begins_before n t = nat_lt t.entry n

pub terms_rise : (log : Log) → IsNonDecreasingBy (λ (t : NewTerm). t.entry) (new_terms 0 log)
terms_rise log = λ i j d le below. rising 0 (new_terms 0 log) i j d (terms_above 0 log) le below

clash : true ≡ false → ⊥
clash is = cc

-- all up to r begin before entry m, and all from r on don't
abbrev Before : ℕ → List NewTerm → ℕ → Type 0
Before m ts r = AllWithin (λ t. begins_before m t ≡ true) ts 0 r

abbrev After : ℕ → List NewTerm → ℕ → Type 0
After m ts r = AllWithin (λ t. begins_before m t ≡ false) ts r (length ts)

point_step : (i n : ℕ) (ts kept : List NewTerm) → ((r : ℕ) → r ≤ length ts → Before (i + suc n) ts r → After (i + suc n) ts r → take r ts ≡ kept) → (o : Option NewTerm) → IsOf i o → (r : ℕ) → r ≤ length (put_term o ts) → Before (i + suc n) (put_term o ts) r → After (i + suc n) (put_term o ts) r
    → take r (put_term o ts) ≡ put_term o kept
point_step i n ts kept rest None is r le first last = rest r le first last
point_step i n ts kept rest (Some t) is zero le first last = absurd (clash (sym (lt-ltb t.entry (i + suc n) (omega (arith, is))) ∙ last 0 t (omega arith) (omega arith)))
point_step i n ts kept rest (Some t) is (suc r) le first last =
    ap (λ l. t ∷ l) (rest r (omega (arith, le)) (λ k e low high. first (suc k) e (omega arith) (omega (arith, high))) (λ k e low high. last (suc k) e (omega (arith, low)) (omega (arith, high))))

-- the point up to which terms begin before entry i + n
point_from : (i n : ℕ) (log : Log) (r : ℕ) (d : NewTerm) → r ≤ length (new_terms i log) → Before (i + n) (new_terms i log) r → After (i + n) (new_terms i log) r → take r (new_terms i log) ≡ new_terms i (take n log)
point_from i zero log zero d le first last = refl
point_from i zero log (suc r) d le first last =
    let low = ltb-true (get_or (new_terms i log) 0 d).entry (i + 0) (first 0 d (omega arith) (omega arith)) in
    let high = above_at i (new_terms i log) 0 d (terms_above i log) (omega (arith, le)) in
    absurd (omega (arith, low, high))
point_from i (suc n) [] zero d le first last = refl
point_from i (suc n) [] (suc r) d le first last = absurd (omega (arith, le))
point_from i (suc n) (e ∷ es) r d le first last =
    let next : i + suc n ≡ i + 1 + n = omega arith in
    point_step i n (new_terms (i + 1) es) (new_terms (i + 1) (take n es))
    (λ k fits one two. point_from (i + 1) n es k d fits (subst (λ m. Before m (new_terms (i + 1) es) k) next one) (subst (λ m. After m (new_terms (i + 1) es) k) next two)) (new_term_of i e.bytes) (of_index i e.bytes) r le first last

-- the terms that begin in the first entries
pub terms_point : (n : ℕ) (log : Log) (r : ℕ) → r ≤ length (new_terms 0 log) → AllWithin (λ t. begins_before n t ≡ true) (new_terms 0 log) 0 r → AllWithin (λ t. begins_before n t ≡ false) (new_terms 0 log) r (length (new_terms 0 log)) → take r (new_terms 0 log) ≡ new_terms 0 (take n log)
terms_point n log r le first last =
    let same : n ≡ 0 + n = omega arith in
    point_from 0 n log r (record { entry = 0; term = pos 0; base = 0; stamp = pos 0 }) le (subst (λ m. Before m (new_terms 0 log) r) same first) (subst (λ m. After m (new_terms 0 log) r) same last)
