-- What is true of every ticker.
use Rattle.std.proofs.Common.{◌≡◌, ℕ, suc, zero, ℤ, ◌+◌, ◌*◌, ◌^◌, ◌<◌, ◌≤◌, ◌==◌, true, false, List, [], ◌∷◌, ◌++◌, length, append-nil, append_assoc, filter, Some, None, Ok, refl, sym, ◌∙◌, ap, subst, arith}
use Rattle.std.proofs.lemmas.Bool.{cond_both}
use Rattle.std.specs.Ordering.{int_cmp, match_ordering, ordering_reverse, int_eq}
use Rattle.std.specs.Cmp.{int_cmp_total}
use Rattle.std.specs.declared.cmp.Ordering.{Ordering}
use Rattle.std.specs.declared.cmp.Ordering.TheVariants.{Less, Equal, Greater}
use Rattle.std.specs.Int.RustNames.{FitsSigned}
use Rattle.std.specs.Int.{w64}
use Rattle.std.specs.List.{AllByRecursion}
use Rattle.std.specs.List.Sorted.{IsStrictlySortedBy}
use Rattle.std.specs.Map.{keys_of}
use Rattle.std.specs.BTreeMap.{insert_entry}
use Rattle.std.specs.Prelude.{Bool, ◌⊎◌, Option, Result, Err, nat_lt}
use Rattle.std.specs.Ordering.{is_lt}
use Rattle.std.proofs.Common.{inl, inr}
use Rattle.std.proofs.lemmas.Bool.Decides.{nat_tests}
use Rattle.std.proofs.lemmas.List.{length-append}
use Rattle.wire_prims.specs.Fields.{le32, signed64, u32_at, i64_at, length-le32, length-signed64, u32_at-put, i64_at-put}
use Rattle.wire_prims.specs.declared.fault.Bad.{Bad}
use Rattle.service_api.specs.Ticker.{Ids, Fits, IsTable, spelled_pairs, spelled_ids, restored_ids, rises, behind, pair_at, then_pairs, pairs_at}

-- ---- one more id, or another session for one

pub fit_insert : (k v : ℤ) (es : Ids) → AllByRecursion Fits es → FitsSigned w64 k → FitsSigned w64 v → AllByRecursion Fits (insert_entry int_cmp es k v)
fit_insert k v [] fit fk fv = ((fk, fv), tt)
fit_insert k v (e ∷ es) fit fk fv =
    elim (int_cmp k e.0) as (λ o. AllByRecursion Fits (match_ordering o ((k, v) ∷ e ∷ es) ((e.0, v) ∷ es) (e ∷ insert_entry int_cmp es k v))) [
      | Less ↦ ((fk, fv), fit)
      | Equal ↦ ((fit.0.0, fv), fit.1)
      | Greater ↦ (fit.0, fit_insert k v es fit.1 fk fv)
    ]

pub fit_filter : (p : ℤ × ℤ → Bool) (es : Ids) → AllByRecursion Fits es → AllByRecursion Fits (filter p es)
fit_filter p [] fit = tt
fit_filter p (e ∷ es) fit = cond_both (p e) (e ∷ filter p es) (filter p es) (AllByRecursion Fits) (λ _. (fit.0, fit_filter p es fit.1)) (λ _. fit_filter p es fit.1)

-- ---- records

length_pairs : (es : Ids) → length (spelled_pairs es) ≡ 16 * length es
length_pairs [] = refl
length_pairs (e ∷ es) =
    omega (
      arith,
      length-append (signed64 e.0) (signed64 e.1 ++ spelled_pairs es),
      length-append (signed64 e.1) (spelled_pairs es),
      length-signed64 e.0,
      length-signed64 e.1,
      length_pairs es,
    )

pub ids_short : (ids : Ids) → IsTable ids → length (spelled_ids ids) < 2 ^ 31
ids_short ids table =
    let few = table.few in omega (arith, length-append (le32 (length ids)) (spelled_pairs ids), length-le32 (length ids), length_pairs ids)

-- each id is above the one before it
Follows : Option ℤ → Ids → Type 0
Follows last [] = Unit {0}
Follows last (e ∷ es) = (rises last e.0 ≡ true) × Follows (Some e.0) es

follows_sorted : (k : ℤ) (es : Ids) → AllByRecursion (λ y. int_cmp k y ≡ Less) (keys_of es) → IsStrictlySortedBy int_cmp (keys_of es) → Follows (Some k) es
unfolding IsStrictlySortedBy Follows
follows_sorted k [] all sorted = tt
follows_sorted k (e ∷ es) all sorted = (ap is_lt all.0, follows_sorted e.0 es sorted.0 sorted.1)

follows_all : (es : Ids) → IsStrictlySortedBy int_cmp (keys_of es) → Follows None es
unfolding IsStrictlySortedBy Follows
follows_all [] sorted = tt
follows_all (e ∷ es) sorted = (refl, follows_sorted e.0 es sorted.0 sorted.1)

-- a pair that stands behind others is read
pair_back : (e : ℤ × ℤ) (front rest : List ℕ) (at : ℕ) (last : Option ℤ) → length front ≡ at → rises last e.0 ≡ true → Fits e
    → pair_at at last (front ++ (signed64 e.0 ++ (signed64 e.1 ++ rest))) ≡ Ok e
pair_back e front rest at last len rising fits =
    let n : length (front ++ (signed64 e.0 ++ (signed64 e.1 ++ rest))) ≡ at + 16 + length rest =
    omega (
      arith,
      length-append front (signed64 e.0 ++ (signed64 e.1 ++ rest)),
      length-append (signed64 e.0) (signed64 e.1 ++ rest),
      length-append (signed64 e.1) rest,
      length-signed64 e.0,
      length-signed64 e.1,
    ) in
    let id_there : nat_lt (length (front ++ (signed64 e.0 ++ (signed64 e.1 ++ rest)))) (at + 8) ≡ false = grind (arith, nat_tests) in
    let both_there : nat_lt (length (front ++ (signed64 e.0 ++ (signed64 e.1 ++ rest)))) (at + 16) ≡ false = grind (arith, nat_tests) in
    let id : i64_at at (front ++ (signed64 e.0 ++ (signed64 e.1 ++ rest))) ≡ e.0 = i64_at-put at e.0 front (signed64 e.1 ++ rest) len fits.0 in
    let session : i64_at (at + 8) (front ++ (signed64 e.0 ++ (signed64 e.1 ++ rest))) ≡ e.1 =
    ap (i64_at (at + 8)) (sym (append_assoc front (signed64 e.0) (signed64 e.1 ++ rest)))
    ∙ i64_at-put (at + 8) e.1 (front ++ signed64 e.0) rest (omega (arith, length-append front (signed64 e.0), length-signed64 e.0)) fits.1 in
    rw (id_there, id, rising, both_there, session) refl

-- a pair that is read is the first of them, and a fault in it ends the reading
pairs_next : (n at : ℕ) (last : Option ℤ) (bytes : List ℕ) (e : ℤ × ℤ) → pair_at at last bytes ≡ Ok e → pairs_at (suc n) at last bytes ≡ behind (e ∷ []) (pairs_at n (at + 16) (Some e.0) bytes)
pairs_next n at last bytes e pair = ap (λ r. then_pairs r (λ id. pairs_at n (at + 16) (Some id) bytes)) pair

pairs_stop : (n at : ℕ) (last : Option ℤ) (bytes : List ℕ) (b : Bad) → pair_at at last bytes ≡ Err b → pairs_at (suc n) at last bytes ≡ Err b
pairs_stop n at last bytes b fault = ap (λ r. then_pairs r (λ id. pairs_at n (at + 16) (Some id) bytes)) fault

pairs_back : (es : Ids) (front : List ℕ) (at : ℕ) (last : Option ℤ) → length front ≡ at → Follows last es → AllByRecursion Fits es → pairs_at (length es) at last (front ++ spelled_pairs es) ≡ Ok es
unfolding Follows
pairs_back [] front at last len follows fit =
    let n : length (front ++ []) ≡ at = omega (arith, length-append front []) in
    let over : nat_lt at (length (front ++ [])) ≡ false = grind (arith, nat_tests) in
    rw over refl
pairs_back (e ∷ es) front at last len follows fit =
    let front' : List ℕ = (front ++ signed64 e.0) ++ signed64 e.1 in
    let same : front ++ (signed64 e.0 ++ (signed64 e.1 ++ spelled_pairs es)) ≡ front' ++ spelled_pairs es =
    sym (append_assoc front (signed64 e.0) (signed64 e.1 ++ spelled_pairs es)) ∙ sym (append_assoc (front ++ signed64 e.0) (signed64 e.1) (spelled_pairs es)) in
    let rest : pairs_at (length es) (at + 16) (Some e.0) (front' ++ spelled_pairs es) ≡ Ok es =
    pairs_back es front' (at + 16) (Some e.0) (omega (arith, length-append (front ++ signed64 e.0) (signed64 e.1), length-append front (signed64 e.0), length-signed64 e.0, length-signed64 e.1)) follows.1 fit.1 in
    pairs_next (length es) at last (front ++ (signed64 e.0 ++ (signed64 e.1 ++ spelled_pairs es))) e (pair_back e front (spelled_pairs es) at last len follows.0 fit.0)
    ∙ ap (λ b. behind (e ∷ []) (pairs_at (length es) (at + 16) (Some e.0) b)) same ∙ ap (behind (e ∷ [])) rest

-- records restore the ids
pub ids_restored : (ids : Ids) → IsTable ids → restored_ids (spelled_ids ids) ≡ Ok ids
ids_restored ids table =
    let few = table.few in
    let n : length (spelled_ids ids) ≡ 4 + length (spelled_pairs ids) = omega (arith, length-append (le32 (length ids)) (spelled_pairs ids), length-le32 (length ids)) in
    let there : nat_lt (length (spelled_ids ids)) 4 ≡ false = grind (arith, nat_tests) in
    let count : u32_at 0 (spelled_ids ids) ≡ length ids = u32_at-put 0 (length ids) [] (spelled_pairs ids) refl (omega arith) in
    let within : nat_lt 4096 (length ids) ≡ false = grind (arith, nat_tests) in
    rw (there, count, within) (pairs_back ids (le32 (length ids)) 4 None (length-le32 (length ids)) (follows_all ids table.rising) table.fit)

-- ---- reading one pair more

-- each id is the last one or below it
unfoldable pub Below : Option ℤ → Ids → Type 0
Below None es = es ≡ []
Below (Some k) es = AllByRecursion (λ e. (int_cmp e.0 k ≡ Less) ⊎ (e.0 ≡ k)) es

-- what was read of so many ids: these in order, and the rest is still to be read
pub record HasRead (said : Result Ids Bad) (n at : ℕ) (last : Option ℤ) (bytes : List ℕ) (es : Ids) : Type 0 where
  pub rest : said ≡ behind es (pairs_at n at last bytes)
  pub rising : IsStrictlySortedBy int_cmp (keys_of es)
  pub below : Below last es
  pub fit : AllByRecursion Fits es

behind_twice : (es : Ids) (e : ℤ × ℤ) (r : Result Ids Bad) → behind es (behind (e ∷ []) r) ≡ behind (es ++ e ∷ []) r
behind_twice es e (Ok ids) = ap Ok (sym (append_assoc es (e ∷ []) ids))
behind_twice es e (Err b) = refl

pub read_none : (n : ℕ) (bytes : List ℕ) → HasRead (pairs_at n 4 None bytes) n 4 None bytes []
unfolding Below IsStrictlySortedBy
read_none n bytes = record { rest = alone (pairs_at n 4 None bytes); rising = tt; below = refl; fit = tt }
  where
    alone : (r : Result Ids Bad) → r ≡ behind [] r
    alone (Ok ids) = refl
    alone (Err b) = refl

pub read_bad : (said : Result Ids Bad) (n at : ℕ) (last : Option ℤ) (bytes : List ℕ) (es : Ids) (b : Bad) → HasRead said (suc n) at last bytes es → pair_at at last bytes ≡ Err b → said ≡ Err b
read_bad said n at last bytes es b h bad = h.rest ∙ ap (behind es) (pairs_stop n at last bytes b bad)

insert_last : (es : Ids) (k v : ℤ) → AllByRecursion (λ e. int_cmp k e.0 ≡ Greater) es → insert_entry int_cmp es k v ≡ es ++ (k, v) ∷ []
insert_last [] k v all = refl
insert_last (e ∷ es) k v all = rw (all.0) (ap (λ l. e ∷ l) (insert_last es k v all.1))

above : (l k : ℤ) → int_cmp l k ≡ Less → int_cmp k l ≡ Greater
above l k less = int_cmp_total.antisymm k l ∙ ap ordering_reverse less

less : (o : Ordering) → is_lt o ≡ true → o ≡ Less
less Less e = refl
less Equal e = cc
less Greater e = cc

under : (last : Option ℤ) (k : ℤ) (es : Ids) → Below last es → rises last k ≡ true → AllByRecursion (λ e. int_cmp e.0 k ≡ Less) es
unfolding Below
under None k es none rising = rw none tt
under (Some l) k [] all rising = tt
under (Some l) k (e ∷ es) all rising =
    let up : int_cmp l k ≡ Less = less (int_cmp l k) rising in (
      elim all.0 [ inl lt ↦ int_cmp_total.trans e.0 l k lt up | inr is ↦ rw is up ],
      under (Some l) k es all.1 rising,
    )

over : (k : ℤ) (es : Ids) → AllByRecursion (λ e. int_cmp e.0 k ≡ Less) es → AllByRecursion (λ e. int_cmp k e.0 ≡ Greater) es
over k [] all = tt
over k (e ∷ es) all = (above e.0 k all.0, over k es all.1)

below_last : (es : Ids) (k v : ℤ) → AllByRecursion (λ e. int_cmp e.0 k ≡ Less) es → AllByRecursion (λ e. (int_cmp e.0 k ≡ Less) ⊎ (e.0 ≡ k)) (es ++ (k, v) ∷ [])
below_last [] k v all = (inr refl, tt)
below_last (e ∷ es) k v all = (inl all.0, below_last es k v all.1)

pub read_more : (said : Result Ids Bad) (n at : ℕ) (last : Option ℤ) (bytes : List ℕ) (es kept : Ids) (k v : ℤ) → HasRead said (suc n) at last bytes es
    → pair_at at last bytes ≡ Ok (k, v) → rises last k ≡ true → FitsSigned w64 k → FitsSigned w64 v → kept ≡ insert_entry int_cmp es k v → IsStrictlySortedBy int_cmp (keys_of kept)
    → HasRead said n (at + 16) (Some k) bytes kept × (length kept ≡ length es + 1)
unfolding Below
read_more said n at last bytes es kept k v h pair rising fk fv inserted sorted =
    let all = under last k es h.below rising in
    let is : kept ≡ es ++ (k, v) ∷ [] = inserted ∙ insert_last es k v (over k es all) in (
      record {
        rest = h.rest ∙ ap (behind es) (pairs_next n at last bytes (k, v) pair) ∙ behind_twice es (k, v) (pairs_at n (at + 16) (Some k) bytes)
            ∙ ap (λ l. behind l (pairs_at n (at + 16) (Some k) bytes)) (sym is);
        rising = sorted;
        below = rw is (below_last es k v all);
        fit = rw inserted (fit_insert k v es h.fit fk fv);
      },
      ap length is ∙ length-append es ((k, v) ∷ []),
    )

-- one pair more was spelled
pub pairs_more : (bytes whole : List ℕ) (ids rest : Ids) (e : ℤ × ℤ) → ids ≡ e ∷ rest → bytes ++ spelled_pairs ids ≡ whole → ((bytes ++ signed64 e.0) ++ signed64 e.1) ++ spelled_pairs rest ≡ whole
pairs_more bytes whole ids rest e is before =
    append_assoc (bytes ++ signed64 e.0) (signed64 e.1) (spelled_pairs rest)
    ∙ append_assoc bytes (signed64 e.0) (signed64 e.1 ++ spelled_pairs rest)
    ∙ ap (λ l. bytes ++ spelled_pairs l) (sym is) ∙ before
