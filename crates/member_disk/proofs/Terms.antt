-- The TERM entries that a log needs.
use Rattle.std.specs.Prelude.{slice_get, Result, Ok, Err, OnOk, ◌&&◌, ◌||◌, ◌==◌, nat_le, int_le, if◌then◌else◌}
use Rattle.std.proofs.Common.{◌≡◌, inl, inr, ℕ, zero, suc, ◌+◌, ◌<◌, ◌≤◌, ◌^◌, ℤ, pos, ◌≤ℤ◌, Bool, true, false, Some, None, Option, List, [], ◌∷◌, ◌++◌, length, get_or, w64, refl, sym, ◌∙◌, ap, subst, arith}
use Rattle.std.proofs.lemmas.Bool.{and_from, cond-true, cases_lt}
use Rattle.std.proofs.lemmas.List.{get_or_default}
use Rattle.std.proofs.lemmas.Int.{ints}
use Rattle.std.specs.Int.{cast_unsigned}
use Rattle.wire_prims.specs.Fields.{u16_at, i64_at}
use Rattle.cl_base.specs.declared.entry.Entry.{Entry}
use Rattle.cl_base.specs.declared.fault.MemberFault.{MemberFault}
use Rattle.entry_log.specs.Log.{Log}
use Rattle.recording_log.specs.declared.entry.RecEntry.{RecEntry}
use Rattle.recording_log.specs.declared.entry.TermAt.{TermAt}
use Rattle.recording_log.specs.Valid.{in_range, is_valid, is_term, term_of, terms_of, term_entry}
use Rattle.log_segment.specs.declared.kept.NewTerm.{NewTerm}
use Rattle.log_segment.specs.Held.{new_term_of, put_term, new_terms}
use Rattle.member_disk.specs.Changes.{GrewByTerms, HasTerm, HaveTerms, HaveEach, term_at, IsNewRanged}

pub terms_both : (xs ys : List RecEntry) → terms_of (xs ++ ys) ≡ terms_of xs ++ terms_of ys
terms_both [] ys = refl
terms_both (x ∷ xs) ys = go (is_term x) (terms_both xs ys)
  where
    go : (b : Bool) → terms_of (xs ++ ys) ≡ terms_of xs ++ terms_of ys → (if b then term_of x ∷ terms_of (xs ++ ys) else terms_of (xs ++ ys)) ≡ (if b then term_of x ∷ terms_of xs else terms_of xs) ++ terms_of ys
    go true rest = λ n. term_of x ∷ rest n
    go false rest = rest

pub get_first : (xs ys : List TermAt) (k : ℕ) (t : TermAt) → slice_get xs k ≡ Some t → slice_get (xs ++ ys) k ≡ Some t
get_first [] ys k t is = absurd (cc)
get_first (x ∷ xs) ys zero t is = is
get_first (x ∷ xs) ys (suc k) t is = get_first xs ys k t is

get_last : (xs : List TermAt) (t : TermAt) → slice_get (xs ++ t ∷ []) (length xs) ≡ Some t
get_last [] t = refl
get_last (x ∷ xs) t = get_last xs t

pub term_stays : (old new : List RecEntry) (t : NewTerm) → GrewByTerms old new → HasTerm old t → HasTerm new t
term_stays old new t grew has = subst (λ (l : List RecEntry). HasTerm l t) (sym grew.is)
    (has.0, ap (λ (l : List TermAt). slice_get l has.0) (terms_both old grew.added) ∙ get_first (terms_of old) (terms_of grew.added) has.0 (term_at t) has.1)

pub terms_stay : (old new : List RecEntry) (ts : List NewTerm) → GrewByTerms old new → HaveTerms old ts → HaveTerms new ts
terms_stay old new [] grew have = tt
terms_stay old new (t ∷ ts) grew have = (term_stays old new t grew have.0, terms_stay old new ts grew have.1)

in_range_of : (z : ℤ) → pos 0 ≤ℤ z → z ≤ℤ pos (2 ^ 62) → in_range z ≡ true
in_range_of z low high = and_from (int_le (pos 0) z) (int_le z (pos (2 ^ 62))) (grind (arith, ints, low)) (grind (arith, ints, high))

counts : (term : ℤ) (base : ℕ) (stamp : ℤ) → pos 0 ≤ℤ term → term ≤ℤ pos (2 ^ 62) → base ≤ 2 ^ 62 → is_term (term_entry term base stamp) ≡ true
counts term base stamp low high below =
    and_from (is_valid (term_entry term base stamp)) (0 == 0)
    (and_from (nat_le 0 1 && in_range term && in_range (pos base)) (0 == 0 || names) (and_from (nat_le 0 1 && in_range term) (in_range (pos base)) (and_from (nat_le 0 1) (in_range term) refl (in_range_of term low high)) (in_range_of (pos base) (omega (arith, ints)) (omega (arith, ints, below)))) refl)
    refl
  where
    names : Bool
    names = true

-- a TERM entry that was added is there
pub term_added : (old new : List RecEntry) (t : NewTerm) → IsNewRanged t → new ≡ old ++ term_entry t.term t.base t.stamp ∷ [] → HasTerm new t
term_added old new t range is =
    let one : terms_of (term_entry t.term t.base t.stamp ∷ []) ≡ term_at t ∷ [] = cond-true (is_term (term_entry t.term t.base t.stamp)) (term_at t ∷ []) [] (counts t.term t.base t.stamp range.low range.high range.base) in
    subst (λ (l : List RecEntry). HasTerm l t) (sym is)
    (length (terms_of old), ap (λ (l : List TermAt). slice_get l (length (terms_of old))) (terms_both old (term_entry t.term t.base t.stamp ∷ []) ∙ ap (λ (l : List TermAt). terms_of old ++ l) one) ∙ get_last (terms_of old) (term_at t))

pub term_added_ok : (old new : List RecEntry) (t : NewTerm) (result : Result (Unit {0}) MemberFault) → IsNewRanged t → OnOk result (new ≡ old ++ term_entry t.term t.base t.stamp ∷ []) → OnOk result (HasTerm new t)
term_added_ok old new t (Ok v) range is = term_added old new t range is
term_added_ok old new t (Err e) range is = tt

-- which entries are a log's first doesn't show in its terms
pub terms_from : (entries : List RecEntry) (i j : ℕ) (log : Log) → HaveTerms entries (new_terms i log) → HaveTerms entries (new_terms j log)
terms_from entries i j [] have = tt
terms_from entries i j (e ∷ es) have = split entries i j e.bytes (new_terms (i + 1) es) (new_terms (j + 1) es) (terms_from entries (i + 1) (j + 1) es) have
  where
    split : (entries : List RecEntry) (i j : ℕ) (event : List ℕ) (ts us : List NewTerm) → (HaveTerms entries ts → HaveTerms entries us) → HaveTerms entries (put_term (new_term_of i event) ts) → HaveTerms entries (put_term (new_term_of j event) us)
    split entries i j event ts us so = go ((length event == 48) && (u16_at 2 event == 24)) so
      where
        go : (b : Bool) → (HaveTerms entries ts → HaveTerms entries us) → HaveTerms entries (put_term (if b then Some (record { entry = i; term = i64_at 8 event; base = cast_unsigned w64 (i64_at 32 event); stamp = i64_at 24 event }) else None) ts)
            → HaveTerms entries (put_term (if b then Some (record { entry = j; term = i64_at 8 event; base = cast_unsigned w64 (i64_at 32 event); stamp = i64_at 24 event }) else None) us)
        go true so have = (have.0, so have.1)
        go false so have = so have

-- the terms of a batch so far, and of one entry more
pub terms_push : (entries : List RecEntry) (i : ℕ) (log : Log) (e : Entry) → HaveTerms entries (new_terms i log) → HaveTerms entries (put_term (new_term_of 0 e.bytes) []) → HaveTerms entries (new_terms i (log ++ e ∷ []))
terms_push entries i [] e have here = terms_from entries 0 i (e ∷ []) here
terms_push entries i (x ∷ xs) e have here = parted entries (new_term_of i x.bytes) (new_terms (i + 1) xs) (new_terms (i + 1) (xs ++ e ∷ [])) have (λ rest. terms_push entries (i + 1) xs e rest here)
  where
    parted : (entries : List RecEntry) (o : Option NewTerm) (ts us : List NewTerm) → HaveTerms entries (put_term o ts) → (HaveTerms entries ts → HaveTerms entries us) → HaveTerms entries (put_term o us)
    parted entries None ts us have so = so have
    parted entries (Some t) ts us have so = (have.0, so have.1)

pub each_there : (entries : List RecEntry) (ts : List NewTerm) → HaveEach entries ts (length ts) → HaveTerms entries ts
each_there entries [] each = tt
each_there entries (t ∷ ts) each = (each 0 t (omega arith) (omega arith), each_there entries ts (λ k d below within. each (suc k) d (omega (arith, below)) (omega (arith, within))))

pub each_more : (entries : List RecEntry) (ts : List NewTerm) (i : ℕ) (z : NewTerm) → i < length ts → HasTerm entries (get_or ts i z) → HaveEach entries ts i → HaveEach entries ts (i + 1)
each_more entries ts i z within here each k d below there = elim (cases_lt k i) [
  | inl less ↦ each k d less there
  | inr from ↦
      let last : i ≡ k = omega arith in
      subst (λ (t : NewTerm). HasTerm entries t) (get_or_default ts i z d within ∙ ap (λ j. get_or ts j d) last) here
]
