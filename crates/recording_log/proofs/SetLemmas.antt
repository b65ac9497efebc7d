-- The latest set, step by step.
use Rattle.std.specs.Prelude.{slice_get, MatchOption, IsSomeAnd, IfSome}
use Rattle.std.proofs.Common.{◌≡◌, inl, inr, ℕ, ℤ, pos, ◌+◌, ◌<◌, ◌≤◌, ◌≤ℤ◌, Option, Some, None, List, length, get_or, refl, sym, ◌∙◌, ap, subst, arith}
use Rattle.std.proofs.lemmas.Bool.{cases_lt}
use Rattle.std.proofs.lemmas.Int.{ints}
use Rattle.std.proofs.lemmas.Option.{slice_get_within, slice_get-get_or, get_or_from_slice_get}
use Rattle.recording_log.specs.declared.entry.RecEntry.{RecEntry}
use Rattle.recording_log.specs.Sets.{the_module, IsPart, HasPart, HasSet, HasNoSet, IsUpTo, IsLatest, IsCandidate, IsBest, IsSoFar}

-- what is read past the end of a list of entries
abbrev pub zero_entry : RecEntry
zero_entry = record { recording = pos 0; term = pos 0; base = pos 0; position = pos 0; stamp = pos 0; service = pos 0; kind = 0 }

pub there : (entries : List RecEntry) (i : ℕ) (d : RecEntry) → slice_get entries i ≡ Some d → get_or entries i zero_entry ≡ d
there entries i d at = get_or_from_slice_get entries i d zero_entry at

-- a search that found one, or went on
module _ (entries : List RecEntry) (i : ℕ) (term position service : ℤ) where
  pub part_found : (s : ℤ) → i < length entries → s ≡ service → IsPart term position s (get_or entries i zero_entry) → HasPart entries term position service
  part_found s within same part = record {
    index = i;
    entry = get_or entries i zero_entry;
    at = slice_get-get_or entries i zero_entry within;
    part = (part.0, part.1, part.2, part.3 ∙ same);
  }

  pub none_more : ((j : ℕ) (d : RecEntry) → j < i → slice_get entries j ≡ Some d → IsPart term position service d → ⊥) → (IsPart term position service (get_or entries i zero_entry) → ⊥)
      → (j : ℕ) (d : RecEntry) → j < i + 1 → slice_get entries j ≡ Some d → IsPart term position service d → ⊥
  none_more so_far here j d below at part = elim (cases_lt j i) [
    | inl old ↦ so_far j d old at part
    | inr last ↦
        let same : i ≡ j = omega arith in
        here (subst (IsPart term position service) (sym (ap (λ k. get_or entries k zero_entry) same ∙ there entries j d at)) part)
  ]

  pub none_at_end : (s : ℤ) → length entries ≤ i → s ≡ service → ((j : ℕ) (d : RecEntry) → j < i → slice_get entries j ≡ Some d → IsPart term position s d → ⊥) → HasPart entries term position service → ⊥
  none_at_end s over same so_far has = let within = slice_get_within entries has.index has.entry has.at in
      so_far has.index has.entry (omega arith) has.at (has.part.0, has.part.1, has.part.2, has.part.3 ∙ sym same)

pub part_of : (entries : List RecEntry) (term position s service : ℤ) → HasPart entries term position s → s ≡ service → HasPart entries term position service
part_of entries term position s service part same = subst (HasPart entries term position) same part

module _ (services : ℕ) (entries : List RecEntry) where
  pub none_behind : (k : ℕ) → length entries ≤ k → IsSoFar services entries k None
  none_behind k over j e from at candidate = let within = slice_get_within entries j e at in omega arith

  pub so_far_within : (k : ℕ) (latest : Option ℕ) → IsSoFar services entries k latest → IfSome latest (λ b. b < length entries)
  so_far_within k None so_far = tt
  so_far_within k (Some b) so_far = so_far.within

  pub up_to_self : (e : RecEntry) → IsUpTo e.term e.position e
  up_to_self e = (omega (arith, ints), λ same. omega (arith, ints))

  -- what is up to a set is up to a later one
  up_to_later : (a b c : RecEntry) → IsUpTo a.term a.position b → (IsUpTo c.term c.position b → ⊥) → IsUpTo a.term a.position c
  up_to_later a b c up later = numbers a.term a.position b.term b.position c.term c.position up.0 up.1 (λ le eq. later (le, eq))
    where
      numbers : (at q bt bp ct cp : ℤ) → q ≤ℤ bp → (q ≡ bp → at ≤ℤ bt) → (cp ≤ℤ bp → (cp ≡ bp → ct ≤ℤ bt) → ⊥) → (q ≤ℤ cp) × (q ≡ cp → at ≤ℤ ct)
      numbers at q bt bp ct cp up0 up1 later = (grind (arith, ints), λ same. grind (arith, ints))

  module _ (i : ℕ) (within : i < length entries) where
    abbrev e : RecEntry
    e = get_or entries i zero_entry

    at_i : slice_get entries i ≡ Some e
    at_i = slice_get-get_or entries i zero_entry within

    is_e : (j : ℕ) (d : RecEntry) → j ≡ i → slice_get entries j ≡ Some d → e ≡ d
    is_e j d same at = ap (λ k. get_or entries k zero_entry) (sym same) ∙ there entries j d at

    -- the entry is no candidate
    pub stays_out : (latest : Option ℕ) → IsSoFar services entries (i + 1) latest → (IsCandidate services entries e → ⊥) → IsSoFar services entries i latest
    stays_out None none out = λ j d from at candidate. elim (cases_lt i j) [
      | inl behind ↦ none j d (omega arith) at candidate
      | inr here ↦ out (subst (IsCandidate services entries) (sym (is_e j d (omega arith) at)) candidate)
    ]
    stays_out (Some b) best out = record {
      from = omega (arith, best.from);
      within = best.within;
      each = λ d at_b.
          let had = best.each d at_b in
          record {
            is = had.is;
            best = λ j o from at candidate. elim (cases_lt i j) [
              | inl behind ↦ had.best j o (omega arith) at candidate
              | inr here ↦ absurd (out (subst (IsCandidate services entries) (sym (is_e j o (omega arith) at)) candidate))
            ];
            last = had.last;
          };
    }

    -- the entry isn't later
    pub stays_behind : (latest : Option ℕ) → IsSoFar services entries (i + 1) latest → IsSomeAnd latest (λ b. (d : RecEntry) → slice_get entries b ≡ Some d → IsUpTo e.term e.position d) → IsSoFar services entries i latest
    stays_behind None none up = absurd up
    stays_behind (Some b) best up = record {
      from = omega (arith, best.from);
      within = best.within;
      each = λ d at_b.
          let had = best.each d at_b in
          record {
            is = had.is;
            best = λ j o from at candidate. elim (cases_lt i j) [
              | inl behind ↦ had.best j o (omega arith) at candidate
              | inr here ↦ subst (λ (x : RecEntry). IsUpTo x.term x.position d) (is_e j o (omega arith) at) (up d at_b)
            ];
            last = had.last;
          };
    }

    -- a set of the same term and position is as late
    same_key : (d o : RecEntry) → IsCandidate services entries d → IsPart d.term d.position the_module o → IsCandidate services entries o
    same_key d o candidate part = ((part.0, refl, refl, part.3), subst (λ t. HasSet services entries t o.position) (sym part.1) (subst (λ p. HasSet services entries d.term p) (sym part.2) candidate.1))

    -- the entry is later
    pub takes_over : (latest : Option ℕ) → IsSoFar services entries (i + 1) latest → IsCandidate services entries e → IfSome latest (λ b. (d : RecEntry) → slice_get entries b ≡ Some d → IsUpTo e.term e.position d → ⊥)
        → IsSoFar services entries i (Some i)
    takes_over latest so_far candidate later = record {
      from = omega arith;
      within = within;
      each = λ d at. let same = is_e i d refl at in subst (IsBest services entries i i) same (best latest so_far later);
    }
      where
        best : (latest : Option ℕ) → IsSoFar services entries (i + 1) latest → IfSome latest (λ b. (d : RecEntry) → slice_get entries b ≡ Some d → IsUpTo e.term e.position d → ⊥) → IsBest services entries i i e
        best None none later = record {
          is = candidate;
          best = λ j o from at other. elim (cases_lt i j) [
            | inl behind ↦ absurd (none j o (omega arith) at other)
            | inr here ↦ subst (λ (x : RecEntry). IsUpTo x.term x.position e) (is_e j o (omega arith) at) (up_to_self e)
          ];
          last = λ j o behind at part. none j o (omega arith) at (same_key e o candidate part);
        }
        best (Some b) had later =
            let d = get_or entries b zero_entry in
            let at_b = slice_get-get_or entries b zero_entry had.within in
            let old = had.each d at_b in
            let over = later d at_b in
            record {
              is = candidate;
              best = λ j o from at other. elim (cases_lt i j) [
                | inl behind ↦ up_to_later o d e (old.best j o (omega arith) at other) over
                | inr here ↦ subst (λ (x : RecEntry). IsUpTo x.term x.position e) (is_e j o (omega arith) at) (up_to_self e)
              ];
              last = λ j o behind at part.
                  over (subst (λ t. IsUpTo t e.position d) part.1 (subst (λ p. IsUpTo o.term p d) part.2 (old.best j o (omega arith) at (same_key e o candidate part))));
            }

  -- an entry of the module's in a valid set
  from_set : (term position : ℤ) (set : HasSet services entries term position) → IsCandidate services entries set.of_module.entry
  from_set term position set =
      let part = set.of_module.part in
      ((part.0, refl, refl, part.3), subst (λ t. HasSet services entries t set.of_module.entry.position) (sym part.1) (subst (λ p. HasSet services entries term p) (sym part.2) set))

  pub latest_of_all : (latest : Option ℕ) → IsSoFar services entries 0 latest → MatchOption latest (HasNoSet services entries) (λ i. (e : RecEntry) → slice_get entries i ≡ Some e → IsLatest services entries i e)
  latest_of_all None none = λ term position set. none set.of_module.index set.of_module.entry (omega arith) set.of_module.at (from_set term position set)
  latest_of_all (Some b) best = λ e at.
      let had = best.each e at in
      record {
        at = at;
        part = had.is.0;
        whole = had.is.1;
        latest = λ term position set.
            let part = set.of_module.part in
            let up = had.best set.of_module.index set.of_module.entry (omega arith) set.of_module.at (from_set term position set) in
            subst (λ t. IsUpTo t position e) part.1 (subst (λ p. IsUpTo set.of_module.entry.term p e) part.2 up);
        last = had.last;
      }

-- two sets that are each up to the other are one
same_key_of : (t p s q : ℤ) → (p ≤ℤ q) × (p ≡ q → t ≤ℤ s) → (q ≤ℤ p) × (q ≡ p → s ≤ℤ t) → (t ≡ s) × (p ≡ q)
same_key_of t p s q up down =
    let at : p ≡ q = omega (arith, ints, up.0, down.0) in
    (omega (arith, ints, up.1 at, down.1 (sym at)), at)

-- there is one latest set
pub latest_once : (services : ℕ) (entries : List RecEntry) (i j : ℕ) (e d : RecEntry) → IsLatest services entries i e → IsLatest services entries j d → i ≡ j
latest_once services entries i j e d first second =
    let same = same_key_of e.term e.position d.term d.position (second.latest e.term e.position first.whole) (first.latest d.term d.position second.whole) in
    let as_second : IsPart d.term d.position the_module e = (first.part.0, same.0, same.1, first.part.3) in
    let as_first : IsPart e.term e.position the_module d = (second.part.0, sym same.0, sym same.1, second.part.3) in
    elim (cases_lt i j) [
      | inl before ↦ absurd (first.last j d before second.at as_first)
      | inr from ↦ elim (cases_lt j i) [
        | inl behind ↦ absurd (second.last i e behind first.at as_second)
        | inr up ↦ omega arith
      ]
    ]
