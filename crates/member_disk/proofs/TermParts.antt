-- The TERM entries that a batch wants, as parts.
use Rattle.std.specs.Prelude.{◌&&◌, ◌||◌, slice_get, if◌then◌else◌}
use Rattle.std.specs.Ordering.{int_eq}
use Rattle.std.proofs.Common.{◌≡◌, ◌⊎◌, inl, inr, ⊎_elim, ℕ, zero, suc, ◌==◌, Bool, true, false, Some, None, Option, List, [], ◌∷◌, ◌++◌, refl, sym, ◌∙◌, ap, subst, append_assoc}
use Rattle.std.proofs.lemmas.Bool.{and_parts, and_from, eqb-true, eq-eqb, or_parts, or_from, cond-true, cond-false}
use Rattle.std.proofs.lemmas.List.{append-nil}
use Rattle.std.proofs.lemmas.Bool.Decides.{Decides-int_eq}
use Rattle.cl_base.specs.declared.entry.Entry.{Entry}
use Rattle.entry_log.specs.Log.{Log}
use Rattle.log_segment.specs.declared.kept.NewTerm.{NewTerm}
use Rattle.log_segment.specs.Held.{new_term_of}
use Rattle.recording_log.specs.declared.entry.TermAt.{TermAt}
use Rattle.member_disk.specs.Kept.{Kept}
use Rattle.recording_log.specs.Valid.{terms_of}
use Rattle.member_disk.specs.Changes.{has_term, term_at}
use Rattle.member_disk.specs.Parts.{Part, made, term_part, wanted_parts, term_parts}
use Rattle.member_disk.proofs.Lists.{made_both}

abbrev is_same : TermAt → TermAt → Bool
is_same u t = int_eq u.term t.term && (u.base == t.base) && int_eq u.stamp t.stamp

same_is : (u t : TermAt) → is_same u t ≡ true → u ≡ t
same_is u t is =
    let two = and_parts (int_eq u.term t.term && (u.base == t.base)) (int_eq u.stamp t.stamp) is in
    let one = and_parts (int_eq u.term t.term) (u.base == t.base) two.0 in
    let a = (Decides-int_eq u.term t.term).0 one.0 in
    let b = eqb-true u.base t.base one.1 in
    let s = (Decides-int_eq u.stamp t.stamp).0 two.1 in
    λ n. record { term = a n; base = b n; stamp = s n }

is_same_self : (t : TermAt) → is_same t t ≡ true
is_same_self t = and_from (int_eq t.term t.term && (t.base == t.base)) (int_eq t.stamp t.stamp) (and_from (int_eq t.term t.term) (t.base == t.base) ((Decides-int_eq t.term t.term).1 refl) (eq-eqb t.base t.base refl)) ((Decides-int_eq t.stamp t.stamp).1 refl)

-- a term that the test finds stands at some index
pub has_index : (ts : List TermAt) (t : TermAt) → has_term ts t ≡ true → (k : ℕ) × (slice_get ts k ≡ Some t)
has_index [] t is = absurd (cc)
has_index (u ∷ us) t is = go (is_same u t) refl (λ rest. has_index us t rest)
  where
    go : (b : Bool) → is_same u t ≡ b → (has_term us t ≡ true → (k : ℕ) × (slice_get us k ≡ Some t)) → (k : ℕ) × (slice_get (u ∷ us) k ≡ Some t)
    go true same behind = (0, ap Some (same_is u t same))
    go false other behind =
        let found = behind (sym (ap (λ b. b || has_term us t) other) ∙ is) in
        (suc found.0, found.1)

-- and one that stands at an index is found
pub index_has : (ts : List TermAt) (t : TermAt) (k : ℕ) → slice_get ts k ≡ Some t → has_term ts t ≡ true
index_has [] t k is = absurd (cc)
index_has (u ∷ us) t zero is =
    let same : u ≡ t = some_same u t is in
    ap (λ b. b || has_term us t) (subst (λ (x : TermAt). is_same x t ≡ true) (sym same) (is_same_self t))
  where
    some_same : (a b : TermAt) → Some a ≡ Some b → a ≡ b
    some_same a b eq = cc
index_has (u ∷ us) t (suc k) is = right (is_same u t) (has_term us t) (index_has us t k is)
  where
    right : (x y : Bool) → y ≡ true → (x || y) ≡ true
    right true y e = refl
    right false y e = e

pub has_not : (ts : List TermAt) (t : TermAt) → ((k : ℕ) → slice_get ts k ≡ Some t → ⊥) → has_term ts t ≡ false
has_not ts t none = go (has_term ts t) refl
  where
    go : (b : Bool) → has_term ts t ≡ b → has_term ts t ≡ false
    go true is = let found = has_index ts t is in absurd (none found.0 found.1)
    go false is = is

-- what some entries want, and then others
pub term_parts_both : (kept : Kept) (xs ys : Log) → term_parts kept (xs ++ ys) ≡ term_parts kept xs ++ term_parts (made (term_parts kept xs) kept) ys
term_parts_both kept [] ys = refl
term_parts_both kept (x ∷ xs) ys =
    let here : List Part = wanted_parts kept (new_term_of 0 x.bytes) in
    let next : Kept = made (wanted_parts kept (new_term_of 0 x.bytes)) kept in
    ap (λ (ps : List Part). wanted_parts kept (new_term_of 0 x.bytes) ++ ps) (term_parts_both next xs ys)
    ∙ sym (append_assoc here (term_parts next xs) (term_parts (made (term_parts next xs) next) ys))
    ∙ ap (λ (k : Kept). (wanted_parts kept (new_term_of 0 x.bytes) ++ term_parts next xs) ++ term_parts k ys) (sym (made_both here (term_parts next xs) kept))

pub term_parts_more : (kept : Kept) (es : Log) (e : Entry) → term_parts kept (es ++ e ∷ []) ≡ term_parts kept es ++ wanted_parts (made (term_parts kept es) kept) (new_term_of 0 e.bytes)
term_parts_more kept es e = term_parts_both kept es (e ∷ []) ∙ ap (λ (ps : List Part). term_parts kept es ++ ps) (append-nil (wanted_parts (made (term_parts kept es) kept) (new_term_of 0 e.bytes)))

pub wanted_none : (kept : Kept) (t : NewTerm) → has_term (terms_of kept.entries) (term_at t) ≡ true → wanted_parts kept (Some t) ≡ []
wanted_none kept t is = cond-true (has_term (terms_of kept.entries) (term_at t)) [] (term_part kept t ∷ []) is

pub wanted_one : (kept : Kept) (t : NewTerm) → has_term (terms_of kept.entries) (term_at t) ≡ false → wanted_parts kept (Some t) ≡ term_part kept t ∷ []
wanted_one kept t is = cond-false (has_term (terms_of kept.entries) (term_at t)) [] (term_part kept t ∷ []) is

-- what an addition makes of what is kept
pub wanted_makes : (kept : Kept) (t : NewTerm) (new : Kept) → new ≡ (term_part kept t).makes → has_term (terms_of kept.entries) (term_at t) ≡ false → new ≡ made (wanted_parts kept (Some t)) kept
wanted_makes kept t new is not_there = is ∙ sym (ap (λ (ps : List Part). made ps kept) (wanted_one kept t not_there))
