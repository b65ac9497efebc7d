-- The parts of the entries, step by step.
use Rattle.std.specs.Prelude.{slice_get, slice_set, Result, Ok, Err, OnOk, OnErr}
use Rattle.std.specs.Result.{is_err}
use Rattle.std.proofs.Common.{◌≡◌, ◌⊎◌, inl, inr, ℕ, zero, suc, ℤ, true, false, cond, Some, None, List, [], ◌∷◌, ◌++◌, length, refl, sym, ◌∙◌, ap, subst}
use Rattle.std.proofs.lemmas.Bool.{cases_Bool}
use Rattle.std.proofs.lemmas.Map.Lookups.{exact_signed, exact_pairs}
use Rattle.std.proofs.lemmas.Map.Views.{tells_apart}
use Rattle.std.specs.Ordering.{int_cmp, ordering_then}
use Rattle.std.specs.declared.cmp.Ordering.TheVariants.{Equal}
use Rattle.std.specs.BTreeMap.{is_at}
use Rattle.std.specs.BTreeSet.{Updates}
use Rattle.recording_log.specs.declared.entry.RecEntry.{RecEntry}
use Rattle.recording_log.specs.declared.parts.Part.{Part}
use Rattle.recording_log.specs.declared.parts.Parts.{Parts}
use Rattle.recording_log.specs.Valid.{is_snapshot}
use Rattle.recording_log.specs.Sets.{IsPart, struck, struck_kind}
use Rattle.recording_log.specs.Parts.{part_cmp, part_of, has, Have, Tells, TellsWith}

-- parts that compare equal are one
pub same_part : (a b : Part) → part_cmp a b ≡ Equal → a ≡ b
same_part a b is =
    let pairs = exact_pairs int_cmp (λ (x y : ℤ × ℤ). ordering_then (int_cmp x.0 y.0) (int_cmp x.1 y.1)) exact_signed (exact_pairs int_cmp int_cmp exact_signed exact_signed) in
    let e : (a.position, (a.term, a.service)) ≡ (b.position, (b.term, b.service)) = pairs (a.position, (a.term, a.service)) (b.position, (b.term, b.service)) is in
    λ x. record { position = (e x).0; term = (e x).1.0; service = (e x).1.1 }

-- an entry that is a part is this one
pub is_its_part : (part : Part) (e : RecEntry) → IsPart part.term part.position part.service e → part ≡ part_of e
is_its_part part e is = sym (λ x. record { position = is.2 x; term = is.1 x; service = is.3 x })

-- where an entry stands in a list that got one more
at_left : (es fs : List RecEntry) (i : ℕ) (d : RecEntry) → slice_get es i ≡ Some d → slice_get (es ++ fs) i ≡ Some d
at_left [] fs i d is = absurd (cc)
at_left (x ∷ es) fs zero d is = is
at_left (x ∷ es) fs (suc i) d is = at_left es fs i d is

at_end : (es : List RecEntry) (e : RecEntry) → slice_get (es ++ e ∷ []) (length es) ≡ Some e
at_end [] e = refl
at_end (x ∷ es) e = at_end es e

at_split : (es : List RecEntry) (e d : RecEntry) (i : ℕ) → slice_get (es ++ e ∷ []) i ≡ Some d → (slice_get es i ≡ Some d) ⊎ (e ≡ d)
at_split [] e d zero is = inr cc
at_split [] e d (suc i) is = absurd (cc)
at_split (x ∷ es) e d zero is = inl is
at_split (x ∷ es) e d (suc i) is = at_split es e d i is

-- where it stands in a list of which one was changed
at_set : (es : List RecEntry) (i j : ℕ) (v d : RecEntry) → slice_get (slice_set es i v) j ≡ Some d → (slice_get es j ≡ Some d) ⊎ (v ≡ d)
at_set [] i j v d is = absurd (cc)
at_set (x ∷ es) zero zero v d is = inr cc
at_set (x ∷ es) zero (suc j) v d is = inl is
at_set (x ∷ es) (suc i) zero v d is = inl is
at_set (x ∷ es) (suc i) (suc j) v d is = at_set es i j v d is

at_kept : (es : List RecEntry) (i j : ℕ) (e v d : RecEntry) → slice_get es i ≡ Some e → slice_get es j ≡ Some d → (slice_get (slice_set es i v) j ≡ Some d) ⊎ (e ≡ d)
at_kept [] i j e v d here is = absurd (cc)
at_kept (x ∷ es) zero zero e v d here is = inr cc
at_kept (x ∷ es) zero (suc j) e v d here is = inl is
at_kept (x ∷ es) (suc i) zero e v d here is = inl is
at_kept (x ∷ es) (suc i) (suc j) e v d here is = at_kept es i j e v d here is

-- the parts of one more entry
pub have_none : (part : Part) → Have [] part → ⊥
have_none part have = let is : None ≡ Some have.entry = have.at in absurd (cc)

module _ (es : List RecEntry) (e : RecEntry) (part : Part) where
  pub have_more : Have es part → Have (es ++ e ∷ []) part
  have_more have = record { index = have.index; entry = have.entry; at = at_left es (e ∷ []) have.index have.entry have.at; part = have.part }

  pub have_last : IsPart part.term part.position part.service e → Have (es ++ e ∷ []) part
  have_last is = record { index = length es; entry = e; at = at_end es e; part = is }

  pub have_split : Have (es ++ e ∷ []) part → Have es part ⊎ IsPart part.term part.position part.service e
  have_split have = elim (at_split es e have.entry have.index have.at) [
    | inl old ↦ inl (record { index = have.index; entry = have.entry; at = old; part = have.part })
    | inr last ↦ inr (subst (IsPart part.term part.position part.service) (sym last) have.part)
  ]

pub tells_none : (parts : Parts) → ((part : Part) → has parts part ≡ false) → Tells parts []
tells_none parts none part = (λ is. let no = none part in absurd (cc), λ have. absurd (have_none part have))

-- an entry that is no part
pub tells_past : (parts : Parts) (es : List RecEntry) (e : RecEntry) → is_snapshot e ≡ false → Tells parts es → Tells parts (es ++ e ∷ [])
tells_past parts es e out tells part = (
  λ is. have_more es e part ((tells part).0 is),
  λ have. elim (have_split es e part have) [
    | inl old ↦ (tells part).1 old
    | inr last ↦ let is : is_snapshot e ≡ true = last.0 in absurd (cc)
  ],
)

-- an entry that is one
module _ (old new : Parts) (es : List RecEntry) (e : RecEntry) (is_one : is_snapshot e ≡ true) (tells : Tells old es) (updates : Updates part_cmp old.parts new.parts (part_of e) true) where
  pub tells_more : Tells new (es ++ e ∷ [])
  tells_more part = (
    λ is. elim (cases_Bool (is_at (part_cmp (part_of e)) part)) [
      | inl same ↦ subst (Have (es ++ e ∷ [])) (tells_apart same_part (part_of e) part same) (have_last es e (part_of e) (is_one, refl, refl, refl))
      | inr other ↦ have_more es e part ((tells part).0 (sym (updates.2 part other) ∙ is))
    ],
    λ have. elim (have_split es e part have) [
      | inl before ↦ elim (cases_Bool (is_at (part_cmp (part_of e)) part)) [
        | inl same ↦ updates.0 part ∙ ap (λ b. cond b true (has old part)) same
        | inr other ↦ updates.2 part other ∙ (tells part).1 before
      ]
      | inr last ↦ subst (λ p. has new p ≡ true) (sym (is_its_part part e last)) updates.1
    ],
  )

-- an entry that was taken in, and isn't there
pub with_last : (parts : Parts) (es : List RecEntry) (e : RecEntry) → Tells parts (es ++ e ∷ []) → TellsWith (part_of e) parts es
with_last parts es e tells = record {
  each = λ part have. (tells part).1 (have_more es e part have);
  only = λ part is. elim (have_split es e part ((tells part).0 is)) [ inl old ↦ inl old | inr last ↦ inr (is_its_part part e last) ];
}

no_snapshot : (e : RecEntry) → is_snapshot (record e { kind = struck_kind }) ≡ true → ⊥
no_snapshot e is = let no : false ≡ true = is in absurd (cc)

-- an entry that was made invalid
pub with_struck : (parts : Parts) (es : List RecEntry) (i : ℕ) (e : RecEntry) → slice_get es i ≡ Some e → Tells parts es → TellsWith (part_of e) parts (struck i e es)
with_struck parts es i e there tells = record {
  each = λ part have. elim (at_set es i have.index (record e { kind = struck_kind }) have.entry have.at) [
    | inl old ↦ (tells part).1 (record { index = have.index; entry = have.entry; at = old; part = have.part })
    | inr new ↦ absurd (no_snapshot e (subst (λ (d : RecEntry). is_snapshot d ≡ true) (sym new) have.part.0))
  ];
  only = λ part is.
      let have = (tells part).0 is in
      elim (at_kept es i have.index e (record e { kind = struck_kind }) have.entry there have.at) [
        | inl kept ↦ inl (record { index = have.index; entry = have.entry; at = kept; part = have.part })
        | inr same ↦ inr (is_its_part part e (subst (IsPart part.term part.position part.service) (sym same) have.part))
      ];
}

-- whether the one more is there
module _ (old : Parts) (es : List RecEntry) (e : RecEntry) (tells : TellsWith (part_of e) old es) where
  pub tells_kept : Have es (part_of e) → Tells old es
  tells_kept have part = (λ is. elim (tells.only part is) [ inl there ↦ there | inr same ↦ subst (Have es) (sym same) have ], tells.each part)

  pub tells_gone : (new : Parts) → (Have es (part_of e) → ⊥) → Updates part_cmp old.parts new.parts (part_of e) false → Tells new es
  tells_gone new gone updates part = (
    λ is. elim (cases_Bool (is_at (part_cmp (part_of e)) part)) [
      | inl same ↦ let no = updates.0 part ∙ ap (λ b. cond b false (has old part)) same in absurd (cc)
      | inr other ↦ elim (tells.only part (sym (updates.2 part other) ∙ is)) [
        | inl there ↦ there
        | inr same ↦ let no = subst (λ p. has new p ≡ false) (sym same) updates.1 in absurd (cc)
      ]
    ],
    λ have. elim (cases_Bool (is_at (part_cmp (part_of e)) part)) [
      | inl same ↦ absurd (gone (subst (Have es) (sym (tells_apart same_part (part_of e) part same)) have))
      | inr other ↦ updates.2 part other ∙ tells.each part have
    ],
  )

-- what holds on one side of a result that was looked at
pub on_ok : {T E : Type 0} (r : Result T E) (P : Type 0) → is_err r ≡ false → OnOk r P → P
on_ok (Ok v) P is holds = holds
on_ok (Err e) P is holds = absurd (cc)

pub on_err : {T E : Type 0} (r : Result T E) (P : Type 0) → is_err r ≡ true → OnErr r P → P
on_err (Ok v) P is holds = absurd (cc)
on_err (Err e) P is holds = holds
