-- Two entries are the same where all their fields are.
use Rattle.std.specs.Prelude.{◌&&◌, ◌==◌, slice_get}
use Rattle.std.specs.Ordering.{int_eq}
use Rattle.std.proofs.Common.{◌≡◌, ℕ, ◌+◌, ◌<◌, Bool, true, false, Some, List, get_or, inl, inr, refl, sym, ◌∙◌, ap, subst, arith}
use Rattle.std.proofs.lemmas.Bool.{and_parts, and_from, eqb-true, eq-eqb, cases_lt}
use Rattle.std.proofs.lemmas.Bool.Decides.{Decides-int_eq}
use Rattle.recording_log.specs.declared.entry.RecEntry.{RecEntry}
use Rattle.recording_log.proofs.SetLemmas.{zero_entry, there}

abbrev pub are_same : RecEntry → RecEntry → Bool
are_same a b = int_eq a.recording b.recording && (int_eq a.term b.term && (int_eq a.base b.base && (int_eq a.position b.position && (int_eq a.stamp b.stamp && (int_eq a.service b.service && (a.kind == b.kind))))))

pub same_entry : (a b : RecEntry) → are_same a b ≡ true → a ≡ b
same_entry a b is =
    let p0 = and_parts (int_eq a.recording b.recording) (int_eq a.term b.term && (int_eq a.base b.base && (int_eq a.position b.position && (int_eq a.stamp b.stamp && (int_eq a.service b.service && (a.kind == b.kind)))))) is in
    let p1 = and_parts (int_eq a.term b.term) (int_eq a.base b.base && (int_eq a.position b.position && (int_eq a.stamp b.stamp && (int_eq a.service b.service && (a.kind == b.kind))))) p0.1 in
    let p2 = and_parts (int_eq a.base b.base) (int_eq a.position b.position && (int_eq a.stamp b.stamp && (int_eq a.service b.service && (a.kind == b.kind)))) p1.1 in
    let p3 = and_parts (int_eq a.position b.position) (int_eq a.stamp b.stamp && (int_eq a.service b.service && (a.kind == b.kind))) p2.1 in
    let p4 = and_parts (int_eq a.stamp b.stamp) (int_eq a.service b.service && (a.kind == b.kind)) p3.1 in
    let p5 = and_parts (int_eq a.service b.service) (a.kind == b.kind) p4.1 in
    let recording = (Decides-int_eq a.recording b.recording).0 p0.0 in
    let term = (Decides-int_eq a.term b.term).0 p1.0 in
    let base = (Decides-int_eq a.base b.base).0 p2.0 in
    let position = (Decides-int_eq a.position b.position).0 p3.0 in
    let stamp = (Decides-int_eq a.stamp b.stamp).0 p4.0 in
    let service = (Decides-int_eq a.service b.service).0 p5.0 in
    let kind = eqb-true a.kind b.kind p5.1 in
    λ n. record { recording = recording n; term = term n; base = base n; position = position n; stamp = stamp n; service = service n; kind = kind n }

one_same : (a : RecEntry) → are_same a a ≡ true
one_same a =
    and_from (int_eq a.recording a.recording) (int_eq a.term a.term && (int_eq a.base a.base && (int_eq a.position a.position && (int_eq a.stamp a.stamp && (int_eq a.service a.service && (a.kind == a.kind)))))) ((Decides-int_eq a.recording a.recording).1 refl)
    (and_from (int_eq a.term a.term) (int_eq a.base a.base && (int_eq a.position a.position && (int_eq a.stamp a.stamp && (int_eq a.service a.service && (a.kind == a.kind))))) ((Decides-int_eq a.term a.term).1 refl)
    (and_from (int_eq a.base a.base) (int_eq a.position a.position && (int_eq a.stamp a.stamp && (int_eq a.service a.service && (a.kind == a.kind)))) ((Decides-int_eq a.base a.base).1 refl)
    (and_from (int_eq a.position a.position) (int_eq a.stamp a.stamp && (int_eq a.service a.service && (a.kind == a.kind))) ((Decides-int_eq a.position a.position).1 refl)
    (and_from (int_eq a.stamp a.stamp) (int_eq a.service a.service && (a.kind == a.kind)) ((Decides-int_eq a.stamp a.stamp).1 refl)
    (and_from (int_eq a.service a.service) (a.kind == a.kind) ((Decides-int_eq a.service a.service).1 refl) (eq-eqb a.kind a.kind refl))))))

equal_same : (a b : RecEntry) → a ≡ b → are_same a b ≡ true
equal_same a b is = subst (λ (x : RecEntry). are_same a x ≡ true) is (one_same a)

pub none_further : (entries : List RecEntry) (entry : RecEntry) (i : ℕ) → ((k : ℕ) → k < i → slice_get entries k ≡ Some entry → ⊥) → are_same (get_or entries i zero_entry) entry ≡ false → (k : ℕ) → k < i + 1 → slice_get entries k ≡ Some entry → ⊥
none_further entries entry i none differs k below at = elim (cases_lt k i) [
  | inl less ↦ none k less at
  | inr from ↦
      let last : k ≡ i = omega arith in
      let is : get_or entries i zero_entry ≡ entry = ap (λ j. get_or entries j zero_entry) (sym last) ∙ there entries k entry at in
      clash (sym differs ∙ equal_same (get_or entries i zero_entry) entry is)
]
  where
    clash : false ≡ true → ⊥
    clash is = cc
