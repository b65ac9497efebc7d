-- What comes of an entry whose kind's highest byte is written.
use Rattle.std.specs.Prelude.{not, nat_le, if◌then◌else◌, slice_get, slice_set}
use Rattle.std.specs.List.{filter}
use Rattle.std.proofs.Common.{◌≡◌, ◌≢◌, inl, inr, ℕ, zero, suc, ◌+◌, ◌*◌, ◌<◌, ◌≤◌, ◌^◌, ◌==◌, false, IsTrue, Some, List, [], ◌∷◌, length, drop, get_or, refl, sym, ◌∙◌, ap, subst, arith}
use Rattle.std.proofs.lemmas.Bool.{cases_eq, cond-false, eq-eqb, eqb-true, ne_eqb, and_left, and_right, and_parts, lt-leb}
use Rattle.std.proofs.lemmas.List.{get_or-drop, get_or-set_same, get_or-set_other, set-get_or, length-set}
use Rattle.std.proofs.lemmas.Option.{slice_get_within, get_or_from_slice_get}
use Rattle.cl_base.specs.Disk.{overwritten}
use Rattle.cl_base.specs.Torn.{Torn}
use Rattle.wire_prims.specs.Fields.{u32_at, i64_at-same, i32_at-same}
use Rattle.recording_log.specs.declared.entry.RecEntry.{RecEntry}
use Rattle.recording_log.specs.Entries.{entry_of, entry_at, Holds}
use Rattle.recording_log.specs.Valid.{is_valid, is_term, is_snapshot, valid_of, term_of, terms_of, Stands}
use Rattle.recording_log.specs.Sets.{IsLatest, struck, struck_kind}
use Rattle.recording_log.proofs.HoldLemmas.{at_same}
use Rattle.recording_log.proofs.SetLemmas.{latest_once}
use Rattle.cl_base.specs.Places.{apart, get_or-written_one, torn_overwritten}

-- an entry with another kind
abbrev pub with_kind : ℕ → RecEntry → RecEntry
with_kind kind e = record e { kind = kind }

-- the kind whose highest byte is x, where it was 1
abbrev pub kind_with : ℕ → ℕ
kind_with x = 1 + x * 2 ^ 24

kind_after : (c e : List ℕ) (x : ℕ) → u32_at 44 e ≡ 1 → ((k : ℕ) → 44 ≤ k → k < 47 → get_or c k 0 ≡ get_or e k 0) → get_or c 47 0 ≡ x → u32_at 44 c ≡ kind_with x
unfolding u32_at
kind_after c e x one same top =
    let d : (k : ℕ) → get_or (drop 44 c) k 0 ≡ get_or c (44 + k) 0 = λ k. get_or-drop 44 c k 0 in
    let o : (k : ℕ) → get_or (drop 44 e) k 0 ≡ get_or e (44 + k) 0 = λ k. get_or-drop 44 e k 0 in
    let d0 = d 0 in let d1 = d 1 in let d2 = d 2 in let d3 = d 3 in
    let o0 = o 0 in let o1 = o 1 in let o2 = o 2 in let o3 = o 3 in
    let s0 = same 44 (omega arith) (omega arith) in let s1 = same 45 (omega arith) (omega arith) in let s2 = same 46 (omega arith) (omega arith) in
    omega (arith, d0, d1, d2, d3, o0, o1, o2, o3, s0, s1, s2, top, one)

-- one entry, with the byte torn
entry_after : (c e : List ℕ) → (entry_of e).kind ≡ 1 → ((k : ℕ) → k < 47 → get_or c k 0 ≡ get_or e k 0) → entry_of c ≡ with_kind (kind_with (get_or c 47 0)) (entry_of e)
entry_after c e one same =
    let e0 = i64_at-same 0 c e (λ i from below. same i (omega arith)) in
    let e1 = i64_at-same 8 c e (λ i from below. same i (omega arith)) in
    let e2 = i64_at-same 16 c e (λ i from below. same i (omega arith)) in
    let e3 = i64_at-same 24 c e (λ i from below. same i (omega arith)) in
    let e4 = i64_at-same 32 c e (λ i from below. same i (omega arith)) in
    let e5 = i32_at-same 40 c e (λ i from below. same i (omega arith)) in
    let e6 = kind_after c e (get_or c 47 0) one (λ k from below. same k (omega arith)) refl in
    λ x. record { recording = e0 x; term = e1 x; base = e2 x; position = e3 x; stamp = e4 x; service = e5 x; kind = e6 x }

module _ (entries : List RecEntry) (i : ℕ) (d : RecEntry) (e c : List ℕ) (holds : Holds entries e) (at : slice_get entries i ≡ Some d) (one : d.kind ≡ 1) (torn : Torn (64 * i + 47) 1 e c) where
  abbrev x : ℕ
  x = get_or c (64 * i + 47) 0

  within : i < length entries
  within = slice_get_within entries i d at

  same : (j : ℕ) → j < length e → j ≢ 64 * i + 47 → get_or c j 0 ≡ get_or e j 0
  same j below ne = torn.same j below (apart (64 * i + 47) 1 j (λ from upto. ne (omega arith)))

  is_there : d ≡ entry_at i e
  is_there = sym (get_or_from_slice_get entries i d d at) ∙ holds.begins.each i d within

  abbrev v : RecEntry
  v = with_kind (kind_with x) d

  here : v ≡ entry_at i c
  here =
      let room = holds.room in
      let low = within in
      let was : (entry_of (drop (64 * i) e)).kind ≡ 1 = ap (λ (r : RecEntry). r.kind) (sym is_there) ∙ one in
      let now = entry_after (drop (64 * i) c) (drop (64 * i) e) was (λ k below. get_or-drop (64 * i) c k 0 ∙ same (64 * i + k) (omega arith) (omega arith) ∙ sym (get_or-drop (64 * i) e k 0)) in
      sym (now ∙ (λ t. with_kind (kind_with (get_or-drop (64 * i) c 47 0 t)) (sym is_there t)))

  pub torn_kind : Holds (slice_set entries i (with_kind (kind_with x) d)) c
  torn_kind =
      let room = holds.room in
      let low = within in
      let longer = torn.no_shorter in
      let len : length (slice_set entries i v) ≡ length entries = length-set entries i v in
      record {
        begins = record {
          fits = omega (arith, len);
          opened = λ j below. same (64 * j + 63) (omega (arith, len)) (omega arith) ∙ holds.begins.opened j (omega (arith, len));
          each = λ j o below. elim (cases_eq j i) [
            | inl is ↦ ap (λ k. get_or (slice_set entries i v) k o) is ∙ get_or-set_same entries i v o within ∙ here ∙ ap (λ k. entry_at k c) (sym is)
            | inr ne ↦
                let old : j < length entries = omega (arith, len) in
                get_or-set_other entries i j v o ne ∙ holds.begins.each j o old ∙ sym (at_same j c e (λ k less. same (64 * j + k) (omega arith) (λ h. ne (omega (arith, h)))))
          ];
        };
        room = omega (arith, len);
        closed = λ opened.
            let place : 64 * length (slice_set entries i v) + 63 ≡ 64 * length entries + 63 = omega (arith, len) in
            holds.closed (sym (same (64 * length entries + 63) (omega arith) (omega arith)) ∙ ap (λ k. get_or c k 0) (sym place) ∙ opened);
      }

  pub torn_nothing : x ≡ 0 → Holds entries c
  torn_nothing zero_byte =
      let kind : kind_with x ≡ d.kind = omega (arith, zero_byte, one) in
      let same_entry : with_kind (kind_with x) d ≡ get_or entries i d = (λ t. with_kind (kind t) d) ∙ sym (get_or_from_slice_get entries i d d at) in
      subst (λ l. Holds l c) ((λ t. slice_set entries i (same_entry t)) ∙ set-get_or entries i d) torn_kind

-- an entry whose kind is neither 0 nor 1 doesn't count
pub not_valid : (e : RecEntry) → 1 < e.kind → is_valid e ≡ false
not_valid e high = and_left _ _ (and_left _ _ (and_left _ _ (lt-leb' e.kind high)))
  where
    lt-leb' : (k : ℕ) → 1 < k → nat_le k 1 ≡ false
    lt-leb' k over = lt-leb k 1 over

-- whichever invalid entry stands there, the same ones count
pub valid_set : (entries : List RecEntry) (i : ℕ) (v w : RecEntry) → is_valid v ≡ false → is_valid w ≡ false → valid_of (slice_set entries i v) ≡ valid_of (slice_set entries i w)
valid_set [] i v w out out2 = refl
valid_set (e ∷ es) zero v w out out2 = cond-false (is_valid v) (v ∷ filter is_valid es) (filter is_valid es) out ∙ sym (cond-false (is_valid w) (w ∷ filter is_valid es) (filter is_valid es) out2)
valid_set (e ∷ es) (suc i) v w out out2 = let rest = valid_set es i v w out out2 in λ t. if is_valid e then e ∷ rest t else rest t

-- an entry that is no term's, in place of another one
pub terms_set : (entries : List RecEntry) (i : ℕ) (d v : RecEntry) → slice_get entries i ≡ Some d → is_term d ≡ false → is_term v ≡ false → terms_of (slice_set entries i v) ≡ terms_of entries
terms_set [] i d v at out out2 = refl
terms_set (e ∷ es) zero d v at out out2 =
    let is : e ≡ d = cc in
    cond-false (is_term v) (term_of v ∷ terms_of es) (terms_of es) out2 ∙ sym (cond-false (is_term e) (term_of e ∷ terms_of es) (terms_of es) (ap is_term is ∙ out))
terms_set (e ∷ es) (suc i) d v at out out2 = let rest = terms_set es i d v at out out2 in λ t. if is_term e then term_of e ∷ rest t else rest t

-- what comes of the byte, in the entries that count
module _ (entries : List RecEntry) (i : ℕ) (d : RecEntry) (at : slice_get entries i ≡ Some d) (one : d.kind ≡ 1) where
  pub holds_stands : (c : List ℕ) → Holds entries c → Stands (valid_of entries) c
  holds_stands c holds = record { entries = entries; holds = holds; counts = refl }

  pub strike_flips : (place : ℕ) → place ≡ 64 * i + 47 → (e c : List ℕ) → Holds entries e → Torn place 1 e c
      → Stands (if not (get_or c place 0 == 0) then valid_of (struck i d entries) else valid_of entries) c
  strike_flips place is e c holds torn =
      let P : ℕ → Type 0 = λ p. Torn p 1 e c → Stands (if not (get_or c p 0 == 0) then valid_of (struck i d entries) else valid_of entries) c in
      subst P (sym is) at_place torn
    where
      at_place : Torn (64 * i + 47) 1 e c → Stands (if not (get_or c (64 * i + 47) 0 == 0) then valid_of (struck i d entries) else valid_of entries) c
      at_place torn = elim (cases_eq (get_or c (64 * i + 47) 0) 0) [
        | inl is ↦ subst (λ b. Stands (if not b then valid_of (struck i d entries) else valid_of entries) c) (sym (eq-eqb _ 0 is)) (holds_stands c (torn_nothing entries i d e c holds at one torn is))
        | inr ne ↦
            let now = torn_kind entries i d e c holds at one torn in
            let high : 1 < kind_with (get_or c (64 * i + 47) 0) = omega (arith, ne) in
            let counts = valid_set entries i (with_kind (kind_with (get_or c (64 * i + 47) 0)) d) (with_kind struck_kind d) (not_valid (with_kind (kind_with (get_or c (64 * i + 47) 0)) d) high) (not_valid (with_kind struck_kind d) (omega arith)) in
            subst (λ b. Stands (if not b then valid_of (struck i d entries) else valid_of entries) c) (sym (ne_eqb _ 0 ne)) (record { entries = slice_set entries i (with_kind (kind_with (get_or c (64 * i + 47) 0)) d); holds = now; counts = counts })
      ]

  -- with 0x80 written there
  pub struck_holds : (place : ℕ) → place ≡ 64 * i + 47 → (reads : List ℕ) → Holds entries reads → Holds (struck i d entries) (overwritten place (128 ∷ []) reads)
  struck_holds place is reads holds =
      let low = slice_get_within entries i d at in
      let room = holds.room in
      let inside : place ≤ length reads = omega arith in
      let torn = subst (λ p. Torn p 1 reads (overwritten place (128 ∷ []) reads)) is (torn_overwritten place (128 ∷ []) reads inside) in
      let byte : get_or (overwritten place (128 ∷ []) reads) (64 * i + 47) 0 ≡ 128 = ap (λ p. get_or (overwritten place (128 ∷ []) reads) p 0) (sym is) ∙ get_or-written_one place 128 reads inside in
      let kind : kind_with (get_or (overwritten place (128 ∷ []) reads) (64 * i + 47) 0) ≡ struck_kind = omega (arith, byte) in
      subst (λ k. Holds (slice_set entries i (with_kind k d)) (overwritten place (128 ∷ []) reads)) kind (torn_kind entries i d reads (overwritten place (128 ∷ []) reads) holds at one torn)

pub snapshot_kind : (e : RecEntry) → IsTrue (is_snapshot e) → e.kind ≡ 1
snapshot_kind e is = eqb-true e.kind 1 (and_parts _ _ is).1

pub no_term : (e : RecEntry) → e.kind ≢ 0 → is_term e ≡ false
no_term e ne = and_right _ _ (ne_eqb e.kind 0 ne)

-- the latest set's entry is one, however it was found
pub once_struck : (services : ℕ) (entries : List RecEntry) (i j : ℕ) (e d : RecEntry) → IsLatest services entries i e → IsLatest services entries j d → struck i e entries ≡ struck j d entries
once_struck services entries i j e d first second =
    let place = latest_once services entries i j e d first second in
    let some : Some e ≡ Some d = sym first.at ∙ ap (slice_get entries) place ∙ second.at in
    let same : e ≡ d = cc in
    λ t. struck (place t) (same t) entries
