-- A set that is put among others in order.
use Rattle.std.specs.List.{insert}
use Rattle.std.proofs.Common.{Bool, true, false, not, IsTrue, ◌↔◌, ◌≡◌, ◌≢◌, inl, inr, ℕ, ◌+◌, ◌-◌, ◌<◌, ◌≤◌, ℤ, pos, ◌<ℤ◌, List, length, get_or, set, refl, sym, ◌∙◌, ap, subst, arith, get_or-set_other, get_or-set_same}
use Rattle.std.proofs.lemmas.Bool.{cases_lt, cases_eq}
use Rattle.std.proofs.lemmas.Int.{ints}
use Rattle.std.proofs.lemmas.List.{length-set, get_or_default}
use Rattle.std.proofs.lemmas.List.Edits.{length-insert, get_or-insert_below, get_or-insert_at, get_or-insert_above}
use Rattle.recording_log.specs.declared.entry.SnapshotAt.{SnapshotAt}
use Rattle.recording_log.specs.Listed.{IsBefore, Rise, IsPlace, IsFound, IsPutIn}

trans : (a b c : SnapshotAt) → IsBefore a b → IsBefore b c → IsBefore a c
trans a b c (inl x) (inl y) = inl (omega arith)
trans a b c (inl x) (inr y) = let same = y.0 in inl (omega (arith, same))
trans a b c (inr x) (inl y) = let same = x.0 in inl (omega (arith, same))
trans a b c (inr x) (inr y) = let first = x.1 in let second = y.1 in inr (x.0 ∙ y.0, omega (arith, ints, first, second))

no_less : (m n : ℤ) → (m <ℤ n → ⊥) → (n <ℤ m → ⊥) → m ≡ n
no_less m n one other = grind (arith, ints)

same_position : (a b : SnapshotAt) → (IsBefore a b → ⊥) → (IsBefore b a → ⊥) → a.position ≡ b.position
same_position a b one other = elim (cases_lt a.position b.position) [
  | inl less ↦ absurd (one (inl less))
  | inr up ↦ elim (cases_lt b.position a.position) [
    | inl more ↦ absurd (other (inl more))
    | inr down ↦ omega arith
  ]
]

same_term : (a b : SnapshotAt) → (IsBefore a b → ⊥) → (IsBefore b a → ⊥) → a.term ≡ b.term
same_term a b one other =
    let same = same_position a b one other in
    no_less a.term b.term (λ less. one (inr (same, less))) (λ more. other (inr (sym same, more)))

-- before a set is before another of its position and term
before_like : (a b c : SnapshotAt) → IsBefore a b → b.position ≡ c.position → b.term ≡ c.term → IsBefore a c
before_like a b c (inl x) position term = inl (omega (arith, x))
before_like a b c (inr x) position term = inr (x.0 ∙ position, subst (λ t. a.term <ℤ t) term x.1)

like_before : (a b c : SnapshotAt) → IsBefore a b → a.position ≡ c.position → a.term ≡ c.term → IsBefore c b
like_before a b c (inl x) position term = inl (omega (arith, x))
like_before a b c (inr x) position term = inr (sym position ∙ x.0, subst (λ t. t <ℤ b.term) term x.1)

module _ (xs : List SnapshotAt) (s : SnapshotAt) (p : ℕ) (rise : Rise xs) (place : IsPlace s xs p) where
  -- in place of one of its position and term
  module _ (within : p < length xs) (none : (d : SnapshotAt) → IsBefore s (get_or xs p d) → ⊥) where
    is_x : (d : SnapshotAt) → get_or xs p d ≡ get_or xs p s
    is_x d = get_or_default xs p d s within

    not_before : IsBefore s (get_or xs p s) → ⊥
    not_before = none s

    not_behind : IsBefore (get_or xs p s) s → ⊥
    not_behind before = place.from p s (omega arith) within before

    position : (get_or xs p s).position ≡ s.position
    position = same_position (get_or xs p s) s not_behind not_before

    term : (get_or xs p s).term ≡ s.term
    term = same_term (get_or xs p s) s not_behind not_before

    here : (d : SnapshotAt) → get_or (set xs p s) p d ≡ s
    here d = get_or-set_same xs p s d within

    there : (k : ℕ) (d : SnapshotAt) → k ≢ p → get_or (set xs p s) k d ≡ get_or xs k d
    there k d other = get_or-set_other xs p k s d other

    rises : Rise (set xs p s)
    rises i j d below last =
        let size = length-set xs p s in
        let inside : j < length xs = omega (arith, size) in
        let old = rise i j d below inside in
        elim (cases_eq j p) [
          | inl is_p ↦
              let apart : i ≢ p = omega arith in
              let old_x : IsBefore (get_or xs i d) (get_or xs p s) = subst (λ y. IsBefore (get_or xs i d) y) (ap (λ k. get_or xs k d) is_p ∙ is_x d) old in
              let now : IsBefore (get_or xs i d) s = before_like (get_or xs i d) (get_or xs p s) s old_x position term in
              subst (λ y. IsBefore y (get_or (set xs p s) j d)) (sym (there i d apart)) (subst (λ y. IsBefore (get_or xs i d) y) (sym (ap (λ k. get_or (set xs p s) k d) is_p ∙ here d)) now)
          | inr not_p ↦ elim (cases_eq i p) [
            | inl is_p ↦
                let old_x : IsBefore (get_or xs p s) (get_or xs j d) = subst (λ y. IsBefore y (get_or xs j d)) (ap (λ k. get_or xs k d) is_p ∙ is_x d) old in
                let now : IsBefore s (get_or xs j d) = like_before (get_or xs p s) (get_or xs j d) s old_x position term in
                subst (λ y. IsBefore y (get_or (set xs p s) j d)) (sym (ap (λ k. get_or (set xs p s) k d) is_p ∙ here d)) (subst (λ y. IsBefore s y) (sym (there j d not_p)) now)
            | inr apart ↦ subst (λ y. IsBefore y (get_or (set xs p s) j d)) (sym (there i d apart)) (subst (λ y. IsBefore (get_or xs i d) y) (sym (there j d not_p)) old)
          ]
        ]

    pub replaced : IsPutIn s xs (set xs p s)
    replaced =
        let size = length-set xs p s in
        record {
          rise = rises;
          only = λ k d inside. elim (cases_eq k p) [
            | inl is_p ↦ inl (ap (λ m. get_or (set xs p s) m d) is_p ∙ here d)
            | inr other ↦ inr (k, omega (arith, size), there k d other)
          ];
          here = record { index = p; within = omega (arith, size); term_there = λ d. ap (λ (y : SnapshotAt). y.term) (here d); position_there = λ d. ap (λ (y : SnapshotAt). pos y.position) (here d) };
          kept = λ t q among. elim (cases_eq among.index p) [
            | inl is_p ↦ record {
              index = p;
              within = omega (arith, size);
              term_there = λ d. ap (λ (y : SnapshotAt). y.term) (here d) ∙ sym term ∙ ap (λ (y : SnapshotAt). y.term) (sym (ap (λ k. get_or xs k d) is_p ∙ is_x d)) ∙ among.term_there d;
              position_there = λ d. ap (λ (y : SnapshotAt). pos y.position) (here d) ∙ ap pos (sym position) ∙ ap (λ (y : SnapshotAt). pos y.position) (sym (ap (λ k. get_or xs k d) is_p ∙ is_x d)) ∙ among.position_there d;
            }
            | inr other ↦ let within = among.within in record {
              index = among.index;
              within = omega (arith, size);
              term_there = λ d. ap (λ (y : SnapshotAt). y.term) (there among.index d other) ∙ among.term_there d;
              position_there = λ d. ap (λ (y : SnapshotAt). pos y.position) (there among.index d other) ∙ among.position_there d;
            }
          ];
        }

  -- before one that is after it, or behind all
  module _ (next : (d : SnapshotAt) → p < length xs → IsBefore s (get_or xs p d)) where
    inside_all : p ≤ length xs
    inside_all = place.within

    size : length (insert xs p s) ≡ length xs + 1
    size = length-insert xs p s inside_all

    below : (k : ℕ) (d : SnapshotAt) → k < p → get_or (insert xs p s) k d ≡ get_or xs k d
    below k d less = get_or-insert_below xs p s d k less inside_all

    at_p : (d : SnapshotAt) → get_or (insert xs p s) p d ≡ s
    at_p d = get_or-insert_at xs p s d inside_all

    above : (k : ℕ) (d : SnapshotAt) → p < k → get_or (insert xs p s) k d ≡ get_or xs (k - 1) d
    above k d more =
        let is : k ≡ k - 1 + 1 = omega arith in
        ap (λ m. get_or (insert xs p s) m d) is ∙ get_or-insert_above xs p s d (k - 1) (omega arith) inside_all

    -- it is before each of those that move
    before_rest : (k : ℕ) (d : SnapshotAt) → p ≤ k → k < length xs → IsBefore s (get_or xs k d)
    before_rest k d from inside = elim (cases_eq k p) [
      | inl is_p ↦ subst (λ m. IsBefore s (get_or xs m d)) (sym is_p) (next d (omega arith))
      | inr other ↦ trans s (get_or xs p d) (get_or xs k d) (next d (omega arith)) (rise p k d (omega (arith, other)) inside)
    ]

    both : (i j : ℕ) (a b d : SnapshotAt) → get_or (insert xs p s) i d ≡ a → get_or (insert xs p s) j d ≡ b → IsBefore a b → IsBefore (get_or (insert xs p s) i d) (get_or (insert xs p s) j d)
    both i j a b d first second is = subst (λ y. IsBefore y (get_or (insert xs p s) j d)) (sym first) (subst (λ y. IsBefore a y) (sym second) is)

    rises_in : Rise (insert xs p s)
    rises_in i j d less last = elim (cases_lt j p) [
      | inl j_below ↦ let i_below : i < p = omega arith in both i j (get_or xs i d) (get_or xs j d) d (below i d i_below) (below j d j_below) (rise i j d less (omega (arith, inside_all)))
      | inr from ↦ elim (cases_eq j p) [
        | inl is_p ↦ let i_below : i < p = omega arith in both i j (get_or xs i d) s d (below i d i_below) (ap (λ k. get_or (insert xs p s) k d) is_p ∙ at_p d) (place.behind i d i_below)
        | inr other ↦
            let j_above : p < j = omega (arith, other) in
            let j_in : j - 1 < length xs = omega (arith, size) in
            elim (cases_lt i p) [
              | inl i_below ↦ both i j (get_or xs i d) (get_or xs (j - 1) d) d (below i d i_below) (above j d j_above) (rise i (j - 1) d (omega arith) j_in)
              | inr i_from ↦ elim (cases_eq i p) [
                | inl i_is ↦ both i j s (get_or xs (j - 1) d) d (ap (λ k. get_or (insert xs p s) k d) i_is ∙ at_p d) (above j d j_above) (before_rest (j - 1) d (omega arith) j_in)
                | inr i_other ↦ let i_above : p < i = omega (arith, i_other) in both i j (get_or xs (i - 1) d) (get_or xs (j - 1) d) d (above i d i_above) (above j d j_above) (rise (i - 1) (j - 1) d (omega arith) j_in)
              ]
            ]
      ]
    ]

    pub inserted : IsPutIn s xs (insert xs p s)
    inserted = record {
      rise = rises_in;
      only = λ k d inside. elim (cases_lt k p) [
        | inl less ↦ inr (k, omega (arith, inside_all), below k d less)
        | inr from ↦ elim (cases_eq k p) [
          | inl is_p ↦ inl (ap (λ m. get_or (insert xs p s) m d) is_p ∙ at_p d)
          | inr other ↦ inr (k - 1, omega (arith, size, other), above k d (omega (arith, other)))
        ]
      ];
      here = record { index = p; within = omega (arith, size, inside_all); term_there = λ d. ap (λ (y : SnapshotAt). y.term) (at_p d); position_there = λ d. ap (λ (y : SnapshotAt). pos y.position) (at_p d) };
      kept = λ t q among. let within = among.within in elim (cases_lt among.index p) [
        | inl less ↦ record {
          index = among.index;
          within = omega (arith, size);
          term_there = λ d. ap (λ (y : SnapshotAt). y.term) (below among.index d less) ∙ among.term_there d;
          position_there = λ d. ap (λ (y : SnapshotAt). pos y.position) (below among.index d less) ∙ among.position_there d;
        }
        | inr from ↦
            let moved : (d : SnapshotAt) → get_or (insert xs p s) (among.index + 1) d ≡ get_or xs among.index d = λ d. get_or-insert_above xs p s d among.index from inside_all in
            record {
              index = among.index + 1;
              within = omega (arith, size);
              term_there = λ d. ap (λ (y : SnapshotAt). y.term) (moved d) ∙ among.term_there d;
              position_there = λ d. ap (λ (y : SnapshotAt). pos y.position) (moved d) ∙ among.position_there d;
            }
      ];
    }

-- a set behind those that are before it
pub place_here : (xs : List SnapshotAt) (s z : SnapshotAt) (p : ℕ) → Rise xs → p ≤ length xs → ((k : ℕ) (d : SnapshotAt) → p ≤ k → k < length xs → IsBefore (get_or xs k d) s → ⊥) → 0 < p → IsBefore (get_or xs (p - 1) z) s → IsPlace s xs p
place_here xs s z p rise within from some before = record {
  within = within;
  from = from;
  behind = λ k d below. elim (cases_eq k (p - 1)) [
    | inl last ↦ subst (λ m. IsBefore (get_or xs m d) s) (sym last) (subst (λ y. IsBefore y s) (get_or_default xs (p - 1) z d (omega arith)) before)
    | inr other ↦ trans (get_or xs k d) (get_or xs (p - 1) d) s (rise k (p - 1) d (omega (arith, other)) (omega arith)) (subst (λ y. IsBefore y s) (get_or_default xs (p - 1) z d (omega arith)) before)
  ];
}

pub found_end : (xs : List SnapshotAt) (s : SnapshotAt) (p : ℕ) → IsPlace s xs p → length xs ≤ p → IsFound s xs p false
found_end xs s p place over = record { place = place; same = λ is. absurd (cc); other = λ is d within. absurd (omega arith) }

pub found_here : (xs : List SnapshotAt) (s z : SnapshotAt) (p : ℕ) (r : Bool) → IsPlace s xs p → p < length xs → IsTrue r ↔ IsBefore s (get_or xs p z) → IsFound s xs p (not r)
found_here xs s z p true place within iff = record {
  place = place;
  same = λ is. absurd (cc);
  other = λ is d inside. subst (λ y. IsBefore s y) (get_or_default xs p z d within) (iff.0 refl);
}
found_here xs s z p false place within iff = record {
  place = place;
  same = λ is. (within, λ d before. differ (iff.1 (subst (λ y. IsBefore s y) (get_or_default xs p d z within) before)));
  other = λ is. absurd (cc);
}
  where
    differ : false ≡ true → ⊥
    differ is = cc
