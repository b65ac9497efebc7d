-- Lists of parts, one after the other.
use Rattle.std.specs.Prelude.{◌&&◌, nat_lt, if◌then◌else◌, OnOk}
use Rattle.std.proofs.Common.{◌≡◌, ◌⊎◌, inl, inr, ⊎_elim, ℕ, ◌+◌, ◌-◌, ◌<◌, ◌≤◌, ◌==◌, List, [], ◌∷◌, ◌++◌, Result, Ok, Err, IsTrue, refl, sym, ◌∙◌, ap, subst, arith}
use Rattle.std.proofs.lemmas.Bool.{cases_lt, cond-true, cond-false, lt-ltb, le-ltb}
use Rattle.cl_base.specs.Disk.{DiskState, LeavesOnly, left_by}
use Rattle.cl_base.specs.Torn.{started, run_after, weaker}
use Rattle.cl_base.specs.Fuse.{FuseEnds, Early, Later, Passed, passes_none, ends_weaker, fuse_first, fuse_then}
use Rattle.cl_base.specs.Runs.{DiskLaws}
use Rattle.cl_base.specs.declared.disk.Choice.{Choice}
use Rattle.cl_base.specs.declared.fault.MemberFault.{MemberFault}
use Rattle.cl_base.specs.declared.fault.MemberFault.TheVariants.{Device}
use Rattle.member_disk.specs.Kept.{Kept, Stands, EachStands, StandsAmong}
use Rattle.member_disk.specs.Parts.{Part, calls_of, made, stages, left_after, LeftAfter, IsMade}
use Rattle.member_disk.proofs.Compose.{head_among}

pub made_both : (ps qs : List Part) (kept : Kept) → made (ps ++ qs) kept ≡ made qs (made ps kept)
made_both [] qs kept = refl
made_both (p ∷ ps) qs kept = made_both ps qs p.makes

calls_both : (ps qs : List Part) → calls_of (ps ++ qs) ≡ calls_of ps + calls_of qs
calls_both [] qs = omega arith
calls_both (p ∷ ps) qs = let rest = calls_both ps qs in omega (arith, rest)

first_among : (ps qs : List Part) (kept : Kept) (c : ℕ → List ℕ) → StandsAmong (stages ps kept) c → StandsAmong (stages (ps ++ qs) kept) c
first_among [] qs kept c among = ⊎_elim (λ is. head_among qs kept c is) (λ none. absurd none) among
first_among (p ∷ ps) qs kept c among = ⊎_elim (λ is. inl is) (λ rest. inr (first_among ps qs p.makes c rest)) among

later_among : (ps qs : List Part) (kept : Kept) (c : ℕ → List ℕ) → StandsAmong (stages qs (made ps kept)) c → StandsAmong (stages (ps ++ qs) kept) c
later_among [] qs kept c among = among
later_among (p ∷ ps) qs kept c among = inr (later_among ps qs p.makes c among)

left_first : (ps qs : List Part) (kept : Kept) (k : ℕ) (choice : Choice) → k < calls_of ps → left_after (ps ++ qs) kept k choice ≡ left_after ps kept k choice
left_first [] qs kept k choice few = absurd (omega arith)
left_first (p ∷ ps) qs kept k choice few = elim (cases_lt k p.calls) [
  | inl here ↦
      let x : Kept = if (k == p.calls - 1) && p.last choice then p.makes else kept in
      cond-true (nat_lt k p.calls) x (left_after (ps ++ qs) p.makes (k - p.calls) choice) (lt-ltb k p.calls here) ∙ sym (cond-true (nat_lt k p.calls) x (left_after ps p.makes (k - p.calls) choice) (lt-ltb k p.calls here))
  | inr over ↦
      let x : Kept = if (k == p.calls - 1) && p.last choice then p.makes else kept in
      cond-false (nat_lt k p.calls) x (left_after (ps ++ qs) p.makes (k - p.calls) choice) (le-ltb k p.calls over) ∙ left_first ps qs p.makes (k - p.calls) choice (omega arith)
      ∙ sym (cond-false (nat_lt k p.calls) x (left_after ps p.makes (k - p.calls) choice) (le-ltb k p.calls over))
]

left_later : (ps qs : List Part) (kept : Kept) (k : ℕ) (choice : Choice) → calls_of ps ≤ k → left_after (ps ++ qs) kept k choice ≡ left_after qs (made ps kept) (k - calls_of ps) choice
left_later [] qs kept k choice from = let same : k ≡ k - 0 = omega arith in ap (λ j. left_after qs kept j choice) same
left_later (p ∷ ps) qs kept k choice from =
    let x : Kept = if (k == p.calls - 1) && p.last choice then p.makes else kept in
    let over : p.calls ≤ k = omega arith in
    let less : k - p.calls - calls_of ps ≡ k - (p.calls + calls_of ps) = omega arith in
    cond-false (nat_lt k p.calls) x (left_after (ps ++ qs) p.makes (k - p.calls) choice) (le-ltb k p.calls over) ∙ left_later ps qs p.makes (k - p.calls) choice (omega arith)
    ∙ ap (λ j. left_after qs (made ps p.makes) j choice) less

module _ {D : Type 0} (state : D → DiskState) (moment : D → ℕ) (left_since : D → ℕ → (ℕ → List ℕ) → Type 0) (T U : Type 0) (ps qs : List Part) (kept : Kept) (old mid : D) where
  -- some parts are done, and others follow
  pub then_all : (v : T) (new : D) (result : Result U MemberFault) → IsMade {T = T} state moment left_since ps kept old mid (Ok v) → IsMade {T = U} state moment left_since qs (made ps kept) mid new result
      → IsMade {T = U} state moment left_since (ps ++ qs) kept old new result
  then_all v new result first second = record {
    done = subst (λ (k : Kept). OnOk result (EachStands k (state new).files)) (sym (made_both ps qs kept)) second.done;
    each = λ c image. later_among ps qs kept c (second.each c image);
    run = run_after moment left_since old mid new (StandsAmong (stages (ps ++ qs) kept))
        (weaker moment left_since old mid (StandsAmong (stages ps kept)) (StandsAmong (stages (ps ++ qs) kept)) (first_among ps qs kept) first.run)
        (weaker moment left_since mid new (StandsAmong (stages qs (made ps kept))) (StandsAmong (stages (ps ++ qs) kept)) (later_among ps qs kept) second.run);
    fuse = λ alive.
        let passed : Passed (calls_of ps) (state old) (state mid) = first.fuse alive in
        subst (λ m. FuseEnds {T = U} m Device (LeftAfter (ps ++ qs) kept) (state old) (state new) result) (sym (calls_both ps qs))
        (ends_weaker U MemberFault Device (calls_of ps + calls_of qs) (Later (calls_of ps) (LeftAfter qs (made ps kept))) (LeftAfter (ps ++ qs) kept) (state old) (state new) result
        (λ k few left. λ choice. subst (λ x. Stands x (λ f. left_by choice ((state new).files f))) (sym (left_later ps qs kept k choice left.0)) (left.1 choice))
        (fuse_then U MemberFault Device (calls_of ps) (calls_of qs) (LeftAfter qs (made ps kept)) (state old) (state mid) (state new) result passed second.fuse)) alive;
  }

  -- they failed, and no other follows
  pub early_all : (e : MemberFault) → IsMade {T = T} state moment left_since ps kept old mid (Err e) → IsMade {T = U} state moment left_since (ps ++ qs) kept old mid (Err e)
  early_all e first = record {
    done = tt;
    each = λ c image. first_among ps qs kept c (first.each c image);
    run = weaker moment left_since old mid (StandsAmong (stages ps kept)) (StandsAmong (stages (ps ++ qs) kept)) (first_among ps qs kept) first.run;
    fuse = subst (λ m. FuseEnds {T = U} m Device (LeftAfter (ps ++ qs) kept) (state old) (state mid) (Err e)) (sym (calls_both ps qs))
        (ends_weaker U MemberFault Device (calls_of ps + calls_of qs) (Early (calls_of ps) (LeftAfter ps kept)) (LeftAfter (ps ++ qs) kept) (state old) (state mid) (Err e)
        (λ k few left. λ choice. subst (λ x. Stands x (λ f. left_by choice ((state mid).files f))) (sym (left_first ps qs kept k choice left.0)) (left.1 choice))
        (fuse_first T U MemberFault Device (calls_of ps) (calls_of qs) (LeftAfter ps kept) (state old) (state mid) e first.fuse));
  }

module _ {D : Type 0} (L : DiskLaws D) (T : Type 0) (ps : List Part) (kept : Kept) (old : D) (honest : IsTrue (L.is_honest old)) (all : EachStands kept (L.state old).files) where
  begun : LeavesOnly L.moment L.left_since old old (StandsAmong (stages ps kept))
  begun = started L.moment L.left_since old (StandsAmong (stages ps kept)) (λ c left. head_among ps kept c (all c (L.only_now old c honest left)))

  -- it failed before any call
  pub not_begun : (e : MemberFault) → (e ≡ Device → ⊥) → IsMade {T = T} L.state L.moment L.left_since ps kept old old (Err e)
  not_begun e other = record { done = tt; each = λ c image. head_among ps kept c (all c image); run = begun; fuse = λ alive. λ is. absurd (other is) }

-- a change without parts
pub made_none : {D : Type 0} (L : DiskLaws D) (T : Type 0) (v : T) (kept : Kept) (old : D) → IsTrue (L.is_honest old) → EachStands kept (L.state old).files → IsMade {T = T} L.state L.moment L.left_since [] kept old old (Ok v)
made_none L T v kept old honest all = record {
  done = all;
  each = λ c image. inl (all c image);
  run = begun L T [] kept old honest all;
  fuse = λ alive. passes_none (L.state old) (L.state old) refl alive refl;
}
