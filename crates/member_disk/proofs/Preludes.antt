-- Calls that leave standing what is kept, and then a part: one part of all these calls.
use Rattle.std.specs.Prelude.{◌&&◌, nat_lt, if◌then◌else◌}
use Rattle.std.proofs.Common.{◌≡◌, ◌≢◌, inl, inr, ℕ, ◌+◌, ◌-◌, ◌<◌, ◌≤◌, ◌==◌, Bool, List, [], ◌∷◌, Result, Ok, Err, sym, ◌∙◌, ap, subst, arith}
use Rattle.std.proofs.lemmas.Bool.{cases_eq, cond-true, lt-ltb, eq-eqb, ne_eqb}
use Rattle.cl_base.specs.Disk.{DiskState, LeavesOnly, left_by}
use Rattle.cl_base.specs.Torn.{run_after, weaker}
use Rattle.cl_base.specs.Fuse.{FuseEnds, Early, Later, ends_weaker, fuse_first, fuse_then}
use Rattle.cl_base.specs.declared.disk.Choice.{Choice}
use Rattle.cl_base.specs.declared.fault.MemberFault.{MemberFault}
use Rattle.cl_base.specs.declared.fault.MemberFault.TheVariants.{Device}
use Rattle.member_disk.specs.Kept.{Kept, Stands, EachStands, StandsAmong}
use Rattle.member_disk.specs.Parts.{Part, stages, left_after, LeftAfter, IsMade}

-- what a fuse leaves of calls that leave standing what is kept
abbrev pub StillStands : Kept → DiskState → ℕ → Type 0
StillStands kept left k = (choice : Choice) → Stands kept (λ f. left_by choice (left.files f))

module _ {D : Type 0} (state : D → DiskState) (moment : D → ℕ) (left_since : D → ℕ → (ℕ → List ℕ) → Type 0) (T U : Type 0) (m : ℕ) (p : Part) (kept : Kept) (old mid : D) where
  abbrev pub whole : Part
  whole = record { calls = m + p.calls; last = p.last; makes = p.makes }

  same_test : (k : ℕ) → m ≤ k → k < m + p.calls → (k - m == p.calls - 1) ≡ (k == m + p.calls - 1)
  same_test k from few = elim (cases_eq k (m + p.calls - 1)) [
    | inl e ↦ let less : k - m ≡ p.calls - 1 = omega arith in eq-eqb (k - m) (p.calls - 1) less ∙ sym (eq-eqb k (m + p.calls - 1) e)
    | inr ne ↦ let less : k - m ≢ p.calls - 1 = λ h. ne (omega arith) in ne_eqb (k - m) (p.calls - 1) less ∙ sym (ne_eqb k (m + p.calls - 1) ne)
  ]

  pub prelude_done : (v : T) (new : D) (result : Result U MemberFault) → LeavesOnly moment left_since old mid (Stands kept) → FuseEnds {T = T} m Device (StillStands kept) (state old) (state mid) (Ok v)
      → IsMade {T = U} state moment left_since (p ∷ []) kept mid new result → IsMade {T = U} state moment left_since (whole ∷ []) kept old new result
  prelude_done v new result run first second = record {
    done = second.done;
    each = second.each;
    run = run_after moment left_since old mid new (StandsAmong (stages (p ∷ []) kept))
        (weaker moment left_since old mid (Stands kept) (StandsAmong (stages (p ∷ []) kept)) (λ c is. inl is) run) second.run;
    fuse = λ alive.
        let same : m + (p.calls + 0) ≡ m + p.calls + 0 = omega arith in
        subst (λ n. FuseEnds {T = U} n Device (LeftAfter (whole ∷ []) kept) (state old) (state new) result) same
        (ends_weaker U MemberFault Device (m + (p.calls + 0)) (Later m (LeftAfter (p ∷ []) kept)) (LeftAfter (whole ∷ []) kept) (state old) (state new) result
        (λ k few left. λ choice.
        let from = left.0 in
        let x = λ (b : Bool). if b && p.last choice then p.makes else kept in
        let one : left_after (p ∷ []) kept (k - m) choice ≡ x (k - m == p.calls - 1) = cond-true (nat_lt (k - m) p.calls) (x (k - m == p.calls - 1)) p.makes (lt-ltb (k - m) p.calls (omega arith)) in
        let two : left_after (whole ∷ []) kept k choice ≡ x (k == m + p.calls - 1) = cond-true (nat_lt k (m + p.calls)) (x (k == m + p.calls - 1)) p.makes (lt-ltb k (m + p.calls) (omega arith)) in
        subst (λ y. Stands y (λ f. left_by choice ((state new).files f))) (one ∙ ap x (same_test k from (omega arith)) ∙ sym two) (left.1 choice))
        (fuse_then U MemberFault Device m (p.calls + 0) (LeftAfter (p ∷ []) kept) (state old) (state mid) (state new) result (first alive) second.fuse)) alive;
  }

  pub prelude_ended : (e : MemberFault) → 0 < p.calls → EachStands kept (state mid).files → LeavesOnly moment left_since old mid (Stands kept) → FuseEnds {T = T} m Device (StillStands kept) (state old) (state mid) (Err e)
      → IsMade {T = U} state moment left_since (whole ∷ []) kept old mid (Err e)
  prelude_ended e some all run first = record {
    done = tt;
    each = λ c image. inl (all c image);
    run = weaker moment left_since old mid (Stands kept) (StandsAmong (stages (p ∷ []) kept)) (λ c is. inl is) run;
    fuse =
        let same : m + p.calls ≡ m + p.calls + 0 = omega arith in
        subst (λ n. FuseEnds {T = U} n Device (LeftAfter (whole ∷ []) kept) (state old) (state mid) (Err e)) same
        (ends_weaker U MemberFault Device (m + p.calls) (Early m (StillStands kept)) (LeftAfter (whole ∷ []) kept) (state old) (state mid) (Err e)
        (λ k few left. λ choice.
        let under = left.0 in
        let x = λ (b : Bool). if b && p.last choice then p.makes else kept in
        let differs : k ≢ m + p.calls - 1 = omega arith in
        let two : left_after (whole ∷ []) kept k choice ≡ x (k == m + p.calls - 1) = cond-true (nat_lt k (m + p.calls)) (x (k == m + p.calls - 1)) p.makes (lt-ltb k (m + p.calls) few) in
        subst (λ y. Stands y (λ f. left_by choice ((state mid).files f))) (sym (two ∙ ap x (ne_eqb k (m + p.calls - 1) differs))) (left.1 choice))
        (fuse_first T U MemberFault Device m p.calls (StillStands kept) (state old) (state mid) e first));
  }
