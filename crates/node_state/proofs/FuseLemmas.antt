-- What a fuse leaves of a selection.
use Rattle.std.specs.Prelude.{◌&&◌, ◌||◌, nat_le, if◌then◌else◌}
use Rattle.std.proofs.Common.{◌≡◌, ◌≢◌, inl, inr, ⊎_elim, ℕ, ◌%◌, ◌<◌, ◌==◌, false, List, [], ◌∷◌, length, get_or, Result, Err, refl, sym, ◌∙◌, ap, subst, arith}
use Rattle.std.proofs.lemmas.Bool.{cases_Bool, cond-true, cond-false, eqb-true, eqb-false, lt-leb, le-ltb, or_from, and_left, and_right}
use Rattle.cl_base.specs.Disk.{FileState, DiskState, covers, painted, left_by, settled_file, written_file, synced_file, overwritten, IsTornWrite, Passes, ChangeGives}
use Rattle.cl_base.specs.Images.{left_by-settled, length-painted, get_or-painted, length-overwritten, overwritten_other}
use Rattle.cl_base.specs.Fuse.{FuseEnds, LetNone, Early, Later, passes_one, ends_one, ends_weaker, fuse_first, fuse_then}
use Rattle.cl_base.specs.declared.disk.Choice.{Choice}
use Rattle.cl_base.specs.declared.disk.Choice.TheVariants.{Drop, Keep, Fill}
use Rattle.cl_base.specs.declared.fault.Trouble.{Trouble}
use Rattle.cl_base.specs.declared.fault.Trouble.TheVariants.{Failed}
use Rattle.node_state.specs.Node.{Node, Tells, names_slot, slot_of}
use Rattle.node_state.specs.Steps.{IsReady}
use Rattle.node_state.proofs.FieldLemmas.{apart, get_or-written_one}
use Rattle.node_state.proofs.NodeLemmas.{slot_below, selects_before, selects_after}

module _ (before after : Node) (bytes : List ℕ) (ready : IsReady before after bytes) (slot : ℕ) (names : after.slot ≡ slot) where
  low : before.slot < 2
  low = slot_below before bytes ready.tells

  -- a file with a byte v for the selector
  chosen : (v : ℕ) (c : List ℕ) → length c ≡ 32 → ((i : ℕ) → i < 32 → i ≢ 16 → get_or c i 0 ≡ get_or bytes i 0) → get_or c 16 0 ≡ v → Tells (if v % 2 == slot then after else before) c
  chosen v c size same is = elim (cases_Bool (v % 2 == slot)) [
    | inl e ↦
        let picks : slot_of c ≡ after.slot = ap (λ b. b % 2) is ∙ eqb-true (v % 2) slot e ∙ sym names in
        subst (λ n. Tells n c) (sym (cond-true (v % 2 == slot) after before e)) (selects_after before after bytes c ready size same picks)
    | inr e ↦
        let other = eqb-false (v % 2) slot e in
        let differs : v % 2 ≢ slot = λ h. other h in
        let picks : slot_of c ≡ before.slot = ap (λ b. b % 2) is ∙ omega (arith, low, ready.slot, names, differs) in
        subst (λ n. Tells n c) (sym (cond-false (v % 2 == slot) after before e)) (selects_before before after bytes c ready size same picks)
  ]

  abbrev new_bytes : List ℕ
  new_bytes = overwritten 16 (slot ∷ []) bytes

  size_new : length new_bytes ≡ 32
  size_new = let len = ready.tells.0.size in omega (arith, length-overwritten 16 (slot ∷ []) bytes (omega (arith, len)), len)

  same_new : (i : ℕ) → i < 32 → i ≢ 16 → get_or new_bytes i 0 ≡ get_or bytes i 0
  same_new i below ne = let len = ready.tells.0.size in overwritten_other 16 (slot ∷ []) bytes i (omega (arith, len)) (apart 16 1 i (λ a b. ne (omega arith)))

  at_selector : get_or new_bytes 16 0 ≡ slot
  at_selector = let len = ready.tells.0.size in get_or-written_one 16 slot bytes (omega (arith, len))

  free_but : (i : ℕ) → i ≢ 16 → i < length bytes → (covers ((16, 17) ∷ []) i || nat_le (length bytes) i) ≡ false
  free_but i ne below = or_from _ _
      (or_from _ _ (⊎_elim (λ under. and_left _ _ (lt-leb 16 i under)) (λ over. and_right _ _ (le-ltb i 17 over)) (apart 16 1 i (λ a b. ne (omega arith)))) refl)
      (lt-leb (length bytes) i below)

  -- what each choice leaves of the file with the selector written
  pub left_selected : (choice : Choice) → Tells (if names_slot slot choice then after else before) (left_by choice (written_file 16 (slot ∷ []) (settled_file bytes)))
  left_selected Drop = ready.tells
  left_selected Keep =
      let small : slot % 2 ≡ slot = omega (arith, low, ready.slot, names) in
      selects_after before after bytes new_bytes ready size_new same_new (ap (λ b. b % 2) at_selector ∙ small ∙ sym names)
  left_selected (Fill x) =
      let len = length-painted x ((16, 17) ∷ []) (length bytes) 0 new_bytes in
      let old = ready.tells.0.size in
      chosen x (painted x ((16, 17) ∷ []) (length bytes) 0 new_bytes) (omega (arith, len, size_new))
      (λ i below ne. get_or-painted x ((16, 17) ∷ []) (length bytes) 0 new_bytes i i (omega (arith, size_new)) (omega arith)
      ∙ cond-false (covers ((16, 17) ∷ []) i || nat_le (length bytes) i) x (get_or new_bytes i 0) (free_but i ne (omega (arith, old))) ∙ same_new i below ne)
      (get_or-painted x ((16, 17) ∷ []) (length bytes) 0 new_bytes 16 16 (omega (arith, size_new)) refl)

  abbrev Left : DiskState → ℕ → Type 0
  Left left k = (choice : Choice) → Tells (if (k == 1) && names_slot slot choice then after else before) (left_by choice (left.files 0))

  -- the first call was refused
  none_passed : (files : ℕ → FileState) → files 0 ≡ settled_file bytes → (choice : Choice) → Tells before (left_by choice (files 0))
  none_passed files is choice = subst (Tells before) (sym (ap (left_by choice) is ∙ left_by-settled choice bytes)) ready.tells

  module _ (T : Type 0) (s0 s1 : DiskState) (is : s0.files 0 ≡ settled_file bytes) where
    pub first_refused : (trouble : Trouble) → ChangeGives {T = T} 0 (written_file 16 (slot ∷ [])) (IsTornWrite 16 1) s0 s1 (Err trouble) → FuseEnds {T = T} 2 Failed Left s0 s1 (Err trouble)
    first_refused trouble gives =
        ends_weaker T Trouble Failed 2 (Early 1 (LetNone s0.files)) Left s0 s1 (Err trouble)
        (λ k few left. subst (λ n. Left s1 n) (sym left.1.none) (none_passed s1.files (left.1.files 0 ∙ is)))
        (fuse_first T T Trouble Failed 1 1 (LetNone s0.files) s0 s1 trouble (ends_one T 0 (written_file 16 (slot ∷ [])) (IsTornWrite 16 1) s0 s1 (Err trouble) gives))

    pub second : (s2 : DiskState) (result : Result T Trouble) → Passes 0 (written_file 16 (slot ∷ []) (s0.files 0)) s0 s1 → ChangeGives {T = T} 0 synced_file (λ was now. now ≡ was) s1 s2 result → FuseEnds {T = T} 2 Failed Left s0 s2 result
    second s2 result passes gives =
        ends_weaker T Trouble Failed 2 (Later 1 (LetNone s1.files)) Left s0 s2 result
        (λ k few left.
        let is_one : k ≡ 1 = omega (arith, left.0, left.1.none) in
        let now : s2.files 0 ≡ written_file 16 (slot ∷ []) (settled_file bytes) = left.1.files 0 ∙ passes.files.changed ∙ ap (written_file 16 (slot ∷ [])) is in
        subst (λ n. Left s2 n) (sym is_one) (λ choice. subst (λ s. Tells (if names_slot slot choice then after else before) (left_by choice s)) (sym now) (left_selected choice)))
        (fuse_then T Trouble Failed 1 1 (LetNone s1.files) s0 s1 s2 result (passes_one passes) (ends_one T 0 synced_file (λ was now. now ≡ was) s1 s2 result gives))
