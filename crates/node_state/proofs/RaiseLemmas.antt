-- A raise, of its two parts.
use Rattle.std.specs.Prelude.{◌&&◌, if◌then◌else◌, OnOk}
use Rattle.std.specs.Int.{w64, cast_signed}
use Rattle.std.proofs.Common.{◌≡◌, ◌≢◌, inl, inr, ℕ, ◌+◌, ◌-◌, ◌*◌, ◌<◌, ◌≤◌, ◌^◌, ◌==◌, ◌%◌, List, [], ◌∷◌, length, Result, Ok, Err, sym, ◌∙◌, ap, subst, arith}
use Rattle.std.proofs.lemmas.Bool.{cases_eq, eq-eqb, ne_eqb}
use Rattle.cl_base.specs.Disk.{FileState, DiskState, ChangesFile, IsImage, settled_file, overwritten, left_by}
use Rattle.cl_base.specs.Images.{length-overwritten, overwritten_other}
use Rattle.cl_base.specs.Torn.{settled_image}
use Rattle.cl_base.specs.Fuse.{Passed, FuseEnds, Early, Later, ends_weaker, fuse_first, fuse_then}
use Rattle.cl_base.specs.declared.disk.Choice.{Choice}
use Rattle.cl_base.specs.declared.fault.Trouble.{Trouble}
use Rattle.cl_base.specs.declared.fault.Trouble.TheVariants.{Failed}
use Rattle.wire_prims.specs.Fields.{u64_at, i64_at, u32_at, le32, le64, length-le32, length-le64, u64_at-same, u64_at-overwritten, u32_at-overwritten}
use Rattle.node_state.specs.Node.{Node, Tells, member_of, names_slot}
use Rattle.node_state.specs.Steps.{AllTell, IsReady, IsRaise, staged, selected}
use Rattle.node_state.proofs.FieldLemmas.{apart, get_or-written_one}
use Rattle.cl_base.specs.Torn.{Torn}
use Rattle.node_state.proofs.NodeLemmas.{selects_after, torn_tells, spare_term, spare_member}

pub on_ok : (T : Type 0) (result : Result T Trouble) (P Q : Type 0) → (P → Q) → OnOk result P → OnOk result Q
on_ok T (Ok v) P Q so on = so on
on_ok T (Err e) P Q so on = on

module _ (slot bits member : ℕ) (before after : Node) (is : IsRaise slot bits member before after) (below : slot < 2) where
  -- what was staged is ready
  pub staged_ready : (reads : List ℕ) → bits < 2 ^ 64 → member < 2 ^ 32 → length reads ≡ 32 → Tells before (staged slot bits member reads) → IsReady before after (staged slot bits member reads)
  unfolding i64_at
  staged_ready reads fits small size tells =
      let one = overwritten (8 * slot) (le64 bits) reads in
      let size_one : length one ≡ 32 = omega (arith, length-overwritten (8 * slot) (le64 bits) reads (omega (arith, size)), length-le64 bits, size) in
      let kept : u64_at (8 * slot) (staged slot bits member reads) ≡ u64_at (8 * slot) one =
      u64_at-same (8 * slot) (staged slot bits member reads) one (λ i from upto. overwritten_other (20 + 4 * slot) (le32 member) one i (omega (arith, size_one)) (inl (omega arith))) in
      let written : u64_at (8 * slot) one ≡ bits = u64_at-overwritten (8 * slot) bits reads fits (omega (arith, size)) in
      record {
        tells = tells;
        slot = is.to ∙ omega (arith, is.from);
        term = ap (λ n. i64_at (8 * n) (staged slot bits member reads)) is.to ∙ ap (cast_signed w64) (kept ∙ written) ∙ is.term;
        voted = ap (λ n. member_of (u32_at (20 + 4 * n) (staged slot bits member reads))) is.to ∙ ap member_of (u32_at-overwritten (20 + 4 * slot) member one small (omega (arith, size_one))) ∙ sym is.voted;
        low = is.low;
        high = is.high;
      }

  -- what was selected tells the node after
  pub selected_tells : (bytes : List ℕ) → IsReady before after bytes → Tells after (selected slot bytes)
  selected_tells bytes ready =
      let len = ready.tells.0.size in
      let size : length (selected slot bytes) ≡ 32 = omega (arith, length-overwritten 16 (slot ∷ []) bytes (omega (arith, len)), len) in
      let small : slot % 2 ≡ slot = omega arith in
      selects_after before after bytes (selected slot bytes) ready size
      (λ i within ne. overwritten_other 16 (slot ∷ []) bytes i (omega (arith, len)) (apart 16 1 i (λ a b. ne (omega arith))))
      (ap (λ b. b % 2) (get_or-written_one 16 slot bytes (omega (arith, len))) ∙ small ∙ sym is.to)

  -- once it is settled, each image tells it
  pub settled_tells : (bytes : List ℕ) (was mid files : ℕ → FileState) → IsReady before after bytes → mid 0 ≡ settled_file bytes → ((f : ℕ) → f ≢ 0 → mid f ≡ was f)
      → ChangesFile 0 mid files (settled_file (selected slot (mid 0).reads)) → AllTell after was files
  settled_tells bytes was mid files ready at others ch = record {
    this = λ c image.
        let here : files 0 ≡ settled_file (selected slot bytes) = ch.changed ∙ ap (λ (s : FileState). settled_file (selected slot s.reads)) at in
        subst (Tells after) (sym (settled_image (selected slot bytes) c (subst (λ s. IsImage s c) here image))) (selected_tells bytes ready);
    others = λ f ne. ch.others f ne ∙ others f ne;
  }

  abbrev Left : (n : ℕ) → DiskState → ℕ → Type 0
  Left n left k = (choice : Choice) → Tells (if (k == n) && names_slot slot choice then after else before) (left_by choice (left.files 0))

  pub fuse_of_two : (T : Type 0) (s0 s1 s2 : DiskState) (result : Result T Trouble) → Passed 3 s0 s1 → FuseEnds {T = T} 2 Failed (Left 1) s1 s2 result → FuseEnds {T = T} 5 Failed (Left 4) s0 s2 result
  fuse_of_two T s0 s1 s2 result first second =
      ends_weaker T Trouble Failed 5 (Later 3 (Left 1)) (Left 4) s0 s2 result
      (λ k few left. λ choice. subst (λ b. Tells (if b && names_slot slot choice then after else before) (left_by choice (s2.files 0))) (same_test k left.0) (left.1 choice))
      (fuse_then T Trouble Failed 3 2 (Left 1) s0 s1 s2 result first second)
    where
      same_test : (k : ℕ) → 3 ≤ k → (k - 3 == 1) ≡ (k == 4)
      same_test k enough = elim (cases_eq k 4) [
        | inl e ↦ let less : k - 3 ≡ 1 = omega (arith, e) in eq-eqb (k - 3) 1 less ∙ sym (eq-eqb k 4 e)
        | inr ne ↦ let less : k - 3 ≢ 1 = λ h. ne (omega (arith, h, enough)) in ne_eqb (k - 3) 1 less ∙ sym (ne_eqb k 4 ne)
      ]

  -- before the last two calls each choice leaves what was there
  pub left_before : (T : Type 0) (s0 s1 : DiskState) (e : Trouble) → ((choice : Choice) → Tells before (left_by choice (s1.files 0))) → FuseEnds {T = T} 3 Failed (λ _ _. Unit {0}) s0 s1 (Err e) → FuseEnds {T = T} 5 Failed (Left 4) s0 s1 (Err e)
  left_before T s0 s1 e before_all ends =
      ends_weaker T Trouble Failed 5 (Early 3 (λ _ _. Unit {0})) (Left 4) s0 s1 (Err e)
      (λ k few left.
      let differs : k ≢ 4 = omega (arith, left.0) in
      λ choice. subst (λ b. Tells (if b && names_slot slot choice then after else before) (left_by choice (s1.files 0))) (sym (ne_eqb k 4 differs)) (before_all choice))
      (fuse_first T T Trouble Failed 3 2 (λ _ _. Unit {0}) s0 s1 e ends)

-- what was done to the bytes of a file that told the node before, whatever a crash would have left
module _ (slot bits member : ℕ) (before after : Node) (is : IsRaise slot bits member before after) (below : slot < 2) (reads : List ℕ) (tells : Tells before reads) where
  torn_by : (at : ℕ) (bytes file : List ℕ) → at ≤ length file → Torn at (length bytes) file (overwritten at bytes file)
  torn_by at bytes file le =
      let len = length-overwritten at bytes file le in
      record { no_shorter = omega (arith, len); no_longer = omega (arith, len); same = λ i within out. overwritten_other at bytes file i le out }

  abbrev one : List ℕ
  one = overwritten (8 * slot) (le64 bits) reads

  one_tells : Tells before one
  one_tells = torn_tells before (8 * slot) (length (le64 bits)) reads one (spare_term before.slot slot (le64 bits) below is.from (length-le64 bits)) (torn_by (8 * slot) (le64 bits) reads (let size = tells.0.size in omega arith)) tells

  pub staged_tells : Tells before (staged slot bits member reads)
  staged_tells = torn_tells before (20 + 4 * slot) (length (le32 member)) one (staged slot bits member reads) (spare_member before.slot slot (le32 member) below is.from (length-le32 member))
      (torn_by (20 + 4 * slot) (le32 member) one (let size = one_tells.0.size in omega arith)) one_tells

  pub raised_tells : bits < 2 ^ 64 → member < 2 ^ 32 → Tells after (selected slot (staged slot bits member reads))
  raised_tells fits small =
      selected_tells slot bits member before after is below (staged slot bits member reads) (staged_ready slot bits member before after is below reads fits small tells.0.size staged_tells)
