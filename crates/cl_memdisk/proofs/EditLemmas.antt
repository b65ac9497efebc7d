-- A change of a file's bytes puts back what stood there.
use Rattle.std.proofs.Common.{◌≡◌, ℕ, ◌+◌, ◌-◌, ◌<◌, ◌≤◌, min, List, ◌++◌, length, take, drop, sym, ◌∙◌, ap, arith, length-append, length-take, length-drop, append_assoc, take-append-drop}
use Rattle.std.proofs.lemmas.List.{take_at, drop_at, drop-drop, drop_all, take-take}
use Rattle.cl_base.specs.Disk.{overwritten}
use Rattle.cl_memdisk.specs.Changes.{taken_back, InPlace}
use Rattle.cl_memdisk.specs.declared.change.Change.{Change}

-- a list in three parts
in_parts : (at end : ℕ) (file : List ℕ) → at ≤ end → take at file ++ take (end - at) (drop at file) ++ drop end file ≡ file
in_parts at end file le =
    let sum : at + (end - at) ≡ end = omega arith in
    let behind : drop end file ≡ drop (end - at) (drop at file) = ap (λ k. drop k file) (sym sum) ∙ sym (drop-drop (end - at) at file) in
    append_assoc (take at file) (take (end - at) (drop at file)) (drop end file)
    ∙ ap (λ l. take at file ++ l) (ap (λ l. take (end - at) (drop at file) ++ l) behind ∙ take-append-drop (end - at) (drop at file))
    ∙ take-append-drop at file

-- what a change found from `at` up to `end` of a file
module _ (c : Change) (at end : ℕ) (file : List ℕ) (from : c.from ≡ at) (end_is : c.end ≡ end) (was : c.was.items ≡ take (end - at) (drop at file)) (starts : at ≤ length file) (ends : at ≤ end) where
  -- where the rest is as it was
  pub back_from : (new : List ℕ) → take at new ≡ take at file → drop end new ≡ drop end file → taken_back c new ≡ file
  back_from new front behind = (λ i. take (from i) new ++ c.was.items ++ drop (end_is i) new) ∙ (λ i. front i ++ was i ++ behind i) ∙ in_parts at end file ends

  pub back_from_write : (bytes : List ℕ) → end ≡ at + length bytes → taken_back c (overwritten at bytes file) ≡ file
  back_from_write bytes is =
      let front : take at (overwritten at bytes file) ≡ take at file =
      ap (λ l. take at l) (append_assoc (take at file) bytes (drop (at + length bytes) file)) ∙ take_at (take at file) (bytes ++ drop (at + length bytes) file) at (omega (arith, length-take at file)) in
      let behind : drop end (overwritten at bytes file) ≡ drop end file =
      drop_at (take at file ++ bytes) (drop (at + length bytes) file) end (omega (arith, is, length-append (take at file) bytes, length-take at file)) ∙ ap (λ k. drop k file) (sym is) in
      back_from (overwritten at bytes file) front behind

  pub back_from_cut : end ≡ length file → taken_back c (take at file) ≡ file
  back_from_cut is =
      back_from (take at file) (take-take at at file (omega arith)) (drop_all end (take at file) (omega (arith, is, length-take at file)) ∙ sym (drop_all end file (omega (arith, is))))

  pub in_place : (room : ℕ) (new : List ℕ) → at ≤ length new → length file ≤ room → (end < length new → end ≤ length file) → InPlace room c new
  in_place room new still le inside =
      let len : length c.was.items ≡ min (end - at) (length file - at) = ap length was ∙ length-take (end - at) (drop at file) ∙ ap (λ n. min (end - at) n) (length-drop at file) in
      (omega (arith, from, still), (omega (arith, from, len, le), λ below. (omega (arith, from, end_is, len, inside, below), omega (arith, from, end_is, len, inside, below))))
