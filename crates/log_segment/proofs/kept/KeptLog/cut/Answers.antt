-- The first entries are kept.
use Rattle.std.proofs.Common.{rules, of_calls, true, false, List, length, ◌≤◌, ◌≡◌, take, sym, ◌∙◌, ap, subst}
use Rattle.std.proofs.lemmas.List.{take-map}
use Rattle.entry_log.specs.Log.{Log}
use Rattle.entry_log.specs.Shape.{shape_of, entry_shape}
use Rattle.log_segment.specs.Kept.{values}
use Rattle.std.specs.List.{AllWithin}
use Rattle.std.specs.List.Sorted.{IsPartitionedBy}
use Rattle.std.proofs.lemmas.List.Sorted.{IsPartitionPoint-from_clause, IsPartitionedBy-ltb}
use Rattle.log_segment.specs.Held.{IsHeld, new_terms}
use Rattle.log_segment.specs.declared.kept.NewTerm.{NewTerm}
use Rattle.log_segment.proofs.TermLemmas.{begins_before, terms_rise, terms_point}
use Rattle.log_segment.proofs.KeptLemmas.{values_take}
use Rattle.log_segment.proofs.HeldLemmas.{held_take}
use Rattle.log_segment.proofs.kept.KeptLog.cut.Goals as goal

pub invariant_of-self : goal.invariant_of-self
invariant_of-self c =
    let items = c.self.inside.entries.items in
    let n = c.args.entries in
    let kept : values c.truncate.new.self.items ≡ take n (values items) = ap values c.truncate.ensures.items ∙ values_take n items in
    let log = values items in
    let xs = c.deref.result.now in
    let is : xs ≡ new_terms 0 log = c.deref.ensures.value ∙ c.self.invariant.2 in
    let k = c.partition_point-kept.result in
    let parted = subst (λ (l : List NewTerm). IsPartitionedBy (begins_before n) l) (sym is) (IsPartitionedBy-ltb (λ (t : NewTerm). t.entry) (new_terms 0 log) n (terms_rise log)) in
    let point = IsPartitionPoint-from_clause (begins_before n) xs k c.partition_point-kept.ensures.partitioned parted (λ a r q k. search (rules, of_calls)) in
    let within = subst (λ (l : List NewTerm). k ≤ length l) is c.partition_point-kept.ensures.bound in
    let first = subst (λ (l : List NewTerm). AllWithin (λ t. begins_before n t ≡ true) l 0 k) is point.0 in
    let last = subst (λ (l : List NewTerm). AllWithin (λ t. begins_before n t ≡ false) l k (length l)) is point.1 in
    let terms : c.truncate-2.new.self.items ≡ new_terms 0 (take n log) = c.truncate-2.ensures.items ∙ ap (take k) c.self.invariant.2 ∙ terms_point n log k within first last in (
      c.cut.ensures ∙ ap (take n) c.self.invariant.0 ∙ take-map entry_shape n (values items) ∙ ap shape_of (sym kept),
      subst IsHeld (sym kept) (held_take n (values items) c.self.invariant.1),
      terms ∙ ap (new_terms 0) (sym kept),
    )

pub returns : goal.returns
returns c =
    let items = c.self.inside.entries.items in
    let n = c.args.entries in
    ap values c.truncate.ensures.items ∙ values_take n items ∙ ap (λ (l : Log). take n l) c.self.view_is
