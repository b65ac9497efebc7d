use Rattle.std.proofs.Common.{rules, of_calls, sym, ap, ◌≡◌, ◌∙◌, length, take, subst, List, arith}
use Rattle.std.specs.Prelude.{int_le}
use Rattle.std.proofs.lemmas.List.{length-map, length-take-le}
use Rattle.std.proofs.lemmas.List.Sorted.{IsPartitionPoint-from_clause}
use Rattle.entry_log.specs.Shape.{Shape, terms_to, TermsRise}
use Rattle.entry_log.specs.declared.index.Stop.{Stop}
use Rattle.entry_log.specs.Index.{shape_at, stop_shape}
use Rattle.entry_log.proofs.Searched.{terms_part, terms_to-point}
use Rattle.entry_log.proofs.index.LogIndex.entries_through.Goals as goal

pub returns-clause-prefix : goal.returns-clause-prefix
returns-clause-prefix c =
    let xs = c.deref.result.now in
    let value = c.deref.ensures.value in
    let n = c.partition_point.result in
    let rises : TermsRise (shape_at xs) = subst (λ (l : List Stop). TermsRise (shape_at l)) (sym value) c.self.invariant.rises in
    let point = IsPartitionPoint-from_clause (λ (s : Stop). int_le s.term c.args.term) xs n c.partition_point.ensures.partitioned (terms_part c.args.term _ xs rises) (λ a r q k. search (rules, of_calls)) in
    let at : terms_to c.args.term (shape_at xs) ≡ take n (shape_at xs) = terms_to-point c.args.term xs n c.partition_point.ensures.bound point.0 point.1 in
    let same : shape_at xs ≡ c.args.self.now = ap shape_at value ∙ c.self.view_is in
    subst (λ (s : Shape). terms_to c.args.term s ≡ take n s) same at

pub returns-clause-count : goal.returns-clause-count
returns-clause-count c =
    let xs = c.deref.result.now in
    let n = c.partition_point.result in
    let same : shape_at xs ≡ c.args.self.now = ap shape_at c.deref.ensures.value ∙ c.self.view_is in
    let bound = c.partition_point.ensures.bound in
    let len : length c.args.self.now ≡ length xs = ap (λ (s : Shape). length s) (sym same) ∙ length-map xs stop_shape in
    sym (ap (λ (s : Shape). length s) (returns-clause-prefix c) ∙ length-take-le n c.args.self.now (omega (arith, len, bound)))
