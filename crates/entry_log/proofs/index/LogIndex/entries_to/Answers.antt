use Rattle.std.proofs.Common.{leb, rules, of_calls, sym, ap, ◌∙◌, subst, List}
use Rattle.std.proofs.lemmas.List.Sorted.{IsPartitionPoint-from_clause, IsPartitionedBy-leb}
use Rattle.entry_log.specs.Shape.{Shape, ends_by}
use Rattle.entry_log.specs.declared.index.Stop.{Stop}
use Rattle.entry_log.specs.Index.{EndsFrom, shape_at}
use Rattle.entry_log.proofs.Searched.{ends_rise, ends_by-point}
use Rattle.entry_log.proofs.index.LogIndex.entries_to.Goals as goal

pub returns-clause-count : goal.returns-clause-count
returns-clause-count c =
    let xs = c.deref.result.now in
    let value = c.deref.ensures.value in
    let ends : EndsFrom 0 xs = subst (λ (l : List Stop). EndsFrom 0 l) (sym value) c.self.invariant.ends in
    let parted = IsPartitionedBy-leb (λ (s : Stop). s.end) xs c.args.place (ends_rise 0 xs ends) in
    let point = IsPartitionPoint-from_clause (λ (s : Stop). leb s.end c.args.place) xs c.partition_point.result c.partition_point.ensures.partitioned parted (λ a r q k. search (rules, of_calls)) in
    ends_by-point 0 c.args.place xs c.partition_point.result ends c.partition_point.ensures.bound point.0 point.1 ∙ ap (λ (l : List Stop). ends_by c.args.place (shape_at l)) value ∙ ap (λ (s : Shape). ends_by c.args.place s) c.self.view_is
