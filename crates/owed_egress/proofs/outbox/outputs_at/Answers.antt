use Rattle.std.proofs.Common.{◌≡◌, ◌≤◌, ltb, leb, true, false, ℕ, rules, of_calls, length, take, drop, ◌∙◌, ap}
use Rattle.std.specs.List.{AllWithin}
use Rattle.std.proofs.lemmas.List.Sorted.{IsPartitionPoint-from_clause, IsPartitionedBy-ltb, IsPartitionedBy-leb, IsNonDecreasingBy-drop}
use Rattle.service_api.specs.declared.output.Output.{Output}
use Rattle.owed_egress.specs.Outbox.{index_of}
use Rattle.owed_egress.proofs.AtIndex.{at_points}
use Rattle.owed_egress.proofs.outbox.outputs_at.Goals as goal

pub returns : goal.returns
returns c rises =
    let os = c.args.outbox.now in
    let i = c.args.index in
    let first : ℕ = c.partition_point-first.result in
    let count : ℕ = c.partition_point-count.result in
    let rest = c.split_at.result.1.now in
    let is : rest ≡ drop first os = c.split_at.ensures.back in
    let one = IsPartitionPoint-from_clause (λ (o : ℕ × Output). ltb o.0 i) os first c.partition_point-first.ensures.partitioned (IsPartitionedBy-ltb index_of os i rises) (λ a r q k. search (rules, of_calls)) in
    let parted = IsPartitionedBy-leb index_of (drop first os) i (IsNonDecreasingBy-drop index_of first os rises) in
    let two = IsPartitionPoint-from_clause (λ (o : ℕ × Output). leb o.0 i) rest count c.partition_point-count.ensures.partitioned (rw is parted) (λ a r q k. search (rules, of_calls)) in
    let within : count ≤ length (drop first os) = rw (← is) c.partition_point-count.ensures.bound in
    let through : AllWithin (λ (o : ℕ × Output). leb o.0 i ≡ true) (drop first os) 0 count = rw (← is) two.0 in
    let past : AllWithin (λ (o : ℕ × Output). leb o.0 i ≡ false) (drop first os) count (length (drop first os)) = rw (← is) two.1 in
    c.split_at-2.ensures.front ∙ ap (take count) is ∙ at_points i os first count c.partition_point-first.ensures.bound within one.0 one.1 through past
