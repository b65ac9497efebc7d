use Rattle.std.proofs.Common.{rules}
use Rattle.std.proofs.lemmas.List.Sorted.{answers_always}
use Rattle.std.proofs.lemmas.Int.{to_z-of_z}
use Rattle.egress.specs.Streams.{StreamSeen}
use Rattle.egress.proofs.Searched.{found_ok, found_err}
use Rattle.egress.proofs.lists.Egress.place_of.Goals as goal

pub returns : goal.returns
returns c =
    let f = c.ranges.stream in
    let position = simp to_z-of_z at (c.binary_search_by_key.ensures.position (λ (b : StreamSeen). b.stream) (answers_always _ _ _ (λ f a r g called. search rules))) in
    record {
      found = rw (← c.self.view_is, ← c.as_slice.ensures.value) (found_ok c.args.stream c.as_slice.result.now c.binary_search_by_key.result c.binary_search_by_key.ensures.bound position);
      none = rw (← c.self.view_is, ← c.as_slice.ensures.value) (found_err c.args.stream c.as_slice.result.now c.binary_search_by_key.result (rw c.as_slice.ensures.value c.self.invariant) c.binary_search_by_key.ensures.bound position);
    }
