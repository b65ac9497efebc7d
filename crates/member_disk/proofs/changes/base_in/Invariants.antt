use Rattle.std.proofs.Common.{◌≡◌, drop}
use Rattle.member_disk.specs.Changes.{base_of}
use Rattle.member_disk.proofs.changes.base_in.Given as goal

abbrev pub invariant-loop-new : goal.invariant-loop-new
invariant-loop-new l = base_of l.fn.term (drop l.new-index l.terms) ≡ base_of l.fn.term l.terms
