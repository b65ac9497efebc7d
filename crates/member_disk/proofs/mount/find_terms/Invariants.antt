use Rattle.member_disk.specs.Changes.{HaveEach}
use Rattle.member_disk.proofs.mount.find_terms.Given as goal

abbrev pub invariant-loop-new : goal.invariant-loop-new
invariant-loop-new l = HaveEach l.fn.recording l.terms l.new-index
