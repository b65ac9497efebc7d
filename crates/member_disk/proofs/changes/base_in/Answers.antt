use Rattle.std.proofs.Common.{◌≡◌, pos, get_or, arith, subst}
use Rattle.std.specs.Int.{w64}
use Rattle.std.proofs.lemmas.Int.{to_z-of_z}
use Rattle.std.proofs.lemmas.Bool.{iff_false}
use Rattle.member_disk.specs.Changes.{base_of}
use Rattle.member_disk.proofs.NewTerms.{base_hit, base_miss, base_end}
use Rattle.log_segment.specs.declared.kept.NewTerm.{NewTerm}
use Rattle.member_disk.proofs.changes.base_in.Goals as goal

abbrev zero_term : NewTerm
zero_term = record { entry = 0; term = pos 0; base = 0; stamp = pos 0 }

pub returns-then-is_of : goal.returns-then-is_of
returns-then-is_of c = subst (λ t. (get_or c.args.terms.now c.loop-new.new-index zero_term).base ≡ base_of t c.args.terms.now) (to_z-of_z w64 c.args.term c.ranges.term) (base_hit _ c.args.terms.now c.loop-new.new-index zero_term c.loop-new-test.true c.loop-new.invariant (c.is_of.ensures.0 c.if-is_of.true))

pub loop-new-preserved : goal.loop-new-preserved
loop-new-preserved c = base_miss _ c.args.terms.now c.loop-new.new-index _ c.loop-new-test.true c.loop-new.invariant (iff_false c.is_of.ensures c.if-is_of.false)

pub returns : goal.returns
returns c = subst (λ t. 0 ≡ base_of t c.args.terms.now) (to_z-of_z w64 c.args.term c.ranges.term) (base_end _ c.args.terms.now c.loop-new.new-index (omega arith) c.loop-new.invariant)
