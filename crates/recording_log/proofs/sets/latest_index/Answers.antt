-- From the end to the front.
use Rattle.std.proofs.Common.{◌≡◌, arith, subst}
use Rattle.recording_log.specs.Sets.{IsSoFar}
use Rattle.recording_log.proofs.SetLemmas.{none_behind, so_far_within, latest_of_all}
use Rattle.recording_log.proofs.sets.latest_index.Goals as goal

pub loop-i-init : goal.loop-i-init
loop-i-init c = (omega arith, none_behind c.args.services c.args.entries.now _ (omega arith))

pub returns-clause-within : goal.returns-clause-within
returns-clause-within c = so_far_within c.args.services c.args.entries.now _ c.loop-i.latest c.loop-i.invariant.1

pub returns-clause-latest : goal.returns-clause-latest
returns-clause-latest c =
    let start : c.loop-i.i ≡ 0 = omega arith in
    latest_of_all c.args.services c.args.entries.now c.loop-i.latest (subst (λ k. IsSoFar c.args.services c.args.entries.now k c.loop-i.latest) start c.loop-i.invariant.1)
