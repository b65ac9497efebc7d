-- Entry by entry.
use Rattle.std.proofs.Common.{rules, ◌+◌, ◌++◌, drop, subst, sym, ap, ◌∙◌}
use Rattle.entry_log.specs.Log.{Log}
use Rattle.entry_log.specs.Shape.{Shape, shape_of}
use Rattle.world_steps.specs.Fit.{CanIndex}
use Rattle.world_steps.proofs.Logs.{drop_here, can-next, shift}
use Rattle.world_steps.proofs.log.index_of.Goals as goal

pub push-requires-clause-place : goal.push-requires-clause-place
push-requires-clause-place c =
    let e = c.entry-item.result in
    let here = drop_here c.args.log.now c.loop-entry.entry-index e (search rules) c.entry-item.is in
    (can-next c.loop-entry.index e (drop (c.loop-entry.entry-index + 1) c.args.log.now) (subst (CanIndex c.loop-entry.index) here c.loop-entry.invariant.can)).place

pub push-requires-clause-term : goal.push-requires-clause-term
push-requires-clause-term c =
    let e = c.entry-item.result in
    let here = drop_here c.args.log.now c.loop-entry.entry-index e (search rules) c.entry-item.is in
    (can-next c.loop-entry.index e (drop (c.loop-entry.entry-index + 1) c.args.log.now) (subst (CanIndex c.loop-entry.index) here c.loop-entry.invariant.can)).term

pub push-requires-clause-len : goal.push-requires-clause-len
push-requires-clause-len c =
    let e = c.entry-item.result in
    let here = drop_here c.args.log.now c.loop-entry.entry-index e (search rules) c.entry-item.is in
    (can-next c.loop-entry.index e (drop (c.loop-entry.entry-index + 1) c.args.log.now) (subst (CanIndex c.loop-entry.index) here c.loop-entry.invariant.can)).len

pub loop-entry-preserved : goal.loop-entry-preserved
loop-entry-preserved c =
    let e = c.entry-item.result in
    let rest = drop (c.loop-entry.entry-index + 1) c.args.log.now in
    let here = drop_here c.args.log.now c.loop-entry.entry-index e (search rules) c.entry-item.is in
    let can = can-next c.loop-entry.index e rest (subst (CanIndex c.loop-entry.index) here c.loop-entry.invariant.can) in
    let pushed = c.in_ok-push.ensures in
    record {
      is = ap (λ (xs : Shape). xs ++ shape_of rest) pushed ∙ shift c.loop-entry.index e rest ∙ ap (λ (l : Log). c.loop-entry.index ++ shape_of l) (sym here) ∙ c.loop-entry.invariant.is;
      can = subst (λ (xs : Shape). CanIndex xs rest) (sym pushed) can.more;
    }
