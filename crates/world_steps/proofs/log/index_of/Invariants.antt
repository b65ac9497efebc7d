use Rattle.std.proofs.Common.{◌≡◌, ◌++◌, drop}
use Rattle.entry_log.specs.Shape.{shape_of}
use Rattle.world_steps.specs.Fit.{CanIndex}
use Rattle.world_steps.proofs.log.index_of.Given as goal

abbrev pub invariant-loop-entry : goal.invariant-loop-entry
invariant-loop-entry l = record {
  is : l.index ++ shape_of (drop l.entry-index l.log) ≡ shape_of l.log;
  can : CanIndex l.index (drop l.entry-index l.log);
}
