use Rattle.std.proofs.Common.{◌≡◌, ◌++◌, drop}
use Rattle.world_steps.specs.Fit.{AreSpelled}
use Rattle.world_steps.specs.Members.{read_all}
use Rattle.world_steps.proofs.speech.read_all.Given as goal

abbrev pub invariant-loop-outgoing : goal.invariant-loop-outgoing
invariant-loop-outgoing l = record {
  read : l.found ++ read_all (drop l.outgoing-index l.packets) ≡ read_all l.packets;
  spelled : AreSpelled (drop l.outgoing-index l.packets);
}
