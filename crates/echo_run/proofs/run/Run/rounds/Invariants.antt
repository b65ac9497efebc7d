use Rattle.std.proofs.Common.{◌≡◌, ◌+◌, ◌-◌, ◌*◌, ◌≤◌, ◌^◌}
use Rattle.echo_run.specs.Driver.{IsKept, world_of}
use Rattle.echo_run.specs.World.{rounds}
use Rattle.echo_run.proofs.run.Run.rounds.Given as goal

abbrev pub invariant-each : goal.invariant-each
invariant-each l = record {
  kept : IsKept l.self;
  moment : l.self.clock + 10 * (l.count - l.done) ≤ 2 ^ 48;
  world : rounds (l.count - l.done) (world_of l.self) ≡ rounds l.count (world_of l.initial.self);
}
