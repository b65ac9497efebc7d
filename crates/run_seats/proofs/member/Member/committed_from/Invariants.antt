use Rattle.std.proofs.Common.{◌≡◌, length, All}
use Rattle.cluster_backup.specs.Giving.{IsEvent}
use Rattle.run_seats.specs.Seen.{IsRead}
use Rattle.run_seats.proofs.member.Member.committed_from.Given as goal

abbrev pub invariant-loop-at : goal.invariant-loop-at
invariant-loop-at g l = record {
  events : All IsEvent l.events;
  many : length l.events ≡ l.at;
  same : IsRead l.initial.self l.self;
}
