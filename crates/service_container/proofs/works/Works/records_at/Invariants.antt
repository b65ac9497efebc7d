use Rattle.std.proofs.Common.{◌≡◌, drop}
use Rattle.service_container.specs.Records.{found_at}
use Rattle.service_container.proofs.works.Works.records_at.Given as goal

abbrev pub invariant-loop-at : goal.invariant-loop-at
invariant-loop-at l = found_at l.index l.self.records.items ≡ found_at l.index (drop l.at-index l.self.records.items)
