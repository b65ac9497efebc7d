use Rattle.std.proofs.Common.{◌≡◌, ◌<◌, ◌≤◌, ◌+◌, length}
use Rattle.scenario.specs.Lines.{lines}
use Rattle.scenario.specs.Orders.{read_from, told_by, reading_of}
use Rattle.scenario.proofs.reader.read.Given as goal

-- the rest, read behind the orders so far, is the whole text's reading
abbrev pub invariant-loop-rest : goal.invariant-loop-rest
invariant-loop-rest l = record {
  told : l.told ≡ told_by l.orders;
  reading : read_from l.orders l.line (lines l.rest) ≡ reading_of l.bytes;
  room : l.line + length l.rest ≤ length l.bytes + 1;
  count : length l.orders < l.line;
}

abbrev pub decreases-loop-rest : goal.decreases-loop-rest
decreases-loop-rest l = length l.rest
