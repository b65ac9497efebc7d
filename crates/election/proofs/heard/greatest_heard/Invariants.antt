use Rattle.std.proofs.Common.{◌≡◌, fold, take}
use Rattle.election.specs.Rows.{later}
use Rattle.election.proofs.heard.greatest_heard.Given as goal

abbrev pub invariant-loop-h : goal.invariant-loop-h
invariant-loop-h l = l.most ≡ fold later l.fn.least (take l.h-index l.heard)
