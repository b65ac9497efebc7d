use Rattle.std.proofs.Common.{arith}
use Rattle.echo_run.proofs.Lines.{entries_done}
use Rattle.echo_run.proofs.entries.put_entries.Goals as goal

pub returns : goal.returns
returns c = entries_done c.args.word.now c.args.first c.loop-i.i c.args.entries.now _ _ (omega arith) c.loop-i.invariant
