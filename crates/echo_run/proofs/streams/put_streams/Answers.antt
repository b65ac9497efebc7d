use Rattle.std.proofs.Common.{arith}
use Rattle.echo_run.proofs.Lines.{streams_more, streams_done}
use Rattle.echo_run.proofs.streams.put_streams.Goals as goal

pub loop-stream-preserved : goal.loop-stream-preserved
loop-stream-preserved c = streams_more 64 c.loop-stream.stream c.args.sent.now _ _ _ (omega arith) c.loop-stream.invariant c.in_ok-put_stream.ensures

pub returns : goal.returns
returns c = streams_done 64 _ _ _ _ (omega arith) c.loop-stream.invariant
