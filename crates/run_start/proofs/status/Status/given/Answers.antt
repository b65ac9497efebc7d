use Rattle.run_start.specs.declared.status.Status.TheVariants as status
use Rattle.run_start.proofs.Leaving.{given_up, leaves_given, done_given}
use Rattle.run_start.proofs.status.Status.given.Goals as goal

pub returns : goal.returns
returns g c = rw c.after.ensures (record {
  answer = given_up status.Done c.give.result;
  leaves = leaves_given g.O.Sink.tells g.O.Sink.held g.O.Sink.fault_count _ _ _ c.give.result c.give.ensures.cause c.give.ensures.tells c.give.ensures.whole c.give.ensures.part;
  whole = λ t is. done_given g.O.Sink.tells g.O.Sink.held g.O.Sink.fault_count _ _ _ c.give.result c.give.ensures.whole t is;
})
