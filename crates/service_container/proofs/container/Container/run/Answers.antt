use Rattle.service_container.proofs.Stretches.{consumes_twice, place_kept}
use Rattle.service_container.proofs.container.Container.run.Goals as goal

pub loop-preserved-in-Went : goal.loop-preserved-in-Went
loop-preserved-in-Went g c = (
  consumes_twice _ _ _ _ _ _ c.loop.invariant.1 c.loop.invariant.0 c.step.ensures.consumes,
  c.step.ensures.went c.in-Went.is,
  place_kept _ _ _ _ c.loop.invariant.2 c.step.ensures.consumes,
)

pub loop-preserved : goal.loop-preserved
loop-preserved g c =
    rw c.await_more.ensures (
      consumes_twice _ _ _ _ _ _ c.loop.invariant.1 c.loop.invariant.0 c.step.ensures.consumes,
      c.step.ensures.waits c.in-Waits.is,
      place_kept _ _ _ _ c.loop.invariant.2 c.step.ensures.consumes,
    )

pub returns-in-Ended-clause-consumes : goal.returns-in-Ended-clause-consumes
returns-in-Ended-clause-consumes g c = consumes_twice _ _ _ _ _ _ c.loop.invariant.1 c.loop.invariant.0 c.step.ensures.consumes

pub returns-in-NoMemory-clause-consumes : goal.returns-in-NoMemory-clause-consumes
returns-in-NoMemory-clause-consumes g c = consumes_twice _ _ _ _ _ _ c.loop.invariant.1 c.loop.invariant.0 c.step.ensures.consumes
