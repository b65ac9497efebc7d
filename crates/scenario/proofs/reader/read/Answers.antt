use Rattle.std.proofs.Common.{arith, ap, ◌∙◌, sym}
use Rattle.scenario.specs.Lines.{lines}
use Rattle.scenario.specs.Orders.{read_from}
use Rattle.scenario.proofs.OrderLaws.{nothing, read_done, read_step, read_fault}
use Rattle.scenario.proofs.reader.read.Goals as goal

pub returns-in-Err-Faulty : goal.returns-in-Err-Faulty
returns-in-Err-Faulty c =
    let fault = rw c.in-Err-Faulty.field-0-is at c.in-Err-Faulty.ensures.fault in
    let whole = ap (read_from c.loop-rest.orders c.loop-rest.line) (sym c.first_line.ensures.line) ∙ c.loop-rest.invariant.reading in
    let refused = read_fault c.loop-rest.orders c.loop-rest.line c.first_line.result.0.now (lines c.first_line.result.1.now) c.in-Err-Faulty.cause fault in
    rw (c.in-Err-Faulty.ensures.kept, c.in-Err-Faulty.cause-is) (sym refused ∙ whole)

pub loop-rest-preserved : goal.loop-rest-preserved
loop-rest-preserved c = record {
  told = c.in-Ok.ensures.told;
  reading =
      sym (read_step c.loop-rest.orders c.take_line.new.orders c.loop-rest.line c.first_line.result.0.now (lines c.first_line.result.1.now) c.in-Ok.ensures.orders)
      ∙ ap (read_from c.loop-rest.orders c.loop-rest.line) (sym c.first_line.ensures.line) ∙ c.loop-rest.invariant.reading;
  room = omega arith;
  count = omega (arith, c.in-Ok.ensures.count);
}

pub returns : goal.returns
returns c =
    let end = nothing c.loop-rest.rest.now (sym c.is_empty.ensures ∙ c.loop-rest-test.false) in
    rw (c.at_end-fault.ensures, c.loop-rest.invariant.told)
    (sym (read_done c.loop-rest.orders c.loop-rest.line) ∙ ap (λ r. read_from c.loop-rest.orders c.loop-rest.line (lines r)) (sym end) ∙ c.loop-rest.invariant.reading)
