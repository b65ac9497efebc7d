use Rattle.std.proofs.Common.{◌∙◌, sym, add-one, arith}
use Rattle.echo_run.proofs.Forms.{goes_on, ends_at, fits_few, none_left}
use Rattle.echo_run.proofs.form.is_of_form.Goals as goal

pub returns-then-not-fits : goal.returns-then-not-fits
returns-then-not-fits c =
    sym (ends_at c.loop-order.stage c.loop-order.before c.args.orders.now c.loop-order.order-index c.order-item.result (omega arith) c.order-item.is (sym c.fits.ensures ∙ c.if-not-fits.true))
    ∙ c.loop-order.invariant.same

pub loop-order-preserved : goal.loop-order-preserved
loop-order-preserved c = record {
  few = rw c.rounds_in-before.ensures (fits_few c.loop-order.stage c.loop-order.before c.order-item.result c.loop-order.invariant.few (sym c.fits.ensures ∙ c.if-not-fits.false));
  same = rw (c.rounds_in-before.ensures, c.next-stage.ensures, add-one) (sym (goes_on c.loop-order.stage c.loop-order.before c.args.orders.now c.loop-order.order-index c.order-item.result (omega arith) c.order-item.is (sym c.fits.ensures ∙ c.if-not-fits.false)) ∙ c.loop-order.invariant.same);
}

pub returns : goal.returns
returns c = sym (none_left c.loop-order.stage c.loop-order.before c.args.orders.now c.loop-order.order-index (omega arith)) ∙ c.loop-order.invariant.same
