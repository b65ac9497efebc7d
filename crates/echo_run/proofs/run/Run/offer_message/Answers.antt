use Rattle.std.proofs.Common.{sym, ◌∙◌}
use Rattle.std.proofs.lemmas.Int.{to_z-of_z}
use Rattle.echo_run.proofs.OrdersSpelled.{client_found}
use Rattle.echo_run.proofs.run.Run.offer_message.Goals as goal

pub offer-requires-clause-spelled : goal.offer-requires-clause-spelled
offer-requires-clause-spelled c =
    let fits_session = c.ranges.session in
    c.requires.spelled (sym c.is_ready.ensures ∙ c.if-not-is_ready.false)
    (client_found c.args.self.now c.args.session c.session.result c.requires.kept (simp to_z-of_z at c.session.ensures) c.if-is_none.ensures)
    c.if-bytes.false
