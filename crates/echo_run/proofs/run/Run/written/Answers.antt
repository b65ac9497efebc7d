use Rattle.std.proofs.Common.{◌≡◌, ◌∙◌, ap, length, fold, arith}
use Rattle.std.proofs.lemmas.Result.{IfOk-weaker}
use Rattle.echo_run.specs.Driver.{world_of}
use Rattle.echo_run.specs.Reported.{text_of, run_text}
use Rattle.echo_run.specs.World.{World, step}
use Rattle.echo_run.proofs.Forms.{runnable}
use Rattle.echo_run.proofs.run.Run.written.Goals as goal

pub steps-requires-clause-named : goal.steps-requires-clause-named
steps-requires-clause-named c = (runnable c.args.orders.now c.requires).named

pub steps-requires-clause-moment : goal.steps-requires-clause-moment
steps-requires-clause-moment c =
    let begun : c.in_ok-run.run'.clock ≡ 0 = ap (λ (w : World). w.now) c.in_ok-run.ensures.world in
    let few = (runnable c.args.orders.now c.requires).rounds in
    omega arith

pub steps-requires-clause-count : goal.steps-requires-clause-count
steps-requires-clause-count c =
    let none : length c.in_ok-run.run'.told ≡ 0 = ap (λ (w : World). length w.told) c.in_ok-run.ensures.world in
    let few = (runnable c.args.orders.now c.requires).few in
    omega arith

pub returns : goal.returns
unfolding run_text
returns c =
    let reached = c.in_ok-steps.ensures.world ∙ ap (λ (w : World). fold step w c.args.orders.now) c.in_ok-run.ensures.world in
    IfOk-weaker c.text.result (λ t. t ≡ text_of (world_of c.steps.new.self)) (λ t. t ≡ run_text c.args.orders.now) (λ t is. is ∙ ap text_of reached) c.text.ensures
