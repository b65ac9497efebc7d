use Rattle.std.proofs.Common.{arith, rules, ◌≡◌, ◌++◌, ap, ◌∷◌, [], length}
use Rattle.echo_run.specs.Module.{session_of}
use Rattle.echo_run.specs.Owed.{given_to, owed_outputs}
use Rattle.echo_run.specs.declared.sent.Origin.TheVariants as origin
use Rattle.echo_run.proofs.Sending.{outputs_given, outputs_other, given_most}
use Rattle.echo_run.proofs.owing.put_outputs.Goals as goal
use Rattle.echo_run.proofs.owing.put_outputs.Goals.{in-Egress+in_ok-owed, in_default}

pub loop-output-preserved : goal.loop-output-preserved
loop-output-preserved c =
    let before = c.loop-output.invariant in
    let item = c.output-item in
    let head = c.args.head in
    elim c.match-output.branch [
      | in-Egress+in_ok-owed w ↦
          let its : w.session-found.result ≡ session_of c.args.tables.now w.in-Egress.session = search rules in
          let count : w.in_ok-owed.owed ≡ length (given_to (origin.Service head.entry c.args.service c.loop-output.number) head.term head.stamp w.in-Egress.session w.in-Egress.payload w.session-found.result) = search rules in
          let put : c.match-output.sent ≡ c.loop-output.sent ++ given_to (origin.Service head.entry c.args.service c.loop-output.number) head.term head.stamp w.in-Egress.session w.in-Egress.payload w.session-found.result = search rules in
          record {
            count = let most = given_most (origin.Service head.entry c.args.service c.loop-output.number) head.term head.stamp w.in-Egress.session w.in-Egress.payload w.session-found.result in omega (arith, w.number-is, count, most, before.count);
            records = outputs_given c.args.tables.now head.entry c.args.service head.term head.stamp c.loop-output.number w.in_ok-owed.owed c.match-output.number c.args.outputs.now c.loop-output.output-index item.result w.in-Egress.session w.in-Egress.payload w.session-found.result c.loop-output.sent c.match-output.sent _ (omega arith) item.is w.in-Egress.is its before.records count w.number-is put;
          }
      | in_default w ↦
          record {
            count = omega (arith, w.number-is, before.count);
            records = outputs_other c.args.tables.now head.entry c.args.service head.term head.stamp c.loop-output.number c.match-output.number c.args.outputs.now c.loop-output.output-index item.result c.loop-output.sent c.match-output.sent _ (omega arith) item.is (ap (λ x. owed_outputs c.args.tables.now head.entry c.args.service head.term head.stamp c.loop-output.number (x ∷ [])) w.in_default.is) before.records w.number-is w.sent-is;
          }
    ]
