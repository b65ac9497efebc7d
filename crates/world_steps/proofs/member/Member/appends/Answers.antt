use Rattle.std.proofs.Common.{◌≡◌, ap, ◌∙◌}
use Rattle.consensus_core.specs.Member.{row_of_client}
use Rattle.consensus_core.specs.declared.values.Values.{Values}
use Rattle.world_steps.specs.Members.{cut_of}
use Rattle.world_steps.proofs.Rows.{client_row, leaves}
use Rattle.world_steps.proofs.member.Member.appends.Goals as goal

pub returns-clause-reigns : goal.returns-clause-reigns
returns-clause-reigns c =
    let x = c.args.self.now in
    let state : c.state-was.result ≡ x.values.election.state = c.state-was.ensures ∙ ap (λ (v : Values). v.election.state) c.taken-core.ensures.values in
    (leaves c.args.number x c.taken-core.new.self c.state-was.result _ (row_of_client x c.args.event.now) (cut_of c.args.cut) c.settle.new.self _ _ _ c.taken-core.ensures.member state
    (client_row x c.args.event.now c.taken-core.result.values c.on_append.new.self c.in_ok-change.change c.state-was.result c.taken-core.ensures.values c.on_append.ensures c.in_ok-change.ensures state)
    (record { member_is = c.in_ok-done.ensures.member; raises_are = c.in_ok-done.ensures.raises; sent_is = c.in_ok-done.ensures.sent; reigns_are = c.in_ok-done.ensures.reigns })).reigns_are
