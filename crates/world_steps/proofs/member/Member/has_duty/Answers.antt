use Rattle.std.proofs.Common.{ap, ◌∙◌}
use Rattle.consensus_core.specs.Member.{row_of_duty}
use Rattle.consensus_core.specs.declared.values.Values.{Values}
use Rattle.world_steps.specs.Members.{cut_of}
use Rattle.world_steps.proofs.Rows.{duty_row, leaves}
use Rattle.world_steps.proofs.member.Member.has_duty.Goals as goal

pub returns-clause-reigns : goal.returns-clause-reigns
returns-clause-reigns c =
    let x = c.args.self.now in
    (leaves c.args.number x c.taken-core.new.self c.state-was.result _ (row_of_duty x c.args.due.now c.args.now) (cut_of c.args.cut) c.settle.new.self _ _ _ c.taken-core.ensures.member
    (c.state-was.ensures ∙ ap (λ (v : Values). v.election.state) c.taken-core.ensures.values)
    (duty_row x c.args.due.now c.args.now c.taken-core.result.values c.in_ok-index.index c.on_duty.new.self c.in_ok-change.change c.taken-core.ensures.values c.in_ok-index.ensures c.in_ok-change.ensures.values c.in_ok-change.ensures.change)
    (record { member_is = c.in_ok-done.ensures.member; raises_are = c.in_ok-done.ensures.raises; sent_is = c.in_ok-done.ensures.sent; reigns_are = c.in_ok-done.ensures.reigns })).reigns_are
