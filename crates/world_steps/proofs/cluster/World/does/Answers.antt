use Rattle.std.proofs.Common.{◌≤◌, ℕ, ◌^◌, sym, ap, subst, ◌∙◌}
use Rattle.consensus_core.specs.Member.{Member, row_of_duty}
use Rattle.world_steps.specs.Members.{cut_of, reign_term}
use Rattle.world_steps.specs.Steps.{Seen}
use Rattle.world_steps.proofs.Made.{found, runs-at, acts-returns}
use Rattle.world_steps.proofs.Reached.{now_low}
use Rattle.world_steps.proofs.cluster.World.does.Goals as goal

pub has_duty-requires-clause-now : goal.has_duty-requires-clause-now
has_duty-requires-clause-now c = subst (λ (s : Seen). s.world.now ≤ 2 ^ 60) (sym c.self.view_is) (now_low c.args.self.now c.requires.reached)

pub has_duty-requires-clause-before : goal.has_duty-requires-clause-before
has_duty-requires-clause-before c = runs-at _ c.args.number c.index_mut.result.now (found _ c.args.self.now c.args.number c.index_mut.result.now c.self.view_is c.requires.reached c.requires.runs c.index_mut.ensures.value)

pub returns : goal.returns
returns c =
    let f = found _ c.args.self.now c.args.number c.index_mut.result.now c.self.view_is c.requires.reached c.requires.runs c.index_mut.ensures.value in
    let before = found _ c.args.self.now c.args.number c.index.result.now c.self.view_is c.requires.reached c.requires.runs c.index.ensures in
    acts-returns _ c.args.self.now c.args.number (λ (a : Member) (now : ℕ). row_of_duty a c.args.due.now now) (cut_of c.args.cut) c.index_mut.result.now c.has_duty.new.self c.reign_term-reigned.result _ _ _ c.notes.new.self c.self.view_is
    (record {
      found_is = f;
      reigned_is = c.reign_term-reigned.ensures ∙ ap reign_term before.there;
      member_is = c.in_ok-done.ensures.member;
      raises_are = c.in_ok-done.ensures.raises;
      sent_is = c.in_ok-done.ensures.sent;
      reigns_are = c.in_ok-done.ensures.reigns;
    })
    c.in_ok-notes.ensures
