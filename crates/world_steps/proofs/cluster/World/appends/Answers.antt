use Rattle.std.proofs.Common.{ℕ, ap, ◌∙◌}
use Rattle.consensus_core.specs.Member.{Member, row_of_client}
use Rattle.world_steps.specs.Members.{cut_of, reign_term}
use Rattle.world_steps.proofs.Made.{found, runs-at, acts-returns}
use Rattle.world_steps.proofs.cluster.World.appends.Goals as goal

pub appends-requires-clause-before : goal.appends-requires-clause-before
appends-requires-clause-before c = runs-at _ c.args.number c.index_mut.result.now (found _ c.args.self.now c.args.number c.index_mut.result.now c.self.view_is c.requires.reached c.requires.runs c.index_mut.ensures.value)

pub returns : goal.returns
returns c =
    let f = found _ c.args.self.now c.args.number c.index_mut.result.now c.self.view_is c.requires.reached c.requires.runs c.index_mut.ensures.value in
    let before = found _ c.args.self.now c.args.number c.index.result.now c.self.view_is c.requires.reached c.requires.runs c.index.ensures in
    acts-returns _ c.args.self.now c.args.number (λ (a : Member) (now : ℕ). row_of_client a c.args.event.now) (cut_of c.args.cut) c.index_mut.result.now c.appends.new.self c.reign_term-reigned.result _ _ _ c.notes.new.self c.self.view_is
    (record {
      found_is = f;
      reigned_is = c.reign_term-reigned.ensures ∙ ap reign_term before.there;
      member_is = c.in_ok-done.ensures.member;
      raises_are = c.in_ok-done.ensures.raises;
      sent_is = c.in_ok-done.ensures.sent;
      reigns_are = c.in_ok-done.ensures.reigns;
    })
    c.in_ok-notes.ensures
