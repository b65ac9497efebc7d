use Rattle.std.proofs.Common.{◌≡◌, ◌≤◌, ℕ, ◌^◌, sym, ap, subst, ◌∙◌}
use Rattle.sbe_consensus.specs.declared.packet.Packet.{Packet}
use Rattle.consensus_core.specs.Member.{Member, Sent, row_of_packet}
use Rattle.world.specs.World.{acts, member}
use Rattle.world_steps.specs.Members.{cut_of, reign_term}
use Rattle.world_steps.specs.Steps.{Seen, sent_at}
use Rattle.world_steps.proofs.Made.{found, runs-at, acts-returns, packet-found, with_world}
use Rattle.world_steps.proofs.Reached.{now_low}
use Rattle.world_steps.proofs.cluster.World.takes.Goals as goal

pub takes-requires-clause-now : goal.takes-requires-clause-now
takes-requires-clause-now c = subst (λ (s : Seen). s.world.now ≤ 2 ^ 60) (sym c.self.view_is) (now_low c.args.self.now c.requires.reached)

pub takes-requires-clause-before : goal.takes-requires-clause-before
takes-requires-clause-before c = runs-at _ c.args.number c.index_mut.result.now (found _ c.args.self.now c.args.number c.index_mut.result.now c.self.view_is c.requires.reached c.requires.runs c.index_mut.ensures.value)

pub returns : goal.returns
returns c =
    let t = c.args.self.now in
    let packet : c.sent.inside.packet ≡ (sent_at t.world c.args.which).packet = ap (λ (o : Sent). o.packet) (c.sent.view_is ∙ packet-found _ c.args.self.now c.args.which c.index-sent.result.now c.self.view_is c.requires.sent c.index-sent.ensures) in
    let f = found _ c.args.self.now c.args.number c.index_mut.result.now c.self.view_is c.requires.reached c.requires.runs c.index_mut.ensures.value in
    let before = found _ c.args.self.now c.args.number c.index.result.now c.self.view_is c.requires.reached c.requires.runs c.index.ensures in
    acts-returns _ c.args.self.now c.args.number (λ (a : Member) (now : ℕ). row_of_packet a c.sent.inside.packet now) (cut_of c.args.cut) c.index_mut.result.now c.takes.new.self c.reign_term-reigned.result _ _ _ c.notes.new.self c.self.view_is
    (record {
      found_is = f;
      reigned_is = c.reign_term-reigned.ensures ∙ ap reign_term before.there;
      member_is = c.in_ok-done.ensures.member;
      raises_are = c.in_ok-done.ensures.raises;
      sent_is = c.in_ok-done.ensures.sent;
      reigns_are = c.in_ok-done.ensures.reigns;
    })
    c.in_ok-notes.ensures
    ∙ ap (λ (p : Packet). with_world t (acts t.world c.args.number (row_of_packet (member t.world c.args.number) p t.world.now) (cut_of c.args.cut))) packet
