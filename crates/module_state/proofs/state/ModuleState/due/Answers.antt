use Rattle.std.proofs.Common.{◌≡◌, ◌++◌, ◌≤◌, ◌^◌, List, append_assoc, ap, sym, subst, ◌∙◌, arith}
use Rattle.std.specs.List.{AllByRecursion}
use Rattle.sbe_events.specs.declared.event.Event.{Event}
use Rattle.sbe_events.specs.Spelling.{HasSpelling}
use Rattle.module_state.specs.Module.{Module}
use Rattle.module_state.specs.Due.{closes_due, rings_of, over, messages_due, due}
use Rattle.module_state.proofs.RangeLaws.{due_spells}
use Rattle.module_state.proofs.SoundLaws.{made_of}
use Rattle.module_state.proofs.state.ModuleState.due.Goals as goal

pub returns-clause-spelled : goal.returns-clause-spelled
returns-clause-spelled c number =
    let m : Module = made_of c.self.inside.sessions.table c.self.inside.timers c.self.inside.pending c.self.inside.counts in
    let t : Module = made_of c.tentative.inside.sessions.table c.tentative.inside.timers c.tentative.inside.pending c.tentative.inside.counts in
    let at = c.args.moment in
    let closes : List Event = closes_due m.sessions c.args.alive.now at.term at.now at.since t.sessions.listed in
    let rings : List Event = rings_of at.term at.now (over c.args.ahead.now at.now m.timers) in
    let messages : List Event = messages_due at.term at.now 0 t.pending in
    let found : c.add_messages.new.found ≡ due m t c.args.ahead.now c.args.alive.now at.term at.now at.since =
    c.in_ok-add_messages.ensures ∙ ap (λ (l : List Event). l ++ messages) (c.in_ok-add_rings.ensures ∙ ap (λ (l : List Event). l ++ rings) (c.in_ok-add_closes.ensures ∙ ap (λ (l : List Event). l ++ closes) c.new-found.ensures))
    ∙ append_assoc closes rings messages in
    let early : at.now ≤ 2 ^ 62 = omega (arith, c.requires) in
    subst (AllByRecursion HasSpelling) (sym found) (due_spells m t c.args.ahead.now c.args.alive.now at.term at.now at.since c.self.invariant.fits c.tentative.invariant.fits c.tentative.invariant.few number early)
