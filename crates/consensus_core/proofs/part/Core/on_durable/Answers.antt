use Rattle.std.proofs.Common.{◌∙◌, subst, sym}
use Rattle.consensus_core.specs.Sends.{AreWanted, CanSpell}
use Rattle.consensus_core.specs.Whole.{all_sent}
use Rattle.consensus_core.proofs.Spoken.{IsSpoken, can_spell}
use Rattle.consensus_core.proofs.part.Core.on_durable.Goals as goal

pub spelled-requires-clause-spelled : goal.spelled-requires-clause-spelled
spelled-requires-clause-spelled c =
    let v = c.self.inside.values in
    let xs = c.args.index.now in
    let es = c.args.batches.now in
    let wanted = subst (λ h. AreWanted (all_sent h xs) es) (sym c.self.view_is) c.requires.batches in
    let spoken : IsSpoken xs = record { place = c.requires.place; term = c.requires.term; rises = c.entries-entries.ensures.rises } in
    subst (λ ss. CanSpell ss v xs es) (sym (c.as_slice.ensures ∙ c.in_ok-sends.ensures)) (can_spell c.self.inside.plan v xs es c.self.invariant.fit c.self.invariant.plan spoken wanted)
