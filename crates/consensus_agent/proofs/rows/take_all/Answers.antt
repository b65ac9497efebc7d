use Rattle.std.proofs.Common.{[], ◌∷◌, ◌++◌, ap, ◌∙◌, append_assoc}
use Rattle.entry_log.specs.Log.{Log}
use Rattle.member_module.specs.Held.{Held as ModuleHeld}
use Rattle.consensus_agent.proofs.Taking.{events_push}
use Rattle.consensus_agent.proofs.rows.take_all.Goals as goal

pub loop-entry-preserved : goal.loop-entry-preserved
loop-entry-preserved c =
    let inv = c.loop-entry.invariant in
    let first : ModuleHeld = c.args.«module».now in
    let mid : ModuleHeld = c.loop-entry.«module» in
    let new : ModuleHeld = c.append.new.self in
    let x = c.in-Some.entry in
    let rest = c.append.ensures.rest in
    record {
      taken = ap (λ (m : ModuleHeld). m.consumed) rest ∙ inv.taken;
      entries = c.in_ok-append.ensures.entries ∙ ap (λ (l : Log). l ++ x ∷ []) inv.entries ∙ append_assoc first.ahead.entries c.loop-entry.yielded (x ∷ []);
      events = events_push first.ahead.events mid.ahead.events new.ahead.events c.loop-entry.yielded x inv.events c.in_ok-append.ensures.events;
      rest = rest ∙ ap (λ (m : ModuleHeld). record m { ahead = new.ahead; latest = new.latest }) inv.rest;
    }
