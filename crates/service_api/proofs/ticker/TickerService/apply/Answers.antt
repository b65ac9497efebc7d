use Rattle.std.proofs.Common.{rules, ◌≡◌, w64, FitsSigned, subst, arith}
use Rattle.std.proofs.lemmas.Int.{to_z-of_z}
use Rattle.sbe_events.specs.Spelling.{HasSpelling}
use Rattle.service_api.proofs.ticker.TickerService.apply.Goals as goal

pub ask-requires : goal.ask-requires
ask-requires c =
    let h = subst HasSpelling c.in-Message.is c.requires in
    let fits : FitsSigned w64 c.in-Message.stamp = search rules in
    rw (to_z-of_z w64 c.in-Message.stamp fits) h.2.1

pub returns-in-Timer-clause-outputs : goal.returns-in-Timer-clause-outputs
returns-in-Timer-clause-outputs c =
    let corr : FitsSigned w64 c.in-Timer.corr = search rules in
    rw c.in-Timer.is (simp to_z-of_z at c.ring.ensures.outputs)
