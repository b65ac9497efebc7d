use Rattle.std.proofs.Common.{rules, ◌≡◌, sym, subst}
use Rattle.service_phases.specs.Pairs.{Each}
use Rattle.service_phases.specs.Phases.{IsReady, containers}
use Rattle.service_phases.proofs.Ends.{ends_ready}
use Rattle.service_phases.proofs.services.Services.next_images.Goals as goal

pub begin-requires : goal.begin-requires
begin-requires g c =
    let kept : c.end.new.self.kept ≡ containers c.args.served = search rules in
    record { ready = subst (Each IsReady) (sym kept) (ends_ready _ _ _ c.requires.served c.end.ensures.closed c.requires.bound c.requires.ended) }
