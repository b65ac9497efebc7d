use Rattle.std.proofs.Common.{rules, ◌≡◌, ◌++◌, ◌∷◌, []}
use Rattle.service_phases.specs.Phases.{Closed, MayClose}
use Rattle.service_phases.proofs.Lists.{split2, join2}
use Rattle.service_phases.proofs.close.+close_each.Goals as goal

pub close_each-requires : goal.close_each-requires
close_each-requires g t c κs within =
    let f : c.args.feeds.now.items ≡ c.pop.new.self.items ++ c.in-Some-Some.feed ∷ [] = search rules in
    let s : c.args.served.now.items ≡ c.pop-2.new.self.items ++ c.in-Some-Some.job ∷ [] = search rules in (
      search rules,
      (within, ((split2 MayClose _ _ _ _ _ _ f s c.requires.close).0, search rules)),
    )

pub close-requires-clause-image : goal.close-requires-clause-image
close-requires-clause-image g t c =
    let f : c.args.feeds.now.items ≡ c.pop.new.self.items ++ c.in-Some-Some.feed ∷ [] = search rules in
    let s : c.args.served.now.items ≡ c.pop-2.new.self.items ++ c.in-Some-Some.job ∷ [] = search rules in
    (split2 MayClose _ _ _ _ _ _ f s c.requires.close).1.0

pub close-requires-clause-ended : goal.close-requires-clause-ended
close-requires-clause-ended g t c =
    let f : c.args.feeds.now.items ≡ c.pop.new.self.items ++ c.in-Some-Some.feed ∷ [] = search rules in
    let s : c.args.served.now.items ≡ c.pop-2.new.self.items ++ c.in-Some-Some.job ∷ [] = search rules in
    (split2 MayClose _ _ _ _ _ _ f s c.requires.close).1.1

pub returns-clause-closed : goal.returns-clause-closed
returns-clause-closed g t c =
    let f : c.args.feeds.now.items ≡ c.pop.new.self.items ++ c.in-Some-Some.feed ∷ [] = search rules in
    let s : c.args.served.now.items ≡ c.pop-2.new.self.items ++ c.in-Some-Some.job ∷ [] = search rules in
    let e = c.close.ensures in
    join2 Closed _ _ _ _ _ _ f s c.close_each.ensures.closed (record { taken = e.taken; within = rw (← e.position) e.within; whole = λ h. rw (← e.position) (e.whole h) })
