use Rattle.std.proofs.Common.{rules, ◌≡◌, sym, ap, ◌∙◌, subst, List}
use Rattle.service_container.specs.Held.{Held}
use Rattle.service_container.specs.declared.container.Served.{Served}
use Rattle.service_phases.specs.Pairs.{Each2}
use Rattle.service_phases.specs.Begins.{AreImages, Holds, Polls}
use Rattle.service_phases.specs.Phases.{Lending, BeginsAt, PollerOf}
use Rattle.service_phases.proofs.Lists.{same_length}
use Rattle.service_phases.proofs.ImageMore.{began_of}
use Rattle.service_phases.proofs.services.Services.begin.Goals as goal

pub lend_each-requires-clause-pairs : goal.lend_each-requires-clause-pairs
lend_each-requires-clause-pairs c =
    let i = c.in_ok-images.images in
    let F : List Held → Type 0 = λ l. AreImages l i in
    let h = subst F c.as_slice.ensures.value c.in_ok-images.ensures in
    same_length BeginsAt c.self.inside.kept.items i.feeds.items h.begins ∙ same_length PollerOf i.feeds.items i.pollers.items h.pollers

pub returns-clause-began : goal.returns-clause-began
returns-clause-began c =
    let i = c.in_ok-images.images in
    let kept : c.self.inside.kept.items ≡ c.args.self.now.kept = ap (λ (a : Lending). a.kept) c.self.view_is in
    let F : List Held → Type 0 = λ l. AreImages l i in
    let G : List Held → Type 0 = λ l. Each2 Holds l c.from_vec-2.result in
    let H : List Served → Type 0 = λ l. Each2 Holds c.self.inside.kept.items l in
    let P : List Served → Type 0 = λ l. Each2 Polls i.pollers.items l in
    began_of c.args.self.now _ i c.from_vec.result c.from_vec-2.result
    (subst F (c.as_slice.ensures.value ∙ kept) c.in_ok-images.ensures) c.from_vec.ensures
    (search rules) (subst G kept (subst H (sym c.from_vec-2.ensures) c.lend_each.ensures.containers)) (subst P (sym c.from_vec-2.ensures) c.lend_each.ensures.pollers)
