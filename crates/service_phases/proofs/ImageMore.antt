-- An image more.
use Rattle.std.proofs.Common.{◌≡◌, List, [], ◌∷◌, ◌++◌, map, sym, ap, ap₂, ◌∙◌, subst}
use Rattle.std.specs.declared.snapshot.Snapshot.{Snapshot}
use Rattle.commit_counter.specs.Ends.{Fed, Polled}
use Rattle.service_container.specs.Held.{Held}
use Rattle.service_phases.specs.declared.images.Images.{Images}
use Rattle.service_container.specs.declared.container.Served.{Served}
use Rattle.service_phases.specs.Phases.{Lending, Began, BeginsAt, PollerOf}
use Rattle.service_phases.specs.Begins.{AreImages, Holds, Polls}
use Rattle.service_phases.specs.Pairs.{Each2}
use Rattle.service_phases.proofs.Lists.{each2_snoc, each2_then, map_snoc}

pub image_more : (cs : List Held) (c : Held) (i j : Images) (b : Snapshot Fed) (l : Snapshot Held) (f : Fed) (p : Polled)
    → j.lent.items ≡ i.lent.items ++ l ∷ [] → j.begun.items ≡ i.begun.items ++ b ∷ [] → j.feeds.items ≡ i.feeds.items ++ f ∷ [] → j.pollers.items ≡ i.pollers.items ++ p ∷ []
    → l.value ≡ c → b.value ≡ f → BeginsAt c f → PollerOf f p → AreImages cs i → AreImages (cs ++ c ∷ []) j
image_more cs c i j b l f p le be fe pe lv bv begins poller h = record {
  lent = ap (map (λ (x : Snapshot Held). x.value)) le ∙ map_snoc (λ (x : Snapshot Held). x.value) i.lent.items l ∙ ap₂ (λ (x : List Held) y. x ++ y ∷ []) h.lent lv;
  feeds = ap (map (λ (x : Snapshot Fed). x.value)) be ∙ map_snoc (λ (x : Snapshot Fed). x.value) i.begun.items b ∙ ap₂ (λ (x : List Fed) y. x ++ y ∷ []) h.feeds bv ∙ sym fe;
  begins = let F : List Fed → Type 0 = Each2 BeginsAt (cs ++ c ∷ []) in subst F (sym fe) (each2_snoc BeginsAt cs i.feeds.items c f h.begins begins);
  pollers = let F : (List Fed × List Polled) → Type 0 = λ z. Each2 PollerOf z.0 z.1 in subst F (λ k. (sym fe k, sym pe k)) (each2_snoc PollerOf i.feeds.items i.pollers.items f p h.pollers poller);
}

-- a phase begins with these images
pub began_of : (a b : Lending) (i : Images) (feeds : List Fed) (jobs : List Served) → AreImages a.kept i → feeds ≡ i.feeds.items
    → b ≡ record { kept = []; lent = map (λ s. s.value) i.lent.items; begun = map (λ s. s.value) i.begun.items }
    → Each2 Holds a.kept jobs → Each2 Polls i.pollers.items jobs → Began a b feeds jobs
began_of a b i feeds jobs h e is holds polls =
    let make : List Held → List Fed → Lending = λ l f. record { kept = []; lent = l; begun = f } in
    let F : List Fed → Type 0 = Each2 BeginsAt a.kept in
    let G : List Fed → Type 0 = λ l. Each2 (λ (f : Fed) (s : Served). PollerOf f s.poller) l jobs in
    record {
      lending = is ∙ (λ k. make (h.lent k) ((h.feeds ∙ sym e) k));
      begins = subst F (sym e) h.begins;
      pollers = subst G (sym e) (each2_then PollerOf Polls (λ f s. PollerOf f s.poller) (λ f p s x y. y ∙ x) i.feeds.items i.pollers.items jobs h.pollers polls);
      containers = holds;
    }
