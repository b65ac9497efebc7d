-- The images of a phase as it begins, for these containers.
use Rattle.std.specs.Prelude.{◌≡◌, List, map}
use Rattle.commit_counter.specs.Ends.{Polled}
use Rattle.service_container.specs.Held.{Held}
use Rattle.service_container.specs.declared.container.Served.{Served}
use Rattle.service_phases.specs.declared.images.Images.{Images}
use Rattle.service_phases.specs.Phases.{BeginsAt, PollerOf}
use Rattle.service_phases.specs.Pairs.{Each2}

pub record AreImages (cs : List Held) (i : Images) : Type 0 where
  pub lent : map (λ s. s.value) i.lent.items ≡ cs
  pub feeds : map (λ s. s.value) i.begun.items ≡ i.feeds.items
  pub begins : Each2 BeginsAt cs i.feeds.items
  pub pollers : Each2 PollerOf i.feeds.items i.pollers.items

-- the job has this container
abbrev pub Holds : Held → Served → Type 0
Holds c s = s.container ≡ c

-- the job has this poller
abbrev pub Polls : Polled → Served → Type 0
Polls p s = s.poller ≡ p
