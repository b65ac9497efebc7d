-- What a container's fields say.
use Rattle.service_container.specs.declared.container.Container.TheInside.{Inside}
use Rattle.service_container.specs.Held.{Held}

abbrev pub held_of : Inside → Held
held_of c = record { service = c.service; base = c.base; inputs = c.inputs.items; state = c.works.state; outbox = c.works.outbox.items; records = c.works.records.items; whole = c.whole }
