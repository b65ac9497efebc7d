use Rattle.std.proofs.Common.{rules}
use Rattle.service_phases.specs.declared.images.Images.{Images}
use Rattle.service_phases.proofs.ImageMore.{image_more}
use Rattle.service_phases.proofs.images.Images.add.Goals as goal

pub returns : goal.returns
returns c cs h =
    let j : Images = record { feeds = c.push_reserved-3.new.self; pollers = c.push_reserved-4.new.self; begun = c.push_reserved.new.self; lent = c.push_reserved-2.new.self } in
    image_more cs c.args.container.now c.args.self.now j c.of.result c.of-2.result c.in_ok-feed.feed c.in_ok-feed.poller
    (search rules) (search rules) (search rules) (search rules) (search rules) (search rules) (search rules) (search rules) h
