use Rattle.egress.proofs.Placed.{at_more, at_same, rises_after}
use Rattle.egress.proofs.lists.send_on.Goals as goal

pub returns-clause-ok : goal.returns-clause-ok
returns-clause-ok c = at_more c.send.result c.args.s c.args.streams.now.items c.args.place c.index_mut.result.now c.send.new.self c.requires.rise c.requires.within c.requires.found c.index_mut.ensures.value c.send.ensures.ok

pub returns-clause-rise : goal.returns-clause-rise
returns-clause-rise c =
    rises_after c.send.result c.args.s c.args.streams.now.items _ c.requires.rise
    (at_more c.send.result c.args.s c.args.streams.now.items c.args.place c.index_mut.result.now c.send.new.self c.requires.rise c.requires.within c.requires.found c.index_mut.ensures.value c.send.ensures.ok)
    (at_same c.send.result c.args.streams.now.items c.args.place c.index_mut.result.now c.send.new.self c.index_mut.ensures.value c.send.ensures.err)
