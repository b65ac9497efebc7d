use Rattle.echo_run.proofs.Driving.{leads_all, leads_none}
use Rattle.echo_run.proofs.run.Run.lead.Goals as goal

pub returns-then-self-clause-world : goal.returns-then-self-clause-world
returns-then-self-clause-world c = leads_all c.args.self.now c.next_word-self.result c.len.result c.args.self.now.name.place c.next_word-self.ensures c.requires.kept c.requires.state c.if-self.true c.len.ensures

pub returns-else-self-clause-world : goal.returns-else-self-clause-world
returns-else-self-clause-world c = leads_none c.args.self.now c.next_word-self.result c.next_word-self.ensures c.requires.kept c.requires.state c.if-self.false
