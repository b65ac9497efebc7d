use Rattle.echo_run.proofs.Driving.{phased, kept_phased, next_within}
use Rattle.echo_run.proofs.run.Run.phase.Goals as goal

pub take_entries-requires-clause-numbered : goal.take_entries-requires-clause-numbered
take_entries-requires-clause-numbered c = next_within c.args.self.now c.as_slice.result.now c.requires.kept c.as_slice.ensures

pub returns-clause-kept : goal.returns-clause-kept
returns-clause-kept c = kept_phased c.args.self.now c.as_slice.result.now c.take_entries.new.sent c.take_entries.new.echo c.take_entries.new.tables c.requires.kept c.as_slice.ensures c.in_ok-take_entries.ensures.sent c.in_ok-take_entries.ensures.tables

pub returns-clause-world : goal.returns-clause-world
returns-clause-world c = phased c.args.self.now c.as_slice.result.now c.take_entries.new.sent c.take_entries.new.echo c.take_entries.new.tables c.requires.kept c.as_slice.ensures c.in_ok-take_entries.ensures.sent
