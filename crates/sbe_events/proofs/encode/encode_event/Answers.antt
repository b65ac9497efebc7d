use Rattle.sbe_events.specs.Laws.{encoded, apart, prefix_free}
use Rattle.sbe_events.proofs.encode.encode_event.Goals as goal

pub returns-clause-read_again : goal.returns-clause-read_again
returns-clause-read_again c = encoded c.args.e.now c.requires

pub returns-clause-alone : goal.returns-clause-alone
returns-clause-alone c = λ other h is. apart other c.args.e.now h c.requires is

pub returns-clause-prefix_free : goal.returns-clause-prefix_free
returns-clause-prefix_free c = λ other rest h is. prefix_free c.args.e.now other rest c.requires h is
