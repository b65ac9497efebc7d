use Rattle.sbe_consensus.specs.Laws.{encoded, apart}
use Rattle.sbe_consensus.specs.PrefixLaws.{prefix_free}
use Rattle.sbe_consensus.proofs.encode.encode_packet.Goals as goal

pub returns-clause-read_again : goal.returns-clause-read_again
returns-clause-read_again c = encoded c.args.p.now c.requires

pub returns-clause-alone : goal.returns-clause-alone
returns-clause-alone c = λ other h is. apart other c.args.p.now h c.requires is

pub returns-clause-prefix_free : goal.returns-clause-prefix_free
returns-clause-prefix_free c = λ other rest h is. prefix_free c.args.p.now other rest c.requires h is
