use Rattle.cluster_backup.specs.Laws.{encoded, apart}
use Rattle.cluster_backup.proofs.encode.encode_backup.Goals as goal

pub returns-clause-read_again : goal.returns-clause-read_again
returns-clause-read_again c = encoded c.args.p.now c.requires

pub returns-clause-alone : goal.returns-clause-alone
returns-clause-alone c = λ other h is. apart other c.args.p.now h c.requires is
