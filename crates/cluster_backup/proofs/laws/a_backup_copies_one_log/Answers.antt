use Rattle.cluster_backup.proofs.Copies.{grows_all, rises_all, within_all, front_all, node_all}
use Rattle.cluster_backup.proofs.laws.a_backup_copies_one_log.Goals as goal

pub returns-clause-grows : goal.returns-clause-grows
returns-clause-grows c = grows_all

pub returns-clause-rises : goal.returns-clause-rises
returns-clause-rises c = rises_all

pub returns-clause-within : goal.returns-clause-within
returns-clause-within c = within_all

pub returns-clause-front : goal.returns-clause-front
returns-clause-front c = front_all

pub returns-clause-votes : goal.returns-clause-votes
returns-clause-votes c = node_all
