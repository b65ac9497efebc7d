use Rattle.member_phases.proofs.Grown.{grown, grown-boxes}
use Rattle.member_phases.proofs.services_have_what_is_committed.Goals as goal

pub returns-clause-inputs : goal.returns-clause-inputs
returns-clause-inputs c kinds log base applied commit cs ds xss g = (grown kinds log base applied commit cs ds xss g).inputs

pub returns-clause-outboxes : goal.returns-clause-outboxes
returns-clause-outboxes c kinds log base applied commit cs ds xss are g = grown-boxes kinds log base applied commit cs ds xss are g

pub returns-clause-rising : goal.returns-clause-rising
returns-clause-rising c kinds log base applied commit cs ds xss g = (grown kinds log base applied commit cs ds xss g).rising
