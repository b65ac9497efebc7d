use Rattle.member_gives.proofs.records_stand_on_their_streams.Goals as goal
use Rattle.member_gives.proofs.Given.{records-folded, records-stand}

pub returns-clause-order : goal.returns-clause-order
returns-clause-order c records streams = records-folded records streams

pub returns-clause-stand : goal.returns-clause-stand
returns-clause-stand c streams outputs more records are each = records-stand streams outputs more records are each
