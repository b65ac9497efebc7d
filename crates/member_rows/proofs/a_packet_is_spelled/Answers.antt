use Rattle.member_rows.proofs.Bytes.{fault-none, read-spells}
use Rattle.member_rows.proofs.a_packet_is_spelled.Goals as goal

pub returns-clause-some : goal.returns-clause-some
returns-clause-some start bytes p fits e = read-spells bytes p fits e

pub returns-clause-none : goal.returns-clause-none
returns-clause-none start bytes b e = fault-none bytes b e
