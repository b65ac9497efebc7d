use Rattle.member_phases.proofs.Takes.{all-taken}
use Rattle.member_phases.proofs.services_take_what_is_committed.Goals as goal

pub returns : goal.returns
returns c n kinds w m role over lawful up goes count = all-taken n kinds w m role over lawful up goes count
