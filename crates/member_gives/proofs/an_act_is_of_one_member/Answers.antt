use Rattle.member_gives.proofs.an_act_is_of_one_member.Goals as goal
use Rattle.member_gives.proofs.Alone.{act-only, acts-only, phased-only, only-same, only-then, only-count}

pub returns-clause-act : goal.returns-clause-act
returns-clause-act c kinds w a m e = act-only kinds w a m e

pub returns-clause-acts : goal.returns-clause-acts
returns-clause-acts c kinds w acts m all = acts-only kinds w acts m all

pub returns-clause-phase : goal.returns-clause-phase
returns-clause-phase c kinds m w v p = phased-only kinds m w v p

pub returns-clause-none : goal.returns-clause-none
returns-clause-none c m w = only-same m w

pub returns-clause-then : goal.returns-clause-then
returns-clause-then c m w u v first second = only-then m w u v first second

pub returns-clause-count : goal.returns-clause-count
returns-clause-count c m w v only = only-count m w v only
