use Rattle.member_gives.proofs.one_member_stands.Goals as goal
use Rattle.member_gives.proofs.Alone.{seat-there, stands-alone, stands-again, stands-put}

pub returns-clause-there : goal.returns-clause-there
returns-clause-there g c kinds x w m stands l = seat-there _ kinds x w m stands l

pub returns-clause-alone : goal.returns-clause-alone
returns-clause-alone g c kinds x w m y stands is = stands-alone _ kinds x w m y stands is

pub returns-clause-again : goal.returns-clause-again
returns-clause-again g c kinds x w v m o stands one only = stands-again _ kinds x w v m o stands one only

pub returns-clause-put : goal.returns-clause-put
returns-clause-put g c kinds w m o y s ps one is = stands-put _ kinds w m o y s ps one is
