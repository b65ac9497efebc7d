use Rattle.member_phases.proofs.Phased.{still-phase, written-phase}
use Rattle.member_phases.proofs.a_phase_is_acts.Goals as goal

pub returns-clause-still : goal.returns-clause-still
returns-clause-still g c n kinds w m u five three lawful up was none = still-phase g.D.Disk.state g.D.Disk.tells g.D.Disk.is_honest kinds n w m five three lawful u up was none

pub returns-clause-written : goal.returns-clause-written
returns-clause-written g c n kinds w m u v sent five three lawful honest up d = written-phase _ _ _ kinds n w m five three lawful u up d.was v sent d honest (g.met.D.Disk.honest_tells u.disk.disk honest)
