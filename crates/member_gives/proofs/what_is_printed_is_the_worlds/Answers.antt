use Rattle.member_gives.proofs.what_is_printed_is_the_worlds.Goals as goal
use Rattle.member_gives.proofs.Printed.{prints-still, prints-act, prints-turn}

pub returns-clause-still : goal.returns-clause-still
returns-clause-still g c n kinds w m u going p five three lawful up is = prints-still _ kinds n w m u going p five three lawful up is

pub returns-clause-act : goal.returns-clause-act
returns-clause-act g c n kinds w a m u going p five three lawful of up is = prints-act _ kinds n w a m u going p five three lawful of up is

pub returns-clause-turn : goal.returns-clause-turn
returns-clause-turn g c n kinds x w act m u going choice ended out five three lawful of l is t = prints-turn _ kinds n x w act m u going choice ended out five three lawful of l is t
