use Rattle.run_world.proofs.is_safe.Goals as goal
use Rattle.run_world.proofs.Acts.{headline-always}

pub returns : goal.returns
returns c n kinds acts five three = headline-always n kinds acts five three
