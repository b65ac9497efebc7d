use Rattle.member_phases.proofs.Moduled.{module-grown}
use Rattle.member_phases.proofs.the_module_has_what_is_committed.Goals as goal

pub returns : goal.returns
returns c kinds log base applied commit cs ds xss formed g = module-grown kinds log base applied commit cs ds xss formed g
