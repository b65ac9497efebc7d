use Rattle.std.proofs.Common.{refl}
use Rattle.echo_run.proofs.Driving.{fresh_kept}
use Rattle.echo_run.proofs.run.Run.new.Goals as goal

pub returns-clause-kept : goal.returns-clause-kept
returns-clause-kept c = fresh_kept _ c.new.ensures c.new-2.ensures refl refl refl refl c.new-3.ensures c.new-4.ensures refl c.new-5.ensures
