use Rattle.run_world.proofs.starts_from_its_disk.Goals as goal
use Rattle.run_world.proofs.Begun.{start-kept, start-runs}

pub returns-clause-kept : goal.returns-clause-kept
returns-clause-kept c kinds w m f down = start-kept kinds w m f down

pub returns-clause-runs : goal.returns-clause-runs
returns-clause-runs c kinds w m f down whole = start-runs kinds w m f down whole
