-- A sync changes its file alone.
use Rattle.std.proofs.Common.{ap}
use Rattle.cl_base.specs.Disk.{synced_file}
use Rattle.cl_memdisk.specs.Changes.{shown}
use Rattle.cl_memdisk.proofs.FilesLemmas.{changes}
use Rattle.cl_memdisk.proofs.recorded.sync_file.Goals as goal

pub returns-clause-ok : goal.returns-clause-ok
returns-clause-ok c = changes c.args.files.now.items c.room.new.files.items c.args.file c.index_mut-f.result.now c.sync.new.self c.in_ok-room.ensures.same c.in_ok-room.ensures.there c.index_mut-f.ensures.value synced_file (ap shown c.sync.ensures)
