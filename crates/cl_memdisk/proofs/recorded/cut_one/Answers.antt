-- A cut changes its file alone.
use Rattle.std.proofs.Common.{length, ap, arith}
use Rattle.cl_base.specs.Disk.{cut_file}
use Rattle.cl_memdisk.specs.Changes.{FileData}
use Rattle.cl_memdisk.proofs.FilesLemmas.{was_at, changes, stays}
use Rattle.cl_memdisk.proofs.recorded.cut_one.Goals as goal

pub cut-requires : goal.cut-requires
cut-requires c =
    let is = was_at c.args.files.now.items c.room.new.files.items c.args.file c.index_mut-f.result.now c.index_mut-f.result.now c.in_ok-room.ensures.same c.in_ok-room.ensures.there c.index_mut-f.ensures.value in
    omega (arith, ap (λ (d : FileData). length d.bytes) is)

pub returns-in_default-clause-err : goal.returns-in_default-clause-err
returns-in_default-clause-err c = stays c.args.files.now.items c.room.new.files.items c.args.file c.index_mut-f.result.now c.cut.new.self c.in_ok-room.ensures.same c.in_ok-room.ensures.there c.index_mut-f.ensures.value c.in_default.ensures.err

pub returns-clause-ok : goal.returns-clause-ok
returns-clause-ok c = changes c.args.files.now.items c.room.new.files.items c.args.file c.index_mut-f.result.now c.cut.new.self c.in_ok-room.ensures.same c.in_ok-room.ensures.there c.index_mut-f.ensures.value (cut_file c.args.len) c.in-Ok.ensures.done
