-- A write changes its file alone.
use Rattle.std.proofs.Common.{length, ap, arith}
use Rattle.cl_base.specs.Disk.{written_file}
use Rattle.cl_memdisk.specs.Changes.{FileData}
use Rattle.cl_memdisk.proofs.FilesLemmas.{was_at, changes, stays}
use Rattle.cl_memdisk.proofs.recorded.write_file.Goals as goal

pub write-requires : goal.write-requires
write-requires c =
    let is = was_at c.args.files.now.items c.room.new.files.items c.args.file c.index_mut-f.result.now c.index_mut-f.result.now c.in_ok-room.ensures.same c.in_ok-room.ensures.there c.index_mut-f.ensures.value in
    omega (arith, ap (λ (d : FileData). length d.bytes) is)

pub returns-in_default-clause-err : goal.returns-in_default-clause-err
returns-in_default-clause-err c = stays c.args.files.now.items c.room.new.files.items c.args.file c.index_mut-f.result.now c.write.new.self c.in_ok-room.ensures.same c.in_ok-room.ensures.there c.index_mut-f.ensures.value c.in_default.ensures.err

pub returns-clause-ok : goal.returns-clause-ok
returns-clause-ok c = changes c.args.files.now.items c.room.new.files.items c.args.file c.index_mut-f.result.now c.write.new.self c.in_ok-room.ensures.same c.in_ok-room.ensures.there c.index_mut-f.ensures.value (written_file c.args.at c.args.bytes.now) c.in-Ok.ensures.done
