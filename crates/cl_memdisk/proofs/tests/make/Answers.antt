-- A file was found long enough.
use Rattle.std.proofs.Common.{length, ap, arith}
use Rattle.cl_base.specs.Disk.{DiskState}
use Rattle.cl_memdisk.proofs.tests.make.Goals as goal

pub write_at-requires : goal.write_at-requires
write_at-requires c told =
    let seen = c.in_ok-end-in-Write.ensures.told told in
    omega (arith, seen.2, ap (λ (d : DiskState). length (d.files 3).reads) seen.1)

pub cut-requires : goal.cut-requires
cut-requires c told =
    let seen = c.in_ok-size-in-Cut.ensures.told told in
    omega (arith, seen.2, ap (λ (d : DiskState). length (d.files 3).reads) seen.1)
