use Rattle.std.proofs.Common.{◌≡◌, vec_len, vec_capacity}
use Rattle.cl_memdisk.specs.Changes.{before_all, AllInPlace}
use Rattle.cl_memdisk.proofs.edit.take_all_back.Given as goal

abbrev pub invariant-loop-change : goal.invariant-loop-change
invariant-loop-change l = record {
  in_place : AllInPlace (vec_capacity l.file) l.changes.items l.file.items;
  same : before_all l.changes.items l.file.items ≡ before_all l.initial.changes.items l.initial.file.items;
}

abbrev pub decreases-loop-change : goal.decreases-loop-change
decreases-loop-change l = vec_len l.changes
