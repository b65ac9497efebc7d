-- How time goes on at a call, and what a call that found no memory leaves.
use Rattle.std.proofs.Common.{◌≡◌, ℕ, List, [], ◌∷◌, ◌++◌, map, ◌∙◌, ap}
use Rattle.cl_base.specs.Disk.{Elapses, IsImageOf}
use Rattle.cl_memdisk.specs.Changes.{shown}
use Rattle.cl_memdisk.specs.Files.{data_at, file_at}
use Rattle.cl_memdisk.specs.Past.{LeftSince}
use Rattle.cl_memdisk.specs.MemDisk.{disk_state, disk_past, disk_moment, disk_left_since}
use Rattle.cl_memdisk.specs.declared.disk.MemDisk.{MemDisk}
use Rattle.cl_memdisk.specs.declared.file.FileMem.{FileMem}
use Rattle.cl_memdisk.proofs.PastLemmas.{elapses_noted, elapses_same}

-- one that remembers nothing and changes no file
pub elapses_kept : (old new : MemDisk) → new.past.items ≡ old.past.items → new.files.items ≡ old.files.items
    → Elapses (disk_moment old) (disk_moment new) (disk_left_since old) (disk_left_since new) (IsImageOf (disk_state new).files)
elapses_kept old new past files =
    elapses_same (disk_past old) (disk_past new) old.files.items new.files.items (ap (λ l. map (λ s. s.value.items) l) past) files

-- a call was numbered, and then the files were remembered
module _ (old numbered noted : MemDisk) (rest : numbered ≡ record old { count = numbered.count }) (ok : disk_past noted ≡ disk_past numbered ++ numbered.files.items ∷ []) where
  remembered : disk_past noted ≡ disk_past old ++ old.files.items ∷ []
  remembered = ok ∙ ap (λ (d : MemDisk). disk_past d ++ d.files.items ∷ []) rest

  -- whatever the files are now
  pub elapses_at : (files : List FileMem) → Elapses (disk_moment old) (disk_moment noted) (disk_left_since old) (LeftSince (disk_past noted) files) (IsImageOf (file_at files))
  elapses_at files = elapses_noted (disk_past old) (disk_past noted) old.files.items files remembered

  pub elapses_then : (new : MemDisk) → disk_past new ≡ disk_past noted → Elapses (disk_moment old) (disk_moment new) (disk_left_since old) (disk_left_since new) (IsImageOf (disk_state new).files)
  elapses_then new kept = elapses_noted (disk_past old) (disk_past new) old.files.items new.files.items (kept ∙ remembered)

-- files that are as they were
pub same_state : (old new : MemDisk) → ((f : ℕ) → data_at new.files.items f ≡ data_at old.files.items f) → new.fuse ≡ old.fuse → new.burnt ≡ old.burnt → new.own_faults ≡ old.own_faults → disk_state new ≡ disk_state old
same_state old new files fuse burnt own i = record { files = λ f. shown (files f i); lets = fuse i; burnt = burnt i; own_faults = own i }
