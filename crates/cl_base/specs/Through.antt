-- A write that is synced at once.
use Rattle.std.specs.Prelude.{◌≡◌, ◌≢◌, ℕ, ◌≤◌, Bool, IsTrue, List, length, Result, Ok, Err, refl}
use Rattle.std.proofs.Common.{⊎_elim, sym, ◌∙◌, ap, subst, arith}
use Rattle.cl_base.specs.Disk.{FileState, DiskState, IsImage, IsImageOf, written_file, synced_file, IsTornWrite, ChangeGives, LookGives, Elapses, LeavesOnly}
use Rattle.cl_base.specs.Images.{IsSound}
use Rattle.cl_base.specs.Torn.{FromImage, torn_image, settled_image, MayWrite, MaySync, write_may, sync_may, started, goes_on}
use Rattle.cl_base.specs.declared.fault.Trouble.{Trouble}
use Rattle.cl_base.specs.declared.fault.Trouble.TheVariants.{Failed, NoMemory}

-- an image of the disk from before, with one range of one file torn
pub record IsTornFrom (file at n : ℕ) (files : ℕ → FileState) (c : ℕ → List ℕ) : Type 0 where
  pub this : FromImage at n (files file) (c file)
  pub others : (g : ℕ) → g ≢ file → IsImage (files g) (c g)

-- each image now is one of those
pub record TornOnly (file at n : ℕ) (was files : ℕ → FileState) : Type 0 where
  pub this : (c : List ℕ) → IsImage (files file) c → FromImage at n (was file) c
  pub others : (g : ℕ) → g ≢ file → files g ≡ was g

-- What a fuse leaves of a write and a sync: it ends them at the write, or at the sync.
pub record ThroughLeft (file at : ℕ) (bytes : List ℕ) (was : ℕ → FileState) (left : DiskState) (k : ℕ) : Type 0 where
  pub write : k ≡ 0 → left.files file ≡ was file
  pub sync : k ≡ 1 → left.files file ≡ written_file at bytes (was file)
  pub others : (g : ℕ) → g ≢ file → left.files g ≡ was g

pub torn_same : (at n : ℕ) (s : FileState) (c : List ℕ) → IsImage s c → FromImage at n s c
torn_same at n s c image = record { before = c; image = image; torn = record { no_shorter = omega arith; no_longer = omega arith; same = λ i within out. refl } }

pub torn_each : (file at n : ℕ) (was files : ℕ → FileState) → TornOnly file at n was files → (c : ℕ → List ℕ) → IsImageOf files c → IsTornFrom file at n was c
torn_each file at n was files only c image = record {
  this = only.this (c file) (image file);
  others = λ g ne. subst (λ s. IsImage s (c g)) (only.others g ne) (image g);
}

pub only_same : (file at n : ℕ) (was : ℕ → FileState) → TornOnly file at n was was
only_same file at n was = record { this = λ c image. torn_same at n (was file) c image; others = λ g ne. refl }

pub only_written : (file at n : ℕ) (was files : ℕ → FileState) → IsSound (was file) → MayWrite file at n was files → TornOnly file at n was files
only_written file at n was files sound may = record {
  this = λ c image. ⊎_elim (λ same. torn_same at n (was file) c (subst (λ s. IsImage s c) same image)) (λ torn. torn_image at n (was file) (files file) torn sound c image) may.this;
  others = may.others;
}

pub only_synced : (file at n : ℕ) (was mid files : ℕ → FileState) → TornOnly file at n was mid → IsSound (mid file) → MaySync file mid files → TornOnly file at n was files
only_synced file at n was mid files only sound may = record {
  this = λ c image. ⊎_elim
      (λ same. only.this c (subst (λ s. IsImage s c) same image))
      (λ synced. only.this c (subst (IsImage (mid file)) (sym (settled_image (mid file).reads c (subst (λ s. IsImage s c) synced image))) sound.reads))
      may.this;
  others = λ g ne. may.others g ne ∙ only.others g ne;
}

module _ {D : Type 0} (state : D → DiskState) (is_honest : D → Bool) (moment : D → ℕ) (left_since : D → ℕ → (ℕ → List ℕ) → Type 0)
    (reads : (d : D) (f : ℕ) → IsTrue (is_honest d) → IsImage ((state d).files f) ((state d).files f).reads)
    (synced : (d : D) (f : ℕ) → IsTrue (is_honest d) → IsImage ((state d).files f) ((state d).files f).synced)
    (tells : D → Bool) (honest_tells : (d : D) → IsTrue (is_honest d) → IsTrue (tells d))
    (only_now : (d : D) (c : ℕ → List ℕ) → IsTrue (is_honest d) → left_since d (moment d) c → IsImageOf (state d).files c)
    (T : Type 0) (file at : ℕ) (bytes : List ℕ) (old mid : D) (honest : IsTrue (is_honest old)) (fits : at ≤ length ((state old).files file).reads)
    (result : Result T Trouble) (gives : IsTrue (tells old) → ChangeGives file (written_file at bytes) (IsTornWrite at (length bytes)) (state old) (state mid) result)
    (same : is_honest mid ≡ is_honest old)
    (time : IsTrue (is_honest old) → Elapses (moment old) (moment mid) (left_since old) (left_since mid) (IsImageOf (state mid).files)) where
  abbrev files : D → ℕ → FileState
  files d = (state d).files

  abbrev P : (ℕ → List ℕ) → Type 0
  P = IsTornFrom file at (length bytes) (files old)

  sound_at : (d : D) → IsTrue (is_honest d) → IsSound (files d file)
  sound_at d h = record { reads = reads d file h; synced = synced d file h }

  pub wrote_only : TornOnly file at (length bytes) (files old) (files mid)
  wrote_only = only_written file at (length bytes) (files old) (files mid) (sound_at old honest) (write_may file at bytes (state old) (state mid) result fits (gives (honest_tells old honest)))

  pub wrote_run : LeavesOnly moment left_since old mid P
  wrote_run = goes_on moment left_since old old mid P (IsImageOf (files mid))
      (started moment left_since old P (λ c left. torn_each file at (length bytes) (files old) (files old) (only_same file at (length bytes) (files old)) c (only_now old c honest left)))
      (time honest) (torn_each file at (length bytes) (files old) (files mid) wrote_only)

  module _ (new : D) (result2 : Result T Trouble) (gives2 : IsTrue (tells mid) → ChangeGives file synced_file (λ was now. now ≡ was) (state mid) (state new) result2)
      (time2 : IsTrue (is_honest mid) → Elapses (moment mid) (moment new) (left_since mid) (left_since new) (IsImageOf (state new).files)) where
    honest_mid : IsTrue (is_honest mid)
    honest_mid = subst IsTrue (sym same) honest

    pub synced_only : TornOnly file at (length bytes) (files old) (files new)
    synced_only = only_synced file at (length bytes) (files old) (files mid) (files new) wrote_only (sound_at mid honest_mid) (sync_may file (state mid) (state new) result2 (gives2 (honest_tells mid honest_mid)))

    pub synced_run : LeavesOnly moment left_since old new P
    synced_run = goes_on moment left_since old mid new P (IsImageOf (files new)) wrote_run (time2 honest_mid) (torn_each file at (length bytes) (files old) (files new) synced_only)

-- a looking call changes no file
pub look_same : {T : Type 0} (gives : T → Type 0) (old new : DiskState) (result : Result T Trouble) → LookGives gives old new result → (g : ℕ) → new.files g ≡ old.files g
look_same gives old new (Ok v) look g = ap (λ (d : DiskState). d.files g) look.1
look_same gives old new (Err Failed) look g = look.files g
look_same gives old new (Err NoMemory) look g = ap (λ (d : DiskState). d.files g) look

pub look_run : {D : Type 0} (state : D → DiskState) (moment : D → ℕ) (left_since : D → ℕ → (ℕ → List ℕ) → Type 0) (old new : D)
    → ((c : ℕ → List ℕ) → left_since old (moment old) c → IsImageOf (state old).files c) → Elapses (moment old) (moment new) (left_since old) (left_since new) (IsImageOf (state new).files)
    → ((g : ℕ) → (state new).files g ≡ (state old).files g) → LeavesOnly moment left_since old new (IsImageOf (state old).files)
look_run state moment left_since old new only time same =
    goes_on moment left_since old old new (IsImageOf (state old).files) (IsImageOf (state new).files) (started moment left_since old (IsImageOf (state old).files) only) time (λ c image g. subst (λ s. IsImage s (c g)) (same g) (image g))
