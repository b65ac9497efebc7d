-- The files of snapshots through changes of other files.
use Rattle.std.proofs.Common.{◌≡◌, ◌≢◌, ◌⊎◌, inr, ℕ, ◌+◌, ◌<◌, ◌≤◌, List, IsTrue, refl, ◌∙◌, subst, arith}
use Rattle.cl_base.specs.Disk.{FileState, DiskState, IsImage, OthersStay, LeavesOnly}
use Rattle.cl_base.specs.Every.{FileIs}
use Rattle.cl_base.specs.Torn.{started, run_after, weaker}
use Rattle.cl_base.specs.Runs.{DiskLaws}
use Rattle.log_segment.specs.Whole.{IsApart}
use Rattle.member_disk.specs.CutWell.{KeepsSnapshots, Spares, no_file, file_of}

module _ {D : Type 0} (L : DiskLaws D) (changes : ℕ → Type 0) where
  pub spares_none : (old : D) → IsTrue (L.is_honest old) → Spares L.state L.moment L.left_since changes old old
  spares_none old honest = record {
    files = λ g far ne. refl;
    run = started L.moment L.left_since old (KeepsSnapshots changes (L.state old).files) (λ c left. λ g far ne. L.only_now old c honest left g);
  }

  pub spares_after : (old mid new : D) → Spares L.state L.moment L.left_since changes old mid → Spares L.state L.moment L.left_since changes mid new → Spares L.state L.moment L.left_since changes old new
  spares_after old mid new first second = record {
    files = λ g far ne. second.files g far ne ∙ first.files g far ne;
    run = run_after L.moment L.left_since old mid new (KeepsSnapshots changes (L.state old).files) first.run
        (weaker L.moment L.left_since mid new (KeepsSnapshots changes (L.state mid).files) (KeepsSnapshots changes (L.state old).files) (λ c is. λ g far ne. subst (λ s. IsImage s (c g)) (first.files g far ne) (is g far ne)) second.run);
  }

  -- a change of one file
  pub spares_file : (f : ℕ) (P : List ℕ → Type 0) (old new : D) → ((g : ℕ) → 258 ≤ g → (changes g → ⊥) → g ≢ f) → OthersStay f (L.state old).files (L.state new).files → LeavesOnly L.moment L.left_since old new (FileIs f P (L.state old).files)
      → Spares L.state L.moment L.left_since changes old new
  spares_file f P old new other others run = record {
    files = λ g far ne. others g (other g far ne);
    run = weaker L.moment L.left_since old new (FileIs f P (L.state old).files) (KeepsSnapshots changes (L.state old).files) (λ c is. λ g far ne. is.others g (other g far ne)) run;
  }

  -- a change of the segments
  pub spares_log : (old new : D) → ((g : ℕ) → g < 2 ⊎ 258 ≤ g → (L.state new).files g ≡ (L.state old).files g) → LeavesOnly L.moment L.left_since old new (IsApart (L.state old).files) → Spares L.state L.moment L.left_since changes old new
  spares_log old new others run = record {
    files = λ g far ne. others g (inr far);
    run = weaker L.moment L.left_since old new (IsApart (L.state old).files) (KeepsSnapshots changes (L.state old).files) (λ c is. λ g far ne. is g (inr far)) run;
  }

pub front_file : (changes : ℕ → Type 0) (f : ℕ) → f < 258 → (g : ℕ) → 258 ≤ g → (changes g → ⊥) → g ≢ f
front_file changes f low g far ne is = absurd (omega (arith, far, is, low))

-- where no file changes these don't
pub spares_more : {D : Type 0} (L : DiskLaws D) (changes : ℕ → Type 0) (old new : D) → Spares L.state L.moment L.left_since no_file old new → Spares L.state L.moment L.left_since changes old new
spares_more L changes old new spares = record {
  files = λ g far ne. spares.files g far (λ none. none);
  run = weaker L.moment L.left_since old new (KeepsSnapshots no_file (L.state old).files) (KeepsSnapshots changes (L.state old).files) (λ c is. λ g far ne. is g far (λ none. none)) spares.run;
}
