-- How what each image of a file is goes on, call by call.
use Rattle.std.specs.Prelude.{◌&&◌, ◌||◌, nat_le, nat_lt, if◌then◌else◌}
use Rattle.std.proofs.Common.{◌≡◌, ◌≢◌, ◌⊎◌, inl, inr, ⊎_elim, ℕ, ◌+◌, ◌<◌, ◌≤◌, ◌==◌, Bool, true, false, List, [], ◌∷◌, ◌++◌, length, get_or, refl, sym, ◌∙◌, ap, subst, arith}
use Rattle.std.proofs.lemmas.Bool.{cases_eq, cond-true, eq-eqb, ne_eqb, le-leb, lt-ltb}
use Rattle.cl_base.specs.Disk.{FileState, DiskState, IsImage, IsImageOf, covers, spot, painted, overwritten, written_file, settled_file, left_by}
use Rattle.cl_base.specs.Images.{IsSound, length-overwritten, get_or-painted, left_is_image, written_sound}
use Rattle.cl_base.specs.Torn.{Torn, torn_image, settled_image, written_is_torn, MayWrite}
use Rattle.cl_base.specs.Through.{TornOnly, IsTornFrom, ThroughLeft}
use Rattle.cl_base.specs.declared.disk.Choice.{Choice}
use Rattle.cl_base.specs.declared.disk.Choice.TheVariants.{Drop, Keep, Fill}
use Rattle.cl_base.specs.Every.{EveryImage, FileIs, takes}
use Rattle.cl_base.specs.Places.{get_or-written_one, torn_overwritten}

module _ (file : ℕ) (P : List ℕ → Type 0) (was : ℕ → FileState) where
  pub every_moment : (files : ℕ → FileState) → EveryImage file P was files → (c : ℕ → List ℕ) → IsImageOf files c → FileIs file P was c
  every_moment files every c image = record {
    this = every.this (c file) (image file);
    others = λ g ne. subst (λ s. IsImage s (c g)) (every.others g ne) (image g);
  }

  pub every_weaker : (Q : List ℕ → Type 0) (files : ℕ → FileState) → ((c : List ℕ) → P c → Q c) → EveryImage file P was files → EveryImage file Q was files
  every_weaker Q files so every = record { this = λ c image. so c (every.this c image); others = every.others }

  -- a write that may be torn
  pub every_written : (Q : List ℕ → Type 0) (at n : ℕ) (old new : ℕ → FileState) → EveryImage file P was old → IsSound (old file) → ((e c : List ℕ) → P e → Torn at n e c → Q c) → MayWrite file at n old new → EveryImage file Q was new
  every_written Q at n old new every sound torn may = record {
    this = λ c image. ⊎_elim
        (λ same. torn c c (every.this c (subst (λ s. IsImage s c) same image)) (record { no_shorter = omega arith; no_longer = omega arith; same = λ i within out. refl }))
        (λ broken. let from = torn_image at n (old file) (new file) broken sound c image in torn from.before c (every.this from.before from.image) from.torn)
        may.this;
    others = λ g ne. may.others g ne ∙ every.others g ne;
  }

  -- a write that is synced at once
  pub every_through : (Q : List ℕ → Type 0) (at n : ℕ) (old new : ℕ → FileState) → EveryImage file P was old → ((e c : List ℕ) → P e → Torn at n e c → Q c) → TornOnly file at n old new → EveryImage file Q was new
  every_through Q at n old new every torn only = record {
    this = λ c image. let from = only.this c image in torn from.before c (every.this from.before from.image) from.torn;
    others = λ g ne. only.others g ne ∙ every.others g ne;
  }

  pub moment_through : (Q : List ℕ → Type 0) (at n : ℕ) (old : ℕ → FileState) → EveryImage file P was old → ((e c : List ℕ) → P e → Torn at n e c → Q c) → (c : ℕ → List ℕ) → IsTornFrom file at n old c → FileIs file Q was c
  moment_through Q at n old every torn c now = record {
    this = torn now.this.before (c file) (every.this now.this.before now.this.image) now.this.torn;
    others = λ g ne. subst (λ s. IsImage s (c g)) (every.others g ne) (now.others g ne);
  }

  -- a settled file has one image
  pub every_settled : (bytes : List ℕ) (files : ℕ → FileState) → files file ≡ settled_file bytes → ((g : ℕ) → g ≢ file → files g ≡ was g) → P bytes → EveryImage file P was files
  every_settled bytes files is others has = record {
    this = λ c image. subst P (sym (settled_image bytes c (subst (λ s. IsImage s c) is image))) has;
    others = others;
  }

or_right : (x y : Bool) → y ≡ true → (x || y) ≡ true
or_right true y e = refl
or_right false y e = e

or_left : (x y : Bool) → x ≡ true → (x || y) ≡ true
or_left true y e = refl
or_left false y e = absurd (cc)

covers_last : (rs : List (ℕ × ℕ)) (a b i : ℕ) → a ≤ i → i < b → covers (rs ++ (a, b) ∷ []) i ≡ true
covers_last [] a b i from below = let e1 = le-leb a i from in let e2 = lt-ltb i b below in cc
covers_last (r ∷ rs) a b i from below = or_right (nat_le r.0 i && nat_lt i r.1) (covers (rs ++ (a, b) ∷ []) i) (covers_last rs a b i from below)

-- one byte that is written last: what comes of it goes by a test of the byte
module _ (V : Type 0) (Is : V → List ℕ → Type 0) (passes : ℕ → Bool) (before after : V) (P : List ℕ → Type 0) (at : ℕ)
    (stays : (e : List ℕ) → P e → Is before e) (flips : (e c : List ℕ) → P e → Torn at 1 e c → Is (if passes (get_or c at 0) then after else before) c) where
  pub either : (c : List ℕ) (b : Bool) → Is (if b then after else before) c → Is before c ⊎ Is after c
  either c true is = inr is
  either c false is = inl is

  pub flips_either : (e c : List ℕ) → P e → Torn at 1 e c → Is before c ⊎ Is after c
  flips_either e c has torn = either c (passes (get_or c at 0)) (flips e c has torn)

  module _ (b : ℕ) (shows : passes b ≡ true) (s : FileState) (sound : IsSound s) (within : at < length s.reads) (every : (c : List ℕ) → IsImage s c → P c) where
    abbrev new_bytes : List ℕ
    new_bytes = overwritten at (b ∷ []) s.reads

    pub wrote_flips : Is after new_bytes
    wrote_flips =
        let is = flips s.reads new_bytes (every s.reads sound.reads) (torn_overwritten at (b ∷ []) s.reads (omega arith)) in
        let byte : passes (get_or new_bytes at 0) ≡ true = ap passes (get_or-written_one at b s.reads (omega arith)) ∙ shows in
        subst (λ v. Is (if v then after else before) new_bytes) byte is

    -- what each choice leaves of it
    pub left_flips : (choice : Choice) → Is (if takes passes choice then after else before) (left_by choice (written_file at (b ∷ []) s))
    left_flips Drop = stays s.synced (every s.synced sound.synced)
    left_flips Keep = wrote_flips
    left_flips (Fill x) =
        let ranges = s.ranges ++ (at, at + 1) ∷ [] in
        let c = painted x ranges (length s.synced) 0 new_bytes in
        let image = left_is_image (Fill x) (written_file at (b ∷ []) s) (written_sound at (b ∷ []) s (omega arith) sound) in
        let from = torn_image at 1 s (written_file at (b ∷ []) s) (written_is_torn at (b ∷ []) s (omega arith)) sound c image in
        let is = flips from.before c (every from.before from.image) from.torn in
        let len = length-overwritten at (b ∷ []) s.reads (omega arith) in
        let here : get_or c at 0 ≡ spot x ranges (length s.synced) at (get_or new_bytes at 0) = get_or-painted x ranges (length s.synced) 0 new_bytes at at (omega (arith, len)) (omega arith) in
        let inside : (covers ranges at || nat_le (length s.synced) at) ≡ true = or_left (covers ranges at) (nat_le (length s.synced) at) (covers_last s.ranges at (at + 1) at (omega arith) (omega arith)) in
        let byte : get_or c at 0 ≡ x = here ∙ cond-true (covers ranges at || nat_le (length s.synced) at) x (get_or new_bytes at 0) inside in
        subst (λ v. Is (if passes v then after else before) c) byte is

    -- what a fuse leaves of such a write and its sync
    pub through_left : (file : ℕ) (was : ℕ → FileState) (left : DiskState) (k : ℕ) → was file ≡ s → k < 2 → ThroughLeft file at (b ∷ []) was left k
        → (choice : Choice) → Is (if (k == 1) && takes passes choice then after else before) (left_by choice (left.files file))
    through_left file was left k is few fuse choice = elim (cases_eq k 1) [
      | inl one ↦
          let now : left.files file ≡ written_file at (b ∷ []) s = fuse.sync one ∙ ap (written_file at (b ∷ [])) is in
          subst (λ v. Is (if v && takes passes choice then after else before) (left_by choice (left.files file))) (sym (eq-eqb k 1 one))
          (subst (λ f. Is (if takes passes choice then after else before) (left_by choice f)) (sym now) (left_flips choice))
      | inr ne ↦
          let none : k ≡ 0 = omega arith in
          let now : left.files file ≡ s = fuse.write none ∙ is in
          subst (λ v. Is (if v && takes passes choice then after else before) (left_by choice (left.files file))) (sym (ne_eqb k 1 ne))
          (subst (λ f. Is before (left_by choice f)) (sym now) (stays (left_by choice s) (every (left_by choice s) (left_is_image choice s sound))))
    ]
