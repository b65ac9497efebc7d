-- How what each image of a whole disk is goes on, call by call, over several files.
use Rattle.std.specs.Prelude.{◌≡◌, ◌≢◌, ℕ, ◌==◌, ◌≤◌, Bool, IsTrue, if◌then◌else◌, List, length, Result, refl}
use Rattle.std.proofs.Common.{inl, inr, ⊎_elim, sym, ◌∙◌, subst, arith}
use Rattle.std.proofs.lemmas.Bool.{cases_eq, cond-true, cond-false, eq-eqb, ne_eqb}
use Rattle.cl_base.specs.Disk.{FileState, DiskState, IsImage, IsImageOf, written_file, cut_file, synced_file, settled_file, IsTornWrite, IsTornCut, ChangeGives, Elapses, LeavesOnly}
use Rattle.cl_base.specs.Images.{IsSound}
use Rattle.cl_base.specs.Torn.{Torn, CutShort, torn_image, cut_image, settled_image, MayWrite, MayCut, MaySync, write_may, cut_may, sync_may, started, goes_on, run_after, weaker}
use Rattle.cl_base.specs.Through.{IsTornFrom, TornOnly, torn_each}
use Rattle.cl_base.specs.declared.fault.Trouble.{Trouble}

-- each image of the disk has P
abbrev pub EachImage : ((ℕ → List ℕ) → Type 0) → (ℕ → FileState) → Type 0
EachImage P files = (c : ℕ → List ℕ) → IsImageOf files c → P c

-- an image with these bytes for file f
abbrev pub with_file : ℕ → List ℕ → (ℕ → List ℕ) → ℕ → List ℕ
with_file f bytes c g = if g == f then bytes else c g

-- image c is image e with a write of n bytes at a place of file f that a crash cuts short
pub record TornIn (f at n : ℕ) (e c : ℕ → List ℕ) : Type 0 where
  pub this : Torn at n (e f) (c f)
  pub others : (g : ℕ) → g ≢ f → c g ≡ e g

-- image c is image e with a cut of file f to n bytes that a crash cuts short
pub record CutIn (f n : ℕ) (e c : ℕ → List ℕ) : Type 0 where
  pub this : CutShort n (e f) (c f)
  pub others : (g : ℕ) → g ≢ f → c g ≡ e g

-- image c comes from an image of before, as R says
pub record ComesFrom (R : (ℕ → List ℕ) → (ℕ → List ℕ) → Type 0) (files : ℕ → FileState) (c : ℕ → List ℕ) : Type 0 where
  pub before : ℕ → List ℕ
  pub image : IsImageOf files before
  pub so : R before c

pub with_this : (f : ℕ) (bytes : List ℕ) (c : ℕ → List ℕ) → with_file f bytes c f ≡ bytes
with_this f bytes c = cond-true (f == f) bytes (c f) (eq-eqb f f refl)

pub with_other : (f : ℕ) (bytes : List ℕ) (c : ℕ → List ℕ) (g : ℕ) → g ≢ f → with_file f bytes c g ≡ c g
with_other f bytes c g ne = cond-false (g == f) bytes (c g) (ne_eqb g f ne)

-- an image of one file among images of the others
pub image_with : (files : ℕ → FileState) (f : ℕ) (bytes : List ℕ) (c : ℕ → List ℕ) → IsImage (files f) bytes → ((g : ℕ) → g ≢ f → IsImage (files g) (c g)) → IsImageOf files (with_file f bytes c)
image_with files f bytes c this others g = elim (cases_eq g f) [
  | inl is ↦ subst (IsImage (files g)) (sym (cond-true (g == f) bytes (c g) (eq-eqb g f is))) (subst (λ h. IsImage (files h) bytes) (sym is) this)
  | inr ne ↦ subst (IsImage (files g)) (sym (with_other f bytes c g ne)) (others g ne)
]

-- each image after a write, done or cut short, is one from before with the range torn
pub whole_torn : (f at n : ℕ) (old new : ℕ → FileState) → MayWrite f at n old new → IsSound (old f) → (c : ℕ → List ℕ) → IsImageOf new c → ComesFrom (TornIn f at n) old c
whole_torn f at n old new may sound c image =
    let others : (g : ℕ) → g ≢ f → IsImage (old g) (c g) = λ g ne. subst (λ s. IsImage s (c g)) (may.others g ne) (image g) in
    ⊎_elim
    (λ same. record {
      before = c;
      image = λ g. elim (cases_eq g f) [
        | inl is ↦ subst (λ h. IsImage (old h) (c h)) (sym is) (subst (λ s. IsImage s (c f)) same (image f))
        | inr ne ↦ others g ne
      ];
      so = record { this = record { no_shorter = omega arith; no_longer = omega arith; same = λ i within out. refl }; others = λ g ne. refl };
    })
    (λ torn.
    let from = torn_image at n (old f) (new f) torn sound (c f) (image f) in
    record {
      before = with_file f from.before c;
      image = image_with old f from.before c from.image others;
      so = record { this = subst (λ b. Torn at n b (c f)) (sym (with_this f from.before c)) from.torn; others = λ g ne. sym (with_other f from.before c g ne) };
    })
    may.this

pub whole_cut : (f n : ℕ) (old new : ℕ → FileState) → MayCut f n old new → IsSound (old f) → (c : ℕ → List ℕ) → IsImageOf new c → ComesFrom (CutIn f n) old c
whole_cut f n old new may sound c image =
    let others : (g : ℕ) → g ≢ f → IsImage (old g) (c g) = λ g ne. subst (λ s. IsImage s (c g)) (may.others g ne) (image g) in
    ⊎_elim
    (λ same. record {
      before = c;
      image = λ g. elim (cases_eq g f) [
        | inl is ↦ subst (λ h. IsImage (old h) (c h)) (sym is) (subst (λ s. IsImage s (c f)) same (image f))
        | inr ne ↦ others g ne
      ];
      so = record { this = record { no_longer = omega arith; no_shorter = omega arith; same = λ i within below. refl }; others = λ g ne. refl };
    })
    (λ torn.
    let from = cut_image n (old f) (new f) torn sound (c f) (image f) in
    record {
      before = with_file f from.before c;
      image = image_with old f from.before c from.image others;
      so = record { this = subst (λ b. CutShort n b (c f)) (sym (with_this f from.before c)) from.cut; others = λ g ne. sym (with_other f from.before c g ne) };
    })
    may.this

-- each image after a sync is one from before
pub whole_synced : (f : ℕ) (old new : ℕ → FileState) → MaySync f old new → IsSound (old f) → (c : ℕ → List ℕ) → IsImageOf new c → IsImageOf old c
whole_synced f old new may sound c image g = elim (cases_eq g f) [
  | inl is ↦ subst (λ h. IsImage (old h) (c h)) (sym is) (⊎_elim
      (λ same. subst (λ s. IsImage s (c f)) same (image f))
      (λ synced. subst (IsImage (old f)) (sym (settled_image (old f).reads (c f) (subst (λ s. IsImage s (c f)) synced (image f)))) sound.reads)
      may.this)
  | inr ne ↦ subst (λ s. IsImage s (c g)) (may.others g ne) (image g)
]

-- a settled file has one image
pub whole_settled : (f : ℕ) (bytes : List ℕ) (files : ℕ → FileState) → files f ≡ settled_file bytes → (c : ℕ → List ℕ) → IsImageOf files c → c f ≡ bytes
whole_settled f bytes files is c image = settled_image bytes (c f) (subst (λ s. IsImage s (c f)) is (image f))

-- what a write that is synced at once leaves, of a whole image
pub from_through : (f at n : ℕ) (files : ℕ → FileState) (c : ℕ → List ℕ) → IsTornFrom f at n files c → ComesFrom (TornIn f at n) files c
from_through f at n files c now = record {
  before = with_file f now.this.before c;
  image = image_with files f now.this.before c now.this.image now.others;
  so = record { this = subst (λ b. Torn at n b (c f)) (sym (with_this f now.this.before c)) now.this.torn; others = λ g ne. sym (with_other f now.this.before c g ne) };
}

-- image c is image e with a write in each of two files that a crash cuts short
pub record TornBoth (a at n b place m : ℕ) (e c : ℕ → List ℕ) : Type 0 where
  pub first : Torn at n (e a) (c a)
  pub second : Torn place m (e b) (c b)
  pub others : (g : ℕ) → g ≢ a → g ≢ b → c g ≡ e g

pub torn_not : (at n : ℕ) (e c : List ℕ) → c ≡ e → Torn at n e c
torn_not at n e c same = subst (λ l. Torn at n e l) (sym same) (record { no_shorter = omega arith; no_longer = omega arith; same = λ i within out. refl })

module _ (a at n b place m : ℕ) (differ : b ≢ a) where
  apart_too : a ≢ b
  apart_too is = differ (sym is)

  pub both_none : (c : ℕ → List ℕ) → TornBoth a at n b place m c c
  both_none c = record { first = torn_not at n (c a) (c a) refl; second = torn_not place m (c b) (c b) refl; others = λ g ne other. refl }

  pub both_first : (e c : ℕ → List ℕ) → TornIn a at n e c → TornBoth a at n b place m e c
  both_first e c torn = record { first = torn.this; second = torn_not place m (e b) (c b) (torn.others b differ); others = λ g ne other. torn.others g ne }

  pub both_second : (e d c : ℕ → List ℕ) → TornIn a at n e d → TornIn b place m d c → TornBoth a at n b place m e c
  both_second e d c one two = record {
    first = subst (λ l. Torn at n (e a) l) (sym (two.others a apart_too)) one.this;
    second = subst (λ l. Torn place m l (c b)) (one.others b differ) two.this;
    others = λ g ne other. two.others g other ∙ one.others g ne;
  }

-- What the trait promises of a disk, in one record for lemmas. (`laws_of` in an answer makes it from the trait.)
pub record DiskLaws (D : Type 0) : Type 1 where
  pub state : D → DiskState
  pub is_honest : D → Bool
  pub tells : D → Bool
  pub moment : D → ℕ
  pub left_since : D → ℕ → (ℕ → List ℕ) → Type 0
  pub reads : (d : D) (f : ℕ) → IsTrue (is_honest d) → IsImage ((state d).files f) ((state d).files f).reads
  pub synced : (d : D) (f : ℕ) → IsTrue (is_honest d) → IsImage ((state d).files f) ((state d).files f).synced
  pub honest_tells : (d : D) → IsTrue (is_honest d) → IsTrue (tells d)
  pub only_now : (d : D) (c : ℕ → List ℕ) → IsTrue (is_honest d) → left_since d (moment d) c → IsImageOf (state d).files c

module _ {D : Type 0} (L : DiskLaws D) (old : D) (Q : (ℕ → List ℕ) → Type 0) where
  abbrev files : D → ℕ → FileState
  files d = (L.state d).files

  pub sound_at : (d : D) (f : ℕ) → IsTrue (L.is_honest d) → IsSound (files d f)
  sound_at d f honest = record { reads = L.reads d f honest; synced = L.synced d f honest }

  -- How far a run of calls has come: each image at any moment so far has Q, and each image now has P.
  pub record Reached (P : (ℕ → List ℕ) → Type 0) (mid : D) : Type 0 where
    pub honest : IsTrue (L.is_honest mid)
    pub each : EachImage P (files mid)
    pub run : LeavesOnly L.moment L.left_since old mid Q

  pub start : (P : (ℕ → List ℕ) → Type 0) → IsTrue (L.is_honest old) → EachImage P (files old) → ((c : ℕ → List ℕ) → P c → Q c) → Reached P old
  start P honest each so = record {
    honest = honest;
    each = each;
    run = started L.moment L.left_since old Q (λ c left. so c (each c (L.only_now old c honest left)));
  }

  -- what is weaker was reached too
  pub less_said : (P P2 : (ℕ → List ℕ) → Type 0) (mid : D) → ((c : ℕ → List ℕ) → P c → P2 c) → Reached P mid → Reached P2 mid
  less_said P P2 mid so far = record { honest = far.honest; each = λ c image. so c (far.each c image); run = far.run }

  reach : (P : (ℕ → List ℕ) → Type 0) (mid new : D) → IsTrue (L.is_honest mid) → LeavesOnly L.moment L.left_since old mid Q → L.is_honest new ≡ L.is_honest mid → EachImage P (files new) → ((c : ℕ → List ℕ) → P c → Q c)
      → (IsTrue (L.is_honest mid) → Elapses (L.moment mid) (L.moment new) (L.left_since mid) (L.left_since new) (IsImageOf (files new))) → Reached P new
  reach P mid new honest run same each so time = record {
    honest = subst IsTrue (sym same) honest;
    each = each;
    run = goes_on L.moment L.left_since old mid new Q (IsImageOf (files new)) run (time honest) (λ c image. so c (each c image));
  }

  pub wrote : {T : Type 0} (P P2 : (ℕ → List ℕ) → Type 0) (f at : ℕ) (bytes : List ℕ) (mid new : D) (result : Result T Trouble) → Reached P mid → L.is_honest new ≡ L.is_honest mid
      → at ≤ length (files mid f).reads
      → (IsTrue (L.tells mid) → ChangeGives f (written_file at bytes) (IsTornWrite at (length bytes)) (L.state mid) (L.state new) result)
      → (IsTrue (L.is_honest mid) → Elapses (L.moment mid) (L.moment new) (L.left_since mid) (L.left_since new) (IsImageOf (files new)))
      → ((e c : ℕ → List ℕ) → P e → TornIn f at (length bytes) e c → P2 c) → ((c : ℕ → List ℕ) → P2 c → Q c) → Reached P2 new
  wrote P P2 f at bytes mid new result far same fits gives time torn so =
      let may = write_may f at bytes (L.state mid) (L.state new) result fits (gives (L.honest_tells mid far.honest)) in
      reach P2 mid new far.honest far.run same
      (λ c image. let from = whole_torn f at (length bytes) (files mid) (files new) may (sound_at mid f far.honest) c image in torn from.before c (far.each from.before from.image) from.so) so time

  pub was_cut : {T : Type 0} (P P2 : (ℕ → List ℕ) → Type 0) (f n : ℕ) (mid new : D) (result : Result T Trouble) → Reached P mid → L.is_honest new ≡ L.is_honest mid
      → n ≤ length (files mid f).reads
      → (IsTrue (L.tells mid) → ChangeGives f (cut_file n) (IsTornCut n) (L.state mid) (L.state new) result)
      → (IsTrue (L.is_honest mid) → Elapses (L.moment mid) (L.moment new) (L.left_since mid) (L.left_since new) (IsImageOf (files new)))
      → ((e c : ℕ → List ℕ) → P e → CutIn f n e c → P2 c) → ((c : ℕ → List ℕ) → P2 c → Q c) → Reached P2 new
  was_cut P P2 f n mid new result far same fits gives time cut so =
      let may = cut_may f n (L.state mid) (L.state new) result fits (gives (L.honest_tells mid far.honest)) in
      reach P2 mid new far.honest far.run same
      (λ c image. let from = whole_cut f n (files mid) (files new) may (sound_at mid f far.honest) c image in cut from.before c (far.each from.before from.image) from.so) so time

  pub was_synced : {T : Type 0} (P : (ℕ → List ℕ) → Type 0) (f : ℕ) (mid new : D) (result : Result T Trouble) → Reached P mid → L.is_honest new ≡ L.is_honest mid
      → (IsTrue (L.tells mid) → ChangeGives f synced_file (λ was now. now ≡ was) (L.state mid) (L.state new) result)
      → (IsTrue (L.is_honest mid) → Elapses (L.moment mid) (L.moment new) (L.left_since mid) (L.left_since new) (IsImageOf (files new)))
      → ((c : ℕ → List ℕ) → P c → Q c) → Reached P new
  was_synced P f mid new result far same gives time so =
      let may = sync_may f (L.state mid) (L.state new) result (gives (L.honest_tells mid far.honest)) in
      reach P mid new far.honest far.run same
      (λ c image. far.each c (whole_synced f (files mid) (files new) may (sound_at mid f far.honest) c image)) so time

  -- a file that is settled has one image
  pub known : (P : (ℕ → List ℕ) → Type 0) (f : ℕ) (bytes : List ℕ) (mid : D) → Reached P mid → files mid f ≡ settled_file bytes → Reached (λ c. P c × (c f ≡ bytes)) mid
  known P f bytes mid far is = record { honest = far.honest; each = λ c image. (far.each c image, whole_settled f bytes (files mid) is c image); run = far.run }

  -- calls that say themselves what each image is, at any moment and after them
  pub went : (P P2 R : (ℕ → List ℕ) → Type 0) (mid new : D) → Reached P mid → L.is_honest new ≡ L.is_honest mid → EachImage P2 (files new) → LeavesOnly L.moment L.left_since mid new R → ((c : ℕ → List ℕ) → R c → Q c) → Reached P2 new
  went P P2 R mid new far same each run so = record {
    honest = subst IsTrue (sym same) far.honest;
    each = each;
    run = run_after L.moment L.left_since old mid new Q far.run (weaker L.moment L.left_since mid new R Q so run);
  }

  -- a write that is synced at once
  pub through : (P P2 : (ℕ → List ℕ) → Type 0) (f at n : ℕ) (mid new : D) → Reached P mid → L.is_honest new ≡ L.is_honest mid → TornOnly f at n (files mid) (files new) → LeavesOnly L.moment L.left_since mid new (IsTornFrom f at n (files mid))
      → ((e c : ℕ → List ℕ) → P e → TornIn f at n e c → P2 c) → ((c : ℕ → List ℕ) → P2 c → Q c) → Reached P2 new
  through P P2 f at n mid new far same only run torn so =
      let each : (c : ℕ → List ℕ) → IsTornFrom f at n (files mid) c → P2 c = λ c now. let from = from_through f at n (files mid) c now in torn from.before c (far.each from.before from.image) from.so in
      went P P2 (IsTornFrom f at n (files mid)) mid new far same (λ c image. each c (torn_each f at n (files mid) (files new) only c image)) run (λ c now. so c (each c now))
