-- A write behind a gate: bytes before and behind one byte, the gate, that is opened last.
use Rattle.std.specs.Prelude.{◌≡◌, ◌≢◌, ◌⊎◌, ℕ, ◌+◌, ◌<◌, ◌≤◌, max, Bool, true, false, ◌==◌, ◌&&◌, if◌then◌else◌, List, [], ◌∷◌, length}
use Rattle.std.proofs.Common.{inl, inr, ⊎_elim, get_or, refl, sym, ◌∙◌, subst, arith}
use Rattle.std.proofs.lemmas.Bool.{cases_eq, eq-eqb, ne_eqb}
use Rattle.cl_base.specs.Disk.{FileState, DiskState, IsImage, overwritten, written_file, settled_file, left_by}
use Rattle.cl_base.specs.Images.{settled_sound}
use Rattle.cl_base.specs.Torn.{Torn, settled_image}
use Rattle.cl_base.specs.Runs.{ComesFrom, TornBoth}
use Rattle.cl_base.specs.Every.{EveryImage, FileIs, takes}
use Rattle.cl_base.specs.EveryRun.{left_flips}
use Rattle.cl_base.specs.declared.disk.Choice.{Choice}
use Rattle.cl_base.specs.declared.disk.Choice.TheVariants.{Keep}

-- the value of an open gate
abbrev pub open_byte : ℕ
open_byte = 90

abbrev pub is_open_byte : ℕ → Bool
is_open_byte byte = byte == 90

-- after two writes that a crash cuts short: any bytes in the two ranges and past the old end, the same elsewhere
pub record TornTwice (at n place m : ℕ) (old new : List ℕ) : Type 0 where
  pub no_shorter : length old ≤ length new
  pub no_longer : length new ≤ max (max (length old) (at + n)) (place + m)
  pub same : (i : ℕ) → i < length old → i < at ⊎ at + n ≤ i → i < place ⊎ place + m ≤ i → get_or new i 0 ≡ get_or old i 0

pub record FromTwice (at n place m : ℕ) (old : FileState) (c : List ℕ) : Type 0 where
  pub before : List ℕ
  pub image : IsImage old before
  pub torn : TornTwice at n place m before c

-- the file with the bytes before the gate and behind it
abbrev pub shut : ℕ → List ℕ → ℕ → List ℕ → List ℕ → List ℕ
shut at head gate tail file = overwritten (gate + 1) tail (overwritten at head file)

-- Each image on the way: one from before with the bytes before and behind the gate torn, or all of them with the gate
-- torn.
abbrev pub GatedImage : ℕ → List ℕ → ℕ → List ℕ → FileState → List ℕ → Type 0
GatedImage at head gate tail old c = FromTwice at (length head) (gate + 1) (length tail) old c ⊎ Torn gate 1 (shut at head gate tail old.reads) c

-- what a fuse leaves: up to the last sync but one an image of before with the bytes torn, then the gate written
pub record GatedLeft (file at : ℕ) (head : List ℕ) (gate : ℕ) (tail : List ℕ) (old : FileState) (left : DiskState) (k : ℕ) : Type 0 where
  pub few : k < 4 → (choice : Choice) → FromTwice at (length head) (gate + 1) (length tail) old (left_by choice (left.files file))
  pub last : k ≡ 4 → left.files file ≡ written_file gate (open_byte ∷ []) (settled_file (shut at head gate tail old.reads))

pub twice_none : (at n place m : ℕ) (c : List ℕ) → TornTwice at n place m c c
twice_none at n place m c = record { no_shorter = omega arith; no_longer = omega arith; same = λ i within out far. refl }

pub twice_first : (at n place m : ℕ) (e c : List ℕ) → Torn at n e c → TornTwice at n place m e c
twice_first at n place m e c torn = record { no_shorter = torn.no_shorter; no_longer = omega (arith, torn.no_longer); same = λ i within out far. torn.same i within out }

pub twice_second : (at n place m : ℕ) (e d c : List ℕ) → TornTwice at n place m e d → Torn place m d c → TornTwice at n place m e c
twice_second at n place m e d c one two = record {
  no_shorter = omega (arith, one.no_shorter, two.no_shorter);
  no_longer = omega (arith, one.no_longer, two.no_longer);
  same = λ i within out far. two.same i (omega (arith, one.no_shorter)) far ∙ one.same i within out far;
}

-- what a byte test makes of a file
abbrev pub IsOne : (List ℕ → Type 0) → (List ℕ → Type 0) → Bool → List ℕ → Type 0
IsOne before after false c = before c
IsOne before after true c = after c

-- What is said of the file before, and after it, and why: torn bytes before and behind the gate take nothing away, and
-- once they are all there the gate's byte decides.
module _ (before after : List ℕ → Type 0) (file at : ℕ) (head : List ℕ) (gate : ℕ) (tail : List ℕ) (was : ℕ → FileState)
    (keeps : (e c : List ℕ) → before e → TornTwice at (length head) (gate + 1) (length tail) e c → before c)
    (flips : (c : List ℕ) → Torn gate 1 (shut at head gate tail (was file).reads) c → IsOne before after (is_open_byte (get_or c gate 0)) c)
    (every : EveryImage file before was was) where
  abbrev Either : List ℕ → Type 0
  Either c = before c ⊎ after c

  abbrev all_bytes : List ℕ
  all_bytes = shut at head gate tail (was file).reads

  one_of : (b : Bool) (c : List ℕ) → IsOne before after b c → Either c
  one_of false c is = inl is
  one_of true c is = inr is

  pub gated_image : (c : List ℕ) → GatedImage at head gate tail (was file) c → Either c
  gated_image c image = ⊎_elim (λ from. inl (keeps from.before c (every.this from.before from.image) from.torn)) (λ torn. one_of (is_open_byte (get_or c gate 0)) c (flips c torn)) image

  pub gated_each : (files : ℕ → FileState) → EveryImage file (GatedImage at head gate tail (was file)) was files → EveryImage file Either was files
  gated_each files each = record { this = λ c image. gated_image c (each.this c image); others = each.others }

  pub gated_run : (c : ℕ → List ℕ) → FileIs file (GatedImage at head gate tail (was file)) was c → FileIs file Either was c
  gated_run c now = record { this = gated_image (c file) now.this; others = now.others }

  as_flip : (e c : List ℕ) → e ≡ all_bytes → Torn gate 1 e c → IsOne before after (if is_open_byte (get_or c gate 0) then true else false) c
  as_flip e c is torn = go (is_open_byte (get_or c gate 0)) c (flips c (subst (λ l. Torn gate 1 l c) is torn))
    where
      go : (b : Bool) (c : List ℕ) → IsOne before after b c → IsOne before after (if b then true else false) c
      go true c is = is
      go false c is = is

  module _ (shut_before : before all_bytes) (within : gate < length all_bytes) where
    pub gated_after : after (overwritten gate (open_byte ∷ []) all_bytes)
    gated_after = left_flips Bool (IsOne before after) is_open_byte false true (λ e. e ≡ all_bytes) gate (λ e is. subst before (sym is) shut_before) as_flip open_byte refl (settled_file all_bytes) (settled_sound all_bytes) within (λ c image. settled_image all_bytes c image) Keep

    pub gated_fuse : (left : DiskState) (k : ℕ) → k < 5 → GatedLeft file at head gate tail (was file) left k → (choice : Choice) → IsOne before after ((k == 4) && takes is_open_byte choice) (left_by choice (left.files file))
    gated_fuse left k small is choice = elim (cases_eq k 4) [
      | inl last ↦
          let flip = left_flips Bool (IsOne before after) is_open_byte false true (λ e. e ≡ all_bytes) gate (λ e same. subst before (sym same) shut_before) as_flip open_byte refl (settled_file all_bytes) (settled_sound all_bytes) within (λ c image. settled_image all_bytes c image) choice in
          let now = go (takes is_open_byte choice) (left_by choice (written_file gate (open_byte ∷ []) (settled_file all_bytes))) flip in
          subst (λ b. IsOne before after (b && takes is_open_byte choice) (left_by choice (left.files file))) (sym (eq-eqb k 4 last))
          (subst (λ s. IsOne before after (takes is_open_byte choice) (left_by choice s)) (sym (is.last last)) now)
      | inr ne ↦
          let from = is.few (omega arith) choice in
          subst (λ b. IsOne before after (b && takes is_open_byte choice) (left_by choice (left.files file))) (sym (ne_eqb k 4 ne))
          (keeps from.before (left_by choice (left.files file)) (every.this from.before from.image) from.torn)
    ]
      where
        go : (b : Bool) (c : List ℕ) → IsOne before after (if b then true else false) c → IsOne before after b c
        go true c is = is
        go false c is = is

-- ---- a gate in one file, behind which another file goes on

-- all the bytes are there but for the gate, which is torn: file a has `head` before its gate, file b begins with `bytes`
pub record GateTorn (a at : ℕ) (head : List ℕ) (gate b : ℕ) (bytes : List ℕ) (files : ℕ → FileState) (c : ℕ → List ℕ) : Type 0 where
  pub first : Torn gate 1 (overwritten at head (files a).reads) (c a)
  pub second : c b ≡ overwritten 0 bytes (files b).reads
  pub others : (g : ℕ) → g ≢ a → g ≢ b → IsImage (files g) (c g)

-- Each image on the way: one from before with the bytes torn in both files, or all of them with the gate torn.
abbrev pub LedImage : ℕ → ℕ → List ℕ → ℕ → ℕ → List ℕ → (ℕ → FileState) → (ℕ → List ℕ) → Type 0
LedImage a at head gate b bytes files c = ComesFrom (TornBoth a at (length head) b 0 (length bytes)) files c ⊎ GateTorn a at head gate b bytes files c

-- what a fuse leaves: up to the last sync but one an image of before with the bytes torn, then the gate written
pub record LedLeft (a at : ℕ) (head : List ℕ) (gate b : ℕ) (bytes : List ℕ) (files : ℕ → FileState) (left : DiskState) (k : ℕ) : Type 0 where
  pub few : k < 5 → (choice : Choice) → ComesFrom (TornBoth a at (length head) b 0 (length bytes)) files (λ f. left_by choice (left.files f))
  pub first : k ≡ 5 → left.files a ≡ written_file gate (open_byte ∷ []) (settled_file (overwritten at head (files a).reads))
  pub second : k ≡ 5 → left.files b ≡ settled_file (overwritten 0 bytes (files b).reads)
