-- What the calls of a disk do to a file's images.
use Rattle.std.specs.Prelude.{◌≡◌, ◌⊎◌, ℕ, ◌+◌, ◌-◌, ◌<◌, ◌≤◌, max, Bool, false, ◌||◌, nat_le, nat_lt, List, [], ◌∷◌, ◌++◌, length, take, drop, refl, zero, suc}
use Rattle.std.proofs.Common.{inl, inr, ◌∙◌, ap, get_or, arith, length-append, length-take, length-drop}
use Rattle.std.proofs.lemmas.Bool.{or_parts, and_cases, leb-false, ltb-false, lt-leb, cond-false, or_from}
use Rattle.std.proofs.lemmas.List.{get_or_append_left, get_or-append_right, get_or-take, get_or-drop}
use Rattle.cl_base.specs.declared.disk.Choice.{Choice}
use Rattle.cl_base.specs.declared.disk.Choice.TheVariants.{Drop, Keep, Fill}
use Rattle.cl_base.specs.Disk.{FileState, covers, IsImage, overwritten, written_file, cut_file, settled_file, painted, spot, left_by}

-- a place in none of the ranges, and not in the last one
pub covers-push : (rs : List (ℕ × ℕ)) (a b i : ℕ) → covers (rs ++ (a, b) ∷ []) i ≡ false → (covers rs i ≡ false) × (i < a ⊎ b ≤ i)
covers-push [] a b i h = (refl, apart (and_cases _ _ (or_parts _ _ h).0))
  where
    apart : (nat_le a i ≡ false) ⊎ (nat_lt i b ≡ false) → i < a ⊎ b ≤ i
    apart (inl e) = inl (leb-false a i e)
    apart (inr e) = inr (ltb-false i b e)
covers-push (r ∷ rs) a b i h =
    let parts = or_parts _ _ h in
    let rest = covers-push rs a b i parts.1 in
    (or_both parts.0 rest.0, rest.1)
  where
    or_both : {x y : Bool} → x ≡ false → y ≡ false → (x || y) ≡ false
    or_both e f = cc

pub length-overwritten : (at : ℕ) (bytes file : List ℕ) → at ≤ length file → length (overwritten at bytes file) ≡ max (length file) (at + length bytes)
length-overwritten at bytes file le = omega (arith, length-append (take at file ++ bytes) (drop (at + length bytes) file), length-append (take at file) bytes, length-take at file, length-drop (at + length bytes) file)

pub overwritten_other : (at : ℕ) (bytes file : List ℕ) (i : ℕ) → at ≤ length file → i < at ⊎ at + length bytes ≤ i → get_or (overwritten at bytes file) i 0 ≡ get_or file i 0
overwritten_other at bytes file i le (inl below) =
    let len : length (take at file) ≡ at = omega (arith, length-take at file) in
    get_or_append_left (take at file ++ bytes) (drop (at + length bytes) file) 0 i (omega (arith, length-append (take at file) bytes, len))
    ∙ get_or_append_left (take at file) bytes 0 i (omega (arith, len))
    ∙ get_or-take at file i 0 below
overwritten_other at bytes file i le (inr above) =
    let len : length (take at file ++ bytes) ≡ at + length bytes = omega (arith, length-append (take at file) bytes, length-take at file) in
    get_or-append_right (take at file ++ bytes) (drop (at + length bytes) file) (at + length bytes) i 0 len above
    ∙ get_or-drop (at + length bytes) file (i - (at + length bytes)) 0
    ∙ ap (λ k. get_or file k 0) (omega arith)

pub record IsSound (s : FileState) : Type 0 where
  pub reads : IsImage s s.reads
  pub synced : IsImage s s.synced

pub settled_sound : (bytes : List ℕ) → IsSound (settled_file bytes)
settled_sound bytes = record {
  reads = record { no_shorter = omega arith; no_longer = omega arith; outside = λ i l m u. refl };
  synced = record { no_shorter = omega arith; no_longer = omega arith; outside = λ i l m u. refl };
}

pub written_sound : (at : ℕ) (bytes : List ℕ) (s : FileState) → at ≤ length s.reads → IsSound s → IsSound (written_file at bytes s)
written_sound at bytes s le ok =
    let len = length-overwritten at bytes s.reads le in
    record {
      reads = record {
        no_shorter = omega (arith, len, ok.reads.no_shorter);
        no_longer = omega (arith, len, ok.reads.no_longer);
        outside = λ i in_synced within free.
            let apart = covers-push s.ranges at (at + length bytes) i free in
            let in_old : i < length s.reads = omega (arith, len, apart.1) in
            overwritten_other at bytes s.reads i le apart.1 ∙ ok.reads.outside i in_synced in_old apart.0;
      };
      synced = record {
        no_shorter = ok.synced.no_shorter;
        no_longer = omega (arith, ok.synced.no_longer);
        outside = λ i l m u. refl;
      };
    }

pub cut_sound : (n : ℕ) (s : FileState) → n ≤ length s.reads → IsSound s → IsSound (cut_file n s)
cut_sound n s le ok =
    let len = length-take n s.reads in
    record {
      reads = record {
        no_shorter = omega (arith, len, ok.reads.no_shorter);
        no_longer = omega (arith, len, ok.reads.no_longer);
        outside = λ i in_synced within free.
            let apart = covers-push s.ranges n (length s.reads) i free in
            let below : i < n = omega (arith, len) in
            get_or-take n s.reads i 0 below ∙ ok.reads.outside i in_synced (omega arith) apart.0;
      };
      synced = record {
        no_shorter = omega (arith, ok.synced.no_shorter);
        no_longer = ok.synced.no_longer;
        outside = λ i l m u. refl;
      };
    }

pub length-painted : (x : ℕ) (ranges : List (ℕ × ℕ)) (end i : ℕ) (bytes : List ℕ) → length (painted x ranges end i bytes) ≡ length bytes
length-painted x ranges end i [] = refl
length-painted x ranges end i (b ∷ bytes) = omega (arith, length-painted x ranges end (i + 1) bytes)

pub get_or-painted : (x : ℕ) (ranges : List (ℕ × ℕ)) (end i : ℕ) (bytes : List ℕ) (k j : ℕ) → k < length bytes → i + k ≡ j
    → get_or (painted x ranges end i bytes) k 0 ≡ spot x ranges end j (get_or bytes k 0)
get_or-painted x ranges end i [] k j within at = absurd (omega arith)
get_or-painted x ranges end i (b ∷ bytes) zero j within at = let same : i ≡ j = omega arith in ap (λ n. spot x ranges end n b) same
get_or-painted x ranges end i (b ∷ bytes) (suc k) j within at = get_or-painted x ranges end (i + 1) bytes k j (omega arith) (omega arith)

painted_none : (x : ℕ) (end i : ℕ) (bytes : List ℕ) → i + length bytes ≤ end → painted x [] end i bytes ≡ bytes
painted_none x end i [] le = refl
painted_none x end i (b ∷ bytes) le =
    let free : nat_le end i ≡ false = lt-leb end i (omega arith) in
    let head : spot x [] end i b ≡ b = cond-false (nat_le end i) x b free in
    let rest = painted_none x end (i + 1) bytes (omega arith) in
    λ n. head n ∷ rest n

-- a crash leaves a settled file as it is
pub left_by-settled : (choice : Choice) (bytes : List ℕ) → left_by choice (settled_file bytes) ≡ bytes
left_by-settled Drop bytes = refl
left_by-settled Keep bytes = refl
left_by-settled (Fill x) bytes = painted_none x (length bytes) 0 bytes (omega arith)

-- what each choice leaves is an image
pub left_is_image : (choice : Choice) (s : FileState) → IsSound s → IsImage s (left_by choice s)
left_is_image Drop s ok = ok.synced
left_is_image Keep s ok = ok.reads
left_is_image (Fill x) s ok =
    let len = length-painted x s.ranges (length s.synced) 0 s.reads in
    record {
      no_shorter = omega (arith, len, ok.reads.no_shorter);
      no_longer = omega (arith, len, ok.reads.no_longer);
      outside = λ i in_synced within free.
          let in_reads : i < length s.reads = omega (arith, len) in
          let below : nat_le (length s.synced) i ≡ false = lt-leb (length s.synced) i in_synced in
          let here : spot x s.ranges (length s.synced) i (get_or s.reads i 0) ≡ get_or s.reads i 0 = cond-false (covers s.ranges i || nat_le (length s.synced) i) x (get_or s.reads i 0) (or_from _ _ free below) in
          get_or-painted x s.ranges (length s.synced) 0 s.reads i i in_reads (omega arith) ∙ here ∙ ok.reads.outside i in_synced in_reads free;
    }
