-- Numbers in bytes, the lowest byte first, and what is known of a number that stands at a place.
use Rattle.std.proofs.Common.{drop-drop, take-append-drop, ◌≡◌, inl, inr, ℕ, suc, ltb, ◌+◌, ◌-◌, ◌<◌, ◌≤◌, ◌^◌, ℤ, pos, negsuc, List, ◌++◌, length, take, drop, get_or, refl, sym, ◌∙◌, ap, arith, append_assoc, w16, w32, w64}
use Rattle.std.specs.Int.{Width, from_le_bytes, to_le_bytes, cast_signed, cast_unsigned, byte_len}
use Rattle.std.specs.Int.RustNames.{FitsSigned}
use Rattle.std.proofs.Math.Seq.{take-add}
use Rattle.std.proofs.lemmas.Bool.{cases_lt, cond_both, ltb-true, ltb-false}
use Rattle.std.proofs.lemmas.List.{get_or-drop, get_or-take, get_or_append_left, get_or_past, drop_at, length-take, length-drop}
use Rattle.std.proofs.lemmas.Nat.{le_bytes_2, le_bytes_4, le_bytes_8, from_le_bytes-to_le_bytes_2, from_le_bytes-to_le_bytes_4, from_le_bytes-to_le_bytes_8}
use Rattle.std.proofs.lemmas.Int.{to_z-of_z, of_z-to_z}
use Rattle.cl_base.specs.Disk.{overwritten}

-- ---- a number at a place, in bytes from the first

unfoldable pub u16_at : ℕ → List ℕ → ℕ
u16_at at bytes = from_le_bytes w16 (drop at bytes)

unfoldable pub u32_at : ℕ → List ℕ → ℕ
u32_at at bytes = from_le_bytes w32 (drop at bytes)

unfoldable pub u64_at : ℕ → List ℕ → ℕ
u64_at at bytes = from_le_bytes w64 (drop at bytes)

unfoldable pub i32_at : ℕ → List ℕ → ℤ
i32_at at bytes = cast_signed w32 (u32_at at bytes)

unfoldable pub i64_at : ℕ → List ℕ → ℤ
i64_at at bytes = cast_signed w64 (u64_at at bytes)

-- ---- the bytes of a number

unfoldable pub le16 : ℕ → List ℕ
le16 n = to_le_bytes w16 n

unfoldable pub le32 : ℕ → List ℕ
le32 n = to_le_bytes w32 n

unfoldable pub le64 : ℕ → List ℕ
le64 n = to_le_bytes w64 n

unfoldable pub signed32 : ℤ → List ℕ
signed32 z = le32 (cast_unsigned w32 z)

unfoldable pub signed64 : ℤ → List ℕ
signed64 z = le64 (cast_unsigned w64 z)

-- each value is that of a byte
abbrev pub IsBytes : List ℕ → Type 0
IsBytes bytes = (i : ℕ) → get_or bytes i 0 < 256

-- ---- bytes and their parts

pub bytes_take : (n : ℕ) (bytes : List ℕ) → IsBytes bytes → IsBytes (take n bytes)
bytes_take n bytes fits i =
    elim (cases_lt i n) [
      | inl lt ↦ rw (get_or-take n bytes i 0 lt) (fits i)
      | inr le ↦ rw (get_or_past (take n bytes) i 0 (omega (arith, length-take n bytes))) (omega arith)
    ]

pub bytes_drop : (n : ℕ) (bytes : List ℕ) → IsBytes bytes → IsBytes (drop n bytes)
bytes_drop n bytes fits i = rw (get_or-drop n bytes i 0) (fits (n + i))

-- ---- what a number at a place depends on, and what it is where one was put: once for all widths

record IsWide (w : Width) (limit : ℕ) : Type 0 where
  len : (n : ℕ) → length (to_le_bytes w n) ≡ byte_len w
  back : (bytes : List ℕ) → length bytes ≡ byte_len w → IsBytes bytes → to_le_bytes w (from_le_bytes w bytes) ≡ bytes
  again : (n : ℕ) → n < limit → (rest : List ℕ) → from_le_bytes w (to_le_bytes w n ++ rest) ≡ n
  below : (bytes : List ℕ) → IsBytes bytes → from_le_bytes w bytes < limit
  same : (a b : List ℕ) → ((k : ℕ) → k < byte_len w → get_or a k 0 ≡ get_or b k 0) → from_le_bytes w a ≡ from_le_bytes w b

wide16 : IsWide w16 (2 ^ 16)
wide16 = record {
  len = λ n. refl;
  back = λ bytes len fits. le_bytes_2 bytes _ len fits refl;
  again = λ n lt rest. from_le_bytes-to_le_bytes_2 n lt;
  below = λ bytes fits. omega (arith, fits 0, fits 1);
  same = λ a b each. omega (arith, each 0 (omega arith), each 1 (omega arith));
}

wide32 : IsWide w32 (2 ^ 32)
wide32 = record {
  len = λ n. refl;
  back = λ bytes len fits. le_bytes_4 bytes _ len fits refl;
  again = λ n lt rest. from_le_bytes-to_le_bytes_4 n lt;
  below = λ bytes fits. omega (arith, fits 0, fits 1, fits 2, fits 3);
  same = λ a b each. omega (arith, each 0 (omega arith), each 1 (omega arith), each 2 (omega arith), each 3 (omega arith));
}

wide64 : IsWide w64 (2 ^ 64)
wide64 = record {
  len = λ n. refl;
  back = λ bytes len fits. le_bytes_8 bytes _ len fits refl;
  again = λ n lt rest. from_le_bytes-to_le_bytes_8 n lt;
  below = λ bytes fits. omega (arith, fits 0, fits 1, fits 2, fits 3, fits 4, fits 5, fits 6, fits 7);
  same = λ a b each.
      let b0 = each 0 (omega arith) in let b1 = each 1 (omega arith) in let b2 = each 2 (omega arith) in let b3 = each 3 (omega arith) in
      let b4 = each 4 (omega arith) in let b5 = each 5 (omega arith) in let b6 = each 6 (omega arith) in let b7 = each 7 (omega arith) in
      omega (arith, b0, b1, b2, b3, b4, b5, b6, b7);
}

module _ (w : Width) (limit : ℕ) (wide : IsWide w limit) where
  abbrev number_at : ℕ → List ℕ → ℕ
  number_at at bytes = from_le_bytes w (drop at bytes)

  -- it depends on its own bytes alone
  number-same : (at : ℕ) (a b : List ℕ) → ((i : ℕ) → at ≤ i → i < at + byte_len w → get_or a i 0 ≡ get_or b i 0) → number_at at a ≡ number_at at b
  number-same at a b same =
      wide.same (drop at a) (drop at b) (λ k below. get_or-drop at a k 0 ∙ same (at + k) (omega arith) (omega arith) ∙ sym (get_or-drop at b k 0))

  number-append : (at : ℕ) (a b : List ℕ) → at + byte_len w ≤ length a → number_at at (a ++ b) ≡ number_at at a
  number-append at a b inside = number-same at (a ++ b) a (λ i from to. get_or_append_left a b 0 i (omega arith))

  number-put : (at n : ℕ) (a rest : List ℕ) → length a ≡ at → n < limit → number_at at (a ++ (to_le_bytes w n ++ rest)) ≡ n
  number-put at n a rest len fits = ap (from_le_bytes w) (drop_at a (to_le_bytes w n ++ rest) at len) ∙ wide.again n fits rest

  number-below : (at : ℕ) (bytes : List ℕ) → IsBytes bytes → number_at at bytes < limit
  number-below at bytes fits = wide.below (drop at bytes) (bytes_drop at bytes fits)

  spelled : (at : ℕ) (bytes : List ℕ) → IsBytes bytes → at + byte_len w ≤ length bytes → to_le_bytes w (number_at at bytes) ≡ take (byte_len w) (drop at bytes)
  spelled at bytes fits inside =
      let front = take (byte_len w) (drop at bytes) in
      let len : length front ≡ byte_len w = omega (arith, length-take (byte_len w) (drop at bytes), length-drop at bytes) in
      let value : from_le_bytes w front ≡ number_at at bytes = wide.same front (drop at bytes) (λ k below. get_or-take (byte_len w) (drop at bytes) k 0 below) in
      ap (to_le_bytes w) (sym value) ∙ wide.back front len (bytes_take (byte_len w) (drop at bytes) (bytes_drop at bytes fits))

  -- the bytes of a number and the bytes behind it are the bytes from its place on
  number-drop : (at : ℕ) (bytes : List ℕ) → IsBytes bytes → at + byte_len w ≤ length bytes → to_le_bytes w (number_at at bytes) ++ drop (at + byte_len w) bytes ≡ drop at bytes
  number-drop at bytes fits inside =
      ap (λ l. l ++ drop (at + byte_len w) bytes) (spelled at bytes fits inside) ∙ ap (λ l. take (byte_len w) (drop at bytes) ++ l) (sym (drop-drop (byte_len w) at bytes)) ∙ take-append-drop (byte_len w) (drop at bytes)

  -- the bytes up to a number and the bytes of the number are the bytes up to its end
  take-number : (at : ℕ) (bytes : List ℕ) → IsBytes bytes → at + byte_len w ≤ length bytes → take at bytes ++ to_le_bytes w (number_at at bytes) ≡ take (at + byte_len w) bytes
  take-number at bytes fits inside = ap (λ l. take at bytes ++ l) (spelled at bytes fits inside) ∙ sym (take-add at (byte_len w) bytes)

  number-overwritten : (at n : ℕ) (file : List ℕ) → n < limit → at ≤ length file → number_at at (overwritten at (to_le_bytes w n) file) ≡ n
  number-overwritten at n file fits le =
      ap (number_at at) (append_assoc (take at file) (to_le_bytes w n) (drop (at + length (to_le_bytes w n)) file)) ∙ number-put at n (take at file) (drop (at + length (to_le_bytes w n)) file) (omega (arith, length-take at file)) fits

-- ---- 2 bytes

pub length-le16 : (n : ℕ) → length (le16 n) ≡ 2
unfolding le16
length-le16 n = refl

-- it depends on its own bytes alone
pub u16_at-same : (at : ℕ) (a b : List ℕ) → ((i : ℕ) → at ≤ i → i < at + 2 → get_or a i 0 ≡ get_or b i 0) → u16_at at a ≡ u16_at at b
unfolding u16_at
u16_at-same at a b same = number-same w16 (2 ^ 16) wide16 at a b same

pub u16_at-append : (at : ℕ) (a b : List ℕ) → at + 2 ≤ length a → u16_at at (a ++ b) ≡ u16_at at a
unfolding u16_at
u16_at-append at a b inside = number-append w16 (2 ^ 16) wide16 at a b inside

-- where the bytes of a number stand, it is that number
pub u16_at-put : (at n : ℕ) (a rest : List ℕ) → length a ≡ at → n < 2 ^ 16 → u16_at at (a ++ (le16 n ++ rest)) ≡ n
unfolding u16_at le16
u16_at-put at n a rest len fits = number-put w16 (2 ^ 16) wide16 at n a rest len fits

pub u16_at-below : (at : ℕ) (bytes : List ℕ) → IsBytes bytes → u16_at at bytes < 2 ^ 16
unfolding u16_at
u16_at-below at bytes fits = number-below w16 (2 ^ 16) wide16 at bytes fits

-- the bytes up to a number and the bytes of the number are the bytes up to its end
pub take-u16_at : (at : ℕ) (bytes : List ℕ) → IsBytes bytes → at + 2 ≤ length bytes → take at bytes ++ le16 (u16_at at bytes) ≡ take (at + 2) bytes
unfolding u16_at le16
take-u16_at at bytes fits inside = take-number w16 (2 ^ 16) wide16 at bytes fits inside

-- the bytes of a number and the bytes behind it are the bytes from its place on
pub u16_at-drop : (at : ℕ) (bytes : List ℕ) → IsBytes bytes → at + 2 ≤ length bytes → le16 (u16_at at bytes) ++ drop (at + 2) bytes ≡ drop at bytes
unfolding u16_at le16
u16_at-drop at bytes fits inside = number-drop w16 (2 ^ 16) wide16 at bytes fits inside

pub u16_at-overwritten : (at n : ℕ) (file : List ℕ) → n < 2 ^ 16 → at ≤ length file → u16_at at (overwritten at (le16 n) file) ≡ n
unfolding u16_at le16
u16_at-overwritten at n file fits le = number-overwritten w16 (2 ^ 16) wide16 at n file fits le

-- ---- 4 bytes

pub length-le32 : (n : ℕ) → length (le32 n) ≡ 4
unfolding le32
length-le32 n = refl

-- it depends on its own bytes alone
pub u32_at-same : (at : ℕ) (a b : List ℕ) → ((i : ℕ) → at ≤ i → i < at + 4 → get_or a i 0 ≡ get_or b i 0) → u32_at at a ≡ u32_at at b
unfolding u32_at
u32_at-same at a b same = number-same w32 (2 ^ 32) wide32 at a b same

pub u32_at-append : (at : ℕ) (a b : List ℕ) → at + 4 ≤ length a → u32_at at (a ++ b) ≡ u32_at at a
unfolding u32_at
u32_at-append at a b inside = number-append w32 (2 ^ 32) wide32 at a b inside

-- where the bytes of a number stand, it is that number
pub u32_at-put : (at n : ℕ) (a rest : List ℕ) → length a ≡ at → n < 2 ^ 32 → u32_at at (a ++ (le32 n ++ rest)) ≡ n
unfolding u32_at le32
u32_at-put at n a rest len fits = number-put w32 (2 ^ 32) wide32 at n a rest len fits

pub u32_at-below : (at : ℕ) (bytes : List ℕ) → IsBytes bytes → u32_at at bytes < 2 ^ 32
unfolding u32_at
u32_at-below at bytes fits = number-below w32 (2 ^ 32) wide32 at bytes fits

-- the bytes up to a number and the bytes of the number are the bytes up to its end
pub take-u32_at : (at : ℕ) (bytes : List ℕ) → IsBytes bytes → at + 4 ≤ length bytes → take at bytes ++ le32 (u32_at at bytes) ≡ take (at + 4) bytes
unfolding u32_at le32
take-u32_at at bytes fits inside = take-number w32 (2 ^ 32) wide32 at bytes fits inside

-- the bytes of a number and the bytes behind it are the bytes from its place on
pub u32_at-drop : (at : ℕ) (bytes : List ℕ) → IsBytes bytes → at + 4 ≤ length bytes → le32 (u32_at at bytes) ++ drop (at + 4) bytes ≡ drop at bytes
unfolding u32_at le32
u32_at-drop at bytes fits inside = number-drop w32 (2 ^ 32) wide32 at bytes fits inside

pub u32_at-overwritten : (at n : ℕ) (file : List ℕ) → n < 2 ^ 32 → at ≤ length file → u32_at at (overwritten at (le32 n) file) ≡ n
unfolding u32_at le32
u32_at-overwritten at n file fits le = number-overwritten w32 (2 ^ 32) wide32 at n file fits le

-- ---- 8 bytes

pub length-le64 : (n : ℕ) → length (le64 n) ≡ 8
unfolding le64
length-le64 n = refl

-- it depends on its own bytes alone
pub u64_at-same : (at : ℕ) (a b : List ℕ) → ((i : ℕ) → at ≤ i → i < at + 8 → get_or a i 0 ≡ get_or b i 0) → u64_at at a ≡ u64_at at b
unfolding u64_at
u64_at-same at a b same = number-same w64 (2 ^ 64) wide64 at a b same

pub u64_at-append : (at : ℕ) (a b : List ℕ) → at + 8 ≤ length a → u64_at at (a ++ b) ≡ u64_at at a
unfolding u64_at
u64_at-append at a b inside = number-append w64 (2 ^ 64) wide64 at a b inside

-- where the bytes of a number stand, it is that number
pub u64_at-put : (at n : ℕ) (a rest : List ℕ) → length a ≡ at → n < 2 ^ 64 → u64_at at (a ++ (le64 n ++ rest)) ≡ n
unfolding u64_at le64
u64_at-put at n a rest len fits = number-put w64 (2 ^ 64) wide64 at n a rest len fits

pub u64_at-below : (at : ℕ) (bytes : List ℕ) → IsBytes bytes → u64_at at bytes < 2 ^ 64
unfolding u64_at
u64_at-below at bytes fits = number-below w64 (2 ^ 64) wide64 at bytes fits

-- the bytes up to a number and the bytes of the number are the bytes up to its end
pub take-u64_at : (at : ℕ) (bytes : List ℕ) → IsBytes bytes → at + 8 ≤ length bytes → take at bytes ++ le64 (u64_at at bytes) ≡ take (at + 8) bytes
unfolding u64_at le64
take-u64_at at bytes fits inside = take-number w64 (2 ^ 64) wide64 at bytes fits inside

-- the bytes of a number and the bytes behind it are the bytes from its place on
pub u64_at-drop : (at : ℕ) (bytes : List ℕ) → IsBytes bytes → at + 8 ≤ length bytes → le64 (u64_at at bytes) ++ drop (at + 8) bytes ≡ drop at bytes
unfolding u64_at le64
u64_at-drop at bytes fits inside = number-drop w64 (2 ^ 64) wide64 at bytes fits inside

pub u64_at-overwritten : (at n : ℕ) (file : List ℕ) → n < 2 ^ 64 → at ≤ length file → u64_at at (overwritten at (le64 n) file) ≡ n
unfolding u64_at le64
u64_at-overwritten at n file fits le = number-overwritten w64 (2 ^ 64) wide64 at n file fits le

-- ---- 4 bytes, signed

pub length-signed32 : (z : ℤ) → length (signed32 z) ≡ 4
unfolding signed32
length-signed32 z = length-le32 (cast_unsigned w32 z)

unsigned32_below : (z : ℤ) → FitsSigned w32 z → cast_unsigned w32 z < 2 ^ 32
unsigned32_below (pos n) fits = omega (arith, fits.sfits)
unsigned32_below (negsuc n) fits = omega (arith, fits.sfits)

signed32_fits : (n : ℕ) → n < 2 ^ 32 → FitsSigned w32 (cast_signed w32 n)
signed32_fits n lt =
    cond_both (ltb n (2 ^ 31)) (pos n) (negsuc (2 ^ 32 - suc n)) (λ z. FitsSigned w32 z)
    (λ e. record { sfits = ltb-true n (2 ^ 31) e }) (λ e. record { sfits = omega (arith, ltb-false n (2 ^ 31) e) })

pub i32_at-same : (at : ℕ) (a b : List ℕ) → ((i : ℕ) → at ≤ i → i < at + 4 → get_or a i 0 ≡ get_or b i 0) → i32_at at a ≡ i32_at at b
unfolding i32_at
i32_at-same at a b same = ap (cast_signed w32) (u32_at-same at a b same)

pub i32_at-append : (at : ℕ) (a b : List ℕ) → at + 4 ≤ length a → i32_at at (a ++ b) ≡ i32_at at a
unfolding i32_at
i32_at-append at a b inside = ap (cast_signed w32) (u32_at-append at a b inside)

pub i32_at-put : (at : ℕ) (z : ℤ) (a rest : List ℕ) → length a ≡ at → FitsSigned w32 z → i32_at at (a ++ (signed32 z ++ rest)) ≡ z
unfolding i32_at signed32
i32_at-put at z a rest len fits = ap (cast_signed w32) (u32_at-put at (cast_unsigned w32 z) a rest len (unsigned32_below z fits)) ∙ to_z-of_z w32 z fits

pub i32_at-fits : (at : ℕ) (bytes : List ℕ) → IsBytes bytes → FitsSigned w32 (i32_at at bytes)
unfolding i32_at
i32_at-fits at bytes fits = signed32_fits (u32_at at bytes) (u32_at-below at bytes fits)

pub take-i32_at : (at : ℕ) (bytes : List ℕ) → IsBytes bytes → at + 4 ≤ length bytes → take at bytes ++ signed32 (i32_at at bytes) ≡ take (at + 4) bytes
unfolding i32_at signed32
take-i32_at at bytes fits inside = ap (λ n. take at bytes ++ le32 n) (of_z-to_z w32 (u32_at at bytes) (u32_at-below at bytes fits)) ∙ take-u32_at at bytes fits inside

pub i32_at-drop : (at : ℕ) (bytes : List ℕ) → IsBytes bytes → at + 4 ≤ length bytes → signed32 (i32_at at bytes) ++ drop (at + 4) bytes ≡ drop at bytes
unfolding i32_at signed32
i32_at-drop at bytes fits inside = ap (λ n. le32 n ++ drop (at + 4) bytes) (of_z-to_z w32 (u32_at at bytes) (u32_at-below at bytes fits)) ∙ u32_at-drop at bytes fits inside

pub i32_at-overwritten : (at : ℕ) (z : ℤ) (file : List ℕ) → FitsSigned w32 z → at ≤ length file → i32_at at (overwritten at (signed32 z) file) ≡ z
unfolding i32_at signed32
i32_at-overwritten at z file fits le = ap (cast_signed w32) (u32_at-overwritten at (cast_unsigned w32 z) file (unsigned32_below z fits) le) ∙ to_z-of_z w32 z fits

-- ---- 8 bytes, signed

pub length-signed64 : (z : ℤ) → length (signed64 z) ≡ 8
unfolding signed64
length-signed64 z = length-le64 (cast_unsigned w64 z)

unsigned64_below : (z : ℤ) → FitsSigned w64 z → cast_unsigned w64 z < 2 ^ 64
unsigned64_below (pos n) fits = omega (arith, fits.sfits)
unsigned64_below (negsuc n) fits = omega (arith, fits.sfits)

signed64_fits : (n : ℕ) → n < 2 ^ 64 → FitsSigned w64 (cast_signed w64 n)
signed64_fits n lt =
    cond_both (ltb n (2 ^ 63)) (pos n) (negsuc (2 ^ 64 - suc n)) (λ z. FitsSigned w64 z)
    (λ e. record { sfits = ltb-true n (2 ^ 63) e }) (λ e. record { sfits = omega (arith, ltb-false n (2 ^ 63) e) })

pub i64_at-same : (at : ℕ) (a b : List ℕ) → ((i : ℕ) → at ≤ i → i < at + 8 → get_or a i 0 ≡ get_or b i 0) → i64_at at a ≡ i64_at at b
unfolding i64_at
i64_at-same at a b same = ap (cast_signed w64) (u64_at-same at a b same)

pub i64_at-append : (at : ℕ) (a b : List ℕ) → at + 8 ≤ length a → i64_at at (a ++ b) ≡ i64_at at a
unfolding i64_at
i64_at-append at a b inside = ap (cast_signed w64) (u64_at-append at a b inside)

pub i64_at-put : (at : ℕ) (z : ℤ) (a rest : List ℕ) → length a ≡ at → FitsSigned w64 z → i64_at at (a ++ (signed64 z ++ rest)) ≡ z
unfolding i64_at signed64
i64_at-put at z a rest len fits = ap (cast_signed w64) (u64_at-put at (cast_unsigned w64 z) a rest len (unsigned64_below z fits)) ∙ to_z-of_z w64 z fits

pub i64_at-fits : (at : ℕ) (bytes : List ℕ) → IsBytes bytes → FitsSigned w64 (i64_at at bytes)
unfolding i64_at
i64_at-fits at bytes fits = signed64_fits (u64_at at bytes) (u64_at-below at bytes fits)

pub take-i64_at : (at : ℕ) (bytes : List ℕ) → IsBytes bytes → at + 8 ≤ length bytes → take at bytes ++ signed64 (i64_at at bytes) ≡ take (at + 8) bytes
unfolding i64_at signed64
take-i64_at at bytes fits inside = ap (λ n. take at bytes ++ le64 n) (of_z-to_z w64 (u64_at at bytes) (u64_at-below at bytes fits)) ∙ take-u64_at at bytes fits inside

pub i64_at-drop : (at : ℕ) (bytes : List ℕ) → IsBytes bytes → at + 8 ≤ length bytes → signed64 (i64_at at bytes) ++ drop (at + 8) bytes ≡ drop at bytes
unfolding i64_at signed64
i64_at-drop at bytes fits inside = ap (λ n. le64 n ++ drop (at + 8) bytes) (of_z-to_z w64 (u64_at at bytes) (u64_at-below at bytes fits)) ∙ u64_at-drop at bytes fits inside

pub i64_at-overwritten : (at : ℕ) (z : ℤ) (file : List ℕ) → FitsSigned w64 z → at ≤ length file → i64_at at (overwritten at (signed64 z) file) ≡ z
unfolding i64_at signed64
i64_at-overwritten at z file fits le = ap (cast_signed w64) (u64_at-overwritten at (cast_unsigned w64 z) file (unsigned64_below z fits) le) ∙ to_z-of_z w64 z fits
