-- Why an append within a segment is before or after.
use Rattle.std.specs.Prelude.{nat_le}
use Rattle.std.proofs.Common.{◌≡◌, inl, inr, ℕ, ◌+◌, ◌-◌, ◌*◌, ◌/◌, ◌%◌, ◌<◌, ◌≤◌, false, List, [], ◌∷◌, ◌++◌, length, take, drop, replicate, get_or, refl, sym, ◌∙◌, ap, subst, arith, length-append, length-drop}
use Rattle.std.proofs.lemmas.Bool.{cases_eq, cases_lt, cond-true, eq-eqb, ne_eqb, le-leb}
use Rattle.std.proofs.lemmas.List.{get_or-drop, get_or-take, get_or_append_left, get_or-append_right, get_or-replicate}
use Rattle.std.proofs.lemmas.List.{length-replicate}
use Rattle.cl_base.specs.Disk.{overwritten}
use Rattle.cl_base.specs.Images.{length-overwritten, overwritten_other}
use Rattle.cl_base.specs.Places.{overwritten_inside, torn_overwritten}
use Rattle.cl_base.specs.Torn.{Torn}
use Rattle.cl_base.specs.Gated.{TornTwice, twice_first, twice_second, shut, is_open_byte, IsOne}
use Rattle.entry_log.specs.Log.{Log, frames_len, end_after, place_from, place}
use Rattle.wire_prims.specs.Frames.{frame}
use Rattle.log_segment.proofs.FrameLens.{length-frame}
use Rattle.log_segment.proofs.SpellLemmas.{short_entry, long_entry}
use Rattle.log_segment.specs.Segment.{later_frames, entry_frames, pad_frame, begin_at, IsAt, IsShut, EntriesIn, SegmentIs, LaidFrom}
use Rattle.log_segment.specs.Batch.{IsBatch, IsAppend}

-- ---- bytes at a place

at_same : (at : ℕ) (bytes e c : List ℕ) → IsAt at bytes e → length e ≤ length c → ((i : ℕ) → at ≤ i → i < at + length bytes → get_or c i 0 ≡ get_or e i 0) → IsAt at bytes c
at_same at bytes e c is longer same = record {
  fits = let fits = is.fits in omega arith;
  same = λ i below. same (at + i) (omega arith) (omega arith) ∙ is.same i below;
}

pub at_front : (at : ℕ) (a b c : List ℕ) → IsAt at (a ++ b) c → IsAt at a c
at_front at a b c is = record {
  fits = let fits = is.fits in omega (arith, length-append a b);
  same = λ i below. is.same i (omega (arith, length-append a b)) ∙ get_or_append_left a b 0 i below;
}

pub at_rest : (at : ℕ) (a b c : List ℕ) → IsAt at (a ++ b) c → IsAt (at + length a) b c
at_rest at a b c is = record {
  fits = let fits = is.fits in omega (arith, length-append a b);
  same = λ i below.
      let there : at + length a + i ≡ at + (length a + i) = omega arith in
      let first : length a + i - length a ≡ i = omega arith in
      ap (λ k. get_or c k 0) there ∙ is.same (length a + i) (omega (arith, length-append a b)) ∙ get_or-append_right a b (length a) (length a + i) 0 refl (omega arith) ∙ ap (λ k. get_or b k 0) first;
}

-- ---- the entries before

module _ (s q at : ℕ) (e c : List ℕ) (in_s : q / 65536 ≡ s) (offset : q % 65536 ≡ at) (longer : length e ≤ length c) (same : (i : ℕ) → i < at → i < length e → get_or c i 0 ≡ get_or e i 0) where
  span_kept : (p : ℕ) (bytes : List ℕ) → p / 65536 ≡ s → p + length bytes ≤ q → IsAt (p % 65536) bytes e → IsAt (p % 65536) bytes c
  span_kept p bytes here laid is = at_same (p % 65536) bytes e c is longer (λ i from below. let fits = is.fits in same i (omega arith) (omega arith))

  pub entries_kept : (p : ℕ) (log : Log) → LaidFrom q p log → EntriesIn s e p log → EntriesIn s c p log
  entries_kept p [] laid has = tt
  entries_kept p (x ∷ xs) laid has = (
    record {
      pad = λ ne here. span_kept p (pad_frame p) here (laid.1 ne) (has.0.pad ne here);
      frames = λ here. span_kept (begin_at p (length x.bytes)) (entry_frames (begin_at p (length x.bytes)) x.bytes) here laid.0 (has.0.frames here);
    },
    entries_kept (end_after p (length x.bytes)) xs laid.2 has.1,
  )

pub entries_more : (s : ℕ) (file : List ℕ) (p : ℕ) (log more : Log) → EntriesIn s file p log → EntriesIn s file (place_from p log) more → EntriesIn s file p (log ++ more)
entries_more s file p [] more first second = second
entries_more s file p (x ∷ xs) more first second = (first.0, entries_more s file (end_after p (length x.bytes)) xs more first.1 second)

pub place_more : (p : ℕ) (log more : Log) → place_from p (log ++ more) ≡ place_from (place_from p log) more
place_more p [] more = refl
place_more p (x ∷ xs) more = place_more (end_after p (length x.bytes)) xs more

-- ---- a batch with no pad

pub fits_here : (p n : ℕ) → frames_len n ≤ 65536 - p % 65536 → begin_at p n ≡ p
fits_here p n le = cond-true (nat_le (frames_len n) (65536 - p % 65536)) p (p + (65536 - p % 65536)) (le-leb (frames_len n) (65536 - p % 65536) le)

pub ends_here : (p n : ℕ) → frames_len n ≤ 65536 - p % 65536 → end_after p n ≡ p + frames_len n
unfolding end_after
ends_here p n le = cond-true (nat_le (frames_len n) (65536 - p % 65536)) (p + frames_len n) (p + (65536 - p % 65536) + frames_len n) (le-leb (frames_len n) (65536 - p % 65536) le)

pub batch_place : (p : ℕ) (batch : Log) (bytes : List ℕ) → IsBatch p batch bytes → place_from p batch ≡ p + length bytes
batch_place p [] bytes is = omega (arith, ap length is)
batch_place p (x ∷ xs) bytes is =
    let rest = is.0 in
    let len : length bytes ≡ frames_len (length x.bytes) + length rest = ap length is.1 ∙ length-append (entry_frames p x.bytes) rest ∙ ap (λ n. n + length rest) is.2 in
    ap (λ q. place_from q xs) (ends_here p (length x.bytes) is.3) ∙ batch_place (p + frames_len (length x.bytes)) xs rest is.4 ∙ omega (arith, len)

-- an entry has at least one frame
pub entry_some : (p : ℕ) (bytes : List ℕ) → 32 ≤ length (entry_frames p bytes)
entry_some p bytes = elim (cases_lt 1376 (length bytes)) [
  | inl long ↦
      let first = frame p 0x5A 0x80 false (take 1376 bytes) in
      let rest = later_frames (length bytes) (p + 1408) (drop 1376 bytes) in
      let size = length-frame p 0x5A 0x80 false (take 1376 bytes) in
      let whole = ap length (long_entry p bytes long) in
      omega (arith, size, whole, length-append first rest)
  | inr short ↦ let size = length-frame p 0x5A 0xC0 false bytes in let whole = ap length (short_entry p bytes short) in omega (arith, size, whole)
]

pub batch_in : (s : ℕ) (file : List ℕ) (p : ℕ) (batch : Log) (bytes : List ℕ) → IsBatch p batch bytes → s * 65536 ≤ p → p + length bytes ≤ s * 65536 + 65536 → IsAt (p - s * 65536) bytes file → EntriesIn s file p batch
batch_in s file p [] bytes is from inside at = tt
batch_in s file p (x ∷ xs) bytes is from inside at =
    let n = length x.bytes in
    let rest = is.0 in
    let begins = fits_here p n is.3 in
    let frames = entry_frames p x.bytes in
    let some = entry_some p x.bytes in
    let whole = subst (λ l. IsAt (p - s * 65536) l file) is.1 at in
    let len : length bytes ≡ frames_len n + length rest = ap length is.1 ∙ length-append frames rest ∙ ap (λ k. k + length rest) is.2 in
    let offset : p - s * 65536 ≡ p % 65536 = omega (arith, len, is.2) in
    let next_offset : (p + frames_len n) - s * 65536 ≡ p - s * 65536 + length frames = omega (arith, len, is.2) in
    let later = batch_in s file (p + frames_len n) xs rest is.4 (omega arith) (omega (arith, len)) (subst (λ k. IsAt k rest file) (sym next_offset) (at_rest (p - s * 65536) frames rest file whole)) in (
      record {
        pad = λ ne in_s. absurd (ne begins);
        frames = λ in_s. subst (λ b. IsAt (b % 65536) (entry_frames b x.bytes) file) (sym begins) (subst (λ k. IsAt k frames file) offset (at_front (p - s * 65536) frames rest file whole));
      },
      subst (λ q. EntriesIn s file q xs) (sym (ends_here p n is.3)) later,
    )

-- ---- the append

module _ (log batch : Log) (s at : ℕ) (bytes head tail : List ℕ) (is : IsAppend log batch s at bytes head tail) (low : s < 256) (size : length head ≡ 31) where
  abbrev Before : List ℕ → Type 0
  Before = SegmentIs s log

  abbrev After : List ℕ → Type 0
  After = SegmentIs s (log ++ batch)

  below_limit : place log < 16777216
  below_limit = omega (arith, is.segment)

  shut_there : (e : List ℕ) → Before e → IsShut at e
  shut_there e before = subst (λ a. IsShut a e) is.offset (before.ends is.segment below_limit)

  kept_if : (e c : List ℕ) → Before e → length e ≤ length c → ((i : ℕ) → i < at → i < length e → get_or c i 0 ≡ get_or e i 0) → IsShut at c → Before c
  kept_if e c before longer same now = record {
    entries = entries_kept s (place log) at e c is.segment is.offset longer same 0 log is.laid before.entries;
    ends = λ here below. subst (λ a. IsShut a c) (sym is.offset) now;
  }

  pub append_keeps : (e c : List ℕ) → Before e → TornTwice at (length head) (at + 31 + 1) (length tail) e c → Before c
  append_keeps e c before torn =
      let there = shut_there e before in
      let fits = there.fits in
      let longer = torn.no_shorter in
      kept_if e c before longer (λ i below within. torn.same i within (inl below) (inl (omega arith)))
      (record {
        fits = omega arith;
        gate = λ opened. there.gate (sym (torn.same (at + 31) (omega arith) (inr (omega (arith, size))) (inl (omega arith))) ∙ opened);
      })

  len_tail : length tail ≡ length bytes - 32 + is.zeros
  len_tail = ap length is.behind ∙ omega (arith, is.some, length-append (drop 32 bytes) (replicate is.zeros 0), length-drop 32 bytes, length-replicate {A = ℕ} is.zeros 0)

  module _ (reads : List ℕ) (before : Before reads) where
    abbrev one : List ℕ
    one = overwritten at head reads

    abbrev all_bytes : List ℕ
    all_bytes = shut at head (at + 31) tail reads

    len_one : length one ≡ length reads
    len_one = let fits = (shut_there reads before).fits in omega (arith, size, length-overwritten at head reads (omega arith))

    len_all : (length reads ≤ length all_bytes) × (at + length bytes + is.zeros ≤ length all_bytes)
    len_all =
        let fits = (shut_there reads before).fits in
        let len = length-overwritten (at + 31 + 1) tail one (omega (arith, len_one)) in
        (omega (arith, len, len_one), let some = is.some in omega (arith, len, len_tail))

    pub shut_before : Before all_bytes
    shut_before =
        let fits = (shut_there reads before).fits in
        append_keeps reads all_bytes before (twice_second at (length head) (at + 31 + 1) (length tail) reads one all_bytes
        (twice_first at (length head) (at + 31 + 1) (length tail) reads one (torn_overwritten at head reads (omega arith))) (torn_overwritten (at + 31 + 1) tail one (omega (arith, len_one))))

    pub gate_within : at + 31 < length all_bytes
    gate_within = let some = is.some in omega (arith, len_all.1)

    module _ (c : List ℕ) (torn : Torn (at + 31) 1 all_bytes c) where
      under : (i : ℕ) → i < at → i < length all_bytes → get_or c i 0 ≡ get_or all_bytes i 0
      under i below within = torn.same i within (inl (omega arith))

      in_tail : (i j : ℕ) → at + 32 + j ≡ i → j < length tail → get_or c i 0 ≡ get_or tail j 0
      in_tail i j there below =
          torn.same i (let some = is.some in omega (arith, len_all.1, len_tail)) (inr (omega arith)) ∙ overwritten_inside (at + 31 + 1) tail one i j (let fits = (shut_there reads before).fits in omega (arith, len_one)) (omega arith) below

      in_head : (i : ℕ) → i < 31 → get_or c (at + i) 0 ≡ get_or head i 0
      in_head i below =
          let fits = (shut_there reads before).fits in
          torn.same (at + i) (omega (arith, len_all.0)) (inl (omega arith)) ∙ overwritten_other (at + 31 + 1) tail one (at + i) (omega (arith, len_one)) (inl (omega arith))
          ∙ overwritten_inside at head reads (at + i) i (omega arith) refl (omega (arith, size))

      byte_there : get_or c (at + 31) 0 ≡ 90 → (i : ℕ) → i < length bytes → get_or c (at + i) 0 ≡ get_or bytes i 0
      byte_there opened i below = elim (cases_lt i 31) [
        | inl first ↦ in_head i first ∙ ap (λ l. get_or l i 0) is.front ∙ get_or-take 31 bytes i 0 first
        | inr from ↦ elim (cases_eq i 31) [
          | inl gate ↦ ap (λ k. get_or c (at + k) 0) gate ∙ opened ∙ sym is.open_gate ∙ ap (λ k. get_or bytes k 0) (sym gate)
          | inr ne ↦
              let j = i - 32 in
              let back : 32 + j ≡ i = omega arith in
              in_tail (at + i) j (omega arith) (omega (arith, len_tail)) ∙ ap (λ l. get_or l j 0) is.behind
              ∙ get_or_append_left (drop 32 bytes) (replicate is.zeros 0) 0 j (omega (arith, length-drop 32 bytes)) ∙ get_or-drop 32 bytes j 0 ∙ ap (λ k. get_or bytes k 0) back
        ]
      ]

      zero_behind : is.zeros ≡ 32 → get_or c (at + length bytes + 31) 0 ≡ 0
      zero_behind zeros =
          let some = is.some in
          let j = length bytes - 1 in
          in_tail (at + length bytes + 31) j (omega arith) (omega (arith, len_tail)) ∙ ap (λ l. get_or l j 0) is.behind
          ∙ get_or-append_right (drop 32 bytes) (replicate is.zeros 0) (length bytes - 32) j 0 (length-drop 32 bytes) (omega arith) ∙ get_or-replicate is.zeros (j - (length bytes - 32)) 0 0 (omega arith)

      goes_on : get_or c (at + 31) 0 ≡ 90 → After c
      goes_on opened =
          let inside = is.inside in
          let offset = is.offset in
          let here : IsAt at bytes c = record { fits = let longer = torn.no_shorter in omega (arith, len_all.1); same = byte_there opened } in
          let first = entries_kept s (place log) at all_bytes c is.segment is.offset torn.no_shorter under 0 log is.laid shut_before.entries in
          let from : s * 65536 ≤ place log = omega (arith, is.segment) in
          let at_is : at ≡ place log - s * 65536 = omega (arith, is.segment, offset) in
          let second = batch_in s c (place log) batch bytes is.spells from (omega (arith, at_is)) (subst (λ a. IsAt a bytes c) at_is here) in
          let end : place (log ++ batch) ≡ place log + length bytes = place_more 0 log batch ∙ batch_place (place log) batch bytes is.spells in
          record {
            entries = entries_more s c 0 log batch first second;
            ends = λ in_s below.
                let within : at + length bytes < 65536 = omega (arith, end, is.segment) in
                let end_offset : place (log ++ batch) % 65536 ≡ at + length bytes = omega (arith, end) in
                let zeros = is.followed within in
                subst (λ a. IsShut a c) (sym end_offset) (record {
                  fits = let longer = torn.no_shorter in omega (arith, len_all.1);
                  gate = λ opened_next. absurd (let clash : 0 ≡ 90 = sym (zero_behind zeros) ∙ opened_next in omega (arith, clash));
                });
          }

      pub append_flips : IsOne Before After (is_open_byte (get_or c (at + 31) 0)) c
      append_flips = elim (cases_eq (get_or c (at + 31) 0) 90) [
        | inl opened ↦ subst (λ b. IsOne Before After b c) (sym (eq-eqb (get_or c (at + 31) 0) 90 opened)) (goes_on opened)
        | inr closed ↦ subst (λ b. IsOne Before After b c) (sym (ne_eqb (get_or c (at + 31) 0) 90 closed))
            (kept_if all_bytes c shut_before torn.no_shorter under (record { fits = let longer = torn.no_shorter in omega (arith, len_all.1); gate = closed }))
      ]
