-- A spelled batch as an append of one of the three kinds.
use Rattle.std.specs.Prelude.{nat_lt, ◌&&◌, ◌==◌, if◌then◌else◌}
use Rattle.std.proofs.Common.{◌≡◌, ◌≢◌, ◌⊎◌, inl, inr, ℕ, ◌+◌, ◌-◌, ◌*◌, ◌/◌, ◌%◌, ◌<◌, ◌≤◌, Bool, true, false, List, [], ◌∷◌, ◌++◌, length, take, drop, replicate, get_or, refl, sym, ◌∙◌, ap, subst, arith, length-append, length-take, length-drop}
use Rattle.std.proofs.lemmas.Bool.{cases_eq, cases_lt, cases_Bool, cond-true, cond-false, eq-eqb, ne_eqb, eqb-true, eqb-false, ltb-true, ltb-false}
use Rattle.std.proofs.lemmas.List.{ext_get_or, get_or-take, get_or-drop, get_or_append_left, get_or-append_right}
use Rattle.entry_log.specs.Log.{Log, frames_len, place}
use Rattle.log_segment.specs.Segment.{entry_frames, pad_frame, LogIs}
use Rattle.log_segment.specs.Batch.{IsBatch, IsAppend, first_len, first_begin, frames_of}
use Rattle.log_segment.specs.Whole.{IsReady, NeedsPad, IsPadded}
use Rattle.log_segment.specs.Held.{IsHeld}
use Rattle.log_segment.specs.Spelled.{IsSpelled, zeros_behind, append_calls, write_calls}
use Rattle.log_segment.specs.declared.batch.Batch.{Batch}
use Rattle.log_segment.proofs.AppendLemmas.{fits_here, entry_some}
use Rattle.log_segment.proofs.FrameLens.{batch_len}
use Rattle.log_segment.proofs.PadLemmas.{pad_begins}
use Rattle.log_segment.proofs.CutLemmas.{entry_gate}
use Rattle.log_segment.proofs.LogReads.{is_laid, begin_end}
use Rattle.log_segment.proofs.HeldLemmas.{have_bytes}

take_front : (n : ℕ) (a b : List ℕ) → n ≤ length a → take n (a ++ b) ≡ take n a
take_front n a b fits = ext_get_or 0 (take n (a ++ b)) (take n a) (omega (arith, length-take n (a ++ b), length-take n a, length-append a b, fits))
    (λ i within. let len = length-take n (a ++ b) in get_or-take n (a ++ b) i 0 (omega arith) ∙ get_or_append_left a b 0 i (omega (arith, fits)) ∙ sym (get_or-take n a i 0 (omega arith)))

drop_front : (n : ℕ) (a b : List ℕ) → n ≤ length a → drop n (a ++ b) ≡ drop n a ++ b
drop_front n a b fits = ext_get_or 0 (drop n (a ++ b)) (drop n a ++ b) (omega (arith, length-drop n (a ++ b), length-drop n a, length-append a b, length-append (drop n a) b, fits))
    (λ i within. elim (cases_lt i (length a - n)) [
      | inl low ↦ get_or-drop n (a ++ b) i 0 ∙ get_or_append_left a b 0 (n + i) (omega (arith, fits)) ∙ sym (get_or-drop n a i 0) ∙ sym (get_or_append_left (drop n a) b 0 i (omega (arith, length-drop n a)))
      | inr high ↦
          let there : n + i - length a ≡ i - (length a - n) = omega (arith, fits) in
          get_or-drop n (a ++ b) i 0 ∙ get_or-append_right a b (length a) (n + i) 0 refl (omega (arith, fits)) ∙ ap (λ k. get_or b k 0) there ∙ sym (get_or-append_right (drop n a) b (length a - n) i 0 (length-drop n a) high)
    ])

-- the gate of a batch's first frame is open
batch_gate : (p : ℕ) (entries : Log) (bytes : List ℕ) → IsBatch p entries bytes → 32 ≤ length bytes → get_or bytes 31 0 ≡ 0x5A
batch_gate p [] bytes is some = absurd (omega (arith, ap length is, some))
batch_gate p (e ∷ es) bytes is some =
    let frames = entry_frames p e.bytes in
    let some_frames = entry_some p e.bytes in
    ap (λ l. get_or l 31 0) is.1 ∙ get_or_append_left frames is.0 0 31 (omega (arith, some_frames)) ∙ entry_gate p e.bytes

pads_needed : (p : ℕ) (entries : Log) → first_begin p entries ≢ p → NeedsPad p entries × (first_begin p entries ≡ p + (65536 - p % 65536))
pads_needed p [] ne = absurd (ne (fits_here p 0 (omega arith)))
pads_needed p (e ∷ es) ne = elim (cases_lt (65536 - p % 65536) (frames_len (length e.bytes))) [
  | inl long ↦ (long, pad_begins p (length e.bytes) (p + (65536 - p % 65536)) long refl)
  | inr fits ↦ absurd (ne (fits_here p (length e.bytes) fits))
]

-- ---- which of the three it is

pub rolls_true : (fills : Bool) (s : ℕ) → (fills && nat_lt s 255) ≡ true → (fills ≡ true) × (s < 255)
rolls_true true s is = (refl, ltb-true s 255 is)
rolls_true false s is = absurd (cc)

pub rolls_false : (fills : Bool) (s : ℕ) → (fills && nat_lt s 255) ≡ false → fills ≡ true → 255 ≤ s
rolls_false true s none is = ltb-false s 255 none
rolls_false false s none is = absurd (cc)

pub calls_pad : (b : Batch) → b.begin ≢ b.place → write_calls b ≡ 6
calls_pad b ne = cond-false (b.begin == b.place) (if b.fills && nat_lt (b.place / 65536) 255 then 7 else 5) 6 (ne_eqb b.begin b.place ne)

pub calls_here : (b : Batch) (rolls : Bool) → b.begin ≡ b.place → rolls ≡ (b.fills && nat_lt (b.place / 65536) 255) → write_calls b ≡ (if rolls then 7 else 5)
calls_here b rolls here is = cond-true (b.begin == b.place) (if b.fills && nat_lt (b.place / 65536) 255 then 7 else 5) 6 (eq-eqb b.begin b.place here) ∙ ap (λ r. if r then 7 else 5) (sym is)

-- a spelled batch has the calls of its entries
pub calls_are : (b : Batch) (p : ℕ) (entries : Log) → IsSpelled p entries b → write_calls b ≡ append_calls p entries
calls_are b p entries is = elim (cases_eq (first_begin p entries) p) [
  | inl same ↦
      let here : b.begin ≡ p = is.begin ∙ same in
      let size : b.begin % 65536 + length is.frames ≡ p % 65536 + frames_of entries = omega (arith, here, batch_len b.begin entries is.frames is.spells) in
      let fills : b.fills ≡ (p % 65536 + frames_of entries == 65536) = is.fills_is ∙ ap (λ k. k == 65536) size in
      let rolls : (b.fills && nat_lt (b.place / 65536) 255) ≡ ((p % 65536 + frames_of entries == 65536) && nat_lt (p / 65536) 255) = λ i. fills i && nat_lt (is.place i / 65536) 255 in
      calls_here b (b.fills && nat_lt (b.place / 65536) 255) (here ∙ sym is.place) refl ∙ ap (λ r. if r then 7 else 5) rolls
      ∙ sym (cond-true (first_begin p entries == p) (if (p % 65536 + frames_of entries == 65536) && nat_lt (p / 65536) 255 then 7 else 5) 6 (eq-eqb (first_begin p entries) p same))
  | inr ne ↦
      calls_pad b (λ same. ne (sym is.begin ∙ same ∙ is.place))
      ∙ sym (cond-false (first_begin p entries == p) (if (p % 65536 + frames_of entries == 65536) && nat_lt (p / 65536) 255 then 7 else 5) 6 (ne_eqb (first_begin p entries) p ne))
]

pub batch_size : (b : Batch) (p : ℕ) (entries : Log) → IsSpelled p entries b → 32 ≤ length b.bytes.items
batch_size b p entries is = let some = is.some in let size = ap length is.bytes in omega (arith, size, some, length-append is.frames (replicate (zeros_behind b.fills) 0))

module _ (log entries : Log) (b : Batch) (held : IsHeld log) (is : IsSpelled (place log) entries b) where
  abbrev s : ℕ
  s = b.place / 65536

  abbrev at : ℕ
  at = b.place % 65536

  at_is : place log % 65536 ≡ at
  at_is = ap (λ p. p % 65536) (sym is.place)

  s_is : place log / 65536 ≡ s
  s_is = ap (λ p. p / 65536) (sym is.place)

  abbrev zeros : ℕ
  zeros = zeros_behind b.fills

  -- it ends its segment, or 32 zeros follow
  fill_cases : ((b.fills ≡ true) × (b.begin % 65536 + length is.frames ≡ 65536) × (zeros ≡ 0)) ⊎ ((b.fills ≡ false) × (b.begin % 65536 + length is.frames < 65536) × (zeros ≡ 32))
  fill_cases = elim (cases_Bool b.fills) [
    | inl full ↦ inl (full, eqb-true (b.begin % 65536 + length is.frames) 65536 (sym is.fills_is ∙ full), ap zeros_behind full)
    | inr more ↦ inr (more, (let ne = eqb-false (b.begin % 65536 + length is.frames) 65536 (sym is.fills_is ∙ more) in let within = is.within in omega (arith, ne, within)), ap zeros_behind more)
  ]

  module _ (here : b.begin ≡ b.place) where
    begin_is : b.begin ≡ place log
    begin_is = here ∙ is.place

    low : s < 256
    low = let below = is.low in omega (arith, below, here)

    zeros_fit : at + length is.frames + zeros ≤ 65536
    zeros_fit = elim fill_cases [
      | inl full ↦ omega (arith, full.1, full.2, here)
      | inr more ↦ (let whole = is.whole in let aligned = is.aligned in let place_is = is.place in omega (arith, more.1, more.2, here, whole, aligned, place_is))
    ]

    followed_is : at + length is.frames < 65536 → zeros ≡ 32
    followed_is short = elim fill_cases [ inl full ↦ absurd (omega (arith, full.1, here, short)) | inr more ↦ more.2 ]

    pub append_is : (head tail : List ℕ) → head ≡ take 31 b.bytes.items → tail ≡ drop 32 b.bytes.items → IsAppend log entries s at is.frames head tail
    append_is head tail first last = record {
      laid = is_laid log (have_bytes log held.events);
      segment = s_is;
      offset = at_is;
      spells = subst (λ p. IsBatch p entries is.frames) begin_is is.spells;
      some = is.some;
      open_gate = batch_gate b.begin entries is.frames is.spells is.some;
      front = first ∙ ap (take 31) is.bytes ∙ take_front 31 is.frames (replicate zeros 0) (let some = is.some in omega arith);
      zeros = zeros_behind b.fills;
      behind = last ∙ ap (drop 32) is.bytes ∙ drop_front 32 is.frames (replicate zeros 0) is.some;
      inside = zeros_fit;
      followed = followed_is;
    }

    -- within a segment, or to the end of the last one, no next segment is asked for
    pub is_ready : (b.fills ≡ true → 255 ≤ s) → (c : ℕ → List ℕ) → IsReady s at is.frames c
    is_ready last c full next = elim fill_cases [
      | inl fills ↦ (let least = last fills.0 in absurd (omega (arith, least, next)))
      | inr more ↦ absurd (omega (arith, more.1, here, full))
    ]

  module _ (ne : b.begin ≢ b.place) where
    ne_first : first_begin (place log) entries ≢ place log
    ne_first same = ne (is.begin ∙ same ∙ sym is.place)

    begin_next : b.begin ≡ (s + 1) * 65536
    begin_next = let parts = pads_needed (place log) entries ne_first in let begin = is.begin in let place_is = is.place in omega (arith, parts.1, begin, place_is)

    pub pad_low : s < 255
    pad_low = let below = is.low in omega (arith, below, begin_next)

    zeros_are : zeros ≡ 32
    zeros_are = elim fill_cases [
      | inl full ↦ (let behind = is.behind_pad (λ same. ne (same ∙ sym is.place)) in absurd (omega (arith, full.1, begin_next, behind)))
      | inr more ↦ more.2
    ]

    pub pad_is : (head tail : List ℕ) → head ≡ take 31 (pad_frame b.place) → tail ≡ b.bytes.items → IsPadded log entries s at is.frames head tail
    pad_is head tail first last = record {
      laid = is_laid log (have_bytes log held.events);
      segment = s_is;
      offset = at_is;
      room = (let aligned = is.aligned in let place_is = is.place in omega (arith, aligned, place_is));
      pads = (pads_needed (place log) entries ne_first).0;
      spells = subst (λ p. IsBatch p entries is.frames) begin_next is.spells;
      front = first ∙ ap (λ p. take 31 (pad_frame p)) is.place;
      behind = last ∙ is.bytes ∙ ap (λ n. is.frames ++ replicate n 0) zeros_are;
      inside = is.behind_pad (λ same. ne (same ∙ sym is.place));
    }

  -- the log ends before the segments do, with a closed gate
  place_low : b.place < 16777216
  place_low = let parts = begin_end (place log) (first_len entries) in let below = is.low in let begin = is.begin in let place_is = is.place in omega (arith, parts.0, below, begin, place_is)

  pub write_room : (c : ℕ → List ℕ) → LogIs log c → at + 32 ≤ length (c (2 + s))
  write_room c stands =
      let shut = (stands s (let low = place_low in omega (arith, low))).ends s_is (subst (λ k. k < 16777216) is.place place_low) in
      let fits = shut.fits in
      omega (arith, fits, at_is)
