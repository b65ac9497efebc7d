-- What the header of a frame shows.
use Rattle.std.proofs.Common.{◌≡◌, ◌≢◌, min, Ok, Result, inl, inr, ℕ, ◌+◌, ◌-◌, ◌%◌, ◌<◌, ◌≤◌, ◌^◌, false, List, [], ◌++◌, append_assoc, replicate, length, take, drop, get_or, refl, sym, ◌∙◌, ap, arith}
use Rattle.std.proofs.lemmas.List.{ext_get_or, get_or-take, get_or-drop, get_or_append_left}
use Rattle.wire_prims.specs.Fields.{u16_at, u32_at, le16, le32, u16_at-put, u32_at-put}
use Rattle.wire_prims.specs.Frames.{frame, header_bytes}
use Rattle.wire_prims.specs.Header.{aligned_to}
use Rattle.log_segment.specs.Segment.{IsAt, pad_frame}
use Rattle.log_segment.specs.Found.{MayStand, data_header}
use Rattle.log_segment.specs.Segment.{IsShut}
use Rattle.log_segment.specs.Found.{HeadSeen}
use Rattle.log_segment.specs.declared.scan.Turn.{Turn}
use Rattle.log_segment.specs.declared.scan.Turn.TheVariants.{First, Later}
use Rattle.log_segment.specs.declared.scan.Head.{Head}
use Rattle.log_segment.specs.declared.scan.Head.TheVariants as heads
use Rattle.log_segment.proofs.FrameLens.{length-header}
use Rattle.log_segment.proofs.PadLemmas.{pad_size}

pub header_rest : (n m flags p : ℕ) → drop 4 (data_header n flags p) ≡ drop 4 (data_header m flags p)
unfolding header_bytes le32 le16
header_rest n m flags p = refl

named_split : (n flags p : ℕ) → data_header n flags p ≡ [] ++ (le32 n ++ drop 4 (data_header n flags p))
unfolding header_bytes le32 le16
named_split n flags p = refl

pub header_named : (n flags p : ℕ) → n < 2 ^ 32 → u32_at 0 (data_header n flags p) ≡ n
header_named n flags p fits = ap (u32_at 0) (named_split n flags p) ∙ u32_at-put 0 n [] (drop 4 (data_header n flags p)) refl fits

pub header_version : (n flags p : ℕ) → get_or (data_header n flags p) 4 0 ≡ 0
unfolding header_bytes le32 le16
header_version n flags p = refl

pub header_flags : (n flags p : ℕ) → get_or (data_header n flags p) 5 0 ≡ flags
unfolding header_bytes le32 le16
header_flags n flags p = refl

pub header_gate : (n flags p : ℕ) → get_or (data_header n flags p) 31 0 ≡ 0x5A
unfolding header_bytes le32 le16
header_gate n flags p = refl

type_split : (n flags p : ℕ) → data_header n flags p ≡ take 6 (data_header n flags p) ++ (le16 1 ++ drop 8 (data_header n flags p))
unfolding header_bytes le32 le16
type_split n flags p = refl

type_size : (n flags p : ℕ) → length (take 6 (data_header n flags p)) ≡ 6
unfolding header_bytes le32 le16
type_size n flags p = refl

pub header_type : (n flags p : ℕ) → u16_at 6 (data_header n flags p) ≡ 1
header_type n flags p = ap (u16_at 6) (type_split n flags p) ∙ u16_at-put 6 1 (take 6 (data_header n flags p)) (drop 8 (data_header n flags p)) (type_size n flags p) (omega arith)

pad_split : (p : ℕ) → pad_frame p ≡ take 6 (pad_frame p) ++ (le16 0 ++ drop 8 (pad_frame p))
unfolding frame header_bytes le32 le16
pad_split p = refl

pad_front : (p : ℕ) → length (take 6 (pad_frame p)) ≡ 6
unfolding frame header_bytes le32 le16
pad_front p = refl

pub pad_type : (p : ℕ) → u16_at 6 (pad_frame p) ≡ 0
pad_type p = ap (u16_at 6) (pad_split p) ∙ u16_at-put 6 0 (take 6 (pad_frame p)) (drop 8 (pad_frame p)) (pad_front p) (omega arith)

abbrev pub behind : List ℕ → List ℕ
behind body = body ++ replicate {A = ℕ} (aligned_to (32 + length body) - (32 + length body)) 0

pub frame_split : (p flags : ℕ) (body : List ℕ) → frame p 0x5A flags false body ≡ data_header (32 + length body) flags p ++ behind body
unfolding frame
frame_split p flags body = append_assoc (data_header (32 + length body) flags p) body (replicate (aligned_to (32 + length body) - (32 + length body)) 0)

-- a frame begins with its header
pub frame_header : (p flags : ℕ) (body : List ℕ) → (i : ℕ) → i < 32 → get_or (frame p 0x5A flags false body) i 0 ≡ get_or (data_header (32 + length body) flags p) i 0
frame_header p flags body i below = ap (λ l. get_or l i 0) (frame_split p flags body) ∙ get_or_append_left (data_header (32 + length body) flags p) (behind body) 0 i (let size = length-header (32 + length body) flags 1 p 0x5A in omega (arith, size))

abbrev pub judged : Head → Result Head ℕ
judged h = Ok h

-- what a window on a file tells of its head
module _ (position : ℕ) (file window : List ℕ) (count : ℕ) (head : Head) (all : length window ≡ 32) (count_is : count ≡ min (length window) (length file - position % 65536)) (shows : take count window ≡ take count (drop (position % 65536) file)) where
  abbrev pub at : ℕ
  at = position % 65536

  in_file : (i : ℕ) → i < count → get_or window i 0 ≡ get_or file (at + i) 0
  in_file i below = sym (get_or-take count window i 0 below) ∙ ap (λ l. get_or l i 0) shows ∙ get_or-take count (drop at file) i 0 below ∙ get_or-drop at file i 0

  there : 32 ≤ count → at + 32 ≤ length file
  there long = omega (arith, count_is, all, long)

  pub head_seen : (h : Head) → head ≡ h → (judged head ≡ judged heads.Short → count < 32) → (judged head ≡ judged heads.Closed → (32 ≤ count) × (get_or window 31 0 ≢ 0x5A)) → (judged head ≡ judged heads.Pad → (32 ≤ count) × (window ≡ pad_frame position))
      → ((flags carried : ℕ) → judged head ≡ judged (heads.Data flags carried) → 32 ≤ count) → HeadSeen position file h
  head_seen heads.Short is short closed pad more = let less = short (ap judged is) in omega (arith, count_is, all, less)
  head_seen heads.Closed is short closed pad more = let parts = closed (ap judged is) in record { fits = there parts.0; gate = λ opened. parts.1 (in_file 31 (omega (arith, parts.0)) ∙ opened) }
  head_seen heads.Pad is short closed pad more =
      let parts = pad (ap judged is) in
      record {
        fits = let size = pad_size position in let long = there parts.0 in omega (arith, size, long);
        same = λ i below. let size = pad_size position in sym (in_file i (omega (arith, size, below, parts.0))) ∙ ap (λ l. get_or l i 0) parts.1;
      }
  head_seen (heads.Data flags carried) is short closed pad more = there (more flags carried (ap judged is))

  -- the window has all that stands there
  pub long_enough : (bytes : List ℕ) → length bytes ≡ 32 → IsAt at bytes file → 32 ≤ count
  long_enough bytes size stands = let fits = stands.fits in omega (arith, count_is, all, size, fits)

  pub window_has : (bytes : List ℕ) → length bytes ≡ 32 → IsAt at bytes file → window ≡ bytes
  window_has bytes size stands = ext_get_or 0 window bytes (all ∙ sym size) (λ i within.
      in_file i (let long = long_enough bytes size stands in omega (arith, long, within, all)) ∙ stands.same i (omega (arith, within, all, size)))

  pub long_shut : IsShut at file → 32 ≤ count
  long_shut shut = let fits = shut.fits in omega (arith, count_is, all, fits)

  pub gate_shut : IsShut at file → get_or window 31 0 ≢ 0x5A
  gate_shut shut opened = shut.gate (sym (in_file 31 (let long = long_shut shut in omega (arith, long))) ∙ opened)

-- ---- headers beside each other

empty_frame : (p flags : ℕ) → frame p 0x5A flags false [] ≡ data_header 32 flags p
unfolding frame header_bytes le32 le16
empty_frame p flags = refl

pub wanted_header : (p flags n : ℕ) (out : List ℕ) (i : ℕ) → out ≡ frame p 0x5A flags false [] → 4 ≤ i → get_or (data_header n flags p) i 0 ≡ get_or out i 0
wanted_header p flags n out i is past =
    let back : 4 + (i - 4) ≡ i = omega (arith, past) in
    let at_place : (l : List ℕ) → get_or l i 0 ≡ get_or (drop 4 l) (i - 4) 0 = λ l. ap (λ k. get_or l k 0) (sym back) ∙ sym (get_or-drop 4 l (i - 4) 0) in
    at_place (data_header n flags p) ∙ ap (λ l. get_or l (i - 4) 0) (header_rest n 32 flags p) ∙ sym (at_place (data_header 32 flags p)) ∙ ap (λ l. get_or l i 0) (sym (is ∙ empty_frame p flags))

pub may_small : (turn : Turn) (flags carried : ℕ) → MayStand turn flags carried → carried ≤ 1376
may_small First flags carried (inl is) = is.1
may_small First flags carried (inr is) = omega (arith, is.1)
may_small Later flags carried (inl is) = omega (arith, is.1)
may_small Later flags carried (inr is) = is.2
