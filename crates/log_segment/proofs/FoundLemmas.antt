-- The header of an event's frame, and what stands behind that frame.
use Rattle.std.proofs.Common.{◌≡◌, ◌⊎◌, inl, inr, ℕ, ◌+◌, ◌-◌, ◌*◌, ◌<◌, ◌≤◌, false, List, length, take, drop, refl, sym, ◌∙◌, ap, subst, arith, length-take, length-drop}
use Rattle.std.proofs.lemmas.Bool.{cases_lt}
use Rattle.wire_prims.specs.Header.{aligned_to}
use Rattle.wire_prims.specs.Frames.{frame}
use Rattle.entry_log.specs.Log.{frames_len}
use Rattle.log_segment.specs.Segment.{entry_frames, later_frames, IsAt}
use Rattle.log_segment.specs.Found.{MayStand, data_header}
use Rattle.log_segment.specs.declared.scan.Found.{Found}
use Rattle.log_segment.specs.declared.scan.Found.TheVariants as found
use Rattle.log_segment.specs.declared.scan.Head.{Head}
use Rattle.log_segment.specs.declared.scan.Head.TheVariants as heads
use Rattle.log_segment.specs.declared.scan.Turn.TheVariants.{First, Later}
use Rattle.log_segment.proofs.AppendLemmas.{at_front, at_rest}
use Rattle.log_segment.proofs.FrameLens.{length-frame, frames_small, frames_more}
use Rattle.log_segment.proofs.SpellLemmas.{short_later, long_later, short_entry, long_entry}
use Rattle.log_segment.proofs.HeadLemmas.{frame_split, behind}

-- a frame's header stands where the frame does
header_at : (at p flags : ℕ) (body file : List ℕ) → IsAt at (frame p 0x5A flags false body) file → IsAt at (data_header (32 + length body) flags p) file
header_at at p flags body file stands = at_front at (data_header (32 + length body) flags p) (behind body) file (subst (λ l. IsAt at l file) (frame_split p flags body) stands)

-- a later frame: the last, or a full one with others behind it
pub record LaterHead (more p at : ℕ) (rest file : List ℕ) : Type 0 where
  pub flags : ℕ
  pub carried : ℕ
  pub may : MayStand Later flags carried
  pub stands : IsAt at (data_header (32 + carried) flags p) file
  pub frames : aligned_to (32 + carried) ≤ frames_len (length rest)
  pub kind : ((flags ≡ 0x40) × (carried ≡ length rest)) ⊎ ((flags ≡ 0) × (carried ≡ 1376) × (1376 < length rest) × (frames_len (length rest) ≡ 1408 + frames_len (length (drop 1376 rest))) × IsAt (at + 1408) (later_frames (more - 1) (p + 1408) (drop 1376 rest)) file)

pub later_head : (more p at : ℕ) (rest file : List ℕ) → 0 < length rest → length rest ≤ 1376 * (more + 1) → IsAt at (later_frames more p rest) file → LaterHead more p at rest file
later_head more p at rest file some few stands = elim (cases_lt 1376 (length rest)) [
  | inl long ↦
      let first = frame p 0x5A 0 false (take 1376 rest) in
      let behind_it = later_frames (more - 1) (p + 1408) (drop 1376 rest) in
      let parts = subst (λ l. IsAt at l file) (long_later more p rest (omega (arith, few, long)) long) stands in
      let size : length (take 1376 rest) ≡ 1376 = omega (arith, length-take 1376 rest, long) in
      let whole : length first ≡ 1408 = length-frame p 0x5A 0 false (take 1376 rest) ∙ ap (λ k. aligned_to (32 + k)) size in
      let more_frames : frames_len (length rest) ≡ 1408 + frames_len (length (drop 1376 rest)) = frames_more (length rest) (omega (arith, long)) ∙ ap (λ k. 1408 + frames_len k) (sym (length-drop 1376 rest)) in
      record {
        flags = 0;
        carried = 1376;
        may = inl (refl, refl);
        stands = subst (λ k. IsAt at (data_header (32 + k) 0 p) file) size (header_at at p 0 (take 1376 rest) file (at_front at first behind_it file parts));
        frames = omega (arith, more_frames);
        kind = inr (refl, refl, long, more_frames, subst (λ k. IsAt (at + k) behind_it file) whole (at_rest at first behind_it file parts));
      }
  | inr short ↦ record {
    flags = 0x40;
    carried = length rest;
    may = inr (refl, some, short);
    stands = header_at at p 0x40 rest file (subst (λ l. IsAt at l file) (short_later more p rest short) stands);
    frames = (let small = frames_small (length rest) some short in omega (arith, small));
    kind = inl (refl, refl);
  }
]

-- a first frame: the only one, or a full one with others behind it
pub record FirstHead (p at : ℕ) (event file : List ℕ) : Type 0 where
  pub flags : ℕ
  pub carried : ℕ
  pub may : MayStand First flags carried
  pub stands : IsAt at (data_header (32 + carried) flags p) file
  pub frames : aligned_to (32 + carried) ≤ frames_len (length event)
  pub kind : ((flags ≡ 0xC0) × (carried ≡ length event)) ⊎ ((flags ≡ 0x80) × (carried ≡ 1376) × (1376 < length event) × (frames_len (length event) ≡ 1408 + frames_len (length (drop 1376 event))) × IsAt (at + 1408) (later_frames (length event) (p + 1408) (drop 1376 event)) file)

pub first_head : (p at : ℕ) (event file : List ℕ) → 0 < length event → IsAt at (entry_frames p event) file → FirstHead p at event file
first_head p at event file some stands = elim (cases_lt 1376 (length event)) [
  | inl long ↦
      let first = frame p 0x5A 0x80 false (take 1376 event) in
      let behind_it = later_frames (length event) (p + 1408) (drop 1376 event) in
      let parts = subst (λ l. IsAt at l file) (long_entry p event long) stands in
      let size : length (take 1376 event) ≡ 1376 = omega (arith, length-take 1376 event, long) in
      let whole : length first ≡ 1408 = length-frame p 0x5A 0x80 false (take 1376 event) ∙ ap (λ k. aligned_to (32 + k)) size in
      let more_frames : frames_len (length event) ≡ 1408 + frames_len (length (drop 1376 event)) = frames_more (length event) (omega (arith, long)) ∙ ap (λ k. 1408 + frames_len k) (sym (length-drop 1376 event)) in
      record {
        flags = 0x80;
        carried = 1376;
        may = inr (refl, refl);
        stands = subst (λ k. IsAt at (data_header (32 + k) 0x80 p) file) size (header_at at p 0x80 (take 1376 event) file (at_front at first behind_it file parts));
        frames = omega (arith, more_frames);
        kind = inr (refl, refl, long, more_frames, subst (λ k. IsAt (at + k) behind_it file) whole (at_rest at first behind_it file parts));
      }
  | inr short ↦ record {
    flags = 0xC0;
    carried = length event;
    may = inl (refl, short);
    stands = header_at at p 0xC0 event file (subst (λ l. IsAt at l file) (short_entry p event short) stands);
    frames = (let small = frames_small (length event) some short in omega (arith, small));
    kind = inl (refl, refl);
  }
]

-- what is data is what was found
abbrev data_of : ℕ → ℕ → Head
data_of flags carried = heads.Data flags carried

pub same_data : (a b f c : ℕ) → data_of a b ≡ data_of f c → (a ≡ f) × (b ≡ c)
same_data a b f c is = (cc, cc)

abbrev short_head : Head
short_head = heads.Short

abbrev closed_head : Head
closed_head = heads.Closed

abbrev pad_head : Head
pad_head = heads.Pad

pub not_short : (f c : ℕ) → short_head ≡ data_of f c → ⊥
not_short f c is = cc

pub not_closed : (f c : ℕ) → closed_head ≡ data_of f c → ⊥
not_closed f c is = cc

pub not_pad : (f c : ℕ) → pad_head ≡ data_of f c → ⊥
not_pad f c is = cc

abbrev pub event_of : ℕ → Found
event_of n = found.Event n

abbrev short_found : Found
short_found = found.Short

abbrev closed_found : Found
closed_found = found.Closed

abbrev pad_found : Found
pad_found = found.Pad

pub same_event : (a b : ℕ) → event_of a ≡ event_of b → a ≡ b
same_event a b is = cc

pub short_event : (n : ℕ) → short_found ≡ event_of n → ⊥
short_event n is = cc

pub closed_event : (n : ℕ) → closed_found ≡ event_of n → ⊥
closed_event n is = cc

pub pad_event : (n : ℕ) → pad_found ≡ event_of n → ⊥
pad_event n is = cc

pub short_pad : short_found ≡ pad_found → ⊥
short_pad is = cc

pub closed_pad : closed_found ≡ pad_found → ⊥
closed_pad is = cc

pub event_pad : (n : ℕ) → event_of n ≡ pad_found → ⊥
event_pad n is = cc

pub short_closed : short_found ≡ closed_found → ⊥
short_closed is = cc

pub pad_closed : pad_found ≡ closed_found → ⊥
pad_closed is = cc

pub event_closed : (n : ℕ) → event_of n ≡ closed_found → ⊥
event_closed n is = cc
