-- What stands behind the entries that were read.
use Rattle.std.specs.Prelude.{Some, None}
use Rattle.std.proofs.Common.{◌≡◌, ℕ, ◌+◌, ◌-◌, ◌/◌, ◌%◌, ◌<◌, ◌≤◌, ◌≤ℤ◌, ℤ, negsuc, List, [], ◌∷◌, ◌++◌, length, Option, Result, refl, sym, ◌∙◌, ap, subst, arith}
use Rattle.cl_base.specs.declared.fault.MemberFault.{MemberFault}
use Rattle.log_segment.specs.Looked.{IsOnly}
use Rattle.cl_base.specs.declared.entry.Entry.{Entry}
use Rattle.entry_log.specs.Log.{Log, RisesFrom, last, last_from, place, end_after, frames_len}
use Rattle.log_segment.specs.Segment.{EventIn, IsAt, IsShut, LogIs, begin_at, entry_frames, pad_frame}
use Rattle.log_segment.specs.Held.{IsEventEntry, IsHeld}
use Rattle.log_segment.proofs.AppendLemmas.{fits_here}
use Rattle.log_segment.proofs.PadLemmas.{pad_begins, pad_ends}
use Rattle.log_segment.proofs.CutLemmas.{entries_front}
use Rattle.log_segment.proofs.FrameLens.{frames_some}
use Rattle.log_segment.proofs.HeldLemmas.{ranged}
use Rattle.log_segment.proofs.KeepLemmas.{event_at, end_room, kept_low}

rises_at : (t : ℤ) (kept rest : Log) (e : Entry) → RisesFrom t (kept ++ e ∷ rest) → last_from t kept ≤ℤ e.term
rises_at t [] rest e rises = rises.0
rises_at t (x ∷ xs) rest e rises = rises_at x.term xs rest e rises.1

-- the entry behind the kept ones
module _ (log kept rest : Log) (e : Entry) (whole : log ≡ kept ++ e ∷ rest) (held : IsHeld log) where
  pub next_event : IsEventEntry e
  next_event = event_at log kept rest e whole held.events

  pub next_high : last kept ≤ℤ e.term
  next_high = rises_at (negsuc 0) kept rest e (subst (λ (l : Log). RisesFrom (negsuc 0) l) whole held.rises)

  pub next_room : end_after (place kept) (length e.bytes) ≤ 16777216
  next_room = end_room log kept rest e whole held

  pub next_low : place kept < 16777216
  next_low = kept_low log kept rest e whole held

  pub next_in : (c : ℕ → List ℕ) → LogIs log c → (s : ℕ) → s < 256 → EventIn s (c (2 + s)) (place kept) e.bytes
  next_in c stands s low = (entries_front s (c (2 + s)) 0 kept (e ∷ rest) (subst (λ l. LogIs l c) whole stands s low).entries).1.0

-- the closed gate behind them
append_none : (log : Log) → log ++ [] ≡ log
append_none [] = refl
append_none (x ∷ xs) = ap (λ (l : Log). x ∷ l) (append_none xs)

pub all_read : (log kept : Log) → log ≡ kept ++ [] → kept ≡ log
all_read log kept whole = sym (whole ∙ append_none kept)

pub end_shut : (log kept : Log) (c : ℕ → List ℕ) → log ≡ kept ++ [] → LogIs log c → place kept < 16777216 → IsShut (place kept % 65536) (c (2 + place kept / 65536))
end_shut log kept c whole stands low = (subst (λ l. LogIs l c) (whole ∙ append_none kept) stands (place kept / 65536) (omega (arith, low))).ends refl low

abbrev pub some_of : Entry → Option Entry
some_of e = Some e

abbrev none_of : Option Entry
none_of = None

pub some_none : (e : Entry) → none_of ≡ some_of e → ⊥
some_none e is = cc

pub none_some : (e : Entry) → some_of e ≡ none_of → ⊥
none_some e is = cc

pub same_some : (a b : Entry) → some_of a ≡ some_of b → a ≡ b
same_some a b is = cc

-- ---- what stands where an entry was written: its frames, or a pad before them

module _ (p : ℕ) (e : Entry) (is : IsEventEntry e) (low : p < 16777216) (room : end_after p (length e.bytes) ≤ 16777216) (c : ℕ → List ℕ) (events : (s : ℕ) → s < 256 → EventIn s (c (2 + s)) p e.bytes) where
  abbrev pub n : ℕ
  n = length e.bytes

  abbrev pub q : ℕ
  q = p + (65536 - p % 65536)

  some : 0 < n
  some = let least = (ranged e is).least in omega (arith, least)

  pub fits_frames : frames_len n ≤ 65536 - p % 65536 → (p % 65536 + frames_len n ≤ 65536) × IsAt (p % 65536) (entry_frames p e.bytes) (c (2 + p / 65536))
  fits_frames fits =
      let begins = fits_here p n fits in
      let here = (events (p / 65536) (omega (arith, low))).frames (ap (λ b. b / 65536) begins) in
      (omega (arith, fits), subst (λ b. IsAt (b % 65536) (entry_frames b e.bytes) (c (2 + p / 65536))) begins here)

  pub pad_before : 65536 - p % 65536 < frames_len n → IsAt (p % 65536) (pad_frame p) (c (2 + p / 65536))
  pad_before long = (events (p / 65536) (omega (arith, low))).pad (λ same. absurd (let begins = pad_begins p n q long refl in omega (arith, begins, same))) refl

  pub next_low_begin : 65536 - p % 65536 < frames_len n → q < 16777216
  next_low_begin long = let ends = pad_ends p n q long refl in let frames = frames_some n some in omega (arith, ends, room, frames.0)

  pub padded_in : (long : 65536 - p % 65536 < frames_len n) → EventIn (begin_at p n / 65536) (c (2 + begin_at p n / 65536)) p e.bytes
  padded_in long = let begins = pad_begins p n q long refl in let under = next_low_begin long in events (begin_at p n / 65536) (omega (arith, begins, under))

-- the frames behind a pad
pub padded_frames : (p n : ℕ) (event file : List ℕ) → length event ≡ n → 65536 - p % 65536 < frames_len n → EventIn (begin_at p n / 65536) file p event → IsAt ((p + (65536 - p % 65536)) % 65536) (entry_frames (p + (65536 - p % 65536)) event) file
padded_frames p n event file size long is =
    let begins : begin_at p (length event) ≡ p + (65536 - p % 65536) = ap (begin_at p) size ∙ pad_begins p n (p + (65536 - p % 65536)) long refl in
    subst (λ b. IsAt (b % 65536) (entry_frames b event) file) begins (is.frames (ap (λ k. begin_at p k / 65536) size))

pub padded_stands : (p : ℕ) (event : List ℕ) (c : ℕ → List ℕ) → 65536 - p % 65536 < frames_len (length event) → IsAt (p % 65536) (pad_frame p) (c (2 + p / 65536))
    → IsAt ((p + (65536 - p % 65536)) % 65536) (entry_frames (p + (65536 - p % 65536)) event) (c (2 + (p + (65536 - p % 65536)) / 65536)) → (s : ℕ) → s < 256 → EventIn s (c (2 + s)) p event
padded_stands p event c long pad_there there s low =
    let begins = pad_begins p (length event) (p + (65536 - p % 65536)) long refl in
    record {
      pad = λ ne here. subst (λ k. IsAt (p % 65536) (pad_frame p) (c (2 + k))) here pad_there;
      frames = λ here. subst (λ k. IsAt (begin_at p (length event) % 65536) (entry_frames (begin_at p (length event)) event) (c (2 + k))) here (subst (λ b. IsAt (b % 65536) (entry_frames b event) (c (2 + b / 65536))) (sym begins) there);
    }

-- ---- what a read finds behind the kept entries

abbrev pub first_of : Log → Option Entry
first_of [] = None
first_of (e ∷ es) = Some e

pub none_first : (rest : Log) → None ≡ first_of rest → rest ≡ []
none_first [] is = refl
none_first (e ∷ es) is = absurd (some_none e is)

pub some_first : (e : Entry) (rest : Log) → Some e ≡ first_of rest → (more : Log) × (rest ≡ e ∷ more)
some_first e [] is = absurd (none_some e is)
some_first e (x ∷ xs) is = (xs, ap (λ (v : Entry). v ∷ xs) (sym (same_some e x is)))

module _ (log kept : Log) (held : IsHeld log) (c0 c1 : ℕ → List ℕ) (same : (f : ℕ) → c1 f ≡ c0 f) (stands : LogIs log c0) (p : ℕ) (t : ℤ) (place_is : p ≡ place kept) (term_is : t ≡ last kept) (low : place kept < 16777216) (r : Result (Option Entry) MemberFault)
    (exact_end : IsShut (p % 65536) (c1 (2 + p / 65536)) → IsOnly None r) (exact : (e : Entry) → IsEventEntry e → t ≤ℤ e.term → end_after p (length e.bytes) ≤ 16777216 → ((s : ℕ) → s < 256 → EventIn s (c1 (2 + s)) p e.bytes) → IsOnly (Some e) r) where
  pub next_only : (rest : Log) → log ≡ kept ++ rest → IsOnly (first_of rest) r
  next_only [] whole = exact_end (subst (λ l. IsShut (p % 65536) l) (sym (same (2 + p / 65536))) (subst (λ k. IsShut (k % 65536) (c0 (2 + k / 65536))) (sym place_is) (end_shut log kept c0 whole stands low)))
  next_only (e ∷ rest) whole = exact e (next_event log kept rest e whole held) (subst (λ (z : ℤ). z ≤ℤ e.term) (sym term_is) (next_high log kept rest e whole held)) (subst (λ k. end_after k (length e.bytes) ≤ 16777216) (sym place_is) (next_room log kept rest e whole held))
      (λ s under. subst (λ l. EventIn s l p e.bytes) (sym (same (2 + s))) (subst (λ k. EventIn s (c0 (2 + s)) k e.bytes) (sym place_is) (next_in log kept rest e whole held c0 stands s under)))

-- a log that fills the segments has no entry more
pub full_log : (log kept : Log) → IsHeld log → (rest : Log) → log ≡ kept ++ rest → 16777216 ≤ place kept → kept ≡ log
full_log log kept held [] whole full = all_read log kept whole
full_log log kept held (e ∷ rest) whole full = absurd (let low = next_low log kept rest e whole held in omega (arith, low, full))
