-- A held log, its first entries, and the entry behind them.
use Rattle.std.proofs.Common.{◌≡◌, ℕ, zero, suc, ◌+◌, ◌/◌, ◌%◌, ◌<◌, ◌≤◌, ℤ, negsuc, List, [], ◌∷◌, ◌++◌, length, take, drop, get_or, refl, sym, ◌∙◌, ap, subst, arith, length-take}
use Rattle.std.specs.Prelude.{All}
use Rattle.cl_base.specs.declared.entry.Entry.{Entry}
use Rattle.entry_log.specs.Log.{Log, last, last_from, place, place_from, end_after}
use Rattle.entry_log.specs.Shape.{Shape, shape_of, entry_shape, lens_of, end_of, end_from, last_term_of, last_term_from}
use Rattle.log_segment.specs.Segment.{LogIs, begin_at}
use Rattle.log_segment.specs.Cuts.{IsCut}
use Rattle.log_segment.specs.Held.{IsEventEntry, IsHeld, IsRanged}
use Rattle.log_segment.proofs.AppendLemmas.{place_more}
use Rattle.log_segment.proofs.FrameLens.{frames_some}
use Rattle.log_segment.proofs.LogReads.{is_laid, begin_end, entry_there}
use Rattle.log_segment.proofs.HeldLemmas.{held_take, have_bytes, ranged, place_up, all_first, all_rest, all_with}
use Rattle.log_segment.proofs.TogetherLemmas.{place_aligned}

-- an entry ends behind the place where it is written
pub end_above : (p n : ℕ) → 0 < n → p < end_after p n
end_above p n some = let parts = begin_end p n in let frames = frames_some n some in omega (arith, parts.0, parts.1, frames.0)

-- the elements from one on
pub drop_here : {X : Type 0} (xs : List X) (i : ℕ) (x : X) → i < length xs → x ≡ get_or xs i x → drop i xs ≡ x ∷ drop (i + 1) xs
drop_here [] i x below is = absurd (omega (arith, below))
drop_here (y ∷ ys) zero x below is = ap (λ v. v ∷ ys) (sym is)
drop_here (y ∷ ys) (suc i) x below is =
    let next : suc (i + 1) ≡ suc i + 1 = omega arith in
    subst (λ k. drop (suc i) (y ∷ ys) ≡ x ∷ drop k (y ∷ ys)) next (drop_here ys i x (omega (arith, below)) is)

pub take_front : {X : Type 0} (n : ℕ) (a b : List X) → n ≤ length a → take n (a ++ b) ≡ take n a
take_front zero a b fits = refl
take_front (suc n) [] b fits = absurd (omega (arith, fits))
take_front (suc n) (x ∷ xs) b fits = ap (λ l. x ∷ l) (take_front n xs b (omega (arith, fits)))

last_from_more : (t : ℤ) (log : Log) (e : Entry) → last_from t (log ++ e ∷ []) ≡ e.term
last_from_more t [] e = refl
last_from_more t (x ∷ xs) e = last_from_more x.term xs e

pub last_more : (log : Log) (e : Entry) → last (log ++ e ∷ []) ≡ e.term
last_more log e = last_from_more (negsuc 0) log e

-- a log has no more entries than bytes
pub length_room : (p : ℕ) (log : Log) → All IsEventEntry log → p + length log ≤ place_from p log
length_room p [] all = omega arith
length_room p (x ∷ xs) all =
    let least = (ranged x (all_first IsEventEntry x xs all)).least in
    let above = end_above p (length x.bytes) (omega (arith, least)) in
    let rest = length_room (end_after p (length x.bytes)) xs (all_rest IsEventEntry x xs all) in
    omega (arith, above, rest)

pub record IsSplit (log : Log) (n : ℕ) : Type 0 where
  pub entry : Entry
  pub rest : Log
  pub whole : log ≡ take n log ++ entry ∷ rest

pub split : (log : Log) (n : ℕ) → n < length log → IsSplit log n
split [] n below = absurd (omega (arith, below))
split (x ∷ xs) zero below = record { entry = x; rest = xs; whole = refl }
split (x ∷ xs) (suc n) below = let more = split xs n (omega (arith, below)) in record { entry = more.entry; rest = more.rest; whole = ap (λ (l : Log). x ∷ l) more.whole }

pub split_count : (log : Log) (n : ℕ) → n < length log → length (take n log) ≡ n
split_count log n below = omega (arith, length-take n log, below)

pub event_at : (log kept rest : Log) (e : Entry) → log ≡ kept ++ e ∷ rest → All IsEventEntry log → IsEventEntry e
event_at log kept rest e whole all = in_parts kept (subst (All IsEventEntry) whole all)
  where
    in_parts : (kept : Log) → All IsEventEntry (kept ++ e ∷ rest) → IsEventEntry e
    in_parts [] all = all_first IsEventEntry e rest all
    in_parts (x ∷ xs) all = in_parts xs (all_rest IsEventEntry x (xs ++ e ∷ rest) all)

module _ (log kept rest : Log) (e : Entry) (whole : log ≡ kept ++ e ∷ rest) (held : IsHeld log) where
  event : IsEventEntry e
  event = event_at log kept rest e whole held.events

  -- the entry ends within the segments
  pub end_room : end_after (place kept) (length e.bytes) ≤ 16777216
  end_room =
      let all : place log ≡ place_from (end_after (place kept) (length e.bytes)) rest = ap place whole ∙ place_more 0 kept (e ∷ rest) in
      let up = place_up (end_after (place kept) (length e.bytes)) rest in
      let room = held.room in
      omega (arith, all, up, room)

  pub kept_low : place kept < 16777216
  kept_low = let least = (ranged e event).least in let above = end_above (place kept) (length e.bytes) (omega (arith, least)) in omega (arith, above, end_room)

module _ (log : Log) (n : ℕ) (held : IsHeld log) (below : n < length log) where
  parts : IsSplit log n
  parts = split log n below

  pub cut_low : place (take n log) < 16777216
  cut_low = kept_low log (take n log) parts.rest parts.entry parts.whole held

  pub cut_is : IsCut log (take n log) (place (take n log) / 65536) (place (take n log) % 65536)
  cut_is = record {
    first = parts.entry;
    rest = parts.rest;
    whole = parts.whole;
    laid = is_laid (take n log) (have_bytes (take n log) (held_take n log held).events);
    segment = refl;
    offset = refl;
  }

pub held_aligned : (log : Log) → IsHeld log → place log % 32 ≡ 0
held_aligned log held = place_aligned 0 log (have_bytes log held.events) refl

-- ---- what an index says of the entry behind the kept ones

pub len_at : (kept rest : Log) (e : Entry) → get_or (lens_of (shape_of (kept ++ e ∷ rest))) (length kept) 0 ≡ length e.bytes
len_at [] rest e = refl
len_at (x ∷ xs) rest e = len_at xs rest e

term_from : (t : ℤ) (kept rest : Log) (e : Entry) → last_term_from t (take (suc (length kept)) (shape_of (kept ++ e ∷ rest))) ≡ e.term
term_from t [] rest e = refl
term_from t (x ∷ xs) rest e = term_from x.term xs rest e

pub term_at : (kept rest : Log) (e : Entry) → last_term_of (take (suc (length kept)) (shape_of (kept ++ e ∷ rest))) ≡ e.term
term_at kept rest e = term_from (negsuc 0) kept rest e

place_after : (p : ℕ) (kept rest : Log) (e : Entry) → end_from p (take (length kept) (shape_of (kept ++ e ∷ rest))) ≡ place_from p kept
place_after p [] rest e = refl
place_after p (x ∷ xs) rest e = place_after (end_after p (length x.bytes)) xs rest e

pub place_at : (kept rest : Log) (e : Entry) → end_of (take (length kept) (shape_of (kept ++ e ∷ rest))) ≡ place kept
place_at kept rest e = place_after 0 kept rest e

-- an entry of a log, by what its index says of it
module _ (log kept rest : Log) (e : Entry) (whole : log ≡ kept ++ e ∷ rest) (held : IsHeld log) (xs : Shape) (is : xs ≡ shape_of log) (n : ℕ) (count : length kept ≡ n) where
  shape_is : xs ≡ shape_of (kept ++ e ∷ rest)
  shape_is = is ∙ ap shape_of whole

  pub read_len : (len : ℕ) → len ≡ get_or (lens_of xs) n 0 → len ≡ length e.bytes
  read_len len at = at ∙ ap (λ (l : Shape). get_or (lens_of l) n 0) shape_is ∙ ap (λ k. get_or (lens_of (shape_of (kept ++ e ∷ rest))) k 0) (sym count) ∙ len_at kept rest e

  pub read_term : (t : ℤ) (m : ℕ) → m ≡ n + 1 → t ≡ last_term_of (take m xs) → t ≡ e.term
  read_term t m next at =
      let m_is : m ≡ suc (length kept) = omega (arith, next, count) in
      at ∙ ap (λ (l : Shape). last_term_of (take m l)) shape_is ∙ ap (λ k. last_term_of (take k (shape_of (kept ++ e ∷ rest)))) m_is ∙ term_at kept rest e

  pub read_place : (p : ℕ) → p ≡ end_of (take n xs) → p ≡ place kept
  read_place p at = at ∙ ap (λ (l : Shape). end_of (take n l)) shape_is ∙ ap (λ k. end_of (take k (shape_of (kept ++ e ∷ rest)))) (sym count) ∙ place_at kept rest e

  pub read_ranged : IsRanged (entry_shape e)
  read_ranged = ranged e (event_at log kept rest e whole held.events)

  pub read_event_at : IsEventEntry e
  read_event_at = event_at log kept rest e whole held.events

  pub read_begin : begin_at (place kept) (length e.bytes) < 16777216
  read_begin =
      let parts = begin_end (place kept) (length e.bytes) in
      let least = read_ranged.least in
      let frames = frames_some (length e.bytes) (omega (arith, least)) in
      let room = end_room log kept rest e whole held in
      omega (arith, parts.1, frames.0, room)

  pub read_aligned : place kept % 32 ≡ 0
  read_aligned = place_aligned 0 kept (have_bytes kept (front_events kept (subst (All IsEventEntry) whole held.events))) refl
    where
      front_events : (kept : Log) → All IsEventEntry (kept ++ e ∷ rest) → All IsEventEntry kept
      front_events [] all = λ k d below. absurd (omega (arith, below))
      front_events (x ∷ xs) all = all_with IsEventEntry x xs (all_first IsEventEntry x (xs ++ e ∷ rest) all) (front_events xs (all_rest IsEventEntry x (xs ++ e ∷ rest) all))

  pub read_fits : (c : ℕ → List ℕ) → LogIs log c → begin_at (place kept) (length e.bytes) % 65536 ≤ length (c (2 + begin_at (place kept) (length e.bytes) / 65536))
  read_fits c stands =
      let there = entry_there kept rest e c (begin_at (place kept) (length e.bytes)) (subst (λ l. LogIs l c) whole stands) refl read_begin in
      let fits = there.fits in
      omega arith
