-- A batch by its limits: its frames stand one after the other in one segment.
use Rattle.std.proofs.Common.{◌≡◌, inl, inr, ⊎_elim, ℕ, ◌+◌, ◌-◌, ◌*◌, ◌/◌, ◌%◌, ◌<◌, ◌≤◌, ◌==◌, [], ◌∷◌, length, refl, ◌∙◌, ap, subst, arith}
use Rattle.std.specs.Prelude.{All}
use Rattle.std.proofs.lemmas.Bool.{cases_eq, cases_lt, cond-true, cond-false, eq-eqb, ne_eqb}
use Rattle.entry_log.specs.Log.{Log, frames_len, end_after, place_from}
use Rattle.log_segment.specs.Segment.{begin_at}
use Rattle.log_segment.specs.Batch.{IsBatchAt, AllIn, AreTogether, segment_of, event_bytes, frames_of, first_len, first_begin}
use Rattle.log_segment.specs.Held.{IsEventEntry}
use Rattle.log_segment.specs.Reads.{HaveBytes}
use Rattle.log_segment.proofs.AppendLemmas.{fits_here, ends_here}
use Rattle.log_segment.proofs.PadLemmas.{pad_begins, pad_ends}
use Rattle.log_segment.proofs.FrameLens.{frames_some}
use Rattle.log_segment.proofs.LogReads.{begin_end, frames_bound}
use Rattle.log_segment.proofs.HeldLemmas.{ranged, all_first, all_rest}

-- frames have twice the event's bytes at most, and 63
pub frames_twice : (n : ℕ) → frames_len n ≤ 2 * n + 63
frames_twice n = elim (cases_eq (n % 1376) 0) [
  | inl none ↦ let is = ap (λ k. n / 1376 * 1408 + k) (cond-true ((n % 1376) == 0) 0 ((32 + n % 1376 + 31) / 32 * 32) (eq-eqb (n % 1376) 0 none)) in omega (arith, none, is)
  | inr ne ↦ let is = ap (λ k. n / 1376 * 1408 + k) (cond-false ((n % 1376) == 0) 0 ((32 + n % 1376 + 31) / 32 * 32) (ne_eqb (n % 1376) 0 ne)) in omega (arith, is)
]

-- and no fewer bytes than the event
pub frames_least : (n : ℕ) → n ≤ frames_len n
frames_least n = elim (cases_eq (n % 1376) 0) [
  | inl none ↦ let is = ap (λ k. n / 1376 * 1408 + k) (cond-true ((n % 1376) == 0) 0 ((32 + n % 1376 + 31) / 32 * 32) (eq-eqb (n % 1376) 0 none)) in omega (arith, none, is)
  | inr ne ↦ let is = ap (λ k. n / 1376 * 1408 + k) (cond-false ((n % 1376) == 0) 0 ((32 + n % 1376 + 31) / 32 * 32) (ne_eqb (n % 1376) 0 ne)) in omega (arith, is)
]

all_frames_twice : (entries : Log) → frames_of entries ≤ 2 * event_bytes entries + 63 * length entries
all_frames_twice [] = omega arith
all_frames_twice (e ∷ es) = let one = frames_twice (length e.bytes) in let rest = all_frames_twice es in omega (arith, one, rest)

one_small : (entries : Log) → All IsEventEntry entries → length entries ≤ 1 → event_bytes entries ≤ 16416
one_small [] all one = omega arith
one_small (e ∷ []) all one = let most = (ranged e (all_first IsEventEntry e [] all)).most in omega (arith, most)
one_small (e ∷ x ∷ es) all one = absurd (omega (arith, one))

-- a batch leaves room for a closed gate in a segment of its own
pub batch_small : (p : ℕ) (entries : Log) → IsBatchAt p entries → All IsEventEntry entries → frames_of entries + 32 ≤ 65536
batch_small p entries is all =
    let twice = all_frames_twice entries in
    let few = is.few in
    let bytes : event_bytes entries ≤ 16416 = ⊎_elim (λ one. one_small entries all one) (λ small. omega (arith, small)) is.small in
    omega (arith, twice, few, bytes)

-- where an entry that ends in this segment is written in it, there is no pad before it
no_pad : (s q n : ℕ) → 0 < n → n ≤ 32768 → s * 65536 < q → q ≤ s * 65536 + 65536 → segment_of (end_after q n) ≡ s → (frames_len n ≤ 65536 - q % 65536) × (q + frames_len n ≤ s * 65536 + 65536)
no_pad s q n some small low high there = elim (cases_lt (65536 - q % 65536) (frames_len n)) [
  | inl long ↦ let b = q + (65536 - q % 65536) in let ends = pad_ends q n b long refl in let least = frames_some n some in absurd (omega (arith, there, ends, least.0))
  | inr fits ↦ let ends = ends_here q n fits in let least = frames_some n some in (fits, omega (arith, there, ends, least.0))
]

all_in_frames : (s q : ℕ) (entries : Log) → All IsEventEntry entries → s * 65536 < q → q ≤ s * 65536 + 65536 → AllIn s q entries → q + frames_of entries ≤ s * 65536 + 65536
all_in_frames s q [] all low high there = omega arith
all_in_frames s q (e ∷ es) all low high there =
    let range = ranged e (all_first IsEventEntry e es all) in
    let least = range.least in
    let most = range.most in
    let one = no_pad s q (length e.bytes) (omega (arith, least)) (omega (arith, most)) low high there.0 in
    let ends = ends_here q (length e.bytes) one.0 in
    let rest = all_in_frames s (q + frames_len (length e.bytes)) es (all_rest IsEventEntry e es all) (omega arith) one.1 (subst (λ r. AllIn s r es) ends there.1) in
    omega (arith, rest)

begin_room : (p n : ℕ) → 0 < n → n ≤ 32768 → (begin_at p n % 65536 + frames_len n ≤ 65536) × (segment_of (end_after p n) ≡ begin_at p n / 65536) × (end_after p n ≡ begin_at p n + frames_len n)
begin_room p n some small = elim (cases_lt (65536 - p % 65536) (frames_len n)) [
  | inl long ↦
      let b = p + (65536 - p % 65536) in
      let begins = pad_begins p n b long refl in
      let ends = pad_ends p n b long refl in
      let bound = frames_bound n small in
      let least = frames_some n some in
      (omega (arith, begins, bound), omega (arith, begins, ends, bound, least.0), omega (arith, begins, ends))
  | inr fits ↦
      let begins = fits_here p n fits in
      let ends = ends_here p n fits in
      let least = frames_some n some in
      (omega (arith, begins, fits), omega (arith, begins, ends, fits, least.0), omega (arith, begins, ends))
]

-- the frames of a batch end in the segment in which they begin
pub together_room : (p : ℕ) (entries : Log) → AreTogether p entries → All IsEventEntry entries → 0 < length entries → first_begin p entries % 65536 + frames_of entries ≤ 65536
together_room p [] together all some = absurd (omega (arith, some))
together_room p (e ∷ es) together all some =
    let n = length e.bytes in
    let range = ranged e (all_first IsEventEntry e es all) in
    let least = range.least in
    let most = range.most in
    let room = begin_room p n (omega (arith, least)) (omega (arith, most)) in
    let b = begin_at p n in
    let s = b / 65536 in
    let more = frames_some n (omega (arith, least)) in
    let rest = all_in_frames s (end_after p n) es (all_rest IsEventEntry e es all) (omega (arith, room.2, more.0)) (omega (arith, room.0, room.2)) (subst (λ k. AllIn k (end_after p n) es) room.1 together) in
    omega (arith, rest, room.2)

-- a log's place is a multiple of 32
pub begin_aligned : (p n : ℕ) → p % 32 ≡ 0 → begin_at p n % 32 ≡ 0
begin_aligned p n aligned = elim (cases_lt (65536 - p % 65536) (frames_len n)) [
  | inl long ↦ let begins = pad_begins p n (p + (65536 - p % 65536)) long refl in omega (arith, begins, aligned)
  | inr fits ↦ let begins = fits_here p n fits in omega (arith, begins, aligned)
]

pub end_aligned : (p n : ℕ) → 0 < n → p % 32 ≡ 0 → end_after p n % 32 ≡ 0
end_aligned p n some aligned = let parts = begin_end p n in let begin = begin_aligned p n aligned in let frames = frames_some n some in omega (arith, parts.1, begin, frames.1)

pub place_aligned : (p : ℕ) (log : Log) → HaveBytes log → p % 32 ≡ 0 → place_from p log % 32 ≡ 0
place_aligned p [] have aligned = aligned
place_aligned p (e ∷ es) have aligned = place_aligned (end_after p (length e.bytes)) es have.1 (end_aligned p (length e.bytes) have.0 aligned)

-- and end where the log then does
all_in_end : (s q : ℕ) (entries : Log) → All IsEventEntry entries → s * 65536 < q → q ≤ s * 65536 + 65536 → AllIn s q entries → place_from q entries ≡ q + frames_of entries
all_in_end s q [] all low high there = omega arith
all_in_end s q (e ∷ es) all low high there =
    let range = ranged e (all_first IsEventEntry e es all) in
    let least = range.least in
    let most = range.most in
    let one = no_pad s q (length e.bytes) (omega (arith, least)) (omega (arith, most)) low high there.0 in
    let ends = ends_here q (length e.bytes) one.0 in
    let rest = all_in_end s (q + frames_len (length e.bytes)) es (all_rest IsEventEntry e es all) (omega arith) one.1 (subst (λ r. AllIn s r es) ends there.1) in
    ap (λ r. place_from r es) ends ∙ rest ∙ omega arith

pub together_end : (p : ℕ) (entries : Log) → AreTogether p entries → All IsEventEntry entries → 0 < length entries → place_from p entries ≡ first_begin p entries + frames_of entries
together_end p [] together all some = absurd (omega (arith, some))
together_end p (e ∷ es) together all some =
    let n = length e.bytes in
    let range = ranged e (all_first IsEventEntry e es all) in
    let least = range.least in
    let most = range.most in
    let room = begin_room p n (omega (arith, least)) (omega (arith, most)) in
    let s = begin_at p n / 65536 in
    let more = frames_some n (omega (arith, least)) in
    let rest = all_in_end s (end_after p n) es (all_rest IsEventEntry e es all) (omega (arith, room.2, more.0)) (omega (arith, room.0, room.2)) (subst (λ k. AllIn k (end_after p n) es) room.1 together) in
    rest ∙ omega (arith, room.2)

pub first_small : (entries : Log) → All IsEventEntry entries → first_len entries ≤ 16416
first_small [] all = omega arith
first_small (e ∷ es) all = (ranged e (all_first IsEventEntry e es all)).most

-- a batch has frames, in multiples of 32 bytes
pub frames_whole : (entries : Log) → All IsEventEntry entries → (frames_of entries % 32 ≡ 0) × (0 < length entries → 32 ≤ frames_of entries)
frames_whole [] all = (refl, λ some. absurd (omega (arith, some)))
frames_whole (e ∷ es) all =
    let least = (ranged e (all_first IsEventEntry e es all)).least in
    let one = frames_some (length e.bytes) (omega (arith, least)) in
    let rest = frames_whole es (all_rest IsEventEntry e es all) in
    (omega (arith, one.1, rest.0), λ some. omega (arith, one.0, one.1))
