-- A snapshot's file spells one list of pieces at most, and the latest valid set has one snapshot of a service.
use Rattle.std.specs.Prelude.{slice_get}
use Rattle.std.proofs.Common.{◌≡◌, inl, inr, ℕ, ◌+◌, ◌<◌, ◌^◌, ℤ, pos, ◌≤ℤ◌, All, List, [], ◌∷◌, ◌++◌, length, take, drop, Option, Some, refl, sym, ◌∙◌, ap, subst, arith, append_assoc, length-append}
use Rattle.std.proofs.Math.Seq.{take-append_seam, drop-append_seam}
use Rattle.std.proofs.lemmas.Bool.{cases_lt, cases_eq}
use Rattle.std.proofs.lemmas.Int.{ints}
use Rattle.std.proofs.lemmas.List.{append_cancel_left}
use Rattle.std.proofs.lemmas.List.Elements.{All-head, All-tail}
use Rattle.wire_prims.specs.Fields.{u32_at, le32, length-le32, u32_at-put}
use Rattle.wire_prims.specs.Strict.{counted}
use Rattle.snapshot_store.specs.Snapshots.{spelled, ArePieces}
use Rattle.snapshot_pieces.specs.declared.origin.Origin.{Origin}
use Rattle.snapshot_pieces.specs.Pieces.{between, service_pieces_of}
use Rattle.recording_log.specs.declared.entry.RecEntry.{RecEntry}
use Rattle.recording_log.specs.Listed.{IsLastPart}
use Rattle.cl_base.specs.Disk.{FileState}
use Rattle.member_disk.specs.Kept.{Kept}
use Rattle.member_disk.specs.Changes.{IsLatestPart}
use Rattle.member_disk.specs.Latest.{IsLatestEntry}
use Rattle.member_disk.specs.declared.durable.SetEntry.{SetEntry}
use Rattle.consensus_agent.specs.Restored.{HasPieces}

-- ---- one list of pieces

-- each is shorter than 2^32 bytes
abbrev pub AreShort : List (List ℕ) → Type 0
AreShort [] = Unit {0}
AreShort (p ∷ ps) = (length p < 2 ^ 32) × AreShort ps

size : (p rest : List ℕ) → length (counted p ++ rest) ≡ 4 + length p + length rest
size p rest = omega (arith, length-append (counted p) rest, length-append (le32 (length p)) p, length-le32 (length p))

module _ (p rest : List ℕ) where
  apart : counted p ++ rest ≡ le32 (length p) ++ (p ++ rest)
  apart = append_assoc (le32 (length p)) p rest

  number : length p < 2 ^ 32 → u32_at 0 (counted p ++ rest) ≡ length p
  number fits = ap (λ (l : List ℕ). u32_at 0 l) apart ∙ u32_at-put 0 (length p) [] (p ++ rest) refl fits

  piece : take (length p) (drop 4 (counted p ++ rest)) ≡ p
  piece =
      ap (λ (l : List ℕ). take (length p) (drop 4 l)) apart
      ∙ ap (λ m. take (length p) (drop m (le32 (length p) ++ (p ++ rest)))) (sym (length-le32 (length p)))
      ∙ ap (take (length p)) (drop-append_seam (le32 (length p)) (p ++ rest))
      ∙ take-append_seam p rest

first_same : (p q a b : List ℕ) → length p < 2 ^ 32 → length q < 2 ^ 32 → counted p ++ a ≡ counted q ++ b → p ≡ q
first_same p q a b low high same =
    let len : length p ≡ length q = sym (number p a low) ∙ ap (λ (l : List ℕ). u32_at 0 l) same ∙ number q b high in
    sym (piece p a) ∙ ap (λ (l : List ℕ). take (length p) (drop 4 l)) same ∙ ap (λ m. take m (drop 4 (counted q ++ b))) len ∙ piece q b

rest_same : (p q a b : List ℕ) → p ≡ q → counted p ++ a ≡ counted q ++ b → a ≡ b
rest_same p q a b is same = append_cancel_left (counted q) a b (ap (λ (r : List ℕ). counted r ++ a) (sym is) ∙ same)

pub pieces_once : (a b : List (List ℕ)) → AreShort a → AreShort b → spelled a ≡ spelled b → a ≡ b
pieces_once [] [] all some same = refl
pieces_once [] (q ∷ qs) all some same = absurd (omega (arith, ap length same, size q (spelled qs)))
pieces_once (p ∷ ps) [] all some same = absurd (omega (arith, ap length same, size p (spelled ps)))
pieces_once (p ∷ ps) (q ∷ qs) all some same =
    let is = first_same p q (spelled ps) (spelled qs) all.0 some.0 same in
    ap (λ (x : List ℕ). x ∷ ps) is ∙ ap (λ (l : List (List ℕ)). q ∷ l) (pieces_once ps qs all.1 some.1 (rest_same p q (spelled ps) (spelled qs) is same))

-- ---- pieces that are short

pub strict_short : (ps : List (List ℕ)) → ArePieces ps → AreShort ps
strict_short [] are = tt
strict_short (p ∷ ps) are = (are.0.1, strict_short ps are.1)

all_short : (ps : List (List ℕ)) → All (λ p. length p < 2 ^ 32) ps → AreShort ps
all_short [] all = tt
all_short (p ∷ ps) all = (All-head (λ (q : List ℕ). length q < 2 ^ 32) p ps all, all_short ps (All-tail (λ (q : List ℕ). length q < 2 ^ 32) p ps all))

abbrev first_of : List (List ℕ) → List ℕ
first_of [] = []
first_of (p ∷ ps) = p

abbrev second_of : List (List ℕ) → List ℕ
second_of (p ∷ (q ∷ ps)) = q
second_of _ = []

abbrev third_of : List (List ℕ) → List ℕ
third_of (p ∷ (q ∷ (r ∷ ps))) = r
third_of _ = []

-- between the same two another list that is as long
three_short : (a m n b : List ℕ) → AreShort (a ∷ (m ∷ (b ∷ []))) → spelled (a ∷ (m ∷ (b ∷ []))) ≡ spelled (a ∷ (n ∷ (b ∷ []))) → AreShort (a ∷ (n ∷ (b ∷ [])))
three_short a m n b short same =
    let low = short.1.0 in
    let long = ap length same in
    (short.0, (omega (arith, low, long, size a (spelled (m ∷ (b ∷ []))), size a (spelled (n ∷ (b ∷ []))), size m (spelled (b ∷ [])), size n (spelled (b ∷ []))), (short.1.1.0, tt)))

framed_last : (ps qs : List (List ℕ)) (b : List ℕ) → AreShort (ps ++ b ∷ []) → AreShort qs → AreShort (qs ++ b ∷ [])
framed_last [] [] b short all = short
framed_last (p ∷ ps) [] b short all = framed_last ps [] b short.1 tt
framed_last ps (q ∷ qs) b short all = (all.0, framed_last ps qs b short all.1)

-- between the same two others that are short
framed_short : (a b : List ℕ) (ps qs : List (List ℕ)) → AreShort (a ∷ (ps ++ b ∷ [])) → AreShort qs → AreShort (a ∷ (qs ++ b ∷ []))
framed_short a b ps qs short all = (short.0, framed_last ps qs b short.1 all)

service_short : (o : Origin) (others records : List ℕ) → AreShort (service_pieces_of o others) → spelled (service_pieces_of o others) ≡ spelled (service_pieces_of o records) → AreShort (service_pieces_of o records)
service_short o others records short same =
    let ps = service_pieces_of o records in
    three_short (first_of ps) (second_of (service_pieces_of o others)) (second_of ps) (third_of ps) short same

module_short : (o : Origin) (others records : List (List ℕ)) → AreShort (between o others) → All (λ p. length p < 2 ^ 32) records → AreShort (between o records)
module_short o others records short all =
    let ends = between o [] in
    framed_short (first_of ends) (second_of ends) others records short (all_short records all)

-- ---- one snapshot

some_is : (a b : RecEntry) → ◌≡◌ {A = Option RecEntry} (Some a) (Some b) → a ≡ b
some_is a b e = cc

last_once : (entries : List RecEntry) (term position service : ℤ) (a b : RecEntry) → IsLastPart entries term position service a → IsLastPart entries term position service b → a ≡ b
last_once entries term position service a b first second = elim (cases_lt first.index second.index) [
  | inl before ↦ absurd (first.last second.index b before second.at second.part)
  | inr up ↦ elim (cases_eq second.index first.index) [
    | inl is ↦ some_is a b (sym first.at ∙ ap (λ n. slice_get entries n) (sym is) ∙ second.at)
    | inr other ↦ absurd (second.last first.index a (omega (arith, up, other)) first.at first.part)
  ]
]

pub latest_once : (services : ℕ) (entries : List RecEntry) (service : ℤ) (a b : RecEntry) → IsLatestPart services entries service a → IsLatestPart services entries service b → a ≡ b
latest_once services entries service a b first second =
    let one = first.latest b.term b.position second.whole in
    let two = second.latest a.term a.position first.whole in
    let position : b.position ≡ a.position = omega (arith, ints, one.0, two.0) in
    let low = one.1 position in
    let high = two.1 (sym position) in
    let term : b.term ≡ a.term = omega (arith, ints, low, high) in
    last_once entries a.term a.position service a b first.part (subst (λ t. IsLastPart entries t a.position service b) term (subst (λ p. IsLastPart entries b.term p service b) position second.part))

-- ---- what is read for it

abbrev pub origin_of : ℤ → SetEntry → Origin
origin_of service s = record { service = service; position = s.position; term = s.term }

same_number : (a b : ℕ) → pos a ≡ pos b → a ≡ b
same_number a b e = cc

-- what the file of the latest snapshot reads is what was read of it
record IsRead (kept : Kept) (files : ℕ → FileState) (service : ℤ) (s : SetEntry) (o : Origin) (pieces : List (List ℕ)) : Type 0 where
  pub origin : o ≡ origin_of service s
  pub same : spelled s.pieces ≡ spelled pieces

is_read : (kept : Kept) (files : ℕ → FileState) (service : ℤ) (s : SetEntry) (o : Origin) (pieces : List (List ℕ)) → IsLatestEntry kept.services kept.entries service s → spelled s.pieces ≡ (files (258 + s.recording)).reads
    → o.service ≡ service → HasPieces kept files o pieces → IsRead kept files service s o pieces
is_read kept files service s o pieces latest reads is has =
    let one : has.entry ≡ latest.entry = latest_once kept.services kept.entries service has.entry latest.entry (subst (λ z. IsLatestPart kept.services kept.entries z has.entry) is has.latest) latest.latest in
    let term : o.term ≡ s.term = sym has.term ∙ ap (λ (e : RecEntry). e.term) one ∙ latest.term in
    let position : o.position ≡ s.position = same_number o.position s.position (sym has.position ∙ ap (λ (e : RecEntry). e.position) one ∙ latest.position) in
    let recording : s.recording ≡ has.recording = same_number s.recording has.recording (sym latest.recording ∙ ap (λ (e : RecEntry). e.recording) (sym one) ∙ has.named) in
    record {
      origin = λ i. record { service = is i; position = position i; term = term i };
      same = reads ∙ ap (λ n. (files (258 + n)).reads) recording ∙ has.reads;
    }

pub service_read : (kept : Kept) (files : ℕ → FileState) (service : ℤ) (s : SetEntry) (o : Origin) (records others : List ℕ) → IsLatestEntry kept.services kept.entries service s → ArePieces s.pieces → spelled s.pieces ≡ (files (258 + s.recording)).reads
    → s.pieces ≡ service_pieces_of (origin_of service s) others → o.service ≡ service → HasPieces kept files o (service_pieces_of o records) → s.pieces ≡ service_pieces_of (origin_of service s) records
service_read kept files service s o records others latest strict reads was is has =
    let read = is_read kept files service s o (service_pieces_of o records) latest reads is has in
    let at = origin_of service s in
    let same : spelled s.pieces ≡ spelled (service_pieces_of at records) = read.same ∙ ap (λ (z : Origin). spelled (service_pieces_of z records)) read.origin in
    let short : AreShort s.pieces = strict_short s.pieces strict in
    let all = service_short at others records (subst AreShort was short) (ap spelled (sym was) ∙ same) in
    pieces_once s.pieces (service_pieces_of at records) short all same

pub module_read : (kept : Kept) (files : ℕ → FileState) (service : ℤ) (s : SetEntry) (o : Origin) (records others : List (List ℕ)) → IsLatestEntry kept.services kept.entries service s → ArePieces s.pieces → spelled s.pieces ≡ (files (258 + s.recording)).reads
    → s.pieces ≡ between (origin_of service s) others → o.service ≡ service → All (λ p. length p < 2 ^ 32) records → HasPieces kept files o (between o records) → s.pieces ≡ between (origin_of service s) records
module_read kept files service s o records others latest strict reads was is all has =
    let read = is_read kept files service s o (between o records) latest reads is has in
    let at = origin_of service s in
    let same : spelled s.pieces ≡ spelled (between at records) = read.same ∙ ap (λ (z : Origin). spelled (between z records)) read.origin in
    let short : AreShort s.pieces = strict_short s.pieces strict in
    pieces_once s.pieces (between at records) short (module_short at others records (subst AreShort was short) all) same
