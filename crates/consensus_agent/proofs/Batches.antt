-- Entries that can go behind a log are one batch for its disk.
use Rattle.std.proofs.Common.{◌≡◌, ◌⊎◌, inl, inr, ℕ, ◌<◌, ◌≤◌, Bool, true, false, ◌&&◌, ◌||◌, [], ◌∷◌, length, refl, subst, arith, ℤ}
use Rattle.std.specs.Prelude.{nat_le, sum, ◌==◌}
use Rattle.std.proofs.lemmas.Bool.{eqb-true}
use Rattle.std.proofs.lemmas.Bool.Decides.{nat_tests}
use Rattle.std.proofs.lemmas.List.Sums.{sum_by-cons}
use Rattle.entry_log.specs.Log.{Log, RisesFrom, end_after, last, place}
use Rattle.entry_log.specs.Batches.{all_in, in_one_segment, is_batch, segment_of}
use Rattle.entry_log.specs.Shape.{shape_of, lens_of, TermsRiseFrom}
use Rattle.log_segment.specs.Batch.{AllIn, AreTogether, IsBatchAt, event_bytes}
use Rattle.consensus_core.specs.Standing.{CanFollow}
use Rattle.consensus_agent.proofs.Entries.{length_shape}
use Rattle.consensus_agent.proofs.Shapes.{place_is, last_is}

both : (a b : Bool) → (a && b) ≡ true → (a ≡ true) × (b ≡ true)
both true b e = (refl, e)
both false b e = absurd (cc)

either : (a b : Bool) → (a || b) ≡ true → (a ≡ true) ⊎ (b ≡ true)
either true b e = inl refl
either false b e = inr e

all_in_of : (s p : ℕ) (es : Log) → all_in s p (shape_of es) ≡ true → AllIn s p es
all_in_of s p [] h = tt
all_in_of s p (x ∷ xs) h =
    let b = both (segment_of (end_after p (length x.bytes)) == s) (all_in s (end_after p (length x.bytes)) (shape_of xs)) h in
    (eqb-true _ _ b.0, all_in_of s (end_after p (length x.bytes)) xs b.1)

together_of : (p : ℕ) (es : Log) → in_one_segment p (shape_of es) ≡ true → AreTogether p es
together_of p [] h = tt
together_of p (x ∷ xs) h = all_in_of (segment_of (end_after p (length x.bytes))) (end_after p (length x.bytes)) xs h

bytes_of : (es : Log) → sum (lens_of (shape_of es)) ≡ event_bytes es
bytes_of [] = refl
bytes_of (x ∷ xs) = let a = bytes_of xs in let y = sum_by-cons (λ n. n) (length x.bytes) (lens_of (shape_of xs)) in omega (arith, a, y)

length_of : (es : Log) → length (shape_of es) ≡ length es
length_of es = length_shape es

small_of : (es : Log) → (nat_le (length (shape_of es)) 1 || nat_le (sum (lens_of (shape_of es))) 8192) ≡ true → (length es ≤ 1) ⊎ (event_bytes es ≤ 8192)
small_of es h =
    let n = length_of es in
    let b = bytes_of es in
    elim (either (nat_le (length (shape_of es)) 1) (nat_le (sum (lens_of (shape_of es))) 8192) h) [
      | inl g ↦ inl (grind (arith, nat_tests, g, n))
      | inr g ↦ inr (grind (arith, nat_tests, g, b))
    ]

at_place : (p : ℕ) (es : Log) → 0 < length es → is_batch p (shape_of es) ≡ true → IsBatchAt p es
at_place p es some h =
    let n = length_of es in
    let a = both (nat_le (length (shape_of es)) 64) ((nat_le (length (shape_of es)) 1 || nat_le (sum (lens_of (shape_of es))) 8192) && in_one_segment p (shape_of es)) h in
    let b = both (nat_le (length (shape_of es)) 1 || nat_le (sum (lens_of (shape_of es))) 8192) (in_one_segment p (shape_of es)) a.1 in
    let few = a.0 in record { some = some; few = grind (arith, nat_tests, few, n); small = small_of es b.0; together = together_of p es b.1 }

pub batch_of : (log es : Log) → CanFollow (shape_of log) es → IsBatchAt (place log) es
batch_of log es c = at_place (place log) es c.some (subst (λ p. is_batch p (shape_of es) ≡ true) (place_is log) c.batch)

rises_from : (t : ℤ) (es : Log) → TermsRiseFrom t (shape_of es) → RisesFrom t es
rises_from t [] h = tt
rises_from t (x ∷ xs) h = (h.0, rises_from x.term xs h.1)

pub rises_of : (log es : Log) → CanFollow (shape_of log) es → RisesFrom (last log) es
rises_of log es c = rises_from (last log) es (subst (λ t. TermsRiseFrom t (shape_of es)) (last_is log) c.rises)
