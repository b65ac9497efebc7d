-- Places grow along a log, and stand at multiples of 32.
use Rattle.std.proofs.Common.{◌≡◌, ℕ, zero, suc, ◌+◌, ◌-◌, ◌*◌, ◌/◌, ◌%◌, ◌<◌, ◌≤◌, Bool, true, false, [], ◌∷◌, ◌++◌, length, take, refl, ap, ◌∙◌, arith}
use Rattle.std.specs.Prelude.{nat_le, if◌then◌else◌, ◌==◌}
use Rattle.std.proofs.lemmas.Bool.Decides.{nat_tests}
use Rattle.entry_log.specs.Log.{Log, end_after, frames_len, place_from, IsWritten}
use Rattle.entry_log.specs.Shape.{Shape, shape_of, end_from, end_of, ends_by_from}
use Rattle.entry_log.specs.PlaceLaws.{end_after-up}

frames_len-some : (n : ℕ) → 0 < n → 0 < frames_len n
frames_len-some n h = some ((n % 1376) == 0) refl
  where
    some : (b : Bool) → ((n % 1376) == 0) ≡ b → 0 < n / 1376 * 1408 + (if b then 0 else (32 + n % 1376 + 31) / 32 * 32)
    some true e = (let z : n % 1376 ≡ 0 = grind (arith, nat_tests) in omega (arith, h, z))
    some false e = omega arith

-- an entry with bytes ends past the place where it is written
pub end_after-past : (p n : ℕ) → 0 < n → p < end_after p n
unfolding end_after
end_after-past p n h = let f = frames_len-some n h in grind (arith, nat_tests, f)

pub place_from-up : (p : ℕ) (log : Log) → IsWritten log → p ≤ place_from p log
place_from-up p [] w = omega arith
place_from-up p (x ∷ xs) w = let a = end_after-past p (length x.bytes) w.0 in let b = place_from-up (end_after p (length x.bytes)) xs w.2 in omega (arith, a, b)

pub place_from-append : (p : ℕ) (xs ys : Log) → place_from p (xs ++ ys) ≡ place_from (place_from p xs) ys
place_from-append p [] ys = refl
place_from-append p (x ∷ xs) ys = place_from-append (end_after p (length x.bytes)) xs ys

-- only the empty log ends where it begins
pub place_from-none : (p : ℕ) (log : Log) → IsWritten log → place_from p log ≤ p → log ≡ []
place_from-none p [] w h = refl
place_from-none p (x ∷ xs) w h = absurd (let a = end_after-past p (length x.bytes) w.0 in let b = place_from-up (end_after p (length x.bytes)) xs w.2 in omega (arith, a, b, h))

-- an event's frames have a multiple of 32 bytes
pub frames_len-aligned : (n : ℕ) → frames_len n % 32 ≡ 0
frames_len-aligned n = at ((n % 1376) == 0)
  where
    at : (b : Bool) → (n / 1376 * 1408 + (if b then 0 else (32 + n % 1376 + 31) / 32 * 32)) % 32 ≡ 0
    at true = omega arith
    at false = omega arith

-- an entry that is written at a multiple of 32 ends at one
pub end_after-aligned : (p n : ℕ) → p % 32 ≡ 0 → end_after p n % 32 ≡ 0
unfolding end_after
end_after-aligned p n h = at (nat_le (frames_len n) (65536 - p % 65536)) (frames_len-aligned n)
  where
    at : (b : Bool) → frames_len n % 32 ≡ 0 → (if b then p + frames_len n else p + (65536 - p % 65536) + frames_len n) % 32 ≡ 0
    at true f = omega (arith, h, f)
    at false f = omega (arith, h, f)

end_from-aligned : (p : ℕ) (xs : Shape) → p % 32 ≡ 0 → end_from p xs % 32 ≡ 0
end_from-aligned p [] h = h
end_from-aligned p (x ∷ xs) h = end_from-aligned (end_after p x.len) xs (end_after-aligned p x.len h)

-- a log ends at a multiple of 32
pub end_of-aligned : (xs : Shape) → end_of xs % 32 ≡ 0
end_of-aligned xs = end_from-aligned 0 xs refl

pub place_from_grows : (p : ℕ) (log : Log) → p ≤ place_from p log
place_from_grows p [] = omega arith
place_from_grows p (x ∷ xs) = let a = end_after-up p (length x.bytes) in let b = place_from_grows (end_after p (length x.bytes)) xs in omega (arith, a, b)

-- n entries end at most where the first n entries of a log end
pub ends_by-front : (p n : ℕ) (log : Log) → IsWritten log → n ≤ length log → ends_by_from p (place_from p (take n log)) (shape_of log) ≡ n
ends_by-front p zero [] w h = refl
ends_by-front p zero (x ∷ xs) w h =
    let q : ℕ = end_after p (length x.bytes) in
    let a = end_after-past p (length x.bytes) w.0 in
    let past : nat_le q p ≡ false = grind (arith, nat_tests, a) in
    ap (λ b. if b then 1 + ends_by_from q p (shape_of xs) else 0) past
ends_by-front p (suc n) [] w h = absurd (omega (arith, h))
ends_by-front p (suc n) (x ∷ xs) w h =
    let q : ℕ = end_after p (length x.bytes) in
    let a = place_from_grows q (take n xs) in
    let within : nat_le q (place_from q (take n xs)) ≡ true = grind (arith, nat_tests, a) in
    let rest = ends_by-front q n xs w.2 (omega (arith, h)) in
    let more : 1 + ends_by_from q (place_from q (take n xs)) (shape_of xs) ≡ suc n = omega (arith, rest) in
    ap (λ b. if b then 1 + ends_by_from q (place_from q (take n xs)) (shape_of xs) else 0) within ∙ more
