-- What the module has ahead through a change of the log.
use Rattle.std.proofs.Common.{◌≡◌, ℕ, ◌+◌, ◌-◌, ◌≤◌, ◌++◌, length, take, drop, ap, arith, length-append, length-drop}
use Rattle.std.proofs.lemmas.List.{length-take-le}
use Rattle.entry_log.specs.Log.{Log}
use Rattle.member_module.specs.Held.{Held as ModuleHeld}
use Rattle.consensus_agent.specs.Sound.{HasAhead}

-- the same entries were put behind both
pub ahead_grown : (m n : ModuleHeld) (log new es : Log) → HasAhead m log → n.consumed ≡ m.consumed → n.ahead.entries ≡ m.ahead.entries ++ es → new ≡ log ++ es → HasAhead n new
ahead_grown m n log new es was taken more is =
    let a : length n.ahead.entries ≡ length (m.ahead.entries ++ es) = ap (λ (x : Log). length x) more in
    let b = length-append m.ahead.entries es in
    let c : length new ≡ length (log ++ es) = ap (λ (x : Log). length x) is in
    let d = length-append log es in
    omega (arith, was, taken, a, b, c, d)

-- both were cut to the first so many
pub ahead_cut : (m n : ModuleHeld) (log new : Log) (k : ℕ) → HasAhead m log → m.consumed ≤ k → k ≤ length log → n.consumed ≡ m.consumed → n.ahead.entries ≡ take (k - m.consumed) m.ahead.entries → new ≡ take k log → HasAhead n new
ahead_cut m n log new k was low high taken left is =
    let a : length n.ahead.entries ≡ length (take (k - m.consumed) m.ahead.entries) = ap (λ (x : Log). length x) left in
    let b = length-take-le (k - m.consumed) m.ahead.entries (omega (arith, was, low, high)) in
    let c : length new ≡ length (take k log) = ap (λ (x : Log). length x) is in
    let d = length-take-le k log high in
    omega (arith, was, taken, a, b, c, d, low)

-- the first of them were consumed
pub ahead_taken : (m n : ModuleHeld) (log new : Log) (k : ℕ) → HasAhead m log → m.consumed + k ≤ length log → n.consumed ≡ m.consumed + k → n.ahead.entries ≡ drop k m.ahead.entries → new ≡ log → HasAhead n new
ahead_taken m n log new k was few taken left is =
    let a : length n.ahead.entries ≡ length (drop k m.ahead.entries) = ap (λ (x : Log). length x) left in
    let b = length-drop k m.ahead.entries in
    let c : length new ≡ length log = ap (λ (x : Log). length x) is in
    omega (arith, was, few, taken, a, b, c)
