-- A list in two parts.
use Rattle.std.proofs.Common.{◌≡◌, ℕ, ◌+◌, ◌≤◌, List, ◌++◌, length, take, drop, sym, ◌∙◌, ap, arith, append_assoc, take-append-drop, length-take, length-take-le}
use Rattle.std.proofs.Math.Seq.{take-append-add}
use Rattle.std.proofs.lemmas.List.{take-take}

-- a longer front is a front, and the front of the rest
pub take-add : {X : Type 0} (xs : List X) (i n : ℕ) → i ≤ length xs → take (i + n) xs ≡ take i xs ++ take n (drop i xs)
take-add xs i n within =
    ap (λ k. take (k + n) xs) (sym (length-take-le i xs within))
    ∙ ap (take (length (take i xs) + n)) (sym (take-append-drop i xs))
    ∙ take-append-add (take i xs) (drop i xs) n

-- a front that is written, and then a front of a block of the rest
pub front_more : (old mid new text : List ℕ) (at n m : ℕ) → at ≤ length text → n ≤ length (take m (drop at text)) → mid ≡ old ++ take at text → new ≡ mid ++ take n (take m (drop at text)) → new ≡ old ++ take (at + n) text
front_more old mid new text at n m within few was now =
    let fits : n ≤ m = omega (arith, length-take m (drop at text)) in
    now
    ∙ ap (λ ys. ys ++ take n (take m (drop at text))) was
    ∙ ap (λ ys. (old ++ take at text) ++ ys) (take-take n m (drop at text) fits)
    ∙ append_assoc old (take at text) (take n (drop at text))
    ∙ ap (λ ys. old ++ ys) (sym (take-add text at n within))
