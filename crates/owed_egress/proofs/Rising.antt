-- What comes out of a service over entries stands in their order, and that of one entry is found by its index.
use Rattle.std.proofs.Common.{◌≡◌, ℕ, zero, suc, ◌+◌, ◌<◌, ◌≤◌, ◌==◌, Bool, true, false, List, [], ◌∷◌, ◌++◌, length, map, refl, ap, ◌∙◌, arith, add-zero}
use Rattle.std.specs.Prelude.{filter, slice_index_or}
use Rattle.std.proofs.lemmas.Bool.Decides.{nat_tests}
use Rattle.std.proofs.lemmas.List.{append-nil}
use Rattle.std.proofs.lemmas.List.Elements.{filter-append}
use Rattle.std.proofs.lemmas.List.Sorted.{IsNonDecreasingBy-short}
use Rattle.cl_base.specs.declared.entry.Entry.{Entry}
use Rattle.service_api.specs.declared.output.Output.{Output}
use Rattle.service_api.specs.declared.shipped.Shipped.{Shipped}
use Rattle.service_api.specs.Service.{at_entry, numbered, outbox_from, outputs_from}
use Rattle.owed_egress.specs.Outbox.{IndicesRise, index_of, outputs_in}
use Rattle.owed_egress.specs.Records.{output_in}

abbrev Outs : Type 0
Outs = List (ℕ × Output)

abbrev at : ℕ → ℕ × Output → Bool
at i o = o.0 == i

-- ---- in order

-- each index is this one at least
abbrev From : ℕ → Outs → Type 0
From b [] = Unit {0}
From b (x ∷ xs) = (b ≤ x.0) × From b xs

from_each : (b : ℕ) (xs : Outs) (k : ℕ) (d : ℕ × Output) → From b xs → k < length xs → b ≤ index_of (slice_index_or xs k d)
from_each b [] k d h less = absurd (omega arith)
from_each b (x ∷ xs) zero d h less = h.0
from_each b (x ∷ xs) (suc k) d h less = from_each b xs k d h.1 (omega arith)

rise_cons : (x : ℕ × Output) (xs : Outs) → From x.0 xs → IndicesRise xs → (i j : ℕ) (d : ℕ × Output) → i ≤ j → j < length (x ∷ xs) → index_of (slice_index_or (x ∷ xs) i d) ≤ index_of (slice_index_or (x ∷ xs) j d)
rise_cons x xs low rise zero zero d le less = omega arith
rise_cons x xs low rise zero (suc j) d le less = from_each x.0 xs j d low (omega arith)
rise_cons x xs low rise (suc i) zero d le less = absurd (omega arith)
rise_cons x xs low rise (suc i) (suc j) d le less = rise i j d (omega arith) (omega arith)

from_numbered : (b i : ℕ) (os : List Output) (rest : Outs) → b ≤ i → From b rest → From b (numbered i os ++ rest)
from_numbered b i [] rest low h = h
from_numbered b i (o ∷ os) rest low h = (low, from_numbered b i os rest low h)

from_outbox : (b : ℕ) (s : Shipped) (i : ℕ) (xs : List Entry) → b ≤ i → From b (outbox_from s i xs)
from_outbox b s i [] low = tt
from_outbox b s i (x ∷ xs) low = from_numbered b i (at_entry s i x).1 (outbox_from (at_entry s i x).0 (i + 1) xs) low (from_outbox b (at_entry s i x).0 (i + 1) xs (omega arith))

rise_numbered : (i : ℕ) (os : List Output) (rest : Outs) → From i rest → IndicesRise rest → IndicesRise (numbered i os ++ rest)
rise_numbered i [] rest low rise = rise
rise_numbered i (o ∷ os) rest low rise = rise_cons (i, o) (numbered i os ++ rest) (from_numbered i i os rest (omega arith) low) (rise_numbered i os rest low rise)

pub rise_outbox : (s : Shipped) (i : ℕ) (xs : List Entry) → IndicesRise (outbox_from s i xs)
rise_outbox s i [] = IsNonDecreasingBy-short index_of [] (omega arith)
rise_outbox s i (x ∷ xs) =
    rise_numbered i (at_entry s i x).1 (outbox_from (at_entry s i x).0 (i + 1) xs) (from_outbox i (at_entry s i x).0 (i + 1) xs (omega arith)) (rise_outbox (at_entry s i x).0 (i + 1) xs)

-- ---- by index

one_in : (i : ℕ) (x : ℕ × Output) (xs : Outs) → at i x ≡ true → filter (at i) (x ∷ xs) ≡ x ∷ filter (at i) xs
one_in i x xs h = simp h

one_out : (i : ℕ) (x : ℕ × Output) (xs : Outs) → at i x ≡ false → filter (at i) (x ∷ xs) ≡ filter (at i) xs
one_out i x xs h = simp h

same : (i : ℕ) (o : Output) → at i (i, o) ≡ true
same i o = grind (arith, nat_tests)

other : (i j : ℕ) (x : ℕ × Output) → i < j → j ≤ x.0 → at i x ≡ false
other i j x less low = grind (arith, nat_tests)

before : (i j : ℕ) (o : Output) → j < i → at i (j, o) ≡ false
before i j o less = grind (arith, nat_tests)

none_below : (i j : ℕ) (xs : Outs) → i < j → From j xs → filter (at i) xs ≡ []
none_below i j [] less h = refl
none_below i j (x ∷ xs) less h = one_out i x xs (other i j x less h.0) ∙ none_below i j xs less h.1

all_here : (i : ℕ) (os : List Output) → filter (at i) (numbered i os) ≡ numbered i os
all_here i [] = refl
all_here i (o ∷ os) = one_in i (i, o) (numbered i os) (same i o) ∙ ap (λ l. (i, o) ∷ l) (all_here i os)

none_here : (i j : ℕ) (os : List Output) → j < i → filter (at i) (numbered j os) ≡ []
none_here i j [] less = refl
none_here i j (o ∷ os) less = one_out i (j, o) (numbered j os) (before i j o less) ∙ none_here i j os less

unnumbered : (i : ℕ) (os : List Output) → map output_in (numbered i os) ≡ os
unnumbered i [] = refl
unnumbered i (o ∷ os) = ap (λ l. o ∷ l) (unnumbered i os)

further : (i k : ℕ) → i + suc k ≡ (i + 1) + k
further i k = omega arith

pub outputs_found : (s : Shipped) (i k : ℕ) (xs : List Entry) → map output_in (outputs_in (i + k) (outbox_from s i xs)) ≡ outputs_from s i xs k
outputs_found s i k [] = refl
outputs_found s i zero (x ∷ xs) =
    let os = (at_entry s i x).1 in
    let rest = outbox_from (at_entry s i x).0 (i + 1) xs in
    ap (λ n. map output_in (outputs_in n (numbered i os ++ rest))) (add-zero i)
    ∙ ap (map output_in) (filter-append (at i) (numbered i os) rest ∙ (λ j. all_here i os j ++ none_below i (i + 1) rest (omega arith) (from_outbox (i + 1) (at_entry s i x).0 (i + 1) xs (omega arith)) j) ∙ append-nil (numbered i os))
    ∙ unnumbered i os
outputs_found s i (suc k) (x ∷ xs) =
    let os = (at_entry s i x).1 in
    let rest = outbox_from (at_entry s i x).0 (i + 1) xs in
    ap (map output_in) (filter-append (at (i + suc k)) (numbered i os) rest ∙ ap (λ l. l ++ filter (at (i + suc k)) rest) (none_here (i + suc k) i os (omega arith)))
    ∙ ap (λ n. map output_in (outputs_in n rest)) (further i k)
    ∙ outputs_found (at_entry s i x).0 (i + 1) k xs
