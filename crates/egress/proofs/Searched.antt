-- Streams, rising: what a search by halves finds.
use Rattle.std.proofs.Common.{◌≡◌, ℕ, zero, suc, ◌<◌, ◌≤◌, ℤ, ◌<ℤ◌, List, [], ◌∷◌, take, drop, length, get_or, refl, arith, Result, Ok, Err, IfOk, IfErr}
use Rattle.std.specs.List.{AllByRecursion, HoldsAt}
use Rattle.std.specs.List.Sorted.{IsNonDecreasingBy, IsPartitionPoint, IsBinarySearchResult, IsSearchInRange}
use Rattle.std.specs.Ordering.{int_cmp, ordering_index}
use Rattle.std.specs.declared.cmp.Ordering.{Ordering}
use Rattle.std.specs.declared.cmp.Ordering.TheVariants.{Less, Equal, Greater}
use Rattle.std.proofs.lemmas.Int.{ints}
use Rattle.egress.specs.Streams.{StreamSeen, StreamsRise, IsBetween}

index_rises : (x y k : ℤ) → x <ℤ y → ordering_index (int_cmp x k) ≤ ordering_index (int_cmp y k)
index_rises x y k h = by (int_cmp x k) refl (int_cmp y k) refl
  where
    back : (x y k : ℤ) → x <ℤ y → int_cmp x k ≡ Greater → int_cmp y k ≡ Greater
    back x y k h e = grind (arith, ints, h, e)

    on : (x y k : ℤ) → x <ℤ y → int_cmp x k ≡ Equal → int_cmp y k ≡ Greater
    on x y k h e = grind (arith, ints, h, e)

    by : (o : Ordering) → int_cmp x k ≡ o → (q : Ordering) → int_cmp y k ≡ q → ordering_index o ≤ ordering_index q
    by Less e q f = omega arith
    by Equal e Greater f = omega arith
    by Equal e Equal f = omega arith
    by Equal e Less f = let g : int_cmp y k ≡ Greater = on x y k h e in absurd cc
    by Greater e Greater f = omega arith
    by Greater e Equal f = let g : int_cmp y k ≡ Greater = back x y k h e in absurd cc
    by Greater e Less f = let g : int_cmp y k ≡ Greater = back x y k h e in absurd cc

pub above_at : (x : ℤ) (l : List StreamSeen) (j : ℕ) (d : StreamSeen) → AllByRecursion (λ (b : StreamSeen). x <ℤ b.stream) l → j < length l → x <ℤ (get_or l j d).stream
above_at x [] j d h k = absurd (omega arith)
above_at x (p ∷ l) zero d h k = h.0
above_at x (p ∷ l) (suc j) d h k = above_at x l j d h.1 (omega arith)

-- the answers of a search rise along the streams
pub search_rises : (k : ℤ) (l : List StreamSeen) → StreamsRise l → IsNonDecreasingBy (λ (b : StreamSeen). ordering_index (int_cmp b.stream k)) l
search_rises k [] h i j d a b = absurd (omega arith)
search_rises k (p ∷ l) h zero zero d a b = omega arith
search_rises k (p ∷ l) h zero (suc j) d a b = index_rises p.stream (get_or l j d).stream k (above_at p.stream l j d h.0 (omega arith))
search_rises k (p ∷ l) h (suc i) zero d a b = absurd (omega arith)
search_rises k (p ∷ l) h (suc i) (suc j) d a b = search_rises k l h.1 i j d (omega arith) (omega arith)

less_is : (x y : ℤ) → int_cmp x y ≡ Less → x <ℤ y
less_is x y e = grind (arith, ints, e)

greater_is : (x y : ℤ) → int_cmp x y ≡ Greater → y <ℤ x
greater_is x y e = grind (arith, ints, e)

pub equal_is : (x y : ℤ) → int_cmp x y ≡ Equal → x ≡ y
equal_is x y e = grind (arith, ints, e)

front_all : (P : StreamSeen → Type 0) (l : List StreamSeen) (i : ℕ) → ((j : ℕ) (d : StreamSeen) → j < length l → j < i → P (get_or l j d)) → AllByRecursion P (take i l)
front_all P [] zero h = tt
front_all P [] (suc i) h = tt
front_all P (p ∷ l) zero h = tt
front_all P (p ∷ l) (suc i) h = (h 0 p (omega arith) (omega arith), front_all P l i (λ j d a b. h (suc j) d (omega arith) (omega arith)))

rest_all : (P : StreamSeen → Type 0) (l : List StreamSeen) (i : ℕ) → ((j : ℕ) (d : StreamSeen) → i ≤ j → j < length l → P (get_or l j d)) → AllByRecursion P (drop i l)
rest_all P [] zero h = tt
rest_all P [] (suc i) h = tt
rest_all P (p ∷ l) zero h = (h 0 p (omega arith) (omega arith), rest_all P l 0 (λ j d a b. h (suc j) d (omega arith) (omega arith)))
rest_all P (p ∷ l) (suc i) h = rest_all P l i (λ j d a b. h (suc j) d (omega arith) (omega arith))

-- between the lower and the greater is the place
pub between : (k : ℤ) (l : List StreamSeen) (i : ℕ) → IsPartitionPoint (λ (b : StreamSeen). int_cmp b.stream k ≡ Less) (λ (b : StreamSeen). int_cmp b.stream k ≡ Greater) l i → IsBetween k i l
between k l i h = (
  front_all (λ b. b.stream <ℤ k) l i (λ j d a b. less_is (get_or l j d).stream k (h.0 j d (omega arith) b)),
  rest_all (λ b. k <ℤ b.stream) l i (λ j d a b. greater_is (get_or l j d).stream k (h.1 j d a b)),
)

-- the two answers of a search by halves
pub found_ok : (k : ℤ) (l : List StreamSeen) (r : Result ℕ ℕ) → IsSearchInRange r (length l) → IsBinarySearchResult (λ (b : StreamSeen). int_cmp b.stream k) l r → IfOk r (λ i. (i < length l) × HoldsAt (λ (b : StreamSeen). b.stream ≡ k) l i)
found_ok k l (Ok i) w h = (w, λ d. equal_is (get_or l i d).stream k (h d))
found_ok k l (Err i) w h = tt

pub found_err : (k : ℤ) (l : List StreamSeen) (r : Result ℕ ℕ) → StreamsRise l → IsSearchInRange r (length l) → IsBinarySearchResult (λ (b : StreamSeen). int_cmp b.stream k) l r → IfErr r (λ i. (i ≤ length l) × IsBetween k i l)
found_err k l (Ok i) rise w h = tt
found_err k l (Err i) rise w h = (w, between k l i (h (search_rises k l rise)))
