-- The longest batch that the limits admit is found from the front.
use Rattle.std.proofs.Common.{◌≡◌, ◌⊎◌, inl, inr, ℕ, zero, suc, ◌+◌, ◌<◌, ◌≤◌, Bool, true, false, ◌&&◌, ◌||◌, List, [], ◌∷◌, ◌++◌, length, take, drop, get_or, length-append, refl, sym, ap, ◌∙◌, subst, arith}
use Rattle.std.specs.Prelude.{nat_le, sum, map, Option, Some, None, MatchOption, if◌then◌else◌}
use Rattle.std.proofs.lemmas.Bool.Decides.{nat_tests}
use Rattle.std.proofs.lemmas.List.{take-take, take-map, take_more}
use Rattle.std.proofs.lemmas.List.Sums.{sum_by-take-le}
use Rattle.entry_log.specs.Log.{Log, end_after}
use Rattle.entry_log.specs.PlaceLaws.{end_from-up}
use Rattle.entry_log.specs.Shape.{EntryShape, Shape, entry_shape, lens_of, end_from, end_of, shape_of}
use Rattle.entry_log.specs.Batches.{segment_of, all_in, in_one_segment, is_batch}
use Rattle.log_replication.specs.Batches.{IsLongestBatch}
use Rattle.consensus_core.specs.Sends.{batch_count}
use Rattle.consensus_core.specs.Reign.{entry_of, greatest, is_admitted, admitted}
use Rattle.sbe_events.specs.declared.event.Event.{Event}
use Rattle.cl_base.specs.declared.entry.Entry.{Entry}

both : (a b : Bool) → (a && b) ≡ true → (a ≡ true) × (b ≡ true)
both true b e = (refl, e)
both false b e = absurd (cc)

join : (a b : Bool) → a ≡ true → b ≡ true → (a && b) ≡ true
join a b p q = ap (λ z. z && b) p ∙ q

all_in-take : (s p : ℕ) (xs : Shape) (k : ℕ) → all_in s p xs ≡ true → all_in s p (take k xs) ≡ true
all_in-take s p xs zero e = refl
all_in-take s p [] (suc k) e = refl
all_in-take s p (x ∷ xs) (suc k) e = let h = both _ _ e in join _ _ h.0 (all_in-take s (end_after p x.len) xs k h.1)

one_segment-take : (p : ℕ) (xs : Shape) (k : ℕ) → in_one_segment p xs ≡ true → in_one_segment p (take k xs) ≡ true
one_segment-take p xs zero e = refl
one_segment-take p [] (suc k) e = refl
one_segment-take p (x ∷ xs) (suc k) e = all_in-take (segment_of (end_after p x.len)) (end_after p x.len) xs k e

length-part : (xs : Shape) (k : ℕ) → length (take k xs) ≤ length xs
length-part xs zero = omega arith
length-part [] (suc k) = omega arith
length-part (x ∷ xs) (suc k) = let h = length-part xs k in omega (arith, h)

sum-part : (xs : Shape) (k : ℕ) → sum (lens_of (take k xs)) ≤ sum (lens_of xs)
sum-part xs k =
    subst (λ l. sum l ≤ sum (lens_of xs)) (take-map (λ (x : EntryShape). x.len) k xs) (sum_by-take-le (λ x. x) (lens_of xs) k)

pub end_from_part : (p : ℕ) (xs : Shape) (k : ℕ) → end_from p (take k xs) ≤ end_from p xs
end_from_part p xs zero = end_from-up p xs
end_from_part p [] (suc k) = omega arith
end_from_part p (x ∷ xs) (suc k) = end_from_part (end_after p x.len) xs k

below : (n m l : ℕ) → n ≤ m → nat_le m l ≡ true → nat_le n l ≡ true
below n m l h e = grind (arith, nat_tests, h, e)

below_either : (n m s t : ℕ) → n ≤ m → s ≤ t → (nat_le m 1 || nat_le t 8192) ≡ true → (nat_le n 1 || nat_le s 8192) ≡ true
below_either n m s t h g e = grind (arith, nat_tests, h, g, e)

-- what is admitted stays so with fewer entries
part_admitted : (p limit : ℕ) (xs : Shape) (k : ℕ) → is_admitted p limit xs ≡ true → is_admitted p limit (take k xs) ≡ true
part_admitted p limit xs k e =
    let a = both (nat_le (end_from p xs) limit) (is_batch p xs) e in
    let b = both (nat_le (length xs) 64) ((nat_le (length xs) 1 || nat_le (sum (lens_of xs)) 8192) && in_one_segment p xs) a.1 in
    let d = both (nat_le (length xs) 1 || nat_le (sum (lens_of xs)) 8192) (in_one_segment p xs) b.1 in
    join (nat_le (end_from p (take k xs)) limit) (is_batch p (take k xs))
    (below (end_from p (take k xs)) (end_from p xs) limit (end_from_part p xs k) a.0)
    (join (nat_le (length (take k xs)) 64) ((nat_le (length (take k xs)) 1 || nat_le (sum (lens_of (take k xs))) 8192) && in_one_segment p (take k xs))
    (below (length (take k xs)) (length xs) 64 (length-part xs k) b.0)
    (join (nat_le (length (take k xs)) 1 || nat_le (sum (lens_of (take k xs))) 8192) (in_one_segment p (take k xs))
    (below_either (length (take k xs)) (length xs) (sum (lens_of (take k xs))) (sum (lens_of xs)) (length-part xs k) (sum-part xs k) d.0)
    (one_segment-take p xs k d.1)))

-- the greatest that passes, where nothing past it does
pub greatest_is : (test : ℕ → Bool) (n k : ℕ) → k ≤ n → (k ≡ 0) ⊎ (test k ≡ true) → ((m : ℕ) → k < m → m ≤ n → test m ≡ false) → greatest test n ≡ k
greatest_is test zero k h p none = omega (arith, h)
greatest_is test (suc n) k h p none = at (nat_le (suc n) k) refl (λ less. greatest_is test n k less p (λ m a b. none m a (omega (arith, b))))
  where
    top : (b : Bool) → test (suc n) ≡ b → (b ≡ true) → (if test (suc n) then suc n else greatest test n) ≡ suc n
    top true e f = ap (λ b. if b then suc n else greatest test n) e
    top false e f = absurd (cc)

    pass : (k ≡ 0) ⊎ (test k ≡ true) → k ≡ suc n → test (suc n) ≡ true
    pass (inl z) e = absurd (omega (arith, z, e))
    pass (inr t) e = subst (λ m. test m ≡ true) e t

    at : (b : Bool) → nat_le (suc n) k ≡ b → (k ≤ n → greatest test n ≡ k) → greatest test (suc n) ≡ k
    at true e rest =
        let same : k ≡ suc n = grind (arith, nat_tests, e, h) in
        ap (λ b. if b then suc n else greatest test n) (pass p same) ∙ sym same
    at false e rest =
        let less : k ≤ n = grind (arith, nat_tests, e) in
        ap (λ b. if b then suc n else greatest test n) (none (suc n) (omega (arith, less)) (omega arith)) ∙ rest less

refused : (p limit : ℕ) (due : Log) (k m : ℕ) → k ≤ m → is_admitted p limit (shape_of (take k due)) ≡ false → is_admitted p limit (shape_of (take m due)) ≡ false
refused p limit due k m h e = at (is_admitted p limit (shape_of (take m due))) refl
  where
    at : (b : Bool) → is_admitted p limit (shape_of (take m due)) ≡ b → b ≡ false
    at false f = refl
    at true f =
        let part = part_admitted p limit (shape_of (take m due)) k f in
        let same : take k (shape_of (take m due)) ≡ shape_of (take k due) = take-map entry_shape k (take m due) ∙ ap shape_of (take-take k m due h) in
        absurd (cc)

-- where one entry more isn't admitted, the longest batch is found
pub admitted_stops : (p limit : ℕ) (due : Log) (k : ℕ) → k < length due → (k ≡ 0) ⊎ (is_admitted p limit (shape_of (take k due)) ≡ true)
    → is_admitted p limit (shape_of (take (k + 1) due)) ≡ false → admitted p limit due ≡ take k due
admitted_stops p limit due k h f e =
    ap (λ n. take n due)
    (greatest_is (λ n. is_admitted p limit (shape_of (take n due))) (length due) k (omega (arith, h)) f (λ m a b. refused p limit due (k + 1) m (omega (arith, a)) e))

-- where all entries are admitted, they are the longest batch
pub admitted_all : (p limit : ℕ) (due : Log) → (length due ≡ 0) ⊎ (is_admitted p limit (shape_of (take (length due) due)) ≡ true) → admitted p limit due ≡ take (length due) due
admitted_all p limit due f =
    ap (λ n. take n due) (greatest_is (λ n. is_admitted p limit (shape_of (take n due))) (length due) (length due) (omega arith) f (λ m a b. absurd (omega (arith, a, b))))

-- ---- the loop's step

map_snoc : (xs : List Event) (x : Event) → map entry_of (xs ++ x ∷ []) ≡ map entry_of xs ++ entry_of x ∷ []
map_snoc [] x = refl
map_snoc (y ∷ ys) x = ap (λ (l : Log). entry_of y ∷ l) (map_snoc ys x)

pub next_due : (due : List Event) (i : ℕ) (x : Event) → i < length due → x ≡ get_or due i x → take (i + 1) (map entry_of due) ≡ take i (map entry_of due) ++ entry_of x ∷ []
next_due due i x h e =
    take-map entry_of (i + 1) due
    ∙ ap (map entry_of) (take_more due i x h ∙ ap (λ (y : Event). take i due ++ y ∷ []) (sym e))
    ∙ map_snoc (take i due) x
    ∙ ap (λ (l : Log). l ++ entry_of x ∷ []) (sym (take-map entry_of i due))

take_front : (xs ys : Log) → take (length xs) (xs ++ ys) ≡ xs
take_front [] ys = refl
take_front (x ∷ xs) ys = ap (λ (l : Log). x ∷ l) (take_front xs ys)

last_gone : (xs ys : Log) (x y : Entry) → xs ++ x ∷ [] ≡ ys ++ y ∷ [] → xs ≡ ys
last_gone xs ys x y e =
    let a = ap length e in
    let b = length-append xs (x ∷ []) in
    let d = length-append ys (y ∷ []) in
    let same : length xs ≡ length ys = omega (arith, a, b, d) in
    sym (take_front xs (x ∷ [])) ∙ ap (take (length xs)) e ∙ ap (λ n. take n (ys ++ y ∷ [])) same ∙ take_front ys (y ∷ [])

pub popped : (o : Option Entry) (old new xs : Log) (x : Entry) → MatchOption o ((old ≡ []) × (new ≡ [])) (λ l. old ≡ new ++ l ∷ []) → old ≡ xs ++ x ∷ [] → new ≡ xs
popped None old new xs x h e =
    let a = ap length (sym h.0 ∙ e) in
    let b = length-append xs (x ∷ []) in
    absurd (omega (arith, a, b))
popped (Some l) old new xs x h e = last_gone new xs l x (sym h ∙ e)

-- the longest batch behind the first entries is the greatest number of entries that are one
pub longest_count : (xs : Shape) (from n : ℕ) → IsLongestBatch xs from n → n ≡ batch_count from xs
longest_count xs from n b =
    sym (greatest_is (λ k. is_batch (end_of (take from xs)) (take k (drop from xs))) (length (drop from xs)) n b.within (inr b.fits)
    (λ m over within. not_more (is_batch (end_of (take from xs)) (take m (drop from xs))) m over within refl))
  where
    not_more : (t : Bool) (m : ℕ) → n < m → m ≤ length (drop from xs) → is_batch (end_of (take from xs)) (take m (drop from xs)) ≡ t → t ≡ false
    not_more false m over within e = refl
    not_more true m over within e = absurd (let a = b.longest m within e in omega (arith, a, over))
