-- One batch, entry by entry.
use Rattle.std.proofs.Common.{◌≡◌, ◌≢◌, ◌^◌, min, ◌⊎◌, inl, inr, ℕ, zero, suc, ◌+◌, ◌-◌, ◌<◌, ◌≤◌, Bool, true, false, ◌&&◌, ◌||◌, [], ◌∷◌, length, take, drop, get_or, refl, sym, ap, ◌∙◌, subst, arith, zero-add, ◌++◌, append_assoc}
use Rattle.std.specs.Prelude.{nat_le, sum}
use Rattle.std.proofs.lemmas.Bool.{eqb-true, eq-eqb}
use Rattle.std.proofs.lemmas.Bool.Decides.{nat_tests}
use Rattle.std.proofs.lemmas.List.{take-map, drop-map, take-take, length-take-le, length-map, length-drop, get_or-drop, take-append-drop}
use Rattle.std.proofs.lemmas.List.Sums.{sum_by_more, sum_by-take-le}
use Rattle.entry_log.specs.Log.{Log, end_after}
use Rattle.entry_log.specs.Shape.{EntryShape, Shape, lens_of, end_from, end_of}
use Rattle.entry_log.specs.Batches.{segment_of, all_in, in_one_segment, is_batch}
use Rattle.log_replication.specs.Batches.{IsLongestBatch, FollowsBatch}
use Rattle.log_replication.specs.Cuts.{appends_piece}

both : (a b : Bool) → (a && b) ≡ true → (a ≡ true) × (b ≡ true)
both true b e = (refl, e)
both false b e = cc

join : (a b : Bool) → a ≡ true → b ≡ true → (a && b) ≡ true
join a b p q = ap (λ z. z && b) p ∙ q

either : (a b : Bool) → (a || b) ≡ true → (a ≡ true) ⊎ (b ≡ true)
either true b e = inl refl
either false b e = inr e

-- each of the entries ends in this segment
all_in-each : (s p : ℕ) (xs : Shape) (n : ℕ) → all_in s p xs ≡ true → 0 < n → n ≤ length xs → segment_of (end_from p (take n xs)) ≡ s
all_in-each s p xs zero e a b = absurd (omega (arith, a))
all_in-each s p [] (suc n) e a b = absurd (omega (arith, b))
all_in-each s p (x ∷ xs) (suc zero) e a b = eqb-true _ _ (both _ _ e).0
all_in-each s p (x ∷ xs) (suc (suc n)) e a b = all_in-each s (end_after p x.len) xs (suc n) (both _ _ e).1 (omega arith) (omega (arith, b))

all_in-from_each : (s p : ℕ) (xs : Shape) → ((n : ℕ) → 0 < n → n ≤ length xs → segment_of (end_from p (take n xs)) ≡ s) → all_in s p xs ≡ true
all_in-from_each s p [] f = refl
all_in-from_each s p (x ∷ xs) f =
    join _ _ (eq-eqb _ _ (f 1 (omega arith) (omega arith))) (all_in-from_each s (end_after p x.len) xs (λ n a b. f (suc n) (omega arith) (omega (arith, b))))

-- The first k entries of xs are one batch from place p.
pub record Pieces (p : ℕ) (xs : Shape) (k : ℕ) : Type 0 where
  pub few : k ≤ 64
  pub small : (k ≤ 1) ⊎ (sum (lens_of (take k xs)) ≤ 8192)
  pub segment : (n : ℕ) → 0 < n → n ≤ k → segment_of (end_from p (take n xs)) ≡ segment_of (end_from p (take 1 xs))

one_segment : (p : ℕ) (xs : Shape) → ((n : ℕ) → 0 < n → n ≤ length xs → segment_of (end_from p (take n xs)) ≡ segment_of (end_from p (take 1 xs))) → in_one_segment p xs ≡ true
one_segment p [] f = refl
one_segment p (x ∷ xs) f = all_in-from_each (segment_of (end_after p x.len)) (end_after p x.len) xs (λ n a b. f (suc n) (omega arith) (omega (arith, b)))

one_segment-each : (p : ℕ) (xs : Shape) (n : ℕ) → in_one_segment p xs ≡ true → 0 < n → n ≤ length xs → segment_of (end_from p (take n xs)) ≡ segment_of (end_from p (take 1 xs))
one_segment-each p xs zero e a b = absurd (omega (arith, a))
one_segment-each p [] (suc n) e a b = absurd (omega (arith, b))
one_segment-each p (x ∷ xs) (suc zero) e a b = refl
one_segment-each p (x ∷ xs) (suc (suc n)) e a b = all_in-each (segment_of (end_after p x.len)) (end_after p x.len) xs (suc n) e (omega arith) (omega (arith, b))

small_test : (n s : ℕ) → (n ≤ 1) ⊎ (s ≤ 8192) → (nat_le n 1 || nat_le s 8192) ≡ true
small_test n s (inl h) = grind (arith, nat_tests, h)
small_test n s (inr h) = grind (arith, nat_tests, h)

small_from : (n s : ℕ) → (nat_le n 1 || nat_le s 8192) ≡ true → (n ≤ 1) ⊎ (s ≤ 8192)
small_from n s e = elim (either (nat_le n 1) (nat_le s 8192) e) [ inl a ↦ inl (grind (arith, nat_tests, a)) | inr b ↦ inr (grind (arith, nat_tests, b)) ]

pub is_batch-pieces : (p : ℕ) (xs : Shape) (k : ℕ) → k ≤ length xs → Pieces p xs k → is_batch p (take k xs) ≡ true
is_batch-pieces p xs k h b =
    let len = length-take-le k xs h in
    let few = b.few in
    join _ _ (grind (arith, nat_tests, len, few))
    (join _ _ (small_test (length (take k xs)) (sum (lens_of (take k xs))) (subst (λ n. (n ≤ 1) ⊎ (sum (lens_of (take k xs)) ≤ 8192)) (sym len) b.small))
    (one_segment p (take k xs) (λ n i j.
    let low : n ≤ k = omega (arith, len, j) in
    let some : 1 ≤ k = omega (arith, i, low) in
    ap (λ (s : Shape). segment_of (end_from p s)) (take-take n k xs low) ∙ b.segment n i low ∙ sym (ap (λ (s : Shape). segment_of (end_from p s)) (take-take 1 k xs some)))))

pub pieces-is_batch : (p : ℕ) (xs : Shape) (k : ℕ) → k ≤ length xs → is_batch p (take k xs) ≡ true → Pieces p xs k
pieces-is_batch p xs k h e =
    let len = length-take-le k xs h in
    let first = both (nat_le (length (take k xs)) 64) ((nat_le (length (take k xs)) 1 || nat_le (sum (lens_of (take k xs))) 8192) && in_one_segment p (take k xs)) e in
    let second = both (nat_le (length (take k xs)) 1 || nat_le (sum (lens_of (take k xs))) 8192) (in_one_segment p (take k xs)) first.1 in
    let f0 = first.0 in
    record {
      few = grind (arith, nat_tests, len, f0);
      small = subst (λ n. (n ≤ 1) ⊎ (sum (lens_of (take k xs)) ≤ 8192)) len (small_from (length (take k xs)) (sum (lens_of (take k xs))) second.0);
      segment = λ n i low.
          let some : 1 ≤ k = omega (arith, i, low) in
          sym (ap (λ (s : Shape). segment_of (end_from p s)) (take-take n k xs low)) ∙ one_segment-each p (take k xs) n second.1 i (omega (arith, len, low)) ∙ ap (λ (s : Shape). segment_of (end_from p s)) (take-take 1 k xs some);
    }

sum-take-le : (xs : Shape) (j k : ℕ) → j ≤ k → sum (lens_of (take j xs)) ≤ sum (lens_of (take k xs))
sum-take-le xs j k h =
    let a : sum (take j (lens_of (take k xs))) ≤ sum (lens_of (take k xs)) = sum_by-take-le (λ x. x) (lens_of (take k xs)) j in
    let b : take j (lens_of (take k xs)) ≡ lens_of (take j xs) = take-map (λ (x : EntryShape). x.len) j (take k xs) ∙ ap lens_of (take-take j k xs h) in
    subst (λ l. sum l ≤ sum (lens_of (take k xs))) b a

-- fewer entries of a batch are one
pub Pieces-fewer : (p : ℕ) (xs : Shape) (j k : ℕ) → j ≤ k → Pieces p xs k → Pieces p xs j
Pieces-fewer p xs j k h b = record {
  few = (let f = b.few in omega (arith, f, h));
  small = elim b.small [ inl a ↦ inl (omega (arith, a, h)) | inr a ↦ inr (let s = sum-take-le xs j k h in omega (arith, s, a)) ];
  segment = λ n i l. b.segment n i (omega (arith, h, l));
}

-- one entry is a batch
pub Pieces-one : (p : ℕ) (xs : Shape) → Pieces p xs 1
Pieces-one p xs = record {
  few = omega arith;
  small = inl (omega arith);
  segment = λ n i l. (let e : n ≡ 1 = omega (arith, i, l) in ap (λ k. segment_of (end_from p (take k xs))) e);
}

-- one more
pub Pieces-more : (p : ℕ) (xs : Shape) (k : ℕ) → k < 64 → Pieces p xs k → sum (lens_of (take (k + 1) xs)) ≤ 8192 → segment_of (end_from p (take (k + 1) xs)) ≡ segment_of (end_from p (take 1 xs)) → Pieces p xs (k + 1)
Pieces-more p xs k h b s e = record {
  few = omega (arith, h);
  small = inr s;
  segment = λ n i l. at n i l (nat_le n k) refl;
}
  where
    at : (n : ℕ) → 0 < n → n ≤ k + 1 → (c : Bool) → nat_le n k ≡ c → segment_of (end_from p (take n xs)) ≡ segment_of (end_from p (take 1 xs))
    at n i l true c = b.segment n i (grind (arith, nat_tests, c))
    at n i l false c = let same : n ≡ k + 1 = grind (arith, nat_tests, c, l) in ap (λ m. segment_of (end_from p (take m xs))) same ∙ e

-- the place behind entries that follow others
pub end_from-split : (q a b : ℕ) (xs : Shape) → end_from q (take (a + b) xs) ≡ end_from (end_from q (take a xs)) (take b (drop a xs))
end_from-split q zero b xs = ap (λ n. end_from q (take n xs)) (zero-add b)
end_from-split q (suc a) b [] = let e : suc a + b ≡ suc (a + b) = omega arith in ap (λ n. end_from q (take n [])) e ∙ empty b
  where
    empty : (n : ℕ) → end_from q [] ≡ end_from q (take n [])
    empty zero = refl
    empty (suc n) = refl
end_from-split q (suc a) b (x ∷ xs) = let e : suc a + b ≡ suc (a + b) = omega arith in ap (λ n. end_from q (take n (x ∷ xs))) e ∙ end_from-split (end_after q x.len) a b xs

-- the bytes of one more event
pub sum-more : (xs : Shape) (from k : ℕ) → from + k < length xs → sum (lens_of (take (k + 1) (drop from xs))) ≡ sum (lens_of (take k (drop from xs))) + get_or (lens_of xs) (from + k) 0
sum-more xs from k h =
    let ys = drop from xs in
    let f : EntryShape → ℕ = λ (x : EntryShape). x.len in
    let len : length (lens_of ys) ≡ length xs - from = length-map ys f ∙ length-drop from xs in
    let more : sum (take (k + 1) (lens_of ys)) ≡ sum (take k (lens_of ys)) + get_or (lens_of ys) k 0 = sum_by_more (λ x. x) (lens_of ys) k 0 (omega (arith, len, h)) in
    let item : get_or (lens_of ys) k 0 ≡ get_or (lens_of xs) (from + k) 0 = ap (λ l. get_or l k 0) (sym (drop-map f from xs)) ∙ get_or-drop from (lens_of xs) k 0 in
    ap sum (sym (take-map f (k + 1) ys)) ∙ more ∙ ap (λ n. n + get_or (lens_of ys) k 0) (ap sum (take-map f k ys)) ∙ ap (λ n. sum (lens_of (take k ys)) + n) item

-- the longest is found where one more is no batch
pub is_longest : (xs : Shape) (from k : ℕ) → k ≤ length (drop from xs) → Pieces (end_of (take from xs)) (drop from xs) k
    → ((m : ℕ) → m ≤ length (drop from xs) → Pieces (end_of (take from xs)) (drop from xs) m → m ≤ k) → IsLongestBatch xs from k
is_longest xs from k h b most = record {
  within = h;
  fits = is_batch-pieces (end_of (take from xs)) (drop from xs) k h b;
  longest = λ m i e. most m i (pieces-is_batch (end_of (take from xs)) (drop from xs) m i e);
}

-- a batch goes on from a follower's log
pub follows : (xs : Shape) (from n : ℕ) → FollowsBatch xs from n
follows xs from n = λ reign own s w a h. appends_piece reign (take from reign) (take n (drop from reign)) own w (drop n (drop from reign), whole reign) a h
  where
    whole : (reign : Log) → (take from reign ++ take n (drop from reign)) ++ drop n (drop from reign) ≡ reign
    whole reign =
        append_assoc (take from reign) (take n (drop from reign)) (drop n (drop from reign)) ∙ ap (λ (l : Log). take from reign ++ l) (take-append-drop n (drop from reign)) ∙ take-append-drop from reign

-- where the first entry stands, and its bytes
pub segment-first : (xs : Shape) (from : ℕ) → segment_of (end_of (take (from + 1) xs)) ≡ segment_of (end_from (end_of (take from xs)) (take 1 (drop from xs)))
segment-first xs from = ap segment_of (end_from-split 0 from 1 xs)

pub bytes-first : (xs : Shape) (from : ℕ) → from < length xs → get_or (lens_of xs) from 0 ≡ sum (lens_of (take 1 (drop from xs)))
bytes-first xs from h =
    let e : from + 0 ≡ from = omega arith in
    let more : sum (lens_of (take 1 (drop from xs))) ≡ 0 + get_or (lens_of xs) (from + 0) 0 = sum-more xs from 0 (omega (arith, h)) in
    ap (λ n. get_or (lens_of xs) n 0) (sym e) ∙ sym (zero-add (get_or (lens_of xs) (from + 0) 0)) ∙ sym more

-- the same of a further one
pub segment-next : (xs : Shape) (from k : ℕ) → segment_of (end_of (take (from + k + 1) xs)) ≡ segment_of (end_from (end_of (take from xs)) (take (k + 1) (drop from xs)))
segment-next xs from k = let e : from + k + 1 ≡ from + (k + 1) = omega arith in ap (λ n. segment_of (end_of (take n xs))) e ∙ ap segment_of (end_from-split 0 from (k + 1) xs)

capped : (a b : ℕ) → b ≡ min a (2 ^ 64 - 1) → b ≤ 8192 → b ≡ a
capped a b e h = omega (arith, e, h)

capped_low : (a b : ℕ) → b ≡ min a (2 ^ 64 - 1) → a ≤ 8192 → b ≤ 8192
capped_low a b e h = omega (arith, e, h)

-- the sum with one more, as it is counted
pub bytes-next : (xs : Shape) (from k b next : ℕ) → from + k < length xs → b ≡ sum (lens_of (take k (drop from xs))) → next ≡ min (b + get_or (lens_of xs) (from + k) 0) (2 ^ 64 - 1) → next ≤ 8192
    → next ≡ sum (lens_of (take (k + 1) (drop from xs)))
bytes-next xs from k b next h e m low = capped (b + get_or (lens_of xs) (from + k) 0) next m low ∙ ap (λ n. n + get_or (lens_of xs) (from + k) 0) e ∙ sym (sum-more xs from k h)

-- with one more it is no batch: the bytes are too many, or the segment is another
pub stops : (xs : Shape) (from k b next : ℕ) → from + k < length xs → 1 ≤ k → Pieces (end_of (take from xs)) (drop from xs) k → b ≡ sum (lens_of (take k (drop from xs))) → next ≡ min (b + get_or (lens_of xs) (from + k) 0) (2 ^ 64 - 1)
    → (8192 < next) ⊎ (segment_of (end_of (take (from + k + 1) xs)) ≢ segment_of (end_of (take (from + 1) xs))) → IsLongestBatch xs from k
stops xs from k b next h some pieces e m why =
    is_longest xs from k (let len = length-drop from xs in omega (arith, len, h)) pieces (λ n i more. at n more (nat_le n k) refl)
  where
    no_more : Pieces (end_of (take from xs)) (drop from xs) (k + 1) → ⊥
    no_more p = elim why [
      | inl many ↦ elim p.small [
        | inl few ↦ absurd (omega (arith, few, some))
        | inr low ↦ absurd (let c = capped_low (b + get_or (lens_of xs) (from + k) 0) next m (subst (λ n. n ≤ 8192) (sum-more xs from k h ∙ ap (λ n. n + get_or (lens_of xs) (from + k) 0) (sym e)) low) in omega (arith, c, many))
      ]
      | inr other ↦ other (segment-next xs from k ∙ p.segment (k + 1) (omega arith) (omega arith) ∙ sym (segment-first xs from))
    ]

    at : (n : ℕ) → Pieces (end_of (take from xs)) (drop from xs) n → (c : Bool) → nat_le n k ≡ c → n ≤ k
    at n more true c = grind (arith, nat_tests, c)
    at n more false c = absurd (no_more (Pieces-fewer (end_of (take from xs)) (drop from xs) (k + 1) n (grind (arith, nat_tests, c)) more))
