-- What is sent on a stream, and where a new stream goes, by its place.
use Rattle.std.proofs.Common.{◌≡◌, ◌≢◌, ℕ, zero, suc, ◌<◌, ◌≤◌, ℤ, ◌<ℤ◌, Bool, true, false, cond, List, [], ◌∷◌, length, get_or, set, refl, sym, ap, ◌∙◌, subst, arith, int_lt, Result, Ok, Err, OnOk, OnErr}
use Rattle.std.specs.List.{AllByRecursion, HoldsAt, insert}
use Rattle.std.specs.Ordering.{int_eq}
use Rattle.std.proofs.lemmas.Bool.{false_from_ne_true}
use Rattle.std.proofs.lemmas.Bool.Decides.{Decides-int_eq}
use Rattle.std.proofs.lemmas.Int.{ints}
use Rattle.egress.specs.declared.sent.Sent.{Sent}
use Rattle.egress.specs.Streams.{StreamSeen, StreamsRise, IsBetween, empty_stream, with_record, sent_on, sent_more}
use Rattle.egress.proofs.Searched.{above_at}

differs : (a b : ℤ) → a ≢ b → int_eq a b ≡ false
differs a b h = false_from_ne_true (int_eq a b) (λ e. h ((Decides-int_eq a b).0 e))

agrees : (a b : ℤ) → a ≡ b → int_eq a b ≡ true
agrees a b e = (Decides-int_eq a b).1 e

lower : (a b : ℤ) → a <ℤ b → int_lt a b ≡ true
lower a b h = grind (arith, ints, h)

is_lower : (a b : ℤ) → int_lt a b ≡ true → a <ℤ b
is_lower a b e = grind (arith, ints, e)

not_lower : (a b : ℤ) → (a <ℤ b → ⊥) → int_lt a b ≡ false
not_lower a b h = false_from_ne_true (int_lt a b) (λ e. h (is_lower a b e))

lower_differs : (a b : ℤ) → a <ℤ b → a ≢ b
lower_differs a b h e = absurd (omega (arith, ints))

lower_back : (a b : ℤ) → a <ℤ b → b <ℤ a → ⊥
lower_back a b h k = absurd (omega (arith, ints))

same_back : (a b : ℤ) → a ≡ b → a <ℤ b → ⊥
same_back a b e h = absurd (omega (arith, ints))

-- the stream that is found
pub sent_at : (k : ℤ) (l : List StreamSeen) (i : ℕ) (d : StreamSeen) → StreamsRise l → i < length l → HoldsAt (λ (b : StreamSeen). b.stream ≡ k) l i → sent_on k l ≡ (get_or l i d).sent
sent_at k [] i d r b h = absurd (omega arith)
sent_at k (p ∷ l) zero d r b h = ap (λ t. cond t p.sent (sent_on k l)) (agrees p.stream k (h d))
sent_at k (p ∷ l) (suc i) d r b h =
    let low : p.stream <ℤ (get_or l i d).stream = above_at p.stream l i d r.0 (omega arith) in
    let same : (get_or l i d).stream ≡ k = h d in
    ap (λ t. cond t p.sent (sent_on k l)) (differs p.stream k (λ e. lower_differs p.stream (get_or l i d).stream low (e ∙ sym same))) ∙ sent_at k l i d r.1 (omega arith) h

none_above : (k : ℤ) (l : List StreamSeen) → AllByRecursion (λ (b : StreamSeen). k <ℤ b.stream) l → sent_on k l ≡ []
none_above k [] h = refl
none_above k (p ∷ l) h = ap (λ t. cond t p.sent (sent_on k l)) (differs p.stream k (λ e. lower_differs k p.stream h.0 (sym e))) ∙ none_above k l h.1

-- no stream is found
pub sent_none : (k : ℤ) (l : List StreamSeen) (i : ℕ) → IsBetween k i l → sent_on k l ≡ []
sent_none k [] i h = refl
sent_none k (p ∷ l) zero h = none_above k (p ∷ l) h.1
sent_none k (p ∷ l) (suc i) h = ap (λ t. cond t p.sent (sent_on k l)) (differs p.stream k (lower_differs p.stream k h.0.0)) ∙ sent_none k l i (h.0.1, h.1)

-- a record of a stream that is there
pub more_at : (s : Sent) (l : List StreamSeen) (i : ℕ) (d : StreamSeen) → StreamsRise l → i < length l → HoldsAt (λ (b : StreamSeen). b.stream ≡ s.stream) l i → sent_more s l ≡ set l i (with_record s (get_or l i d))
more_at s [] i d r b h = absurd (omega arith)
more_at s (p ∷ l) zero d r b h =
    ap (λ t. cond t (with_record s (empty_stream s.stream) ∷ p ∷ l) (cond (int_eq p.stream s.stream) (with_record s p ∷ l) (p ∷ sent_more s l))) (not_lower s.stream p.stream (same_back s.stream p.stream (sym (h d))))
    ∙ ap (λ t. cond t (with_record s p ∷ l) (p ∷ sent_more s l)) (agrees p.stream s.stream (h d))
more_at s (p ∷ l) (suc i) d r b h =
    let low : p.stream <ℤ (get_or l i d).stream = above_at p.stream l i d r.0 (omega arith) in
    let same : (get_or l i d).stream ≡ s.stream = h d in
    let below : p.stream <ℤ s.stream = subst (λ z. p.stream <ℤ z) same low in
    ap (λ t. cond t (with_record s (empty_stream s.stream) ∷ p ∷ l) (cond (int_eq p.stream s.stream) (with_record s p ∷ l) (p ∷ sent_more s l))) (not_lower s.stream p.stream (lower_back p.stream s.stream below))
    ∙ ap (λ t. cond t (with_record s p ∷ l) (p ∷ sent_more s l)) (differs p.stream s.stream (lower_differs p.stream s.stream below))
    ∙ ap (λ m. p ∷ m) (more_at s l i d r.1 (omega arith) h)

-- a record of a stream that isn't there yet
pub more_new : (s : Sent) (l : List StreamSeen) (i : ℕ) → i ≤ length l → IsBetween s.stream i l → sent_more s l ≡ insert l i (with_record s (empty_stream s.stream))
more_new s [] zero b h = refl
more_new s [] (suc i) b h = absurd (omega arith)
more_new s (p ∷ l) zero b h =
    ap (λ t. cond t (with_record s (empty_stream s.stream) ∷ p ∷ l) (cond (int_eq p.stream s.stream) (with_record s p ∷ l) (p ∷ sent_more s l))) (lower s.stream p.stream h.1.0)
more_new s (p ∷ l) (suc i) b h =
    ap (λ t. cond t (with_record s (empty_stream s.stream) ∷ p ∷ l) (cond (int_eq p.stream s.stream) (with_record s p ∷ l) (p ∷ sent_more s l))) (not_lower s.stream p.stream (lower_back p.stream s.stream h.0.0))
    ∙ ap (λ t. cond t (with_record s p ∷ l) (p ∷ sent_more s l)) (differs p.stream s.stream (lower_differs p.stream s.stream h.0.0))
    ∙ ap (λ m. p ∷ m) (more_new s l i (omega arith) (h.0.1, h.1))

above_more : (x : ℤ) (s : Sent) (l : List StreamSeen) → x <ℤ s.stream → AllByRecursion (λ (b : StreamSeen). x <ℤ b.stream) l → AllByRecursion (λ (b : StreamSeen). x <ℤ b.stream) (sent_more s l)
above_more x s [] h k = (h, tt)
above_more x s (p ∷ l) h k = by (int_lt s.stream p.stream) (int_eq p.stream s.stream) (above_more x s l h k.1)
  where
    by : (a b : Bool) → AllByRecursion (λ (b : StreamSeen). x <ℤ b.stream) (sent_more s l) → AllByRecursion (λ (b : StreamSeen). x <ℤ b.stream) (cond a (with_record s (empty_stream s.stream) ∷ p ∷ l) (cond b (with_record s p ∷ l) (p ∷ sent_more s l)))
    by true b m = (h, k)
    by false true m = k
    by false false m = (k.0, m)

above_lower : (x y : ℤ) (l : List StreamSeen) → x <ℤ y → AllByRecursion (λ (b : StreamSeen). y <ℤ b.stream) l → AllByRecursion (λ (b : StreamSeen). x <ℤ b.stream) l
above_lower x y [] h k = tt
above_lower x y (p ∷ l) h k = let above = k.0 in (omega (arith, ints), above_lower x y l h k.1)

between_is : (x y : ℤ) → int_lt y x ≡ false → int_eq x y ≡ false → x <ℤ y
between_is x y a b = grind (arith, ints, a, b)

-- the streams still rise
pub more_rises : (s : Sent) (l : List StreamSeen) → StreamsRise l → StreamsRise (sent_more s l)
more_rises s [] r = (tt, tt)
more_rises s (p ∷ l) r = by (int_lt s.stream p.stream) refl (int_eq p.stream s.stream) refl (more_rises s l r.1)
  where
    by : (a : Bool) → int_lt s.stream p.stream ≡ a → (b : Bool) → int_eq p.stream s.stream ≡ b → StreamsRise (sent_more s l) → StreamsRise (cond a (with_record s (empty_stream s.stream) ∷ p ∷ l) (cond b (with_record s p ∷ l) (p ∷ sent_more s l)))
    by true e b f m = let low : s.stream <ℤ p.stream = is_lower s.stream p.stream e in ((low, above_lower s.stream p.stream l low r.0), r)
    by false e true f m = r
    by false e false f m = (above_more p.stream s l (between_is p.stream s.stream e f) r.0, m)

-- the streams rise after a record was sent, and where there was no memory for it
pub rises_after : {E : Type 0} (r : Result (Unit {0}) E) (s : Sent) (old new : List StreamSeen) → StreamsRise old → OnOk r (new ≡ sent_more s old) → OnErr r (new ≡ old) → StreamsRise new
rises_after (Ok u) s old new rise ok err = subst (λ l. StreamsRise l) (sym ok) (more_rises s old rise)
rises_after (Err e) s old new rise ok err = subst (λ l. StreamsRise l) (sym err) rise

same_set : (l : List StreamSeen) (i : ℕ) (d : StreamSeen) → set l i (get_or l i d) ≡ l
same_set [] i d = refl
same_set (p ∷ l) zero d = refl
same_set (p ∷ l) (suc i) d = ap (λ m. p ∷ m) (same_set l i d)

-- the stream at a place was given a record, or there was no memory for it
pub at_more : {E : Type 0} (r : Result (Unit {0}) E) (s : Sent) (l : List StreamSeen) (i : ℕ) (b b' : StreamSeen) → StreamsRise l → i < length l → HoldsAt (λ (c : StreamSeen). c.stream ≡ s.stream) l i → b ≡ get_or l i b → OnOk r (b' ≡ with_record s b) → OnOk r (set l i b' ≡ sent_more s l)
at_more (Ok u) s l i b b' rise within found is ok = ap (λ x. set l i x) (ok ∙ ap (with_record s) is) ∙ sym (more_at s l i b rise within found)
at_more (Err e) s l i b b' rise within found is ok = tt

pub at_same : {E : Type 0} (r : Result (Unit {0}) E) (l : List StreamSeen) (i : ℕ) (b b' : StreamSeen) → b ≡ get_or l i b → OnErr r (b' ≡ b) → OnErr r (set l i b' ≡ l)
at_same (Ok u) l i b b' is err = tt
at_same (Err e) l i b b' is err = ap (λ x. set l i x) (err ∙ is) ∙ same_set l i b
