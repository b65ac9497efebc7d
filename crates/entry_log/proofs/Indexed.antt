-- What an index keeps, entry by entry, and what a push and a cut leave of it.
use Rattle.std.proofs.Common.{◌≡◌, ℕ, zero, suc, ◌-◌, ◌<◌, ◌≤◌, List, [], ◌∷◌, ◌++◌, length, take, get_or, refl, sym, ap, ◌∙◌, subst, arith, ℤ, negsuc, ◌≤ℤ◌}
use Rattle.std.proofs.lemmas.List.{length-map, map-append, take-map, take_all, get_or-map}
use Rattle.entry_log.specs.Log.{end_after}
use Rattle.entry_log.specs.Shape.{EntryShape, Shape, lens_of, end_from, end_of, last_term_from, last_term_of, TermsRiseFrom}
use Rattle.entry_log.specs.declared.index.Stop.{Stop}
use Rattle.entry_log.specs.Index.{stop_shape, shape_at, EndsFrom, IsIndexed}

-- the first entries end where the last of them stops
pub end_from-stop : (p : ℕ) (stops : List Stop) (n : ℕ) (d : Stop) → EndsFrom p stops → n < length stops → end_from p (take (suc n) (shape_at stops)) ≡ (get_or stops n d).end
end_from-stop p [] n d e h = absurd (omega (arith, h))
end_from-stop p (s ∷ ss) zero d e h = sym e.0
end_from-stop p (s ∷ ss) (suc n) d e h = subst (λ q. end_from q (take (suc n) (shape_at ss)) ≡ (get_or ss n d).end) e.0 (end_from-stop s.end ss n d e.1 (omega (arith, h)))

pub last_term_from-stop : (t : ℤ) (stops : List Stop) (n : ℕ) (d : Stop) → n < length stops → last_term_from t (take (suc n) (shape_at stops)) ≡ (get_or stops n d).term
last_term_from-stop t [] n d h = absurd (omega (arith, h))
last_term_from-stop t (s ∷ ss) zero d h = refl
last_term_from-stop t (s ∷ ss) (suc n) d h = last_term_from-stop s.term ss n d (omega (arith, h))

pub EndsFrom-push : (p : ℕ) (stops : List Stop) (s : Stop) → EndsFrom p stops → s.end ≡ end_after (end_from p (shape_at stops)) s.event_len → EndsFrom p (stops ++ s ∷ [])
EndsFrom-push p [] s e h = (h, tt)
EndsFrom-push p (x ∷ xs) s e h = (e.0, EndsFrom-push x.end xs s e.1 (subst (λ q. s.end ≡ end_after (end_from q (shape_at xs)) s.event_len) (sym e.0) h))

pub EndsFrom-take : (p : ℕ) (stops : List Stop) (n : ℕ) → EndsFrom p stops → EndsFrom p (take n stops)
EndsFrom-take p [] zero e = tt
EndsFrom-take p [] (suc n) e = tt
EndsFrom-take p (s ∷ ss) zero e = tt
EndsFrom-take p (s ∷ ss) (suc n) e = (e.0, EndsFrom-take s.end ss n e.1)

pub TermsRiseFrom-push : (t : ℤ) (xs : Shape) (x : EntryShape) → TermsRiseFrom t xs → last_term_from t xs ≤ℤ x.term → TermsRiseFrom t (xs ++ x ∷ [])
TermsRiseFrom-push t [] x r h = (h, tt)
TermsRiseFrom-push t (y ∷ ys) x r h = (r.0, TermsRiseFrom-push y.term ys x r.1 h)

pub TermsRiseFrom-take : (t : ℤ) (xs : Shape) (n : ℕ) → TermsRiseFrom t xs → TermsRiseFrom t (take n xs)
TermsRiseFrom-take t [] zero r = tt
TermsRiseFrom-take t [] (suc n) r = tt
TermsRiseFrom-take t (x ∷ xs) zero r = tt
TermsRiseFrom-take t (x ∷ xs) (suc n) r = (r.0, TermsRiseFrom-take x.term xs n r.1)

-- what `end_at` and `term_at` read
pub end_of-stop : (stops : List Stop) (xs : Shape) (n : ℕ) (x : Stop) → shape_at stops ≡ xs → EndsFrom 0 stops → 0 < n → n ≤ length xs → x ≡ get_or stops (n - 1) x → x.end ≡ end_of (take n xs)
end_of-stop stops xs n x v e pos h i =
    let len : length xs ≡ length stops = ap (λ (s : Shape). length s) (sym v) ∙ length-map stops stop_shape in
    let m : suc (n - 1) ≡ n = omega (arith, pos) in
    let inside : n - 1 < length stops = omega (arith, len, h, pos) in
    subst (λ (s : Shape). x.end ≡ end_of (take n s)) v (subst (λ k. x.end ≡ end_of (take k (shape_at stops))) m (ap (λ (s : Stop). s.end) i ∙ sym (end_from-stop 0 stops (n - 1) x e inside)))

pub last_term_of-stop : (stops : List Stop) (xs : Shape) (n : ℕ) (x : Stop) → shape_at stops ≡ xs → 0 < n → n ≤ length xs → x ≡ get_or stops (n - 1) x → x.term ≡ last_term_of (take n xs)
last_term_of-stop stops xs n x v pos h i =
    let len : length xs ≡ length stops = ap (λ (s : Shape). length s) (sym v) ∙ length-map stops stop_shape in
    let m : suc (n - 1) ≡ n = omega (arith, pos) in
    let inside : n - 1 < length stops = omega (arith, len, h, pos) in
    subst (λ (s : Shape). x.term ≡ last_term_of (take n s)) v (subst (λ k. x.term ≡ last_term_of (take k (shape_at stops))) m (ap (λ (s : Stop). s.term) i ∙ sym (last_term_from-stop (negsuc 0) stops (n - 1) x inside)))

-- what `place` and `last_term` read
pub end_of-last : (stops : List Stop) (xs : Shape) (x : Stop) → shape_at stops ≡ xs → EndsFrom 0 stops → 0 < length stops → x ≡ get_or stops (length stops - 1) x → x.end ≡ end_of xs
end_of-last stops xs x v e pos i =
    let len : length xs ≡ length stops = ap (λ (s : Shape). length s) (sym v) ∙ length-map stops stop_shape in
    subst (λ (s : Shape). x.end ≡ end_of s) (take_all (length stops) xs (omega (arith, len))) (end_of-stop stops xs (length stops) x v e pos (omega (arith, len)) i)

pub last_term_of-last : (stops : List Stop) (xs : Shape) (x : Stop) → shape_at stops ≡ xs → 0 < length stops → x ≡ get_or stops (length stops - 1) x → x.term ≡ last_term_of xs
last_term_of-last stops xs x v pos i =
    let len : length xs ≡ length stops = ap (λ (s : Shape). length s) (sym v) ∙ length-map stops stop_shape in
    subst (λ (s : Shape). x.term ≡ last_term_of s) (take_all (length stops) xs (omega (arith, len))) (last_term_of-stop stops xs (length stops) x v pos (omega (arith, len)) i)

-- an index after a push
pub IsIndexed-push : (stops : List Stop) (xs : Shape) (s : Stop) → shape_at stops ≡ xs → IsIndexed stops → s.end ≡ end_after (end_of xs) s.event_len → last_term_of xs ≤ℤ s.term → IsIndexed (stops ++ s ∷ [])
IsIndexed-push stops xs s v h e t = record {
  ends = EndsFrom-push 0 stops s h.ends (subst (λ (l : Shape). s.end ≡ end_after (end_of l) s.event_len) (sym v) e);
  rises = subst (λ (l : Shape). TermsRiseFrom (negsuc 0) l) (sym (map-append stop_shape stops (s ∷ []))) (TermsRiseFrom-push (negsuc 0) (shape_at stops) (stop_shape s) h.rises (subst (λ (l : Shape). last_term_of l ≤ℤ s.term) (sym v) t));
}

-- and after a cut
pub IsIndexed-take : (stops : List Stop) (n : ℕ) → IsIndexed stops → IsIndexed (take n stops)
IsIndexed-take stops n h = record {
  ends = EndsFrom-take 0 stops n h.ends;
  rises = subst (λ (l : Shape). TermsRiseFrom (negsuc 0) l) (take-map stop_shape n stops) (TermsRiseFrom-take (negsuc 0) (shape_at stops) n h.rises);
}

-- what `event_len` reads
pub lens_of-stop : (stops : List Stop) (xs : Shape) (n : ℕ) (x : Stop) → shape_at stops ≡ xs → n < length xs → x ≡ get_or stops n x → x.event_len ≡ get_or (lens_of xs) n 0
lens_of-stop stops xs n x v h i =
    let len : length xs ≡ length stops = ap (λ (s : Shape). length s) (sym v) ∙ length-map stops stop_shape in
    let below : n < length stops = omega (arith, len, h) in
    let below' : n < length (shape_at stops) = rw length-map below in
    let a : get_or (lens_of (shape_at stops)) n 0 ≡ (get_or (shape_at stops) n (stop_shape x)).len = get_or-map (λ (s : EntryShape). s.len) (shape_at stops) n (stop_shape x) 0 below' in
    let b : get_or (shape_at stops) n (stop_shape x) ≡ stop_shape (get_or stops n x) = get_or-map stop_shape stops n x (stop_shape x) below in
    subst (λ (s : Shape). x.event_len ≡ get_or (lens_of s) n 0) v (ap (λ (s : Stop). s.event_len) i ∙ ap (λ (s : EntryShape). s.len) (sym b) ∙ sym a)
