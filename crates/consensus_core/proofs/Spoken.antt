-- All that a row sends has a spelling.
use Rattle.std.proofs.Common.{◌≡◌, inl, inr, ℕ, zero, suc, ◌+◌, ◌-◌, ◌^◌, Bool, true, false, ◌&&◌, List, [], ◌∷◌, ◌++◌, Option, Some, None, refl, arith, ℤ, pos, negsuc, ◌≤ℤ◌, if◌then◌else◌}
use Rattle.std.specs.Prelude.{⊤, ◌<◌, ◌≤◌, int_le, nat_le, nat_lt, nat_eq, take, drop, length, not, is_none, slice_index_or}
use Rattle.std.proofs.lemmas.Int.{ints}
use Rattle.std.proofs.lemmas.Bool.Decides.{nat_tests}
use Rattle.std.proofs.lemmas.List.{length-take-le, length-drop}
use Rattle.cl_base.specs.declared.entry.Entry.{Entry}
use Rattle.entry_log.specs.Log.{end_after}
use Rattle.entry_log.specs.PlaceLaws.{end_after-up, end_from-up}
use Rattle.entry_log.specs.TermLaws.{last_term-low, last_term-high}
use Rattle.entry_log.specs.Shape.{Shape, end_of, end_from, last_term_of, last_term_from, ends_by, ends_by_from, terms_to, TermsRise, TermsRiseFrom}
use Rattle.entry_log.specs.Batches.{is_batch}
use Rattle.sbe_consensus.specs.Spelling.{HasSpelling, IsLast, IsNumber, IsMember}
use Rattle.election.specs.declared.member.Election.{Election}
use Rattle.consensus_core.specs.Fit.{IsFit, WordFits, PlanFits}
use Rattle.consensus_core.specs.Reign.{greatest}
use Rattle.consensus_core.specs.Sends.{packet_of, to_others, batch_count, batch_to, batches, announcements, sends_of, ranges, CanSpell, AreWanted}
use Rattle.consensus_core.specs.declared.plan.Plan.{Plan}
use Rattle.consensus_core.specs.declared.plan.Plan.TheVariants as plans
use Rattle.consensus_core.specs.declared.plan.Word.{Word}
use Rattle.consensus_core.specs.declared.plan.Word.TheVariants as words
use Rattle.consensus_core.specs.declared.sends.Send.{Send}
use Rattle.consensus_core.specs.declared.sends.Send.TheVariants.{Says, Hands}
use Rattle.consensus_core.specs.declared.values.Values.{Values}
use Rattle.consensus_core.proofs.Admitted.{end_from_part}

-- a log that can be spoken of
pub record IsSpoken (xs : Shape) : Type 0 where
  pub place : end_of xs ≤ 16777216
  pub term : last_term_of xs ≤ℤ pos (2 ^ 62)
  pub rises : TermsRise xs

last_up : (t : ℤ) (xs : Shape) → TermsRiseFrom t xs → t ≤ℤ last_term_from t xs
last_up t [] r = omega (arith, ints)
last_up t (x ∷ xs) r = let a = r.0 in let b = last_up x.term xs r.1 in omega (arith, ints, a, b)

end_terms : (p : ℕ) (u : ℤ) (xs : Shape) → end_from p (terms_to u xs) ≤ end_from p xs
end_terms p u [] = omega arith
end_terms p u (x ∷ xs) = at (int_le x.term u) (end_terms (end_after p x.len) u xs) (end_from-up (end_after p x.len) xs) (end_after-up p x.len)
  where
    at : (b : Bool) → end_from (end_after p x.len) (terms_to u xs) ≤ end_from (end_after p x.len) xs → end_after p x.len ≤ end_from (end_after p x.len) xs → p ≤ end_after p x.len
        → end_from p (if b then x ∷ terms_to u xs else []) ≤ end_from (end_after p x.len) xs
    at true h g f = h
    at false h g f = omega (arith, f, g)

number : (n : ℕ) → n ≤ 2 ^ 62 → IsNumber (pos n)
number n h = (omega (arith, ints), omega (arith, ints, h))

member : (n : ℕ) → n < 5 → IsMember (pos n)
member n h = (omega (arith, ints), omega (arith, ints, h))

answer_vote : (b : Bool) → (pos 0 ≤ℤ pos (if b then 1 else 0)) × (pos (if b then 1 else 0) ≤ℤ pos 1)
answer_vote true = (omega (arith, ints), omega (arith, ints))
answer_vote false = (omega (arith, ints), omega (arith, ints))

word_spelled : (w : Word) (v : Values) (xs : Shape) → IsFit v.election → IsSpoken xs → WordFits w v.election → HasSpelling (packet_of w v xs)
word_spelled w v xs f s fits = at w fits
  where
    own : IsLast (last_term_of xs)
    own = (last_up (negsuc 0) xs s.rises, s.term)

    place : IsNumber (pos (end_of xs))
    place = let a = s.place in number (end_of xs) (omega (arith, a))

    id : IsMember (pos v.election.id)
    id = let a = f.id in let b = f.members in member v.election.id (omega (arith, a, b))

    at : (w : Word) → WordFits w v.election → HasSpelling (packet_of w v xs)
    at words.Canvass h = (own, place, (f.candidate.low, f.candidate.high), id)
    at words.RequestVote h = (own, place, (h, f.candidate.high), id)
    at (words.Vote asker term granted) h = ((h.1, h.2), own, place, member asker h.0, id, answer_vote granted)
    at words.Announcement h = (inl (refl, refl, refl, refl), (h, f.term.high), id)
    at (words.Answer asked) h =
        let up : negsuc 0 ≤ℤ asked.term = h.1.low in
        let high : last_term_of (terms_to asked.term xs) ≤ℤ asked.term = last_term-high asked.term (negsuc 0) xs up in
        let top = h.1.high in
        let part = end_terms 0 asked.term xs in
        let all = s.place in (
          inr ((up, top), number asked.place h.2, (last_term-low asked.term (negsuc 0) xs s.rises, omega (arith, ints, high, top)), number (end_of (terms_to asked.term xs)) (omega (arith, part, all))),
          (h.0, f.term.high),
          id,
        )
    at words.Report h = ((h, f.term.high), place, id)
    at words.Commit h =
        let part = end_from_part 0 xs v.rest.commit in
        let all = s.place in
        ((h, f.term.high), number (end_of (take v.rest.commit xs)) (omega (arith, part, all)), id)

-- ---- all that is sent

abbrev FitSend : Election → Send → Type 0
FitSend e (Says to w) = WordFits w e
FitSend e (Hands to start from count) = (1 ≤ count) × (count ≤ 64) × (start ≤ 16777216) × (pos 0 ≤ℤ e.term)

abbrev AllFit : Election → List Send → Type 0
AllFit e [] = ⊤
AllFit e (s ∷ ss) = FitSend e s × AllFit e ss

append_fit : (e : Election) (ss ts : List Send) → AllFit e ss → AllFit e ts → AllFit e (ss ++ ts)
append_fit e [] ts a b = b
append_fit e (s ∷ ss) ts a b = (a.0, append_fit e ss ts a.1 b)

choice : {X : Type 0} (P : X → Type 0) (b : Bool) (x y : X) → (b ≡ true → P x) → (b ≡ false → P y) → P (if b then x else y)
choice P true x y f g = f refl
choice P false x y f g = g refl

to_others_fit : (e : Election) (n m : ℕ) (w : Word) → WordFits w e → AllFit e (to_others n m w)
to_others_fit e zero m w h = tt
to_others_fit e (suc n) m w h = append_fit e (to_others n m w) _ (to_others_fit e n m w h) (choice (AllFit e) (nat_eq n m) [] (Says n w ∷ []) (λ g. tt) (λ g. (h, tt)))

announcements_fit : (e : Election) (n m : ℕ) (acked : List (Option ℕ)) → pos 0 ≤ℤ e.term → AllFit e (announcements n m acked)
announcements_fit e zero m acked h = tt
announcements_fit e (suc n) m acked h =
    append_fit e (announcements n m acked) _ (announcements_fit e n m acked h)
    (choice (AllFit e) (is_none (slice_index_or acked n None) && not (nat_eq n m)) (Says n words.Announcement ∷ []) [] (λ g. (h, tt)) (λ g. tt))

ends_short : (q p : ℕ) (xs : Shape) → q ≤ p → p < end_from q xs → ends_by_from q p xs < length xs
ends_short q p [] h g = absurd (omega (arith, h, g))
ends_short q p (x ∷ xs) h g = at (nat_le (end_after q x.len) p) refl (λ low. ends_short (end_after q x.len) p xs low g)
  where
    at : (b : Bool) → nat_le (end_after q x.len) p ≡ b → (end_after q x.len ≤ p → ends_by_from (end_after q x.len) p xs < length xs)
        → (if b then 1 + ends_by_from (end_after q x.len) p xs else 0) < suc (length xs)
    at true e more = let a = more (grind (arith, nat_tests, e)) in omega (arith, a)
    at false e more = omega arith

greatest_some : (test : ℕ → Bool) (n : ℕ) → 1 ≤ n → test 1 ≡ true → (1 ≤ greatest test n) × (test (greatest test n) ≡ true) × (greatest test n ≤ n)
greatest_some test zero h e = absurd (omega (arith, h))
greatest_some test (suc zero) h e = first (test 1) e
  where
    first : (b : Bool) → b ≡ true → (1 ≤ (if b then 1 else 0)) × (test (if b then 1 else 0) ≡ true) × ((if b then 1 else 0) ≤ 1)
    first true g = (omega arith, e, omega arith)
    first false g = absurd (cc)
greatest_some test (suc (suc n)) h e = at (test (suc (suc n))) refl (greatest_some test (suc n) (omega arith) e)
  where
    at : (b : Bool) → test (suc (suc n)) ≡ b → (1 ≤ greatest test (suc n)) × (test (greatest test (suc n)) ≡ true) × (greatest test (suc n) ≤ suc n)
        → (1 ≤ (if b then suc (suc n) else greatest test (suc n))) × (test (if b then suc (suc n) else greatest test (suc n)) ≡ true) × ((if b then suc (suc n) else greatest test (suc n)) ≤ suc (suc n))
    at true g more = (omega arith, g, omega arith)
    at false g more = let a = more.2 in (more.0, more.1, omega (arith, a))

one_is_batch : (p : ℕ) (ys : Shape) → 1 ≤ length ys → is_batch p (take 1 ys) ≡ true
one_is_batch p [] h = absurd (omega (arith, h))
one_is_batch p (y ∷ ys) h = refl

few : (p : ℕ) (ys : Shape) → is_batch p ys ≡ true → length ys ≤ 64
few p ys e = let h = both (nat_le (length ys) 64) _ e in grind (arith, nat_tests, h)
  where
    both : (a b : Bool) → (a && b) ≡ true → a ≡ true
    both true b h = refl
    both false b h = absurd (cc)

count_fits : (from : ℕ) (xs : Shape) → from < length xs → (1 ≤ batch_count from xs) × (batch_count from xs ≤ 64)
count_fits from xs h =
    let rest : length (drop from xs) ≡ length xs - from = length-drop from xs in
    let p = end_of (take from xs) in
    let some : 1 ≤ length (drop from xs) = omega (arith, rest, h) in
    let g = greatest_some (λ k. is_batch p (take k (drop from xs))) (length (drop from xs)) some (one_is_batch p (drop from xs) some) in
    let size = length-take-le (batch_count from xs) (drop from xs) g.2 in
    let most = few p (take (batch_count from xs) (drop from xs)) g.1 in
    (g.0, omega (arith, size, most))

batch_to_fit : (e : Election) (k m : ℕ) (xs : Shape) (acked : Option ℕ) → end_of xs ≤ 16777216 → pos 0 ≤ℤ e.term → AllFit e (batch_to k m xs acked)
batch_to_fit e k m xs None h t = tt
batch_to_fit e k m xs (Some p) h t =
    choice (AllFit e) (nat_lt p (end_of xs) && not (nat_eq k m)) (Hands k p (ends_by p xs) (batch_count (ends_by p xs) xs) ∷ []) []
    (λ g.
    let low : p < end_of xs = let b = both (nat_lt p (end_of xs)) _ g in grind (arith, nat_tests, b) in
    let count = count_fits (ends_by p xs) xs (ends_short 0 p xs (omega arith) low) in
    ((count.0, count.1, omega (arith, low, h), t), tt))
    (λ g. tt)
  where
    both : (a b : Bool) → (a && b) ≡ true → a ≡ true
    both true b h = refl
    both false b h = absurd (cc)

batches_fit : (e : Election) (n m : ℕ) (acked : List (Option ℕ)) (xs : Shape) → end_of xs ≤ 16777216 → pos 0 ≤ℤ e.term → AllFit e (batches n m acked xs)
batches_fit e zero m acked xs h t = tt
batches_fit e (suc n) m acked xs h t = append_fit e (batches n m acked xs) _ (batches_fit e n m acked xs h t) (batch_to_fit e n m xs (slice_index_or acked n None) h t)

sends_fit : (p : Plan) (v : Values) (xs : Shape) → end_of xs ≤ 16777216 → PlanFits p v.election → AllFit v.election (sends_of p v xs)
sends_fit plans.Silence v xs h f = tt
sends_fit (plans.All w) v xs h f = to_others_fit v.election v.election.members v.election.id w f
sends_fit (plans.One to w) v xs h f = (f, tt)
sends_fit (plans.Beat commit announce) v xs h f =
    let e = v.election in
    append_fit e (batches e.members e.id v.rest.acked xs) _ (batches_fit e e.members e.id v.rest.acked xs h f)
    (append_fit e (if commit then to_others e.members e.id words.Commit else []) _
    (choice (AllFit e) commit (to_others e.members e.id words.Commit) [] (λ g. to_others_fit e e.members e.id words.Commit f) (λ g. tt))
    (choice (AllFit e) announce (announcements e.members e.id v.rest.acked) [] (λ g. announcements_fit e e.members e.id v.rest.acked f) (λ g. tt)))

all_spell : (ss : List Send) (v : Values) (xs : Shape) (es : List Entry) → IsFit v.election → IsSpoken xs → AllFit v.election ss → AreWanted ss es → CanSpell ss v xs es
all_spell [] v xs es f s a w = tt
all_spell (Says to word ∷ ss) v xs es f s a w = (word_spelled word v xs f s a.0, all_spell ss v xs es f s a.1 w)
all_spell (Hands to start from count ∷ ss) v xs es f s a w =
    let size = length-take-le count es w.0 in
    let low = a.0.0 in
    let high = a.0.1 in
    let place = a.0.2 in
    let i = f.id in
    let n = f.members in (
      w.0,
      ((a.0.3, f.term.high), number start (omega (arith, place)), member v.election.id (omega (arith, i, n)), omega (arith, size, low), omega (arith, size, high), w.1),
      all_spell ss v xs (drop count es) f s a.1 w.2,
    )

pub can_spell : (p : Plan) (v : Values) (xs : Shape) (es : List Entry) → IsFit v.election → PlanFits p v.election → IsSpoken xs → AreWanted (sends_of p v xs) es → CanSpell (sends_of p v xs) v xs es
can_spell p v xs es f pf s w = all_spell (sends_of p v xs) v xs es f s (sends_fit p v xs s.place pf) w

-- where no LogBatch is sent no entries are wanted
pub none_wanted : (ss : List Send) → length (ranges ss) ≡ 0 → AreWanted ss []
none_wanted [] e = tt
none_wanted (Says to w ∷ ss) e = none_wanted ss e
none_wanted (Hands to start from count ∷ ss) e = absurd (omega (arith, e))
