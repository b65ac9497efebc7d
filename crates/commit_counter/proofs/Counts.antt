-- Each step on the two words keeps their rule.
use Rattle.std.proofs.Common.{◌≡◌, ◌≢◌, ℕ, zero, suc, ◌*◌, ◌/◌, ◌%◌, ◌≤◌, true, false, true≢false, List, [], ◌∷◌, ◌++◌, length, get_or, set, sym, refl, ap, ◌∙◌, subst, ⊎_elim, arith}
use mathlib.Core.Option.{none, some, some-ne-none}
use lib.ListN.{get_elem?}
use Rattle.atomic_table.specs.Table.{step, keeps, opening, Allows, Splits, Joins}
use Rattle.atomic_table.proofs.Lists.{at_set, at_snoc, set_again}
use Rattle.commit_counter.specs.declared.words.Known.{Known}
use Rattle.commit_counter.specs.Words.{first_of, feeder_of, poller_of, both_of, nobody, Fits, Counted, Seat, Published, Looked, Moved, Asked, Settled}

at_end : (l : List Known) (a b : Known) (j : ℕ) → get_elem? l j ≢ some b → get_elem? (l ++ a ∷ []) j ≡ some b → j ≡ length l
at_end [] a b zero n e = refl
at_end [] a b (suc j) n e = absurd (some-ne-none b (sym e))
at_end (x ∷ xs) a b zero n e = absurd (n e)
at_end (x ∷ xs) a b (suc j) n e = ap suc (at_end xs a b j n e)

abbrev All : (ℕ → Known → Type 0) → List Known → Type 0
All F views = (seat : ℕ) (v : Known) → get_elem? views seat ≡ some v → F seat v

all_set : (F : ℕ → Known → Type 0) (views : List Known) (seat : ℕ) (w : Known) → F seat w → ((j : ℕ) (u : Known) → j ≢ seat → get_elem? views j ≡ some u → F j u) → All F (set views seat w)
all_set F views seat w mine others j u e = ⊎_elim (λ (x : (j ≡ seat) × (w ≡ u)). subst (λ (y : ℕ × Known). F y.0 y.1) (λ i. (sym x.0 i, x.1 i)) mine)
    (λ (x : (j ≢ seat) × (get_elem? views j ≡ some u)). others j u x.0 x.1) (at_set views seat j w u e)

pub begins : (start : ℕ) → Counted (opening (2 * start ∷ start ∷ []) [] (first_of start))
begins start = let h : 2 * start / 2 ≡ start = omega arith in let le : start ≤ 2 * start / 2 = omega arith in (
  0,
  0,
  2 * start,
  start,
  refl,
  le,
  all_set (Fits 0 0 (2 * start) start) (first_of start ∷ []) 0 (first_of start) ((λ _. (refl, refl, omega arith)), λ _. (refl, refl, le, omega arith, λ _. refl)) (λ j u other e. absurd (other (at_end [] _ u j (λ x. some-ne-none u (sym x)) e))),
)

word0 : (ws : List ℕ) (w p : ℕ) → ws ≡ w ∷ p ∷ [] → get_or ws 0 0 ≡ w
word0 ws w p e = ap (λ l. get_or l 0 0) e

word1 : (ws : List ℕ) (w p : ℕ) → ws ≡ w ∷ p ∷ [] → get_or ws 1 0 ≡ p
word1 ws w p e = ap (λ l. get_or l 1 0) e

-- the feeder stores a word 0 that has no smaller commit, before the end
pub publishes : (slots id : ℕ) (me : Seat) (new : ℕ) → me.0.feeds ≡ true → me.0.polls ≡ false → me.0.word % 2 ≡ 0 → me.0.word / 2 ≤ new / 2
    → Allows Counted slots id me 0 (λ _. new) (λ _. Published (step slots 0 new 0 none) me new)
publishes slots id me new may not running more s h _ at _ = let mine = h.6 id me.0 at in let w : Known = record me.0 { word = new } in
    let old : me.0.word ≡ h.2 = (mine.0 may).1 in (
      w,
      keeps,
      tt,
      (
        h.0,
        h.1,
        new,
        h.3,
        ap (λ l. set l 0 new) h.4,
        (let le = h.5 in omega arith),
        all_set (Fits h.0 h.1 new h.3) s.views id w ((λ _. ((mine.0 may).0, refl, (mine.0 may).2)), λ p. absurd (true≢false (sym p ∙ not)))
            (λ j u other e.
            let theirs = h.6 j u e in (
              (λ p. absurd (other ((theirs.0 p).0 ∙ sym (mine.0 may).0))),
              λ p. let t = theirs.1 p in (t.0, t.1, t.2, (let le = t.3 in omega arith), λ odd. let is : u.seen ≡ h.2 = t.4 odd in absurd (omega arith)),
            )),
      ),
      refl,
    )

-- the poller loads word 0
pub looks : (slots id : ℕ) (me : Seat) → me.0.feeds ≡ false → me.0.polls ≡ true
    → Allows Counted slots id me 0 (λ n. n) (Looked (step slots 0 0 0 none) me)
looks slots id me not may s h _ at _ = let mine = h.6 id me.0 at in let r : ℕ = get_or s.words 0 0 in let w : Known = record me.0 { seen = r } in
    let is : r ≡ h.2 = word0 s.words h.2 h.3 h.4 in let my = mine.1 may in (
      w,
      keeps,
      tt,
      (
        h.0,
        h.1,
        h.2,
        h.3,
        ap (λ l. set l 0 r) h.4 ∙ ap (λ n. n ∷ h.3 ∷ []) is,
        h.5,
        all_set (Fits h.0 h.1 h.2 h.3) s.views id w ((λ p. absurd (true≢false (sym p ∙ not))), λ _. (my.0, my.1, (let le = h.5 in omega arith), omega arith, λ _. is)) (λ j u other e. h.6 j u e),
      ),
      (refl, (let le = my.3 in omega arith), λ odd. is ∙ sym (my.4 odd)),
    )

-- the poller stores word 1
pub moves : (slots id : ℕ) (me : Seat) (new : ℕ) → me.0.feeds ≡ false → me.0.polls ≡ true → me.0.position ≤ new → new ≤ me.0.seen / 2
    → Allows Counted slots id me 1 (λ _. new) (λ _. Moved (step slots 1 new 0 none) me new)
moves slots id me new not may more less s h _ at _ = let mine = h.6 id me.0 at in let w : Known = record me.0 { position = new } in let my = mine.1 may in (
  w,
  keeps,
  tt,
  (
    h.0,
    h.1,
    h.2,
    new,
    ap (λ l. set l 1 new) h.4,
    (let le = my.3 in omega arith),
    all_set (Fits h.0 h.1 h.2 new) s.views id w ((λ p. absurd (true≢false (sym p ∙ not))), λ _. (my.0, refl, less, my.3, my.4))
        (λ j u other e. (
          (λ p. let t = (h.6 j u e).0 p in (t.0, t.1, (let le = t.2 in let e = my.1 in omega arith))),
          λ p. absurd (other (((h.6 j u e).1 p).0 ∙ sym my.0)),
        )),
  ),
  refl,
)

-- the feeder loads word 1
pub asks : (slots id : ℕ) (me : Seat) → me.0.feeds ≡ true → me.0.polls ≡ false
    → Allows Counted slots id me 1 (λ n. n) (Asked (step slots 1 0 0 none) me)
asks slots id me may not s h _ at _ = let mine = h.6 id me.0 at in let r : ℕ = get_or s.words 1 0 in let w : Known = record me.0 { found = r } in
    let is : r ≡ h.3 = word1 s.words h.2 h.3 h.4 in let old : me.0.word ≡ h.2 = (mine.0 may).1 in (
      w,
      keeps,
      tt,
      (
        h.0,
        h.1,
        h.2,
        h.3,
        ap (λ l. set l 1 r) h.4 ∙ ap (λ n. h.2 ∷ n ∷ []) is,
        h.5,
        all_set (Fits h.0 h.1 h.2 h.3) s.views id w ((λ _. ((mine.0 may).0, (mine.0 may).1, omega arith)), λ p. absurd (true≢false (sym p ∙ not))) (λ j u other e. h.6 j u e),
      ),
      (refl, (let le = h.5 in omega arith), (let le = (mine.0 may).2 in omega arith)),
    )

-- who publishes and polls loads word 0
pub settles : (slots id : ℕ) (me : Seat) → me.0.feeds ≡ true → me.0.polls ≡ true
    → Allows Counted slots id me 0 (λ n. n) (Settled (step slots 0 0 0 none) me)
settles slots id me a b s h _ at _ = let mine = h.6 id me.0 at in let r : ℕ = get_or s.words 0 0 in let is : r ≡ h.2 = word0 s.words h.2 h.3 h.4 in
    let old : me.0.word ≡ h.2 = (mine.0 a).1 in let my = mine.1 b in (
      me.0,
      keeps,
      tt,
      (
        h.0,
        h.1,
        h.2,
        h.3,
        ap (λ l. set l 0 r) h.4 ∙ ap (λ n. n ∷ h.3 ∷ []) is,
        h.5,
        subst (All (Fits h.0 h.1 h.2 h.3)) (sym (set_again s.views id me.0 at)) h.6,
      ),
      (refl, is ∙ sym old, (let le = my.2 in let e = my.1 in omega arith), (let le = my.3 in omega arith), (λ odd. my.4 odd ∙ sym is), (let le = (mine.0 a).2 in let e = my.1 in omega arith)),
    )

pub splits : (id : ℕ) (v : Known) → v.feeds ≡ true → v.polls ≡ true → Splits Counted id v (feeder_of v) (poller_of v)
splits id v a b s h at = let l : Known = feeder_of v in let r : Known = poller_of v in let mine = h.6 id v at in let my = mine.1 b in let vs : List Known = set s.views id l in
    let Old : ℕ → Known → Type 0 = λ j u. (u.feeds ≡ true → (j ≡ h.0) × (u.word ≡ h.2) × (u.found ≤ h.3)) × (u.polls ≢ true) in
    let old : All Old vs = all_set Old s.views id l ((λ _. mine.0 a), λ p. true≢false (sym p)) (λ j u other e. ((h.6 j u e).0, λ p. other (((h.6 j u e).1 p).0 ∙ sym my.0))) in (
      h.0,
      length vs,
      h.2,
      h.3,
      h.4,
      h.5,
      λ j u e. ⊎_elim (λ x. ((old j u x).0, λ p. absurd ((old j u x).1 p)))
          (λ (is : r ≡ u). (
            (λ p. absurd (true≢false (sym (ap (λ (y : Known). y.feeds) is ∙ p)))),
            λ p.
                let q = subst (λ (y : Known). (y.position ≡ h.3) × (h.3 ≤ y.seen / 2) × (y.seen / 2 ≤ h.2 / 2) × (y.seen % 2 ≡ 1 → y.seen ≡ h.2)) is (my.1, my.2, my.3, my.4) in (
                  at_end vs r u j (λ x. (old j u x).1 p) e,
                  q.0,
                  q.1,
                  q.2,
                  q.3,
                ),
          ))
          (at_snoc vs r u j e),
    )

pub joins : (id : ℕ) (v : Known) (other : ℕ) (u : Known) → v.feeds ≡ true → u.polls ≡ true → Joins Counted id v other u (both_of v u) nobody
joins id v other u a b s h at two at' = let both : Known = both_of v u in let mine = h.6 id v at in let vs : List Known = set s.views id both in
    let was : get_elem? s.views other ≡ some u = ⊎_elim (λ x. absurd (two x.0)) (λ x. x.1) (at_set s.views id other both u at') in let theirs = (h.6 other u was).1 b in
    let Now : ℕ → Known → Type 0 = λ j y. j ≢ other → Fits h.0 id h.2 h.3 j y in
    let now : All Now vs = all_set Now s.views id both (λ _. ((λ _. mine.0 a), λ _. (refl, theirs.1, theirs.2, theirs.3, theirs.4))) (λ j y _ e apart. ((h.6 j y e).0, λ p. absurd (apart (((h.6 j y e).1 p).0 ∙ sym theirs.0)))) in
    (h.0, id, h.2, h.3, h.4, h.5, all_set (Fits h.0 id h.2 h.3) vs other nobody ((λ p. absurd (true≢false (sym p))), λ p. absurd (true≢false (sym p))) (λ j y apart e. now j y e apart))
