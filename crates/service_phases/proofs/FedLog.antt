-- What feeds were fed stays the log's: as they begin, as they are fed on, as the log grows or is cut above the commit, and as they end.
use Rattle.std.proofs.Common.{◌≡◌, ◌⊎◌, inl, inr, ℕ, ◌+◌, ◌-◌, ◌≤◌, min, max, true, List, [], ◌∷◌, ◌++◌, length, take, drop, refl, ap, sym, ◌∙◌, subst, arith, length-append, length-drop}
use Rattle.std.proofs.lemmas.List.{drop-drop, drop-take, take-take}
use Rattle.std.proofs.Math.Seq.{take-add, take-append_seam, take-length}
use Rattle.cl_base.specs.declared.entry.Entry.{Entry}
use Rattle.commit_counter.specs.Ends.{Fed, fed_to}
use Rattle.service_container.specs.Held.{Held, consumed_to}
use Rattle.service_phases.specs.Feeds.{FeedsFrom, FeedHolds, FeedEnds, TakesMore, Publishes, IsFed, Finishes}
use Rattle.service_phases.specs.Pairs.{Each, Each2}
use Rattle.service_phases.specs.Phases.{BeginsAt, IsWithin}

-- what stands from a place on, within a front that is the same of both
front_from : (n j k : ℕ) (xs ys : List Entry) → j + n ≤ k → take k xs ≡ take k ys → take n (drop j xs) ≡ take n (drop j ys)
front_from n j k xs ys low same =
    sym (drop-take j n xs) ∙ ap (drop j) (sym (take-take (j + n) k xs low) ∙ ap (take (j + n)) same ∙ take-take (j + n) k ys low) ∙ drop-take j n ys

front_of : (xs ys : List Entry) → take (length xs) (xs ++ ys) ≡ take (length xs) xs
front_of xs ys = take-append_seam xs ys ∙ sym (take-length xs)

pub begins : (log : List Entry) (commit : ℕ) (c : Held) (f : Fed) → BeginsAt c f → consumed_to c ≤ commit → consumed_to c ≤ length log → FeedsFrom log commit f f
begins log commit c f h low reach =
    let none : length f.list ≡ 0 = ap (λ (l : List Entry). length l) h.list in
    let start = h.start in
    let at = h.commit in
    record {
      image = record { name = refl; start = refl; role = refl };
      running = h.running;
      list = h.list ∙ ap (λ n. take n (drop f.start log)) (sym none);
      reach = omega arith;
      begun = omega arith;
      pushed = omega arith;
      due = omega arith;
    }

-- what was fed stays within the log
fits : (log : List Entry) (first : ℕ) (f g : Fed) → first ≤ fed_to f → fed_to f ≤ length log → g.start ≡ f.start → length f.list ≡ length g.list ⊎ fed_to g ≤ first + length (drop first log) → fed_to g ≤ length log
fits log first f g low reach start (inl same) = omega arith
fits log first f g low reach start (inr within) = omega (arith, length-drop first log)

pub feeds_on : (log : List Entry) (commit first : ℕ) (b f g h : Fed) → first ≤ fed_to f → FeedsFrom log commit b f → TakesMore first (drop first log) f g → Publishes commit g h → FeedsFrom log commit b h
feeds_on log commit first b f g h low was takes publishes =
    let n : ℕ = length f.list in
    let k : ℕ = length g.list - n in
    let xs : List Entry = drop b.start log in
    let list : h.list ≡ g.list = ap (λ (z : Fed). z.list) publishes in
    let start : h.start ≡ b.start = ap (λ (z : Fed). z.start) publishes ∙ ap (λ (z : Fed). z.start) takes.feed ∙ was.image.start in
    let place : g.start ≡ f.start = ap (λ (z : Fed). z.start) takes.feed in
    let before : g.commit ≡ f.commit = ap (λ (z : Fed). z.commit) takes.feed in
    let commit_is : h.commit ≡ max g.commit (min (fed_to g) commit) = ap (λ (z : Fed). z.commit) publishes in
    let many : length h.list ≡ length g.list = ap (λ (l : List Entry). length l) list in
    let longer = takes.longer in
    let same = was.image.start in
    let pushed = was.pushed in
    let begun = was.begun in
    let due = was.due in
    let reach = fits log first f g low was.reach place takes.within in
    let on : first + (fed_to f - first) ≡ b.start + n = omega arith in
    let here : drop (fed_to f - first) (drop first log) ≡ drop n xs =
    drop-drop (fed_to f - first) first log ∙ ap (λ j. drop j log) on ∙ sym (drop-drop n b.start log) in
    let all : n + k ≡ length h.list = omega arith in
    record {
      image = record {
        name = ap (λ (z : Fed). z.name) publishes ∙ ap (λ (z : Fed). z.name) takes.feed ∙ was.image.name;
        start = start;
        role = ap (λ (z : Fed). z.role) publishes ∙ ap (λ (z : Fed). z.role) takes.feed ∙ was.image.role;
      };
      running = ap (λ (z : Fed). z.ended) publishes ∙ ap (λ (z : Fed). z.ended) takes.feed ∙ was.running;
      list = list ∙ takes.list ∙ (λ i. was.list i ++ take k (here i)) ∙ sym (take-add n k xs) ∙ ap (λ j. take j xs) all;
      reach = omega arith;
      begun = omega arith;
      pushed = omega arith;
      due = omega arith;
    }

pub grows : (log more : List Entry) (commit next : ℕ) (b f : Fed) → commit ≤ next → FeedsFrom log commit b f → FeedsFrom (log ++ more) next b f
grows log more commit next b f low h =
    let start = h.image.start in
    let reach = h.reach in
    let long : length (log ++ more) ≡ length log + length more = length-append log more in
    let due = h.due in
    record {
      image = h.image;
      running = h.running;
      list = h.list ∙ front_from (length f.list) b.start (length log) log (log ++ more) (omega arith) (sym (front_of log more));
      reach = omega arith;
      begun = h.begun;
      pushed = h.pushed;
      due = omega arith;
    }

pub holds : (log : List Entry) (commit : ℕ) (b f : Fed) → FeedsFrom log commit b f → FeedHolds log commit b f
holds log commit b f h =
    let k : ℕ = f.commit - b.start in
    let start = h.image.start in
    let pushed = h.pushed in
    record {
      image = h.image;
      list = ap (take k) h.list ∙ take-take k (length f.list) (drop b.start log) (omega arith);
      begun = h.begun;
      pushed = h.pushed;
      due = h.due;
    }

pub stays : (log next : List Entry) (commit : ℕ) (b f : Fed) → take commit next ≡ take commit log → FeedHolds log commit b f → FeedHolds next commit b f
stays log next commit b f same h =
    let begun = h.begun in
    let due = h.due in
    record {
      image = h.image;
      list = h.list ∙ front_from (f.commit - b.start) b.start commit log next (omega arith) (sym same);
      begun = h.begun;
      pushed = h.pushed;
      due = h.due;
    }

finished : (log : List Entry) (commit : ℕ) (b f : Fed) → FeedHolds log commit b f → FeedEnds log commit b (record f { ended = true })
finished log commit b f h = (
  record {
    image = record { name = h.image.name; start = h.image.start; role = h.image.role };
    list = h.list;
    begun = h.begun;
    pushed = h.pushed;
    due = h.due;
  },
  refl,
)

pub ends : (log : List Entry) (commit : ℕ) (b f g : Fed) → FeedHolds log commit b f → Finishes f g → FeedEnds log commit b g
ends log commit b f g h end = subst (FeedEnds log commit b) (sym end) (finished log commit b f h)

pub stays_within : (log next : List Entry) (commit later : ℕ) (c : Held) → commit ≤ later → take commit next ≡ take commit log → IsWithin log commit c → IsWithin next later c
stays_within log next commit later c low same h =
    let due = h.due in
    record {
      inputs = h.inputs ∙ front_from (length c.inputs) c.base commit log next due (sym same);
      due = omega arith;
    }

-- ---- all feeds

pub all_on : (log : List Entry) (commit first : ℕ) (bs fs gs hs : List Fed) → Each (IsFed first commit) fs → Each2 (FeedsFrom log commit) bs fs → Each2 (TakesMore first (drop first log)) fs gs → Each2 (Publishes commit) gs hs → Each2 (FeedsFrom log commit) bs hs
all_on log commit first [] [] [] [] a w t p = tt
all_on log commit first (b ∷ bs) (f ∷ fs) (g ∷ gs) (h ∷ hs) a w t p =
    (feeds_on log commit first b f g h (reached first commit f a.0) w.0 t.0 p.0, all_on log commit first bs fs gs hs a.1 w.1 t.1 p.1) where
      reached : (first commit : ℕ) (f : Fed) → IsFed first commit f → first ≤ fed_to f
      reached first commit f h = let low = h.start in omega arith
all_on log commit first [] (f ∷ fs) gs hs a w t p = absurd w
all_on log commit first (b ∷ bs) [] gs hs a w t p = absurd w
all_on log commit first [] [] (g ∷ gs) hs a w t p = absurd t
all_on log commit first (b ∷ bs) (f ∷ fs) [] hs a w t p = absurd t
all_on log commit first [] [] [] (h ∷ hs) a w t p = absurd p
all_on log commit first (b ∷ bs) (f ∷ fs) (g ∷ gs) [] a w t p = absurd p
