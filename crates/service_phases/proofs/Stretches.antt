-- A feed over one entry more.
use Rattle.std.proofs.Common.{◌≡◌, ℕ, ◌+◌, ◌-◌, ◌≤◌, ◌<◌, List, [], ◌∷◌, ◌++◌, length, take, drop, get_or, inr, sym, ap, ◌∙◌, arith, length-append, append_assoc}
use Rattle.std.proofs.lemmas.Grind.{common_steps}
use Rattle.cl_base.specs.declared.entry.Entry.{Entry}
use Rattle.commit_counter.specs.Ends.{Fed, fed_to}
use Rattle.service_phases.specs.Feeds.{TakesMore}

one_more : {A : Type 0} (xs : List A) (j k : ℕ) (x : A) → j + k < length xs → x ≡ get_or xs (j + k) x → take (k + 1) (drop j xs) ≡ take k (drop j xs) ++ x ∷ []
one_more xs j k x h e = grind (arith, common_steps)

pub takes_one : (first : ℕ) (entries : List Entry) (f g h : Fed) (x : Entry) (i : ℕ)
    → first ≤ fed_to f → TakesMore first entries f g → fed_to g ≡ i → i < first + length entries
    → x ≡ get_or entries (i - first) x → h ≡ record g { list = g.list ++ x ∷ [] }
    → TakesMore first entries f h × (fed_to h ≡ i + 1)
takes_one first entries f g h x i place takes at room is fed =
    let j : ℕ = fed_to f - first in
    let k : ℕ = length g.list - length f.list in
    let start : g.start ≡ f.start = ap (λ (z : Fed). z.start) takes.feed in
    let list : h.list ≡ g.list ++ x ∷ [] = ap (λ (z : Fed). z.list) fed in
    let begin : h.start ≡ g.start = ap (λ (z : Fed). z.start) fed in
    let long : length h.list ≡ length g.list + 1 = ap length list ∙ length-append g.list (x ∷ []) in
    let here : i - first ≡ j + k = let l = takes.longer in omega arith in
    let more : k + 1 ≡ length h.list - length f.list = let l = takes.longer in omega arith in
    let next : take (k + 1) (drop j entries) ≡ take k (drop j entries) ++ x ∷ [] = one_more entries j k x (omega arith) (is ∙ ap (λ n. get_or entries n x) here) in (
      record {
        feed = fed ∙ (λ n. (let y : Fed = record (takes.feed n) { list = sym list n } in y));
        list =
            list ∙ ap (λ l. l ++ x ∷ []) takes.list ∙ append_assoc f.list (take k (drop j entries)) (x ∷ [])
            ∙ ap (λ l. f.list ++ l) (sym next) ∙ ap (λ n. f.list ++ take n (drop j entries)) more;
        longer = (let l = takes.longer in omega arith);
        within = inr (omega arith);
      },
      omega arith,
    )
