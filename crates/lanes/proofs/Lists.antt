-- Jobs of lanes, and lists of two.
use Rattle.std.proofs.Common.{◌≡◌, ℕ, ◌+◌, ◌≤◌, List, [], ◌∷◌, ◌++◌, Option, Some, None, length, take, drop, refl, ap, sym, ◌∙◌, subst, arith, length-append}
use Rattle.std.proofs.lemmas.Grind.{common_steps}
use Rattle.std.proofs.lemmas.List.{append_assoc}
use Rattle.service_container.specs.declared.container.Served.{Served}
use Rattle.service_phases.specs.Pairs.{Each, Each2}
use Rattle.service_phases.specs.Phases.{Ran}
use Rattle.lanes.specs.Jobs.{IsIdle, jobs_of, Adds}

-- idle lanes were lent nothing
pub no_jobs : (ls : List (Option Served)) → Each IsIdle ls → jobs_of ls ≡ []
no_jobs [] h = refl
no_jobs (None ∷ ls) h = no_jobs ls h.1
no_jobs (Some j ∷ ls) h = absurd (let e : Some j ≡ None = h.0 in cc)

-- where lanes were lent nothing they are idle
pub all_idle : (ls : List (Option Served)) → jobs_of ls ≡ [] → Each IsIdle ls
all_idle [] e = tt
all_idle (None ∷ ls) e = (refl, all_idle ls e)
all_idle (Some j ∷ ls) e = absurd (let l : length (j ∷ jobs_of ls) ≡ 0 = ap length e in omega arith)

-- where neither a job is kept nor one is lent, the lanes are idle
pub none_lent : (kept : List Served) (ls : List (Option Served)) → kept ++ jobs_of ls ≡ [] → Each IsIdle ls
none_lent [] ls e = all_idle ls e
none_lent (k ∷ kept) ls e = absurd (let l : length (k ∷ (kept ++ jobs_of ls)) ≡ 0 = ap length e in omega arith)

-- one lane more
pub jobs_snoc : (ls : List (Option Served)) (j : Served) → jobs_of (ls ++ Some j ∷ []) ≡ jobs_of ls ++ j ∷ []
jobs_snoc [] j = refl
jobs_snoc (None ∷ ls) j = jobs_snoc ls j
jobs_snoc (Some k ∷ ls) j = ap (λ l. k ∷ l) (jobs_snoc ls j)

pub each_snoc : {A : Type 0} (P : A → Type 0) (xs : List A) (x : A) → Each P xs → P x → Each P (xs ++ x ∷ [])
each_snoc P [] x h p = (p, tt)
each_snoc P (a ∷ xs) x h p = (h.0, each_snoc P xs x h.1 p)

pub each_front : {A : Type 0} (P : A → Type 0) (xs : List A) (x : A) → Each P (xs ++ x ∷ []) → Each P xs × P x
each_front P [] x h = (tt, h.0)
each_front P (a ∷ xs) x h = let k = each_front P xs x h.1 in ((h.0, k.0), k.1)

-- a list with a last place, split there
pub split1 : {A : Type 0} (P : A → Type 0) (all xs : List A) (x : A) → all ≡ xs ++ x ∷ [] → Each P all → Each P xs × P x
split1 P all xs x e h = each_front P xs x (subst (Each P) e h)

pub each2_append : {A B : Type 0} (R : A → B → Type 0) (xs : List A) (ys : List B) (us : List A) (vs : List B) → Each2 R xs ys → Each2 R us vs → Each2 R (xs ++ us) (ys ++ vs)
each2_append R [] [] us vs h k = k
each2_append R [] (b ∷ ys) us vs h k = absurd h
each2_append R (a ∷ xs) [] us vs h k = absurd h
each2_append R (a ∷ xs) (b ∷ ys) us vs h k = (h.0, each2_append R xs ys us vs h.1 k)

pub join2 : {A B : Type 0} (R : A → B → Type 0) (all : List A) (alls : List B) (xs : List A) (ys : List B) (x : A) (y : B) → all ≡ xs ++ x ∷ [] → alls ≡ ys ++ y ∷ [] → Each2 R xs ys → R x y → Each2 R all alls
join2 {A} {B} R all alls xs ys x y e f h r = let F : List A × List B → Type 0 = λ z. Each2 R z.0 z.1 in subst F (λ i. (sym e i, sym f i)) (each2_append R xs ys (x ∷ []) (y ∷ []) h (r, tt))

-- what a slice of a list leaves, where it kept its length
pub written : {A : Type 0} (xs ys : List A) → length xs ≡ length ys → take (length xs) (ys ++ drop (length ys) xs) ≡ ys
written xs ys e = grind (arith, common_steps)

append_none : {A : Type 0} (xs : List A) → xs ++ [] ≡ xs
append_none [] = refl
append_none (x ∷ xs) = ap (λ l. x ∷ l) (append_none xs)

-- where nothing is lent all is kept
pub keeps_all : (xs kept : List Served) (ls : List (Option Served)) → Each IsIdle ls → xs ≡ kept → xs ++ jobs_of ls ≡ kept
keeps_all xs kept ls h e = ap (λ l. xs ++ l) (no_jobs ls h) ∙ append_none xs ∙ e

-- where nothing is kept and nothing is lent there is nothing
pub none_kept : (xs : List Served) (ls : List (Option Served)) → xs ≡ [] → jobs_of ls ≡ [] → xs ++ jobs_of ls ≡ []
none_kept xs ls e f = ap (λ l. l ++ jobs_of ls) e ∙ f

-- the last job is lent to the last lane
pub lends_last : (all kept mid : List Served) (ls : List (Option Served)) (l : Option Served) (j : Served) → l ≡ Some j → all ≡ mid ++ j ∷ [] → kept ++ jobs_of ls ≡ mid → kept ++ jobs_of (ls ++ l ∷ []) ≡ all
lends_last all kept mid ls l j is e f =
    ap (λ k. kept ++ jobs_of (ls ++ k ∷ [])) is ∙ ap (λ x. kept ++ x) (jobs_snoc ls j) ∙ sym (append_assoc kept (jobs_of ls) (j ∷ [])) ∙ ap (λ x. x ++ j ∷ []) f ∙ sym e

-- lanes that came back were lent nothing
pub none_left : (n : ℕ) (ls ms : List (Option Served)) → n ≡ length ls → length ms ≡ length ls → Each IsIdle ms → jobs_of (take n (ms ++ drop (length ms) ls)) ≡ []
none_left n ls ms e f h =
    let all : take n (ms ++ drop (length ms) ls) ≡ ms = ap (λ k. take k (ms ++ drop (length ms) ls)) e ∙ written ls ms (sym f) in
    ap jobs_of all ∙ no_jobs ms h

-- what was kept ran, and so did what was lent
pub all_back : (kept was ran new all res : List Served) (ls seen : List (Option Served)) → kept ++ jobs_of ls ≡ all → was ≡ kept → seen ≡ ls → Each2 Ran was ran → Adds (jobs_of seen) ran new → res ≡ new → Each2 Ran all res
all_back kept was ran new all res ls seen e k s r h f =
    let both : Each2 Ran (was ++ jobs_of seen) (ran ++ h.0) = each2_append Ran was ran (jobs_of seen) h.0 r h.2 in
    let old : was ++ jobs_of seen ≡ all = ap (λ x. x ++ jobs_of seen) k ∙ ap (λ x. kept ++ jobs_of x) s ∙ e in
    let now : ran ++ h.0 ≡ res = sym (f ∙ h.1) in
    let F : List Served × List Served → Type 0 = λ z. Each2 Ran z.0 z.1 in
    subst F (λ i. (old i, now i)) both
