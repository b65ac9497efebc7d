-- Free phases from one call to the next.
use Rattle.std.proofs.Common.{◌≡◌, ℕ, ◌≤◌, ◌<◌, ◌^◌, Bool, true, false, List, [], ◌∷◌, refl, sym, ap, ◌∙◌, arith}
use Rattle.commit_counter.specs.Ends.{Fed}
use Rattle.service_container.specs.declared.container.Served.{Served}
use Rattle.service_phases.specs.Pairs.{Each, Each2}
use Rattle.service_phases.specs.Feeds.{IsFed, MayFinish, Finishes, HasCommit, FedOn}
use Rattle.service_phases.specs.Phases.{Ran}
use Rattle.service_phases.specs.Stages.{Stage, Runs, HasRun, StartsAt, PollsFor}
use Rattle.run_phases.proofs.Lists.{each_weaker}
use Rattle.run_phases.proofs.Stages.{finish_ends, has_run}

-- feeds that run may be finished
pub may_finish : (first commit : ℕ) (feeds : List Fed) → Each (IsFed first commit) feeds → Each MayFinish feeds
may_finish first commit feeds h = each_weaker (IsFed first commit) MayFinish (λ f k. (k.running, k.pushed)) feeds h

-- what finishing leaves of each feed's commit
pub finish_due : (first commit : ℕ) (feeds ends : List Fed) → Each (IsFed first commit) feeds → Each2 Finishes feeds ends → Each (λ f. f.commit ≤ commit) ends
finish_due first commit [] [] h k = tt
finish_due first commit [] (g ∷ ends) h k = absurd k
finish_due first commit (f ∷ feeds) [] h k = absurd k
finish_due first commit (f ∷ feeds) (g ∷ ends) h k = ((let a = h.0.due in let e = ap (λ (z : Fed). z.commit) k.0 in omega arith), finish_due first commit feeds ends h.1 k.1)

pub finish_bound : (commit : ℕ) (ends : List Fed) → commit < 2 ^ 62 → Each (λ f. f.commit ≤ commit) ends → Each (λ f. f.commit < 2 ^ 62) ends
finish_bound commit ends bound h = each_weaker (λ f. f.commit ≤ commit) (λ f. f.commit < 2 ^ 62) (λ f d. omega arith) ends h

pub finish_has : (commit : ℕ) (feeds ends : List Fed) → Each (HasCommit commit) feeds → Each2 Finishes feeds ends → Each (HasCommit commit) ends
finish_has commit [] [] h k = tt
finish_has commit [] (g ∷ ends) h k = absurd k
finish_has commit (f ∷ feeds) [] h k = absurd k
finish_has commit (f ∷ feeds) (g ∷ ends) h k = (ap (λ (z : Fed). z.commit) k.0 ∙ h.0, finish_has commit feeds ends h.1 k.1)

-- a phase is not over while something isn't published
pub not_over : (over published : Bool) (P : Type 0) → (over ≡ true → P) → (P → published ≡ true) → published ≡ false → over ≡ false
not_over false published P f g e = refl
not_over true published P f g e = absurd (let h : true ≡ false = sym (g (f refl)) ∙ e in cc)

fed_on_start : (commit : ℕ) (f g : Fed) → FedOn commit f g → g.start ≡ f.start
fed_on_start commit f g h = ap (λ (z : Fed). z.start) h.feed

on_two : {A B C : Type 0} (R : A → B → Type 0) (S : B → C → Type 0) (T : A → C → Type 0) → ((x : A) (y : B) (z : C) → R x y → S y z → T x z) → (xs : List A) (ys : List B) (zs : List C) → Each2 R xs ys → Each2 S ys zs → Each2 T xs zs
on_two R S T f [] [] [] h k = tt
on_two R S T f [] [] (z ∷ zs) h k = absurd k
on_two R S T f [] (y ∷ ys) zs h k = absurd h
on_two R S T f (x ∷ xs) [] zs h k = absurd h
on_two R S T f (x ∷ xs) (y ∷ ys) [] h k = absurd k
on_two R S T f (x ∷ xs) (y ∷ ys) (z ∷ zs) h k = (f x y z h.0 k.0, on_two R S T f xs ys zs h.1 k.1)

beside_two : {A B C : Type 0} (R : A → B → Type 0) (S : A → C → Type 0) (T : B → C → Type 0) → ((x : A) (y : B) (z : C) → R x y → S x z → T y z) → (xs : List A) (ys : List B) (zs : List C) → Each2 R xs ys → Each2 S xs zs → Each2 T ys zs
beside_two R S T f [] [] [] h k = tt
beside_two R S T f [] [] (z ∷ zs) h k = absurd k
beside_two R S T f [] (y ∷ ys) zs h k = absurd h
beside_two R S T f (x ∷ xs) [] zs h k = absurd h
beside_two R S T f (x ∷ xs) (y ∷ ys) [] h k = absurd k
beside_two R S T f (x ∷ xs) (y ∷ ys) (z ∷ zs) h k = (f x y z h.0 k.0, beside_two R S T f xs ys zs h.1 k.1)

-- a phase whose feeds were fed on runs on
pub runs_on : (s : Stage) (commit : ℕ) (feeds mids : List Fed) (jobs : List Served) → Runs s feeds jobs → Each2 (FedOn commit) feeds mids → Runs s mids jobs
runs_on s commit feeds mids jobs h on = record {
  lent = h.lent;
  starts = on_two StartsAt (FedOn commit) StartsAt (λ c f g a b. fed_on_start commit f g b ∙ a) s.lending.lent feeds mids h.starts on;
  pollers = beside_two (FedOn commit) (λ f t. PollsFor f t.poller) (λ f t. PollsFor f t.poller) (λ f g t b p. record { name = p.name ∙ sym (ap (λ (z : Fed). z.name) b.feed); start = p.start ∙ sym (fed_on_start commit f g b); list = p.list }) feeds mids jobs on h.pollers;
  containers = h.containers;
}

pub fed_due : (first commit : ℕ) (feeds : List Fed) → Each (IsFed first commit) feeds → Each (λ f. f.commit ≤ commit) feeds
fed_due first commit feeds h = each_weaker (IsFed first commit) (λ f. f.commit ≤ commit) (λ f k. k.due) feeds h

-- the phase came back
pub came_back : (s : Stage) (feeds ends : List Fed) (jobs served : List Served) → Runs s feeds jobs → Each2 Finishes feeds ends → Each2 Ran jobs served → HasRun s ends served
came_back s feeds ends jobs served h k r = has_run s feeds ends jobs served h (finish_ends feeds ends k) r
