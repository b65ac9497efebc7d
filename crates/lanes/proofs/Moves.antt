-- Each move keeps the rule of the lane.
use Rattle.std.proofs.Common.{◌≡◌, ◌≢◌, ℕ, zero, suc, true, false, true≢false, List, [], ◌∷◌, ◌++◌, length, set, sym, refl, ap, ◌∙◌, subst, ⊎_elim, Option, Some, None}
use mathlib.Core.Option.{some, some-ne-none}
use lib.ListN.{get_elem?}
use Rattle.crossbeam_queue.specs.Fifo.{Pushes, Pops, Forks, Learns}
use Rattle.crossbeam_queue.proofs.Lists.{at_set, at_snoc}
use Rattle.service_container.specs.declared.container.Served.{Served}
use Rattle.lanes.specs.declared.rule.Message.{Message}
use Rattle.lanes.specs.declared.rule.Message.TheVariants.{Job as Lone}
use Rattle.lanes.specs.declared.job.Job.{Job}
use Rattle.lanes.specs.declared.rule.Hold.{Hold}
use Rattle.lanes.specs.Lent.{hold, job_of, Stands, StandsFor, AtRest, Fits, Lent}

at_end : (l : List Hold) (a b : Hold) (j : ℕ) → get_elem? l j ≢ some b → get_elem? (l ++ a ∷ []) j ≡ some b → j ≡ length l
at_end [] a b zero n e = refl
at_end [] a b (suc j) n e = absurd (some-ne-none b (sym e))
at_end (x ∷ xs) a b zero n e = absurd (n e)
at_end (x ∷ xs) a b (suc j) n e = ap suc (at_end xs a b j n e)

abbrev All : (ℕ → Hold → Type 0) → List Hold → Type 0
All F views = (port : ℕ) (v : Hold) → get_elem? views port ≡ some v → F port v

all_set : (F : ℕ → Hold → Type 0) (views : List Hold) (port : ℕ) (w : Hold) → F port w → ((j : ℕ) (u : Hold) → j ≢ port → get_elem? views j ≡ some u → F j u) → All F (set views port w)
all_set F views port w mine others j u e = ⊎_elim (λ (x : (j ≡ port) × (w ≡ u)). subst (λ (y : ℕ × Hold). F y.0 y.1) (λ i. (sym x.0 i, x.1 i)) mine)
    (λ (x : (j ≢ port) × (get_elem? views j ≡ some u)). others j u x.0 x.1) (at_set views port j w u e)

-- a job can be lent where none is
lent_none : (has : Option Message) (items : List Message) (j : Job) → AtRest None has items → (items ≡ []) × AtRest (Some j.served) has (items ++ Lone j ∷ [])
lent_none None [] j at = (refl, refl)
lent_none None (m ∷ items) j at = absurd at
lent_none (Some m) items j at = absurd at

-- where something is in the queue, it stands for what is lent
in_queue : (lent : Option Served) (has : Option Message) (x : Message) (items : List Message) → AtRest lent has (x ∷ items) → StandsFor lent x × AtRest None has items × AtRest lent (Some x) items
in_queue None None x items at = absurd at
in_queue None (Some m) x items at = absurd at
in_queue (Some j) None x [] at = (at, tt, at)
in_queue (Some j) None x (y ∷ items) at = absurd at
in_queue (Some j) (Some m) x items at = absurd at

-- what was taken can be given back, as it was or served
given : (lent : Option Served) (m : Message) (items : List Message) (x : Message) → ((j : Served) → Stands j m → Stands j x) → AtRest lent (Some m) items → (items ≡ []) × AtRest lent None (items ++ x ∷ [])
given None m items x step at = absurd at
given (Some j) m [] x step at = (refl, step j at)
given (Some j) m (y ∷ items) x step at = absurd at

pub begins : Lent [] (hold true true None None ∷ [])
begins = (0, 0, None, None, tt, all_set (Fits 0 0 None None) (hold true true None None ∷ []) 0 (hold true true None None) ((λ _. (refl, refl)), λ _. (refl, refl)) (λ j u other e. absurd (other (at_end [] _ u j (λ x. some-ne-none u (sym x)) e))))

-- the driver's view changed to one with this job lent
module _ (h_driver h_worker : ℕ) (lent : Option Served) (has : Option Message) (views : List Hold) (fits : (port : ℕ) (v : Hold) → get_elem? views port ≡ some v → Fits h_driver h_worker lent has port v) (port : ℕ) (v : Hold) (at : get_elem? views port ≡ some v) where
  drives_set : v.drives ≡ true → (now : Option Served) → All (Fits h_driver h_worker now has) (set views port (hold v.drives v.works now v.has))
  drives_set may now =
      let mine = fits port v at in
      all_set (Fits h_driver h_worker now has) views port (hold v.drives v.works now v.has) ((λ _. ((mine.0 may).0, refl)), mine.1)
      (λ j u other e. ((λ p. absurd (other (((fits j u e).0 p).0 ∙ sym (mine.0 may).0))), (fits j u e).1))

  works_set : v.works ≡ true → (now : Option Message) → All (Fits h_driver h_worker lent now) (set views port (hold v.drives v.works v.lent now))
  works_set may now =
      let mine = fits port v at in
      all_set (Fits h_driver h_worker lent now) views port (hold v.drives v.works v.lent now) (mine.0, λ _. ((mine.1 may).0, refl))
      (λ j u other e. ((fits j u e).0, λ p. absurd (other (((fits j u e).1 p).0 ∙ sym (mine.1 may).0))))

pub lends : (n port : ℕ) (v : Hold) (j : Job) → v.drives ≡ true → v.lent ≡ None → Pushes Lent n port v (Lone j) (λ w. w ≡ hold v.drives v.works (job_of (Lone j)) v.has)
lends n port v j may free items views room h at =
    let none : h.2 ≡ None = sym ((h.5 port v at).0 may).1 ∙ free in
    let rest = lent_none h.3 items j (subst (λ (l : Option Served). AtRest l h.3 items) none h.4) in
    (hold v.drives v.works (Some j.served) v.has, (h.0, h.1, Some j.served, h.3, rest.1, drives_set h.0 h.1 h.2 h.3 views h.5 port v at may (Some j.served)), refl)

pub lends_into : (port : ℕ) (v : Hold) (j : Job) → v.drives ≡ true → v.lent ≡ None → Learns Lent port v (λ items. items ≡ [])
lends_into port v j may free items views h at =
    let none : h.2 ≡ None = sym ((h.5 port v at).0 may).1 ∙ free in
    (lent_none h.3 items j (subst (λ (l : Option Served). AtRest l h.3 items) none h.4)).0

pub takes_back : (port : ℕ) (v : Hold) → v.drives ≡ true → Pops Lent port v (λ x w. StandsFor v.lent x × (w ≡ hold v.drives v.works None v.has))
takes_back port v may x items views h at =
    let rest = in_queue h.2 h.3 x items h.4 in (
      hold v.drives v.works None v.has,
      (h.0, h.1, None, h.3, rest.1, drives_set h.0 h.1 h.2 h.3 views h.5 port v at may None),
      (subst (λ (l : Option Served). StandsFor l x) (sym ((h.5 port v at).0 may).1) rest.0, refl),
    )

pub takes : (port : ℕ) (v : Hold) → v.works ≡ true → Pops Lent port v (λ x w. w ≡ hold v.drives v.works v.lent (Some x))
takes port v may x items views h at =
    (hold v.drives v.works v.lent (Some x), (h.0, h.1, h.2, Some x, (in_queue h.2 h.3 x items h.4).2, works_set h.0 h.1 h.2 h.3 views h.5 port v at may (Some x)), refl)

pub gives : (n port : ℕ) (v : Hold) (m x : Message) → v.works ≡ true → v.has ≡ Some m → ((j : Served) → Stands j m → Stands j x) → Pushes Lent n port v x (λ w. w ≡ hold v.drives v.works v.lent None)
gives n port v m x may has step items views room h at =
    let is : h.3 ≡ Some m = sym ((h.5 port v at).1 may).1 ∙ has in
    let rest = given h.2 m items x step (subst (λ (o : Option Message). AtRest h.2 o items) is h.4) in
    (hold v.drives v.works v.lent None, (h.0, h.1, h.2, None, rest.1, works_set h.0 h.1 h.2 h.3 views h.5 port v at may None), refl)

pub gives_into : (port : ℕ) (v : Hold) (m x : Message) → v.works ≡ true → v.has ≡ Some m → ((j : Served) → Stands j m → Stands j x) → Learns Lent port v (λ items. items ≡ [])
gives_into port v m x may has step items views h at =
    let is : h.3 ≡ Some m = sym ((h.5 port v at).1 may).1 ∙ has in
    (given h.2 m items x step (subst (λ (o : Option Message). AtRest h.2 o items) is h.4)).0

pub forks : (port : ℕ) (v : Hold) → v.drives ≡ true → v.works ≡ true → Forks Lent port v (hold true false v.lent None) (hold false true None v.has)
forks port v a b items views h at = let l : Hold = hold true false v.lent None in let r : Hold = hold false true None v.has in let mine = h.5 port v at in let vs : List Hold = set views port l in
    let Old : ℕ → Hold → Type 0 = λ j u. (u.drives ≡ true → (j ≡ h.0) × (u.lent ≡ h.2)) × (u.works ≢ true) in
    let old : All Old vs = all_set Old views port l ((λ _. mine.0 a), λ p. true≢false (sym p)) (λ j u other e. ((h.5 j u e).0, λ p. other (((h.5 j u e).1 p).0 ∙ sym (mine.1 b).0))) in (
      h.0,
      length vs,
      h.2,
      h.3,
      h.4,
      λ j u e. ⊎_elim (λ x. ((old j u x).0, λ p. absurd ((old j u x).1 p)))
          (λ (is : r ≡ u). ((λ p. absurd (true≢false (sym (ap (λ (y : Hold). y.drives) is ∙ p)))), λ p. (at_end vs r u j (λ x. (old j u x).1 p) e, ap (λ (y : Hold). y.has) (sym is) ∙ (mine.1 b).1))) (at_snoc vs r u j e),
    )
