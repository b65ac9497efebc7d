-- Who sent an output is named by its term's event in the printed log.
use Rattle.std.proofs.Common.{◌≡◌, ◌≢◌, ◌⊎◌, inl, inr, ℕ, suc, List, [], ◌∷◌, ◌++◌, take, refl, sym, ap, ◌∙◌, subst, arith, ℤ, negsuc, ◌<ℤ◌, Some}
use Rattle.std.specs.Prelude.{Contains, slice_get}
use Rattle.std.proofs.lemmas.Int.{ints}
use Rattle.cl_base.specs.declared.entry.Entry.{Entry}
use Rattle.entry_log.specs.Log.{Log, last, place, IsPrefixOf, Rises}
use Rattle.log_replication.specs.Replication.{IsAnchored}
use Rattle.log_replication.specs.Prefixes.{Leads, leads, is_prefix, Leads-self, Leads-either, Rises-front, last-up}
use Rattle.service_api.specs.declared.shipped.Kind.{Kind}
use Rattle.world.specs.World.{World, Reign}
use Rattle.world.specs.World.{term_entry}
use Rattle.agreement.specs.View.{IsSettled, view_of}
use Rattle.agreement.proofs.Commits.{take-leads}
use Rattle.agreement.proofs.Second.{reign_of, Fits}
use Rattle.agreement.proofs.Runs2.{committed-reign, nothing-anchored}
use Rattle.service_runs.specs.Hosts.{Rules}
use Rattle.service_runs.proofs.Lists.{take-snoc, last-of_snoc}
use Rattle.one_log.specs.Led.{Led}
use Rattle.one_log.specs.Formed.{LeadersNamed}
use Rattle.one_log.proofs.Opened.{Opened, opens-terms, anchored-front, snoc-leads}
use Rattle.one_log.proofs.Turns.{Stays}

-- what is settled goes back to the reigns
settled-anchored : (n : ℕ) (w : World) (c : ℤ) (xs : Log) → Fits n w → IsSettled (view_of w) c xs → IsAnchored (reign_of w) xs
settled-anchored n w c xs f (inl e) = nothing-anchored (reign_of w) xs e
settled-anchored n w c xs f (inr s) = anchored-front (reign_of w) xs s.1 s.4 (anchored-front (reign_of w) s.1 (reign_of w s.0) (committed-reign n w s.0 s.1 f s.3) (f.grounded.reign_anchored s.0))

some-same : (a b : Entry) → Some a ≡ Some b → a ≡ b
some-same a b e = cc

snoc-some : (xs : Log) (x : Entry) → xs ++ x ∷ [] ≢ []
snoc-some [] x z = cc
snoc-some (y ∷ ys) x z = cc

-- of a log that goes back to the reigns: up to an entry, the term event of that entry's reign stands
stands-there : (n : ℕ) (w : World) (log : Log) (i : ℕ) (x : Entry) (r : Reign) → Fits n w → Opened w → IsAnchored (reign_of w) log → slice_get log i ≡ Some x → Contains w.reigns r → r.term ≡ x.term
    → (now : ℕ) × IsPrefixOf (r.first ++ term_entry r.term (place r.first) now r.member ∷ []) (take (suc i) log)
stands-there n w log i x r f o a at has t =
    let g = f.grounded in
    let xs : Log = take i log in
    let ys : Log = xs ++ x ∷ [] in
    let e : take (suc i) log ≡ ys = take-snoc i x log at in
    let pre : IsPrefixOf ys log = is_prefix ys log (subst (λ (u : Log). Leads u log) e (take-leads (suc i) log)) in
    let lx : last ys ≡ x.term = last-of_snoc (negsuc 0) xs x in
    let in_reign : Leads ys (reign_of w r.term) = subst (λ (u : ℤ). Leads ys (reign_of w u)) (lx ∙ sym t) (leads ys (reign_of w (last ys)) (a ys pre (snoc-some xs x))) in
    let before = g.before r has in
    let rises : Rises (reign_of w r.term) = g.rises r.term in
    elim (o.reigns r has) [
      | inl same ↦ absurd (let u = last-up (negsuc 0) ys r.first (subst Rises same rises) (subst (Leads ys) same in_reign) in omega (arith, ints, u, lx, t, before))
      | inr b ↦ (
        b.0,
        subst (IsPrefixOf (r.first ++ term_entry r.term (place r.first) b.0 r.member ∷ [])) (sym e) (is_prefix (r.first ++ term_entry r.term (place r.first) b.0 r.member ∷ []) ys (by (r.first ++ term_entry r.term (place r.first) b.0 r.member ∷ []) lx before rises (snoc-leads xs x r.first (term_entry r.term (place r.first) b.0 r.member))
            (Leads-either (r.first ++ term_entry r.term (place r.first) b.0 r.member ∷ []) ys (reign_of w r.term) b.1 in_reign) (g.first r has) refl)),
      )
    ]
  where
    same-leads : (xs ys zs : Log) (x y : Entry) → (xs ≡ ys) × (x ≡ y) → zs ≡ ys ++ y ∷ [] → Leads zs (xs ++ x ∷ [])
    same-leads xs ys zs x y p q = subst (Leads zs) (q ∙ ap (λ (u : Log). u ++ y ∷ []) (sym p.0) ∙ ap (λ (u : Entry). xs ++ u ∷ []) (sym p.1)) (Leads-self zs)

    by : (zs : Log) → last (take i log ++ x ∷ []) ≡ x.term → last r.first <ℤ r.term → Rises (reign_of w r.term) → {y : Entry} → (Leads (take i log ++ x ∷ []) (r.first ++ y ∷ []) → ((take i log ≡ r.first) × (x ≡ y)) ⊎ Leads (take i log ++ x ∷ []) r.first)
        → Leads zs (take i log ++ x ∷ []) ⊎ Leads (take i log ++ x ∷ []) zs → IsPrefixOf r.first (reign_of w r.term) → zs ≡ r.first ++ y ∷ [] → Leads zs (take i log ++ x ∷ [])
    by zs lx before rises {y} split (inl p) first is = p
    by zs lx before rises {y} split (inr p) first is = elim (split (subst (Leads (take i log ++ x ∷ [])) is p)) [
      | inl same ↦ same-leads (take i log) r.first zs x y same is
      | inr b ↦ absurd (let u = last-up (negsuc 0) (take i log ++ x ∷ []) r.first (Rises-front (negsuc 0) r.first (reign_of w r.term) (leads r.first (reign_of w r.term) first) rises) b in omega (arith, ints, u, lx, t, before))
    ]

pub leaders-named : (n : ℕ) (kinds : List Kind) (r : Rules) (w : Led) → Stays n kinds r w → LeadersNamed w
leaders-named n kinds r w s =
    let v = w.hosted.world in
    let f = s.held.fits in
    let a : IsAnchored (reign_of v) w.hosted.printed = settled-anchored n v s.held.printed.0 w.hosted.printed f s.held.printed.1 in
    record {
      printed = opens-terms n v w.hosted.printed f s.opened a;
      named = λ o has.
          let owed = s.held.owed o has in
          let x : Entry = owed.entry in
          let g : Reign = record { term = x.term; member = o.member; first = owed.first } in
          let z = stands-there n v w.hosted.printed o.entry x g f s.opened a owed.at owed.reigned refl in
          record { entry = x; at = owed.at; before = owed.first; moment = z.0; first = f.grounded.before g owed.reigned; stands = z.1 };
    }
