-- Every step keeps that the new term event stands behind each reign's first log.
use Rattle.std.proofs.Common.{◌≡◌, ◌≢◌, ◌⊎◌, inl, inr, ℕ, ◌<◌, ◌^◌, Bool, true, false, List, [], ◌∷◌, ◌++◌, length, refl, sym, ap, ◌∙◌, subst, arith, ℤ, pos, negsuc, ◌≤ℤ◌, ◌<ℤ◌, if◌then◌else◌}
use Rattle.std.specs.Prelude.{Contains, nat_lt}
use Rattle.std.proofs.lemmas.Int.{ints}
use Rattle.std.proofs.lemmas.Bool.{cases_eq}
use Rattle.std.proofs.lemmas.List.Elements.{Contains-append_left, Contains-append_right, Contains-append_cases}
use Rattle.cl_base.specs.declared.entry.Entry.{Entry}
use Rattle.entry_log.specs.Log.{Log, last, place, IsPrefixOf, Rises}
use Rattle.election.specs.declared.member.State.TheVariants.{LeaderInit, LeaderReady}
use Rattle.log_replication.specs.Replication.{IsAnchored}
use Rattle.log_replication.specs.Prefixes.{Leads, leads, is_prefix, Leads-self, Leads-trans, Leads-append, Leads-either, Rises-front, last-up}
use Rattle.world.specs.World.{World, Raise, Reign, Written, member, put, reign_in, reigns_at, written_by, first_logs, step, Step, run, formatted}
use Rattle.consensus_core.specs.Member.{Member, Sent}
use Rattle.world.specs.World.{term_entry}
use Rattle.world.proofs.Kept.{Inv, member-put_same, member-put_other}
use Rattle.world.proofs.Effects.{none_in, only_in}
use Rattle.world.proofs.Runs.{step-keeps, formatted-inv}
use Rattle.agreement.proofs.Opens.{not-none, prefix-trans}
use Rattle.agreement.proofs.Second.{reign_of, Fits}
use Rattle.agreement.proofs.Writes.{newest, newest-same}
use Rattle.agreement.proofs.Runs2.{step-fits, formatted-fits}
use Rattle.service_runs.proofs.Lists.{last-of_snoc}
use Rattle.one_log.specs.Opened.{OpensTerms, TermsOpen}
use Rattle.one_log.proofs.Reigning.{LogsOn, opening}
use Rattle.one_log.proofs.Steps.{Leaves, step-cases}

-- the same, by recursion
abbrev pub OpensIn : Reign → Log → Type 0
OpensIn r log = (now : ℕ) × Leads (r.first ++ term_entry r.term (place r.first) now r.member ∷ []) log

pub record Opened (w : World) : Type 0 where
  pub low : (r : Raise) → Contains w.raises r → r.term ≤ℤ pos (2 ^ 62)
  pub init : (m : ℕ) → (member w m).values.election.state ≡ LeaderInit → (r : Reign) → Contains w.reigns r → r.term ≡ (member w m).values.election.term → r.first ≡ (member w m).durable.log
  pub ready : (m : ℕ) → (member w m).values.election.state ≡ LeaderReady → (r : Reign) → Contains w.reigns r → r.term ≡ (member w m).values.election.term → OpensIn r (member w m).durable.log
  pub reigns : (r : Reign) → Contains w.reigns r → (reign_of w r.term ≡ r.first) ⊎ OpensIn r (reign_of w r.term)

abbrev pub fresh_reign : World → ℕ → Member → Reign
fresh_reign w m y = record { term = y.values.election.term; member = m; first = (member w m).durable.log }

abbrev logs_after : World → ℕ → Member → ℤ → List Reign → Log
logs_after w m y t hs = reign_in (first_logs hs ++ (written_by (member w m) y.durable.log ++ w.written)) t

-- a reign's log after a put
pub reign-cases : (w : World) (m : ℕ) (own : Log) (y : Member) (rs : List Raise) (ps : List Sent) (gs : List Reign) → Leaves w m own y rs gs → (t : ℤ)
    → (reign_of (put w m y rs ps gs) t ≡ reign_of w t)
    ⊎ (((reigns_at (member w m).values.election.state ≡ true) × (t ≡ (member w m).values.election.term) × (reign_of (put w m y rs ps gs) t ≡ y.durable.log))
    ⊎ ((gs ≡ fresh_reign w m y ∷ []) × (t ≡ y.values.election.term) × (reign_of (put w m y rs ps gs) t ≡ (member w m).durable.log)))
reign-cases w m own y rs ps gs z t = by z.new
  where
    at : (b : Bool) → reigns_at (member w m).values.election.state ≡ b → (logs_after w m y t [] ≡ reign_of w t) ⊎ ((reigns_at (member w m).values.election.state ≡ true) × (t ≡ (member w m).values.election.term) × (logs_after w m y t [] ≡ y.durable.log))
    at true h =
        let e : written_by (member w m) y.durable.log ≡ record { term = (member w m).values.election.term; log = y.durable.log } ∷ [] = rw h refl in
        let f : logs_after w m y t [] ≡ reign_in (record { term = (member w m).values.election.term; log = y.durable.log } ∷ w.written) t = ap (λ (l : List Written). reign_in (l ++ w.written) t) e in
        elim (newest w.written (member w m).values.election.term t y.durable.log) [ inl a ↦ inr (h, a.0, f ∙ a.1) | inr b ↦ inl (f ∙ b) ]
    at false h =
        let e : written_by (member w m) y.durable.log ≡ [] = rw h refl in
        inl (ap (λ (l : List Written). reign_in (l ++ w.written) t) e)

    by : (gs ≡ []) ⊎ ((gs ≡ fresh_reign w m y ∷ []) × (y.values.election.state ≡ LeaderInit) × (reigns_at (member w m).values.election.state ≡ false))
        → (logs_after w m y t gs ≡ reign_of w t)
        ⊎ (((reigns_at (member w m).values.election.state ≡ true) × (t ≡ (member w m).values.election.term) × (logs_after w m y t gs ≡ y.durable.log)) ⊎ ((gs ≡ fresh_reign w m y ∷ []) × (t ≡ y.values.election.term) × (logs_after w m y t gs ≡ (member w m).durable.log)))
    by (inl e) = elim (at (reigns_at (member w m).values.election.state) refl) [ inl a ↦ inl (ap (logs_after w m y t) e ∙ a) | inr b ↦ inr (inl (b.0, b.1, ap (logs_after w m y t) e ∙ b.2)) ]
    by (inr c) =
        let e : written_by (member w m) y.durable.log ≡ [] = rw c.2 refl in
        let f : logs_after w m y t gs ≡ reign_in (record { term = y.values.election.term; log = (member w m).durable.log } ∷ w.written) t =
        ap (logs_after w m y t) c.0 ∙ ap (λ (l : List Written). reign_in (record { term = y.values.election.term; log = (member w m).durable.log } ∷ (l ++ w.written)) t) e in
        elim (newest w.written y.values.election.term t (member w m).durable.log) [ inl a ↦ inr (inr (c.0, a.0, f ∙ a.1)) | inr b ↦ inl (f ∙ b) ]

module _ (n : ℕ) (w : World) (m : ℕ) (own : Log) (y : Member) (rs : List Raise) (ps : List Sent) (gs : List Reign) (l : m < length w.members) (i : Inv n w) (f : Fits n w) (i' : Inv n (put w m y rs ps gs)) (o : Opened w) (z : Leaves w m own y rs gs) where
  abbrev x : Member
  x = member w m

  abbrev v : World
  v = put w m y rs ps gs

  -- a reign of the term in which a member reigned before is not new, and is that member's
  old : (j : ℕ) (r : Reign) → reigns_at (member w j).values.election.state ≡ true → Contains v.reigns r → r.term ≡ (member w j).values.election.term → Contains w.reigns r × (r.member ≡ j)
  old j r h has t =
      let q = (f.members j).reigns h in
      let mine : Reign = record { term = (member w j).values.election.term; member = j; first = q.1 } in
      let e : r ≡ mine = i'.one_reign r mine has (Contains-append_left w.reigns gs mine q.2) t in
      (subst (Contains w.reigns) (sym e) q.2, ap (λ (g : Reign). g.member) e)

  -- the entry that P10 appends is this reign's
  opened : (r : Reign) (log : Log) → x.values.election.state ≡ LeaderInit → Contains v.reigns r → r.term ≡ x.values.election.term → log ≡ x.durable.log ++ opening x w.now ∷ [] → (log ≡ x.durable.log) ⊎ (x.values.election.id ≡ m) → OpensIn r log ⊎ (log ≡ x.durable.log)
  opened r log at has t e (inl same) = inr same
  opened r log at has t e (inr id) =
      let q = old m r (ap reigns_at at) has t in
      let first : r.first ≡ x.durable.log = o.init m at r q.0 t in
      let entry : term_entry r.term (place r.first) w.now r.member ≡ opening x w.now =
      ap (λ (u : ℤ). term_entry u (place r.first) w.now r.member) t ∙ ap (λ (u : Log). term_entry x.values.election.term (place u) w.now r.member) first ∙ ap (λ (u : ℕ). term_entry x.values.election.term (place x.durable.log) w.now u) (q.1 ∙ sym id) in
      let whole : r.first ++ term_entry r.term (place r.first) w.now r.member ∷ [] ≡ log = ap (λ (u : Log). u ++ term_entry r.term (place r.first) w.now r.member ∷ []) first ∙ ap (λ (u : Entry). x.durable.log ++ u ∷ []) entry ∙ sym e in
      inl (w.now, subst (Leads (r.first ++ term_entry r.term (place r.first) w.now r.member ∷ [])) whole (Leads-self (r.first ++ term_entry r.term (place r.first) w.now r.member ∷ [])))

  other : (j : ℕ) → j ≢ m → member v j ≡ member w j
  other j ne = member-put_other w m j y rs ps gs ne

  here : member v m ≡ y
  here = member-put_same w m y rs ps gs l

  -- a list isn't itself with one more
  no-snoc : (xs : Log) (e : Entry) → xs ≡ xs ++ e ∷ [] → ⊥
  no-snoc [] e h = cc
  no-snoc (a ∷ as') e h = no-snoc as' e (cc)

  init-m : y.values.election.state ≡ LeaderInit → (r : Reign) → Contains v.reigns r → r.term ≡ y.values.election.term → r.first ≡ y.durable.log
  init-m at r has t = by (z.reigning.init at)
    where
      by : (y.durable.log ≡ x.durable.log) × (((x.values.election.state ≡ LeaderInit) × (y.values.election.term ≡ x.values.election.term)) ⊎ (reigns_at x.values.election.state ≡ false)) → r.first ≡ y.durable.log
      by (same, inl c) = o.init m c.0 r (old m r (ap reigns_at c.0) has (t ∙ c.1)).0 (t ∙ c.1) ∙ sym same
      by (same, inr was) =
          let g = z.begun at was in
          let mine = fresh_reign w m y in
          let e : r ≡ mine = i'.one_reign r mine has (Contains-append_right w.reigns gs mine (subst (λ hs. Contains hs mine) (sym g) (0, omega arith, refl))) t in
          ap (λ (u : Reign). u.first) e ∙ sym same

  ready-m : y.values.election.state ≡ LeaderReady → (r : Reign) → Contains v.reigns r → r.term ≡ y.values.election.term → OpensIn r y.durable.log
  ready-m at r has t = by (z.reigning.ready at)
    where
      by : (y.values.election.term ≡ x.values.election.term) × (((x.values.election.state ≡ LeaderReady) × Leads x.durable.log y.durable.log) ⊎ ((x.values.election.state ≡ LeaderInit) × (y.durable.log ≡ x.durable.log ++ opening x w.now ∷ []))) → OpensIn r y.durable.log
      by (same, inl c) =
          let q = o.ready m c.0 r (old m r (ap reigns_at c.0) has (t ∙ same)).0 (t ∙ same) in
          (q.0, Leads-trans _ x.durable.log y.durable.log q.1 c.1)
      by (same, inr c) = elim (opened r y.durable.log c.0 has (t ∙ same) c.1 (z.id (ap reigns_at c.0))) [ inl a ↦ a | inr e ↦ absurd (no-snoc x.durable.log (opening x w.now) (sym e ∙ c.1)) ]

  reigns-m : (r : Reign) → Contains v.reigns r → (reign_of v r.term ≡ r.first) ⊎ OpensIn r (reign_of v r.term)
  reigns-m r has = by (reign-cases w m own y rs ps gs z r.term)
    where
      -- what was so of a reign's log is so of the same log
      still : Contains w.reigns r → (log : Log) → log ≡ reign_of w r.term → (log ≡ r.first) ⊎ OpensIn r log
      still was log e = elim (o.reigns r was) [ inl a ↦ inl (e ∙ a) | inr b ↦ inr (b.0, subst (Leads (r.first ++ term_entry r.term (place r.first) b.0 r.member ∷ [])) (sym e) b.1) ]

      on : (log : Log) → reigns_at x.values.election.state ≡ true → r.term ≡ x.values.election.term → log ≡ y.durable.log → LogsOn x w.now own y.durable.log → (log ≡ r.first) ⊎ OpensIn r log
      on log h t e (inl same) = still (old m r h has t).0 log (e ∙ same ∙ sym ((f.members m).reigns h).0 ∙ ap (reign_of w) (sym t))
      on log h t e (inr (inl c)) = elim (opened r log c.0 has t (e ∙ c.2) (elim (z.id h) [ inl a ↦ inl (e ∙ a) | inr b ↦ inr b ])) [ inl a ↦ inr a | inr b ↦ absurd (no-snoc x.durable.log (opening x w.now) (sym b ∙ e ∙ c.2)) ]
      on log h t e (inr (inr c)) =
          let q = o.ready m c.0 r (old m r h has t).0 t in
          inr (q.0, subst (Leads (r.first ++ term_entry r.term (place r.first) q.0 r.member ∷ [])) (sym (e ∙ c.1)) (Leads-trans _ x.durable.log (x.durable.log ++ own) q.1 (Leads-append x.durable.log own)))

      -- a reign that begins has its first log
      begins : gs ≡ fresh_reign w m y ∷ [] → (r.term ≡ y.values.election.term) → reign_of v r.term ≡ x.durable.log → reign_of v r.term ≡ r.first
      begins g t e =
          let mine = fresh_reign w m y in
          let same : r ≡ mine = i'.one_reign r mine has (Contains-append_right w.reigns gs mine (subst (λ hs. Contains hs mine) (sym g) (0, omega arith, refl))) t in
          e ∙ sym (ap (λ (u : Reign). u.first) same)

      by : (reign_of v r.term ≡ reign_of w r.term) ⊎ (((reigns_at x.values.election.state ≡ true) × (r.term ≡ x.values.election.term) × (reign_of v r.term ≡ y.durable.log)) ⊎ ((gs ≡ fresh_reign w m y ∷ []) × (r.term ≡ y.values.election.term) × (reign_of v r.term ≡ x.durable.log)))
          → (reign_of v r.term ≡ r.first) ⊎ OpensIn r (reign_of v r.term)
      by (inr (inl c)) = on (reign_of v r.term) c.0 c.1 c.2 (z.reigning.on c.0)
      by (inr (inr c)) = inl (begins c.0 c.1 c.2)
      by (inl e) = elim (Contains-append_cases w.reigns gs r has) [
        | inl was ↦ still was (reign_of v r.term) e
        | inr new ↦ elim z.new [
          | inl none ↦ absurd (none_in r (subst (λ hs. Contains hs r) none new))
          | inr g ↦
              let is : fresh_reign w m y ≡ r = only_in (fresh_reign w m y) r (subst (λ hs. Contains hs r) g.0 new) in
              let log : reign_of v y.values.election.term ≡ x.durable.log = ap (λ hs. reign_in (first_logs hs ++ (written_by x y.durable.log ++ w.written)) y.values.election.term) g.0 ∙ newest-same (written_by x y.durable.log ++ w.written) y.values.election.term x.durable.log in
              inl (subst (λ (u : Reign). reign_of v u.term ≡ u.first) is log)
        ]
      ]

  low-m : (r : Raise) → Contains v.raises r → r.term ≤ℤ pos (2 ^ 62)
  low-m r has = elim (Contains-append_cases w.raises rs r has) [
    | inl was ↦ o.low r was
    | inr new ↦ elim (z.low r new) [ inl a ↦ a | inr b ↦ subst (λ u. u ≤ℤ pos (2 ^ 62)) b.2 (o.low b.0 b.1) ]
  ]

  pub put-opened : Opened v
  put-opened = record {
    low = low-m;
    init = λ j. elim (cases_eq j m) [
      | inl e ↦ subst (λ (u : ℕ). (member v u).values.election.state ≡ LeaderInit → (r : Reign) → Contains v.reigns r → r.term ≡ (member v u).values.election.term → r.first ≡ (member v u).durable.log) (sym e)
          (subst (λ (u : Member). u.values.election.state ≡ LeaderInit → (r : Reign) → Contains v.reigns r → r.term ≡ u.values.election.term → r.first ≡ u.durable.log) (sym here) init-m)
      | inr ne ↦ subst (λ (u : Member). u.values.election.state ≡ LeaderInit → (r : Reign) → Contains v.reigns r → r.term ≡ u.values.election.term → r.first ≡ u.durable.log) (sym (other j ne))
          (λ at r has t. o.init j at r (old j r (ap reigns_at at) has t).0 t)
    ];
    ready = λ j. elim (cases_eq j m) [
      | inl e ↦ subst (λ (u : ℕ). (member v u).values.election.state ≡ LeaderReady → (r : Reign) → Contains v.reigns r → r.term ≡ (member v u).values.election.term → OpensIn r (member v u).durable.log) (sym e)
          (subst (λ (u : Member). u.values.election.state ≡ LeaderReady → (r : Reign) → Contains v.reigns r → r.term ≡ u.values.election.term → OpensIn r u.durable.log) (sym here) ready-m)
      | inr ne ↦ subst (λ (u : Member). u.values.election.state ≡ LeaderReady → (r : Reign) → Contains v.reigns r → r.term ≡ u.values.election.term → OpensIn r u.durable.log) (sym (other j ne))
          (λ at r has t. o.ready j at r (old j r (ap reigns_at at) has t).0 t)
    ];
    reigns = reigns-m;
  }

-- worlds in which the first two invariants hold, and this one
pub record Stands (n : ℕ) (w : World) : Type 0 where
  pub inv : Inv n w
  pub fits : Fits n w
  pub opened : Opened w

passes-opened : (w : World) (now : ℕ) → Opened w → Opened (record w { now = now })
passes-opened w now o = record { low = o.low; init = o.init; ready = o.ready; reigns = o.reigns }

pub step-opened : (n : ℕ) (w : World) (s : Step) → Inv n w → Fits n w → Opened w → Opened (step w s)
step-opened n w s i f o =
    step-cases n w s (λ v. Inv n v → Opened v) i (λ k. o) (λ now e k. passes-opened w (if nat_lt w.now now then now else w.now) o)
    (λ m own l b y rs ps gs z k. put-opened n w m own y rs ps gs l i f k o z) (step-keeps n w s i)

pub formatted-opened : (n : ℕ) → Opened (formatted n)
formatted-opened n = record {
  low = λ r has. absurd (none_in r has);
  init = λ m at r has. absurd (none_in r has);
  ready = λ m at r has. absurd (none_in r has);
  reigns = λ r has. absurd (none_in r has);
}

run-opened : (n : ℕ) (w : World) (steps : List Step) → Inv n w → Fits n w → Opened w → Opened (run w steps)
run-opened n w [] i f o = o
run-opened n w (s ∷ ss) i f o = run-opened n (step w s) ss (step-keeps n w s i) (step-fits n w s i f) (step-opened n w s i f o)

pub opened-always : (n : ℕ) (steps : List Step) → Opened (run (formatted n) steps)
opened-always n steps = run-opened n (formatted n) steps (formatted-inv n) (formatted-fits n) (formatted-opened n)

-- ---- what a reign's log begins with

snoc-none : (xs : Log) (x : Entry) → Leads (xs ++ x ∷ []) [] → ⊥
snoc-none [] x p = p
snoc-none (z ∷ zs) x p = p

cons-same : (a b : Entry) (xs ys : Log) → a ≡ b → xs ≡ ys → a ∷ xs ≡ b ∷ ys
cons-same a b xs ys e g = cc

pub snoc-leads : (xs : Log) (x : Entry) (fs : Log) (y : Entry) → Leads (xs ++ x ∷ []) (fs ++ y ∷ []) → ((xs ≡ fs) × (x ≡ y)) ⊎ Leads (xs ++ x ∷ []) fs
snoc-leads [] x [] y p = inl (refl, p.0)
snoc-leads [] x (g ∷ gs) y p = inr (p.0, tt)
snoc-leads (z ∷ zs) x [] y p = absurd (snoc-none zs x p.1)
snoc-leads (z ∷ zs) x (g ∷ gs) y p = elim (snoc-leads zs x gs y p.1) [ inl a ↦ inl (cons-same z g zs gs p.0 a.0, a.1) | inr b ↦ inr (p.0, b) ]

-- of a log whose terms rise: what stands before the first entry of a term
snoc-same : (t : ℤ) (xs : Log) (x : Entry) (fs : Log) (y : Entry) (log : Log) → Rises log → Leads (xs ++ x ∷ []) log → Leads (fs ++ y ∷ []) log → x.term ≡ t → y.term ≡ t → last xs ≢ t → last fs <ℤ t → (xs ≡ fs) × (x ≡ y)
snoc-same t xs x fs y log r p q tx ty ne lt =
    let rx : Rises (xs ++ x ∷ []) = Rises-front (negsuc 0) (xs ++ x ∷ []) log p r in
    let rf : Rises (fs ++ y ∷ []) = Rises-front (negsuc 0) (fs ++ y ∷ []) log q r in
    let lx : last (xs ++ x ∷ []) ≡ x.term = last-of_snoc (negsuc 0) xs x in
    let lf : last (fs ++ y ∷ []) ≡ y.term = last-of_snoc (negsuc 0) fs y in
    elim (Leads-either (xs ++ x ∷ []) (fs ++ y ∷ []) log p q) [
      | inl a ↦ elim (snoc-leads xs x fs y a) [
        | inl same ↦ same
        | inr b ↦ absurd (let u = last-up (negsuc 0) (xs ++ x ∷ []) fs (Rises-front (negsuc 0) fs (fs ++ y ∷ []) (Leads-append fs (y ∷ [])) rf) b in omega (arith, ints, u, lx, tx, lt))
      ]
      | inr a ↦ elim (snoc-leads fs y xs x a) [
        | inl same ↦ (sym same.0, sym same.1)
        | inr b ↦
            let u = last-up (negsuc 0) (fs ++ y ∷ []) xs (Rises-front (negsuc 0) xs (xs ++ x ∷ []) (Leads-append xs (x ∷ [])) rx) b in
            let d = last-up (negsuc 0) xs (xs ++ x ∷ []) rx (Leads-append xs (x ∷ [])) in
            absurd (ne (between (last xs) t (let k = u in omega (arith, ints, u, lf, ty)) (omega (arith, ints, d, lx, tx))))
      ]
    ]
  where
    between : (a b : ℤ) → b ≤ℤ a → a ≤ℤ b → a ≡ b
    between a b p q = grind (arith, ints)

pub opens-terms : (n : ℕ) (w : World) (log : Log) → Fits n w → Opened w → IsAnchored (reign_of w) log → OpensTerms w log
opens-terms n w log f o a xs x p ne =
    let g = f.grounded in
    let ys : Log = xs ++ x ∷ [] in
    let lx : last ys ≡ x.term = last-of_snoc (negsuc 0) xs x in
    let some : ys ≢ [] = snoc-some xs x in
    let pre : IsPrefixOf ys (reign_of w x.term) = subst (λ u. IsPrefixOf ys (reign_of w u)) lx (a ys p some) in
    let r = g.reigned x.term (not-none ys (reign_of w x.term) some pre) in
    let at : Leads ys (reign_of w (r.0).term) = subst (λ u. Leads ys (reign_of w u)) (sym r.2) (leads ys (reign_of w x.term) pre) in
    let rises : Rises (reign_of w (r.0).term) = g.rises (r.0).term in
    let before : last (r.0).first <ℤ (r.0).term = g.before r.0 r.1 in
    elim (o.reigns r.0 r.1) [
      | inl e ↦ absurd (
          let b : Leads ys (r.0).first = subst (Leads ys) e at in
          let u = last-up (negsuc 0) ys (r.0).first (subst Rises e rises) b in
          let t = r.2 in omega (arith, ints, u, lx, before, t))
      | inr b ↦
          let s = snoc-same (r.0).term xs x (r.0).first (term_entry (r.0).term (place (r.0).first) b.0 (r.0).member) (reign_of w (r.0).term) rises at b.1 (sym r.2) refl (λ e. ne (e ∙ r.2)) before in
          (r.0, b.0, r.1, r.2, sym s.0, s.1 ∙ ap (λ u. term_entry u (place (r.0).first) b.0 (r.0).member) r.2 ∙ ap (λ (u : Log). term_entry x.term (place u) b.0 (r.0).member) (sym s.0))
    ]
  where
    snoc-some : (xs : Log) (x : Entry) → xs ++ x ∷ [] ≢ []
    snoc-some [] x z = cc
    snoc-some (y ∷ ys) x z = cc

-- a front of what is anchored is anchored
pub anchored-front : (reign : ℤ → Log) (xs ys : Log) → IsPrefixOf xs ys → IsAnchored reign ys → IsAnchored reign xs
anchored-front reign xs ys p a zs q some = a zs (prefix-trans zs xs ys q p) some

pub terms-open : (n : ℕ) (w : World) → Inv n w → Fits n w → Opened w → TermsOpen w
terms-open n w i f o =
    let g = f.grounded in
    record {
      reigns = λ r has. elim (o.reigns r has) [ inl e ↦ inl e | inr b ↦ inr (b.0, is_prefix _ (reign_of w r.term) b.1) ];
      members = λ m. opens-terms n w (member w m).durable.log f o (g.anchored m);
      written = λ t. opens-terms n w (reign_of w t) f o (g.reign_anchored t);
      firsts = λ r has. opens-terms n w r.first f o (g.first_anchored r has);
      raised = λ r has. opens-terms n w r.log f o (g.raise_anchored r has);
      held = λ h has. opens-terms n w h.log f o (anchored-front (reign_of w) h.log (reign_of w h.term) (g.held h has) (g.reign_anchored h.term));
      low = λ r has. o.low _ (i.reigns r has).first;
    }
