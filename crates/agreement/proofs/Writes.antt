-- Rows by which a leader appends, and the beginning of a reign.
use Rattle.std.proofs.Common.{◌≡◌, ◌≢◌, ◌⊎◌, inl, inr, ℕ, ◌<◌, ◌≤◌, Bool, true, false, ◌&&◌, List, [], ◌∷◌, ◌++◌, length, take, refl, sym, ap, ◌∙◌, subst, arith, ℤ, pos, negsuc, ◌≤ℤ◌, ◌<ℤ◌}
use Rattle.std.specs.Prelude.{Contains, if◌then◌else◌, int_le, ⊤, nat_lt}
use Rattle.std.proofs.lemmas.Int.{ints}
use Rattle.std.proofs.lemmas.Bool.Decides.{nat_tests}
use Rattle.std.proofs.lemmas.List.Elements.{Contains-append_left, Contains-append_right, Contains-append_cases}
use Rattle.std.proofs.lemmas.List.{append-nil}
use Rattle.cl_base.specs.declared.entry.Entry.{Entry}
use Rattle.entry_log.specs.Log.{Log, last, last_from, IsPrefixOf}
use Rattle.election.specs.declared.member.Election.{Election}
use Rattle.log_replication.specs.Replication.{IsAnchored}
use Rattle.entry_log.specs.Log.{IsWritten, Rises, RisesFrom}
use Rattle.log_replication.specs.Prefixes.{Leads, leads, is_prefix, Leads-trans, last_from-up, Rises-front, IsWritten-front}
use Rattle.world.specs.World.{World, Reign, Written, member, put, reign_in, reigns_at, holds_at, held_by, is_elected, reigns_of}
use Rattle.consensus_core.specs.Member.{Member, Sent, Cut, Whole, Before, After, stopped}
use Rattle.consensus_core.specs.declared.rest.Rest.{Rest}
use Rattle.consensus_core.specs.Sendable.{sender_of}
use Rattle.world.specs.Said.{says}
use Rattle.world.proofs.LogRows.{Nothing, Append, acts, are_own}
use Rattle.world.proofs.Kept.{Inv}
use Rattle.world.proofs.Rows.{and_true}
use Rattle.world.proofs.Effects.{only_in, none_in, only_one, no_reign}
use Rattle.agreement.specs.View.{IsSettled, view_of}
use Rattle.agreement.proofs.Opens.{prefix-trans}
use Rattle.agreement.proofs.Second.{reign_of, is_leader_ready, Leading, PacketFits, Fits, Widens, OwesFits, fits, Settled-widens, Anchored-widens, SnapsFit-widens, SnapsFit-logs}
use Rattle.agreement.proofs.Stills.{Leading-widens, same-prefix}
use Rattle.agreement.proofs.Calm.{reigns-hold, before-fits}

-- entries of the term t
abbrev pub Own : ℤ → Log → Type 0
Own t [] = ⊤
Own t (x ∷ xs) = (x.term ≡ t) × (0 < length x.bytes) × Own t xs

pub own : (t : ℤ) (xs : Log) → are_own t xs ≡ true → Own t xs
own t [] h = tt
own t (x ∷ xs) h =
    let p = and_true (int_le x.term t && int_le t x.term) (nat_lt 0 (length x.bytes) && are_own t xs) h in
    let a = and_true (int_le x.term t) (int_le t x.term) p.0 in
    let b = and_true (nat_lt 0 (length x.bytes)) (are_own t xs) p.1 in
    (let c = a.0 in let d = a.1 in grind (arith, ints), (let c = b.0 in grind (arith, nat_tests)), own t xs b.1)

Own-last : (t u : ℤ) (y : Entry) (ys es : Log) → Own t es → Leads (y ∷ ys) es → last_from u (y ∷ ys) ≡ t
Own-last t u y ys [] o p = absurd p
Own-last t u y [] (e ∷ es) o p = ap (λ (z : Entry). z.term) p.0 ∙ o.0
Own-last t u y (z ∷ zs) (e ∷ es) o p = Own-last t y.term z zs es o.2 p.1

-- a prefix of a log with entries of t at its end is a prefix of the log, or ends with t
front-cases : (t : ℤ) (ys log es : Log) → Own t es → Leads ys (log ++ es) → Leads ys log ⊎ (((u : ℤ) → last_from u ys ≡ t) × Leads log ys)
front-cases t [] log es o p = inl tt
front-cases t (y ∷ ys) [] es o p = inr ((λ u. Own-last t u y ys es o p), tt)
front-cases t (y ∷ ys) (x ∷ xs) es o p = elim (front-cases t ys xs es o p.1) [ inl a ↦ inl (p.0, a) | inr b ↦ inr ((λ u. b.0 y.term), (sym p.0, b.1)) ]

written-append : (t : ℤ) (log es : Log) → pos 0 ≤ℤ t → IsWritten log → Own t es → IsWritten (log ++ es)
written-append t [] [] h w o = tt
written-append t [] (e ∷ es) h w o = (o.1, (let a = o.0 in omega (arith, ints, a, h)), written-append t [] es h w o.2)
written-append t (x ∷ xs) es h w o = (w.0, w.1, written-append t xs es h w.2 o)

rises-append : (t u : ℤ) (log es : Log) → RisesFrom u log → last_from u log ≤ℤ t → Own t es → RisesFrom u (log ++ es)
rises-append t u [] [] r h o = tt
rises-append t u [] (e ∷ es) r h o = ((let a = o.0 in omega (arith, ints, a, h)), rises-append t e.term [] es tt (let a = o.0 in omega (arith, ints, a)) o.2)
rises-append t u (x ∷ xs) es r h o = (r.0, rises-append t x.term xs es r.1 h o)

-- the reigns' logs after one more was written
pub newest : (ws : List Written) (t u : ℤ) (log : Log) → ((u ≡ t) × (reign_in (record { term = t; log = log } ∷ ws) u ≡ log)) ⊎ (reign_in (record { term = t; log = log } ∷ ws) u ≡ reign_in ws u)
newest ws t u log = at (int_le t u && int_le u t) refl
  where
    at : (b : Bool) → (int_le t u && int_le u t) ≡ b → ((u ≡ t) × ((if b then log else reign_in ws u) ≡ log)) ⊎ ((if b then log else reign_in ws u) ≡ reign_in ws u)
    at true h = inl ((let p = and_true (int_le t u) (int_le u t) h in let a = p.0 in let c = p.1 in grind (arith, ints)), refl)
    at false h = inr refl

pub newest-same : (ws : List Written) (t : ℤ) (log : Log) → reign_in (record { term = t; log = log } ∷ ws) t ≡ log
newest-same ws t log = let e : (int_le t t && int_le t t) ≡ true = grind (arith, ints) in rw e refl

module _ (n : ℕ) (w : World) (m : ℕ) (i : Inv n w) (l : m < length w.members) (up : (member w m).up ≡ true) (f : Fits n w) where
  abbrev x0 : Member
  x0 = member w m

  -- what a step of a leader puts that appends es
  pub record Writing (x : Member) (es : Log) (ps : List Sent) : Type 0 where
    pub log : x.durable.log ≡ x0.durable.log ++ es
    pub candidate : x.durable.candidate ≡ x0.durable.candidate
    pub snapshots : x.durable.snapshots ≡ x0.durable.snapshots
    pub term : holds_at x.values.election.state ≡ true → x.values.election.term ≡ x0.values.election.term
    pub leading : is_leader_ready x.values.election.state ≡ true → Leading w x
    pub commit : (x.values.rest.commit ≤ length x.durable.log) × IsSettled (view_of w) x.durable.candidate (take x.values.rest.commit x.durable.log)
    pub sent : (w' : World) → Widens w w' → reign_of w' x0.values.election.term ≡ x.durable.log → (s : Sent) → Contains ps s → PacketFits w' (sender_of s.packet) (says s.packet)

  pub writes : (x : Member) (es : Log) (ps : List Sent) → reigns_at x0.values.election.state ≡ true → x0.values.election.term ≡ x0.durable.candidate → Own x0.values.election.term es → Writing x es ps → Inv n (put w m x [] ps []) → Fits n (put w m x [] ps [])
  writes x es ps reign is_cand o s i' =
      let w' = put w m x [] ps [] in
      let t = x0.values.election.term in
      let log = x0.durable.log in
      let at = (f.members m).reigns reign in
      let old = f.grounded in
      let r0 : Reign = record { term = t; member = m; first = at.1 } in
      let is_new : w'.written ≡ record { term = t; log = x.durable.log } ∷ w.written = written_now reign in
      let cases : (u : ℤ) → ((u ≡ t) × (reign_of w' u ≡ x.durable.log)) ⊎ (reign_of w' u ≡ reign_of w u) =
      λ u. subst (λ ws. ((u ≡ t) × (reign_in ws u ≡ x.durable.log)) ⊎ (reign_in ws u ≡ reign_of w u)) (sym is_new) (newest w.written t u x.durable.log) in
      let now : reign_of w' t ≡ x.durable.log = ap (λ ws. reign_in ws t) is_new ∙ newest-same w.written t x.durable.log in
      let wl : IsWritten log = subst IsWritten at.0 (old.written t) in
      let rl : Rises log = subst Rises at.0 (old.rises t) in
      let least : pos 0 ≤ℤ t = (let a = old.before r0 at.2 in let b = last_from-up (negsuc 0) at.1 (Rises-front (negsuc 0) at.1 (reign_of w t) (leads at.1 (reign_of w t) (old.first r0 at.2)) (old.rises t)) in omega (arith, ints, a, b)) in
      let low : last log ≤ℤ t = (let a = f.low m in omega (arith, ints, a, is_cand)) in
      let wx : IsWritten x.durable.log = subst IsWritten (sym s.log) (written-append t log es least wl o) in
      let rx : Rises x.durable.log = subst Rises (sym s.log) (rises-append t (negsuc 0) log es rl low o) in
      let longer : IsPrefixOf log x.durable.log = (es, sym s.log) in
      let grows : (u : ℤ) → IsPrefixOf (reign_of w u) (reign_of w' u) = λ u. elim (cases u) [
        | inl c ↦ subst (λ z. IsPrefixOf z (reign_of w' u)) (sym at.0 ∙ ap (reign_of w) (sym c.0)) (subst (IsPrefixOf log) (sym c.1) longer)
        | inr e ↦ same-prefix (reign_of w u) (reign_of w' u) e
      ] in
      let written : (u : ℤ) → IsWritten (reign_of w' u) = λ u. elim (cases u) [ inl c ↦ subst IsWritten (sym c.1) wx | inr e ↦ subst IsWritten (sym e) (old.written u) ] in
      let g : Widens w w' = record {
        reign = grows;
        holding = λ h has. Contains-append_left w.holdings (held_by m x) h has;
        reigns = λ r has. Contains-append_left w.reigns [] r has;
        count = i'.count ∙ sym i.count;
        written = written;
      } in
      let split : (ys : Log) → IsPrefixOf ys x.durable.log → Leads ys log ⊎ (((u : ℤ) → last_from u ys ≡ t) × Leads log ys) = λ ys p. front-cases t ys log es o (subst (Leads ys) s.log (leads ys x.durable.log p)) in
      let anch : IsAnchored (reign_of w') x.durable.log = λ ys p some. elim (split ys p) [
        | inl a ↦ prefix-trans ys (reign_of w (last ys)) (reign_of w' (last ys)) (old.anchored m ys (is_prefix ys log a) some) (grows (last ys))
        | inr b ↦ subst (λ z. IsPrefixOf ys (reign_of w' z)) (sym (b.0 (negsuc 0))) (subst (IsPrefixOf ys) (sym now) p)
      ] in
      let low_x : last x.durable.log ≤ℤ x.durable.candidate = elim (split x.durable.log ([], append-nil x.durable.log)) [
        | inl a ↦ absurd_or_low x es log s.log a (let z = s.candidate in let y = f.low m in (z, y))
        | inr b ↦ (let z = b.0 (negsuc 0) in let y = s.candidate in omega (arith, ints, z, y, is_cand))
      ] in
      fits n w m x [] ps [] l i i' f (record {
        up = (let a = s.candidate in omega (arith, ints, a));
        raises = λ r h. absurd (none_in r h);
        grows = grows;
        own_reign = λ u. elim (cases u) [ inl c ↦ inr (at.1, subst (λ z. Contains w'.reigns (record { term = z; member = m; first = at.1 })) (sym c.0) (g.reigns _ at.2)) | inr e ↦ inl e ];
        written = written;
        rises = λ u. elim (cases u) [ inl c ↦ subst Rises (sym c.1) rx | inr e ↦ subst Rises (sym e) (old.rises u) ];
        top = λ u some. elim (cases u) [
          | inl c ↦ subst (λ z. last z ≤ℤ u) (sym c.1) (let a = s.candidate in let b = low_x in let d = c.0 in omega (arith, ints, a, b, d, is_cand))
          | inr e ↦ subst (λ z. last z ≤ℤ u) (sym e) (old.top u (subst (λ z. z ≢ []) e some))
        ];
        reign_anchored = λ u. elim (cases u) [
          | inl c ↦ subst (IsAnchored (reign_of w')) (sym c.1) anch
          | inr e ↦ subst (IsAnchored (reign_of w')) (sym e) (Anchored-widens w w' (reign_of w u) g (old.reign_anchored u))
        ];
        reigned = λ u some. elim (cases u) [
          | inl c ↦ (r0, g.reigns _ at.2, sym c.0)
          | inr e ↦ (let r = old.reigned u (subst (λ z. z ≢ []) e some) in (r.0, g.reigns _ r.1, r.2))
        ];
        parts = λ r has xs p lt.
            let was : Contains w.reigns r = back r has in
            elim (cases r.term) [
              | inl c ↦ elim (split xs (subst (IsPrefixOf xs) c.1 p)) [
                | inl a ↦ f.parts r was xs (subst (IsPrefixOf xs) (sym at.0 ∙ ap (reign_of w) (sym c.0)) (is_prefix xs log a)) lt
                | inr b ↦ absurd (let z = b.0 (negsuc 0) in let y = c.0 in omega (arith, ints, z, y, lt))
              ]
              | inr e ↦ f.parts r was xs (subst (IsPrefixOf xs) e p) lt
            ];
        firsts = λ r has. absurd (none_in r has);
        few = λ r r' has. absurd (none_in r has);
        anchored = anch;
        low = low_x;
        term = λ h. (let z = s.term h in let y = s.candidate in omega (arith, ints, z, y, is_cand));
        follows = λ h. subst (λ z. IsPrefixOf x.durable.log (reign_of w' z)) (sym (s.term h)) (same-prefix x.durable.log (reign_of w' t) now);
        keeps = λ u xs p h. prefix-trans xs log x.durable.log (f.agreed.logs u xs m p h) longer;
        reigns = λ h. let e = s.term (reigns-hold x.values.election.state h) in (ap (reign_of w') e ∙ now, at.1, subst (λ z. Contains w'.reigns (record { term = z; member = m; first = at.1 })) (sym e) (g.reigns _ at.2));
        leading = λ h. Leading-widens w w' x g (s.leading h);
        commit = (s.commit.0, Settled-widens w w' x.durable.candidate x.durable.candidate _ g (omega (arith, ints)) s.commit.1);
        snaps = SnapsFit-widens w w' x g (SnapsFit-logs w x0 x s.snapshots (let a = s.candidate in omega (arith, ints, a)) (λ xs st p. Leads-trans xs log x.durable.log p (leads log x.durable.log longer)) (f.members m).snaps);
        sent = s.sent w' g now;
      })
    where
      back : (r : Reign) → Contains (w.reigns ++ []) r → Contains w.reigns r
      back r has = elim (Contains-append_cases w.reigns [] r has) [ inl a ↦ a | inr b ↦ absurd (none_in r b) ]

      written_now : reigns_at x0.values.election.state ≡ true → (put w m x [] ps []).written ≡ record { term = x0.values.election.term; log = x.durable.log } ∷ w.written
      written_now e = rw e refl

      shorter : (log es : Log) → Leads (log ++ es) log → log ++ es ≡ log
      shorter [] [] h = refl
      shorter [] (e ∷ es) h = absurd h
      shorter (x ∷ xs) es h = ap (λ z. x ∷ z) (shorter xs es h.1)

      absurd_or_low : (x : Member) (es log : Log) → x.durable.log ≡ log ++ es → Leads x.durable.log log → (x.durable.candidate ≡ x0.durable.candidate) × (last log ≤ℤ x0.durable.candidate) → last x.durable.log ≤ℤ x.durable.candidate
      absurd_or_low x es log e a h =
          let same : x.durable.log ≡ log = e ∙ shorter log es (subst (λ z. Leads z log) e a) in
          subst (λ z. last z ≤ℤ x.durable.candidate) (sym same) (let b = h.0 in let c = h.1 in omega (arith, ints, b, c))

  -- a row by which a leader appends
  pub appends : (e : Election) (r : Rest) (es : Log) (ps : List Sent) → reigns_at x0.values.election.state ≡ true → x0.values.election.term ≡ x0.durable.candidate → Own x0.values.election.term es
      → (is_elected e.state ≡ true → is_elected x0.values.election.state ≡ true)
      → Writing (record { up = true; values = record { election = e; rest = r }; durable = record x0.durable { log = x0.durable.log ++ es } }) es ps
      → ((cut : Cut) → Inv n (acts w m x0 (record { election = e; rest = r; change = Append es; packets = ps }) cut)) → (cut : Cut) → Fits n (acts w m x0 (record { election = e; rest = r; change = Append es; packets = ps }) cut)
  unfolding acts
  appends e r es ps reign is_cand o el s i' Before = before-fits n w m i l up f (i' Before)
  appends e r es ps reign is_cand o el s i' After =
      writes (stopped (record x0.durable { log = x0.durable.log ++ es })) es [] reign is_cand o (record {
        log = refl;
        candidate = refl;
        snapshots = refl;
        term = λ h. absurd (cc);
        leading = λ h. absurd (cc);
        commit = (omega arith, inl refl);
        sent = λ w' g now s h. absurd (none_in s h);
      }) (i' After)
  appends e r es ps reign is_cand o el s i' Whole =
      let none = no_reign m x0.values.election e x0.durable.log el in
      let x : Member = record { up = true; values = record { election = e; rest = r }; durable = record x0.durable { log = x0.durable.log ++ es } } in
      subst (λ gs. Fits n (put w m x [] ps gs)) (sym none)
      (writes x es ps reign is_cand o s (subst (λ gs. Inv n (put w m x [] ps gs)) none (i' Whole)))

  -- the member's log has entries of rising terms
  pub from_anchor : (log : Log) → log ≡ x0.durable.log → IsWritten log × Rises log
  from_anchor [] e = (tt, tt)
  from_anchor (y ∷ ys) e =
      let log = y ∷ ys in
      let at = leads log (reign_of w (last log)) (f.grounded.anchored m log ([], append-nil log ∙ e) (λ z. cc)) in
      (IsWritten-front log (reign_of w (last log)) at (f.grounded.written (last log)), Rises-front (negsuc 0) log (reign_of w (last log)) at (f.grounded.rises (last log)))

  -- the row that begins a reign
  pub begins : (e : Election) → reigns_at x0.values.election.state ≡ false → is_elected x0.values.election.state ≡ false → is_elected e.state ≡ true → is_leader_ready e.state ≡ false → e.term ≡ x0.durable.candidate → last x0.durable.log <ℤ x0.durable.candidate
      → ((r : Reign) → Contains w.reigns r → r.term ≡ x0.durable.candidate → ⊥)
      → ((cut : Cut) → Inv n (acts w m x0 (record { election = e; rest = x0.values.rest; change = Nothing; packets = [] }) cut)) → (cut : Cut) → Fits n (acts w m x0 (record { election = e; rest = x0.values.rest; change = Nothing; packets = [] }) cut)
  unfolding acts
  begins e was not_el el not_ready term high fresh_term i' Before = before-fits n w m i l up f (i' Before)
  begins e was not_el el not_ready term high fresh_term i' After = before-fits n w m i l up f (i' After)
  begins e was not_el el not_ready term high fresh_term i' Whole =
      let x : Member = record { up = true; values = record { election = e; rest = x0.values.rest }; durable = x0.durable } in
      let log = x0.durable.log in
      let t = e.term in
      let r0 : Reign = record { term = t; member = m; first = log } in
      let gs : List Reign = r0 ∷ [] in
      let one : reigns_of m x0.values.election e log ≡ gs = rw (not_el, el) refl in
      let w' = put w m x [] [] gs in
      let i1 : Inv n w' = subst (λ gs. Inv n (put w m x [] [] gs)) one (i' Whole) in
      let old = f.grounded in
      let fl = from_anchor log refl in
      let wl : IsWritten log = fl.0 in
      let rl : Rises log = fl.1 in
      let has0 : Contains w'.reigns r0 = Contains-append_right w.reigns gs r0 (0, omega arith, refl) in
      let is_new : w'.written ≡ record { term = t; log = log } ∷ w.written = written_none was in
      let cases : (u : ℤ) → ((u ≡ t) × (reign_of w' u ≡ log)) ⊎ (reign_of w' u ≡ reign_of w u) =
      λ u. subst (λ ws. ((u ≡ t) × (reign_in ws u ≡ log)) ⊎ (reign_in ws u ≡ reign_of w u)) (sym is_new) (newest w.written t u log) in
      let now : reign_of w' t ≡ log = ap (λ ws. reign_in ws t) is_new ∙ newest-same w.written t log in
      -- the term had no reign
      let new : (r : Reign) → Contains w.reigns r → r.term ≡ t → ⊥ = λ r has same. fresh_term r has (same ∙ term) in
      let empty : reign_of w t ≡ [] = no_log (reign_of w t) (reign_of w t) refl (λ some. let r = old.reigned t some in new r.0 r.1 r.2) in
      let grows : (u : ℤ) → IsPrefixOf (reign_of w u) (reign_of w' u) = λ u. elim (cases u) [
        | inl c ↦ subst (λ z. IsPrefixOf z (reign_of w' u)) (sym empty ∙ ap (reign_of w) (sym c.0)) (reign_of w' u, refl)
        | inr e ↦ same-prefix (reign_of w u) (reign_of w' u) e
      ] in
      let written : (u : ℤ) → IsWritten (reign_of w' u) = λ u. elim (cases u) [ inl c ↦ subst IsWritten (sym c.1) wl | inr e ↦ subst IsWritten (sym e) (old.written u) ] in
      let g : Widens w w' = record {
        reign = grows;
        holding = λ h has. Contains-append_left w.holdings (held_by m x) h has;
        reigns = λ r has. Contains-append_left w.reigns gs r has;
        count = i1.count ∙ sym i.count;
        written = written;
      } in
      let fine : OwesFits n w m x [] [] gs = record {
        up = omega (arith, ints);
        raises = λ r h. absurd (none_in r h);
        grows = grows;
        own_reign = λ u. elim (cases u) [ inl c ↦ inr (log, subst (λ z. Contains w'.reigns (record { term = z; member = m; first = log })) (sym c.0) has0) | inr e ↦ inl e ];
        written = written;
        rises = λ u. elim (cases u) [ inl c ↦ subst Rises (sym c.1) rl | inr e ↦ subst Rises (sym e) (old.rises u) ];
        top = λ u some. elim (cases u) [
          | inl c ↦ subst (λ z. last z ≤ℤ u) (sym c.1) (let d = c.0 in omega (arith, ints, d, high, term))
          | inr e ↦ subst (λ z. last z ≤ℤ u) (sym e) (old.top u (subst (λ z. z ≢ []) e some))
        ];
        reign_anchored = λ u. elim (cases u) [
          | inl c ↦ subst (IsAnchored (reign_of w')) (sym c.1) (Anchored-widens w w' log g (old.anchored m))
          | inr e ↦ subst (IsAnchored (reign_of w')) (sym e) (Anchored-widens w w' (reign_of w u) g (old.reign_anchored u))
        ];
        reigned = λ u some. elim (cases u) [
          | inl c ↦ (r0, has0, sym c.0)
          | inr e ↦ (let r = old.reigned u (subst (λ z. z ≢ []) e some) in (r.0, g.reigns _ r.1, r.2))
        ];
        parts = λ r has xs p lt. elim (Contains-append_cases w.reigns gs r has) [
          | inl a ↦ elim (cases r.term) [ inl c ↦ absurd (new r a c.0) | inr e ↦ f.parts r a xs (subst (IsPrefixOf xs) e p) lt ]
          | inr b ↦ subst (λ (z : Reign). IsPrefixOf xs z.first) (only_in r0 r b) (subst (IsPrefixOf xs) now (subst (λ (z : Reign). IsPrefixOf xs (reign_of w' z.term)) (sym (only_in r0 r b)) p))
        ];
        firsts = λ r has. subst (λ (z : Reign). IsPrefixOf z.first (reign_of w' z.term) × (last z.first <ℤ z.term) × IsAnchored (reign_of w') z.first) (only_in r0 r has)
            (same-prefix log (reign_of w' t) now, (omega (arith, ints, high, term)), Anchored-widens w w' log g (old.anchored m));
        few = λ r r' has has'. only_one r0 r r' has has';
        anchored = Anchored-widens w w' log g (old.anchored m);
        low = f.low m;
        term = λ h. term;
        follows = λ h. same-prefix log (reign_of w' t) now;
        keeps = λ u xs p h. f.agreed.logs u xs m p h;
        reigns = λ h. (now, log, has0);
        leading = λ h. absurd (cc);
        commit = (let z = (f.members m).commit in (z.0, Settled-widens w w' x0.durable.candidate x0.durable.candidate _ g (omega (arith, ints)) z.1));
        snaps = SnapsFit-widens w w' x0 g (f.members m).snaps;
        sent = λ s h. absurd (none_in s h);
      } in
      subst (λ gs. Fits n (put w m x [] [] gs)) (sym one) (fits n w m x [] [] gs l i i1 f fine)
    where
      no_log : (xs ys : Log) → ys ≡ xs → (ys ≢ [] → ⊥) → ys ≡ []
      no_log [] ys e h = e
      no_log (x ∷ xs) ys e h = absurd (h (λ z. let k = sym e ∙ z in cc))

      written_none : reigns_at x0.values.election.state ≡ false → (put w m (record { up = true; values = record { election = e; rest = x0.values.rest }; durable = x0.durable }) [] [] (record { term = e.term; member = m; first = x0.durable.log } ∷ [])).written ≡ record { term = e.term; log = x0.durable.log } ∷ w.written
      written_none h = rw h refl
