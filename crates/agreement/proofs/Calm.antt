-- Rows that leave the log as it is.
use Rattle.std.proofs.Common.{◌≡◌, inl, inr, ℕ, ◌<◌, ◌≤◌, true, false, List, [], ◌++◌, length, take, refl, sym, ap, ◌∙◌, subst, arith, ℤ, ◌≤ℤ◌, ◌<ℤ◌, Some, None, Option}
use Rattle.std.specs.Prelude.{Contains}
use Rattle.std.proofs.lemmas.Int.{ints}
use Rattle.entry_log.specs.Log.{Log, last, IsPrefixOf}
use Rattle.election.specs.declared.member.State.{State}
use Rattle.election.specs.declared.member.State.TheVariants.{LeaderInit, LeaderReady, FollowerLogReplication, FollowerReady}
use Rattle.election.specs.declared.member.Election.{Election}
use Rattle.log_replication.specs.Replication.{IsAnchored}
use Rattle.world.specs.World.{World, Raise, is_elected, member, put, reigns_at, holds_at}
use Rattle.consensus_core.specs.Member.{Member, Sent, Cut, Whole, Before, After, stopped}
use Rattle.consensus_core.specs.declared.rest.Rest.{Rest}
use Rattle.consensus_core.specs.Sendable.{sender_of}
use Rattle.world.specs.Said.{says}
use Rattle.world.proofs.LogRows.{Outcome, Change, Nothing, RaiseTo, Append, CutTo, acts, raises_of}
use Rattle.consensus_core.specs.Fit.{has_term}
use Rattle.world.specs.Safe.{candidate_of}
use Rattle.world.proofs.Kept.{Inv, MemberOk, Known}
use Rattle.world.proofs.Effects.{only_in, none_in, no_reign, IsNoRaise, log_after}
use Rattle.agreement.specs.View.{Holds, IsOpen, IsSettled, view_of}
use Rattle.agreement.proofs.Second.{reign_of, is_leader_ready, Leading, PacketFits, Fits, Widens, SnapsFit-logs}
use Rattle.log_replication.specs.Prefixes.{Leads}
use Rattle.agreement.proofs.Stills.{still}

pub holds-has : (s : State) → holds_at s ≡ true → has_term s ≡ true
holds-has LeaderInit h = refl
holds-has LeaderReady h = refl
holds-has FollowerReady h = refl
holds-has FollowerLogReplication h = refl
holds-has _ h = h

pub reigns-hold : (s : State) → reigns_at s ≡ true → holds_at s ≡ true
reigns-hold LeaderInit h = refl
reigns-hold LeaderReady h = refl
reigns-hold FollowerReady h = refl
reigns-hold _ h = h

pub settled-up : (w : World) (c c' : ℤ) (xs : Log) → c ≤ℤ c' → IsSettled (view_of w) c xs → IsSettled (view_of w) c' xs
settled-up w c c' xs up (inl e) = inl e
settled-up w c c' xs up (inr s) = inr (s.0, s.1, (let a = s.2 in omega (arith, ints, a, up)), s.3, s.4)

pub settled-none : (w : World) (c : ℤ) (log : Log) → IsSettled (view_of w) c (take 0 log)
settled-none w c log = inl refl

pub ready-reigns : (s : State) → is_leader_ready s ≡ true → reigns_at s ≡ true
ready-reigns LeaderReady h = refl
ready-reigns LeaderInit h = refl
ready-reigns _ h = h

module _ (n : ℕ) (w : World) (m : ℕ) (i : Inv n w) (l : m < length w.members) (up : (member w m).up ≡ true) (f : Fits n w) where
  abbrev x0 : Member
  x0 = member w m

  -- the invariants after the row, whatever stop cuts it
  abbrev pub Fine2 : Outcome → Type 0
  Fine2 o = ((cut : Cut) → Inv n (acts w m x0 o cut)) → (cut : Cut) → Fits n (acts w m x0 o cut)

  pub ok : MemberOk w n m x0
  ok = i.members m (subst (λ z. m < z) i.count l)

  pub known : Known w n m x0
  known = ok.known up

  pub term_now : holds_at x0.values.election.state ≡ true → x0.values.election.term ≡ x0.durable.candidate
  term_now h = ok.term (holds-has x0.values.election.state h)

  -- a stop with nothing changed but the candidate term
  pub stop-fits : (c : ℤ) (v : Option ℕ) (rs : List Raise) → x0.durable.candidate ≤ℤ c
      → ((r : Raise) → Contains rs r → (r.voter ≡ m) × (candidate_of w m <ℤ r.term) × (r.term ≤ℤ c) × (r.log ≡ x0.durable.log))
      → Inv n (put w m (stopped (record x0.durable { candidate = c; voted = v })) rs [] []) → Fits n (put w m (stopped (record x0.durable { candidate = c; voted = v })) rs [] [])
  stop-fits c v rs high rok i' =
      still n w m (stopped (record x0.durable { candidate = c; voted = v })) rs [] l i i' f (record {
        stays = λ h. refl;
        up = high;
        raises = rok;
        anchored = f.grounded.anchored m;
        low = (let a = f.low m in omega (arith, ints, a, high));
        term = λ h. absurd (cc);
        follows = λ h. absurd (cc);
        keeps = λ t xs p h. f.agreed.logs t xs m p h;
        reigns = λ h. absurd (cc);
        leading = λ h. absurd (cc);
        commit = (omega arith, settled-none w c x0.durable.log);
        snaps = SnapsFit-logs w x0 (stopped (record x0.durable { candidate = c; voted = v })) refl high (λ xs s p. p) (f.members m).snaps;
        sent = λ g s h. absurd (none_in s h);
      })

  no_raise : (c : ℤ) (r : Raise) → Contains [] r → (r.voter ≡ m) × (candidate_of w m <ℤ r.term) × (r.term ≤ℤ c) × (r.log ≡ x0.durable.log)
  no_raise c r h = absurd (none_in r h)

  pub before-fits : Inv n (put w m (stopped x0.durable) [] [] []) → Fits n (put w m (stopped x0.durable) [] [] [])
  before-fits i' = stop-fits x0.durable.candidate x0.durable.voted [] (omega (arith, ints)) (no_raise x0.durable.candidate) i'

  -- a row with no durable change
  pub calm : (e : Election) (r : Rest) (ps : List Sent) → (holds_at e.state ≡ true → (holds_at x0.values.election.state ≡ true) × (e.term ≡ x0.values.election.term))
      → (reigns_at e.state ≡ true → reigns_at x0.values.election.state ≡ true) → (is_elected e.state ≡ true → is_elected x0.values.election.state ≡ true)
      → (is_leader_ready e.state ≡ true → Leading w (record { up = true; values = record { election = e; rest = r }; durable = x0.durable }))
      → (r.commit ≤ length x0.durable.log) × IsSettled (view_of w) x0.durable.candidate (take r.commit x0.durable.log)
      → ((w' : World) → Widens w w' → (s : Sent) → Contains ps s → PacketFits w' (sender_of s.packet) (says s.packet))
      → Fine2 (record { election = e; rest = r; change = Nothing; packets = ps })
  unfolding acts
  calm e r ps hold reign el lead com' sent i' Before = before-fits (i' Before)
  calm e r ps hold reign el lead com' sent i' After = before-fits (i' After)
  calm e r ps hold reign el lead com' sent i' Whole =
      let x : Member = record { up = true; values = record { election = e; rest = r }; durable = x0.durable } in
      let none = no_reign m x0.values.election e x0.durable.log el in
      subst (λ gs. Fits n (put w m x [] ps gs)) (sym none)
      (still n w m x [] ps l i (subst (λ gs. Inv n (put w m x [] ps gs)) none (i' Whole)) f (record {
        stays = λ h. refl;
        up = omega (arith, ints);
        raises = no_raise x0.durable.candidate;
        anchored = f.grounded.anchored m;
        low = f.low m;
        term = λ h. let z = hold h in z.1 ∙ term_now z.0;
        follows = λ h. let z = hold h in subst (λ t. IsPrefixOf x0.durable.log (reign_of w t)) (sym z.1) ((f.members m).holds z.0).0;
        keeps = λ t xs p h. f.agreed.logs t xs m p h;
        reigns = λ h. let z = hold (reigns-hold e.state h) in subst (λ t. (reign_of w t ≡ x0.durable.log) × (first : Log) × Contains w.reigns (record { term = t; member = m; first = first })) (sym z.1) ((f.members m).reigns (reign h));
        leading = lead;
        commit = com';
        snaps = (f.members m).snaps;
        sent = λ g s h. sent (put w m x [] ps []) g s h;
      }))

  raise-ok : (c : ℤ) (v : Option ℕ) → candidate_of w m <ℤ c → (r : Raise) → Contains (raises_of m x0.durable.log (RaiseTo c v)) r → (r.voter ≡ m) × (candidate_of w m <ℤ r.term) × (r.term ≤ℤ c) × (r.log ≡ x0.durable.log)
  raise-ok c None above r h = absurd (none_in r h)
  raise-ok c (Some k) above r h =
      subst (λ (z : Raise). (z.voter ≡ m) × (candidate_of w m <ℤ z.term) × (z.term ≤ℤ c) × (z.log ≡ x0.durable.log))
      (only_in (record { voter = m; term = c; choice = k; log = x0.durable.log }) r h) (refl, above, omega (arith, ints), refl)

  -- a row that raises the candidate term
  pub lifted : (e : Election) (c : ℤ) (v : Option ℕ) (ps : List Sent) → candidate_of w m <ℤ c → holds_at e.state ≡ false → is_elected e.state ≡ false
      → ((w' : World) → Widens w w' → (s : Sent) → Contains ps s → PacketFits w' (sender_of s.packet) (says s.packet))
      → Fine2 (record { election = e; rest = x0.values.rest; change = RaiseTo c v; packets = ps })
  unfolding acts
  lifted e c v ps above no_hold no_el sent i' Before = before-fits (i' Before)
  lifted e c v ps above no_hold no_el sent i' After = stop-fits c v (raises_of m x0.durable.log (RaiseTo c v)) (omega (arith, ints, above)) (raise-ok c v above) (i' After)
  lifted e c v ps above no_hold no_el sent i' Whole =
      let x : Member = record { up = true; values = record { election = e; rest = x0.values.rest }; durable = record x0.durable { candidate = c; voted = v } } in
      let rs = raises_of m x0.durable.log (RaiseTo c v) in
      let none = no_reign m x0.values.election e x0.durable.log (λ h. absurd (cc)) in
      let no_reigns : reigns_at e.state ≡ true → ⊥ = λ h. let z = reigns-hold e.state h in cc in
      subst (λ gs. Fits n (put w m x rs ps gs)) (sym none)
      (still n w m x rs ps l i (subst (λ gs. Inv n (put w m x rs ps gs)) none (i' Whole)) f (record {
        stays = λ h. refl;
        up = omega (arith, ints, above);
        raises = raise-ok c v above;
        anchored = f.grounded.anchored m;
        low = (let a = f.low m in omega (arith, ints, a, above));
        term = λ h. absurd (cc);
        follows = λ h. absurd (cc);
        keeps = λ t xs p h. f.agreed.logs t xs m p h;
        reigns = λ h. absurd (no_reigns h);
        leading = λ h. absurd (no_reigns (ready-reigns e.state h));
        commit = ((f.members m).commit.0, settled-up w x0.durable.candidate c (take x0.values.rest.commit x0.durable.log) (omega (arith, ints, above)) (f.members m).commit.1);
        snaps = SnapsFit-logs w x0 x refl (omega (arith, ints, above)) (λ xs s p. p) (f.members m).snaps;
        sent = λ g s h. sent (put w m x rs ps []) g s h;
      }))

  -- a row of a member that doesn't reign, with another log
  pub relogs : (e : Election) (r : Rest) (c : Change) (ps : List Sent) (log : Log) → IsNoRaise c → log_after x0.durable.log c ≡ log → reigns_at x0.values.election.state ≡ false → reigns_at e.state ≡ false
      → IsAnchored (reign_of w) log → last log ≤ℤ x0.durable.candidate
      → ((t : ℤ) (xs : Log) → IsOpen (view_of w) t xs → Holds (view_of w) m t xs → IsPrefixOf xs log)
      → ((xs : Log) → IsSettled (view_of w) x0.durable.candidate xs → Leads xs x0.durable.log → Leads xs log)
      → (holds_at e.state ≡ true → (e.term ≡ x0.durable.candidate) × IsPrefixOf log (reign_of w e.term))
      → (r.commit ≤ length log) × IsSettled (view_of w) x0.durable.candidate (take r.commit log)
      → ((s : Sent) → Contains ps s → PacketFits (put w m (record { up = true; values = record { election = e; rest = r }; durable = record x0.durable { log = log } }) [] ps []) (sender_of s.packet) (says s.packet))
      → ((cut : Cut) → Inv n (acts w m x0 (record { election = e; rest = r; change = c; packets = ps }) cut)) → (cut : Cut) → Fits n (acts w m x0 (record { election = e; rest = r; change = c; packets = ps }) cut)
  unfolding acts
  relogs e r c ps log none same was is anch low keep keep_s hold com' sent i' Before = before-fits (i' Before)
  relogs e r c ps log none same was is anch low keep keep_s hold com' sent i' After =
      let y : Member = stopped (record x0.durable { log = log }) in
      let eq : acts w m x0 (record { election = e; rest = r; change = c; packets = ps }) After ≡ put w m y [] [] [] = acts-after c log none same in
      subst (Fits n) (sym eq)
      (still n w m y [] [] l i (subst (Inv n) eq (i' After)) f (record {
        stays = λ h. absurd (cc);
        up = omega (arith, ints);
        raises = no_raise x0.durable.candidate;
        anchored = anch;
        low = low;
        term = λ h. absurd (cc);
        follows = λ h. absurd (cc);
        keeps = keep;
        reigns = λ h. absurd (cc);
        leading = λ h. absurd (cc);
        commit = (omega arith, settled-none w x0.durable.candidate log);
        snaps = SnapsFit-logs w x0 y refl (omega (arith, ints)) keep_s (f.members m).snaps;
        sent = λ g s h. absurd (none_in s h);
      }))
    where
      acts-after : (c : Change) (log : Log) → IsNoRaise c → log_after x0.durable.log c ≡ log → acts w m x0 (record { election = e; rest = r; change = c; packets = ps }) After ≡ put w m (stopped (record x0.durable { log = log })) [] [] []
      acts-after Nothing log none same = ap (λ (z : Log). put w m (stopped (record x0.durable { log = z })) [] [] []) same
      acts-after (RaiseTo t v) log none same = absurd none
      acts-after (Append es) log none same = ap (λ (z : Log). put w m (stopped (record x0.durable { log = z })) [] [] []) same
      acts-after (CutTo k) log none same = ap (λ (z : Log). put w m (stopped (record x0.durable { log = z })) [] [] []) same
  relogs e r c ps log none same was is anch low keep keep_s hold com' sent i' Whole =
      let y : Member = record { up = true; values = record { election = e; rest = r }; durable = record x0.durable { log = log } } in
      let eq : acts w m x0 (record { election = e; rest = r; change = c; packets = ps }) Whole ≡ put w m y [] ps [] = acts-whole c log none same in
      subst (Fits n) (sym eq)
      (still n w m y [] ps l i (subst (Inv n) eq (i' Whole)) f (record {
        stays = λ h. absurd (cc);
        up = omega (arith, ints);
        raises = no_raise x0.durable.candidate;
        anchored = anch;
        low = low;
        term = λ h. (hold h).0;
        follows = λ h. (hold h).1;
        keeps = keep;
        reigns = λ h. absurd (cc);
        leading = λ h. absurd (let z = ready-reigns e.state h in cc);
        commit = com';
        snaps = SnapsFit-logs w x0 y refl (omega (arith, ints)) keep_s (f.members m).snaps;
        sent = λ g s h. sent s h;
      }))
    where
      not_elected : (s : State) → reigns_at s ≡ false → is_elected s ≡ true → ⊥
      not_elected LeaderInit h k = cc
      not_elected _ h k = cc

      acts-whole : (c : Change) (log : Log) → IsNoRaise c → log_after x0.durable.log c ≡ log → acts w m x0 (record { election = e; rest = r; change = c; packets = ps }) Whole ≡ put w m (record { up = true; values = record { election = e; rest = r }; durable = record x0.durable { log = log } }) [] ps []
      acts-whole (RaiseTo t v) log none same = absurd none
      acts-whole Nothing log none same = ap (λ gs. put w m (record { up = true; values = record { election = e; rest = r }; durable = x0.durable }) [] ps gs) (no_reign m x0.values.election e x0.durable.log (λ h. absurd (not_elected e.state is h))) ∙ ap (λ (z : Log). put w m (record { up = true; values = record { election = e; rest = r }; durable = record x0.durable { log = z } }) [] ps []) same
      acts-whole (Append es) log none same = ap (λ gs. put w m (record { up = true; values = record { election = e; rest = r }; durable = record x0.durable { log = x0.durable.log ++ es } }) [] ps gs) (no_reign m x0.values.election e x0.durable.log (λ h. absurd (not_elected e.state is h))) ∙ ap (λ (z : Log). put w m (record { up = true; values = record { election = e; rest = r }; durable = record x0.durable { log = z } }) [] ps []) same
      acts-whole (CutTo k) log none same = ap (λ gs. put w m (record { up = true; values = record { election = e; rest = r }; durable = record x0.durable { log = k } }) [] ps gs) (no_reign m x0.values.election e x0.durable.log (λ h. absurd (not_elected e.state is h))) ∙ ap (λ (z : Log). put w m (record { up = true; values = record { election = e; rest = r }; durable = record x0.durable { log = z } }) [] ps []) same
