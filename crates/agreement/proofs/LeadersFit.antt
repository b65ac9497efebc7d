-- The rows of a leader, and what it appends of a client, keep the second invariant.
use Rattle.std.proofs.Common.{◌≡◌, ◌≢◌, inr, ℕ, zero, suc, ◌+◌, ◌<◌, ◌≤◌, Bool, true, false, List, [], ◌∷◌, ◌++◌, length, take, replicate, refl, sym, ap, ◌∙◌, subst, arith, negsuc, Some, None, Option}
use Rattle.std.specs.Prelude.{Contains, slice_index_or, if◌then◌else◌, nat_le, nat_lt, nat_eq, unwrap_or, count_by}
use Rattle.std.proofs.lemmas.Int.{ints}
use Rattle.std.proofs.lemmas.List.{append-nil}
use Rattle.std.proofs.lemmas.Bool.Decides.{nat_tests}
use Rattle.cl_base.specs.declared.entry.Entry.{Entry}
use Rattle.entry_log.specs.Log.{Log, last, place, IsPrefixOf}
use Rattle.election.specs.declared.member.State.{State}
use Rattle.election.specs.declared.member.State.TheVariants.{LeaderInit, LeaderReady}
use Rattle.election.specs.declared.member.Election.{Election}
use Rattle.election.specs.Rows.{enter_canvass}
use Rattle.entry_log.specs.Quorum.{is_quorum}
use Rattle.log_replication.specs.Replication.{past}
use Rattle.entry_log.specs.Log.{IsWritten, Rises}
use Rattle.log_replication.specs.Prefixes.{Leads, leads, is_prefix, Leads-self, Leads-trans, Leads-append, Leads-by_place, IsWritten-front, Rises-front, last-up}
use Rattle.log_replication.specs.Cuts.{past-goes_on}
use Rattle.world.specs.World.{World, member, reigns_at, holds_at}
use Rattle.consensus_core.specs.Member.{Member, Sent}
use Rattle.consensus_core.specs.declared.rest.Rest.{Rest}
use Rattle.consensus_core.specs.Sendable.{sender_of}
use Rattle.world.specs.Said.{says, AnnounceOf, CommitOf, BatchOf}
use Rattle.world.proofs.LogRows.{Outcome, Nothing, client_at, in_leader_init, in_leader_ready, term_bytes-some, batches, commits, commit_after, are_own}
use Rattle.world.specs.World.{term_entry}
use Rattle.consensus_core.specs.OverLog.{entries_to}
use Rattle.consensus_core.specs.Reign.{count_recent, reports}
use Rattle.log_replication.specs.Commits.{quorum_position}
use Rattle.consensus_core.specs.Fit.{has_term}
use Rattle.world.specs.Safe.{count_below}
use Rattle.world.proofs.Kept.{Inv, MemberOk, Known}
use Rattle.world.proofs.Effects.{none_in, if-cases, to_others-all, append-all, batches-all, announcements-all, commits-all}
use Rattle.agreement.specs.View.{Holds, IsSettled, view_of}
use Rattle.agreement.proofs.Opens.{prefix-trans, not-none}
use Rattle.entry_log.specs.Shape.{shape_of}
use Rattle.consensus_core.specs.Sends.{batch_count}
use Rattle.agreement.proofs.Second.{reign_of, is_leader_ready, Leading, MemberFits, PacketFits, Fits, Widens, PacketFits-widens}
use Rattle.agreement.proofs.Writes.{own, appends, from_anchor}
use Rattle.agreement.proofs.Commits.{entries_to-short, entries_to-place, entries_to-holds, take-leads, max-either, quorum_position-reached, report, length-reports, count-reports}
use Rattle.agreement.proofs.Fronts.{take-front, length-up, place-some, last-snoc, Leads-append-front}
use Rattle.agreement.proofs.FollowersFit.{Two as Keeps, same as same-keeps, canvass as canvass-keeps}

none-acked : (n k p : ℕ) → slice_index_or (replicate n None) k None ≡ Some p → ⊥
none-acked zero k p h = cc
none-acked (suc n) zero p h = cc
none-acked (suc n) (suc k) p h = none-acked n k p h

module _ (n : ℕ) (w : World) (m : ℕ) (i : Inv n w) (l : m < length w.members) (up : (member w m).up ≡ true) (f : Fits n w) where
  abbrev x0 : Member
  x0 = member w m

  abbrev e : Election
  e = x0.values.election

  abbrev r0 : Rest
  r0 = x0.values.rest

  abbrev log : Log
  log = x0.durable.log

  -- the second invariant after the row, given the first
  abbrev Two : Outcome → Type 0
  Two = Keeps n w m i l up f

  ok : MemberOk w n m x0
  ok = i.members m (subst (λ z. m < z) i.count l)

  known : Known w n m x0
  known = ok.known up

  mine : MemberFits w m x0
  mine = f.members m

  fl : IsWritten log × Rises log
  fl = from_anchor n w m i l up f log refl

  same : Two (record { election = e; rest = r0; change = Nothing; packets = [] })
  same = same-keeps n w m i l up f

  canvass : (now : ℕ) → Two (record { election = enter_canvass e now; rest = r0; change = Nothing; packets = [] })
  canvass = canvass-keeps n w m i l up f

  -- P15 (ii): what a quorum reported is committed
  reports-commit : e.state ≡ LeaderReady → (commit_after e r0 log ≤ length log) × IsSettled (view_of w) x0.durable.candidate (take (commit_after e r0 log) log)
  reports-commit at =
      let g = f.grounded in
      let lead = mine.leading (ap is_leader_ready at) in
      let reign = mine.reigns (ap reigns_at at) in
      let cand : e.term ≡ x0.durable.candidate = ok.term (ap has_term at) in
      let q = quorum_position (reports e.members e.id (place log) r0.acked) in
      let ys = take (entries_to q log) log in
      let ours : Leads log (reign_of w e.term) = subst (Leads log) (sym reign.0) (Leads-self log) in
      let fo = leads lead.own log lead.front in
      let front : Leads ys log = take-leads (entries_to q log) log in
      let low : place ys ≤ q = entries_to-place 0 q log (omega arith) in
      let some_end = place-some lead.own (IsWritten-front lead.own log fo fl.0) lead.some in
      if-cases (λ c. (c ≤ length log) × IsSettled (view_of w) x0.durable.candidate (take c log)) (nat_le r0.own_end q) _ _
      (λ enough.
      let reach : place lead.own ≤ q = (let z = lead.own_end in grind (arith, nat_tests, z, enough)) in
      let test : ℕ → Bool = λ k. nat_le q (report e.id (place log) r0.acked k) in
      let quorum : is_quorum (length w.members) (count_below (length w.members) test) ≡ true =
      subst (λ k. is_quorum k (count_below k test) ≡ true) (known.members ∙ sym i.count)
      (subst (λ c. is_quorum e.members c ≡ true) (count-reports e.members e.id (place log) q r0.acked)
      (subst (λ k. is_quorum k (count_by (nat_le q) (reports e.members e.id (place log) r0.acked)) ≡ true) (length-reports e.members e.id (place log) r0.acked)
      (quorum_position-reached (reports e.members e.id (place log) r0.acked) (omega (arith, some_end, reach))))) in
      let in_ys : Leads lead.own ys = entries_to-holds 0 q lead.own log fl.0 fo reach in
      let some : ys ≢ [] = not-none lead.own ys lead.some (is_prefix lead.own ys in_ys) in
      let t : last ys ≡ e.term = (
      let ry = Rises-front (negsuc 0) ys log front fl.1 in
      let a = last-up (negsuc 0) lead.own ys ry in_ys in
      let b = last-up (negsuc 0) ys log fl.1 front in
      let c = f.low m in let d = lead.term in omega (arith, ints, a, b, c, d, cand)) in
      max-either (λ z. (z ≤ length log) × IsSettled (view_of w) x0.durable.candidate (take z log)) r0.commit (entries_to q log) mine.commit
      (entries_to-short 0 q log, inr (e.term, ys, (omega (arith, ints, cand)), (t, some, (test, quorum, λ k h. holder at k q ys front low (omega (arith, some_end, reach)) h)), ([], append-nil ys))))
      (λ not_yet. mine.commit)
    where
      holder : e.state ≡ LeaderReady → (k q : ℕ) (ys : Log) → Leads ys log → place ys ≤ q → 0 < q → nat_le q (report e.id (place log) r0.acked k) ≡ true → Holds (view_of w) k e.term ys
      holder at k q ys front low some h = by_id (nat_eq k e.id) refl h
        where
          by_id : (b : Bool) → nat_eq k e.id ≡ b → nat_le q (if b then place log else unwrap_or (slice_index_or r0.acked k None) 0) ≡ true → Holds (view_of w) k e.term ys
          by_id true is h =
              let me : k ≡ m = (let z : k ≡ e.id = grind (arith, nat_tests, is) in z ∙ known.id) in
              (log, subst (λ z. Contains w.holdings (record { member = z; term = e.term; log = log })) (sym me) (mine.holds (ap holds_at at)).1, is_prefix ys log front)
          by_id false is h = by_ack (slice_index_or r0.acked k None) refl h
            where
              by_ack : (a : Option ℕ) → slice_index_or r0.acked k None ≡ a → nat_le q (unwrap_or a 0) ≡ true → Holds (view_of w) k e.term ys
              by_ack None is h = absurd (grind (arith, nat_tests, h, some))
              by_ack (Some p) is h =
                  let held = (mine.leading (ap is_leader_ready at)).acked k p is in
                  let xs = held.0 in
                  let in_reign : Leads xs (reign_of w e.term) = leads xs (reign_of w e.term) (f.grounded.held _ held.1) in
                  let ours : Leads ys (reign_of w e.term) = subst (Leads ys) (sym (mine.reigns (ap reigns_at at)).0) front in
                  let far : place ys ≤ place xs = (let z = held.2 in grind (arith, nat_tests, h, low, z)) in
                  (xs, held.1, is_prefix ys xs (Leads-by_place 0 ys xs (reign_of w e.term) (f.grounded.written e.term) ours in_reign far))

  -- what a leader keeps of itself when it appends
  longer-leads : (e' : Election) (r : Rest) (es : Log) → e.state ≡ LeaderReady → e'.term ≡ e.term → r.own_end ≡ r0.own_end → r.acked ≡ r0.acked → Leading w (record { up = true; values = record { election = e'; rest = r }; durable = record x0.durable { log = log ++ es } })
  longer-leads e' r es at t o a =
      let z = mine.leading (ap is_leader_ready at) in
      record {
        own = z.own;
        front = prefix-trans z.own log (log ++ es) z.front (es, refl);
        term = z.term ∙ sym t;
        some = z.some;
        own_end = z.own_end ∙ sym o;
        acked = λ k p q. subst (λ u. (xs : Log) × Contains w.holdings (record { member = k; term = u; log = xs }) × (place xs ≡ p)) (sym t) (z.acked k p (ap (λ (l : List (Option ℕ)). slice_index_or l k None) (sym a) ∙ q));
      }

  longer-commit : (c : ℕ) (es : Log) → (c ≤ length log) × IsSettled (view_of w) x0.durable.candidate (take c log) → (c ≤ length (log ++ es)) × IsSettled (view_of w) x0.durable.candidate (take c (log ++ es))
  longer-commit c es h =
      let p = Leads-append log es in
      ((let a = length-up log (log ++ es) p in let b = h.0 in omega (arith, a, b)), subst (IsSettled (view_of w) x0.durable.candidate) (sym (take-front c log (log ++ es) p h.0)) h.1)

  pub client-two : (s : State) (entries : Log) → e.state ≡ s → Two (client_at s x0 entries)
  client-two LeaderReady entries at =
      if-cases Two (are_own e.term entries) _ _
      (λ h. appends n w m i l up f e r0 entries [] (ap reigns_at at) (ok.term (ap has_term at)) (own e.term entries h) (λ k. k)
      (record { log = refl; candidate = refl; snapshots = refl; term = λ k. refl; leading = λ k. longer-leads e r0 entries at refl refl refl; commit = longer-commit r0.commit entries mine.commit; sent = λ w' g now s k. absurd (none_in s k) }))
      (λ h. same)
  client-two _ entries at = same

  pub in_leader_init-two : (now : ℕ) → e.state ≡ LeaderInit → Two (in_leader_init e r0 log now)
  in_leader_init-two now at =
      let x = term_entry e.term (place log) now e.id in
      if-cases Two (nat_lt 16777216 (place (log ++ x ∷ []))) _ _
      (λ h. canvass now)
      (λ h. appends n w m i l up f (record e { state = LeaderReady; next = now + 100 }) _ (x ∷ []) _ (ap reigns_at at) (ok.term (ap has_term at)) (refl, term_bytes-some e.term (place log) now e.id, tt) (λ k. absurd (cc))
      (record {
        log = refl;
        candidate = refl;
        snapshots = refl;
        term = λ k. refl;
        leading = λ k. record { own = log ++ x ∷ []; front = ([], append-nil (log ++ x ∷ [])); term = last-snoc (negsuc 0) log x; some = snoc-some log x; own_end = refl; acked = λ j p is. absurd (none-acked 5 j p is) };
        commit = longer-commit r0.commit (x ∷ []) mine.commit;
        sent = λ w' g now' s k. to_others-all (λ s. PacketFits w' (sender_of s.packet) (says s.packet)) e.members e.id (AnnounceOf e.term) (λ j. tt) s k;
      }))
    where
      snoc-some : (xs : Log) (x : Entry) → xs ++ x ∷ [] ≢ []
      snoc-some [] x z = cc
      snoc-some (y ∷ ys) x z = cc

  -- P15
  pub in_leader_ready-two : (due : Log) (now : ℕ) → e.state ≡ LeaderReady → are_own e.term due ≡ true → Two (in_leader_ready e r0 log due now)
  in_leader_ready-two due now at ours =
      let commit = commit_after e r0 log in
      let settled = reports-commit at in
      let cand : e.term ≡ x0.durable.candidate = ok.term (ap has_term at) in
      if-cases Two (is_quorum e.members (count_recent now e.members e r0)) _ _
      (λ h. appends n w m i l up f (record e { next = (if nat_le e.next now then now + 100 else e.next) }) (record r0 { commit = commit }) due _ (ap reigns_at at) cand (own e.term due ours) (λ k. k)
      (record {
        log = refl;
        candidate = refl;
        snapshots = refl;
        term = λ k. refl;
        leading = λ k. longer-leads (record e { next = (if nat_le e.next now then now + 100 else e.next) }) (record r0 { commit = commit }) due at refl refl refl;
        commit = longer-commit commit due settled;
        sent = λ w' g is.
            append-all (λ s. PacketFits w' (sender_of s.packet) (says s.packet)) (batches e.members e r0.acked (log ++ due)) _
            (batches-all (λ s. PacketFits w' (sender_of s.packet) (says s.packet)) e.members e r0.acked (log ++ due) (λ k p has. batch-fits at due w' g is k p has))
            (append-all (λ s. PacketFits w' (sender_of s.packet) (says s.packet)) (commits e r0 (log ++ due) commit now) _
            (commits-all (λ s. PacketFits w' (sender_of s.packet) (says s.packet)) e r0 (log ++ due) commit now (λ k.
            subst (λ (z : Log). PacketFits w' e.id (CommitOf e.term (place z))) (sym (take-front commit log (log ++ due) (Leads-append log due) settled.0))
            (PacketFits-widens w w' e.id (CommitOf e.term (place (take commit log))) g
            (take commit log, subst (IsPrefixOf (take commit log)) (sym (mine.reigns (ap reigns_at at)).0) (is_prefix (take commit log) log (take-leads commit log)), refl, subst (λ z. IsSettled (view_of w) z (take commit log)) (sym cand) settled.1))))
            (if-cases (λ ps. (s : Sent) → Contains ps s → PacketFits w' (sender_of s.packet) (says s.packet)) (nat_le e.next now) _ _
            (λ b. announcements-all (λ s. PacketFits w' (sender_of s.packet) (says s.packet)) e.members e r0.acked (λ k. tt)) (λ b s k. absurd (none_in s k))));
      }))
      (λ h. canvass now)
    where
      batch-fits : e.state ≡ LeaderReady → (due : Log) (w' : World) → Widens w w' → reign_of w' e.term ≡ log ++ due → (k p : ℕ) → slice_index_or r0.acked k None ≡ Some p → PacketFits w' e.id (BatchOf e.term p (take (batch_count (entries_to p (log ++ due)) (shape_of (log ++ due))) (past 0 p (log ++ due))))
      batch-fits at due w' g is k p has =
          let held = (mine.leading (ap is_leader_ready at)).acked k p has in
          let xs = held.0 in
          let after = log ++ due in
          let in_log : Leads xs log = subst (Leads xs) (mine.reigns (ap reigns_at at)).0 (leads xs (reign_of w e.term) (f.grounded.held _ held.1)) in
          let in_after : Leads xs after = Leads-trans xs log after in_log (Leads-append log due) in
          let wa : IsWritten after = subst IsWritten is (g.written e.term) in
          let rest = past 0 p after in
          let count = batch_count (entries_to p after) (shape_of after) in
          let whole : Leads (xs ++ rest) after = subst (λ z. Leads (xs ++ past 0 z after) after) held.2 (past-goes_on 0 xs after after wa in_after (Leads-self after)) in
          (xs, held.2, is_prefix (xs ++ take count rest) (reign_of w' e.term) (subst (Leads (xs ++ take count rest)) (sym is) (Leads-trans (xs ++ take count rest) (xs ++ rest) after (Leads-append-front xs (take count rest) rest (take-leads count rest)) whole)))
