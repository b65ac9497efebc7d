-- The kinds of step that the rows are, for the second invariant.
use Rattle.std.proofs.Common.{◌≡◌, ◌≢◌, inl, inr, ℕ, ◌<◌, ◌≤◌, Bool, true, false, List, [], ◌∷◌, ◌++◌, length, take, refl, sym, ap, ◌∙◌, subst, arith, ℤ, ◌≤ℤ◌, ◌<ℤ◌}
use Rattle.std.specs.Prelude.{Contains, if◌then◌else◌, int_le, ◌&&◌}
use Rattle.world.proofs.Rows.{and_true}
use Rattle.std.proofs.lemmas.Int.{ints}
use Rattle.std.proofs.lemmas.List.Elements.{Contains-append_left, Contains-append_cases}
use Rattle.entry_log.specs.Log.{Log, last, IsPrefixOf}
use Rattle.log_replication.specs.Replication.{IsAnchored}
use Rattle.entry_log.specs.Log.{IsWritten, Rises}
use Rattle.log_replication.specs.Prefixes.{Leads, is_prefix, Leads-self}
use Rattle.world.specs.World.{World, Raise, Reign, member, put, reign_in, reigns_at, holds_at, held_by, Written}
use Rattle.consensus_core.specs.Member.{Member, Sent}
use Rattle.consensus_core.specs.Sendable.{sender_of}
use Rattle.world.specs.Said.{says}
use Rattle.world.specs.Safe.{candidate_of}
use Rattle.world.proofs.Kept.{Inv}
use Rattle.world.proofs.Effects.{none_in}
use Rattle.agreement.specs.View.{Holds, IsOpen, IsSettled, view_of}
use Rattle.agreement.proofs.Opens.{prefix-trans}
use Rattle.agreement.proofs.Second.{reign_of, is_leader_ready, Leading, PacketFits, Fits, Widens, fits, Settled-widens, Anchored-widens, SnapsFit, SnapsFit-widens}

pub same-prefix : (xs ys : Log) → ys ≡ xs → IsPrefixOf xs ys
same-prefix xs ys e = is_prefix xs ys (subst (Leads xs) (sym e) (Leads-self xs))

reign_in-again : (ws : List Written) (t u : ℤ) (log : Log) → reign_in ws t ≡ log → reign_in (record { term = t; log = log } ∷ ws) u ≡ reign_in ws u
reign_in-again ws t u log e = at (int_le t u && int_le u t) refl
  where
    at : (b : Bool) → (int_le t u && int_le u t) ≡ b → (if b then log else reign_in ws u) ≡ reign_in ws u
    at true h = sym e ∙ ap (reign_in ws) (let p = and_true (int_le t u) (int_le u t) h in let a = p.0 in let c = p.1 in grind (arith, ints))
    at false h = refl

-- where the member that moves writes no new log in its reign, each reign's log stays
pub reign-stays : (n : ℕ) (w : World) (m : ℕ) (x : Member) (rs : List Raise) (ps : List Sent) → Fits n w → (reigns_at (member w m).values.election.state ≡ true → x.durable.log ≡ (member w m).durable.log) → (t : ℤ) → reign_of (put w m x rs ps []) t ≡ reign_of w t
reign-stays n w m x rs ps f same t = at (reigns_at (member w m).values.election.state) refl
  where
    at : (b : Bool) → reigns_at (member w m).values.election.state ≡ b → reign_in ((if b then record { term = (member w m).values.election.term; log = x.durable.log } ∷ [] else []) ++ w.written) t ≡ reign_in w.written t
    at true e = reign_in-again w.written (member w m).values.election.term t x.durable.log (((f.members m).reigns e).0 ∙ sym (same e))
    at false e = refl

-- a step in which no reign begins or writes
pub record Still (w : World) (m : ℕ) (x : Member) (rs : List Raise) (ps : List Sent) : Type 0 where
  pub stays : reigns_at (member w m).values.election.state ≡ true → x.durable.log ≡ (member w m).durable.log
  pub up : candidate_of w m ≤ℤ x.durable.candidate
  pub raises : (r : Raise) → Contains rs r → (r.voter ≡ m) × (candidate_of w m <ℤ r.term) × (r.term ≤ℤ x.durable.candidate) × (r.log ≡ (member w m).durable.log)
  pub anchored : IsAnchored (reign_of w) x.durable.log
  pub low : last x.durable.log ≤ℤ x.durable.candidate
  pub term : holds_at x.values.election.state ≡ true → x.values.election.term ≡ x.durable.candidate
  pub follows : holds_at x.values.election.state ≡ true → IsPrefixOf x.durable.log (reign_of w x.values.election.term)
  pub keeps : (t : ℤ) (xs : Log) → IsOpen (view_of w) t xs → Holds (view_of w) m t xs → IsPrefixOf xs x.durable.log
  pub reigns : reigns_at x.values.election.state ≡ true → (reign_of w x.values.election.term ≡ x.durable.log) × (first : Log) × Contains w.reigns (record { term = x.values.election.term; member = m; first = first })
  pub leading : is_leader_ready x.values.election.state ≡ true → Leading w x
  pub commit : (x.values.rest.commit ≤ length x.durable.log) × IsSettled (view_of w) x.durable.candidate (take x.values.rest.commit x.durable.log)
  pub snaps : SnapsFit w x
  pub sent : Widens w (put w m x rs ps []) → (s : Sent) → Contains ps s → PacketFits (put w m x rs ps []) (sender_of s.packet) (says s.packet)

pub Leading-widens : (w w' : World) (x : Member) → Widens w w' → Leading w x → Leading w' x
Leading-widens w w' x g z = record { own = z.own; front = z.front; term = z.term; some = z.some; own_end = z.own_end; acked = λ k p e. let a = z.acked k p e in (a.0, g.holding _ a.1, a.2) }

old-reign : (w w' : World) (r : Reign) → w'.reigns ≡ w.reigns ++ [] → Contains w'.reigns r → Contains w.reigns r
old-reign w w' r e has = elim (Contains-append_cases w.reigns [] r (subst (λ l. Contains l r) e has)) [ inl a ↦ a | inr b ↦ absurd (none_in r b) ]

pub still : (n : ℕ) (w : World) (m : ℕ) (x : Member) (rs : List Raise) (ps : List Sent) → m < length w.members → Inv n w → Inv n (put w m x rs ps []) → Fits n w → Still w m x rs ps → Fits n (put w m x rs ps [])
still n w m x rs ps l i i' f s =
    let w' = put w m x rs ps [] in
    let same = reign-stays n w m x rs ps f s.stays in
    let old = f.grounded in
    let written : (t : ℤ) → IsWritten (reign_of w' t) = λ t. subst IsWritten (sym (same t)) (old.written t) in
    let g : Widens w w' = record {
      reign = λ t. same-prefix (reign_of w t) (reign_of w' t) (same t);
      holding = λ h has. Contains-append_left w.holdings (held_by m x) h has;
      reigns = λ r has. Contains-append_left w.reigns [] r has;
      count = i'.count ∙ sym i.count;
      written = written;
    } in
    fits n w m x rs ps [] l i i' f (record {
      up = s.up;
      raises = s.raises;
      grows = g.reign;
      own_reign = λ t. inl (same t);
      written = written;
      rises = λ t. subst Rises (sym (same t)) (old.rises t);
      top = λ t some. subst (λ z. last z ≤ℤ t) (sym (same t)) (old.top t (subst (λ z. z ≢ []) (same t) some));
      reign_anchored = λ t. subst (IsAnchored (reign_of w')) (sym (same t)) (Anchored-widens w w' (reign_of w t) g (old.reign_anchored t));
      reigned = λ t some. let r = old.reigned t (subst (λ z. z ≢ []) (same t) some) in (r.0, g.reigns _ r.1, r.2);
      parts = λ r has xs p lt. f.parts r (old-reign w w' r refl has) xs (subst (IsPrefixOf xs) (same r.term) p) lt;
      firsts = λ r has. absurd (none_in r has);
      few = λ r r' has. absurd (none_in r has);
      anchored = Anchored-widens w w' x.durable.log g s.anchored;
      low = s.low;
      term = s.term;
      follows = λ h. prefix-trans x.durable.log (reign_of w x.values.election.term) (reign_of w' x.values.election.term) (s.follows h) (g.reign x.values.election.term);
      keeps = s.keeps;
      reigns = λ h. let z = s.reigns h in (same x.values.election.term ∙ z.0, z.1, g.reigns _ z.2);
      leading = λ h. Leading-widens w w' x g (s.leading h);
      commit = (s.commit.0, Settled-widens w w' x.durable.candidate x.durable.candidate _ g (omega (arith, ints)) s.commit.1);
      snaps = SnapsFit-widens w w' x g s.snaps;
      sent = s.sent g;
    })
