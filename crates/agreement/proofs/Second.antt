-- The second invariant, over the first, and what a step of one member owes to keep it.
use Rattle.std.proofs.Common.{◌≡◌, ◌≢◌, ◌⊎◌, inl, inr, ℕ, ◌<◌, ◌≤◌, Bool, true, false, List, [], ◌∷◌, ◌++◌, length, take, refl, sym, ap, ◌∙◌, subst, arith, ℤ, ◌≤ℤ◌, ◌<ℤ◌, Some, None, length-set}
use Rattle.std.specs.Prelude.{Contains, slice_index_or}
use Rattle.std.proofs.lemmas.Int.{ints}
use Rattle.std.proofs.lemmas.Bool.{cases_eq}
use Rattle.std.proofs.lemmas.List.Elements.{Contains-append_left, Contains-append_right, Contains-append_cases}
use Rattle.entry_log.specs.Log.{Log, last, place, better, IsPrefixOf}
use Rattle.entry_log.specs.Quorum.{is_quorum}
use Rattle.election.specs.declared.member.State.{State}
use Rattle.election.specs.declared.member.State.TheVariants.{LeaderReady}
use Rattle.log_replication.specs.Replication.{IsAnchored, answer_term, answer_end}
use Rattle.entry_log.specs.Log.{IsWritten, Rises}
use Rattle.log_replication.specs.Prefixes.{Leads, leads, place-up}
use Rattle.world.specs.World.{World, Raise, Reign, Holding, member, put, reign_in, reigns_at, holds_at, held_by}
use Rattle.consensus_core.specs.Member.{Member, Sent}
use Rattle.consensus_core.specs.Sendable.{sender_of}
use Rattle.world.specs.Said.{says, Said, CanvassOf, RequestOf, VoteOf, AnnounceOf, AnswerOf, ReportOf, CommitOf, BatchOf}
use Rattle.world.specs.Safe.{candidate_of, count_below}
use Rattle.std.specs.Prelude.{if◌then◌else◌}
use Rattle.consensus_core.specs.Rows.{is_announcement}
use Rattle.world.proofs.LogRows.{packet_in}
use Rattle.world.proofs.Effects.{only_in, none_in}
use Rattle.world.proofs.Kept.{Inv, Later, member-put_same, member-put_other}
use Rattle.agreement.specs.View.{Holds, IsOpen, IsSettled, IsGrounded, IsAgreed, IsMove, view_of}
use Rattle.agreement.proofs.Opens.{prefix-trans, stays}
use Rattle.entry_log.specs.Durable.{SnapshotEntry}

abbrev pub reign_of : World → ℤ → Log
reign_of w = reign_in w.written

abbrev pub is_leader_ready : State → Bool
is_leader_ready LeaderReady = true
is_leader_ready _ = false

-- a member that reigns and has written its term's entry
pub record Leading (w : World) (x : Member) : Type 0 where
  pub own : Log
  pub front : IsPrefixOf own x.durable.log
  pub term : last own ≡ x.values.election.term
  pub some : own ≢ []
  pub own_end : place own ≡ x.values.rest.own_end
  pub acked : (k p : ℕ) → slice_index_or x.values.rest.acked k None ≡ Some p → (log : Log) × Contains w.holdings (record { member = k; term = x.values.election.term; log = log }) × (place log ≡ p)

-- each snapshot entry names the end of a prefix of the log that is settled
abbrev pub SnapsFit : World → Member → Type 0
SnapsFit w x = (s : SnapshotEntry) → Contains x.durable.snapshots s → (xs : Log) × Leads xs x.durable.log × (place xs ≡ s.position) × (last xs ≡ s.term) × IsSettled (view_of w) x.durable.candidate xs

pub record MemberFits (w : World) (m : ℕ) (x : Member) : Type 0 where
  pub holds : holds_at x.values.election.state ≡ true → IsPrefixOf x.durable.log (reign_of w x.values.election.term) × Contains w.holdings (record { member = m; term = x.values.election.term; log = x.durable.log })
  pub reigns : reigns_at x.values.election.state ≡ true → (reign_of w x.values.election.term ≡ x.durable.log) × (first : Log) × Contains w.reigns (record { term = x.values.election.term; member = m; first = first })
  pub leading : is_leader_ready x.values.election.state ≡ true → Leading w x
  pub commit : (x.values.rest.commit ≤ length x.durable.log) × IsSettled (view_of w) x.durable.candidate (take x.values.rest.commit x.durable.log)
  pub snaps : SnapsFit w x

abbrev pub PacketFits : World → ℕ → Said → Type 0
PacketFits w from (CanvassOf named c) = named.place ≤ place (reign_of w named.term)
PacketFits w from (RequestOf c named) = Unit {0}
PacketFits w from (VoteOf c yes' own) = Unit {0}
PacketFits w from (AnnounceOf t) = Unit {0}
PacketFits w from (AnswerOf t asked keep) =
    (log : Log) × IsPrefixOf log (reign_of w t) × (last log ≡ t) × (log ≢ []) × (keep.term ≡ answer_term log asked.term) × (keep.place ≡ answer_end log asked.term) × (asked.term ≡ t → asked.place ≤ keep.place)
PacketFits w from (ReportOf t p) = (log : Log) × Contains w.holdings (record { member = from; term = t; log = log }) × (place log ≡ p)
PacketFits w from (CommitOf t c) = (log : Log) × IsPrefixOf log (reign_of w t) × (place log ≡ c) × IsSettled (view_of w) t log
PacketFits w from (BatchOf t start entries) = (log : Log) × (place log ≡ start) × IsPrefixOf (log ++ entries) (reign_of w t)

-- what is sent says what was said
pub sent-fits : (w : World) (from to : ℕ) (p : Said) → PacketFits w from p → PacketFits w (sender_of (packet_in from to p)) (says (packet_in from to p))
sent-fits w from to (CanvassOf named c) o = o
sent-fits w from to (RequestOf c named) o = tt
sent-fits w from to (VoteOf c given own) o = tt
sent-fits w from to (AnnounceOf t) o = tt
sent-fits w from to (AnswerOf t asked keep) o = at (is_announcement asked)
  where
    at : (b : Bool) → PacketFits w from (if b then AnnounceOf t else AnswerOf t asked keep)
    at true = tt
    at false = o
sent-fits w from to (ReportOf t p) o = o
sent-fits w from to (CommitOf t c) o = o
sent-fits w from to (BatchOf t start entries) o = o

pub record Fits (n : ℕ) (w : World) : Type 0 where
  pub grounded : IsGrounded (view_of w)
  pub agreed : IsAgreed (view_of w)
  pub low : (m : ℕ) → last (member w m).durable.log ≤ℤ candidate_of w m
  -- what a reign has besides its first log is of its own term
  pub parts : (r : Reign) → Contains w.reigns r → (xs : Log) → IsPrefixOf xs (reign_of w r.term) → last xs <ℤ r.term → IsPrefixOf xs r.first
  pub members : (m : ℕ) → MemberFits w m (member w m)
  pub sent : (s : Sent) → Contains w.sent s → PacketFits w (sender_of s.packet) (says s.packet)

-- reigns, their logs and the holdings grow
pub record Widens (w w' : World) : Type 0 where
  pub reign : (t : ℤ) → IsPrefixOf (reign_of w t) (reign_of w' t)
  pub holding : (h : Holding) → Contains w.holdings h → Contains w'.holdings h
  pub reigns : (r : Reign) → Contains w.reigns r → Contains w'.reigns r
  pub count : length w'.members ≡ length w.members
  pub written : (t : ℤ) → IsWritten (reign_of w' t)

pub Settled-widens : (w w' : World) (c c' : ℤ) (xs : Log) → Widens w w' → c ≤ℤ c' → IsSettled (view_of w) c xs → IsSettled (view_of w') c' xs
Settled-widens w w' c c' xs g up (inl e) = inl e
Settled-widens w w' c c' xs g up (inr s) =
    let done = s.3 in
    let q = done.2 in
    inr (
      s.0,
      s.1,
      (let a = s.2 in omega (arith, ints, a, up)),
      (done.0, done.1, (q.0, subst (λ n. is_quorum n (count_below n q.0) ≡ true) (sym g.count) q.1, λ k yes'. let h = q.2 k yes' in (h.0, g.holding _ h.1, h.2))),
      s.4,
    )

pub SnapsFit-widens : (w w' : World) (x : Member) → Widens w w' → SnapsFit w x → SnapsFit w' x
SnapsFit-widens w w' x g o s has = let z = o s has in (z.0, z.1, z.2, z.3, Settled-widens w w' x.durable.candidate x.durable.candidate z.0 g (omega (arith, ints)) z.4)

pub settled-rises : (w : World) (c c' : ℤ) (xs : Log) → c ≤ℤ c' → IsSettled (view_of w) c xs → IsSettled (view_of w) c' xs
settled-rises w c c' xs up (inl e) = inl e
settled-rises w c c' xs up (inr s) = inr (s.0, s.1, (let a = s.2 in omega (arith, ints, a, up)), s.3, s.4)

-- another log and candidate term, with the same entries
pub SnapsFit-logs : (w : World) (x y : Member) → y.durable.snapshots ≡ x.durable.snapshots → x.durable.candidate ≤ℤ y.durable.candidate
    → ((xs : Log) → IsSettled (view_of w) x.durable.candidate xs → Leads xs x.durable.log → Leads xs y.durable.log) → SnapsFit w x → SnapsFit w y
SnapsFit-logs w x y e up log o s has =
    let z = o s (subst (λ l. Contains l s) e has) in
    (z.0, log z.0 z.4 z.1, z.2, z.3, settled-rises w x.durable.candidate y.durable.candidate z.0 up z.4)

pub PacketFits-widens : (w w' : World) (from : ℕ) (p : Said) → Widens w w' → PacketFits w from p → PacketFits w' from p
PacketFits-widens w w' from (CanvassOf named c) g o = (let a = place-up 0 (reign_of w named.term) (reign_of w' named.term) (g.written named.term) (leads _ _ (g.reign named.term)) in omega (arith, a, o))
PacketFits-widens w w' from (RequestOf c named) g o = tt
PacketFits-widens w w' from (VoteOf c yes' own) g o = tt
PacketFits-widens w w' from (AnnounceOf t) g o = tt
PacketFits-widens w w' from (AnswerOf t asked keep) g o = (o.0, prefix-trans o.0 (reign_of w t) (reign_of w' t) o.1 (g.reign t), o.2, o.3, o.4, o.5, o.6)
PacketFits-widens w w' from (ReportOf t p) g o = (o.0, g.holding _ o.1, o.2)
PacketFits-widens w w' from (CommitOf t c) g o = (o.0, prefix-trans o.0 (reign_of w t) (reign_of w' t) o.1 (g.reign t), o.2, Settled-widens w w' t t o.0 g (omega (arith, ints)) o.3)
PacketFits-widens w w' from (BatchOf t start entries) g o = (o.0, o.1, prefix-trans (o.0 ++ entries) (reign_of w t) (reign_of w' t) o.2 (g.reign t))

pub Anchored-widens : (w w' : World) (xs : Log) → Widens w w' → IsAnchored (reign_of w) xs → IsAnchored (reign_of w') xs
Anchored-widens w w' xs g a ys p some = prefix-trans ys (reign_of w (last ys)) (reign_of w' (last ys)) (a ys p some) (g.reign (last ys))

-- what a step of the member m owes that puts x and adds these
pub record OwesFits (n : ℕ) (w : World) (m : ℕ) (x : Member) (rs : List Raise) (ps : List Sent) (gs : List Reign) : Type 0 where
  pub up : candidate_of w m ≤ℤ x.durable.candidate
  pub raises : (r : Raise) → Contains rs r → (r.voter ≡ m) × (candidate_of w m <ℤ r.term) × (r.term ≤ℤ x.durable.candidate) × (r.log ≡ (member w m).durable.log)
  pub grows : (t : ℤ) → IsPrefixOf (reign_of w t) (reign_of (put w m x rs ps gs) t)
  pub own_reign : (t : ℤ) → (reign_of (put w m x rs ps gs) t ≡ reign_of w t) ⊎ ((first : Log) × Contains (put w m x rs ps gs).reigns (record { term = t; member = m; first = first }))
  pub written : (t : ℤ) → IsWritten (reign_of (put w m x rs ps gs) t)
  pub rises : (t : ℤ) → Rises (reign_of (put w m x rs ps gs) t)
  pub top : (t : ℤ) → reign_of (put w m x rs ps gs) t ≢ [] → last (reign_of (put w m x rs ps gs) t) ≤ℤ t
  pub reign_anchored : (t : ℤ) → IsAnchored (reign_of (put w m x rs ps gs)) (reign_of (put w m x rs ps gs) t)
  pub reigned : (t : ℤ) → reign_of (put w m x rs ps gs) t ≢ [] → (r : Reign) × Contains (put w m x rs ps gs).reigns r × (r.term ≡ t)
  pub parts : (r : Reign) → Contains (put w m x rs ps gs).reigns r → (xs : Log) → IsPrefixOf xs (reign_of (put w m x rs ps gs) r.term) → last xs <ℤ r.term → IsPrefixOf xs r.first
  pub firsts : (r : Reign) → Contains gs r → IsPrefixOf r.first (reign_of (put w m x rs ps gs) r.term) × (last r.first <ℤ r.term) × IsAnchored (reign_of (put w m x rs ps gs)) r.first
  pub few : (r r' : Reign) → Contains gs r → Contains gs r' → r ≡ r'
  pub anchored : IsAnchored (reign_of (put w m x rs ps gs)) x.durable.log
  pub low : last x.durable.log ≤ℤ x.durable.candidate
  pub term : holds_at x.values.election.state ≡ true → x.values.election.term ≡ x.durable.candidate
  pub follows : holds_at x.values.election.state ≡ true → IsPrefixOf x.durable.log (reign_of (put w m x rs ps gs) x.values.election.term)
  pub keeps : (t : ℤ) (xs : Log) → IsOpen (view_of w) t xs → Holds (view_of w) m t xs → IsPrefixOf xs x.durable.log
  pub reigns : reigns_at x.values.election.state ≡ true → (reign_of (put w m x rs ps gs) x.values.election.term ≡ x.durable.log) × (first : Log) × Contains (put w m x rs ps gs).reigns (record { term = x.values.election.term; member = m; first = first })
  pub leading : is_leader_ready x.values.election.state ≡ true → Leading (put w m x rs ps gs) x
  pub commit : (x.values.rest.commit ≤ length x.durable.log) × IsSettled (view_of (put w m x rs ps gs)) x.durable.candidate (take x.values.rest.commit x.durable.log)
  pub snaps : SnapsFit (put w m x rs ps gs) x
  pub sent : (s : Sent) → Contains ps s → PacketFits (put w m x rs ps gs) (sender_of s.packet) (says s.packet)

held_by-cases : (m : ℕ) (x : Member) (h : Holding) → Contains (held_by m x) h → (holds_at x.values.election.state ≡ true) × (record { member = m; term = x.values.election.term; log = x.durable.log } ≡ h)
held_by-cases m x h has = at (holds_at x.values.election.state) refl has
  where
    at : (b : Bool) → holds_at x.values.election.state ≡ b → Contains (if b then record { member = m; term = x.values.election.term; log = x.durable.log } ∷ [] else []) h → (holds_at x.values.election.state ≡ true) × (record { member = m; term = x.values.election.term; log = x.durable.log } ≡ h)
    at true e c = (e, only_in (record { member = m; term = x.values.election.term; log = x.durable.log }) h c)
    at false e c = absurd (none_in h c)

pub held_by-holds : (m : ℕ) (x : Member) → holds_at x.values.election.state ≡ true → Contains (held_by m x) (record { member = m; term = x.values.election.term; log = x.durable.log })
held_by-holds m x e = rw e (0, omega arith, refl)

pub widens-put : (n : ℕ) (w : World) (m : ℕ) (x : Member) (rs : List Raise) (ps : List Sent) (gs : List Reign) → OwesFits n w m x rs ps gs → Widens w (put w m x rs ps gs)
widens-put n w m x rs ps gs o = record {
  reign = o.grows;
  holding = λ h has. Contains-append_left w.holdings (held_by m x) h has;
  reigns = λ r has. Contains-append_left w.reigns gs r has;
  count = length-set w.members m x;
  written = o.written;
}

pub move-put : (n : ℕ) (w : World) (m : ℕ) (x : Member) (rs : List Raise) (ps : List Sent) (gs : List Reign) → m < length w.members → OwesFits n w m x rs ps gs → IsMove m (view_of w) (view_of (put w m x rs ps gs))
move-put n w m x rs ps gs l o =
    let w' = put w m x rs ps gs in
    let at_m : member w' m ≡ x = member-put_same w m x rs ps gs l in
    record {
      members = length-set w.members m x;
      candidates = λ k ne. ap (λ (y : Member). y.durable.candidate) (member-put_other w m k x rs ps gs ne);
      logs = λ k ne. ap (λ (y : Member). y.durable.log) (member-put_other w m k x rs ps gs ne);
      rises = subst (λ (y : Member). candidate_of w m ≤ℤ y.durable.candidate) (sym at_m) o.up;
      raises = λ r has. elim (Contains-append_cases w.raises rs r has) [
        | inl old ↦ inl old
        | inr new ↦ inr (let z = o.raises r new in (z.0, z.1, subst (λ (y : Member). r.term ≤ℤ y.durable.candidate) (sym at_m) z.2, z.3))
      ];
      holdings = λ h has. elim (Contains-append_cases w.holdings (held_by m x) h has) [
        | inl old ↦ inl old
        | inr new ↦ inr (
            let c = held_by-cases m x h new in (
              sym (ap (λ (y : Holding). y.member) c.1),
              sym (ap (λ (y : Holding). y.term) c.1) ∙ o.term c.0 ∙ sym (ap (λ (y : Member). y.durable.candidate) at_m),
              sym (ap (λ (y : Holding). y.log) c.1) ∙ sym (ap (λ (y : Member). y.durable.log) at_m),
            ))
      ];
      one_more = λ r r' has has'. elim (Contains-append_cases w.reigns gs r has) [
        | inl old ↦ inl old
        | inr new ↦ elim (Contains-append_cases w.reigns gs r' has') [ inl old' ↦ inr (inl old') | inr new' ↦ inr (inr (o.few r r' new new')) ]
      ];
      keeps = λ t xs p h. subst (λ (y : Member). IsPrefixOf xs y.durable.log) (sym at_m) (o.keeps t xs p h);
    }

later_le : (c now : ℤ) (P : Type 0) → Later c now P → c ≤ℤ now
later_le c now P (inl a) = omega (arith, ints, a)
later_le c now P (inr e) = let f = e.0 in omega (arith, ints, f)

pub fits : (n : ℕ) (w : World) (m : ℕ) (x : Member) (rs : List Raise) (ps : List Sent) (gs : List Reign) → m < length w.members → Inv n w → Inv n (put w m x rs ps gs) → Fits n w → OwesFits n w m x rs ps gs → Fits n (put w m x rs ps gs)
fits n w m x rs ps gs l i i' f o =
    let w' = put w m x rs ps gs in
    let g : Widens w w' = widens-put n w m x rs ps gs o in
    let at_m : member w' m ≡ x = member-put_same w m x rs ps gs l in
    let old = f.grounded in
    let ground : IsGrounded (view_of w') = record {
      written = o.written;
      rises = o.rises;
      reigned = o.reigned;
      top = o.top;
      reign_anchored = o.reign_anchored;
      raise_low = λ r has. elim (Contains-append_cases w.raises rs r has) [
        | inl a ↦ old.raise_low r a
        | inr b ↦ (let z = o.raises r b in let e = ap last z.3 in let lo = f.low m in let up = z.1 in omega (arith, ints, e, lo, up))
      ];
      first = λ r has. elim (Contains-append_cases w.reigns gs r has) [ inl a ↦ prefix-trans r.first (reign_of w r.term) (reign_of w' r.term) (old.first r a) (o.grows r.term) | inr b ↦ (o.firsts r b).0 ];
      before = λ r has. elim (Contains-append_cases w.reigns gs r has) [ inl a ↦ old.before r a | inr b ↦ (o.firsts r b).1 ];
      anchored = λ j. elim (cases_eq j m) [
        | inl e ↦ subst (λ z. IsAnchored (reign_of w') (member w' z).durable.log) (sym e) (subst (λ (y : Member). IsAnchored (reign_of w') y.durable.log) (sym at_m) o.anchored)
        | inr ne ↦ subst (λ (y : Member). IsAnchored (reign_of w') y.durable.log) (sym (member-put_other w m j x rs ps gs ne)) (Anchored-widens w w' (member w j).durable.log g (old.anchored j))
      ];
      raise_anchored = λ r has. elim (Contains-append_cases w.raises rs r has) [
        | inl a ↦ Anchored-widens w w' r.log g (old.raise_anchored r a)
        | inr b ↦ subst (IsAnchored (reign_of w')) (sym (o.raises r b).3) (Anchored-widens w w' (member w m).durable.log g (old.anchored m))
      ];
      first_anchored = λ r has. elim (Contains-append_cases w.reigns gs r has) [ inl a ↦ Anchored-widens w w' r.first g (old.first_anchored r a) | inr b ↦ (o.firsts r b).2 ];
      below = λ r has. later_le _ _ _ (i'.raises r has).later;
      elected = λ r has.
          let e = (i'.reigns r has).elected in (
            e.0,
            subst (λ k. is_quorum k (count_below k e.0) ≡ true) (sym i'.count) e.1,
            λ k yes'.
                let v = e.2 k yes' in
                let named = (i'.raises _ v.1).named in
                let same : named.0 ≡ r.first = ap (λ (z : Raise). z.log) (i'.one_raise _ _ named.1 (i'.reigns r has).first refl refl) in
                (v.0, v.1, subst (λ z. better (last v.0) (place v.0) (last z) (place z) ≡ false) same named.2),
          );
      held = λ h has. elim (Contains-append_cases w.holdings (held_by m x) h has) [
        | inl a ↦ prefix-trans h.log (reign_of w h.term) (reign_of w' h.term) (old.held h a) (o.grows h.term)
        | inr b ↦ let c = held_by-cases m x h b in subst (λ (z : Holding). IsPrefixOf z.log (reign_of w' z.term)) c.1 (o.follows c.0)
      ];
    } in
    record {
      grounded = ground;
      agreed = stays m (view_of w) (view_of w') (move-put n w m x rs ps gs l o) f.grounded ground f.agreed;
      low = λ j. elim (cases_eq j m) [
        | inl e ↦ subst (λ z. last (member w' z).durable.log ≤ℤ candidate_of w' z) (sym e) (subst (λ (y : Member). last y.durable.log ≤ℤ y.durable.candidate) (sym at_m) o.low)
        | inr ne ↦ subst (λ (y : Member). last y.durable.log ≤ℤ y.durable.candidate) (sym (member-put_other w m j x rs ps gs ne)) (f.low j)
      ];
      parts = o.parts;
      members = λ j. elim (cases_eq j m) [
        | inl e ↦ subst (λ z. MemberFits w' z (member w' z)) (sym e) (subst (λ (y : Member). MemberFits w' m y) (sym at_m) (record {
          holds = λ h. (o.follows h, Contains-append_right w.holdings (held_by m x) _ (held_by-holds m x h));
          reigns = o.reigns;
          leading = o.leading;
          commit = o.commit;
          snaps = o.snaps;
        }))
        | inr ne ↦ subst (λ (y : Member). MemberFits w' j y) (sym (member-put_other w m j x rs ps gs ne)) (
            let y = member w j in
            let fy = f.members j in
            record {
              holds = λ h. let z = fy.holds h in (prefix-trans y.durable.log (reign_of w y.values.election.term) (reign_of w' y.values.election.term) z.0 (o.grows y.values.election.term), g.holding _ z.1);
              reigns = λ h. let z = fy.reigns h in (
                elim (o.own_reign y.values.election.term) [
                  | inl same ↦ same ∙ z.0
                  | inr mine ↦ absurd (ne (ap (λ (r : Reign). r.member) (i'.one_reign _ _ (g.reigns _ z.2) mine.1 refl)))
                ],
                z.1,
                g.reigns _ z.2,
              );
              leading = λ h. let z = fy.leading h in record { own = z.own; front = z.front; term = z.term; some = z.some; own_end = z.own_end; acked = λ k p e. let a = z.acked k p e in (a.0, g.holding _ a.1, a.2) };
              commit = (fy.commit.0, Settled-widens w w' y.durable.candidate y.durable.candidate _ g (omega (arith, ints)) fy.commit.1);
              snaps = SnapsFit-widens w w' y g fy.snaps;
            })
      ];
      sent = λ s has. elim (Contains-append_cases w.sent ps s has) [ inl a ↦ PacketFits-widens w w' (sender_of s.packet) (says s.packet) g (f.sent s a) | inr b ↦ o.sent s b ];
    }
