-- The few kinds of effect that the rows have, each with what it owes.
use Rattle.std.proofs.Common.{◌≡◌, ◌⊎◌, inl, inr, ℕ, zero, suc, ◌<◌, Bool, true, false, not, ◌&&◌, List, [], ◌∷◌, ◌++◌, length, refl, sym, ap, ◌∙◌, subst, arith, Some, None, Option, ℤ, ◌<ℤ◌, if◌then◌else◌}
use Rattle.std.specs.Prelude.{Contains, slice_index_or}
use Rattle.std.specs.Prelude.{take, nat_lt, nat_le, nat_eq, is_none, ◌||◌}
use Rattle.log_replication.specs.Replication.{past}
use Rattle.std.proofs.lemmas.Int.{ints}
use Rattle.std.proofs.lemmas.List.Elements.{All-contains, All-map, Contains-push, Contains-push_cases, Contains-append_cases}
use Rattle.entry_log.specs.Log.{Log, better, last, place}
use Rattle.entry_log.specs.Durable.{Durable}
use Rattle.election.specs.Rows.{is_balloting}
use Rattle.election.specs.declared.member.Election.{Election}
use Rattle.world.specs.World.{World, Raise, Reign, member, put, reigns_of, is_elected}
use Rattle.consensus_core.specs.Member.{Member, Sent, no_values, stopped, Cut, Whole, Before, After}
use Rattle.consensus_core.specs.Sendable.{sender_of}
use Rattle.world.specs.Said.{says, Said, AnnounceOf, CommitOf, BatchOf}
use Rattle.consensus_core.specs.declared.rest.Rest.{Rest}
use Rattle.world.proofs.LogRows.{sent_of, Append, CutTo, acts, Outcome, Change, Nothing, RaiseTo, others, to_others, one_to, batch_to, batches, announcements, commits}
use Rattle.consensus_core.specs.Fit.{has_term}
use Rattle.world.specs.Safe.{Raised, Elected, candidate_of}
use Rattle.world.proofs.Quorum.{shared}
use Rattle.entry_log.specs.Shape.{shape_of}
use Rattle.consensus_core.specs.Sends.{batch_count}
use Rattle.consensus_core.specs.OverLog.{entries_to}
use Rattle.world.proofs.Better.{better-self}
use Rattle.world.proofs.Kept.{member-put_same, Inv, MemberOk, Known, Balloting, RaiseOk, SentOk, ReignOk, GoesOn, Grows, keeps, grows-put, PacketOk-grows, MemberOk-grows, Elected-grows}

pub none_in : {X : Type 0} (x : X) → Contains [] x → ⊥
none_in x h = omega (arith, h.1)

pub only_in : {X : Type 0} (a x : X) → Contains (a ∷ []) x → a ≡ x
only_in a x h = elim (Contains-push_cases [] a x h) [ inl n ↦ absurd (none_in x n) | inr e ↦ e ]

pub only_one : {X : Type 0} (a x y : X) → Contains (a ∷ []) x → Contains (a ∷ []) y → x ≡ y
only_one a x y h k = sym (only_in a x h) ∙ only_in a y k

-- what holds of both branches holds of the choice
pub if-cases : {X : Type 0} (P : X → Type 0) (b : Bool) (x y : X) → (b ≡ true → P x) → (b ≡ false → P y) → P (if b then x else y)
if-cases P true x y f g = f refl
if-cases P false x y f g = g refl

-- a member of which nothing more is known than its disk
pub Known-stopped : (w : World) (n m : ℕ) (d : Durable) → ((k : ℕ) → d.voted ≡ Some k → (log : Log) × Raised w m d.candidate k log) → MemberOk w n m (stopped d)
Known-stopped w n m d v = record { known = λ up. absurd (cc); term = λ h. absurd (cc); voted = v; ballot = λ h. absurd (cc) }

-- nothing is raised, sent or begun
pub owes-stop : (n : ℕ) (w : World) (m : ℕ) → Inv n w → m < length w.members → Inv n (put w m (stopped (member w m).durable) [] [] [])
owes-stop n w m i l =
    let x = member w m in
    let on : GoesOn x (stopped x.durable) = inr (refl, (refl, λ h. refl)) in
    let w' = put w m (stopped x.durable) [] [] [] in
    let g : Grows w w' = grows-put w m (stopped x.durable) [] [] [] l on in
    let old : MemberOk w n m x = i.members m (subst (λ z. m < z) i.count l) in
    keeps n w m (stopped x.durable) [] [] [] i l (record {
      goes = on;
      mine = Known-stopped w' n m x.durable (λ k e. let r = old.voted k e in (r.0, g.raised _ _ _ _ r.1));
      raises = λ r h. absurd (none_in r h);
      few_raises = λ r r' h h'. absurd (none_in r h);
      sent = λ s h. absurd (none_in s h);
      reigns = λ r h. absurd (none_in r h);
      new_reigns = λ r r' h h'. absurd (none_in r h);
      few_reigns = λ r r' h h'. absurd (none_in r h);
    })

-- the member m with its disk as it is
abbrev pub with_values : Member → Election → Rest → Log → Member
with_values x e r log = record { up = true; values = record { election = e; rest = r }; durable = record x.durable { log = log } }

-- values that a row with no change may leave
pub record Quiet (n : ℕ) (w : World) (m : ℕ) (x : Member) (e : Election) (r : Rest) (log : Log) : Type 0 where
  pub id : e.id ≡ x.values.election.id
  pub members : e.members ≡ x.values.election.members
  pub candidate : e.candidate ≡ x.values.election.candidate
  pub voted : e.voted ≡ x.values.election.voted
  pub term : has_term e.state ≡ true → e.term ≡ x.durable.candidate
  pub ballot : is_balloting e.state ≡ true → (is_balloting x.values.election.state ≡ true) × Balloting w m (with_values x e r log)

no_ballot : (a b : Bool) → (b ≡ true → a ≡ true) → a ≡ false → b ≡ false
no_ballot a true h e = absurd (let t : a ≡ true = h refl in cc)
no_ballot a false h e = refl

pub no_reign : (m : ℕ) (before after : Election) (log : Log) → (is_elected after.state ≡ true → is_elected before.state ≡ true) → reigns_of m before after log ≡ []
no_reign m before after log h = cases (record { term = after.term; member = m; first = log } ∷ []) (is_elected before.state) (is_elected after.state) h
  where
    cases : (rs : List Reign) (a b : Bool) → (b ≡ true → a ≡ true) → (if not a && b then rs else []) ≡ []
    cases rs true b h = refl
    cases rs false true h = absurd (let t : false ≡ true = h refl in cc)
    cases rs false false h = refl

pub quiet-whole : (n : ℕ) (w : World) (m : ℕ) (e : Election) (r : Rest) (log : Log) (ps : List Sent) → Inv n w → m < length w.members → (member w m).up ≡ true → Quiet n w m (member w m) e r log → ((s : Sent) → Contains ps s → SentOk w s) → Inv n (put w m (with_values (member w m) e r log) [] ps [])
quiet-whole n w m e r log ps i l up q sent =
    let x = member w m in
    let y = with_values x e r log in
    let w' = put w m y [] ps [] in
    let old : MemberOk w n m x = i.members m (subst (λ z. m < z) i.count l) in
    let known : Known w n m x = old.known up in
    let on : GoesOn x y = inr (refl, (refl, no_ballot (is_balloting x.values.election.state) (is_balloting e.state) (λ h. (q.ballot h).0))) in
    let g : Grows w w' = grows-put w m y [] ps [] l on in
    keeps n w m y [] ps [] i l (record {
      goes = on;
      mine = MemberOk-grows w w' n m y g (record {
        known = λ h. record { id = q.id ∙ known.id; members = q.members ∙ known.members; candidate = q.candidate ∙ known.candidate; voted = q.voted ∙ known.voted };
        term = q.term;
        voted = old.voted;
        ballot = λ h. (q.ballot h).1;
      });
      raises = λ r h. absurd (none_in r h);
      few_raises = λ r r' h h'. absurd (none_in r h);
      sent = λ s h. PacketOk-grows w w' (sender_of s.packet) s.to (says s.packet) g (sent s h);
      reigns = λ r h. absurd (none_in r h);
      new_reigns = λ r r' h h'. absurd (none_in r h);
      few_reigns = λ r r' h h'. absurd (none_in r h);
    })

-- the log after a change that raises nothing
abbrev pub log_after : Log → Change → Log
log_after log Nothing = log
log_after log (RaiseTo c v) = log
log_after log (Append entries) = log ++ entries
log_after log (CutTo kept) = kept

abbrev pub IsNoRaise : Change → Type 0
IsNoRaise Nothing = Unit {0}
IsNoRaise (RaiseTo c v) = ⊥
IsNoRaise (Append entries) = Unit {0}
IsNoRaise (CutTo kept) = Unit {0}

-- a stop after a change of the log
pub owes-log : (n : ℕ) (w : World) (m : ℕ) (log : Log) → Inv n w → m < length w.members → Inv n (put w m (stopped (record (member w m).durable { log = log })) [] [] [])
owes-log n w m log i l =
    let x = member w m in
    let y = stopped (record x.durable { log = log }) in
    let on : GoesOn x y = inr (refl, (refl, λ h. refl)) in
    let w' = put w m y [] [] [] in
    let g : Grows w w' = grows-put w m y [] [] [] l on in
    let old : MemberOk w n m x = i.members m (subst (λ z. m < z) i.count l) in
    keeps n w m y [] [] [] i l (record {
      goes = on;
      mine = Known-stopped w' n m (record x.durable { log = log }) (λ k e. let r = old.voted k e in (r.0, g.raised _ _ _ _ r.1));
      raises = λ r h. absurd (none_in r h);
      few_raises = λ r r' h h'. absurd (none_in r h);
      sent = λ s h. absurd (none_in s h);
      reigns = λ r h. absurd (none_in r h);
      new_reigns = λ r r' h h'. absurd (none_in r h);
      few_reigns = λ r r' h h'. absurd (none_in r h);
    })

-- a row with no raise, cut or not
pub quiet : (n : ℕ) (w : World) (m : ℕ) (e : Election) (r : Rest) (c : Change) (ps : List Sent) (cut : Cut) → Inv n w → m < length w.members → (member w m).up ≡ true → IsNoRaise c → Quiet n w m (member w m) e r (log_after (member w m).durable.log c) → (is_elected e.state ≡ true → is_elected (member w m).values.election.state ≡ true) → ((s : Sent) → Contains ps s → SentOk w s) → Inv n (acts w m (member w m) (record { election = e; rest = r; change = c; packets = ps }) cut)
unfolding acts
quiet n w m e r (RaiseTo c v) ps cut i l up none q el sent = absurd none
quiet n w m e r c ps Before i l up none q el sent = owes-stop n w m i l
quiet n w m e r Nothing ps Whole i l up none q el sent =
    subst (λ gs. Inv n (put w m (with_values (member w m) e r (member w m).durable.log) [] ps gs)) (sym (no_reign m (member w m).values.election e (member w m).durable.log el)) (quiet-whole n w m e r (member w m).durable.log ps i l up q sent)
quiet n w m e r Nothing ps After i l up none q el sent = owes-stop n w m i l
quiet n w m e r (Append entries) ps Whole i l up none q el sent =
    subst (λ gs. Inv n (put w m (with_values (member w m) e r ((member w m).durable.log ++ entries)) [] ps gs)) (sym (no_reign m (member w m).values.election e (member w m).durable.log el)) (quiet-whole n w m e r ((member w m).durable.log ++ entries) ps i l up q sent)
quiet n w m e r (Append entries) ps After i l up none q el sent = owes-log n w m ((member w m).durable.log ++ entries) i l
quiet n w m e r (CutTo kept) ps Whole i l up none q el sent =
    subst (λ gs. Inv n (put w m (with_values (member w m) e r kept) [] ps gs)) (sym (no_reign m (member w m).values.election e (member w m).durable.log el)) (quiet-whole n w m e r kept ps i l up q sent)
quiet n w m e r (CutTo kept) ps After i l up none q el sent = owes-log n w m kept i l

-- a term in which the member was elected by these raises has no reign yet
pub no_other_reign : (n : ℕ) (w : World) (m : ℕ) (r : Reign) → Inv n w → is_balloting (member w m).values.election.state ≡ true → Elected w n (candidate_of w m) m → Contains w.reigns r → r.term ≡ candidate_of w m → ⊥
no_other_reign n w m r i bal elected has same =
    let o : ReignOk n w r = i.reigns r has in
    let both = shared n o.elected.0 elected.0 o.elected.1 elected.1 in
    let theirs = o.elected.2 both.0 both.1 in
    let ours = elected.2 both.0 both.2 in
    let is_me : r.member ≡ m = ap (λ (x : Raise). x.choice) (i.one_raise _ _ theirs.1 ours.1 refl same) in
    elim o.later [
      | inl lt ↦ let lt' : candidate_of w m <ℤ candidate_of w m = subst (λ z. candidate_of w m <ℤ candidate_of w z) is_me (subst (λ t. t <ℤ candidate_of w r.member) same lt) in omega (arith, ints, lt')
      | inr e ↦ let not_bal : is_balloting (member w m).values.election.state ≡ false = subst (λ z. is_balloting (member w z).values.election.state ≡ false) is_me e.1 in cc
    ]

reigns_of-wins : (m : ℕ) (before after : Election) (log : Log) → is_elected before.state ≡ false → is_elected after.state ≡ true → reigns_of m before after log ≡ record { term = after.term; member = m; first = log } ∷ []
reigns_of-wins m before after log e f = rw (e, f) refl

-- to be elected
pub wins : (n : ℕ) (w : World) (m : ℕ) (e : Election) (r : Rest) (cut : Cut) → Inv n w → m < length w.members → (member w m).up ≡ true → Quiet n w m (member w m) e r (member w m).durable.log → is_balloting (member w m).values.election.state ≡ true → is_elected (member w m).values.election.state ≡ false → is_elected e.state ≡ true → is_balloting e.state ≡ false → Elected w n (candidate_of w m) m → e.term ≡ candidate_of w m → Inv n (acts w m (member w m) (record { election = e; rest = r; change = Nothing; packets = [] }) cut)
unfolding acts
wins n w m e r Before i l up q bal was is not_bal elected term = owes-stop n w m i l
wins n w m e r After i l up q bal was is not_bal elected term = owes-stop n w m i l
wins n w m e r Whole i l up q bal was is not_bal elected term =
    let x = member w m in
    let y = with_values x e r x.durable.log in
    let reign : Reign = record { term = e.term; member = m; first = x.durable.log } in
    let gs : List Reign = reign ∷ [] in
    let w' = put w m y [] [] gs in
    let old : MemberOk w n m x = i.members m (subst (λ z. m < z) i.count l) in
    let known : Known w n m x = old.known up in
    let on : GoesOn x y = inr (refl, (refl, λ h. not_bal)) in
    let g : Grows w w' = grows-put w m y [] [] gs l on in
    let ballot : Balloting w m x = old.ballot bal in
    let at_m : member w' m ≡ y = member-put_same w m y [] [] gs l in
    let ok : ReignOk n w' reign = record {
      elected = subst (λ t. Elected w' n t m) (sym term) (Elected-grows w w' n (candidate_of w m) m g elected);
      first = subst (λ t. Raised w' m t m x.durable.log) (sym term) (g.raised _ _ _ _ ballot.own);
      later = inr (subst (λ (z : Member). e.term ≡ z.durable.candidate) (sym at_m) term, subst (λ (z : Member). is_balloting z.values.election.state ≡ false) (sym at_m) not_bal);
    } in
    subst (λ gs. Inv n (put w m y [] [] gs)) (sym (reigns_of-wins m x.values.election e x.durable.log was is))
    (keeps n w m y [] [] gs i l (record {
      goes = on;
      mine = MemberOk-grows w w' n m y g (record {
        known = λ h. record { id = q.id ∙ known.id; members = q.members ∙ known.members; candidate = q.candidate ∙ known.candidate; voted = q.voted ∙ known.voted };
        term = q.term;
        voted = old.voted;
        ballot = λ h. (q.ballot h).1;
      });
      raises = λ r h. absurd (none_in r h);
      few_raises = λ r r' h h'. absurd (none_in r h);
      sent = λ s h. absurd (none_in s h);
      reigns = λ r h. subst (ReignOk n w') (only_in reign r h) ok;
      new_reigns = λ r r' h h' t. no_other_reign n w m r' i bal elected h' (t ∙ sym (ap (λ (z : Reign). z.term) (only_in reign r h)) ∙ term);
      few_reigns = λ r r' h h'. only_one reign r r' h h';
    }))

-- the values after a raise of the candidate term
pub record Raising (n m : ℕ) (d : Durable) (e : Election) (c : ℤ) (v : Option ℕ) : Type 0 where
  pub id : e.id ≡ m
  pub members : e.members ≡ n
  pub candidate : e.candidate ≡ c
  pub voted : e.voted ≡ v
  pub term : has_term e.state ≡ true → e.term ≡ c
  pub not_elected : is_elected e.state ≡ false
  pub ballot : is_balloting e.state ≡ true → (v ≡ Some m) × ((k : ℕ) → slice_index_or e.votes k false ≡ true → k ≡ m)

abbrev pub disk_with : Durable → ℤ → Option ℕ → Durable
disk_with d c v = record d { candidate = c; voted = v }

-- a raise with nobody
lifts : (n : ℕ) (w : World) (m : ℕ) (up : Bool) (e : Election) (q : Rest) (c : ℤ) (ps : List Sent) → Inv n w → m < length w.members → candidate_of w m <ℤ c
    → (up ≡ true → Raising n m (member w m).durable e c None) → (up ≡ false → has_term e.state ≡ false) → is_balloting e.state ≡ false
    → ((s : Sent) → Contains ps s → SentOk w s)
    → Inv n (put w m (record { up = up; values = record { election = e; rest = q }; durable = disk_with (member w m).durable c None }) [] ps [])
lifts n w m up e q c ps i l above v down not_bal sent =
    let x = member w m in
    let y : Member = record { up = up; values = record { election = e; rest = q }; durable = disk_with x.durable c None } in
    let w' = put w m y [] ps [] in
    let on : GoesOn x y = inl above in
    let g : Grows w w' = grows-put w m y [] ps [] l on in
    keeps n w m y [] ps [] i l (record {
      goes = on;
      mine = record {
        known = λ h. record { id = (v h).id; members = (v h).members; candidate = (v h).candidate; voted = (v h).voted };
        term = λ h. term_at up refl h;
        voted = λ k h. absurd (cc);
        ballot = λ h. absurd (cc);
      };
      raises = λ r h. absurd (none_in r h);
      few_raises = λ r r' h h'. absurd (none_in r h);
      sent = λ s h. PacketOk-grows w w' (sender_of s.packet) s.to (says s.packet) g (sent s h);
      reigns = λ r h. absurd (none_in r h);
      new_reigns = λ r r' h h'. absurd (none_in r h);
      few_reigns = λ r r' h h'. absurd (none_in r h);
    })
  where
    term_at : (b : Bool) → up ≡ b → has_term e.state ≡ true → e.term ≡ c
    term_at true at h = (v at).term h
    term_at false at h = let z = down at in absurd (cc)

-- a raise with the member k, and with nothing that is sent yet
grants : (n : ℕ) (w : World) (m : ℕ) (up : Bool) (e : Election) (q : Rest) (c : ℤ) (k : ℕ) (ps : List Sent) → Inv n w → m < length w.members → candidate_of w m <ℤ c
    → (up ≡ true → Raising n m (member w m).durable e c (Some k)) → (up ≡ false → (has_term e.state ≡ false) × (is_balloting e.state ≡ false))
    → ((k ≡ m) ⊎ ((first : Log) × Raised w k c k first × (better (last (member w m).durable.log) (place (member w m).durable.log) (last first) (place first) ≡ false)))
    → ((s : Sent) → Contains ps s → SentOk (put w m (record { up = up; values = record { election = e; rest = q }; durable = disk_with (member w m).durable c (Some k) }) (record { voter = m; term = c; choice = k; log = (member w m).durable.log } ∷ []) ps []) s)
    → Inv n (put w m (record { up = up; values = record { election = e; rest = q }; durable = disk_with (member w m).durable c (Some k) }) (record { voter = m; term = c; choice = k; log = (member w m).durable.log } ∷ []) ps [])
grants n w m up e q c k ps i l above v down named sent =
    let x = member w m in
    let y : Member = record { up = up; values = record { election = e; rest = q }; durable = disk_with x.durable c (Some k) } in
    let r : Raise = record { voter = m; term = c; choice = k; log = x.durable.log } in
    let rs : List Raise = r ∷ [] in
    let w' = put w m y rs ps [] in
    let on : GoesOn x y = inl above in
    let g : Grows w w' = grows-put w m y rs ps [] l on in
    let at_m : member w' m ≡ y = member-put_same w m y rs ps [] l in
    let new : Raised w' m c k x.durable.log = Contains-push w.raises r in
    let ok : RaiseOk w' r = record {
      later = inr (ap (λ (z : Member). z.durable.candidate) (sym at_m), ap (λ (z : Member). z.durable.voted) at_m);
      named = elim named [
        | inl is_me ↦ (x.durable.log, subst (λ j. Raised w' j c k x.durable.log) (sym is_me) new, better-self (last x.durable.log) (place x.durable.log))
        | inr f ↦ (f.0, g.raised _ _ _ _ f.1, f.2)
      ];
    } in
    keeps n w m y rs ps [] i l (record {
      goes = on;
      mine = record {
        known = λ h. record { id = (v h).id; members = (v h).members; candidate = (v h).candidate; voted = (v h).voted };
        term = λ h. term_at up refl h;
        voted = λ j h. (x.durable.log, subst (λ z. Raised w' m c z x.durable.log) (some-eq k j h) new);
        ballot = λ h. ballot_at up refl h new;
      };
      raises = λ r' h. subst (λ z. (z.voter ≡ m) × (candidate_of w m <ℤ z.term) × RaiseOk w' z) (only_in r r' h) (refl, above, ok);
      few_raises = λ r1 r2 h h'. only_one r r1 r2 h h';
      sent = sent;
      reigns = λ r h. absurd (none_in r h);
      new_reigns = λ r r' h h'. absurd (none_in r h);
      few_reigns = λ r r' h h'. absurd (none_in r h);
    })
  where
    some-eq : (a b : ℕ) → Some a ≡ Some b → a ≡ b
    some-eq a b e = cc

    term_at : (b : Bool) → up ≡ b → has_term e.state ≡ true → e.term ≡ c
    term_at true at h = (v at).term h
    term_at false at h = let z = (down at).0 in absurd (cc)

    ballot_at : (b : Bool) → up ≡ b → is_balloting e.state ≡ true → Raised (put w m (record { up = up; values = record { election = e; rest = q }; durable = disk_with (member w m).durable c (Some k) }) (record { voter = m; term = c; choice = k; log = (member w m).durable.log } ∷ []) ps []) m c k (member w m).durable.log
        → Balloting (put w m (record { up = up; values = record { election = e; rest = q }; durable = disk_with (member w m).durable c (Some k) }) (record { voter = m; term = c; choice = k; log = (member w m).durable.log } ∷ []) ps []) m (record { up = up; values = record { election = e; rest = q }; durable = disk_with (member w m).durable c (Some k) })
    ballot_at true at h new =
        let b = (v at).ballot h in
        let is_me : k ≡ m = some-eq k m b.0 in
        let w' = put w m (record { up = up; values = record { election = e; rest = q }; durable = disk_with (member w m).durable c (Some k) }) (record { voter = m; term = c; choice = k; log = (member w m).durable.log } ∷ []) ps [] in
        let own : Raised w' m c m (member w m).durable.log = subst (λ z. Raised w' m c z (member w m).durable.log) is_me new in
        record { own = own; votes = λ j yes. ((member w m).durable.log, subst (λ z. Raised w' z c m (member w m).durable.log) (sym (b.1 j yes)) own) }
    ballot_at false at h new = let z = (down at).1 in absurd (cc)

-- whatever stop cuts the row, the invariant holds after it
abbrev pub Fine : ℕ → World → ℕ → Outcome → Type 0
Fine n w m o = (cut : Cut) → Inv n (acts w m (member w m) o cut)

no_reign_if : (m : ℕ) (before after : Election) (log : Log) → is_elected after.state ≡ false → reigns_of m before after log ≡ []
no_reign_if m before after log h = no_reign m before after log (λ e. absurd (cc))

pub raise_none : (n : ℕ) (w : World) (m : ℕ) (e : Election) (q : Rest) (c : ℤ) (ps : List Sent) → Inv n w → m < length w.members → candidate_of w m <ℤ c → Raising n m (member w m).durable e c None → is_balloting e.state ≡ false
    → ((s : Sent) → Contains ps s → SentOk w s) → Fine n w m (record { election = e; rest = q; change = RaiseTo c None; packets = ps })
unfolding acts
raise_none n w m e q c ps i l above v not_bal sent Whole =
    subst (λ gs. Inv n (put w m (record { up = true; values = record { election = e; rest = q }; durable = disk_with (member w m).durable c None }) [] ps gs)) (sym (no_reign_if m (member w m).values.election e (member w m).durable.log v.not_elected))
    (lifts n w m true e q c ps i l above (λ h. v) (λ h. absurd (cc)) not_bal sent)
raise_none n w m e q c ps i l above v not_bal sent Before = owes-stop n w m i l
raise_none n w m e q c ps i l above v not_bal sent After = lifts n w m false no_values.election no_values.rest c [] i l above (λ h. absurd (cc)) (λ h. refl) refl (λ s h. absurd (none_in s h))

-- a row that raises to vote for the member k; the votes and requests that it sends may cite the raise
pub raise_for : (n : ℕ) (w : World) (m : ℕ) (e : Election) (q : Rest) (c : ℤ) (k : ℕ) (ps : List Sent) → Inv n w → m < length w.members → candidate_of w m <ℤ c → Raising n m (member w m).durable e c (Some k)
    → ((k ≡ m) ⊎ ((first : Log) × Raised w k c k first × (better (last (member w m).durable.log) (place (member w m).durable.log) (last first) (place first) ≡ false)))
    → ((w' : World) → Raised w' m c k (member w m).durable.log → (s : Sent) → Contains ps s → SentOk w' s) → Fine n w m (record { election = e; rest = q; change = RaiseTo c (Some k); packets = ps })
unfolding acts
raise_for n w m e q c k ps i l above v named sent Whole =
    subst (λ gs. Inv n (put w m (record { up = true; values = record { election = e; rest = q }; durable = disk_with (member w m).durable c (Some k) }) (record { voter = m; term = c; choice = k; log = (member w m).durable.log } ∷ []) ps gs)) (sym (no_reign_if m (member w m).values.election e (member w m).durable.log v.not_elected))
    (grants n w m true e q c k ps i l above (λ h. v) (λ h. absurd (cc)) named
    (sent (put w m (record { up = true; values = record { election = e; rest = q }; durable = disk_with (member w m).durable c (Some k) }) (record { voter = m; term = c; choice = k; log = (member w m).durable.log } ∷ []) ps []) (Contains-push w.raises (record { voter = m; term = c; choice = k; log = (member w m).durable.log }))))
raise_for n w m e q c k ps i l above v named sent Before = owes-stop n w m i l
raise_for n w m e q c k ps i l above v named sent After =
    grants n w m false no_values.election no_values.rest c k [] i l above (λ h. absurd (cc)) (λ h. (refl, refl)) named (λ s h. absurd (none_in s h))

-- what holds of each packet to another member
pub to_others-all : (P : Sent → Type 0) (n m : ℕ) (p : Said) → ((k : ℕ) → P ((sent_of m k p))) → (s : Sent) → Contains (to_others n m p) s → P s
to_others-all P n m p each s h = All-contains P (to_others n m p) s (All-map P (λ k. (sent_of m k p)) (others n m) (λ k d below. each (slice_index_or (others n m) k d))) h

pub one_to-all : (P : Sent → Type 0) (e : Election) (to : ℕ) (p : Said) → P ((sent_of e.id to p)) → (s : Sent) → Contains (one_to e to p) s → P s
one_to-all P e to p h s has = subst P (only_in ((sent_of e.id to p)) s has) h

pub append-all : (P : Sent → Type 0) (xs ys : List Sent) → ((s : Sent) → Contains xs s → P s) → ((s : Sent) → Contains ys s → P s) → (s : Sent) → Contains (xs ++ ys) s → P s
append-all P xs ys f g s has = elim (Contains-append_cases xs ys s has) [ inl a ↦ f s a | inr b ↦ g s b ]

none-all : (P : Sent → Type 0) (s : Sent) → Contains [] s → P s
none-all P s has = absurd (none_in s has)

batch_to-all : (P : Sent → Type 0) (e : Election) (log : Log) (k : ℕ) (a : Option ℕ) → ((p : ℕ) → a ≡ Some p → P ((sent_of e.id k (BatchOf e.term p (take (batch_count (entries_to p log) (shape_of log)) (past 0 p log)))))) → (s : Sent) → Contains (batch_to e log k a) s → P s
batch_to-all P e log k None h = none-all P
batch_to-all P e log k (Some p) h = if-cases (λ l. (s : Sent) → Contains l s → P s) (nat_lt p (place log) && not (nat_eq k e.id)) _ _ (λ b. one_to-all P e k (BatchOf e.term p (take (batch_count (entries_to p log) (shape_of log)) (past 0 p log))) (h p refl)) (λ b. none-all P)

pub batches-all : (P : Sent → Type 0) (n : ℕ) (e : Election) (acked : List (Option ℕ)) (log : Log) → ((k p : ℕ) → slice_index_or acked k None ≡ Some p → P ((sent_of e.id k (BatchOf e.term p (take (batch_count (entries_to p log) (shape_of log)) (past 0 p log)))))) → (s : Sent) → Contains (batches n e acked log) s → P s
batches-all P zero e acked log h = none-all P
batches-all P (suc n) e acked log h = append-all P (batches n e acked log) (batch_to e log n (slice_index_or acked n None)) (batches-all P n e acked log h) (batch_to-all P e log n (slice_index_or acked n None) (h n))

pub announcements-all : (P : Sent → Type 0) (n : ℕ) (e : Election) (acked : List (Option ℕ)) → ((k : ℕ) → P ((sent_of e.id k (AnnounceOf e.term)))) → (s : Sent) → Contains (announcements n e acked) s → P s
announcements-all P zero e acked h = none-all P
announcements-all P (suc n) e acked h = append-all P (announcements n e acked) _ (announcements-all P n e acked h)
    (if-cases (λ l. (s : Sent) → Contains l s → P s) (is_none (slice_index_or acked n None) && not (nat_eq n e.id)) _ _ (λ b. one_to-all P e n (AnnounceOf e.term) (h n)) (λ b. none-all P))

pub commits-all : (P : Sent → Type 0) (e : Election) (r : Rest) (log : Log) (commit now : ℕ) → ((k : ℕ) → P ((sent_of e.id k (CommitOf e.term (place (take commit log)))))) → (s : Sent) → Contains (commits e r log commit now) s → P s
commits-all P e r log commit now h = if-cases (λ l. (s : Sent) → Contains l s → P s) (nat_lt r.commit commit || nat_le e.next now) _ _ (λ b. to_others-all P e.members e.id (CommitOf e.term (place (take commit log))) h) (λ b. none-all P)
