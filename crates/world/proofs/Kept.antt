-- The invariant, and what a step of one member owes to keep it.
use Rattle.std.proofs.Common.{◌≡◌, ◌⊎◌, inl, inr, ℕ, ◌<◌, Bool, true, false, List, length, refl, sym, ◌∙◌, subst, arith, get_or-set_same, get_or-set_other, length-set, Some, ℤ, ◌<ℤ◌, ◌≢◌}
use Rattle.std.specs.Prelude.{Contains, slice_index_or, if◌then◌else◌}
use Rattle.std.proofs.lemmas.Int.{ints}
use Rattle.std.proofs.lemmas.Bool.{cases_eq}
use Rattle.std.proofs.lemmas.List.Elements.{Contains-append_left, Contains-append_cases}
use Rattle.entry_log.specs.Log.{Log, name_of, better, last, place}
use Rattle.election.specs.Rows.{is_balloting}
use Rattle.world.specs.World.{World, Raise, Reign, member, put}
use Rattle.consensus_core.specs.Member.{Member, Sent, stopped}
use Rattle.consensus_core.specs.Sendable.{sender_of}
use Rattle.world.specs.Said.{says, Said, CanvassOf, RequestOf, VoteOf, AnnounceOf, AnswerOf, ReportOf, CommitOf, BatchOf}
use Rattle.entry_log.specs.Durable.{fresh}
use Rattle.consensus_core.specs.Fit.{has_term}
use Rattle.world.specs.Safe.{Raised, Elected, candidate_of}
use Rattle.consensus_core.specs.Rows.{is_announcement}
use Rattle.world.proofs.LogRows.{sent_of}

-- the member's own votes in its ballot
pub record Balloting (w : World) (m : ℕ) (x : Member) : Type 0 where
  pub own : Raised w m x.durable.candidate m x.durable.log
  pub votes : (k : ℕ) → slice_index_or x.values.election.votes k false ≡ true → (log : Log) × Raised w k x.durable.candidate m log

-- what a running member's values have to do with its disk
pub record Known (w : World) (n m : ℕ) (x : Member) : Type 0 where
  pub id : x.values.election.id ≡ m
  pub members : x.values.election.members ≡ n
  pub candidate : x.values.election.candidate ≡ x.durable.candidate
  pub voted : x.values.election.voted ≡ x.durable.voted

pub record MemberOk (w : World) (n m : ℕ) (x : Member) : Type 0 where
  pub known : x.up ≡ true → Known w n m x
  pub term : has_term x.values.election.state ≡ true → x.values.election.term ≡ x.durable.candidate
  pub voted : (k : ℕ) → x.durable.voted ≡ Some k → (log : Log) × Raised w m x.durable.candidate k log
  pub ballot : is_balloting x.values.election.state ≡ true → Balloting w m x

-- the candidate term is above this one, or it is this one and the fact holds
abbrev pub Later : ℤ → ℤ → Type 0 → Type 0
Later c now P = (c <ℤ now) ⊎ ((c ≡ now) × P)

pub record RaiseOk (w : World) (r : Raise) : Type 0 where
  pub later : Later r.term (candidate_of w r.voter) ((member w r.voter).durable.voted ≡ Some r.choice)
  pub named : (first : Log) × Raised w r.choice r.term r.choice first × (better (last r.log) (place r.log) (last first) (place first) ≡ false)

abbrev pub PacketOk : World → ℕ → ℕ → Said → Type 0
PacketOk w from to (CanvassOf named c) = Unit {0}
PacketOk w from to (RequestOf c named) = (log : Log) × Raised w from c from log × (named ≡ name_of log)
PacketOk w from to (VoteOf c true own) = (log : Log) × Raised w from c to log
PacketOk w from to (VoteOf c false own) = Unit {0}
PacketOk w from to (AnnounceOf t) = Unit {0}
PacketOk w from to (AnswerOf t asked keep) = Unit {0}
PacketOk w from to (ReportOf t p) = Unit {0}
PacketOk w from to (CommitOf t c) = Unit {0}
PacketOk w from to (BatchOf t start entries) = Unit {0}

abbrev pub SentOk : World → Sent → Type 0
SentOk w s = PacketOk w (sender_of s.packet) s.to (says s.packet)

-- what is sent says what was said
pub sent-ok : (w : World) (from to : ℕ) (p : Said) → PacketOk w from to p → SentOk w (sent_of from to p)
sent-ok w from to (CanvassOf named c) o = tt
sent-ok w from to (RequestOf c named) o = o
sent-ok w from to (VoteOf c true own) o = o
sent-ok w from to (VoteOf c false own) o = tt
sent-ok w from to (AnnounceOf t) o = tt
sent-ok w from to (AnswerOf t asked keep) o = at (is_announcement asked)
  where
    at : (b : Bool) → PacketOk w from to (if b then AnnounceOf t else AnswerOf t asked keep)
    at true = tt
    at false = tt
sent-ok w from to (ReportOf t p) o = tt
sent-ok w from to (CommitOf t c) o = tt
sent-ok w from to (BatchOf t start entries) o = tt

pub record ReignOk (n : ℕ) (w : World) (r : Reign) : Type 0 where
  pub elected : Elected w n r.term r.member
  pub first : Raised w r.member r.term r.member r.first
  pub later : Later r.term (candidate_of w r.member) (is_balloting (member w r.member).values.election.state ≡ false)

pub record Inv (n : ℕ) (w : World) : Type 0 where
  pub count : length w.members ≡ n
  pub members : (m : ℕ) → m < n → MemberOk w n m (member w m)
  pub raises : (r : Raise) → Contains w.raises r → RaiseOk w r
  pub voters : (r : Raise) → Contains w.raises r → r.voter < n
  pub one_raise : (r r' : Raise) → Contains w.raises r → Contains w.raises r' → r.voter ≡ r'.voter → r.term ≡ r'.term → r ≡ r'
  pub sent : (s : Sent) → Contains w.sent s → SentOk w s
  pub reigns : (r : Reign) → Contains w.reigns r → ReignOk n w r
  pub one_reign : (r r' : Reign) → Contains w.reigns r → Contains w.reigns r' → r.term ≡ r'.term → r ≡ r'

-- the raises stay, and the candidate terms rise
pub record Grows (w w' : World) : Type 0 where
  pub raised : (v : ℕ) (c : ℤ) (k : ℕ) (log : Log) → Raised w v c k log → Raised w' v c k log
  pub later : (v : ℕ) → Later (candidate_of w v) (candidate_of w' v) (((member w' v).durable.voted ≡ (member w v).durable.voted) × (is_balloting (member w v).values.election.state ≡ false → is_balloting (member w' v).values.election.state ≡ false))

-- a later moment
later-grows : (c now now' : ℤ) (P Q R : Type 0) → Later c now P → Later now now' Q → (P → Q → R) → Later c now' R
later-grows c now now' P Q R (inl lt) (inl up) join = inl (omega (arith, ints, lt, up))
later-grows c now now' P Q R (inl lt) (inr same) join = inl (subst (λ z. c <ℤ z) same.0 lt)
later-grows c now now' P Q R (inr same) (inl up) join = inl (subst (λ z. z <ℤ now') (sym same.0) up)
later-grows c now now' P Q R (inr e) (inr f) join = inr (e.0 ∙ f.0, join e.1 f.1)

pub RaiseOk-grows : (w w' : World) (r : Raise) → Grows w w' → RaiseOk w r → RaiseOk w' r
RaiseOk-grows w w' r g o = record {
  later = later-grows _ _ _ _ _ _ o.later (g.later r.voter) (λ p q. q.0 ∙ p);
  named = (o.named.0, g.raised _ _ _ _ o.named.1, o.named.2);
}

pub PacketOk-grows : (w w' : World) (from to : ℕ) (p : Said) → Grows w w' → PacketOk w from to p → PacketOk w' from to p
PacketOk-grows w w' from to (CanvassOf named c) g o = tt
PacketOk-grows w w' from to (RequestOf c named) g o = (o.0, g.raised _ _ _ _ o.1, o.2)
PacketOk-grows w w' from to (VoteOf c true own) g o = (o.0, g.raised _ _ _ _ o.1)
PacketOk-grows w w' from to (VoteOf c false own) g o = tt
PacketOk-grows w w' from to (AnnounceOf t) g o = tt
PacketOk-grows w w' from to (AnswerOf t asked keep) g o = tt
PacketOk-grows w w' from to (ReportOf t p) g o = tt
PacketOk-grows w w' from to (CommitOf t c) g o = tt
PacketOk-grows w w' from to (BatchOf t start entries) g o = tt

pub Elected-grows : (w w' : World) (n : ℕ) (c : ℤ) (k : ℕ) → Grows w w' → Elected w n c k → Elected w' n c k
Elected-grows w w' n c k g e = (e.0, e.1, λ v yes. let r = e.2 v yes in (r.0, g.raised _ _ _ _ r.1))

pub ReignOk-grows : (n : ℕ) (w w' : World) (r : Reign) → Grows w w' → ReignOk n w r → ReignOk n w' r
ReignOk-grows n w w' r g o = record {
  elected = Elected-grows w w' n r.term r.member g o.elected;
  first = g.raised _ _ _ _ o.first;
  later = later-grows _ _ _ _ _ _ o.later (g.later r.member) (λ p q. q.1 p);
}

pub Balloting-grows : (w w' : World) (m : ℕ) (x : Member) → Grows w w' → Balloting w m x → Balloting w' m x
Balloting-grows w w' m x g b = record { own = g.raised _ _ _ _ b.own; votes = λ k yes. let r = b.votes k yes in (r.0, g.raised _ _ _ _ r.1) }

pub MemberOk-grows : (w w' : World) (n m : ℕ) (x : Member) → Grows w w' → MemberOk w n m x → MemberOk w' n m x
MemberOk-grows w w' n m x g o = record {
  known = λ up. let k = o.known up in record { id = k.id; members = k.members; candidate = k.candidate; voted = k.voted };
  term = o.term;
  voted = λ k e. let r = o.voted k e in (r.0, g.raised _ _ _ _ r.1);
  ballot = λ b. Balloting-grows w w' m x g (o.ballot b);
}

pub member-put_same : (w : World) (m : ℕ) (x : Member) (rs : List Raise) (ps : List Sent) (gs : List Reign) → m < length w.members → member (put w m x rs ps gs) m ≡ x
member-put_same w m x rs ps gs l = get_or-set_same w.members m x (stopped fresh) l

pub member-put_other : (w : World) (m j : ℕ) (x : Member) (rs : List Raise) (ps : List Sent) (gs : List Reign) → j ≢ m → member (put w m x rs ps gs) j ≡ member w j
member-put_other w m j x rs ps gs ne = get_or-set_other w.members m j x (stopped fresh) ne

-- the values of a member go on to these
abbrev pub GoesOn : Member → Member → Type 0
GoesOn old x = Later old.durable.candidate x.durable.candidate ((x.durable.voted ≡ old.durable.voted) × (is_balloting old.values.election.state ≡ false → is_balloting x.values.election.state ≡ false))

pub grows-put : (w : World) (m : ℕ) (x : Member) (rs : List Raise) (ps : List Sent) (gs : List Reign) → m < length w.members → GoesOn (member w m) x → Grows w (put w m x rs ps gs)
grows-put w m x rs ps gs l on = record {
  raised = λ v c k log h. Contains-append_left w.raises rs _ h;
  later = λ v. elim (cases_eq v m) [
    | inl e ↦ subst (λ v. GoesOn (member w v) (member (put w m x rs ps gs) v)) (sym e) (subst (λ y. GoesOn (member w m) y) (sym (member-put_same w m x rs ps gs l)) on)
    | inr ne ↦ subst (λ y. GoesOn (member w v) y) (sym (member-put_other w m v x rs ps gs ne)) (inr (refl, (refl, λ h. h)))
  ];
}

-- what a step of the member m owes that puts x and adds these
pub record Owes (n : ℕ) (w : World) (m : ℕ) (x : Member) (rs : List Raise) (ps : List Sent) (gs : List Reign) : Type 0 where
  pub goes : GoesOn (member w m) x
  pub mine : MemberOk (put w m x rs ps gs) n m x
  pub raises : (r : Raise) → Contains rs r → (r.voter ≡ m) × (candidate_of w m <ℤ r.term) × RaiseOk (put w m x rs ps gs) r
  pub few_raises : (r r' : Raise) → Contains rs r → Contains rs r' → r ≡ r'
  pub sent : (s : Sent) → Contains ps s → SentOk (put w m x rs ps gs) s
  pub reigns : (r : Reign) → Contains gs r → ReignOk n (put w m x rs ps gs) r
  pub new_reigns : (r r' : Reign) → Contains gs r → Contains w.reigns r' → r'.term ≡ r.term → ⊥
  pub few_reigns : (r r' : Reign) → Contains gs r → Contains gs r' → r ≡ r'

too_late : (c now : ℤ) (P : Type 0) → Later c now P → now <ℤ c → ⊥
too_late c now P (inl a) b = omega (arith, ints, a, b)
too_late c now P (inr e) b = omega (arith, ints, b, e.0)

not_new : (n : ℕ) (w : World) (r r' : Raise) (m : ℕ) → Inv n w → r.voter ≡ m → candidate_of w m <ℤ r.term → Contains w.raises r' → r.voter ≡ r'.voter → r.term ≡ r'.term → ⊥
not_new n w r r' m i is above has same_voter same_term =
    let at : candidate_of w r'.voter <ℤ r'.term = subst (λ v. candidate_of w v <ℤ r'.term) (sym is ∙ same_voter) (subst (λ t. candidate_of w m <ℤ t) same_term above) in
    too_late _ _ _ (i.raises r' has).later at

pub keeps : (n : ℕ) (w : World) (m : ℕ) (x : Member) (rs : List Raise) (ps : List Sent) (gs : List Reign) → Inv n w → m < length w.members → Owes n w m x rs ps gs → Inv n (put w m x rs ps gs)
keeps n w m x rs ps gs i l o =
    let w' = put w m x rs ps gs in
    let g = grows-put w m x rs ps gs l o.goes in
    record {
      count = length-set w.members m x ∙ i.count;
      members = λ j below. elim (cases_eq j m) [
        | inl e ↦ subst (λ j. MemberOk w' n j (member w' j)) (sym e) (subst (λ y. MemberOk w' n m y) (sym (member-put_same w m x rs ps gs l)) o.mine)
        | inr ne ↦ subst (λ y. MemberOk w' n j y) (sym (member-put_other w m j x rs ps gs ne)) (MemberOk-grows w w' n j (member w j) g (i.members j below))
      ];
      raises = λ r h. elim (Contains-append_cases w.raises rs r h) [ inl a ↦ RaiseOk-grows w w' r g (i.raises r a) | inr b ↦ (o.raises r b).2 ];
      voters = λ r h. elim (Contains-append_cases w.raises rs r h) [ inl a ↦ i.voters r a | inr b ↦ subst (λ z. z < n) (sym (o.raises r b).0) (subst (λ z. m < z) i.count l) ];
      one_raise = λ r r' h h' v t. elim (Contains-append_cases w.raises rs r h) [
        | inl a ↦ elim (Contains-append_cases w.raises rs r' h') [
          | inl a' ↦ i.one_raise r r' a a' v t
          | inr b' ↦ absurd (not_new n w r' r m i (o.raises r' b').0 (o.raises r' b').1 a (sym v) (sym t))
        ]
        | inr b ↦ elim (Contains-append_cases w.raises rs r' h') [
          | inl a' ↦ absurd (not_new n w r r' m i (o.raises r b).0 (o.raises r b).1 a' v t)
          | inr b' ↦ o.few_raises r r' b b'
        ]
      ];
      sent = λ s h. elim (Contains-append_cases w.sent ps s h) [ inl a ↦ PacketOk-grows w w' (sender_of s.packet) s.to (says s.packet) g (i.sent s a) | inr b ↦ o.sent s b ];
      reigns = λ r h. elim (Contains-append_cases w.reigns gs r h) [ inl a ↦ ReignOk-grows n w w' r g (i.reigns r a) | inr b ↦ o.reigns r b ];
      one_reign = λ r r' h h' t. elim (Contains-append_cases w.reigns gs r h) [
        | inl a ↦ elim (Contains-append_cases w.reigns gs r' h') [ inl a' ↦ i.one_reign r r' a a' t | inr b' ↦ absurd (o.new_reigns r' r b' a t) ]
        | inr b ↦ elim (Contains-append_cases w.reigns gs r' h') [ inl a' ↦ absurd (o.new_reigns r r' b a' (sym t)) | inr b' ↦ o.few_reigns r r' b b' ]
      ];
    }
