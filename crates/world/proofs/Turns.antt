-- The election's rows give the same worlds as over whole logs.
use Rattle.std.proofs.Common.{◌≡◌, ℕ, ◌+◌, ◌*◌, ◌^◌, Bool, true, false, not, ◌&&◌, replicate, set, Some, None, refl, ap, ◌∙◌, ℤ, pos, ◌+ℤ◌, if◌then◌else◌}
use Rattle.std.specs.Prelude.{nat_le, int_lt, int_le, fold}
use Rattle.std.specs.Int.{int_max}
use Rattle.std.specs.List.{list_any}
use Rattle.entry_log.specs.Log.{Log, name_of, better, same_term}
use Rattle.entry_log.specs.Quorum.{is_quorum}
use Rattle.entry_log.specs.declared.name.LogName.{LogName}
use Rattle.election.specs.declared.member.State.{State}
use Rattle.election.specs.declared.member.State.TheVariants.{Init, Canvass, Nominate, CandidateBallot, FollowerBallot, LeaderInit, LeaderReady, FollowerLogReplication, FollowerReady, Closed}
use Rattle.election.specs.declared.member.Election.{Election}
use Rattle.election.specs.declared.event.ElectionEvent.TheVariants as E
use Rattle.election.specs.declared.event.Decision.{Decision}
use Rattle.election.specs.declared.event.Decision.TheVariants as D
use Rattle.election.specs.Rows.{Turn, row, duty, stays, in_canvass, canvass_ends, nominates, in_candidate_ballot, returns_to_canvass, on_request, is_balloting, heard_count, heard_better, vote_count, later, is_for, is_running as is_awake}
use Rattle.consensus_core.specs.declared.change.Change.TheVariants as changes
use Rattle.consensus_core.specs.declared.plan.Plan.TheVariants as plans
use Rattle.consensus_core.specs.declared.plan.Word.TheVariants as words
use Rattle.consensus_core.specs.declared.rest.Rest.{Rest}
use Rattle.consensus_core.specs.declared.values.Values.{Values}
use Rattle.consensus_core.specs.Rows as rows
use Rattle.consensus_core.specs.Member.{speaks}
use Rattle.world.specs.World as world
use Rattle.world.specs.World.{World}
use Rattle.world.specs.Said.{CanvassOf, RequestOf, VoteOf}
use Rattle.world.proofs.LogRows.{RaiseTo, to_others, one_to, outcome_of}
use Rattle.world.proofs.Words.{Is, is_same, still, silent, canvass_says, request_says, vote_says, one_says, all_says}

-- the term of a request is the candidate term by then
abbrev IsAsked : Turn → Type 0
IsAsked t = (term : ℤ) → t.decision ≡ D.Request term → t.election.candidate ≡ term

pub turn_is : (w : World) (m : ℕ) (r : Rest) (e : Election) (d : Decision) → IsAsked (record { election = e; decision = d })
    → Is w m (rows.row_of_turn (record { election = e; decision = d }) r) (outcome_of (record { election = e; decision = d }) r (name_of (world.member w m).durable.log))
turn_is w m r e D.Nothing ask = silent w m e r
turn_is w m r e D.EnterCanvass ask = silent w m e r
turn_is w m r e D.Nominate ask = silent w m e r
turn_is w m r e D.CanvassAgain ask = silent w m e r
turn_is w m r e D.Lead ask = silent w m e r
turn_is w m r e D.CountVote ask = silent w m e r
turn_is w m r e D.Canvass ask =
    let v : Values = record { election = e; rest = r } in
    let log = (world.member w m).durable.log in
    still w m e r (plans.All words.Canvass) (to_others e.members e.id (CanvassOf (name_of log) e.candidate)) (all_says e.members words.Canvass v log (CanvassOf (name_of log) e.candidate) (canvass_says v log))
turn_is w m r e (D.Request term) ask =
    let v : Values = record { election = e; rest = r } in
    let log = (world.member w m).durable.log in
    let said' : speaks (plans.All words.RequestVote) v log ≡ to_others e.members e.id (RequestOf term (name_of log)) =
    all_says e.members words.RequestVote v log (RequestOf e.candidate (name_of log)) (request_says v log) ∙ ap (λ c. to_others e.members e.id (RequestOf c (name_of log))) (ask term refl) in
    is_same w m e r (changes.Raise term (Some e.id)) (plans.All words.RequestVote) (RaiseTo term (Some e.id)) (to_others e.members e.id (RequestOf term (name_of log))) refl refl said'
turn_is w m r e (D.Refuse to term) ask =
    let v : Values = record { election = e; rest = r } in
    let log = (world.member w m).durable.log in
    still w m e r (plans.One to (words.Vote to term false)) (one_to e to (VoteOf term false (name_of log))) (one_says (words.Vote to term false) v log to (VoteOf term false (name_of log)) (vote_says v log to term false))
turn_is w m r e (D.Repeat to term) ask =
    let v : Values = record { election = e; rest = r } in
    let log = (world.member w m).durable.log in
    still w m e r (plans.One to (words.Vote to term true)) (one_to e to (VoteOf term true (name_of log))) (one_says (words.Vote to term true) v log to (VoteOf term true (name_of log)) (vote_says v log to term true))
turn_is w m r e (D.RaiseAndRefuse to term) ask =
    let v : Values = record { election = e; rest = r } in
    let log = (world.member w m).durable.log in
    is_same w m e r (changes.Raise term None) (plans.One to (words.Vote to term false)) (RaiseTo term None) (one_to e to (VoteOf term false (name_of log))) refl refl
    (one_says (words.Vote to term false) v log to (VoteOf term false (name_of log)) (vote_says v log to term false))
turn_is w m r e (D.Grant to term) ask =
    let v : Values = record { election = e; rest = r } in
    let log = (world.member w m).durable.log in
    is_same w m e r (changes.Raise term (Some to)) (plans.One to (words.Vote to term true)) (RaiseTo term (Some to)) (one_to e to (VoteOf term true (name_of log))) refl refl
    (one_says (words.Vote to term true) v log to (VoteOf term true (name_of log)) (vote_says v log to term true))

pub choice : {X : Type 0} (P : X → Type 0) (b : Bool) (x y : X) → (b ≡ true → P x) → (b ≡ false → P y) → P (if b then x else y)
choice P true x y f g = f refl
choice P false x y f g = g refl

canvass_asks : (e : Election) (own : LogName) (now : ℕ) → IsAsked (in_canvass e own now)
canvass_asks e own now =
    choice IsAsked (nat_le e.deadline now) (canvass_ends e own now) (if nat_le e.next now then record { election = record e { next = now + 100 }; decision = D.Canvass } else stays e)
    (λ due. choice IsAsked (is_quorum e.members (1 + heard_count e.heard) && not (list_any (heard_better own) e.heard)) (record { election = record e { state = Nominate }; decision = D.Nominate }) (record { election = record e { deadline = now + 300 + 100 * e.id }; decision = D.CanvassAgain }) (λ h t k. cc) (λ h t k. cc))
    (λ early. choice IsAsked (nat_le e.next now) (record { election = record e { next = now + 100 }; decision = D.Canvass }) (stays e) (λ h t k. cc) (λ h t k. cc))

request_term : (a b : ℤ) → D.Request a ≡ D.Request b → a ≡ b
request_term a b k = cc

nominates_asks : (e : Election) (most : ℤ) (now : ℕ) → IsAsked (nominates e most now)
nominates_asks e most now = at (int_le (pos (2 ^ 62)) most)
  where
    at : (b : Bool) → IsAsked (if b then returns_to_canvass e now else record {
      election = record e { candidate = most +ℤ pos 1; voted = Some e.id; votes = set (replicate 5 false) e.id true; deadline = now + 500; state = CandidateBallot };
      decision = D.Request (most +ℤ pos 1);
    })
    at true t k = cc
    at false t k = request_term (most +ℤ pos 1) t k

ballot_asks : (e : Election) (now : ℕ) → IsAsked (in_candidate_ballot e now)
ballot_asks e now =
    choice IsAsked (is_quorum e.members (vote_count e.votes)) (record { election = record e { term = e.candidate; leader = Some e.id; state = LeaderInit }; decision = D.Lead }) (if nat_le e.deadline now then returns_to_canvass e now else stays e) (λ h t k. cc)
    (λ h. choice IsAsked (nat_le e.deadline now) (returns_to_canvass e now) (stays e) (λ h' t k. cc) (λ h' t k. cc))

pub duty_asks : (s : State) (e : Election) (own : LogName) (now : ℕ) → IsAsked (duty s e own now)
duty_asks Init e own now = λ t k. cc
duty_asks Canvass e own now = canvass_asks e own now
duty_asks Nominate e own now = nominates_asks e (fold later (int_max e.candidate own.term) e.heard) now
duty_asks CandidateBallot e own now = ballot_asks e now
duty_asks FollowerBallot e own now = choice IsAsked (nat_le e.deadline now) (returns_to_canvass e now) (stays e) (λ h t k. cc) (λ h t k. cc)
duty_asks LeaderInit e own now = λ t k. cc
duty_asks LeaderReady e own now = λ t k. cc
duty_asks FollowerLogReplication e own now = λ t k. cc
duty_asks FollowerReady e own now = λ t k. cc
duty_asks Closed e own now = λ t k. cc

pub request_asks : (e : Election) (from : ℕ) (c : ℤ) (name own : LogName) (now : ℕ) → IsAsked (row e (E.RequestVote from c name own) now)
request_asks e from c name own now =
    choice IsAsked (is_awake e.state) (on_request e from c name own now) (stays e)
    (λ up. choice IsAsked (int_lt e.candidate c) _ _
    (λ h. choice IsAsked (better own.term own.place name.term name.place) _ _ (λ h' t k. cc) (λ h' t k. cc))
    (λ h. choice IsAsked (int_le e.candidate c && is_for e.voted from) _ _ (λ h' t k. cc) (λ h' t k. cc)))
    (λ down t k. cc)

pub vote_asks : (e : Election) (from : ℕ) (c : ℤ) (given : Bool) (now : ℕ) → IsAsked (row e (E.Vote from c given) now)
vote_asks e from c given now = choice IsAsked (given && (is_balloting e.state && same_term c e.candidate)) (record { election = record e { votes = set e.votes from true }; decision = D.CountVote }) (stays e) (λ h t k. cc) (λ h t k. cc)

-- the values, the log and its shape of the member
abbrev pub values_of : World → ℕ → Values
values_of w m = (world.member w m).values

abbrev pub log_of : World → ℕ → Log
log_of w m = (world.member w m).durable.log
