-- Members say what they say to members, and know no leader but a member.
use Rattle.std.proofs.Common.{◌≡◌, ℕ, zero, suc, ◌<◌, ◌≤◌, ◌^◌, Bool, true, false, ◌&&◌, List, [], ◌∷◌, ◌++◌, length, Option, Some, None, refl, arith, ℤ, pos, if◌then◌else◌}
use Rattle.std.specs.Prelude.{⊤, not, nat_lt, nat_le, nat_eq, is_none, int_lt, int_le, fold, unsigned_abs, unwrap_or, slice_index_or}
use Rattle.std.specs.List.{AllByRecursion}
use Rattle.std.proofs.lemmas.Bool.Decides.{nat_tests}
use Rattle.entry_log.specs.Log.{Log, same_term, better, end_after}
use Rattle.entry_log.specs.Shape.{Shape, shape_of, end_of, ends_by, last_term_of}
use Rattle.entry_log.specs.declared.name.LogName.{LogName}
use Rattle.election.specs.declared.member.Election.{Election}
use Rattle.election.specs.declared.member.State.{State}
use Rattle.election.specs.declared.member.State.TheVariants.{Init, Canvass, Nominate, CandidateBallot, FollowerBallot, LeaderInit, LeaderReady, FollowerLogReplication, FollowerReady, Closed}
use Rattle.election.specs.declared.event.ElectionEvent.TheVariants as E
use Rattle.election.specs.Rows.{Turn, row, duty, nominates, later, vote_count, on_request, on_vote, is_running}
use Rattle.entry_log.specs.Quorum.{is_quorum}
use Rattle.std.specs.Int.{int_max}
use Rattle.sbe_events.specs.declared.event.Event.{Event}
use Rattle.sbe_consensus.specs.declared.packet.Packet.{Packet}
use Rattle.sbe_consensus.specs.declared.packet.Packet.TheVariants as P
use Rattle.consensus_core.specs.Member.{Sent, said, speaks}
use Rattle.consensus_core.specs.Rows.{plan_of, nothing, row_of_turn, is_in, same_name, name_of_shape, is_announcement, kept_count, follows, cuts, on_answer, on_new_term_at, on_new_term, on_canvass_at, on_report_at, on_batch_at, on_commit_at}
use Rattle.consensus_core.specs.Reign.{term_event, entry_of, has_quorum, sends_status, duty_at, does_duty}
use Rattle.consensus_core.specs.Sendable.{sender_of, is_other, passes, is_sendable, receives_row, receives}
use Rattle.consensus_core.specs.Sends.{to_others, batch_count, batch_to, batches, announcement_to, announcements, sends_of}
use Rattle.consensus_core.specs.declared.plan.Plan.{Plan}
use Rattle.consensus_core.specs.declared.plan.Plan.TheVariants as plans
use Rattle.consensus_core.specs.declared.plan.Word.{Word}
use Rattle.consensus_core.specs.declared.plan.Word.TheVariants as words
use Rattle.consensus_core.specs.declared.rest.Rest.{Rest}
use Rattle.consensus_core.specs.declared.row.Row.{Row}
use Rattle.consensus_core.specs.declared.sends.Send.{Send}
use Rattle.consensus_core.specs.declared.sends.Send.TheVariants.{Says, Hands}
use Rattle.consensus_core.specs.declared.values.Values.{Values}
use Rattle.world.proofs.Effects.{if-cases}
use Rattle.world.proofs.Rows.{and_true}
use Rattle.run_world.specs.Lawful.{IsLeader}

abbrev pub IsTo : ℕ → Plan → Type 0
IsTo n (plans.One to word) = to < n
IsTo n _ = ⊤

-- what a row says and whom it follows
abbrev pub IsTowards : ℕ → Row → Type 0
IsTowards n r = IsLeader n r.values.election.leader × IsTo n r.plan

abbrev TurnsTowards : ℕ → Turn → Type 0
TurnsTowards n t = IsLeader n t.election.leader × IsTo n (plan_of t.decision)

-- ---- the rows of a packet

requests : (n : ℕ) (e : Election) (from : ℕ) (c : ℤ) (named own : LogName) (now : ℕ) → from < n → IsLeader n e.leader → TurnsTowards n (on_request e from c named own now)
requests n e from c named own now l known =
    if-cases (TurnsTowards n) (int_lt e.candidate c) _ _
    (λ a. if-cases (TurnsTowards n) (better own.term own.place named.term named.place) _ _ (λ b. (tt, l)) (λ b. (tt, l)))
    (λ a. if-cases (TurnsTowards n) _ _ _ (λ b. (known, l)) (λ b. (known, l)))

votes : (n : ℕ) (e : Election) (from : ℕ) (c : ℤ) (granted : Bool) → IsLeader n e.leader → TurnsTowards n (on_vote e from c granted)
votes n e from c granted known = if-cases (TurnsTowards n) _ _ _ (λ b. (known, tt)) (λ b. (known, tt))

cut-towards : (n : ℕ) (e : Election) (r : Rest) (xs : Shape) (from : ℕ) (keep : LogName) (now : ℕ) → from < n → IsLeader n e.leader → IsTowards n (cuts e r xs from keep now)
cut-towards n e r xs from keep now l known = if-cases (IsTowards n) _ _ _ (λ b. (known, l)) (λ b. (known, l))

answered : (n : ℕ) (e : Election) (r : Rest) (xs : Shape) (from : ℕ) (asked keep : LogName) (now : ℕ) → from < n → IsLeader n e.leader → IsTowards n (on_answer e r xs from asked keep now)
answered n e r xs from asked keep now l known = if-cases (IsTowards n) (same_name asked (name_of_shape xs)) _ _ (λ b. cut-towards n e r xs from keep now l known) (λ b. (known, l))

new-term-at : (n : ℕ) (s : State) (e : Election) (r : Rest) (xs : Shape) (from : ℕ) (t : ℤ) (asked keep : LogName) (now : ℕ) → from < n → IsLeader n e.leader → IsTowards n (on_new_term_at s e r xs from t asked keep now)
new-term-at n FollowerReady e r xs from t asked keep now l known = (known, tt)
new-term-at n FollowerLogReplication e r xs from t asked keep now l known = if-cases (IsTowards n) (is_announcement asked) _ _ (λ b. (l, l)) (λ b. answered n e r xs from asked keep now l known)
new-term-at n LeaderInit e r xs from t asked keep now l known = (known, tt)
new-term-at n LeaderReady e r xs from t asked keep now l known = (known, tt)
new-term-at n _ e r xs from t asked keep now l known = (l, l)

new-term : (n : ℕ) (e : Election) (r : Rest) (xs : Shape) (from : ℕ) (t : ℤ) (asked keep : LogName) (now : ℕ) → from < n → IsLeader n e.leader → IsTowards n (on_new_term e r xs from t asked keep now)
new-term n e r xs from t asked keep now l known =
    if-cases (IsTowards n) (int_lt t e.candidate) _ _ (λ a. (known, tt))
    (λ a. if-cases (IsTowards n) (is_in e t) _ _ (λ b. new-term-at n e.state e r xs from t asked keep now l known) (λ b. (l, l)))

canvassed : (n : ℕ) (s : State) (e : Election) (r : Rest) (from : ℕ) (named : LogName) (c : ℤ) (now : ℕ) → from < n → IsLeader n e.leader → IsTowards n (on_canvass_at s e r from named c now)
canvassed n Canvass e r from named c now l known = (known, tt)
canvassed n LeaderReady e r from named c now l known = if-cases (IsTowards n) (int_lt e.term c) _ _ (λ b. (tt, tt)) (λ b. (known, l))
canvassed n _ e r from named c now l known = (known, tt)

reported : (n : ℕ) (s : State) (e : Election) (r : Rest) (from : ℕ) (t : ℤ) (p now : ℕ) → IsLeader n e.leader → IsTowards n (on_report_at s e r from t p now)
reported n LeaderReady e r from t p now known = if-cases (IsTowards n) (is_in e t) _ _ (λ b. (known, tt)) (λ b. (known, tt))
reported n _ e r from t p now known = (known, tt)

batched : (n : ℕ) (s : State) (e : Election) (r : Rest) (xs : Shape) (from : ℕ) (t : ℤ) (start : ℕ) (es : Log) (now : ℕ) → from < n → IsLeader n e.leader → IsTowards n (on_batch_at s e r xs from t start es now)
batched n FollowerReady e r xs from t start es now l known = if-cases (IsTowards n) (is_in e t) _ _ (λ b. (known, l)) (λ b. (known, tt))
batched n _ e r xs from t start es now l known = (known, tt)

committed : (n : ℕ) (s : State) (e : Election) (r : Rest) (xs : Shape) (t : ℤ) (c now : ℕ) → IsLeader n e.leader → IsTowards n (on_commit_at s e r xs t c now)
committed n FollowerReady e r xs t c now known = if-cases (IsTowards n) (is_in e t) _ _ (λ b. (known, tt)) (λ b. (known, tt))
committed n _ e r xs t c now known = (known, tt)

taken : (n : ℕ) (v : Values) (xs : Shape) (p : Packet) (now : ℕ) → sender_of p < n → IsLeader n v.election.leader → IsTowards n (receives_row v xs p now)
taken n v xs (P.Canvass log_term log_position candidate_term member) now l known = canvassed n v.election.state v.election v.rest (unsigned_abs member) (record { term = log_term; place = unsigned_abs log_position }) candidate_term now l known
taken n v xs (P.RequestVote log_term log_position candidate_term candidate) now l known =
    if-cases (TurnsTowards n) (is_running v.election.state) _ _
    (λ b. requests n v.election (unsigned_abs candidate) candidate_term (record { term = log_term; place = unsigned_abs log_position }) (name_of_shape xs) now l known) (λ b. (known, tt))
taken n v xs (P.Vote candidate_term log_term log_position candidate follower vote) now l known = votes n v.election (unsigned_abs follower) candidate_term (same_term vote (pos 1)) known
taken n v xs (P.NewTerm asked_term asked_position keep_term keep_position term leader) now l known =
    new-term n v.election v.rest xs (unsigned_abs leader) term (record { term = asked_term; place = unsigned_abs asked_position }) (record { term = keep_term; place = unsigned_abs keep_position }) now l known
taken n v xs (P.Append term position member) now l known = reported n v.election.state v.election v.rest (unsigned_abs member) term (unsigned_abs position) now known
taken n v xs (P.Commit term position leader) now l known = committed n v.election.state v.election v.rest xs term (unsigned_abs position) now known
taken n v xs (P.LogBatch term start_position leader entries) now l known = batched n v.election.state v.election v.rest xs (unsigned_abs leader) term (unsigned_abs start_position) entries now l known

pub packet-towards : (v : Values) (xs : Shape) (p : Packet) (now : ℕ) → IsLeader v.election.members v.election.leader → IsTowards v.election.members (receives v xs p now)
packet-towards v xs p now known =
    if-cases (IsTowards v.election.members) (is_sendable v xs p) _ _
    (λ b.
    let a = (and_true (nat_lt (sender_of p) v.election.members) (not (nat_eq (sender_of p) v.election.id)) ((and_true (is_other v.election (sender_of p)) (passes v xs p) b).0)).0 in
    taken v.election.members v xs p now (grind (arith, nat_tests, a)) known)
    (λ b. (known, tt))

-- ---- the rows of a duty

nominated : (n : ℕ) (e : Election) (most : ℤ) (now : ℕ) → IsLeader n e.leader → TurnsTowards n (nominates e most now)
nominated n e most now known = if-cases (TurnsTowards n) (int_le (pos (2 ^ 62)) most) _ _ (λ a. (tt, tt)) (λ a. (known, tt))

elects : (n : ℕ) (s : State) (e : Election) (own : LogName) (now : ℕ) → e.id < n → IsLeader n e.leader → TurnsTowards n (duty s e own now)
elects n Init e own now l known = (tt, tt)
elects n Canvass e own now l known =
    if-cases (TurnsTowards n) (nat_le e.deadline now) _ _ (λ a. if-cases (TurnsTowards n) _ _ _ (λ b. (known, tt)) (λ b. (known, tt)))
    (λ a. if-cases (TurnsTowards n) (nat_le e.next now) _ _ (λ b. (known, tt)) (λ b. (known, tt)))
elects n Nominate e own now l known = nominated n e (fold later (int_max e.candidate own.term) e.heard) now known
elects n CandidateBallot e own now l known =
    if-cases (TurnsTowards n) (is_quorum e.members (vote_count e.votes)) _ _ (λ a. (l, tt)) (λ a. if-cases (TurnsTowards n) (nat_le e.deadline now) _ _ (λ b. (tt, tt)) (λ b. (known, tt)))
elects n FollowerBallot e own now l known = if-cases (TurnsTowards n) (nat_le e.deadline now) _ _ (λ a. (tt, tt)) (λ a. (known, tt))
elects n LeaderInit e own now l known = (known, tt)
elects n LeaderReady e own now l known = (known, tt)
elects n FollowerLogReplication e own now l known = (known, tt)
elects n FollowerReady e own now l known = (known, tt)
elects n Closed e own now l known = (known, tt)

leader-in : (n : ℕ) (o : Option ℕ) → 0 < n → IsLeader n o → unwrap_or o 0 < n
leader-in n None l known = l
leader-in n (Some k) l known = known

status : (n : ℕ) (e : Election) (r : Rest) (word : Word) (now : ℕ) → 0 < n → IsLeader n e.leader → IsTowards n (sends_status e r (plans.One (unwrap_or e.leader 0) word) now)
status n e r word now l known =
    if-cases (IsTowards n) (nat_le e.deadline now) _ _ (λ a. (tt, tt))
    (λ a. if-cases (IsTowards n) (nat_le e.next now) _ _ (λ b. (known, leader-in n e.leader l known)) (λ b. (known, tt)))

at-duty : (n : ℕ) (s : State) (v : Values) (xs : Shape) (due : List Event) (now : ℕ) → v.election.id < n → IsLeader n v.election.leader → IsTowards n (duty_at s v xs due now)
at-duty n LeaderInit v xs due now l known = if-cases (IsTowards n) (nat_lt 16777216 (end_after (end_of xs) (length (entry_of (term_event v.election.term (end_of xs) now v.election.id)).bytes))) _ _ (λ a. (tt, tt)) (λ a. (known, tt))
at-duty n LeaderReady v xs due now l known = if-cases (IsTowards n) (has_quorum v.election v.rest now) _ _ (λ a. (known, tt)) (λ a. (tt, tt))
at-duty n FollowerReady v xs due now l known = status n v.election v.rest words.Report now (omega (arith, l)) known
at-duty n FollowerLogReplication v xs due now l known = status n v.election v.rest words.Canvass now (omega (arith, l)) known
at-duty n Init v xs due now l known = elects n v.election.state v.election (name_of_shape xs) now l known
at-duty n Canvass v xs due now l known = elects n v.election.state v.election (name_of_shape xs) now l known
at-duty n Nominate v xs due now l known = elects n v.election.state v.election (name_of_shape xs) now l known
at-duty n CandidateBallot v xs due now l known = elects n v.election.state v.election (name_of_shape xs) now l known
at-duty n FollowerBallot v xs due now l known = elects n v.election.state v.election (name_of_shape xs) now l known
at-duty n Closed v xs due now l known = elects n v.election.state v.election (name_of_shape xs) now l known

pub duty-towards : (n : ℕ) (v : Values) (xs : Shape) (due : List Event) (now : ℕ) → v.election.id < n → IsLeader n v.election.leader → IsTowards n (does_duty v xs due now)
duty-towards n v xs due now l known = at-duty n v.election.state v xs due now l known

-- ---- what is said

ToMembers : ℕ → List Send → Type 0
ToMembers n [] = ⊤
ToMembers n (Says to w ∷ ss) = (to < n) × ToMembers n ss
ToMembers n (Hands to start from count ∷ ss) = (to < n) × ToMembers n ss

append-to : (n : ℕ) (xs ys : List Send) → ToMembers n xs → ToMembers n ys → ToMembers n (xs ++ ys)
unfolding ToMembers
append-to n [] ys a b = b
append-to n (Says to w ∷ ss) ys a b = (a.0, append-to n ss ys a.1 b)
append-to n (Hands to start from count ∷ ss) ys a b = (a.0, append-to n ss ys a.1 b)

others-to : (n k m : ℕ) (w : Word) → k ≤ n → ToMembers n (to_others k m w)
unfolding ToMembers
others-to n zero m w h = tt
others-to n (suc k) m w h = append-to n (to_others k m w) (if nat_eq k m then [] else Says k w ∷ []) (others-to n k m w (omega (arith, h))) (at (nat_eq k m))
  where
    at : (b : Bool) → ToMembers n (if b then [] else Says k w ∷ [])
    at true = tt
    at false = (omega (arith, h), tt)

batch-to : (n k m : ℕ) (xs : Shape) (acked : Option ℕ) → k < n → ToMembers n (batch_to k m xs acked)
unfolding ToMembers
batch-to n k m xs None h = tt
batch-to n k m xs (Some p) h = at (nat_lt p (end_of xs) && not (nat_eq k m))
  where
    at : (b : Bool) → ToMembers n (if b then Hands k p (ends_by p xs) (batch_count (ends_by p xs) xs) ∷ [] else [])
    at true = (h, tt)
    at false = tt

batches-to : (n k m : ℕ) (acked : List (Option ℕ)) (xs : Shape) → k ≤ n → ToMembers n (batches k m acked xs)
unfolding ToMembers
batches-to n zero m acked xs h = tt
batches-to n (suc k) m acked xs h = append-to n (batches k m acked xs) (batch_to k m xs (slice_index_or acked k None)) (batches-to n k m acked xs (omega (arith, h))) (batch-to n k m xs (slice_index_or acked k None) (omega (arith, h)))

news-to : (n k m : ℕ) (acked : List (Option ℕ)) → k ≤ n → ToMembers n (announcements k m acked)
unfolding ToMembers
news-to n zero m acked h = tt
news-to n (suc k) m acked h = append-to n (announcements k m acked) (announcement_to k m (slice_index_or acked k None)) (news-to n k m acked (omega (arith, h))) (at (is_none (slice_index_or acked k None) && not (nat_eq k m)))
  where
    at : (b : Bool) → ToMembers n (if b then Says k words.Announcement ∷ [] else [])
    at true = (omega (arith, h), tt)
    at false = tt

optional-to : (n : ℕ) (b : Bool) (ss : List Send) → ToMembers n ss → ToMembers n (if b then ss else [])
unfolding ToMembers
optional-to n true ss h = h
optional-to n false ss h = tt

plan-to : (n : ℕ) (p : Plan) (v : Values) (xs : Shape) → v.election.members ≤ n → IsTo n p → ToMembers n (sends_of p v xs)
unfolding ToMembers
plan-to n plans.Silence v xs h t = tt
plan-to n (plans.All word) v xs h t = others-to n v.election.members v.election.id word h
plan-to n (plans.One to word) v xs h t = (t, tt)
plan-to n (plans.Beat commit announce) v xs h t =
    let e = v.election in
    let others = to_others e.members e.id words.Commit in
    let news = announcements e.members e.id v.rest.acked in
    append-to n (batches e.members e.id v.rest.acked xs) ((if commit then others else []) ++ (if announce then news else [])) (batches-to n e.members e.id v.rest.acked xs h)
    (append-to n (if commit then others else []) (if announce then news else []) (optional-to n commit others (others-to n e.members e.id words.Commit h)) (optional-to n announce news (news-to n e.members e.id v.rest.acked h)))

said-to : (n : ℕ) (ss : List Send) (v : Values) (log : Log) → ToMembers n ss → AllByRecursion (λ (s : Sent). s.to < n) (said ss v log)
unfolding ToMembers
said-to n [] v log h = tt
said-to n (Says to w ∷ ss) v log h = (h.0, said-to n ss v log h.1)
said-to n (Hands to start from count ∷ ss) v log h = (h.0, said-to n ss v log h.1)

pub speaks-to : (n : ℕ) (p : Plan) (v : Values) (log : Log) → v.election.members ≤ n → IsTo n p → AllByRecursion (λ (s : Sent). s.to < n) (speaks p v log)
speaks-to n p v log h t = said-to n (sends_of p v (shape_of log)) v log (plan-to n p v (shape_of log) h t)
