-- The core's rows give the same worlds as the rows over whole logs.
use Rattle.std.proofs.Common.{◌≡◌, ℕ, zero, suc, ◌+◌, Bool, true, false, not, ◌&&◌, ◌||◌, List, [], ◌∷◌, ◌++◌, length, map, take, replicate, max, Option, Some, None, refl, sym, ap, ◌∙◌, subst, arith, ℤ, if◌then◌else◌}
use Rattle.std.specs.Prelude.{slice_index_or, nat_le, nat_lt, nat_eq, unwrap_or, is_none}
use Rattle.std.proofs.lemmas.Bool.Decides.{nat_tests}
use Rattle.cl_base.specs.declared.entry.Entry.{Entry}
use Rattle.entry_log.specs.Log.{Log, name_of, place, same_term, end_after}
use Rattle.entry_log.specs.Places.{place_from-append}
use Rattle.entry_log.specs.Shape.{shape_of, end_of, ends_by, end_from-shape_of}
use Rattle.entry_log.specs.Quorum.{is_quorum}
use Rattle.entry_log.specs.declared.name.LogName.{LogName}
use Rattle.log_replication.specs.Commits.{quorum_position}
use Rattle.election.specs.declared.member.State.{State}
use Rattle.election.specs.declared.member.State.TheVariants.{LeaderInit, LeaderReady, FollowerLogReplication, FollowerReady}
use Rattle.election.specs.declared.member.Election.{Election}
use Rattle.election.specs.declared.event.ElectionEvent.TheVariants as E
use Rattle.election.specs.Rows.{Turn, row, enter_canvass}
use Rattle.sbe_events.specs.declared.event.Event.{Event}
use Rattle.sbe_events.specs.Spelling.{term_of, spelling_of}
use Rattle.sbe_consensus.specs.declared.packet.Packet.{Packet}
use Rattle.consensus_core.specs.declared.change.Change.TheVariants as changes
use Rattle.consensus_core.specs.declared.plan.Plan.TheVariants as plans
use Rattle.consensus_core.specs.declared.plan.Word.{Word}
use Rattle.consensus_core.specs.declared.plan.Word.TheVariants as words
use Rattle.consensus_core.specs.declared.rest.Rest.{Rest}
use Rattle.consensus_core.specs.declared.row.Row.{Row}
use Rattle.consensus_core.specs.declared.values.Values.{Values}
use Rattle.consensus_core.specs.Rows as rows
use Rattle.consensus_core.specs.Reign as reign
use Rattle.consensus_core.specs.Sendable as test
use Rattle.consensus_core.specs.Member.{Member, Sent, speaks, changed_log, row_of_packet, row_of_duty, row_of_client}
use Rattle.consensus_core.specs.Member as member
use Rattle.consensus_core.proofs.OverLog.{same_name_law, same_count_law}
use Rattle.world.specs.World as world
use Rattle.world.specs.World.{World, are_of}
use Rattle.world.specs.Said.{Said, CanvassOf, AnnounceOf, ReportOf, CommitOf, says}
use Rattle.world.proofs.LogRows.{Outcome, Append, to_others, one_to, outcome_of, only, nothing, receives, batch_to, batches, announcements, commits, commit_after, in_leader_init, in_leader_ready, sends_status, duty_at, does_duty, client_at, are_own, event-some}
use Rattle.world.specs.World.{term_entry, term_bytes}
use Rattle.world.proofs.Words.{Is, is_same, still, silent, if_both, Speaks, canvass_says, report_says, one_says, all_says, beat_says}
use Rattle.world.proofs.Turns.{turn_is, duty_asks, values_of, log_of}
use Rattle.world.proofs.Hearing.{append_changes, append_raises, append_log, packet_row_is}

-- whether a packet passes the test
abbrev pub passes : World → ℕ → Packet → Bool
passes w m p = test.is_sendable (world.member w m).values (shape_of (world.member w m).durable.log) p

pub packet_is : (w : World) (m : ℕ) (p : Packet) (now : ℕ) → Is w m (row_of_packet (world.member w m) p now) (receives (passes w m p) (world.member w m) (test.sender_of p) (says p) now)
packet_is w m p now =
    if_both w m (passes w m p) _ _ _ _ (λ h. packet_row_is w m p now h) (λ h. silent w m (values_of w m).election (values_of w m).rest)

-- P10's rows, where the log ends at p, or where the first entry ends at `end`
abbrev core_begins : Election → Rest → ℕ → ℕ → Row
core_begins e r p now =
    let x = reign.entry_of (reign.term_event e.term p now e.id) in
    let end = end_after p (length x.bytes) in
    if nat_lt 16777216 end
    then rows.only (enter_canvass e now) r
    else rows.outcome (record e { state = LeaderReady; next = now + 100 }) (reign.reigning r.commit end now) (changes.Append (x ∷ [])) (plans.All words.Announcement)

abbrev log_begins : Election → Rest → Entry → ℕ → ℕ → Outcome
log_begins e r x end now =
    if nat_lt 16777216 end
    then only (enter_canvass e now) r
    else record {
      election = record e { state = LeaderReady; next = now + 100 };
      rest = record r { own_end = end; acked = replicate 5 None; last_heard = replicate 5 now };
      change = Append (x ∷ []);
      packets = to_others e.members e.id (AnnounceOf e.term);
    }

begins_is : (w : World) (m : ℕ) (e : Election) (r : Rest) (p now : ℕ) → Is w m (core_begins e r p now) (log_begins e r (term_entry e.term p now e.id) (end_after p (length (term_entry e.term p now e.id).bytes)) now)
unfolding term_bytes
begins_is w m e r p now =
    let x = term_entry e.term p now e.id in
    let end = end_after p (length x.bytes) in
    let e' = record e { state = LeaderReady; next = now + 100 } in
    let r' = reign.reigning r.commit end now in
    let v : Values = record { election = e'; rest = r' } in
    if_both w m (nat_lt 16777216 end) _ _ _ _ (λ h. silent w m (enter_canvass e now) r)
    (λ h. is_same w m e' r' (changes.Append (x ∷ [])) (plans.All words.Announcement) (Append (x ∷ [])) (to_others e.members e.id (AnnounceOf e.term)) refl refl
    (all_says e.members words.Announcement v (log_of w m ++ x ∷ []) (AnnounceOf e.term) (λ to. refl)))

leader_init_is : (w : World) (m : ℕ) (e : Election) (r : Rest) (now : ℕ) → Is w m (reign.in_leader_init e r (shape_of (log_of w m)) now) (in_leader_init e r (log_of w m) now)
leader_init_is w m e r now =
    let log = log_of w m in
    let x = term_entry e.term (place log) now e.id in
    subst (λ p. Is w m (core_begins e r p now) (in_leader_init e r log now)) (sym (end_from-shape_of 0 log))
    (subst (λ z. Is w m (core_begins e r (place log) now) (log_begins e r x z now)) (sym (place_from-append 0 log (x ∷ []))) (begins_is w m e r (place log) now))

commit_same : (e : Election) (r : Rest) (log : Log) → reign.commit_after e r (shape_of log) ≡ commit_after e r log
commit_same e r log =
    let q = quorum_position (reign.reports e.members e.id (place log) r.acked) in
    (λ j. (λ (q : ℕ). if nat_le r.own_end q then max r.commit (ends_by q (shape_of log)) else r.commit) (quorum_position (reign.reports e.members e.id (end_from-shape_of 0 log j) r.acked)))
    ∙ ap (λ k. if nat_le r.own_end q then max r.commit k else r.commit) (same_count_law log q).0

-- P15's row over the log, with its commit
abbrev log_reigns : Election → Rest → Log → ℕ → Log → ℕ → Outcome
log_reigns e r log commit due now =
    let after = log ++ due in
    let beat = nat_le e.next now in
    if is_quorum e.members (reign.count_recent now e.members e r)
    then record {
      election = record e { next = (if beat then now + 100 else e.next) };
      rest = record r { commit = commit };
      change = Append due;
      packets = batches e.members e r.acked after ++ (commits e r after commit now ++ (if beat then announcements e.members e r.acked else []));
    }
    else only (enter_canvass e now) r

batch_next : (e : Election) (next k : ℕ) (log : Log) (acked : Option ℕ) → batch_to (record e { next = next }) log k acked ≡ batch_to e log k acked
batch_next e next k log None = refl
batch_next e next k log (Some p) = refl

batches_next : (n : ℕ) (e : Election) (next : ℕ) (acked : List (Option ℕ)) (log : Log) → batches n (record e { next = next }) acked log ≡ batches n e acked log
batches_next zero e next acked log = refl
batches_next (suc n) e next acked log = λ j. batches_next n e next acked log j ++ batch_next e next n log (slice_index_or acked n None) j

announcements_next : (n : ℕ) (e : Election) (next : ℕ) (acked : List (Option ℕ)) → announcements n (record e { next = next }) acked ≡ announcements n e acked
announcements_next zero e next acked = refl
announcements_next (suc n) e next acked = λ j. announcements_next n e next acked j ++ (if is_none (slice_index_or acked n None) && not (nat_eq n e.id) then one_to e n (AnnounceOf e.term) else [])

reigns_is : (w : World) (m : ℕ) (e : Election) (r : Rest) (commit : ℕ) (due : Log) (now : ℕ)
    → Is w m (if reign.has_quorum e r now then reign.beats_next e r commit due now else rows.only (enter_canvass e now) r) (log_reigns e r (log_of w m) commit due now)
reigns_is w m e r commit due now =
    let log = log_of w m in
    let beat = nat_le e.next now in
    let next : ℕ = if beat then now + 100 else e.next in
    let e' = record e { next = next } in
    let r' = record r { commit = commit } in
    let v : Values = record { election = e'; rest = r' } in
    let after = log ++ due in
    let told_all : List Sent = if nat_lt r.commit commit || beat then to_others e.members e.id (CommitOf e.term (place (take commit after))) else [] in
    let says_all : speaks (plans.Beat (nat_lt r.commit commit || beat) beat) v (changed_log (rows.appends due) log) ≡ batches e.members e r.acked after ++ (told_all ++ (if beat then announcements e.members e r.acked else [])) =
    ap (λ l. speaks (plans.Beat (nat_lt r.commit commit || beat) beat) v l) (append_log due log)
    ∙ beat_says v after (nat_lt r.commit commit || beat) beat
    ∙ (λ j. batches_next e.members e next r.acked after j ++ (told_all ++ (if beat then announcements_next e.members e next r.acked j else []))) in
    if_both w m (reign.has_quorum e r now) _ _ _ _
    (λ h. is_same w m e' r' (rows.appends due) (plans.Beat (nat_lt r.commit commit || beat) beat) (Append due) _ (append_changes (world.member w m).durable due) (append_raises m log due) says_all)
    (λ h. silent w m (enter_canvass e now) r)

-- the due entries that a member appends
abbrev pub due_of : Member → List Event → Log
due_of x due = reign.admitted (end_of (shape_of x.durable.log)) (reign.end_limit (shape_of x.durable.log) (reign.commit_after x.values.election x.values.rest (shape_of x.durable.log))) (map reign.entry_of due)

leader_ready_is : (w : World) (m : ℕ) (due : List Event) (now : ℕ)
    → Is w m (reign.in_leader_ready (values_of w m).election (values_of w m).rest (shape_of (log_of w m)) due now) (in_leader_ready (values_of w m).election (values_of w m).rest (log_of w m) (due_of (world.member w m) due) now)
leader_ready_is w m due now =
    let e = (values_of w m).election in
    let r = (values_of w m).rest in
    let log = log_of w m in
    subst (λ c. Is w m (reign.in_leader_ready e r (shape_of log) due now) (log_reigns e r log c (due_of (world.member w m) due) now)) (commit_same e r log)
    (reigns_is w m e r (reign.commit_after e r (shape_of log)) (due_of (world.member w m) due) now)

status_is : (w : World) (m : ℕ) (e : Election) (r : Rest) (word : Word) (s : Said) (now : ℕ) → ((next : ℕ) → Speaks word (record { election = record e { next = next }; rest = r }) (log_of w m) (unwrap_or e.leader 0) s)
    → Is w m (reign.sends_status e r (plans.One (unwrap_or e.leader 0) word) now) (sends_status e r s now)
status_is w m e r word s now h =
    if_both w m (nat_le e.deadline now) _ _ _ _ (λ a. silent w m (enter_canvass e now) r)
    (λ a. if_both w m (nat_le e.next now) _ _ _ _
    (λ b. still w m (record e { next = now + 100 }) r (plans.One (unwrap_or e.leader 0) word) (one_to e (unwrap_or e.leader 0) s)
    (one_says word (record { election = record e { next = now + 100 }; rest = r }) (log_of w m) (unwrap_or e.leader 0) s (h (now + 100))))
    (λ b. silent w m e r))

-- ---- what a leader may append is its own

and_true : (a b : Bool) → (a && b) ≡ true → (a ≡ true) × (b ≡ true)
and_true true b e = (refl, e)
and_true false b e = absurd (cc)

join : (a b : Bool) → a ≡ true → b ≡ true → (a && b) ≡ true
join a b p q = ap (λ z. z && b) p ∙ q

pub own_events : (t : ℤ) (es : List Event) → are_of t es ≡ true → are_own t (map reign.entry_of es) ≡ true
own_events t [] h = refl
own_events t (e ∷ es) h =
    let p = and_true (same_term (term_of e) t) (are_of t es) h in
    let some = event-some e in
    let bytes : nat_lt 0 (length (spelling_of e)) ≡ true = grind (arith, nat_tests, some) in
    join (same_term (term_of e) t) (nat_lt 0 (length (spelling_of e)) && are_own t (map reign.entry_of es)) p.0 (join (nat_lt 0 (length (spelling_of e))) (are_own t (map reign.entry_of es)) bytes (own_events t es p.1))

pub own_front : (t : ℤ) (k : ℕ) (xs : Log) → are_own t xs ≡ true → are_own t (take k xs) ≡ true
own_front t zero xs h = refl
own_front t (suc k) [] h = refl
own_front t (suc k) (x ∷ xs) h =
    let p = and_true (same_term x.term t) (nat_lt 0 (length x.bytes) && are_own t xs) h in
    let q = and_true (nat_lt 0 (length x.bytes)) (are_own t xs) p.1 in
    join (same_term x.term t) (nat_lt 0 (length x.bytes) && are_own t (take k xs)) p.0 (join (nat_lt 0 (length x.bytes)) (are_own t (take k xs)) q.0 (own_front t k xs q.1))

duty_at_is : (w : World) (m : ℕ) (s : State) (due : List Event) (now : ℕ) → are_of (values_of w m).election.term due ≡ true
    → Is w m (reign.duty_at s (values_of w m) (shape_of (log_of w m)) due now) (duty_at s (world.member w m) (due_of (world.member w m) due) now)
duty_at_is w m LeaderInit due now own = leader_init_is w m (values_of w m).election (values_of w m).rest now
duty_at_is w m LeaderReady due now own =
    let v = values_of w m in
    let d = due_of (world.member w m) due in
    let mine : are_own v.election.term d ≡ true = own_front v.election.term _ (map reign.entry_of due) (own_events v.election.term due own) in
    subst (λ b. Is w m (reign.in_leader_ready v.election v.rest (shape_of (log_of w m)) due now) (if b then in_leader_ready v.election v.rest (log_of w m) d now else nothing v.election v.rest)) (sym mine) (leader_ready_is w m due now)
duty_at_is w m FollowerReady due now own =
    let v = values_of w m in
    status_is w m v.election v.rest words.Report (ReportOf v.election.term (place (log_of w m))) now (λ next. report_says (record { election = record v.election { next = next }; rest = v.rest }) (log_of w m) (unwrap_or v.election.leader 0))
duty_at_is w m FollowerLogReplication due now own =
    let v = values_of w m in
    status_is w m v.election v.rest words.Canvass (CanvassOf (name_of (log_of w m)) v.election.candidate) now (λ next. canvass_says (record { election = record v.election { next = next }; rest = v.rest }) (log_of w m) (unwrap_or v.election.leader 0))
duty_at_is w m _ due now own =
    let v = values_of w m in
    let at : LogName → Turn = λ name. row v.election (E.Duty name) now in
    subst (λ name. Is w m (rows.row_of_turn (at name) v.rest) (outcome_of (at (name_of (log_of w m))) v.rest (name_of (log_of w m)))) (sym (same_name_law (log_of w m)))
    (turn_is w m v.rest (at (name_of (log_of w m))).election (at (name_of (log_of w m))).decision (duty_asks v.election.state v.election (name_of (log_of w m)) now))

pub duty_is : (w : World) (m : ℕ) (due : List Event) (now : ℕ) → are_of (world.member w m).values.election.term due ≡ true
    → Is w m (row_of_duty (world.member w m) due now) (does_duty (world.member w m) (due_of (world.member w m) due) now)
duty_is w m due now own = duty_at_is w m (values_of w m).election.state due now own

client_at_is : (w : World) (m : ℕ) (s : State) (event : Event) → are_of (values_of w m).election.term (event ∷ []) ≡ true
    → Is w m (if member.is_ready s then rows.outcome (values_of w m).election (values_of w m).rest (changes.Append (reign.entry_of event ∷ [])) plans.Silence else rows.nothing (values_of w m).election (values_of w m).rest)
    (client_at s (world.member w m) (reign.entry_of event ∷ []))
client_at_is w m LeaderReady event own =
    let v = values_of w m in
    let xs : Log = reign.entry_of event ∷ [] in
    let mine : are_own v.election.term xs ≡ true = own_events v.election.term (event ∷ []) own in
    subst (λ b. Is w m (rows.outcome v.election v.rest (changes.Append xs) plans.Silence) (if b then record { election = v.election; rest = v.rest; change = Append xs; packets = [] } else nothing v.election v.rest)) (sym mine)
    (is_same w m v.election v.rest (changes.Append xs) plans.Silence (Append xs) [] refl refl refl)
client_at_is w m _ event own = silent w m (values_of w m).election (values_of w m).rest

pub client_is : (w : World) (m : ℕ) (event : Event) → are_of (world.member w m).values.election.term (event ∷ []) ≡ true
    → Is w m (row_of_client (world.member w m) event) (client_at (world.member w m).values.election.state (world.member w m) (reign.entry_of event ∷ []))
client_is w m event own = client_at_is w m (values_of w m).election.state event own
