-- A packet's row gives the same world as over whole logs.
use Rattle.std.proofs.Common.{◌≡◌, ℕ, suc, ◌+◌, ◌≤◌, Bool, true, false, not, ◌&&◌, [], ◌∷◌, ◌++◌, length, take, set, max, Some, None, refl, sym, ap, ◌∙◌, subst, arith, ℤ, pos, negsuc, if◌then◌else◌}
use Rattle.std.specs.Prelude.{nat_le, nat_lt, int_lt, int_le, unsigned_abs}
use Rattle.std.proofs.lemmas.List.{append-nil, take_all, length-map, length-take-le}
use Rattle.std.proofs.lemmas.Bool.Decides.{nat_tests}
use Rattle.entry_log.specs.Log.{Log, name_of, place, last, same_term}
use Rattle.entry_log.specs.Shape.{Shape, entry_shape, shape_of, last_term_of, terms_to, end_from-shape_of, last_term_from-shape_of}
use Rattle.entry_log.specs.Durable.{Durable}
use Rattle.entry_log.specs.declared.name.LogName.{LogName}
use Rattle.log_replication.specs.Replication.{kept, past, answer_term, answer_end}
use Rattle.election.specs.declared.member.State.{State}
use Rattle.election.specs.declared.member.State.TheVariants.{Canvass, LeaderInit, LeaderReady, FollowerLogReplication, FollowerReady}
use Rattle.election.specs.declared.member.Election.{Election}
use Rattle.election.specs.declared.event.ElectionEvent.TheVariants as E
use Rattle.election.specs.Rows.{Turn, row, enter_canvass}
use Rattle.sbe_consensus.specs.declared.packet.Packet.{Packet}
use Rattle.sbe_consensus.specs.declared.packet.Packet.TheVariants as P
use Rattle.consensus_core.specs.declared.change.Change.TheVariants as changes
use Rattle.consensus_core.specs.declared.plan.Plan.TheVariants as plans
use Rattle.consensus_core.specs.declared.plan.Word.TheVariants as words
use Rattle.consensus_core.specs.declared.rest.Rest.{Rest}
use Rattle.consensus_core.specs.declared.row.Row.{Row}
use Rattle.consensus_core.specs.declared.values.Values.{Values}
use Rattle.consensus_core.specs.Rows as rows
use Rattle.consensus_core.specs.Sendable as test
use Rattle.consensus_core.specs.OverLog.{entries_to}
use Rattle.consensus_core.specs.Member.{speaks, changed_log}
use Rattle.consensus_core.specs.Member as member
use Rattle.consensus_core.proofs.OverLog.{same_name_law, same_count_law, take-shape, kept_take, cut_log}
use Rattle.world.specs.World as world
use Rattle.world.specs.World.{World}
use Rattle.world.specs.Said.{Said, CanvassOf, AnnounceOf, AnswerOf, ReportOf, says, named}
use Rattle.world.proofs.LogRows.{Outcome, Nothing, RaiseTo, Append, CutTo, one_to, canvass_to, outcome_of, nothing, follows, cuts, on_answer, on_new_term_at, on_canvass_at, on_report_at, on_batch_at, on_commit_at, receives_row, changed}
use Rattle.world.proofs.Words.{Is, is_same, still, silent, if_both, canvass_says, answer_says, report_says, one_says}
use Rattle.world.proofs.Turns.{turn_is, choice, request_asks, vote_asks, values_of, log_of}

follows_is : (w : World) (m : ℕ) (e : Election) (r : Rest) (from : ℕ) (t : ℤ) (now : ℕ) → Is w m (rows.follows e r from t now) (follows e r (log_of w m) from t now)
follows_is w m e r from t now = at (int_lt e.candidate t)
  where
    with_it : Bool → Election
    with_it b = record e { candidate = t; voted = (if b then None else e.voted); term = t; leader = Some from; deadline = now + 1000; next = now + 100; state = FollowerLogReplication }

    says_it : (b : Bool) → speaks (plans.One from words.Canvass) (record { election = with_it b; rest = r }) (log_of w m) ≡ canvass_to (with_it b) from (log_of w m)
    says_it b = one_says words.Canvass (record { election = with_it b; rest = r }) (log_of w m) from (CanvassOf (name_of (log_of w m)) t) (canvass_says (record { election = with_it b; rest = r }) (log_of w m) from)

    at : (b : Bool) → Is w m (rows.outcome (with_it b) r (if b then changes.Raise t None else changes.Nothing) (plans.One from words.Canvass)) (record { election = with_it b; rest = r; change = (if b then RaiseTo t None else Nothing); packets = canvass_to (with_it b) from (log_of w m) })
    at true = is_same w m (with_it true) r (changes.Raise t None) (plans.One from words.Canvass) (RaiseTo t None) _ refl refl (says_it true)
    at false = still w m (with_it false) r (plans.One from words.Canvass) _ (says_it false)

-- a cut leaves the disk with what is kept
cut_changes : (d : Durable) (n : ℕ) (left : Log) → take n d.log ≡ left → member.changed (rows.cut_to n (shape_of d.log)) d ≡ changed d (CutTo left)
cut_changes d n left e =
    choice (λ c. member.changed c d ≡ record d { log = left }) (nat_lt n (length (shape_of d.log))) (changes.Cut n) changes.Nothing
    (λ h. λ j. record d { log = e j })
    (λ h. let count : length (shape_of d.log) ≡ length d.log = length-map d.log entry_shape in
    let whole : d.log ≡ left = sym (take_all n d.log (grind (arith, nat_tests, h, count))) ∙ e in
    λ j. record d { log = whole j })

cut_raises : (m : ℕ) (log : Log) (b : Bool) (n : ℕ) → world.raises_of m log (if b then changes.Cut n else changes.Nothing) ≡ []
cut_raises m log true n = refl
cut_raises m log false n = refl

terms_short : (u : ℤ) (xs : Shape) → length (terms_to u xs) ≤ length xs
terms_short u [] = omega arith
terms_short u (x ∷ xs) = at (int_le x.term u) (terms_short u xs)
  where
    at : (b : Bool) → length (terms_to u xs) ≤ length xs → length (if b then x ∷ terms_to u xs else []) ≤ suc (length xs)
    at true h = omega (arith, h)
    at false h = omega arith

-- P12's row, where the kept entries match or don't
abbrev core_cut : Election → Rest → Shape → ℕ → ℕ → ℕ → Bool → Row
core_cut e r xs n from now b =
    if b
    then rows.outcome (record e { deadline = now + 1000; state = FollowerReady }) r (rows.cut_to n xs) (plans.One from words.Report)
    else rows.outcome (record e { deadline = now + 1000 }) r (rows.cut_to n xs) (plans.One from words.Canvass)

abbrev log_cut : Election → Rest → Log → ℕ → ℕ → Bool → Outcome
log_cut e r left from now b =
    if b
    then record { election = record e { deadline = now + 1000; state = FollowerReady }; rest = r; change = CutTo left; packets = one_to e from (ReportOf e.term (place left)) }
    else record { election = record e { deadline = now + 1000 }; rest = r; change = CutTo left; packets = canvass_to e from left }

cut_is : (w : World) (m : ℕ) (e : Election) (r : Rest) (n : ℕ) (left : Log) (from now : ℕ) (b : Bool) → take n (log_of w m) ≡ left → Is w m (core_cut e r (shape_of (log_of w m)) n from now b) (log_cut e r left from now b)
cut_is w m e r n left from now true k =
    let log = log_of w m in
    let e' = record e { deadline = now + 1000; state = FollowerReady } in
    let v : Values = record { election = e'; rest = r } in
    is_same w m e' r (rows.cut_to n (shape_of log)) (plans.One from words.Report) (CutTo left) (one_to e from (ReportOf e.term (place left)))
    (cut_changes (world.member w m).durable n left k) (cut_raises m log (nat_lt n (length (shape_of log))) n)
    (ap (λ l. speaks (plans.One from words.Report) v l) (cut_log n log ∙ k) ∙ one_says words.Report v left from (ReportOf e.term (place left)) (report_says v left from))
cut_is w m e r n left from now false k =
    let log = log_of w m in
    let e' = record e { deadline = now + 1000 } in
    let v : Values = record { election = e'; rest = r } in
    is_same w m e' r (rows.cut_to n (shape_of log)) (plans.One from words.Canvass) (CutTo left) (canvass_to e from left)
    (cut_changes (world.member w m).durable n left k) (cut_raises m log (nat_lt n (length (shape_of log))) n)
    (ap (λ l. speaks (plans.One from words.Canvass) v l) (cut_log n log ∙ k) ∙ one_says words.Canvass v left from (CanvassOf (name_of left) e.candidate) (canvass_says v left from))

-- P12, where it doesn't cut below the commit
cuts_is : (w : World) (m : ℕ) (e : Election) (r : Rest) (from : ℕ) (keep : LogName) (now : ℕ) → nat_lt (rows.kept_count keep.term keep.place (shape_of (log_of w m))) r.commit ≡ false
    → Is w m (rows.cuts e r (shape_of (log_of w m)) from keep now) (cuts e r (log_of w m) from keep now)
cuts_is w m e r from keep now enough =
    let log = log_of w m in
    let xs = shape_of log in
    let n = rows.kept_count keep.term keep.place xs in
    let left = kept keep.term keep.place log in
    let kept_is : take n log ≡ left = kept_take 0 keep.term keep.place log in
    let term_is : last_term_of (take n xs) ≡ last left = ap last_term_of (take-shape n log) ∙ last_term_from-shape_of (negsuc 0) (take n log) ∙ ap last kept_is in
    let short = terms_short keep.term xs in
    let size : length xs ≡ length log = length-map log entry_shape in
    let within : n ≤ length log = omega (arith, short, size) in
    let count_is : length left ≡ n = ap length (sym kept_is) ∙ length-take-le n log within in
    let test_is : nat_lt (length left) r.commit ≡ false = ap (λ k. nat_lt k r.commit) count_is ∙ enough in
    subst (λ b. Is w m (core_cut e r xs n from now (same_term (last_term_of (take n xs)) keep.term)) (if b then nothing e r else log_cut e r left from now (same_term (last left) keep.term))) (sym test_is)
    (subst (λ t. Is w m (core_cut e r xs n from now (same_term t keep.term)) (log_cut e r left from now (same_term (last left) keep.term))) (sym term_is)
    (cut_is w m e r n left from now (same_term (last left) keep.term) kept_is))

answer_is : (w : World) (m : ℕ) (e : Election) (r : Rest) (from : ℕ) (asked keep : LogName) (now : ℕ)
    → (rows.same_name asked (rows.name_of_shape (shape_of (log_of w m))) ≡ true → nat_lt (rows.kept_count keep.term keep.place (shape_of (log_of w m))) r.commit ≡ false)
    → Is w m (rows.on_answer e r (shape_of (log_of w m)) from asked keep now) (on_answer e r (log_of w m) from asked keep now)
answer_is w m e r from asked keep now ok =
    let log = log_of w m in
    let xs = shape_of log in
    let e' = record e { deadline = now + 1000 } in
    let v : Values = record { election = e'; rest = r } in
    let other : Outcome = record { election = e'; rest = r; change = Nothing; packets = canvass_to e from log } in
    subst (λ z. Is w m (rows.on_answer e r xs from asked keep now) (if rows.same_name asked z then cuts e r log from keep now else other)) (same_name_law log)
    (if_both w m (rows.same_name asked (rows.name_of_shape xs)) (rows.cuts e r xs from keep now) (rows.outcome e' r changes.Nothing (plans.One from words.Canvass)) (cuts e r log from keep now) other
    (λ h. cuts_is w m e r from keep now (ok h))
    (λ h. still w m e' r (plans.One from words.Canvass) (canvass_to e from log) (one_says words.Canvass v log from (CanvassOf (name_of log) e.candidate) (canvass_says v log from))))

-- whether an answer cuts what is committed
abbrev Cuts : World → ℕ → State → Election → Rest → ℤ → LogName → LogName → Type 0
Cuts w m s e r t asked keep = s ≡ FollowerLogReplication → rows.is_in e t ≡ true → rows.same_name asked (rows.name_of_shape (shape_of (log_of w m))) ≡ true
    → nat_lt (rows.kept_count keep.term keep.place (shape_of (log_of w m))) r.commit ≡ false

new_term_at_is : (w : World) (m : ℕ) (s : State) (e : Election) (r : Rest) (from : ℕ) (t : ℤ) (asked keep : LogName) (b : Bool) (now : ℕ) → rows.is_announcement asked ≡ b → Cuts w m s e r t asked keep
    → Is w m (if rows.is_in e t then rows.on_new_term_at s e r (shape_of (log_of w m)) from t asked keep now else rows.follows e r from t now)
    (on_new_term_at s e r (log_of w m) from t (if b then None else Some (asked, keep)) now)
new_term_at_is w m FollowerReady e r from t asked keep b now ann ok =
    if_both w m (rows.is_in e t) _ _ _ _ (λ h. silent w m (record e { deadline = now + 1000 }) r) (λ h. follows_is w m e r from t now)
new_term_at_is w m LeaderInit e r from t asked keep b now ann ok = if_both w m (rows.is_in e t) _ _ _ _ (λ h. silent w m e r) (λ h. follows_is w m e r from t now)
new_term_at_is w m LeaderReady e r from t asked keep b now ann ok = if_both w m (rows.is_in e t) _ _ _ _ (λ h. silent w m e r) (λ h. follows_is w m e r from t now)
new_term_at_is w m FollowerLogReplication e r from t asked keep true now ann ok =
    let xs = shape_of (log_of w m) in
    choice (λ row. Is w m row (follows e r (log_of w m) from t now)) (rows.is_in e t) (rows.on_new_term_at FollowerLogReplication e r xs from t asked keep now) (rows.follows e r from t now)
    (λ h. subst (λ z. Is w m (if z then rows.follows e r from t now else rows.on_answer e r xs from asked keep now) (follows e r (log_of w m) from t now)) (sym ann) (follows_is w m e r from t now))
    (λ h. follows_is w m e r from t now)
new_term_at_is w m FollowerLogReplication e r from t asked keep false now ann ok =
    let xs = shape_of (log_of w m) in
    if_both w m (rows.is_in e t) (rows.on_new_term_at FollowerLogReplication e r xs from t asked keep now) (rows.follows e r from t now) (on_answer e r (log_of w m) from asked keep now) (follows e r (log_of w m) from t now)
    (λ h. subst (λ z. Is w m (if z then rows.follows e r from t now else rows.on_answer e r xs from asked keep now) (on_answer e r (log_of w m) from asked keep now)) (sym ann) (answer_is w m e r from asked keep now (ok refl h)))
    (λ h. follows_is w m e r from t now)
new_term_at_is w m _ e r from t asked keep b now ann ok =
    choice (λ row. Is w m row (follows e r (log_of w m) from t now)) (rows.is_in e t) (rows.follows e r from t now) (rows.follows e r from t now) (λ h. follows_is w m e r from t now) (λ h. follows_is w m e r from t now)

-- what a NewTerm says
abbrev told : Bool → ℤ → LogName → LogName → Said
told b t asked keep = if b then AnnounceOf t else AnswerOf t asked keep

new_term_is : (w : World) (m from : ℕ) (t : ℤ) (asked keep : LogName) (b : Bool) (now : ℕ) → rows.is_announcement asked ≡ b
    → Cuts w m (values_of w m).election.state (values_of w m).election (values_of w m).rest t asked keep
    → Is w m (rows.on_new_term (values_of w m).election (values_of w m).rest (shape_of (log_of w m)) from t asked keep now) (receives_row (world.member w m) from (told b t asked keep) now)
new_term_is w m from t asked keep true now ann ok =
    let e = (values_of w m).election in
    if_both w m (int_lt t e.candidate) _ _ _ _ (λ h. silent w m e (values_of w m).rest) (λ h. new_term_at_is w m e.state e (values_of w m).rest from t asked keep true now ann ok)
new_term_is w m from t asked keep false now ann ok =
    let e = (values_of w m).election in
    if_both w m (int_lt t e.candidate) _ _ _ _ (λ h. silent w m e (values_of w m).rest) (λ h. new_term_at_is w m e.state e (values_of w m).rest from t asked keep false now ann ok)

-- ---- the other packets

canvass_is : (w : World) (m : ℕ) (s : State) (e : Election) (r : Rest) (from : ℕ) (name : LogName) (c : ℤ) (now : ℕ) → Is w m (rows.on_canvass_at s e r from name c now) (on_canvass_at s e r (log_of w m) from name c now)
canvass_is w m Canvass e r from name c now = silent w m (record e { heard = set e.heard from (Some (record { term = name.term; place = name.place; candidate = c })) }) r
canvass_is w m LeaderReady e r from name c now =
    let v : Values = record { election = e; rest = r } in
    let log = log_of w m in
    if_both w m (int_lt e.term c) _ _ _ _ (λ h. silent w m (enter_canvass e now) r)
    (λ h. still w m e r (plans.One from (words.Answer name)) _ (one_says (words.Answer name) v log from (AnswerOf e.term name (record { term = answer_term log name.term; place = answer_end log name.term })) (answer_says v log from name)))
canvass_is w m _ e r from name c now = silent w m e r

report_is : (w : World) (m : ℕ) (s : State) (e : Election) (r : Rest) (from : ℕ) (t : ℤ) (p now : ℕ) → Is w m (rows.on_report_at s e r from t p now) (on_report_at s e r from t p now)
report_is w m LeaderReady e r from t p now = if_both w m (rows.is_in e t) _ _ _ _ (λ h. silent w m e _) (λ h. silent w m e r)
report_is w m _ e r from t p now = silent w m e r

commit_is : (w : World) (m : ℕ) (s : State) (e : Election) (r : Rest) (t : ℤ) (c now : ℕ) → Is w m (rows.on_commit_at s e r (shape_of (log_of w m)) t c now) (on_commit_at s e r (log_of w m) t c now)
commit_is w m FollowerReady e r t c now =
    let row : ℕ → Row = λ k. if rows.is_in e t then rows.only (record e { deadline = now + 1000 }) (record r { commit = max r.commit k }) else rows.nothing e r in
    subst (λ k. Is w m (row k) (on_commit_at FollowerReady e r (log_of w m) t c now)) (sym (same_count_law (log_of w m) c).0)
    (if_both w m (rows.is_in e t) _ _ _ _ (λ h. silent w m (record e { deadline = now + 1000 }) (record r { commit = max r.commit (entries_to c (log_of w m)) })) (λ h. silent w m e r))
commit_is w m _ e r t c now = silent w m e r

-- what is appended, if anything
pub append_changes : (d : Durable) (new : Log) → member.changed (rows.appends new) d ≡ changed d (Append new)
append_changes d [] = λ j. record d { log = sym (append-nil d.log) j }
append_changes d (x ∷ xs) = refl

pub append_raises : (m : ℕ) (log new : Log) → world.raises_of m log (rows.appends new) ≡ []
append_raises m log [] = refl
append_raises m log (x ∷ xs) = refl

pub append_log : (new log : Log) → changed_log (rows.appends new) log ≡ log ++ new
append_log [] log = sym (append-nil log)
append_log (x ∷ xs) log = refl

batch_is : (w : World) (m : ℕ) (s : State) (e : Election) (r : Rest) (from : ℕ) (t : ℤ) (start : ℕ) (entries : Log) (now : ℕ)
    → Is w m (rows.on_batch_at s e r (shape_of (log_of w m)) from t start entries now) (on_batch_at s e r (log_of w m) from t start entries now)
batch_is w m FollowerReady e r from t start entries now =
    if_both w m (rows.is_in e t) _ _ _ _
    (λ h. subst (λ p. Is w m (row (nat_le start p) (past start p entries)) (out (nat_le start (place log)) (past start (place log) entries))) (sym (end_from-shape_of 0 log)) (at (nat_le start (place log)) (past start (place log) entries)))
    (λ h. silent w m e r)
  where
    log : Log
    log = log_of w m

    e' : Election
    e' = record e { deadline = now + 1000 }

    row : Bool → Log → Row
    row b new = rows.outcome e' r (if b then rows.appends new else changes.Nothing) (plans.One from words.Report)

    out : Bool → Log → Outcome
    out b new =
        if b
        then record { election = e'; rest = r; change = Append new; packets = one_to e from (ReportOf e.term (place (log ++ new))) }
        else record { election = e'; rest = r; change = Nothing; packets = one_to e from (ReportOf e.term (place log)) }

    at : (b : Bool) (new : Log) → Is w m (row b new) (out b new)
    at true new =
        let v : Values = record { election = e'; rest = r } in
        is_same w m e' r (rows.appends new) (plans.One from words.Report) (Append new) (one_to e from (ReportOf e.term (place (log ++ new))))
        (append_changes (world.member w m).durable new) (append_raises m log new)
        (ap (λ l. speaks (plans.One from words.Report) v l) (append_log new log) ∙ one_says words.Report v (log ++ new) from (ReportOf e.term (place (log ++ new))) (report_says v (log ++ new) from))
    at false new =
        let v : Values = record { election = e'; rest = r } in
        still w m e' r (plans.One from words.Report) (one_to e from (ReportOf e.term (place log))) (one_says words.Report v log from (ReportOf e.term (place log)) (report_says v log from))
batch_is w m _ e r from t start entries now = silent w m e r

last_false : (p a b c : Bool) → ((p && a) && (b && c)) ≡ false → p ≡ true → a ≡ true → b ≡ true → c ≡ false
last_false true true true c e h i j = e
last_false false a b c e h i j = absurd (cc)
last_false true false b c e h i j = absurd (cc)
last_false true true false c e h i j = absurd (cc)

passes_of : (a b : Bool) → (a && b) ≡ true → b ≡ true
passes_of true b e = e
passes_of false b e = absurd (cc)

not_true : (b : Bool) → not b ≡ true → b ≡ false
not_true true e = absurd (cc)
not_true false e = refl

pub packet_row_is : (w : World) (m : ℕ) (p : Packet) (now : ℕ) → test.is_sendable (values_of w m) (shape_of (log_of w m)) p ≡ true
    → Is w m (test.receives_row (values_of w m) (shape_of (log_of w m)) p now) (receives_row (world.member w m) (test.sender_of p) (says p) now)
packet_row_is w m (P.Canvass log_term log_position candidate_term from) now ok = canvass_is w m (values_of w m).election.state (values_of w m).election (values_of w m).rest (unsigned_abs from) (named log_term log_position) candidate_term now
packet_row_is w m (P.RequestVote log_term log_position candidate_term from) now ok =
    let v = values_of w m in
    let at : LogName → Turn = λ own. row v.election (E.RequestVote (unsigned_abs from) candidate_term (named log_term log_position) own) now in
    subst (λ own. Is w m (rows.row_of_turn (at own) v.rest) (outcome_of (at (name_of (log_of w m))) v.rest (name_of (log_of w m)))) (sym (same_name_law (log_of w m)))
    (turn_is w m v.rest (at (name_of (log_of w m))).election (at (name_of (log_of w m))).decision (request_asks v.election (unsigned_abs from) candidate_term (named log_term log_position) (name_of (log_of w m)) now))
packet_row_is w m (P.Vote candidate_term log_term log_position candidate from vote) now ok =
    let v = values_of w m in
    let t = row v.election (E.Vote (unsigned_abs from) candidate_term (same_term vote (pos 1))) now in
    turn_is w m v.rest t.election t.decision (vote_asks v.election (unsigned_abs from) candidate_term (same_term vote (pos 1)) now)
packet_row_is w m (P.NewTerm asked_term asked_position keep_term keep_position term leader) now ok =
    let v = values_of w m in
    let asked = named asked_term asked_position in
    let keep = named keep_term keep_position in
    let xs = shape_of (log_of w m) in
    let few : test.cuts_committed v.election v.rest xs term asked keep ≡ false = not_true (test.cuts_committed v.election v.rest xs term asked keep) (passes_of (test.is_other v.election (unsigned_abs leader)) (not (test.cuts_committed v.election v.rest xs term asked keep)) ok) in
    new_term_is w m (unsigned_abs leader) term asked keep (rows.is_announcement asked) now refl
    (λ st here same. last_false (test.is_replicating v.election.state) (rows.is_in v.election term) (rows.same_name asked (rows.name_of_shape xs)) (nat_lt (rows.kept_count keep.term keep.place xs) v.rest.commit) few (ap test.is_replicating st) here same)
packet_row_is w m (P.Append term position from) now ok = report_is w m (values_of w m).election.state (values_of w m).election (values_of w m).rest (unsigned_abs from) term (unsigned_abs position) now
packet_row_is w m (P.Commit term position leader) now ok = commit_is w m (values_of w m).election.state (values_of w m).election (values_of w m).rest term (unsigned_abs position) now
packet_row_is w m (P.LogBatch term start_position leader entries) now ok =
    batch_is w m (values_of w m).election.state (values_of w m).election (values_of w m).rest (unsigned_abs leader) term (unsigned_abs start_position) entries now
