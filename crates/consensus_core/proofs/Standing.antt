-- The disk can make each row's change, and a member's values stand to its log after it.
use Rattle.std.proofs.Common.{◌≡◌, ℕ, zero, suc, ◌+◌, ◌*◌, ◌<◌, ◌≤◌, ◌^◌, Bool, true, false, ◌&&◌, ◌||◌, List, [], ◌∷◌, ◌++◌, length, take, map, max, set, Option, Some, None, refl, sym, ap, ◌∙◌, subst, arith, ℤ, pos, negsuc, ◌≤ℤ◌, ◌<ℤ◌, if◌then◌else◌}
use Rattle.std.specs.Prelude.{All, IfSome, int_le, int_lt, nat_le, nat_lt, not, fold, unsigned_abs}
use Rattle.std.specs.Int.{int_max}
use Rattle.std.specs.List.{list_any}
use Rattle.std.proofs.lemmas.Int.{ints}
use Rattle.std.proofs.lemmas.Bool.Decides.{nat_tests}
use Rattle.std.proofs.lemmas.List.{length-take-le}
use Rattle.cl_base.specs.declared.entry.Entry.{Entry}
use Rattle.entry_log.specs.Log.{Log, better, end_after, same_term}
use Rattle.entry_log.specs.PlaceLaws.{end_from-up}
use Rattle.entry_log.specs.Quorum.{is_quorum}
use Rattle.entry_log.specs.Shape.{Shape, shape_of, end_from, end_of, ends_by, ends_by_from, last_term_from, last_term_of, terms_to}
use Rattle.entry_log.specs.declared.name.LogName.{LogName}
use Rattle.log_replication.specs.Replication.{past}
use Rattle.log_replication.specs.Commits.{quorum_position}
use Rattle.election.specs.Rows.{Turn, row, duty, enter_canvass, nominates, on_request, on_vote, is_running, is_for, is_balloting as ballots, heard_count, heard_better, vote_count, later}
use Rattle.election.specs.declared.member.Election.{Election}
use Rattle.election.specs.declared.member.Heard.{Heard}
use Rattle.election.specs.declared.member.State.{State}
use Rattle.election.specs.declared.member.State.TheVariants.{Init, Canvass, Nominate, CandidateBallot, FollowerBallot, LeaderInit, LeaderReady, FollowerLogReplication, FollowerReady, Closed}
use Rattle.sbe_events.specs.Spelling.{HasSpelling as IsEvent, term_of}
use Rattle.sbe_events.specs.declared.event.Event.{Event}
use Rattle.sbe_consensus.specs.Spelling.{HasSpelling, AreEntries}
use Rattle.sbe_consensus.specs.declared.packet.Packet.{Packet}
use Rattle.sbe_consensus.specs.declared.packet.Packet.TheVariants as P
use Rattle.consensus_core.specs.declared.change.Change.TheVariants as changes
use Rattle.consensus_core.specs.declared.plan.Plan.{Plan}
use Rattle.consensus_core.specs.declared.plan.Plan.TheVariants as plans
use Rattle.consensus_core.specs.declared.plan.Word.TheVariants as words
use Rattle.consensus_core.specs.declared.rest.Rest.{Rest}
use Rattle.consensus_core.specs.declared.row.Row.{Row}
use Rattle.consensus_core.specs.declared.values.Values.{Values}
use Rattle.consensus_core.specs.Fit.{IsFit, has_term, is_balloting, started}
use Rattle.consensus_core.specs.Rows.{outcome, only, row_of_turn, name_of_shape, is_in, follows, kept_count, cut_to, cuts, same_name, on_answer, is_announcement, on_new_term_at, on_new_term, on_canvass_at, on_report_at, appends, on_batch_at, on_commit_at}
use Rattle.consensus_core.specs.Reign.{entry_of, term_event, reigning, begins_reign, admitted, end_limit, commit_after, reports, has_quorum, beats_next, reigns, sends_status, duty_at, does_duty}
use Rattle.consensus_core.specs.Sendable.{is_other, is_sendable_batch, is_replicating, cuts_committed, is_sendable, receives_row, receives}
use Rattle.consensus_core.specs.Standing.{Standing, CanFollow, RowFits, PacketsFit, DutiesFit, StartsFit}
use Rattle.consensus_core.proofs.Appending.{choice, both, end_from_append, last_term_append, follows_batch, OfTerm, of_term_last, event_entry, due_entries, take_of_term, admitted_follow, append_room, append_fits, length_more}

-- ---- counts within a log

ends_short : (p at : ℕ) (xs : Shape) → ends_by_from p at xs ≤ length xs
ends_short p at [] = omega arith
ends_short p at (x ∷ xs) = on (nat_le (end_after p x.len) at) (ends_short (end_after p x.len) at xs)
  where
    on : (b : Bool) → ends_by_from (end_after p x.len) at xs ≤ length xs → (if b then 1 + ends_by_from (end_after p x.len) at xs else 0) ≤ suc (length xs)
    on true h = omega (arith, h)
    on false h = omega arith

terms_short : (u : ℤ) (xs : Shape) → length (terms_to u xs) ≤ length xs
terms_short u [] = omega arith
terms_short u (x ∷ xs) = on (int_le x.term u) (terms_short u xs)
  where
    on : (b : Bool) → length (terms_to u xs) ≤ length xs → length (if b then x ∷ terms_to u xs else []) ≤ suc (length xs)
    on true h = omega (arith, h)
    on false h = omega arith

max_within : (a b n : ℕ) → a ≤ n → b ≤ n → max a b ≤ n
max_within a b n h g = grind (arith, h, g)

take_end : (p n : ℕ) (xs : Shape) → end_from p (take n xs) ≤ end_from p xs
take_end p zero xs = end_from-up p xs
take_end p (suc n) [] = omega arith
take_end p (suc n) (x ∷ xs) = take_end (end_after p x.len) n xs

int_max_left : (a b : ℤ) → a ≤ℤ int_max a b
int_max_left a b = choice (λ z. a ≤ℤ z) (int_lt b a) a b (λ h. omega (arith, ints)) (λ h. grind (arith, ints, h))

int_max_right : (a b : ℤ) → b ≤ℤ int_max a b
int_max_right a b = choice (λ z. b ≤ℤ z) (int_lt b a) a b (λ h. grind (arith, ints, h)) (λ h. omega (arith, ints))

later_up : (most : ℤ) (heard : List (Option Heard)) → most ≤ℤ fold later most heard
later_up most [] = omega (arith, ints)
later_up most (None ∷ hs) = later_up most hs
later_up most (Some h ∷ hs) = let a = int_max_left most h.candidate in let b = later_up (int_max most h.candidate) hs in omega (arith, ints, a, b)

-- in these states nothing is asked of the log's last term
abbrev is_plain : State → Bool
is_plain CandidateBallot = false
is_plain LeaderInit = false
is_plain LeaderReady = false
is_plain _ = true

plain_stood : (s : State) → is_plain s ≡ true → is_balloting s ≡ true → ⊥
plain_stood CandidateBallot h k = cc
plain_stood Init h k = cc
plain_stood Canvass h k = cc
plain_stood Nominate h k = cc
plain_stood FollowerBallot h k = cc
plain_stood LeaderInit h k = cc
plain_stood LeaderReady h k = cc
plain_stood FollowerLogReplication h k = cc
plain_stood FollowerReady h k = cc
plain_stood Closed h k = cc

plain_standing : (w : Values) (xs : Shape) → w.rest.commit ≤ length xs → end_of xs ≤ 16777216 → is_plain w.election.state ≡ true → Standing w xs
plain_standing w xs commit place h = record {
  commit = commit;
  place = place;
  stood = λ k. absurd (plain_stood w.election.state h k);
  elected = λ k. absurd (let z = ap is_plain k in cc);
  leads = λ k. absurd (let z = ap is_plain k in cc);
}

module _ (v : Values) (xs : Shape) (st : Standing v xs) (f : IsFit v.election) where
  abbrev e : Election
  e = v.election

  abbrev r0 : Rest
  r0 = v.rest

  abbrev Fits : Row → Type 0
  Fits row = RowFits v xs row

  abbrev TurnFits : Turn → Type 0
  TurnFits t = Fits (row_of_turn t r0)

  -- to a state of which nothing is asked
  plain : (e' : Election) (r : Rest) (p : Plan) → e'.candidate ≡ e.candidate → e'.voted ≡ e.voted → r.commit ≤ length xs → is_plain e'.state ≡ true → Fits (outcome e' r changes.Nothing p)
  plain e' r p c k commit h = (record { candidate = c; voted = k }, plain_standing (record { election = e'; rest = r }) xs commit st.place h)

  -- the same state and term
  stays_so : (e' : Election) (r : Rest) (p : Plan) → e'.candidate ≡ e.candidate → e'.voted ≡ e.voted → e'.state ≡ e.state → e'.term ≡ e.term → r.commit ≤ length xs → Fits (outcome e' r changes.Nothing p)
  stays_so e' r p c k s t commit = (
    record { candidate = c; voted = k },
    record {
      commit = commit;
      place = st.place;
      stood = λ h. subst (λ z. last_term_of xs <ℤ z) (sym c) (st.stood (ap is_balloting (sym s) ∙ h));
      elected = λ h. subst (λ z. last_term_of xs <ℤ z) (sym t) (st.elected (sym s ∙ h));
      leads = λ h. st.leads (sym s ∙ h) ∙ sym t;
    },
  )

  same : (p : Plan) → Fits (outcome e r0 changes.Nothing p)
  same p = stays_so e r0 p refl refl refl refl st.commit

  canvass : (now : ℕ) → Fits (only (enter_canvass e now) r0)
  canvass now = plain (enter_canvass e now) r0 plans.Silence refl refl st.commit refl

  -- a raise to a state of which nothing is asked
  lifts : (e' : Election) (t : ℤ) (k : Option ℕ) (p : Plan) → e.candidate <ℤ t → t ≤ℤ pos (2 ^ 62) → IfSome k (λ m. m < 5) → e'.candidate ≡ t → e'.voted ≡ k → is_plain e'.state ≡ true → Fits (outcome e' r0 (changes.Raise t k) p)
  lifts e' t k p up high member c w h = (record { above = up; high = high; member = member; candidate = c; choice = w }, plain_standing (record { election = e'; rest = r0 }) xs st.commit st.place h)

  -- ---- elections

  nominates_fits : (most : ℤ) (now : ℕ) → e.candidate ≤ℤ most → last_term_of xs ≤ℤ most → TurnFits (nominates e most now)
  nominates_fits most now high own =
      choice TurnFits (int_le (pos (2 ^ 62)) most) _ _
      (λ h. canvass now)
      (λ h. (
        record { above = omega (arith, ints, high); high = grind (arith, ints, h); member = (let a = f.id in let b = f.members in omega (arith, a, b)); candidate = refl; choice = refl },
        record { commit = st.commit; place = st.place; stood = λ k. omega (arith, ints, own); elected = λ k. absurd (cc); leads = λ k. absurd (cc) },
      ))

  elects_fit : (s : State) (now : ℕ) → e.state ≡ s → TurnFits (duty s e (name_of_shape xs) now)
  elects_fit Init now is = canvass now
  elects_fit Canvass now is =
      choice TurnFits (nat_le e.deadline now) _ _
      (λ h. choice TurnFits (is_quorum e.members (1 + heard_count e.heard) && not (list_any (heard_better (name_of_shape xs)) e.heard)) _ _
      (λ g. plain (record e { state = Nominate }) r0 plans.Silence refl refl st.commit refl)
      (λ g. stays_so (record e { deadline = now + 300 + 100 * e.id }) r0 plans.Silence refl refl refl refl st.commit))
      (λ h. choice TurnFits (nat_le e.next now) _ _
      (λ g. stays_so (record e { next = now + 100 }) r0 (plans.All words.Canvass) refl refl refl refl st.commit)
      (λ g. same plans.Silence))
  elects_fit Nominate now is =
      let a = int_max_left e.candidate (last_term_of xs) in
      let b = int_max_right e.candidate (last_term_of xs) in
      let d = later_up (int_max e.candidate (last_term_of xs)) e.heard in
      nominates_fits (fold later (int_max e.candidate (last_term_of xs)) e.heard) now (omega (arith, ints, a, d)) (omega (arith, ints, b, d))
  elects_fit CandidateBallot now is =
      choice TurnFits (is_quorum e.members (vote_count e.votes)) _ _
      (λ h. (
        record { candidate = refl; voted = refl },
        record { commit = st.commit; place = st.place; stood = λ k. absurd (cc); elected = λ k. st.stood (ap is_balloting is); leads = λ k. absurd (cc) },
      ))
      (λ h. choice TurnFits (nat_le e.deadline now) _ _ (λ g. canvass now) (λ g. same plans.Silence))
  elects_fit FollowerBallot now is = choice TurnFits (nat_le e.deadline now) _ _ (λ g. canvass now) (λ g. same plans.Silence)
  elects_fit LeaderInit now is = same plans.Silence
  elects_fit LeaderReady now is = same plans.Silence
  elects_fit FollowerLogReplication now is = same plans.Silence
  elects_fit FollowerReady now is = same plans.Silence
  elects_fit Closed now is = same plans.Silence

  request_fits : (from : ℕ) (c : ℤ) (name : LogName) (now : ℕ) → from < 5 → c ≤ℤ pos (2 ^ 62) → TurnFits (on_request e from c name (name_of_shape xs) now)
  request_fits from c name now five high =
      choice TurnFits (int_lt e.candidate c) _ _
      (λ h.
      let up : e.candidate <ℤ c = grind (arith, ints, h) in
      choice TurnFits (better (last_term_of xs) (end_of xs) name.term name.place) _ _
      (λ g. lifts (enter_canvass (record e { candidate = c; voted = None }) now) c None (plans.One from (words.Vote from c false)) up high tt refl refl refl)
      (λ g. lifts (record e { candidate = c; voted = Some from; term = negsuc 0; leader = None; deadline = now + 500; state = FollowerBallot }) c (Some from) (plans.One from (words.Vote from c true)) up high five refl refl refl))
      (λ h. choice TurnFits (int_le e.candidate c && is_for e.voted from) _ _ (λ g. same (plans.One from (words.Vote from c true))) (λ g. same (plans.One from (words.Vote from c false))))

  vote_fits : (from : ℕ) (c : ℤ) (granted : Bool) → TurnFits (on_vote e from c granted)
  vote_fits from c granted =
      choice TurnFits (granted && (ballots e.state && same_term c e.candidate)) _ _
      (λ g. stays_so (record e { votes = set e.votes from true }) r0 plans.Silence refl refl refl refl st.commit)
      (λ g. same plans.Silence)

  -- ---- a leader's packets

  follows_fit : (from : ℕ) (t : ℤ) (now : ℕ) → t ≤ℤ pos (2 ^ 62) → int_lt t e.candidate ≡ false → Fits (follows e r0 from t now)
  follows_fit from t now high low = at (int_lt e.candidate t) refl
    where
      at : (b : Bool) → int_lt e.candidate t ≡ b
          → Fits (outcome (record e { candidate = t; voted = (if b then None else e.voted); term = t; leader = Some from; deadline = now + 1000; next = now + 100; state = FollowerLogReplication }) r0 (if b then changes.Raise t None else changes.Nothing) (plans.One from words.Canvass))
      at true h = lifts (record e { candidate = t; voted = None; term = t; leader = Some from; deadline = now + 1000; next = now + 100; state = FollowerLogReplication }) t None (plans.One from words.Canvass) (grind (arith, ints, h)) high tt refl refl refl
      at false h = plain (record e { candidate = t; voted = e.voted; term = t; leader = Some from; deadline = now + 1000; next = now + 100; state = FollowerLogReplication }) r0 (plans.One from words.Canvass) (grind (arith, ints, h, low)) refl st.commit refl

  -- a cut to n entries, not below the commit, in a state of which nothing is asked
  cut_fits : (e' : Election) (p : Plan) (n : ℕ) → e'.candidate ≡ e.candidate → e'.voted ≡ e.voted → is_plain e'.state ≡ true → r0.commit ≤ n → n ≤ length xs → Fits (outcome e' r0 (cut_to n xs) p)
  cut_fits e' p n c k h low high =
      choice (λ z. Fits (outcome e' r0 z p)) (nat_lt n (length xs)) (changes.Cut n) changes.Nothing
      (λ g. (
        (record { candidate = c; voted = k }, low, high),
        plain_standing (record { election = e'; rest = r0 }) (take n xs) (let z = length-take-le n xs high in omega (arith, z, low)) (let z = take_end 0 n xs in let y = st.place in omega (arith, z, y)) h,
      ))
      (λ g. plain e' r0 p c k st.commit h)

  kept_short : (keep : LogName) → kept_count keep.term keep.place xs ≤ length xs
  kept_short keep = let a = terms_short keep.term xs in let b = ends_short 0 keep.place xs in grind (arith, a, b)

  cuts_fit : (from : ℕ) (keep : LogName) (now : ℕ) → e.state ≡ FollowerLogReplication → nat_lt (kept_count keep.term keep.place xs) r0.commit ≡ false → Fits (cuts e r0 xs from keep now)
  cuts_fit from keep now is enough =
      let n : ℕ = kept_count keep.term keep.place xs in
      let low : r0.commit ≤ n = grind (arith, nat_tests, enough) in
      let high = kept_short keep in
      choice Fits (same_term (last_term_of (take n xs)) keep.term) _ _
      (λ h. cut_fits (record e { deadline = now + 1000; state = FollowerReady }) (plans.One from words.Report) n refl refl refl low high)
      (λ h. cut_fits (record e { deadline = now + 1000 }) (plans.One from words.Canvass) n refl refl (ap is_plain is) low high)

  answer_fits : (from : ℕ) (asked keep : LogName) (now : ℕ) → e.state ≡ FollowerLogReplication → (same_name asked (name_of_shape xs) ≡ true → nat_lt (kept_count keep.term keep.place xs) r0.commit ≡ false) → Fits (on_answer e r0 xs from asked keep now)
  answer_fits from asked keep now is ok =
      choice Fits (same_name asked (name_of_shape xs)) _ _
      (λ h. cuts_fit from keep now is (ok h))
      (λ h. stays_so (record e { deadline = now + 1000 }) r0 (plans.One from words.Canvass) refl refl refl refl st.commit)

  new_term_at_fits : (s : State) (from : ℕ) (t : ℤ) (asked keep : LogName) (now : ℕ) → e.state ≡ s → t ≤ℤ pos (2 ^ 62) → int_lt t e.candidate ≡ false
      → (s ≡ FollowerLogReplication → same_name asked (name_of_shape xs) ≡ true → nat_lt (kept_count keep.term keep.place xs) r0.commit ≡ false) → Fits (on_new_term_at s e r0 xs from t asked keep now)
  new_term_at_fits FollowerReady from t asked keep now is high low ok = stays_so (record e { deadline = now + 1000 }) r0 plans.Silence refl refl refl refl st.commit
  new_term_at_fits FollowerLogReplication from t asked keep now is high low ok =
      choice Fits (is_announcement asked) _ _ (λ h. follows_fit from t now high low) (λ h. answer_fits from asked keep now is (ok refl))
  new_term_at_fits LeaderInit from t asked keep now is high low ok = same plans.Silence
  new_term_at_fits LeaderReady from t asked keep now is high low ok = same plans.Silence
  new_term_at_fits _ from t asked keep now is high low ok = follows_fit from t now high low

  new_term_fits : (from : ℕ) (t : ℤ) (asked keep : LogName) (now : ℕ) → t ≤ℤ pos (2 ^ 62)
      → (e.state ≡ FollowerLogReplication → is_in e t ≡ true → same_name asked (name_of_shape xs) ≡ true → nat_lt (kept_count keep.term keep.place xs) r0.commit ≡ false) → Fits (on_new_term e r0 xs from t asked keep now)
  new_term_fits from t asked keep now high ok =
      choice Fits (int_lt t e.candidate) _ _ (λ h. same plans.Silence)
      (λ h. choice Fits (is_in e t) _ _ (λ g. new_term_at_fits e.state from t asked keep now refl high h (λ s. ok s g)) (λ g. follows_fit from t now high h))

  -- ---- the other packets

  canvass_fits : (s : State) (from : ℕ) (name : LogName) (c : ℤ) (now : ℕ) → Fits (on_canvass_at s e r0 from name c now)
  canvass_fits Canvass from name c now = stays_so (record e { heard = set e.heard from (Some (record { term = name.term; place = name.place; candidate = c })) }) r0 plans.Silence refl refl refl refl st.commit
  canvass_fits LeaderReady from name c now = choice Fits (int_lt e.term c) _ _ (λ h. canvass now) (λ h. same (plans.One from (words.Answer name)))
  canvass_fits _ from name c now = same plans.Silence

  report_fits : (s : State) (from : ℕ) (t : ℤ) (p now : ℕ) → Fits (on_report_at s e r0 from t p now)
  report_fits LeaderReady from t p now = choice Fits (is_in e t) _ _ (λ h. stays_so e _ plans.Silence refl refl refl refl st.commit) (λ h. same plans.Silence)
  report_fits _ from t p now = same plans.Silence

  commit_fits : (s : State) (t : ℤ) (c now : ℕ) → Fits (on_commit_at s e r0 xs t c now)
  commit_fits FollowerReady t c now =
      choice Fits (is_in e t) _ _
      (λ h. stays_so (record e { deadline = now + 1000 }) (record r0 { commit = max r0.commit (ends_by c xs) }) plans.Silence refl refl refl refl (max_within r0.commit (ends_by c xs) (length xs) st.commit (ends_short 0 c xs)))
      (λ h. same plans.Silence)
  commit_fits _ t c now = same plans.Silence

  batch_fits : (s : State) (from : ℕ) (t : ℤ) (start : ℕ) (es : Log) (now : ℕ) → e.state ≡ s → is_sendable_batch t start es (name_of_shape xs) ≡ true → AreEntries es → Fits (on_batch_at s e r0 xs from t start es now)
  batch_fits FollowerReady from t start es now is ok are =
      choice Fits (is_in e t) _ _
      (λ h. choice (λ z. Fits (outcome (record e { deadline = now + 1000 }) r0 z (plans.One from words.Report))) (nat_le start (end_of xs)) (appends (past start (end_of xs) es)) changes.Nothing
      (λ g.
      let new : Log = past start (end_of xs) es in
      let can : 0 < length new → CanFollow xs new = follows_batch xs t start es ok are g in
      append_fits v (record e { deadline = now + 1000 }) r0 (plans.One from words.Report) xs new (record { candidate = refl; voted = refl }) can
      (plain_standing (record { election = record e { deadline = now + 1000 }; rest = r0 }) (xs ++ shape_of new) (let a = st.commit in let b = length_more xs (shape_of new) in omega (arith, a, b)) (append_room xs new st.place can) (ap is_plain is)))
      (λ g. stays_so (record e { deadline = now + 1000 }) r0 (plans.One from words.Report) refl refl refl refl st.commit))
      (λ h. same plans.Silence)
  batch_fits _ from t start es now is ok are = same plans.Silence

  five_of : (z : ℤ) → pos 0 ≤ℤ z → z ≤ℤ pos 4 → unsigned_abs z < 5
  five_of (pos n) low high = omega (arith, ints, high)
  five_of (negsuc n) low high = absurd (omega (arith, ints, low))

  not_true : (b : Bool) → not b ≡ true → b ≡ false
  not_true true h = absurd (cc)
  not_true false h = refl

  last_false : (p a b c : Bool) → ((p && a) && (b && c)) ≡ false → p ≡ true → a ≡ true → b ≡ true → c ≡ false
  last_false true true true c h i j k = h
  last_false false a b c h i j k = absurd (cc)
  last_false true false b c h i j k = absurd (cc)
  last_false true true false c h i j k = absurd (cc)

  packet_fits : (p : Packet) (now : ℕ) → HasSpelling p → is_sendable v xs p ≡ true → Fits (receives_row v xs p now)
  packet_fits (P.Canvass log_term log_position candidate_term member) now h ok = canvass_fits e.state (unsigned_abs member) (record { term = log_term; place = unsigned_abs log_position }) candidate_term now
  packet_fits (P.RequestVote log_term log_position candidate_term candidate) now h ok =
      choice TurnFits (is_running e.state) _ _
      (λ g. request_fits (unsigned_abs candidate) candidate_term (record { term = log_term; place = unsigned_abs log_position }) now (five_of candidate h.3.0 h.3.1) h.2.1)
      (λ g. same plans.Silence)
  packet_fits (P.Vote candidate_term log_term log_position candidate follower vote) now h ok = vote_fits (unsigned_abs follower) candidate_term (same_term vote (pos 1))
  packet_fits (P.NewTerm asked_term asked_position keep_term keep_position term leader) now h ok =
      let asked : LogName = record { term = asked_term; place = unsigned_abs asked_position } in
      let keep : LogName = record { term = keep_term; place = unsigned_abs keep_position } in
      let few : cuts_committed e r0 xs term asked keep ≡ false = not_true (cuts_committed e r0 xs term asked keep) (both (is_other e (unsigned_abs leader)) (not (cuts_committed e r0 xs term asked keep)) ok).1 in
      new_term_fits (unsigned_abs leader) term asked keep now h.1.1
      (λ s here name. last_false (is_replicating e.state) (is_in e term) (same_name asked (name_of_shape xs)) (nat_lt (kept_count keep.term keep.place xs) r0.commit) few (ap is_replicating s) here name)
  packet_fits (P.Append term position member) now h ok = report_fits e.state (unsigned_abs member) term (unsigned_abs position) now
  packet_fits (P.Commit term position leader) now h ok = commit_fits e.state term (unsigned_abs position) now
  packet_fits (P.LogBatch term start_position leader entries) now h ok =
      batch_fits e.state (unsigned_abs leader) term (unsigned_abs start_position) entries now refl (both (is_other e (unsigned_abs leader)) (is_sendable_batch term (unsigned_abs start_position) entries (name_of_shape xs)) ok).1 h.5

  -- ---- duties

  status_fits : (p : Plan) (now : ℕ) → Fits (sends_status e r0 p now)
  status_fits p now =
      choice Fits (nat_le e.deadline now) _ _ (λ h. canvass now)
      (λ h. choice Fits (nat_le e.next now) _ _ (λ g. stays_so (record e { next = now + 100 }) r0 p refl refl refl refl st.commit) (λ g. same plans.Silence))

  term_spelled : (now : ℕ) → now ≤ 2 ^ 60 → e.state ≡ LeaderInit → IsEvent (term_event e.term (end_of xs) now e.id)
  term_spelled now early is =
      let low : pos 0 ≤ℤ e.term = f.reigning (ap has_term is) in
      let high = f.term.high in
      let place = st.place in
      let id = f.id in
      let members = f.members in
      ((omega (arith, ints, low), omega (arith, ints, high)), (omega (arith, ints), omega (arith, ints, place)), (omega (arith, ints), omega (arith, ints, early)), refl, (omega (arith, ints), omega (arith, ints, id, members)))

  begins_fit : (now : ℕ) → now ≤ 2 ^ 60 → e.state ≡ LeaderInit → Fits (begins_reign e r0 xs (entry_of (term_event e.term (end_of xs) now e.id)) now)
  begins_fit now early is =
      let x : Entry = entry_of (term_event e.term (end_of xs) now e.id) in
      let end : ℕ = end_after (end_of xs) (length x.bytes) in
      choice Fits (nat_lt 16777216 end) _ _
      (λ h. canvass now)
      (λ h.
      let room : end_of (xs ++ shape_of (x ∷ [])) ≤ 16777216 = (let a = end_from_append 0 xs (shape_of (x ∷ [])) in grind (arith, nat_tests, h, a)) in
      let w : Values = record { election = record e { state = LeaderReady; next = now + 100 }; rest = reigning r0.commit end now } in
      let last : last_term_of (xs ++ shape_of (x ∷ [])) ≡ e.term = last_term_append (negsuc 0) xs (shape_of (x ∷ [])) in
      let before = st.elected is in (
        (
          record { candidate = refl; voted = refl },
          record {
            some = omega arith;
            batch = refl;
            end = room;
            rises = (omega (arith, ints, before), tt);
            events = (event_entry (term_event e.term (end_of xs) now e.id) (term_spelled now early is), tt);
          },
        ),
        record {
          commit = (let a = st.commit in let b = length_more xs (shape_of (x ∷ [])) in omega (arith, a, b));
          place = room;
          stood = λ k. absurd (cc);
          elected = λ k. absurd (cc);
          leads = λ k. last;
        },
      ))

  limit_low : (commit : ℕ) → end_limit xs commit ≤ 16777216
  limit_low commit = grind arith

  commit_within : commit_after e r0 xs ≤ length xs
  commit_within =
      let q : ℕ = quorum_position (reports e.members e.id (end_of xs) r0.acked) in
      choice (λ c. c ≤ length xs) (nat_le r0.own_end q) (max r0.commit (ends_by q xs)) r0.commit
      (λ h. max_within r0.commit (ends_by q xs) (length xs) st.commit (ends_short 0 q xs))
      (λ h. st.commit)

  reigns_fit : (due : List Event) (now : ℕ) → e.state ≡ LeaderReady → All IsEvent due → All (λ e. term_of e ≡ v.election.term) due → Fits (reigns e r0 xs (map entry_of due) now)
  reigns_fit due now is are of =
      let last : last_term_of xs ≡ e.term = st.leads is in
      let all : Log = map entry_of due in
      let d = due_entries e.term due are of in
      let c : ℕ = commit_after e r0 xs in
      let limit : ℕ = end_limit xs c in
      let new : Log = admitted (end_of xs) limit all in
      let can : 0 < length new → CanFollow xs new = admitted_follow xs limit all (limit_low c) d.0 (subst (λ t. OfTerm t all) (sym last) d.1) in
      let next : ℕ = if nat_le e.next now then now + 100 else e.next in
      let w : Values = record { election = record e { next = next }; rest = record r0 { commit = c } } in
      let of_new : OfTerm e.term new = take_of_term e.term _ all d.1 in
      let ends : last_term_of (xs ++ shape_of new) ≡ e.term = last_term_append (negsuc 0) xs (shape_of new) ∙ ap (λ t. last_term_from t (shape_of new)) last ∙ of_term_last e.term new of_new in
      choice Fits (has_quorum e r0 now) (beats_next e r0 c new now) (only (enter_canvass e now) r0)
      (λ h. append_fits v (record e { next = next }) (record r0 { commit = c }) (plans.Beat (nat_lt r0.commit c || nat_le e.next now) (nat_le e.next now)) xs new (record { candidate = refl; voted = refl }) can
      (record {
        commit = (let a = commit_within in let b = length_more xs (shape_of new) in omega (arith, a, b));
        place = append_room xs new st.place can;
        stood = λ k. absurd (let z = ap is_balloting is in cc);
        elected = λ k. absurd (let z = sym is ∙ k in cc);
        leads = λ k. ends;
      }))
      (λ h. canvass now)

  duty_at_fits : (s : State) (due : List Event) (now : ℕ) → e.state ≡ s → now ≤ 2 ^ 60 → All IsEvent due → All (λ e. term_of e ≡ v.election.term) due → Fits (duty_at s v xs due now)
  duty_at_fits LeaderInit due now is early are of = begins_fit now early is
  duty_at_fits LeaderReady due now is early are of = reigns_fit due now is are of
  duty_at_fits FollowerReady due now is early are of = status_fits _ now
  duty_at_fits FollowerLogReplication due now is early are of = status_fits _ now
  duty_at_fits Init due now is early are of = elects_fit e.state now refl
  duty_at_fits Canvass due now is early are of = elects_fit e.state now refl
  duty_at_fits Nominate due now is early are of = elects_fit e.state now refl
  duty_at_fits CandidateBallot due now is early are of = elects_fit e.state now refl
  duty_at_fits FollowerBallot due now is early are of = elects_fit e.state now refl
  duty_at_fits Closed due now is early are of = elects_fit e.state now refl

  pub receives_fits : (p : Packet) (now : ℕ) → HasSpelling p → Fits (receives v xs p now)
  receives_fits p now h = choice Fits (is_sendable v xs p) _ _ (λ ok. packet_fits p now h ok) (λ no. same plans.Silence)

  pub does_duty_fits : (due : List Event) (now : ℕ) → now ≤ 2 ^ 60 → All IsEvent due → All (λ e. term_of e ≡ v.election.term) due → Fits (does_duty v xs due now)
  does_duty_fits due now early are of = duty_at_fits e.state due now refl early are of

pub packets_fit : PacketsFit
packets_fit v xs p now st f h = receives_fits v xs st f p now h

pub duties_fit : DutiesFit
duties_fit v xs due now st f early are of = does_duty_fits v xs st f due now early are of

pub starts_fit : StartsFit
starts_fit id members candidate voted commit xs within room = plain_standing (started id members candidate voted commit).values xs within room refl
