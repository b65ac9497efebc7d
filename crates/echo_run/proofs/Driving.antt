-- The driver's steps are those of its world.
use Rattle.std.proofs.Common.{◌≡◌, ℕ, suc, ◌+◌, ◌-◌, ◌*◌, ◌<◌, ◌≤◌, max, ℤ, pos, ◌+ℤ◌, Bool, true, false, if◌then◌else◌, nat_le, List, [], ◌∷◌, ◌++◌, map, length, take, drop, fold, Option, Some, None, refl, sym, ◌∙◌, ap, subst, arith, append-nil, length-take-le, length-append}
use Rattle.std.specs.Prelude.{All, ◌≤ℤ◌, ◌<ℤ◌, negsuc, ◌^◌, ◌&&◌, not, set, replicate, int_le}
use Rattle.std.specs.Int.{int_max}
use Rattle.std.specs.List.{list_any}
use Rattle.std.proofs.lemmas.List.{take-append-le, length-replicate}
use Rattle.std.proofs.lemmas.List.Elements.{All-push, All-nil, All-append, All-replicate}
use Rattle.std.proofs.lemmas.Bool.{le-leb, lt-leb}
use Rattle.std.proofs.lemmas.Int.{ints, fold-int_max_bounds}
use Rattle.entry_log.specs.Log.{end_after}
use Rattle.entry_log.specs.Quorum.{is_quorum}
use Rattle.entry_log.specs.declared.name.LogName.{LogName}
use Rattle.election.specs.declared.member.State.{State}
use Rattle.election.specs.declared.member.State.TheVariants.{Init, Canvass, Nominate, CandidateBallot, FollowerBallot, LeaderInit, LeaderReady, FollowerLogReplication, FollowerReady, Closed}
use Rattle.election.specs.declared.member.Heard.{Heard}
use Rattle.election.specs.declared.member.Election.{Election}
use Rattle.election.specs.Rows.{Turn, begins, stays, later, heard_count, heard_better, vote_count, enter_canvass, returns_to_canvass, duty, canvass_ends, in_canvass, in_follower_ballot, in_candidate_ballot, nominates}
use Rattle.election.specs.declared.event.Decision.TheVariants as D
use Rattle.sbe_events.specs.declared.event.Event.{Event}
use Rattle.sbe_events.specs.Spelling.{HasSpelling, IsNumber, term_of}
use Rattle.echo_run.specs.Module.{event_len, place_from, place_of, module_of, module_after, empty}
use Rattle.echo_run.specs.LeaderRows.{Member, name_of, new_term, appends, begins_reign, commit_after, entries_from, entries_to, quorum_position, reports_of, heard_count as leader_heard, duty_in}
use Rattle.echo_run.specs.World.{World, with_member, committed_world, longer, turn, phase, round, rounds, sent_from}
use Rattle.echo_run.specs.Driver.{IsAlone, IsTermed, IsKept, IsWritable, member_in, world_of}
use Rattle.echo_run.specs.declared.module.Module.{Module}
use Rattle.echo_run.specs.declared.run.Run.{Run}
use Rattle.echo_run.specs.declared.sent.Sent.{Sent}
use Rattle.service_api.specs.declared.echo.Echo.{Echo}
use Rattle.line_text.proofs.Parts.{take-add}
use Rattle.std.proofs.lemmas.List.Sums.{fold-append}
use Rattle.echo_run.proofs.HeadlineEntries.{push_fold}
use Rattle.echo_run.proofs.Writing.{entries_writable}
use Rattle.echo_run.proofs.LogBounds.{places_rise, place_push, next_id_high}
use Rattle.echo_run.proofs.Fronts.{longer_same, longer_front}

-- ---- an entry is appended

kept_one : (r : Run) (e : Event) → IsKept r → HasSpelling e → place_of (r.log ++ e ∷ []) ≤ 16777216
    → IsKept (record r { log = r.log ++ e ∷ []; name = record { term = term_of e; place = place_of (r.log ++ e ∷ []) }; tentative = module_after r.tentative e })
kept_one r e k spelled room = record {
  election = k.election;
  commit = let more : length (r.log ++ e ∷ []) ≡ length r.log + 1 = length-append r.log (e ∷ []) in let within = k.commit in omega arith;
  consumed = k.consumed;
  spelled = All-push HasSpelling r.log e k.spelled spelled;
  name = ap (λ (t : ℤ). let n : LogName = record { term = t; place = place_of (r.log ++ e ∷ []) } in n) (sym (push_fold (λ (t : ℤ) (x : Event). term_of x) (negsuc 0) r.log e));
  room = room;
  commit_place = k.commit_place ∙ ap place_of (sym (take-append-le r.commit r.log (e ∷ []) k.commit));
  committed = k.committed ∙ ap module_of (sym (take-append-le r.consumed r.log (e ∷ []) (let a = k.commit in let b = k.consumed in omega arith)));
  tentative = ap (λ m. module_after m e) k.tentative ∙ sym (push_fold module_after empty r.log e);
  clients = k.clients;
  connects = k.connects;
  records = k.records;
}

world_one : (r : Run) (e : Event) (n : LogName) (m : Module) → IsKept r → world_of (record r { log = r.log ++ e ∷ []; name = n; tentative = m }) ≡ with_member (world_of r) (appends (member_in r) e)
world_one r e n m k =
    let inputs : take r.consumed (r.log ++ e ∷ []) ≡ take r.consumed r.log = take-append-le r.consumed r.log (e ∷ []) (let a = k.commit in let b = k.consumed in omega arith) in
    let printed : take r.commit (r.log ++ e ∷ []) ≡ take r.commit r.log = take-append-le r.commit r.log (e ∷ []) k.commit in
    let w = with_member (world_of r) (appends (member_in r) e) in
    ap (λ (xs : List Event). record w { inputs = xs; printed = take r.commit (r.log ++ e ∷ []) }) inputs ∙ ap (λ (xs : List Event). record w { printed = xs }) printed

pub kept_with : (r : Run) (e : Event) (log : List Event) (n : LogName) (m : Module) → IsKept r → HasSpelling e → place_of (r.log ++ e ∷ []) ≤ 16777216
    → log ≡ r.log ++ e ∷ [] → n ≡ record { term = term_of e; place = place_of (r.log ++ e ∷ []) } → m ≡ module_after r.tentative e → IsKept (record r { log = log; name = n; tentative = m })
kept_with r e log n m k spelled room is named applied =
    subst (λ (l : List Event). IsKept (record r { log = l; name = n; tentative = m })) (sym is)
    (subst (λ (x : LogName). IsKept (record r { log = r.log ++ e ∷ []; name = x; tentative = m })) (sym named)
    (subst (λ (x : Module). IsKept (record r { log = r.log ++ e ∷ []; name = record { term = term_of e; place = place_of (r.log ++ e ∷ []) }; tentative = x })) (sym applied)
    (kept_one r e k spelled room)))

pub world_with : (r : Run) (e : Event) (log : List Event) (n : LogName) (m : Module) → IsKept r → log ≡ r.log ++ e ∷ [] → world_of (record r { log = log; name = n; tentative = m }) ≡ with_member (world_of r) (appends (member_in r) e)
world_with r e log n m k is = ap (λ (l : List Event). world_of (record r { log = l; name = n; tentative = m })) is ∙ world_one r e n m k

-- ---- a reign begins

pub next_below : (r : Run) → IsKept r → r.tentative.next_id <ℤ pos (2 ^ 62)
next_below r k =
    let high = next_id_high r.log in
    let long : 0 + 32 * length r.log ≤ place_of r.log = places_rise r.log 0 in
    let room = k.room in
    let few : 1 + length r.log < 2 ^ 62 = omega arith in
    let small : (module_of r.log).next_id <ℤ pos (2 ^ 62) = omega (arith, ints, high, few) in
    subst (λ (m : Module). m.next_id <ℤ pos (2 ^ 62)) (sym k.tentative) small

turn_init : (r : Run) → r.election.state ≡ LeaderInit → turn (world_of r) ≡ committed_world (world_of r) (begins_reign (member_in r) r.clock)
turn_init r state = ap (λ s. committed_world (world_of r) (duty_in s (member_in r) [] r.clock)) state

-- the member after its new term event
abbrev reigning : Member → ℕ → Member
reigning m now = record m {
  election = record m.election { state = LeaderReady; next = now + 100 };
  log = m.log ++ new_term m now ∷ [];
  own_end = place_of (m.log ++ new_term m now ∷ []);
  acked = map (λ a. None) m.acked;
  last_heard = map (λ h. now) m.last_heard;
}

begins_there : (w : World) (m : Member) (now : ℕ) (b : Bool) → nat_le (place_of (m.log ++ new_term m now ∷ [])) 16777216 ≡ b → committed_world w (begins_reign m now) ≡ committed_world w (if b then reigning m now else record m { election = enter_canvass m.election now })
begins_there w m now b is = ap (λ (x : Bool). committed_world w (if x then reigning m now else record m { election = enter_canvass m.election now })) is

same_printed : (w : World) (m : Member) (xs : List Event) → w.printed ≡ xs → take m.commit m.log ≡ xs → committed_world w m ≡ with_member w m
same_printed w m xs was is =
    ap (λ (p : List Event). record w { member = m; printed = longer p (take m.commit m.log) }) was
    ∙ ap (λ (p : List Event). record w { member = m; printed = longer xs p }) is
    ∙ ap (λ (p : List Event). record w { member = m; printed = p }) (longer_same xs ∙ sym was)

ends_at : (r : Run) (e : Event) (end : ℕ) → e ≡ new_term (member_in r) r.clock → end ≡ place_of (r.log ++ e ∷ []) → end ≡ place_of (r.log ++ new_term (member_in r) r.clock ∷ [])
ends_at r e end term is = is ∙ ap (λ (x : Event). place_of (r.log ++ x ∷ [])) term

pub no_room : (r : Run) (e : Event) (end : ℕ) (elected : Election) → IsKept r → r.election.state ≡ LeaderInit → 16777216 < end → e ≡ new_term (member_in r) r.clock → end ≡ place_of (r.log ++ e ∷ []) → elected ≡ enter_canvass r.election r.clock
    → world_of (record r { election = elected }) ≡ turn (world_of r)
no_room r e end elected k state far term at is =
    let m = member_in r in
    let test : nat_le (place_of (r.log ++ new_term m r.clock ∷ [])) 16777216 ≡ false = lt-leb _ _ (subst (λ n. 16777216 < n) (ends_at r e end term at) far) in
    ap (λ (x : Election). world_of (record r { election = x })) is
    ∙ sym (turn_init r state ∙ begins_there (world_of r) m r.clock false test ∙ same_printed (world_of r) (record m { election = enter_canvass m.election r.clock }) (take r.commit r.log) refl refl)

reigns_now : (r : Run) (w : World) → IsKept r → r.election.state ≡ LeaderInit → place_of (r.log ++ new_term (member_in r) r.clock ∷ []) ≤ 16777216 → w ≡ with_member (world_of r) (appends (member_in r) (new_term (member_in r) r.clock))
    → record w { member = record w.member { election = record w.member.election { state = LeaderReady; next = r.clock + 100 }; own_end = place_of (r.log ++ new_term (member_in r) r.clock ∷ []) } } ≡ turn (world_of r)
reigns_now r w k state room is =
    let m = member_in r in
    let e = new_term m r.clock in
    let test : nat_le (place_of (r.log ++ e ∷ [])) 16777216 ≡ true = le-leb _ _ room in
    let front : take r.commit (r.log ++ e ∷ []) ≡ take r.commit r.log = take-append-le r.commit r.log (e ∷ []) k.commit in
    ap (λ (v : World). record v { member = record v.member { election = record v.member.election { state = LeaderReady; next = r.clock + 100 }; own_end = place_of (r.log ++ e ∷ []) } }) is
    ∙ sym (turn_init r state ∙ begins_there (world_of r) m r.clock true test ∙ same_printed (world_of r) (reigning m r.clock) (take r.commit r.log) refl front)

pub reigns : (r : Run) (w : World) (e : Event) (end : ℕ) → IsKept r → r.election.state ≡ LeaderInit → end ≤ 16777216 → e ≡ new_term (member_in r) r.clock → end ≡ place_of (r.log ++ e ∷ []) → w ≡ with_member (world_of r) (appends (member_in r) e)
    → record w { member = record w.member { election = record w.member.election { state = LeaderReady; next = r.clock + 100 }; own_end = end } } ≡ turn (world_of r)
reigns r w e end k state room term at is =
    let there = ends_at r e end term at in
    ap (λ (n : ℕ). record w { member = record w.member { election = record w.member.election { state = LeaderReady; next = r.clock + 100 }; own_end = n } }) there
    ∙ reigns_now r w k state (subst (λ n. n ≤ 16777216) there room) (is ∙ ap (λ (x : Event). with_member (world_of r) (appends (member_in r) x)) term)

pub kept_reigning : (r a : Run) (e : Event) (next end : ℕ) → IsKept r → IsKept a → r.election.state ≡ LeaderInit → world_of a ≡ with_member (world_of r) (appends (member_in r) e)
    → IsKept (record a { election = record a.election { state = LeaderReady; next = next }; own_end = end })
kept_reigning r a e next end k l state is =
    let same : a.election ≡ r.election = ap (λ (w : World). w.member.election) is in
    let there : a.election.state ≡ LeaderInit = ap (λ (m : Election). m.state) same ∙ state in
    let term : IsNumber a.election.term = subst (λ (s : State). IsTermed s a.election.candidate a.election.term) there l.election.term in
    record {
      election = record { id = l.election.id; members = l.election.members; candidate = l.election.candidate; term = term };
      commit = l.commit;
      consumed = l.consumed;
      spelled = l.spelled;
      name = l.name;
      room = l.room;
      commit_place = l.commit_place;
      committed = l.committed;
      tentative = l.tentative;
      clients = l.clients;
      connects = l.connects;
      records = l.records;
    }

-- the new term event of a member that is to lead
pub new_term_spelled : (r : Run) → IsKept r → r.election.state ≡ LeaderInit → r.clock ≤ 2 ^ 48 → HasSpelling (new_term (member_in r) r.clock)
new_term_spelled r k state moment =
    let term : IsNumber r.election.term = subst (λ (s : State). IsTermed s r.election.candidate r.election.term) state k.election.term in
    let room = k.room in
    let id = k.election.id in
    let position : IsNumber (pos (place_of r.log)) = (omega (arith, ints), omega (arith, ints, room)) in
    let stamp : IsNumber (pos r.clock) = (omega (arith, ints), omega (arith, ints, moment)) in
    (term, position, stamp, refl, (omega (arith, ints), omega (arith, ints, id)))

-- ---- a leader's duty

entries_all : (log : List Event) (p q : ℕ) → place_from p log ≤ q → entries_from p q log ≡ length log
entries_all [] p q within = refl
entries_all (e ∷ es) p q within =
    let rest : end_after p (event_len e) + 32 * length es ≤ place_from (end_after p (event_len e)) es = places_rise es (end_after p (event_len e)) in
    let here : nat_le (end_after p (event_len e)) q ≡ true = le-leb _ _ (omega arith) in
    ap (λ (b : Bool). if b then suc (entries_from (end_after p (event_len e)) q es) else 0) here ∙ ap suc (entries_all es (end_after p (event_len e)) q within)

alone_at : (p : ℕ) → quorum_position 1 (p ∷ []) ≡ p
alone_at p =
    let self : nat_le p p ≡ true = le-leb p p (omega arith) in
    let most : max 0 p ≡ p = omega arith in
    rw self most

alone_position : (members p : ℕ) → members ≡ 1 → quorum_position members (p ∷ []) ≡ p
alone_position members p one = ap (λ n. quorum_position n (p ∷ [])) one ∙ alone_at p

committed_now : (r : Run) → IsKept r → commit_after (member_in r) ≡ (if nat_le r.own_end (place_of r.log) then length r.log else r.commit)
committed_now r k =
    let p = place_of r.log in
    let q : quorum_position r.election.members (reports_of (member_in r)) ≡ p = alone_position r.election.members p k.election.members in
    let all : entries_to p r.log ≡ length r.log = entries_all r.log 0 p (omega arith) in
    let within = k.commit in
    let most : max r.commit (length r.log) ≡ length r.log = omega arith in
    ap (λ n. if nat_le r.own_end n then max r.commit (entries_to n r.log) else r.commit) q
    ∙ ap (λ n. if nat_le r.own_end p then n else r.commit) (ap (max r.commit) all ∙ most)

turn_ready : (r : Run) → IsKept r → r.election.state ≡ LeaderReady → (c : ℕ) → c ≡ commit_after (member_in r)
    → turn (world_of r) ≡ committed_world (world_of r) (record (member_in r) { election = record r.election { next = if nat_le r.election.next r.clock then r.clock + 100 else r.election.next }; commit = c; log = r.log ++ [] })
turn_ready r k state c is =
    let m = member_in r in
    let heard : is_quorum r.election.members (leader_heard m r.clock) ≡ true = ap (λ n. is_quorum n 1) k.election.members in
    ap (λ (s : State). committed_world (world_of r) (duty_in s m [] r.clock)) state
    ∙ ap (λ (b : Bool). committed_world (world_of r) (if b
    then record m { election = record m.election { next = if nat_le m.election.next r.clock then r.clock + 100 else m.election.next }; commit = commit_after m; log = m.log ++ [] }
    else record m { election = enter_canvass m.election r.clock })) heard
    ∙ ap (λ (n : ℕ). committed_world (world_of r) (record m { election = record m.election { next = if nat_le m.election.next r.clock then r.clock + 100 else m.election.next }; commit = n; log = m.log ++ [] })) (sym is)

leads_now : (r : Run) (c : ℕ) → IsKept r → r.election.state ≡ LeaderReady → c ≡ (if nat_le r.own_end (place_of r.log) then length r.log else r.commit) → r.commit ≤ c → c ≤ length r.log
    → record (world_of r) { member = record (member_in r) { election = record r.election { next = if nat_le r.election.next r.clock then r.clock + 100 else r.election.next }; commit = c }; printed = take c r.log } ≡ turn (world_of r)
leads_now r c k state is more within =
    let m = member_in r in
    let next = if nat_le r.election.next r.clock then r.clock + 100 else r.election.next in
    sym (turn_ready r k state c (is ∙ sym (committed_now r k))
    ∙ ap (λ (l : List Event). committed_world (world_of r) (record m { election = record m.election { next = next }; commit = c; log = l })) (append-nil r.log)
    ∙ ap (λ (p : List Event). record (world_of r) { member = record m { election = record m.election { next = next }; commit = c }; printed = p }) (longer_front r.log r.commit c more within))

leads_with : (r : Run) (next c place : ℕ) → next ≡ (if nat_le r.election.next r.clock then r.clock + 100 else r.election.next) → IsKept r → r.election.state ≡ LeaderReady → c ≡ (if nat_le r.own_end (place_of r.log) then length r.log else r.commit) → r.commit ≤ c → c ≤ length r.log
    → world_of (record r { election = record r.election { next = next }; commit = c; commit_place = place }) ≡ turn (world_of r)
leads_with r next c place word k state is more within =
    ap (λ (n : ℕ). record (world_of r) { member = record (member_in r) { election = record r.election { next = n }; commit = c }; printed = take c r.log }) word ∙ leads_now r c k state is more within

-- its own new term event is in the log, and with it all of the log is committed
pub leads_all : (r : Run) (next c place : ℕ) → next ≡ (if nat_le r.election.next r.clock then r.clock + 100 else r.election.next) → IsKept r → r.election.state ≡ LeaderReady → r.own_end ≤ r.name.place → c ≡ length r.log
    → world_of (record r { election = record r.election { next = next }; commit = c; commit_place = place }) ≡ turn (world_of r)
leads_all r next c place word k state in_log is =
    let there : r.own_end ≤ place_of r.log = subst (λ (n : LogName). r.own_end ≤ n.place) k.name in_log in
    let within = k.commit in
    let test : nat_le r.own_end (place_of r.log) ≡ true = le-leb _ _ there in
    leads_with r next c place word k state (is ∙ sym (ap (λ (b : Bool). if b then length r.log else r.commit) test)) (omega arith) (omega arith)

-- else nothing more is committed
pub leads_none : (r : Run) (next : ℕ) → next ≡ (if nat_le r.election.next r.clock then r.clock + 100 else r.election.next) → IsKept r → r.election.state ≡ LeaderReady → r.name.place < r.own_end
    → world_of (record r { election = record r.election { next = next } }) ≡ turn (world_of r)
leads_none r next word k state past =
    let there : place_of r.log < r.own_end = subst (λ (n : LogName). n.place < r.own_end) k.name past in
    let within = k.commit in
    let test : nat_le r.own_end (place_of r.log) ≡ false = lt-leb _ _ there in
    leads_with r next r.commit r.commit_place word k state (sym (ap (λ (b : Bool). if b then length r.log else r.commit) test)) (omega arith) within

-- ---- every row of the election keeps the one member of its cluster

alone_if : (b : Bool) (x y : Turn) → IsAlone x.election → IsAlone y.election → IsAlone (if b then x else y).election
alone_if true x y p q = p
alone_if false x y p q = q

pub canvass_alone : (m : Election) (now : ℕ) → IsAlone m → IsAlone (enter_canvass m now)
canvass_alone m now a = record { id = a.id; members = a.members; candidate = a.candidate; term = tt }

ends_alone : (m : Election) (own : LogName) (now : ℕ) → IsAlone m → IsAlone (canvass_ends m own now).election
ends_alone m own now a =
    alone_if (is_quorum m.members (1 + heard_count m.heard) && not (list_any (heard_better own) m.heard))
    (record { election = record m { state = Nominate }; decision = D.Nominate })
    (record { election = record m { deadline = now + 300 + 100 * m.id }; decision = D.CanvassAgain })
    (record { id = a.id; members = a.members; candidate = a.candidate; term = tt })
    (record { id = a.id; members = a.members; candidate = a.candidate; term = a.term })

canvassing_alone : (m : Election) (own : LogName) (now : ℕ) → IsAlone m → IsAlone (in_canvass m own now).election
canvassing_alone m own now a =
    let again : Turn = record { election = record m { next = now + 100 }; decision = D.Canvass } in
    alone_if (nat_le m.deadline now) (canvass_ends m own now) (if nat_le m.next now then again else stays m) (ends_alone m own now a)
    (alone_if (nat_le m.next now) again (stays m) (record { id = a.id; members = a.members; candidate = a.candidate; term = a.term }) a)

max_rises : (x y : ℤ) → x ≤ℤ int_max x y
max_rises x y = (fold-int_max_bounds x (y ∷ []) (int_max x y) refl).0

later_rises : (a : ℤ) (h : Option Heard) → a ≤ℤ later a h
later_rises a None = omega (arith, ints)
later_rises a (Some h) = max_rises a h.candidate

all_rise : (heard : List (Option Heard)) (a : ℤ) → a ≤ℤ fold later a heard
all_rise [] a = omega (arith, ints)
all_rise (h ∷ rest) a = let one = later_rises a h in let more = all_rise rest (later a h) in omega (arith, ints, one, more)

nominates_alone : (b : Bool) (m : Election) (most : ℤ) (now : ℕ) → int_le (pos (2 ^ 62)) most ≡ b → negsuc 0 ≤ℤ most → IsAlone m
    → IsAlone (if b
    then returns_to_canvass m now
    else record {
      election = record m { candidate = most +ℤ pos 1; voted = Some m.id; votes = set (replicate 5 false) m.id true; deadline = now + 500; state = CandidateBallot };
      decision = D.Request (most +ℤ pos 1);
    }).election
nominates_alone true m most now is low a = canvass_alone m now a
nominates_alone false m most now is low a =
    let below : most <ℤ pos (2 ^ 62) = grind (arith, ints, is) in
    record { id = a.id; members = a.members; candidate = omega (arith, ints, low); term = (omega (arith, ints, low), omega (arith, ints, below)) }

nominating_alone : (m : Election) (own : LogName) (now : ℕ) → IsAlone m → IsAlone (nominates m (fold later (int_max m.candidate own.term) m.heard) now).election
nominating_alone m own now a =
    let most = fold later (int_max m.candidate own.term) m.heard in
    let low = a.candidate in
    let up : int_max m.candidate own.term ≤ℤ most = all_rise m.heard (int_max m.candidate own.term) in
    let first : m.candidate ≤ℤ int_max m.candidate own.term = max_rises m.candidate own.term in
    nominates_alone (int_le (pos (2 ^ 62)) most) m most now refl (omega (arith, ints, low, up, first)) a

follower_alone : (m : Election) (now : ℕ) → IsAlone m → IsAlone (in_follower_ballot m now).election
follower_alone m now a = alone_if (nat_le m.deadline now) (returns_to_canvass m now) (stays m) (canvass_alone m now a) a

candidate_alone : (m : Election) (now : ℕ) → m.state ≡ CandidateBallot → IsAlone m → IsAlone (in_candidate_ballot m now).election
candidate_alone m now state a =
    let term : IsNumber m.candidate = subst (λ (s : State). IsTermed s m.candidate m.term) state a.term in
    alone_if (is_quorum m.members (vote_count m.votes))
    (record { election = record m { term = m.candidate; leader = Some m.id; state = LeaderInit }; decision = D.Lead })
    (if nat_le m.deadline now then returns_to_canvass m now else stays m)
    (record { id = a.id; members = a.members; candidate = a.candidate; term = term })
    (alone_if (nat_le m.deadline now) (returns_to_canvass m now) (stays m) (canvass_alone m now a) a)

duty_alone : (s : State) (m : Election) (own : LogName) (now : ℕ) → m.state ≡ s → IsAlone m → IsAlone (duty s m own now).election
duty_alone Init m own now state a = canvass_alone m now a
duty_alone Canvass m own now state a = canvassing_alone m own now a
duty_alone Nominate m own now state a = nominating_alone m own now a
duty_alone CandidateBallot m own now state a = candidate_alone m now state a
duty_alone FollowerBallot m own now state a = follower_alone m now a
duty_alone LeaderInit m own now state a = a
duty_alone LeaderReady m own now state a = a
duty_alone FollowerLogReplication m own now state a = a
duty_alone FollowerReady m own now state a = a
duty_alone Closed m own now state a = a

pub kept_elected : (r : Run) (e : Election) → IsKept r → IsAlone e → IsKept (record r { election = e })
kept_elected r e k a = record {
  election = a;
  commit = k.commit;
  consumed = k.consumed;
  spelled = k.spelled;
  name = k.name;
  room = k.room;
  commit_place = k.commit_place;
  committed = k.committed;
  tentative = k.tentative;
  clients = k.clients;
  connects = k.connects;
  records = k.records;
}

pub dutied : (r : Run) (e : Election) → IsKept r → e ≡ (duty r.election.state r.election r.name r.clock).election → IsKept (record r { election = e })
dutied r e k is = kept_elected r e k (subst IsAlone (sym is) (duty_alone r.election.state r.election r.name r.clock refl k.election))

duty_other : (s : State) (m : Member) (now : ℕ) → (s ≡ LeaderInit → ⊥) → (s ≡ LeaderReady → ⊥) → duty_in s m [] now ≡ record m { election = (duty s m.election (name_of m.log) now).election }
duty_other LeaderInit m now a b = absurd (a refl)
duty_other LeaderReady m now a b = absurd (b refl)
duty_other Init m now a b = refl
duty_other Canvass m now a b = refl
duty_other Nominate m now a b = refl
duty_other CandidateBallot m now a b = refl
duty_other FollowerBallot m now a b = refl
duty_other FollowerLogReplication m now a b = refl
duty_other FollowerReady m now a b = refl
duty_other Closed m now a b = refl

pub dutied_world : (r : Run) (e : Election) → IsKept r → (r.election.state ≡ LeaderInit → ⊥) → (r.election.state ≡ LeaderReady → ⊥) → e ≡ (duty r.election.state r.election r.name r.clock).election
    → world_of (record r { election = e }) ≡ turn (world_of r)
dutied_world r e k a b is =
    let m = member_in r in
    let elected : e ≡ (duty r.election.state r.election (name_of r.log) r.clock).election = is ∙ ap (λ n. (duty r.election.state r.election n r.clock).election) k.name in
    sym (ap (committed_world (world_of r)) (duty_other r.election.state m r.clock a b)
    ∙ same_printed (world_of r) (record m { election = (duty r.election.state r.election (name_of r.log) r.clock).election }) (take r.commit r.log) refl refl
    ∙ ap (λ (x : Election). with_member (world_of r) (record m { election = x })) (sym elected))

-- where an event ends that is appended
pub ends_behind : (r : Run) (e : Event) (end : ℕ) → IsKept r → end ≡ end_after r.name.place (event_len e) → end ≡ place_of (r.log ++ e ∷ [])
ends_behind r e end k is = is ∙ ap (λ (n : LogName). end_after n.place (event_len e)) k.name ∙ sym (place_push r.log 0 e)

pub kept_leading : (r : Run) (next c place : ℕ) → IsKept r → r.commit ≤ c → c ≤ length r.log → place ≡ place_of (take c r.log) → IsKept (record r { election = record r.election { next = next }; commit = c; commit_place = place })
kept_leading r next c place k more within is = record {
  election = record { id = k.election.id; members = k.election.members; candidate = k.election.candidate; term = k.election.term };
  commit = within;
  consumed = (let a = k.consumed in omega arith);
  spelled = k.spelled;
  name = k.name;
  room = k.room;
  commit_place = is;
  committed = k.committed;
  tentative = k.tentative;
  clients = k.clients;
  connects = k.connects;
  records = k.records;
}

-- ---- a phase

consumed_length : (r : Run) → IsKept r → length (take r.consumed r.log) ≡ r.consumed
consumed_length r k = length-take-le r.consumed r.log (let a = k.commit in let b = k.consumed in omega arith)

all_taken : (r : Run) → IsKept r → take r.consumed r.log ++ take (r.commit - r.consumed) (drop r.consumed r.log) ≡ take r.commit r.log
all_taken r k =
    let a = k.commit in
    let b = k.consumed in
    let whole : r.consumed + (r.commit - r.consumed) ≡ r.commit = omega arith in
    sym (take-add r.log r.consumed (r.commit - r.consumed) (omega arith)) ∙ ap (λ n. take n r.log) whole

-- what the service takes in a phase
abbrev pub due_in : Run → List Event
due_in r = take (r.commit - r.consumed) (drop r.consumed r.log)

phased_now : (r : Run) (sent : List Sent) (echo : Echo) (m : Module) → IsKept r → sent ≡ r.sent ++ sent_from r.election r.committed r.consumed (due_in r)
    → world_of (record r { consumed = r.commit; sent = sent; echo = echo; committed = m }) ≡ phase (world_of r)
phased_now r sent echo m k is =
    let w = world_of r in
    let n = consumed_length r k in
    let taken : take r.commit r.log ≡ take r.consumed r.log ++ due_in r = sym (all_taken r k) in
    let was : sent ≡ r.sent ++ sent_from r.election (module_of (take r.consumed r.log)) r.consumed (due_in r) = is ∙ ap (λ (x : Module). r.sent ++ sent_from r.election x r.consumed (due_in r)) k.committed in
    ap (λ (xs : List Event). record w { inputs = xs; sent = sent }) taken
    ∙ ap (λ (ss : List Sent). record w { inputs = take r.consumed r.log ++ due_in r; sent = ss }) was
    ∙ ap (λ (c : ℕ). record w { inputs = take r.consumed r.log ++ take (r.commit - c) (drop c r.log); sent = r.sent ++ sent_from r.election (module_of (take c r.log)) c (take (r.commit - c) (drop c r.log)) }) (sym n)

kept_phased_now : (r : Run) (sent : List Sent) (echo : Echo) (m : Module) → IsKept r → sent ≡ r.sent ++ sent_from r.election r.committed r.consumed (due_in r) → m ≡ fold module_after r.committed (due_in r) → IsKept (record r { consumed = r.commit; sent = sent; echo = echo; committed = m })
kept_phased_now r sent echo m k put is = record {
  election = k.election;
  commit = k.commit;
  consumed = omega arith;
  spelled = k.spelled;
  name = k.name;
  room = k.room;
  commit_place = k.commit_place;
  committed = is ∙ ap (λ (x : Module). fold module_after x (due_in r)) k.committed ∙ sym (fold-append module_after empty (take r.consumed r.log) (due_in r)) ∙ ap module_of (all_taken r k);
  tentative = k.tentative;
  clients = k.clients;
  connects = k.connects;
  records = subst (All IsWritable) (sym put) (All-append IsWritable r.sent (sent_from r.election r.committed r.consumed (due_in r)) k.records (entries_writable r.election r.committed r.consumed (due_in r)));
}

-- what the service takes, where the log was read as l
abbrev pub due_of : Run → List Event → List Event
due_of r l = take (r.commit - r.consumed) (drop r.consumed l)

pub phased : (r : Run) (l : List Event) (sent : List Sent) (echo : Echo) (m : Module) → IsKept r → l ≡ r.log → sent ≡ r.sent ++ sent_from r.election r.committed r.consumed (due_of r l)
    → world_of (record r { consumed = r.commit; sent = sent; echo = echo; committed = m }) ≡ phase (world_of r)
phased r l sent echo m k read is = phased_now r sent echo m k (is ∙ ap (λ (x : List Event). r.sent ++ sent_from r.election r.committed r.consumed (due_of r x)) read)

pub kept_phased : (r : Run) (l : List Event) (sent : List Sent) (echo : Echo) (m : Module) → IsKept r → l ≡ r.log → sent ≡ r.sent ++ sent_from r.election r.committed r.consumed (due_of r l) → m ≡ fold module_after r.committed (due_of r l)
    → IsKept (record r { consumed = r.commit; sent = sent; echo = echo; committed = m })
kept_phased r l sent echo m k read put is =
    kept_phased_now r sent echo m k
    (put ∙ ap (λ (x : List Event). r.sent ++ sent_from r.election r.committed r.consumed (due_of r x)) read)
    (is ∙ ap (λ (x : List Event). fold module_after r.committed (due_of r x)) read)

next_taken : (r : Run) → IsKept r → (r.committed.next_id +ℤ pos (length (due_in r))) ≤ℤ pos (2 ^ 62)
next_taken r k =
    let front = take r.consumed r.log in
    let high : (module_of front).next_id ≤ℤ pos (1 + length front) = next_id_high front in
    let same : r.committed.next_id ≡ (module_of front).next_id = ap (λ (m : Module). m.next_id) k.committed in
    let counted : length front + length (due_in r) ≡ length (take r.commit r.log) = sym (length-append front (due_in r)) ∙ ap length (all_taken r k) in
    let within : length (take r.commit r.log) ≡ r.commit = length-take-le r.commit r.log k.commit in
    let long : 0 + 32 * length r.log ≤ place_of r.log = places_rise r.log 0 in
    let room = k.room in
    let some = k.commit in
    let few : 1 + length front + length (due_in r) ≤ 2 ^ 62 = omega arith in
    omega (arith, ints, high, same, few)

pub next_within : (r : Run) (l : List Event) → IsKept r → l ≡ r.log → (r.committed.next_id +ℤ pos (length (due_of r l))) ≤ℤ pos (2 ^ 62)
next_within r l k read = subst (λ (x : List Event). (r.committed.next_id +ℤ pos (length (due_of r x))) ≤ℤ pos (2 ^ 62)) (sym read) (next_taken r k)

-- ---- rounds

pub round_next : (w : World) (n k : ℕ) → k < n → rounds (n - k) w ≡ rounds (n - (k + 1)) (round w)
round_next w n k below = ap (λ j. rounds j w) (let more : n - k ≡ suc (n - (k + 1)) = omega arith in more)

pub rounds_none : (w : World) (n k : ℕ) → n ≤ k → rounds (n - k) w ≡ w
rounds_none w n k past = ap (λ j. rounds j w) (let none : n - k ≡ 0 = omega arith in none)

-- ---- the beginning

pub fresh_kept : (r : Run) → r.election ≡ begins 0 1 (negsuc 0) None → r.log ≡ [] → r.name ≡ record { term = negsuc 0; place = 0 } → r.commit ≡ 0 → r.commit_place ≡ 0 → r.consumed ≡ 0
    → r.committed ≡ empty → r.tentative ≡ empty → r.connects ≡ replicate 64 0 → r.sent ≡ [] → IsKept r
fresh_kept r election log name commit place consumed committed tentative connects sent = record {
  election = subst IsAlone (sym election) (record { id = refl; members = refl; candidate = omega (arith, ints); term = tt });
  commit = omega arith;
  consumed = omega arith;
  spelled = subst (All HasSpelling) (sym log) (All-nil HasSpelling);
  name = name ∙ ap name_of (sym log);
  room = subst (λ (l : List Event). place_of l ≤ 16777216) (sym log) (omega arith);
  commit_place = place ∙ sym (ap (λ n. place_of (take n r.log)) commit);
  committed = committed ∙ sym (ap (λ n. module_of (take n r.log)) consumed);
  tentative = tentative ∙ ap module_of (sym log);
  clients = ap length connects ∙ length-replicate {A = ℕ} 64 0;
  connects = subst (All (λ n. n ≤ length r.told)) (sym connects) (All-replicate (λ n. n ≤ length r.told) 64 0 (omega arith));
  records = subst (All IsWritable) (sym sent) (All-nil IsWritable);
}
