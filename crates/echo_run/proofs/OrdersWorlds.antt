-- The worlds that orders leave.
use Rattle.std.proofs.Common.{◌≡◌, ℕ, zero, suc, ◌+◌, ◌*◌, ◌^◌, ◌<◌, ◌≤◌, ℤ, pos, List, [], ◌∷◌, ◌++◌, length, fold, drop, get_or, refl, sym, ◌∙◌, ap, subst, arith, length-append}
use Rattle.std.specs.Prelude.{slice_index, slice_set, All}
use Rattle.std.proofs.Math.ListN.{length-set}
use Rattle.std.proofs.lemmas.List.{drop_all}
use Rattle.std.proofs.lemmas.List.Elements.{All-set, All-weaker}
use Rattle.sbe_events.specs.declared.event.Event.{Event}
use Rattle.sbe_events.specs.declared.event.Event.TheVariants as event
use Rattle.scenario.specs.declared.order.Order.{Order}
use Rattle.scenario.specs.declared.order.Order.TheVariants as order
use Rattle.echo_run.specs.Form.{rounds_in}
use Rattle.echo_run.specs.Driver.{IsKept, IsWritable, rounds_of, member_in, world_of}
use Rattle.echo_run.specs.LeaderRows.{Member}
use Rattle.echo_run.specs.Module.{module_of}
use Rattle.echo_run.specs.World.{World, with_member, taken, connect_outcome, message_outcome, answers, known_by, connects_to, sends, round, rounds, step}
use Rattle.echo_run.specs.declared.clients.Known.{Known}
use Rattle.echo_run.specs.declared.run.Run.{Run}
use Rattle.echo_run.specs.declared.sent.OrderLine.{OrderLine}
use Rattle.echo_run.specs.declared.sent.Outcome.{Outcome}
use Rattle.echo_run.specs.declared.sent.Sent.{Sent}
use Rattle.echo_run.proofs.OrdersOffers.{taken_election}
use Rattle.echo_run.proofs.Sending.{next_item}

abbrev pub told_of : ℕ → Outcome → OrderLine
told_of line o = record { line = line; outcome = o }

-- a world in which an offer was taken, and its outcome is told
abbrev told_world : ℕ → World → Event → Outcome → World
told_world line w e o = record w { member = taken w.member e o; told = w.told ++ told_of line o ∷ [] }

-- and in which the connect is answered and counted
abbrev connected_world : ℕ → ℕ → World → Event → Outcome → World
connected_world line client w e o = record w {
  member = taken w.member e o;
  sent = w.sent ++ answers client (pos (suc (slice_index w.connects client))) w.member.election o;
  told = w.told ++ told_of line o ∷ [];
  connects = slice_set w.connects client (suc (slice_index w.connects client));
}

-- the open that a connect offers
abbrev pub open_of : ℕ → World → Event
open_of client w = event.Opened w.member.election.term (pos (suc (slice_index w.connects client))) (module_of w.member.log).next_id (pos w.now) (pos client) []

-- the message that a client sends
abbrev pub message_of : List ℕ → Known → World → Event
message_of text k w = event.Message w.member.election.term k.session (pos w.now) text

pub sends_world : (line client : ℕ) (text : List ℕ) (w v : World) (k : Known) (e : Event) (o : Outcome) → k ≡ known_by client w.sent → e ≡ message_of text k w → o ≡ message_outcome w.member k.term k.session (length text) e → v ≡ with_member w (taken w.member e o) → record v { told = v.told ++ told_of line o ∷ [] } ≡ sends line client text w
sends_world line client text w v k e o known is becomes now =
    ap (λ (u : World). record u { told = u.told ++ told_of line o ∷ [] }) now
    ∙ ap (told_world line w e) becomes
    ∙ ap (λ x. told_world line w x (message_outcome w.member k.term k.session (length text) x)) is
    ∙ ap (λ (x : Known). told_world line w (message_of text x w) (message_outcome w.member x.term x.session (length text) (message_of text x w))) known

pub connects_world : (line client : ℕ) (w v : World) (e : Event) (o : Outcome) → e ≡ open_of client w → o ≡ connect_outcome w.member e → v ≡ with_member w (taken w.member e o) → record v { sent = v.sent ++ answers client (pos (suc (slice_index w.connects client))) w.member.election o; told = v.told ++ told_of line o ∷ []; connects = slice_set v.connects client (suc (slice_index w.connects client)) } ≡ connects_to line client w
connects_world line client w v e o is becomes now =
    ap (λ (u : World). record u { sent = u.sent ++ answers client (pos (suc (slice_index w.connects client))) w.member.election o; told = u.told ++ told_of line o ∷ []; connects = slice_set u.connects client (suc (slice_index w.connects client)) }) now
    ∙ ap (connected_world line client w e) becomes
    ∙ ap (λ x. connected_world line client w x (connect_outcome w.member x)) is

-- each connect is told, so a client hasn't sent more than are told
told_more : (told : List OrderLine) (x : OrderLine) (counts : List ℕ) → All (λ n. n ≤ length told) counts → All (λ n. n ≤ length (told ++ x ∷ [])) counts
told_more told x counts few =
    let one : length (told ++ x ∷ []) ≡ length told + 1 = length-append told (x ∷ []) in
    All-weaker (λ n. n ≤ length told) (λ n. n ≤ length (told ++ x ∷ [])) (λ n h. omega arith) counts few

pub count_before : (told : List OrderLine) (counts : List ℕ) (client : ℕ) → client < length counts → All (λ n. n ≤ length told) counts → slice_index counts client ≤ length told
count_before told counts client within few = few client 0 within

pub count_more : (told : List OrderLine) (x : OrderLine) (counts : List ℕ) (client : ℕ) → client < length counts → All (λ n. n ≤ length told) counts → All (λ n. n ≤ length (told ++ x ∷ [])) (slice_set counts client (suc (slice_index counts client)))
count_more told x counts client within few =
    let one : length (told ++ x ∷ []) ≡ length told + 1 = length-append told (x ∷ []) in
    let before : slice_index counts client ≤ length told = few client 0 within in
    All-set (λ n. n ≤ length (told ++ x ∷ [])) counts client (suc (slice_index counts client)) (omega arith) (told_more told x counts few)

-- what is sent, told and counted beside changes nothing that is kept
pub kept_connected : (r : Run) (sent : List Sent) (told : List OrderLine) (connects : List ℕ) (x : OrderLine) (client : ℕ) → client < 64 → told ≡ r.told ++ x ∷ [] → connects ≡ slice_set r.connects client (suc (slice_index r.connects client)) → All IsWritable sent → IsKept r → IsKept (record r { sent = sent; told = told; connects = connects })
kept_connected r sent told connects x client named told_is connects_is writable kept = record {
  election = kept.election;
  commit = kept.commit;
  consumed = kept.consumed;
  spelled = kept.spelled;
  name = kept.name;
  room = kept.room;
  commit_place = kept.commit_place;
  committed = kept.committed;
  tentative = kept.tentative;
  clients = ap length connects_is ∙ length-set r.connects client (suc (slice_index r.connects client)) ∙ kept.clients;
  connects = subst (λ (ls : List OrderLine). All (λ n. n ≤ length ls) connects) (sym told_is)
      (subst (λ (ns : List ℕ). All (λ n. n ≤ length (r.told ++ x ∷ [])) ns) (sym connects_is)
      (count_more r.told x r.connects client (let all = kept.clients in omega (arith, all)) kept.connects));
  records = writable;
}

-- the client's count is one more than before the offer
pub counted : (before after : World) (m : Member) (client : ℕ) → after ≡ with_member before m → slice_set after.connects client (slice_index before.connects client + 1) ≡ slice_set after.connects client (suc (slice_index after.connects client))
counted before after m client is =
    let one : slice_index before.connects client + 1 ≡ suc (slice_index before.connects client) = omega arith in
    ap (slice_set after.connects client) (one ∙ ap (λ (w : World). suc (slice_index w.connects client)) (sym is))

-- the run that a connect leaves
pub connected : (line client : ℕ) (r s : Run) (sent : List Sent) (told : List OrderLine) (corr : ℤ) (e : Event) (o : Outcome) → e ≡ open_of client (world_of r) → corr ≡ pos (suc (slice_index r.connects client)) → o ≡ connect_outcome (member_in r) e → world_of s ≡ with_member (world_of r) (taken (member_in r) e o) → sent ≡ s.sent ++ answers client corr s.election o → told ≡ s.told ++ told_of line o ∷ [] → world_of (record s { sent = sent; told = told; connects = slice_set s.connects client (slice_index r.connects client + 1) }) ≡ connects_to line client (world_of r)
connected line client r s sent told corr e o e_is corr_is o_is now sent_is told_is =
    let one : slice_index r.connects client + 1 ≡ suc (slice_index r.connects client) = omega arith in
    let election : s.election ≡ r.election = ap (λ (w : World). w.member.election) now ∙ taken_election (member_in r) e o in
    ap (λ ss. record (world_of s) { sent = ss; told = told; connects = slice_set s.connects client (slice_index r.connects client + 1) }) (sent_is ∙ ap (λ z. s.sent ++ answers client z s.election o) corr_is ∙ ap (λ m. s.sent ++ answers client (pos (suc (slice_index r.connects client))) m o) election)
    ∙ ap (λ ts. record (world_of s) { sent = s.sent ++ answers client (pos (suc (slice_index r.connects client))) r.election o; told = ts; connects = slice_set s.connects client (slice_index r.connects client + 1) }) told_is
    ∙ ap (λ n. record (world_of s) { sent = s.sent ++ answers client (pos (suc (slice_index r.connects client))) r.election o; told = s.told ++ told_of line o ∷ []; connects = slice_set s.connects client n }) one
    ∙ connects_world line client (world_of r) (world_of s) e o e_is o_is now

-- the run that a send leaves
pub sent_on : (line client : ℕ) (text : List ℕ) (r s : Run) (told : List OrderLine) (k : Known) (e : Event) (n : ℕ) (o : Outcome) → k ≡ known_by client r.sent → e ≡ message_of text k (world_of r) → n ≡ length text → o ≡ message_outcome (member_in r) k.term k.session n e → world_of s ≡ with_member (world_of r) (taken (member_in r) e o) → told ≡ s.told ++ told_of line o ∷ [] → world_of (record s { told = told }) ≡ sends line client text (world_of r)
sent_on line client text r s told k e n o known is size becomes now told_is =
    ap (λ ts. record (world_of s) { told = ts }) told_is
    ∙ sends_world line client text (world_of r) (world_of s) k e o known is (becomes ∙ ap (λ n. message_outcome (member_in r) k.term k.session n e) size) now

-- rounds take 10 ms each, and tell nothing
rounds_now : (n : ℕ) (w : World) → (rounds n w).now ≡ w.now + 10 * n
rounds_now zero w = omega arith
rounds_now (suc n) w = let rest : (rounds n (round w)).now ≡ (w.now + 10) + 10 * n = rounds_now n (round w) in omega (arith, rest)

rounds_told : (n : ℕ) (w : World) → (rounds n w).told ≡ w.told
rounds_told zero w = refl
rounds_told (suc n) w = rounds_told n (round w)

-- an order takes its rounds, and tells one line at most
record Goes (o : Order) (old new : World) : Type 0 where
  now : new.now ≡ old.now + 10 * rounds_in o
  told : length new.told ≤ length old.told + 1

still : (o : Order) (w : World) → rounds_in o ≡ 0 → Goes o w w
still o w none = record { now = omega (arith, none); told = omega arith }

one_line : (o : Order) (old new : World) → rounds_in o ≡ 0 → new.now ≡ old.now → (x : OrderLine) → new.told ≡ old.told ++ x ∷ [] → Goes o old new
one_line o old new none same x more =
    let one : length new.told ≡ length old.told + 1 = ap length more ∙ length-append old.told (x ∷ []) in
    record { now = omega (arith, none, same); told = omega (arith, one) }

step_goes : (w : World) (o : Order) → Goes o w (step w o)
step_goes w (order.Rounds line n) = record { now = rounds_now n w; told = let same : length (rounds n w).told ≡ length w.told = ap length (rounds_told n w) in omega (arith, same) }
step_goes w (order.Connect line client member) = one_line (order.Connect line client member) w (connects_to line client w) refl refl _ refl
step_goes w (order.Send line client member text) = one_line (order.Send line client member text) w (sends line client text w) refl refl _ refl
step_goes w (order.Members line members) = still (order.Members line members) w refl
step_goes w (order.Service line name) = still (order.Service line name) w refl
step_goes w (order.Quiet line rounds) = still (order.Quiet line rounds) w refl
step_goes w (order.SendHex line client member payload) = still (order.SendHex line client member payload) w refl
step_goes w (order.Close line client member) = still (order.Close line client member) w refl
step_goes w (order.KeepAlive line client member) = still (order.KeepAlive line client member) w refl
step_goes w (order.Raw line client member bytes) = still (order.Raw line client member bytes) w refl
step_goes w (order.Action line member) = still (order.Action line member) w refl
step_goes w (order.Stop line member) = still (order.Stop line member) w refl
step_goes w (order.Start line member) = still (order.Start line member) w refl
step_goes w (order.Invalidate line member) = still (order.Invalidate line member) w refl
step_goes w (order.Fuse line member calls choice) = still (order.Fuse line member calls choice) w refl
step_goes w (order.Cut line a b) = still (order.Cut line a b) w refl
step_goes w (order.Heal line a b) = still (order.Heal line a b) w refl
step_goes w (order.Lose line a b) = still (order.Lose line a b) w refl
step_goes w (order.Replay line a b latest) = still (order.Replay line a b latest) w refl
step_goes w (order.FreeOn line) = still (order.FreeOn line) w refl
step_goes w (order.FreeOff line) = still (order.FreeOff line) w refl
step_goes w (order.Join line client) = still (order.Join line client) w refl
step_goes w (order.Offer line client text) = still (order.Offer line client text) w refl
step_goes w (order.Backup line member) = still (order.Backup line member) w refl
step_goes w (order.BackupOff line) = still (order.BackupOff line) w refl
step_goes w (order.BackupLose line) = still (order.BackupLose line) w refl

-- the front of the orders is run: what is left leads to the world that all lead to, and there are moments and lines for it
pub record Stepped (orders : List Order) (i : ℕ) (first now : Run) : Type 0 where
  pub kept : IsKept now
  pub world : fold step (world_of now) (drop i orders) ≡ fold step (world_of first) orders
  pub moment : now.clock + 10 * rounds_of (drop i orders) ≤ 2 ^ 48
  pub count : length now.told + length (drop i orders) < 2 ^ 32

module _ (orders : List Order) (i : ℕ) (first now : Run) (o : Order) (stepped : Stepped orders i first now) (within : i < length orders) (is : o ≡ get_or orders i o) where
  left : drop i orders ≡ o ∷ drop (i + 1) orders
  left = next_item orders i o within is

  rounds_left : rounds_of (drop i orders) ≡ rounds_in o + rounds_of (drop (i + 1) orders)
  rounds_left = ap rounds_of left

  lines_left : length (drop i orders) ≡ 1 + length (drop (i + 1) orders)
  lines_left = ap length left ∙ (let one : suc (length (drop (i + 1) orders)) ≡ 1 + length (drop (i + 1) orders) = omega arith in one)

  pub moment_here : now.clock + 10 * rounds_in o ≤ 2 ^ 48
  moment_here = let all = stepped.moment in let part = rounds_left in omega (arith, all, part)

  pub count_here : length now.told < 2 ^ 32
  count_here = let all = stepped.count in let part = lines_left in omega (arith, all, part)

  pub stepped_more : (new : Run) → IsKept new → world_of new ≡ step (world_of now) o → Stepped orders (i + 1) first new
  stepped_more new kept next =
      let goes = step_goes (world_of now) o in
      let clock : new.clock ≡ now.clock + 10 * rounds_in o = ap (λ (w : World). w.now) next ∙ goes.now in
      let told : length new.told ≡ length (step (world_of now) o).told = ap (λ (w : World). length w.told) next in
      let few : length (step (world_of now) o).told ≤ length now.told + 1 = goes.told in
      let moments = stepped.moment in
      let rounds_here = rounds_left in
      let lines = stepped.count in
      let lines_here = lines_left in
      record {
        kept = kept;
        world = ap (λ w. fold step w (drop (i + 1) orders)) next ∙ sym (ap (fold step (world_of now)) left) ∙ stepped.world;
        moment = omega (arith, clock, moments, rounds_here);
        count = omega (arith, told, few, lines, lines_here);
      }

pub stepped_none : (orders : List Order) (r : Run) → IsKept r → r.clock + 10 * rounds_of orders ≤ 2 ^ 48 → length r.told + length orders < 2 ^ 32 → Stepped orders 0 r r
stepped_none orders r kept moment count = record { kept = kept; world = refl; moment = moment; count = count }

pub stepped_all : (orders : List Order) (i : ℕ) (first now : Run) → Stepped orders i first now → length orders ≤ i → world_of now ≡ fold step (world_of first) orders
stepped_all orders i first now stepped past = sym (ap (fold step (world_of now)) (drop_all i orders past)) ∙ stepped.world
