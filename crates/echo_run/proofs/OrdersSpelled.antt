-- The events that orders offer have a spelling.
use Rattle.std.proofs.Common.{◌≡◌, ℕ, suc, ◌+◌, ◌^◌, ◌<◌, ◌≤◌, ℤ, pos, negsuc, ◌+ℤ◌, IsTrue, List, [], length, Option, Some, None, sym, ◌∙◌, ap, subst, arith, to_z, of_z}
use Rattle.std.specs.Prelude.{FitsSigned, slice_index, is_some}
use Rattle.std.specs.Int.{w32, w64}
use Rattle.std.proofs.lemmas.Int.{ints, to_z-of_z, to_z_pos}
use Rattle.election.specs.declared.member.State.{State}
use Rattle.election.specs.declared.member.State.TheVariants.{LeaderReady}
use Rattle.sbe_events.specs.Spelling.{IsNumber, IsClient, HasSpelling}
use Rattle.sbe_events.specs.declared.event.Event.{Event}
use Rattle.sbe_events.specs.declared.event.Event.TheVariants as event
use Rattle.echo_run.specs.Driver.{IsTermed, IsKept, world_of}
use Rattle.echo_run.specs.Module.{module_of, session_of}
use Rattle.echo_run.specs.World.{is_ready}
use Rattle.echo_run.specs.declared.module.Module.{Module}
use Rattle.echo_run.specs.declared.module.Session.{Session}
use Rattle.echo_run.specs.declared.run.Run.{Run}
use Rattle.echo_run.proofs.LogBounds.{places_rise, next_id_low, next_id_high, open_client}
use Rattle.echo_run.proofs.OrdersWorlds.{open_of, count_before}

termed_number : (s : State) (candidate term : ℤ) → IsTrue (is_ready s) → IsTermed s candidate term → IsNumber term
termed_number LeaderReady candidate term ready termed = termed
termed_number _ candidate term ready termed = absurd (cc)

-- the term in which a member leads is a number that an event may have
pub ready_term : (r : Run) → IsKept r → IsTrue (is_ready r.election.state) → IsNumber r.election.term
ready_term r kept ready = termed_number r.election.state r.election.candidate r.election.term ready kept.election.term

-- so few entries fit in a log
pub log_few : (r : Run) → IsKept r → length r.log ≤ 524288
log_few r kept = let places = places_rise r.log 0 in let room = kept.room in omega (arith, places, room)

same_open : {t t' c c' s s' m m' z z' : ℤ} {xs ys : List ℕ} → t ≡ t' → c ≡ c' → s ≡ s' → m ≡ m' → z ≡ z' → xs ≡ ys → event.Opened t c s m z xs ≡ event.Opened t' c' s' m' z' ys
same_open a b c d e f = cc

-- the next session's number is a client's
pub next_client : (r : Run) → IsKept r → IsClient (module_of r.log).next_id
next_client r kept =
    let low = next_id_low r.log in
    let high = next_id_high r.log in
    let few = log_few r kept in
    (omega (arith, ints, low), omega (arith, ints, high, few))

stamp_number : (clock : ℕ) → clock ≤ 2 ^ 48 → IsNumber (pos clock)
stamp_number clock moment = (omega (arith, ints), omega (arith, ints))

corr_fits : (n : ℕ) → n < 2 ^ 40 → FitsSigned w64 (pos n)
corr_fits n few = record { sfits = omega (arith, few) }

stream_fits : (n : ℕ) → n < 64 → FitsSigned w32 (pos n)
stream_fits n few = record { sfits = omega (arith, few) }

client_fits : (z : ℤ) → IsClient z → FitsSigned w64 z
client_fits (pos n) client = let high = client.1 in record { sfits = omega (arith, ints, high) }
client_fits (negsuc n) client = let low = client.0 in let no : ⊥ = omega (arith, ints, low) in absurd no

count_few : (r : Run) (client : ℕ) → IsKept r → client < 64 → length r.told < 2 ^ 32 → slice_index r.connects client < 2 ^ 32
count_few r client kept named count =
    let all = kept.clients in
    let before : slice_index r.connects client ≤ length r.told = count_before r.told r.connects client (omega (arith, all)) kept.connects in
    omega (arith, before, count)

pub open_spelled : (r : Run) (client : ℕ) → IsKept r → client < 64 → r.clock ≤ 2 ^ 48 → length r.told < 2 ^ 32 → IsTrue (is_ready r.election.state) → HasSpelling (open_of client (world_of r))
open_spelled r client kept named moment count ready =
    let few = count_few r client kept named count in (
      ready_term r kept ready,
      corr_fits (suc (slice_index r.connects client)) (omega (arith, few)),
      next_client r kept,
      stamp_number r.clock moment,
      stream_fits client named,
      omega arith,
    )

-- the open as its numbers are computed
abbrev pub computed_open : Run → ℕ → List ℕ → Event
computed_open r client channel = event.Opened (to_z w64 (of_z w64 r.election.term)) (to_z w64 (of_z w64 (to_z w64 (slice_index r.connects client) +ℤ pos 1))) (to_z w64 (of_z w64 r.tentative.next_id)) (to_z w64 r.clock) (to_z w32 client) channel

computed_corr : (n : ℕ) → n < 2 ^ 32 → to_z w64 (of_z w64 (to_z w64 n +ℤ pos 1)) ≡ pos (suc n)
computed_corr n few =
    let one : n + 1 ≡ suc n = omega arith in
    ap (λ z. to_z w64 (of_z w64 (z +ℤ pos 1))) (to_z_pos w64 n (omega (arith, few)))
    ∙ ap (λ k. to_z w64 (of_z w64 (pos k))) one
    ∙ to_z-of_z w64 (pos (suc n)) (corr_fits (suc n) (omega (arith, few)))

pub corr_is : (r : Run) (client : ℕ) → IsKept r → client < 64 → length r.told < 2 ^ 32 → to_z w64 (of_z w64 (to_z w64 (slice_index r.connects client) +ℤ pos 1)) ≡ pos (suc (slice_index r.connects client))
corr_is r client kept named count = computed_corr (slice_index r.connects client) (count_few r client kept named count)

pub open_is : (r : Run) (client : ℕ) (channel : List ℕ) → IsKept r → client < 64 → r.clock ≤ 2 ^ 48 → length r.told < 2 ^ 32 → FitsSigned w64 r.election.term → channel ≡ [] → computed_open r client channel ≡ open_of client (world_of r)
open_is r client channel kept named moment count term_fits none =
    let next : r.tentative.next_id ≡ (module_of r.log).next_id = ap (λ (m : Module). m.next_id) kept.tentative in
    let term : to_z w64 (of_z w64 r.election.term) ≡ r.election.term = to_z-of_z w64 r.election.term term_fits in
    let corr : to_z w64 (of_z w64 (to_z w64 (slice_index r.connects client) +ℤ pos 1)) ≡ pos (suc (slice_index r.connects client)) = corr_is r client kept named count in
    let session : to_z w64 (of_z w64 r.tentative.next_id) ≡ (module_of r.log).next_id =
    ap (λ z. to_z w64 (of_z w64 z)) next ∙ to_z-of_z w64 (module_of r.log).next_id (client_fits (module_of r.log).next_id (next_client r kept)) in
    let stamp : to_z w64 r.clock ≡ pos r.clock = to_z_pos w64 r.clock (omega (arith, moment)) in
    let stream : to_z w32 client ≡ pos client = to_z_pos w32 client (omega (arith, named)) in
    same_open term corr session stamp stream none

pub computed_spelled : (r : Run) (client : ℕ) (channel : List ℕ) → IsKept r → client < 64 → r.clock ≤ 2 ^ 48 → length r.told < 2 ^ 32 → FitsSigned w64 r.election.term → channel ≡ [] → IsTrue (is_ready r.election.state) → HasSpelling (computed_open r client channel)
computed_spelled r client channel kept named moment count term_fits none ready = subst HasSpelling (sym (open_is r client channel kept named moment count term_fits none)) (open_spelled r client kept named moment count ready)

pub message_spelled : (r : Run) (session : ℤ) (payload : List ℕ) → IsKept r → r.clock ≤ 2 ^ 48 → IsTrue (is_ready r.election.state) → IsClient session → length payload ≤ 16384 → HasSpelling (event.Message r.election.term session (pos r.clock) payload)
message_spelled r session payload kept moment ready client short = (ready_term r kept ready, client, stamp_number r.clock moment, short)

some_client : (r : Run) → IsKept r → (id : ℤ) (found : Option Session) → session_of (module_of r.log) id ≡ found → IsTrue (is_some found) → IsClient id
some_client r kept id None is some = absurd (cc)
some_client r kept id (Some s) is some = open_client r.log id s kept.spelled is

-- a session that is found has a client's number
pub client_found : (r : Run) (id : ℤ) (found : Option Session) → IsKept r → found ≡ session_of r.tentative id → IsTrue (is_some found) → IsClient id
client_found r id found kept is some = some_client r kept id found (ap (λ m. session_of m id) (sym kept.tentative) ∙ sym is) some
