-- How long a log is that ends at a place, and what the module of a log keeps.
use Rattle.std.proofs.Common.{◌≡◌, ℕ, ◌+◌, ◌*◌, ◌≤◌, ℤ, pos, ◌+ℤ◌, ◌≤ℤ◌, Bool, true, false, cond, not, if◌then◌else◌, nat_le, List, [], ◌∷◌, ◌++◌, length, fold, Option, Some, refl, arith}
use Rattle.std.specs.Prelude.{All, find}
use Rattle.std.proofs.lemmas.Int.{ints}
use Rattle.std.proofs.lemmas.Bool.Decides.{nat_tests}
use Rattle.std.proofs.lemmas.List.Elements.{All-nil, All-push, All-filter, All-head, All-tail}
use Rattle.entry_log.specs.Log.{frames_len, end_after}
use Rattle.sbe_events.specs.Spelling.{IsClient, HasSpelling}
use Rattle.sbe_events.specs.declared.event.Event.{Event}
use Rattle.sbe_events.specs.declared.event.Event.TheVariants as event
use Rattle.echo_run.specs.Module.{event_len, place_from, empty, is_session, module_after, module_of, session_of}
use Rattle.echo_run.proofs.Lengths.{len_least}
use Rattle.echo_run.specs.declared.module.Session.{Session}
use Rattle.echo_run.specs.declared.module.Module.{Module}

-- an event's frames take at least one frame's head
frames_least : (n : ℕ) → 1 ≤ n → 32 ≤ frames_len n
frames_least n some = grind (arith, nat_tests)

end_by : (p room frames : ℕ) → 32 ≤ frames → p + 32 ≤ (if nat_le frames room then p + frames else p + room + frames)
end_by p room frames least = elim (nat_le frames room) as (λ b. p + 32 ≤ (if b then p + frames else p + room + frames)) [ true ↦ omega arith | false ↦ omega arith ]

-- an event ends at least 32 bytes behind where it is written
pub end_rises : (p : ℕ) (e : Event) → p + 32 ≤ end_after p (event_len e)
unfolding end_after
end_rises p e = end_by p _ (frames_len (event_len e)) (frames_least (event_len e) (let least = len_least e in omega (arith, least)))

-- each event takes at least 32 bytes of the log
pub places_rise : (log : List Event) (p : ℕ) → p + 32 * length log ≤ place_from p log
places_rise [] p = omega arith
places_rise (e ∷ es) p =
    let rest : end_after p (event_len e) + 32 * length es ≤ place_from (end_after p (event_len e)) es = places_rise es (end_after p (event_len e)) in
    let one : p + 32 ≤ end_after p (event_len e) = end_rises p e in
    omega arith

-- an appended event begins where the log ends
pub place_push : (log : List Event) (p : ℕ) (e : Event) → place_from p (log ++ e ∷ []) ≡ end_after (place_from p log) (event_len e)
place_push [] p e = refl
place_push (x ∷ xs) p e = place_push xs (end_after p (event_len x)) e

-- the number of the next session doesn't fall, and rises by one an event at most
record Counts (old new : Module) (most : ℕ) : Type 0 where
  low : old.next_id ≤ℤ new.next_id
  high : new.next_id ≤ℤ (old.next_id +ℤ pos most)

one_counts : (m : Module) (e : Event) → Counts m (module_after m e) 1
one_counts m (event.Term term position stamp base leader) = record { low = omega (arith, ints); high = omega (arith, ints) }
one_counts m (event.Opened term corr session stamp stream channel) = record { low = omega (arith, ints); high = omega (arith, ints) }
one_counts m (event.Message term session stamp payload) = record { low = omega (arith, ints); high = omega (arith, ints) }
one_counts m (event.ServiceMessage term service number stamp payload) = record { low = omega (arith, ints); high = omega (arith, ints) }
one_counts m (event.Timer term corr stamp) = record { low = omega (arith, ints); high = omega (arith, ints) }
one_counts m (event.Closed term session stamp reason) = record { low = omega (arith, ints); high = omega (arith, ints) }
one_counts m (event.Snapshot term position stamp) = record { low = omega (arith, ints); high = omega (arith, ints) }

all_count : (m : Module) (log : List Event) → Counts m (fold module_after m log) (length log)
all_count m [] = record { low = omega (arith, ints); high = omega (arith, ints) }
all_count m (e ∷ es) =
    let one = one_counts m e in
    let rest = all_count (module_after m e) es in
    let a = one.low in let b = one.high in let c = rest.low in let d = rest.high in
    record { low = omega (arith, ints, a, c); high = omega (arith, ints, b, d) }

pub next_id_low : (log : List Event) → pos 1 ≤ℤ (module_of log).next_id
next_id_low log = (all_count empty log).low

pub next_id_high : (log : List Event) → (module_of log).next_id ≤ℤ pos (1 + length log)
next_id_high log = let high = (all_count empty log).high in omega (arith, ints, high)

-- each open session has a client's number
one_clients : (m : Module) (e : Event) → HasSpelling e → All (λ (s : Session). IsClient s.id) m.sessions → All (λ (s : Session). IsClient s.id) (module_after m e).sessions
one_clients m (event.Term term position stamp base leader) spelled clients = clients
one_clients m (event.Opened term corr session stamp stream channel) spelled clients = All-push (λ (s : Session). IsClient s.id) m.sessions (record { id = session; corr = corr; stream = stream }) clients spelled.2
one_clients m (event.Message term session stamp payload) spelled clients = clients
one_clients m (event.ServiceMessage term service number stamp payload) spelled clients = clients
one_clients m (event.Timer term corr stamp) spelled clients = clients
one_clients m (event.Closed term session stamp reason) spelled clients = All-filter (λ s. not (is_session session s)) (λ (s : Session). IsClient s.id) m.sessions clients
one_clients m (event.Snapshot term position stamp) spelled clients = clients

all_clients : (m : Module) (log : List Event) → All HasSpelling log → All (λ (s : Session). IsClient s.id) m.sessions → All (λ (s : Session). IsClient s.id) (fold module_after m log).sessions
all_clients m [] spelled clients = clients
all_clients m (e ∷ es) spelled clients = all_clients (module_after m e) es (All-tail HasSpelling e es spelled) (one_clients m e (All-head HasSpelling e es spelled) clients)

pub sessions_clients : (log : List Event) → All HasSpelling log → All (λ (s : Session). IsClient s.id) (module_of log).sessions
sessions_clients log spelled = all_clients empty log spelled (All-nil (λ (s : Session). IsClient s.id))

found_at : (id : ℤ) (s : Session) (rest : Option Session) (b : Bool) → is_session id s ≡ b → IsClient s.id → ((t : Session) → rest ≡ Some t → IsClient id) → (t : Session) → cond b (Some s) rest ≡ Some t → IsClient id
found_at id s rest true is client later t found = let a = client.0 in let b = client.1 in (grind (arith, ints, is, a), grind (arith, ints, is, b))
found_at id s rest false is client later t found = later t found

found_client : (id : ℤ) (sessions : List Session) → All (λ (s : Session). IsClient s.id) sessions → (t : Session) → find (is_session id) sessions ≡ Some t → IsClient id
found_client id [] clients t found = absurd (cc)
found_client id (s ∷ rest) clients t found =
    found_at id s (find (is_session id) rest) (is_session id s) refl (All-head (λ (x : Session). IsClient x.id) s rest clients) (found_client id rest (All-tail (λ (x : Session). IsClient x.id) s rest clients)) t found

-- a session that is open has a client's number
pub open_client : (log : List Event) (id : ℤ) (s : Session) → All HasSpelling log → session_of (module_of log) id ≡ Some s → IsClient id
open_client log id s spelled found = found_client id (module_of log).sessions (sessions_clients log spelled) s found
