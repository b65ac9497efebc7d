-- What the shipped services offer is bytes, so what is due can be spelled in bytes.
use Rattle.std.proofs.Common.{◌≡◌, ℕ, zero, suc, ◌+◌, ◌<◌, ◌^◌, ◌/◌, ◌%◌, ℤ, pos, cond, ◌&&◌, ◌==◌, List, [], ◌∷◌, ◌++◌, length, map, Option, Some, None, refl, arith}
use Rattle.std.specs.Prelude.{nat_lt, slice_index}
use Rattle.std.specs.Int.{bytes_low_first, byte_at}
use Rattle.std.specs.List.{AllByRecursion}
use Rattle.std.proofs.lemmas.Bool.{cond_both}
use Rattle.wire_prims.specs.Fields.{IsBytes, i64_at, u64_at, le64}
use Rattle.sbe_events.specs.declared.event.Event.{Event}
use Rattle.sbe_events.specs.declared.event.Event.TheVariants as events
use Rattle.sbe_events.specs.Spelling.{content_of, term_of}
use Rattle.sbe_local.specs.declared.command.Command.{Command}
use Rattle.sbe_local.specs.declared.command.Command.TheVariants as commands
use Rattle.service_api.specs.declared.output.Output.{Output}
use Rattle.service_api.specs.declared.output.Output.TheVariants as outputs
use Rattle.service_api.specs.declared.shipped.Kind.{Kind}
use Rattle.service_api.specs.declared.shipped.Shipped.{Shipped}
use Rattle.service_api.specs.declared.shipped.Shipped.TheVariants as shipped
use Rattle.service_api.specs.Shipped.{first_of, applied_of}
use Rattle.service_api.specs.Ledger.{Books, added_outputs, added, audited, entered}
use Rattle.service_api.specs.Ticker.{Ids, session_of as ticker_session, has_room, scheduled, asked, rung, ticked}
use Rattle.module_state.specs.Part.{Asked, Taken, History, after_asks, after_taken, run, run_events}
use Rattle.session_manager.specs.Sessions.{SessionTable, session_of}
use Rattle.session_manager.specs.declared.session.Session.{Session}
use Rattle.timer_service.specs.Timers.{TimerTable}
use Rattle.pending_messages.specs.Pending.{ServiceOffers, PendingTable, is_offer, offered, shifted, appended_one, first_pending, at_service}
use Rattle.module_state.specs.Dispatch.{pending_after, pending_asked, pending_part}
use Rattle.module_state.specs.Module.{Module, tentative}
use Rattle.module_state.specs.Services.{asks_among, asks_at, services_after, history_from, history_of, module_of}
use Rattle.module_state.specs.Places.{stamp_of}
use Rattle.module_state.specs.Due.{is_silent, is_marked, close_of, close_due, closes_due, over, rings_of, messages_of, messages_due, due}
use Rattle.module_state.proofs.FollowLaws.{all_append}

no_bytes : IsBytes []
no_bytes i = omega arith

at-less : (i n : ℕ) → byte_at i n < 256
at-less zero n = omega arith
at-less (suc i) n = less (n / 256 ^ suc i)
  where
    less : (q : ℕ) → q % 256 < 256
    less q = omega arith

low_first-bytes : (i k n : ℕ) → IsBytes (bytes_low_first i k n)
low_first-bytes i zero n = no_bytes
low_first-bytes i (suc k) n = one_more (byte_at i n) (bytes_low_first (suc i) k n) (at-less i n) (low_first-bytes (suc i) k n)
  where
    one_more : (b : ℕ) (bs : List ℕ) → b < 256 → IsBytes bs → IsBytes (b ∷ bs)
    one_more b bs h f zero = h
    one_more b bs h f (suc j) = f j

le64-bytes : (n : ℕ) → IsBytes (le64 n)
unfolding le64
le64-bytes n = low_first-bytes 0 8 n

-- ---- the services

abbrev AskBytes : Command → Type 0
AskBytes (commands.Offer service n payload) = IsBytes payload
AskBytes _ = Unit {0}

abbrev AllBytes : List Output → Type 0
AllBytes [] = Unit {0}
AllBytes (outputs.Command c ∷ rest) = AskBytes c × AllBytes rest
AllBytes (outputs.Egress session payload ∷ rest) = AllBytes rest

abbrev AsksBytes : List Asked → Type 0
AsksBytes asks = AllByRecursion (λ (a : Asked). AskBytes a.command) asks

among-bytes : (v : ℕ) (os : List Output) → AllBytes os → AsksBytes (asks_among v os)
among-bytes v [] f = tt
among-bytes v (outputs.Command c ∷ rest) f = (f.0, among-bytes v rest f.1)
among-bytes v (outputs.Egress session payload ∷ rest) f = among-bytes v rest f

ledger-bytes : (b : Books) (session : ℤ) (amount : ℕ) → AllBytes (added b session amount).1
ledger-bytes b session amount =
    cond_both (nat_lt (b.total + amount) (2 ^ 64)) (record b { total = b.total + amount }, added_outputs session amount (b.total + amount)) (b, outputs.Egress session [] ∷ []) (λ (r : Books × List Output). AllBytes r.1)
    (λ _. cond_both (nat_lt amount 1000) _ _ AllBytes (λ _. tt) (λ _. (le64-bytes (b.total + amount), tt))) (λ _. tt)

entered-bytes : (b : Books) (e : Event) → AllBytes (entered b e).1
entered-bytes b (events.Message term session stamp payload) = cond_both (length payload == 8) (added b session (u64_at 0 payload)) (b, []) (λ (r : Books × List Output). AllBytes r.1) (λ _. ledger-bytes b session (u64_at 0 payload)) (λ _. tt)
entered-bytes b (events.ServiceMessage term service n stamp payload) = cond_both (length payload == 8) (audited b, []) (b, []) (λ (r : Books × List Output). AllBytes r.1) (λ _. tt) (λ _. tt)
entered-bytes b (events.Term term position stamp base leader) = tt
entered-bytes b (events.Opened term corr session stamp stream channel) = tt
entered-bytes b (events.Timer term corr stamp) = tt
entered-bytes b (events.Closed term session stamp reason) = tt
entered-bytes b (events.Snapshot term position stamp) = tt

asked-bytes : (ids : Ids) (session stamp : ℤ) (payload : List ℕ) → AllBytes (asked ids session stamp payload).1
asked-bytes ids session stamp payload =
    cond_both (length payload == 16) (scheduled ids session stamp (i64_at 0 payload) (u64_at 8 payload)) _ (λ (r : Ids × List Output). AllBytes r.1)
    (λ _. cond_both (nat_lt (u64_at 8 payload) (2 ^ 32) && has_room ids (i64_at 0 payload)) _ (ids, []) (λ (r : Ids × List Output). AllBytes r.1) (λ _. (tt, tt)) (λ _. tt))
    (λ _. cond_both (length payload == 8) (ids, outputs.Command (commands.Cancel (i64_at 0 payload)) ∷ []) _ (λ (r : Ids × List Output). AllBytes r.1) (λ _. (tt, tt))
    (λ _. cond_both (length payload == 1 && slice_index payload 0 == 0x78) (ids, outputs.Command (commands.CloseSession session) ∷ []) (ids, []) (λ (r : Ids × List Output). AllBytes r.1) (λ _. (tt, tt)) (λ _. tt)))

rung-bytes : (o : Option ℤ) (id : ℤ) → AllBytes (rung o id)
rung-bytes None id = tt
rung-bytes (Some s) id = tt

ticked-bytes : (ids : Ids) (e : Event) → AllBytes (ticked ids e).1
ticked-bytes ids (events.Message term session stamp payload) = asked-bytes ids session stamp payload
ticked-bytes ids (events.Timer term corr stamp) = rung-bytes (ticker_session ids corr) corr
ticked-bytes ids (events.Term term position stamp base leader) = tt
ticked-bytes ids (events.Opened term corr session stamp stream channel) = tt
ticked-bytes ids (events.ServiceMessage term service n stamp payload) = tt
ticked-bytes ids (events.Closed term session stamp reason) = tt
ticked-bytes ids (events.Snapshot term position stamp) = tt

echoed-bytes : (e : Event) → AllBytes (applied_of (shipped.Echo tt) 0 e).1
echoed-bytes (events.Message term session stamp payload) = tt
echoed-bytes (events.Term term position stamp base leader) = tt
echoed-bytes (events.Opened term corr session stamp stream channel) = tt
echoed-bytes (events.ServiceMessage term service n stamp payload) = tt
echoed-bytes (events.Timer term corr stamp) = tt
echoed-bytes (events.Closed term session stamp reason) = tt
echoed-bytes (events.Snapshot term position stamp) = tt

applied-bytes : (s : Shipped) (i : ℕ) (e : Event) → AllBytes (applied_of s i e).1
applied-bytes (shipped.Echo s) i e = echoed-bytes e
applied-bytes (shipped.Ledger s) i e = entered-bytes s e
applied-bytes (shipped.Ticker s) i e = ticked-bytes s e

asks_at-bytes : (v : ℕ) (ss : List Shipped) (i : ℕ) (e : Event) → AsksBytes (asks_at v ss i e)
asks_at-bytes v [] i e = tt
asks_at-bytes v (s ∷ ss) i e = all_append (λ (a : Asked). AskBytes a.command) (asks_among v (applied_of s i e).1) (asks_at (suc v) ss i e) (among-bytes v (applied_of s i e).1 (applied-bytes s i e)) (asks_at-bytes (suc v) ss i e)

abbrev HistoryBytes : History → Type 0
HistoryBytes h = AllByRecursion (λ (t : Taken). AsksBytes t.asks) h

history-bytes : (ss : List Shipped) (i : ℕ) (es : List Event) → HistoryBytes (history_from ss i es)
history-bytes ss i [] = tt
history-bytes ss i (e ∷ es) = (asks_at-bytes 0 ss i e, history-bytes (services_after ss i e) (i + 1) es)

-- ---- the offers that wait

abbrev OffersBytes : ServiceOffers → Type 0
OffersBytes o = AllByRecursion IsBytes o.waiting

abbrev PendingBytes : PendingTable → Type 0
PendingBytes m = AllByRecursion OffersBytes m

at-bytes : (v : ℕ) (f : ServiceOffers → ServiceOffers) → ((o : ServiceOffers) → OffersBytes o → OffersBytes (f o)) → (m : PendingTable) → PendingBytes m → PendingBytes (at_service v f m)
at-bytes v f g [] h = tt
at-bytes zero f g (o ∷ os) h = (g o h.0, h.1)
at-bytes (suc v) f g (o ∷ os) h = (h.0, at-bytes v f g os h.1)

shifted-bytes : (a : ℕ) (ws : List (List ℕ)) → AllByRecursion IsBytes ws → OffersBytes (shifted a ws)
shifted-bytes a [] h = tt
shifted-bytes a (p ∷ ps) h = h.1

offered-bytes : (o : ServiceOffers) (payload : List ℕ) → IsBytes payload → OffersBytes o → OffersBytes (offered o payload)
offered-bytes o payload b h =
    cond_both (is_offer o payload) (record { appended = o.appended; waiting = o.waiting ++ payload ∷ [] }) o OffersBytes (λ e. all_append IsBytes o.waiting (payload ∷ []) h (b, tt)) (λ _. h)

after-bytes : (m : PendingTable) (e : Event) → PendingBytes m → PendingBytes (pending_after m e)
after-bytes m (events.ServiceMessage term service n stamp payload) h = at-bytes service appended_one (λ o k. shifted-bytes o.appended o.waiting k) m h
after-bytes m (events.Term term position stamp base leader) h = h
after-bytes m (events.Opened term corr session stamp stream channel) h = h
after-bytes m (events.Message term session stamp payload) h = h
after-bytes m (events.Timer term corr stamp) h = h
after-bytes m (events.Closed term session stamp reason) h = h
after-bytes m (events.Snapshot term position stamp) h = h

ask-bytes : (m : PendingTable) (v : ℕ) (c : Command) → AskBytes c → PendingBytes m → PendingBytes (pending_asked m v c)
ask-bytes m v (commands.Offer service n payload) f h = at-bytes v (λ o. offered o payload) (λ o k. offered-bytes o payload f k) m h
ask-bytes m v (commands.CloseSession session) f h = h
ask-bytes m v (commands.Schedule corr deadline) f h = h
ask-bytes m v (commands.Cancel corr) f h = h
ask-bytes m v (commands.Ack position service) f h = h

asks-bytes : (m : PendingTable) (l : List Asked) → AsksBytes l → PendingBytes m → PendingBytes (after_asks pending_part m l)
asks-bytes m [] f h = h
asks-bytes m (a ∷ rest) f h = asks-bytes (pending_asked m a.service a.command) rest f.1 (ask-bytes m a.service a.command f.0 h)

run-bytes : (m : PendingTable) (h : History) → HistoryBytes h → PendingBytes m → PendingBytes (run pending_part m h)
run-bytes m [] f k = k
run-bytes m (t ∷ ts) f k = run-bytes (after_taken pending_part m t) ts f.1 (asks-bytes (pending_after m t.event) t.asks f.0 (after-bytes m t.event k))

events-bytes : (m : PendingTable) (es : List Event) → PendingBytes m → PendingBytes (run_events pending_part m es)
events-bytes m [] k = k
events-bytes m (e ∷ es) k = events-bytes (pending_after m e) es (after-bytes m e k)

first-bytes : (n : ℕ) → PendingBytes (first_pending n)
first-bytes zero = tt
first-bytes (suc n) = (tt, first-bytes n)

-- ---- what is due: its content, its term and its stamp

-- of this term and moment, with bytes
abbrev pub IsDue : ℤ → ℕ → Event → Type 0
IsDue term now e = IsBytes (content_of e) × (term_of e ≡ term) × (stamp_of e ≡ pos now)

closes-due : (consumed : SessionTable) (alive : List (ℤ × ℕ)) (term : ℤ) (now since : ℕ) (l : List Session) → AllByRecursion (IsDue term now) (closes_due consumed alive term now since l)
closes-due consumed alive term now since [] = tt
closes-due consumed alive term now since (s ∷ l) =
    all_append (IsDue term now) (close_due consumed alive term now since s) (closes_due consumed alive term now since l)
    (cond_both (is_marked (session_of consumed s.id)) (close_of term now s.id 1) (cond (is_silent alive since now s) (close_of term now s.id 2) []) (AllByRecursion (IsDue term now)) (λ _. ((no_bytes, refl, refl), tt))
    (λ _. cond_both (is_silent alive since now s) (close_of term now s.id 2) [] (AllByRecursion (IsDue term now)) (λ _. ((no_bytes, refl, refl), tt)) (λ _. tt)))
    (closes-due consumed alive term now since l)

rings-due : (term : ℤ) (now : ℕ) (l : TimerTable) → AllByRecursion (IsDue term now) (rings_of term now l)
rings-due term now [] = tt
rings-due term now (a ∷ l) = ((no_bytes, refl, refl), rings-due term now l)

messages_of-due : (term : ℤ) (now v k : ℕ) (ws : List (List ℕ)) → AllByRecursion IsBytes ws → AllByRecursion (IsDue term now) (messages_of term now v k ws)
messages_of-due term now v k [] f = tt
messages_of-due term now v k (p ∷ ps) f = ((f.0, refl, refl), messages_of-due term now v (k + 1) ps f.1)

messages-due : (term : ℤ) (now v : ℕ) (os : PendingTable) → PendingBytes os → AllByRecursion (IsDue term now) (messages_due term now v os)
messages-due term now v [] f = tt
messages-due term now v (o ∷ os) f = all_append (IsDue term now) (messages_of term now v o.appended o.waiting) (messages_due term now (suc v) os) (messages_of-due term now v o.appended o.waiting f.0) (messages-due term now (suc v) os f.1)

pub due-bytes : (kinds : List Kind) (c ahead : List Event) (alive : List (ℤ × ℕ)) (term : ℤ) (now since : ℕ)
    → AllByRecursion (IsDue term now) (due (module_of kinds c) (tentative (module_of kinds c) ahead) ahead alive term now since)
due-bytes kinds c ahead alive term now since =
    let m : Module = module_of kinds c in
    let t : Module = tentative m ahead in
    all_append (IsDue term now) (closes_due m.sessions alive term now since t.sessions.listed) (rings_of term now (over ahead now m.timers) ++ messages_due term now 0 t.pending)
    (closes-due m.sessions alive term now since t.sessions.listed)
    (all_append (IsDue term now) (rings_of term now (over ahead now m.timers)) (messages_due term now 0 t.pending) (rings-due term now (over ahead now m.timers))
    (messages-due term now 0 t.pending (events-bytes m.pending ahead (run-bytes (first_pending (length kinds)) (history_of kinds c) (history-bytes (map first_of kinds) 0 c) (first-bytes (length kinds))))))
