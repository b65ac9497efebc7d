-- The module's numbers stay in their ranges.
use Rattle.std.proofs.Common.{◌≡◌, ℕ, zero, suc, ◌+◌, ◌<◌, ◌≤◌, ◌^◌, ℤ, pos, ◌+ℤ◌, ◌<ℤ◌, ◌≤ℤ◌, Bool, true, false, cond, not, List, [], ◌∷◌, ◌++◌, length, map, filter, ◌==◌, arith}
use Rattle.std.specs.Prelude.{◌||◌, is_some, int_lt, int_le, nat_le, nat_lt}
use Rattle.std.specs.Int.{int_max}
use Rattle.std.specs.List.{AllByRecursion}
use Rattle.std.specs.BTreeMap.{insert_entry}
use Rattle.std.specs.Ordering.{int_cmp, int_eq, match_ordering}
use Rattle.std.specs.declared.cmp.Ordering.TheVariants.{Less, Equal, Greater}
use Rattle.std.proofs.lemmas.Bool.{cond_both, and_parts, leb-true, ltb-true}
use Rattle.std.proofs.lemmas.Int.{ints}
use Rattle.std.proofs.lemmas.List.{length-append}
use Rattle.wire_prims.specs.StrictLaws.{Between}
use Rattle.sbe_events.specs.declared.event.Event.{Event}
use Rattle.sbe_events.specs.declared.event.Event.TheVariants as events
use Rattle.sbe_events.specs.Spelling.{HasSpelling}
use Rattle.sbe_local.specs.declared.command.Command.{Command}
use Rattle.sbe_local.specs.declared.command.Command.TheVariants as commands
use Rattle.sbe_local.specs.Pieces.{HasPieceSpelling}
use Rattle.module_state.specs.Part.{Part, Asked, History, after_asks, after_taken, run, run_events}
use Rattle.session_manager.specs.declared.session.Session.{Session}
use Rattle.session_manager.specs.Sessions.{SessionTable, first_sessions, is_of, session_of, is_next, at_id, stamped, marked, sessions_after}
use Rattle.timer_service.specs.Timers.{TimerTable, deadline_of, is_deadline, is_made, without, is_over, rings_before, put_timer, timers_due}
use Rattle.pending_messages.specs.Pending.{ServiceOffers, PendingTable, offered_of, is_offer, offered, shifted, appended_one, first_pending, at_service}
use Rattle.module_state.specs.Counts.{Counts, no_counts, one_more, counts_after, counts_part}
use Rattle.module_state.specs.Module.{Module, module_in, tentative}
use Rattle.module_state.specs.Due.{is_silent, is_marked, close_of, close_due, closes_due, over, rings_of, messages_of, messages_due, due}
use Rattle.module_state.specs.Allowed.{rings}
use Rattle.module_state.specs.Recorded.{counters, waiting_pieces, pending_pieces, session_pieces, timer_pieces, pieces_of}
use Rattle.module_state.specs.Ranges.{AskFits, HistoryFits, IsNumber, SessionFits, SessionsFit, TimerFits, OffersFit, CountsFit, ModuleFits}
use Rattle.module_state.specs.Dispatch.{pending_after, pending_asked, pending_part, sessions_asked, sessions_part, timers_after, timers_asked, timers_part}
use Rattle.module_state.proofs.FollowLaws.{all_append}

-- ---- runs

asks_fit : {S : Type 0} (p : Part S) (P : S → Type 0) → ((s : S) (v : ℕ) (c : Command) → AskFits c → P s → P (p.asked s v c)) → (s : S) (l : List Asked) → AllByRecursion (λ (a : Asked). AskFits a.command) l → P s → P (after_asks p s l)
asks_fit p P g s [] f h = h
asks_fit p P g s (a ∷ rest) f h = asks_fit p P g (p.asked s a.service a.command) rest f.1 (g s a.service a.command f.0 h)

run_fits : {S : Type 0} (p : Part S) (P : S → Type 0) → ((s : S) (e : Event) → HasSpelling e → P s → P (p.after s e)) → ((s : S) (v : ℕ) (c : Command) → AskFits c → P s → P (p.asked s v c)) → (s : S) (h : History) → HistoryFits h → P s → P (run p s h)
run_fits p P e g s [] f k = k
run_fits p P e g s (t ∷ ts) f k = run_fits p P e g (after_taken p s t) ts f.1 (asks_fit p P g (p.after s t.event) t.asks f.0.asks (e s t.event f.0.event k))

events_fit : {S : Type 0} (p : Part S) (P : S → Type 0) → ((s : S) (e : Event) → HasSpelling e → P s → P (p.after s e)) → (s : S) (es : List Event) → AllByRecursion HasSpelling es → P s → P (run_events p s es)
events_fit p P g s [] f k = k
events_fit p P g s (e ∷ es) f k = events_fit p P g (p.after s e) es f.1 (g s e f.0 k)

-- ---- sessions

all_mapped : {X : Type 0} (P : X → Type 0) (f : X → X) → ((x : X) → P x → P (f x)) → (l : List X) → AllByRecursion P l → AllByRecursion P (map f l)
all_mapped P f g [] h = tt
all_mapped P f g (x ∷ l) h = (g x h.0, all_mapped P f g l h.1)

all_filtered : {X : Type 0} (P : X → Type 0) (p : X → Bool) (l : List X) → AllByRecursion P l → AllByRecursion P (filter p l)
all_filtered P p [] h = tt
all_filtered P p (x ∷ l) h = cond_both (p x) (x ∷ filter p l) (filter p l) (AllByRecursion P) (λ _. (h.0, all_filtered P p l h.1)) (λ _. all_filtered P p l h.1)

max_number : (a b : ℤ) → IsNumber a → IsNumber b → IsNumber (int_max a b)
max_number a b h k = cond_both (int_lt b a) a b IsNumber (λ _. h) (λ _. k)

stamped_fits : (w t : ℤ) → IsNumber t → (s : Session) → SessionFits s → SessionFits (at_id w (stamped t) s)
stamped_fits w t n s h = cond_both (is_of w s) (stamped t s) s SessionFits (λ _. record { id = h.id; corr = h.corr; stamp = max_number s.stamp t h.stamp n; stream = h.stream; channel = h.channel }) (λ _. h)

marked_fits : (w : ℤ) (s : Session) → SessionFits s → SessionFits (at_id w marked s)
marked_fits w s h = cond_both (is_of w s) (marked s) s SessionFits (λ _. record { id = h.id; corr = h.corr; stamp = h.stamp; stream = h.stream; channel = h.channel }) (λ _. h)

next_fits : (m : SessionTable) (id : ℤ) → is_next m id ≡ true → Between (pos 1) (pos (2 ^ 62)) m.next_id → Between (pos 1) (pos (2 ^ 62)) (m.next_id +ℤ pos 1)
next_fits m id e h =
    let parts = and_parts (int_eq id m.next_id) (int_lt m.next_id (pos (2 ^ 62))) e in
    let l : int_lt m.next_id (pos (2 ^ 62)) ≡ true = parts.1 in
    let below : m.next_id <ℤ pos (2 ^ 62) = grind (arith, ints, l) in
    let low = h.0 in
    (omega (arith, ints), omega (arith, ints))

pub sessions_fit_after : (m : SessionTable) (e : Event) → HasSpelling e → SessionsFit m → SessionsFit (sessions_after m e)
sessions_fit_after m (events.Opened term corr session stamp stream channel) f h =
    cond_both (is_next m session) (record { listed = m.listed ++ record { id = session; corr = corr; stamp = stamp; stream = stream; closing = false; channel = channel } ∷ []; next_id = m.next_id +ℤ pos 1 }) m SessionsFit
    (λ e. record {
      next = next_fits m session e h.next;
      each = all_append SessionFits m.listed (record { id = session; corr = corr; stamp = stamp; stream = stream; closing = false; channel = channel } ∷ []) h.each (record { id = f.2; corr = f.1; stamp = f.3; stream = f.4; channel = f.5 }, tt);
    })
    (λ _. h)
sessions_fit_after m (events.Message term session stamp payload) f h = record { next = h.next; each = all_mapped SessionFits (at_id session (stamped stamp)) (stamped_fits session stamp f.2) m.listed h.each }
sessions_fit_after m (events.Closed term session stamp reason) f h = record { next = h.next; each = all_filtered SessionFits (λ s. not (is_of session s)) m.listed h.each }
sessions_fit_after m (events.Term term position stamp base leader) f h = h
sessions_fit_after m (events.ServiceMessage term service n stamp payload) f h = h
sessions_fit_after m (events.Timer term corr stamp) f h = h
sessions_fit_after m (events.Snapshot term position stamp) f h = h

pub sessions_fit_asked : (m : SessionTable) (v : ℕ) (c : Command) → AskFits c → SessionsFit m → SessionsFit (sessions_asked m v c)
sessions_fit_asked m v (commands.CloseSession session) f h = record { next = h.next; each = all_mapped SessionFits (at_id session marked) (marked_fits session) m.listed h.each }
sessions_fit_asked m v (commands.Schedule corr deadline) f h = h
sessions_fit_asked m v (commands.Cancel corr) f h = h
sessions_fit_asked m v (commands.Offer service n payload) f h = h
sessions_fit_asked m v (commands.Ack position service) f h = h

-- ---- timers

insert_fits : (k v : ℤ) (l : TimerTable) → TimerFits (k, v) → AllByRecursion TimerFits l → AllByRecursion TimerFits (insert_entry int_cmp l k v)
insert_fits k v [] f h = (f, tt)
insert_fits k v (e ∷ es) f h =
    elim (int_cmp k e.0) as (λ o. AllByRecursion TimerFits (match_ordering o ((k, v) ∷ e ∷ es) ((e.0, v) ∷ es) (e ∷ insert_entry int_cmp es k v))) [
      | Less ↦ (f, h)
      | Equal ↦ (record { name = h.0.name; deadline = f.deadline }, h.1)
      | Greater ↦ (h.0, insert_fits k v es f h.1)
    ]

pub timers_fit_after : (m : TimerTable) (e : Event) → HasSpelling e → AllByRecursion TimerFits m → AllByRecursion TimerFits (timers_after m e)
timers_fit_after m (events.Timer term corr stamp) f h = cond_both (is_over (deadline_of m corr) stamp) (without corr m) m (AllByRecursion TimerFits) (λ _. all_filtered TimerFits (λ t. not (int_eq corr t.0)) m h) (λ _. h)
timers_fit_after m (events.Term term position stamp base leader) f h = h
timers_fit_after m (events.Opened term corr session stamp stream channel) f h = h
timers_fit_after m (events.Message term session stamp payload) f h = h
timers_fit_after m (events.ServiceMessage term service n stamp payload) f h = h
timers_fit_after m (events.Closed term session stamp reason) f h = h
timers_fit_after m (events.Snapshot term position stamp) f h = h

made_number : (m : TimerTable) (corr d : ℤ) → is_made m corr d ≡ true → IsNumber d
made_number m corr d e = number d (and_parts (is_deadline d) (nat_lt (length m) 4096 || is_some (deadline_of m corr)) e).0
  where
    number : (d : ℤ) → is_deadline d ≡ true → IsNumber d
    number d e =
        let parts = and_parts (int_le (pos 0) d) (int_le d (pos (2 ^ 62))) e in
        let a : int_le (pos 0) d ≡ true = parts.0 in
        let b : int_le d (pos (2 ^ 62)) ≡ true = parts.1 in
        ((let x : pos 0 ≤ℤ d = grind (arith, ints, a) in x), (let x : d ≤ℤ pos (2 ^ 62) = grind (arith, ints, b) in x))

pub timers_fit_asked : (m : TimerTable) (v : ℕ) (c : Command) → AskFits c → AllByRecursion TimerFits m → AllByRecursion TimerFits (timers_asked m v c)
timers_fit_asked m v (commands.Schedule corr deadline) f h =
    cond_both (is_made m corr deadline) (insert_entry int_cmp m corr deadline) m (AllByRecursion TimerFits) (λ e. insert_fits corr deadline m (record { name = f; deadline = made_number m corr deadline e }) h) (λ _. h)
timers_fit_asked m v (commands.Cancel corr) f h = all_filtered TimerFits (λ t. not (int_eq corr t.0)) m h
timers_fit_asked m v (commands.CloseSession session) f h = h
timers_fit_asked m v (commands.Offer service n payload) f h = h
timers_fit_asked m v (commands.Ack position service) f h = h

-- ---- messages

at_fits : (v : ℕ) (f : ServiceOffers → ServiceOffers) → ((o : ServiceOffers) → OffersFit o → OffersFit (f o)) → (m : PendingTable) → AllByRecursion OffersFit m → AllByRecursion OffersFit (at_service v f m)
at_fits v f g [] h = tt
at_fits zero f g (o ∷ os) h = (g o h.0, h.1)
at_fits (suc v) f g (o ∷ os) h = (h.0, at_fits v f g os h.1)

shifted_fits : (a : ℕ) (ws : List (List ℕ)) → OffersFit (record { appended = a; waiting = ws }) → OffersFit (shifted a ws)
shifted_fits a [] h = h
shifted_fits a (p ∷ ps) h = let n = h.offered in record { offered = omega arith; each = h.each.1 }

offered_fits : (o : ServiceOffers) (payload : List ℕ) → OffersFit o → OffersFit (offered o payload)
offered_fits o payload h =
    cond_both (is_offer o payload) (record { appended = o.appended; waiting = o.waiting ++ payload ∷ [] }) o OffersFit
    (λ e.
    let parts = and_parts (nat_le (length payload) 16384) (nat_lt (offered_of o) (2 ^ 47)) e in
    let short : length payload ≤ 16384 = leb-true (length payload) 16384 parts.0 in
    let few : offered_of o < 2 ^ 47 = ltb-true (offered_of o) (2 ^ 47) parts.1 in
    let n = length-append o.waiting (payload ∷ []) in
    record { offered = omega (arith, n); each = all_append (λ (p : List ℕ). length p ≤ 16384) o.waiting (payload ∷ []) h.each (short, tt) })
    (λ _. h)

pub pending_fit_after : (m : PendingTable) (e : Event) → HasSpelling e → AllByRecursion OffersFit m → AllByRecursion OffersFit (pending_after m e)
pending_fit_after m (events.ServiceMessage term service n stamp payload) f h = at_fits service appended_one (λ o k. shifted_fits o.appended o.waiting k) m h
pending_fit_after m (events.Term term position stamp base leader) f h = h
pending_fit_after m (events.Opened term corr session stamp stream channel) f h = h
pending_fit_after m (events.Message term session stamp payload) f h = h
pending_fit_after m (events.Timer term corr stamp) f h = h
pending_fit_after m (events.Closed term session stamp reason) f h = h
pending_fit_after m (events.Snapshot term position stamp) f h = h

pub pending_fit_asked : (m : PendingTable) (v : ℕ) (c : Command) → AskFits c → AllByRecursion OffersFit m → AllByRecursion OffersFit (pending_asked m v c)
pending_fit_asked m v (commands.Offer service n payload) f h = at_fits v (λ o. offered o payload) (λ o k. offered_fits o payload k) m h
pending_fit_asked m v (commands.CloseSession session) f h = h
pending_fit_asked m v (commands.Schedule corr deadline) f h = h
pending_fit_asked m v (commands.Cancel corr) f h = h
pending_fit_asked m v (commands.Ack position service) f h = h

-- ---- counts

capped : (n : ℕ) → one_more n ≤ 2 ^ 62
capped n = omega arith

pub counts_fit_after : (c : Counts) (e : Event) → HasSpelling e → CountsFit c → CountsFit (counts_after c e)
counts_fit_after c (events.Term term position stamp base leader) f h = record { actions = h.actions; entries = capped c.entries; leader = (let a = f.4.0 in let b = f.4.1 in (omega (arith, ints, a), b)) }
counts_fit_after c (events.Snapshot term position stamp) f h = record { actions = capped c.actions; entries = capped c.entries; leader = h.leader }
counts_fit_after c (events.Opened term corr session stamp stream channel) f h = record { actions = h.actions; entries = capped c.entries; leader = h.leader }
counts_fit_after c (events.Message term session stamp payload) f h = record { actions = h.actions; entries = capped c.entries; leader = h.leader }
counts_fit_after c (events.ServiceMessage term service n stamp payload) f h = record { actions = h.actions; entries = capped c.entries; leader = h.leader }
counts_fit_after c (events.Timer term corr stamp) f h = record { actions = h.actions; entries = capped c.entries; leader = h.leader }
counts_fit_after c (events.Closed term session stamp reason) f h = record { actions = h.actions; entries = capped c.entries; leader = h.leader }

-- ---- the module

first_pending_fits : (n : ℕ) → AllByRecursion OffersFit (first_pending n)
first_pending_fits zero = tt
first_pending_fits (suc n) = (record { offered = omega arith; each = tt }, first_pending_fits n)

pub module_fits : (services : ℕ) (h : History) → HistoryFits h → ModuleFits (module_in services h)
module_fits services h f = record {
  sessions = run_fits sessions_part SessionsFit sessions_fit_after sessions_fit_asked first_sessions h f (record { next = (omega (arith, ints), omega (arith, ints)); each = tt });
  timers = run_fits timers_part (AllByRecursion TimerFits) timers_fit_after timers_fit_asked [] h f tt;
  pending = run_fits pending_part (AllByRecursion OffersFit) pending_fit_after pending_fit_asked (first_pending services) h f (first_pending_fits services);
  counts = run_fits counts_part CountsFit counts_fit_after (λ s v c a k. k) no_counts h f (record { actions = omega arith; entries = omega arith; leader = (omega (arith, ints), omega (arith, ints)) });
}

pub tentative_fits : (m : Module) (es : List Event) → ModuleFits m → AllByRecursion HasSpelling es → ModuleFits (tentative m es)
tentative_fits m es h f = record {
  sessions = events_fit sessions_part SessionsFit sessions_fit_after m.sessions es f h.sessions;
  timers = events_fit timers_part (AllByRecursion TimerFits) timers_fit_after m.timers es f h.timers;
  pending = events_fit pending_part (AllByRecursion OffersFit) pending_fit_after m.pending es f h.pending;
  counts = events_fit counts_part CountsFit counts_fit_after m.counts es f h.counts;
}

-- ---- pieces have a spelling

count_number : (n : ℕ) → n ≤ 2 ^ 62 → Between (pos 0) (pos (2 ^ 62)) (pos n)
count_number n h = (omega (arith, ints), omega (arith, ints))

counters_spell : (v : ℕ) (os : PendingTable) → v + length os ≤ 3 → AllByRecursion OffersFit os → AllByRecursion HasPieceSpelling (counters v os)
counters_spell v [] few f = tt
counters_spell v (o ∷ os) few f =
    let n = f.0.offered in
    (((omega (arith, ints), omega (arith, ints)), (omega (arith, ints), omega (arith, ints)), omega arith), counters_spell (suc v) os (omega arith) f.1)

waiting_spell : (v k : ℕ) (ws : List (List ℕ)) → v ≤ 2 → k + length ws ≤ 2 ^ 47 → AllByRecursion (λ (p : List ℕ). length p ≤ 16384) ws → AllByRecursion HasPieceSpelling (waiting_pieces v k ws)
waiting_spell v k [] small few f = tt
waiting_spell v k (p ∷ ps) small few f = (((omega (arith, ints), omega (arith, ints)), small, f.0), waiting_spell v (k + 1) ps small (omega arith) f.1)

pending_spell : (v : ℕ) (os : PendingTable) → v + length os ≤ 3 → AllByRecursion OffersFit os → AllByRecursion HasPieceSpelling (pending_pieces v os)
pending_spell v [] few f = tt
pending_spell v (o ∷ os) few f =
    all_append HasPieceSpelling (waiting_pieces v o.appended o.waiting) (pending_pieces (suc v) os) (waiting_spell v o.appended o.waiting (omega arith) f.0.offered f.0.each) (pending_spell (suc v) os (omega arith) f.1)

sessions_spell : (l : List Session) → AllByRecursion SessionFits l → AllByRecursion HasPieceSpelling (session_pieces l)
sessions_spell [] f = tt
sessions_spell (s ∷ l) f = ((f.0.id, f.0.corr, f.0.stamp, f.0.stream, f.0.channel), sessions_spell l f.1)

timers_spell : (l : TimerTable) → AllByRecursion TimerFits l → AllByRecursion HasPieceSpelling (timer_pieces l)
timers_spell [] f = tt
timers_spell (a ∷ l) f = ((f.0.name, f.0.deadline), timers_spell l f.1)

pub pieces_spell : (m : Module) → length m.pending ≤ 3 → ModuleFits m → AllByRecursion HasPieceSpelling (pieces_of m)
pieces_spell m few f = (
  (f.sessions.next, count_number m.counts.actions f.counts.actions, count_number m.counts.entries f.counts.entries, f.counts.leader),
  all_append HasPieceSpelling (counters 0 m.pending) (pending_pieces 0 m.pending ++ (session_pieces m.sessions.listed ++ timer_pieces m.timers)) (counters_spell 0 m.pending (omega arith) f.pending)
      (all_append HasPieceSpelling (pending_pieces 0 m.pending) (session_pieces m.sessions.listed ++ timer_pieces m.timers) (pending_spell 0 m.pending (omega arith) f.pending)
      (all_append HasPieceSpelling (session_pieces m.sessions.listed) (timer_pieces m.timers) (sessions_spell m.sessions.listed f.sessions.each) (timers_spell m.timers f.timers))),
)

-- ---- due entries have a spelling

closes_spell : (consumed : SessionTable) (alive : List (ℤ × ℕ)) (term : ℤ) (now since : ℕ) (l : List Session) → IsNumber term → now ≤ 2 ^ 62 → AllByRecursion SessionFits l → AllByRecursion HasSpelling (closes_due consumed alive term now since l)
closes_spell consumed alive term now since [] t n f = tt
closes_spell consumed alive term now since (s ∷ l) t n f =
    all_append HasSpelling (close_due consumed alive term now since s) (closes_due consumed alive term now since l)
    (cond_both (is_marked (session_of consumed s.id)) (close_of term now s.id 1) (cond (is_silent alive since now s) (close_of term now s.id 2) []) (AllByRecursion HasSpelling) (λ _. ((t, f.0.id, count_number now n, omega arith), tt))
    (λ _. cond_both (is_silent alive since now s) (close_of term now s.id 2) [] (AllByRecursion HasSpelling) (λ _. ((t, f.0.id, count_number now n, omega arith), tt)) (λ _. tt)))
    (closes_spell consumed alive term now since l t n f.1)

put_fits : (a : ℤ × ℤ) (l : TimerTable) → TimerFits a → AllByRecursion TimerFits l → AllByRecursion TimerFits (put_timer a l)
put_fits a [] f h = (f, tt)
put_fits a (b ∷ l) f h = cond_both (rings_before a b) (a ∷ b ∷ l) (b ∷ put_timer a l) (AllByRecursion TimerFits) (λ _. (f, h)) (λ _. (h.0, put_fits a l f h.1))

timers_due_fit : (now : ℕ) (l : TimerTable) → AllByRecursion TimerFits l → AllByRecursion TimerFits (timers_due (pos now) l)
timers_due_fit now [] h = tt
timers_due_fit now (a ∷ l) h = cond_both (int_le a.1 (pos now)) (put_timer a (timers_due (pos now) l)) (timers_due (pos now) l) (AllByRecursion TimerFits) (λ _. put_fits a (timers_due (pos now) l) h.0 (timers_due_fit now l h.1)) (λ _. timers_due_fit now l h.1)

over_fits : (ahead : List Event) (now : ℕ) (l : TimerTable) → AllByRecursion TimerFits l → AllByRecursion TimerFits (over ahead now l)
over_fits ahead now l h = all_filtered TimerFits (λ a. rings a.0 ahead == 0) (timers_due (pos now) l) (timers_due_fit now l h)

rings_spell : (term : ℤ) (now : ℕ) (l : TimerTable) → IsNumber term → now ≤ 2 ^ 62 → AllByRecursion TimerFits l → AllByRecursion HasSpelling (rings_of term now l)
rings_spell term now [] t n h = tt
rings_spell term now (a ∷ l) t n h = ((t, h.0.name, count_number now n), rings_spell term now l t n h.1)

messages_spell : (term : ℤ) (now v k : ℕ) (ws : List (List ℕ)) → IsNumber term → now ≤ 2 ^ 62 → v ≤ 2 → k + length ws ≤ 2 ^ 47 → AllByRecursion (λ (p : List ℕ). length p ≤ 16384) ws → AllByRecursion HasSpelling (messages_of term now v k ws)
messages_spell term now v k [] t n small few f = tt
messages_spell term now v k (p ∷ ps) t n small few f = ((t, small, (omega (arith, ints), omega (arith, ints)), count_number now n, f.0), messages_spell term now v (k + 1) ps t n small (omega arith) f.1)

messages_due_spell : (term : ℤ) (now v : ℕ) (os : PendingTable) → IsNumber term → now ≤ 2 ^ 62 → v + length os ≤ 3 → AllByRecursion OffersFit os → AllByRecursion HasSpelling (messages_due term now v os)
messages_due_spell term now v [] t n few f = tt
messages_due_spell term now v (o ∷ os) t n few f =
    all_append HasSpelling (messages_of term now v o.appended o.waiting) (messages_due term now (suc v) os) (messages_spell term now v o.appended o.waiting t n (omega arith) f.0.offered f.0.each) (messages_due_spell term now (suc v) os t n (omega arith) f.1)

pub due_spells : (consumed t : Module) (ahead : List Event) (alive : List (ℤ × ℕ)) (term : ℤ) (now since : ℕ) → ModuleFits consumed → ModuleFits t → length t.pending ≤ 3 → IsNumber term → now ≤ 2 ^ 62 → AllByRecursion HasSpelling (due consumed t ahead alive term now since)
due_spells consumed t ahead alive term now since f g few n l =
    all_append HasSpelling (closes_due consumed.sessions alive term now since t.sessions.listed) (rings_of term now (over ahead now consumed.timers) ++ messages_due term now 0 t.pending)
    (closes_spell consumed.sessions alive term now since t.sessions.listed n l g.sessions.each)
    (all_append HasSpelling (rings_of term now (over ahead now consumed.timers)) (messages_due term now 0 t.pending) (rings_spell term now (over ahead now consumed.timers) n l (over_fits ahead now consumed.timers f.timers)) (messages_due_spell term now 0 t.pending n l (omega arith) g.pending))
