-- The states that the module keeps are sound.
use Rattle.std.proofs.Common.{◌≡◌, ℕ, zero, suc, ◌≤◌, [], ◌∷◌, length, refl, sym, ap, ◌∙◌, subst, arith}
use Rattle.sbe_events.specs.declared.event.Event.{Event}
use Rattle.sbe_events.specs.declared.event.Event.TheVariants as events
use Rattle.sbe_events.specs.Spelling.{HasSpelling}
use Rattle.sbe_local.specs.declared.command.Command.{Command}
use Rattle.sbe_local.specs.declared.command.Command.TheVariants as commands
use Rattle.session_manager.specs.Sessions.{SessionTable, first_sessions, sessions_after}
use Rattle.timer_service.specs.Timers.{TimerTable}
use Rattle.pending_messages.specs.Pending.{ServiceOffers, PendingTable, first_pending, at_service}
use Rattle.module_state.specs.Counts.{Counts, no_counts, counts_after}
use Rattle.module_state.specs.Module.{Module, first_module, module_after}
use Rattle.module_state.specs.Dispatch.{sessions_asked, timers_after, timers_asked, pending_after, pending_asked}
use Rattle.module_state.specs.Ranges.{AskFits, IsSound}
use Rattle.module_state.proofs.RangeLaws.{module_fits, sessions_fit_after, sessions_fit_asked, timers_fit_after, timers_fit_asked, pending_fit_after, pending_fit_asked, counts_fit_after}

-- a module with these parts
abbrev pub made_of : SessionTable → TimerTable → PendingTable → Counts → Module
made_of s t p c = record { sessions = s; timers = t; pending = p; counts = c }

first_length : (n : ℕ) → length (first_pending n) ≡ n
first_length zero = refl
first_length (suc n) = ap suc (first_length n)

pub first_sound : (services : ℕ) → services ≤ 3 → IsSound (first_module services)
first_sound services few = record {
  fits = module_fits services [] tt;
  few = omega (arith, first_length services);
}

at_length : (v : ℕ) (f : ServiceOffers → ServiceOffers) (l : PendingTable) → length (at_service v f l) ≡ length l
at_length v f [] = refl
at_length zero f (o ∷ l) = refl
at_length (suc v) f (o ∷ l) = ap suc (at_length v f l)

after_length : (p : PendingTable) (e : Event) → length (pending_after p e) ≡ length p
after_length p (events.Term term position stamp base leader) = refl
after_length p (events.Opened term corr session stamp stream channel) = refl
after_length p (events.Message term session stamp payload) = refl
after_length p (events.ServiceMessage term service n stamp payload) = at_length service _ p
after_length p (events.Timer term corr stamp) = refl
after_length p (events.Closed term session stamp reason) = refl
after_length p (events.Snapshot term position stamp) = refl

asked_length : (p : PendingTable) (v : ℕ) (c : Command) → length (pending_asked p v c) ≡ length p
asked_length p v (commands.CloseSession session) = refl
asked_length p v (commands.Schedule corr deadline) = refl
asked_length p v (commands.Cancel corr) = refl
asked_length p v (commands.Offer service n payload) = at_length v _ p
asked_length p v (commands.Ack position service) = refl

after_sound : (m : Module) (e : Event) → HasSpelling e → IsSound m → IsSound (module_after m e)
after_sound m e h s = record {
  fits = record {
    sessions = sessions_fit_after m.sessions e h s.fits.sessions;
    timers = timers_fit_after m.timers e h s.fits.timers;
    pending = pending_fit_after m.pending e h s.fits.pending;
    counts = counts_fit_after m.counts e h s.fits.counts;
  };
  few = subst (λ n. n ≤ 3) (sym (after_length m.pending e)) s.few;
}

-- the parts after an event
pub parts_after : (m : Module) (e : Event) (s : SessionTable) (t : TimerTable) (p : PendingTable) (c : Counts) → HasSpelling e → IsSound m
    → s ≡ sessions_after m.sessions e → t ≡ timers_after m.timers e → p ≡ pending_after m.pending e → c ≡ counts_after m.counts e → IsSound (made_of s t p c)
parts_after m e s t p c h k is it ip ic = subst IsSound (sym (ap (λ x. made_of x t p c) is ∙ ap (λ x. made_of (sessions_after m.sessions e) x p c) it ∙ ap (λ x. made_of (sessions_after m.sessions e) (timers_after m.timers e) x c) ip ∙ ap (λ x. made_of (sessions_after m.sessions e) (timers_after m.timers e) (pending_after m.pending e) x) ic)) (after_sound m e h k)

-- the parts of the first module
pub parts_first : (services : ℕ) (s : SessionTable) (t : TimerTable) (p : PendingTable) (c : Counts) → services ≤ 3
    → s ≡ first_sessions → t ≡ [] → p ≡ first_pending services → c ≡ no_counts → IsSound (made_of s t p c)
parts_first services s t p c few is it ip ic = subst IsSound (sym (ap (λ x. made_of x t p c) is ∙ ap (λ x. made_of first_sessions x p c) it ∙ ap (λ x. made_of first_sessions [] x c) ip ∙ ap (λ x. made_of first_sessions [] (first_pending services) x) ic)) (first_sound services few)

-- the parts after a command
pub parts_asked : (m : Module) (v : ℕ) (a : Command) (s : SessionTable) (t : TimerTable) (p : PendingTable) → AskFits a → IsSound m
    → s ≡ sessions_asked m.sessions v a → t ≡ timers_asked m.timers v a → p ≡ pending_asked m.pending v a → IsSound (made_of s t p m.counts)
parts_asked m v a s t p h k is it ip = subst IsSound (sym (ap (λ x. made_of x t p m.counts) is ∙ ap (λ x. made_of (sessions_asked m.sessions v a) x p m.counts) it ∙ ap (λ x. made_of (sessions_asked m.sessions v a) (timers_asked m.timers v a) x m.counts) ip)) sound
  where
    sound : IsSound (made_of (sessions_asked m.sessions v a) (timers_asked m.timers v a) (pending_asked m.pending v a) m.counts)
    sound = record {
      fits = record {
        sessions = sessions_fit_asked m.sessions v a h k.fits.sessions;
        timers = timers_fit_asked m.timers v a h k.fits.timers;
        pending = pending_fit_asked m.pending v a h k.fits.pending;
        counts = k.fits.counts;
      };
      few = subst (λ n. n ≤ 3) (sym (asked_length m.pending v a)) k.few;
    }

-- the timers alone after a command
pub timers_alone : (m : Module) (v : ℕ) (a : Command) (t : TimerTable) (p : PendingTable) → AskFits a → IsSound m → t ≡ timers_asked m.timers v a → p ≡ m.pending → IsSound (made_of m.sessions t p m.counts)
timers_alone m v a t p h k it ip = subst IsSound (sym (ap (λ x. made_of m.sessions x p m.counts) it ∙ ap (λ x. made_of m.sessions (timers_asked m.timers v a) x m.counts) ip)) sound
  where
    sound : IsSound (made_of m.sessions (timers_asked m.timers v a) m.pending m.counts)
    sound = record {
      fits = record { sessions = k.fits.sessions; timers = timers_fit_asked m.timers v a h k.fits.timers; pending = k.fits.pending; counts = k.fits.counts };
      few = k.few;
    }
