-- Events of entries, and the module that takes them.
use Rattle.std.proofs.Common.{◌≡◌, ℕ, zero, suc, List, [], ◌∷◌, ◌++◌, take, drop, map, Option, None, Some, refl, sym, ap, ◌∙◌}
use Rattle.std.specs.Prelude.{IfSome}
use Rattle.std.specs.List.{AllByRecursion}
use Rattle.std.proofs.lemmas.List.{take-map, drop-map}
use Rattle.cl_base.specs.declared.entry.Entry.{Entry}
use Rattle.wire_prims.specs.declared.fault.Bad.{Bad}
use Rattle.sbe_events.specs.declared.event.Event.{Event}
use Rattle.sbe_events.specs.Spelling.{HasSpelling, event_of, first_fault}
use Rattle.module_state.specs.Entries.{events_in, with_event}
use Rattle.module_state.specs.Part.{Part, run_events}
use Rattle.module_state.specs.Module.{Module, module_after, tentative}
use Rattle.module_state.specs.Dispatch.{pending_part, sessions_part, timers_part}
use Rattle.module_state.specs.Counts.{counts_part}
use Rattle.member_module.specs.Ahead.{AreEvents, event_in, some_event}
use Rattle.member_module.specs.Held.{brought_past, with_coming}

module _ {X : Type 0} (P : X → Type 0) where
  all_take : (n : ℕ) (xs : List X) → AllByRecursion P xs → AllByRecursion P (take n xs)
  all_take zero xs h = tt
  all_take (suc n) [] h = tt
  all_take (suc n) (x ∷ xs) h = (h.0, all_take n xs h.1)

  all_drop : (n : ℕ) (xs : List X) → AllByRecursion P xs → AllByRecursion P (drop n xs)
  all_drop zero xs h = h
  all_drop (suc n) [] h = tt
  all_drop (suc n) (x ∷ xs) h = all_drop n xs h.1

  all_push : (xs : List X) (x : X) → AllByRecursion P xs → P x → AllByRecursion P (xs ++ x ∷ [])
  all_push [] x h p = (p, tt)
  all_push (y ∷ xs) x h p = (h.0, all_push xs x h.1 p)

pub take_events : (xs : List Entry) (es : List Event) (n : ℕ) → AreEvents xs es → AreEvents (take n xs) (take n es)
take_events xs es n h = record {
  same = sym (take-map some_event n es) ∙ ap (take n) h.same ∙ take-map event_in n xs;
  spelled = all_take HasSpelling n es h.spelled;
}

pub drop_events : (xs : List Entry) (es : List Event) (n : ℕ) → AreEvents xs es → AreEvents (drop n xs) (drop n es)
drop_events xs es n h = record {
  same = sym (drop-map some_event n es) ∙ ap (drop n) h.same ∙ drop-map event_in n xs;
  spelled = all_drop HasSpelling n es h.spelled;
}

push_map : {X Y : Type 0} (f : X → Y) (xs : List X) (x : X) → map f (xs ++ x ∷ []) ≡ map f xs ++ f x ∷ []
push_map f [] x = refl
push_map f (y ∷ xs) x = ap (λ r. f y ∷ r) (push_map f xs x)

pub push_events : (xs : List Entry) (es : List Event) (x : Entry) (e : Event) → AreEvents xs es → event_in x ≡ Some e → HasSpelling e → AreEvents (xs ++ x ∷ []) (es ++ e ∷ [])
push_events xs es x e h is spelled = record {
  same = push_map some_event es e ∙ ap (λ r. r ++ Some e ∷ []) h.same ∙ ap (λ o. map event_in xs ++ o ∷ []) (sym is) ∙ sym (push_map event_in xs x);
  spelled = all_push HasSpelling es e h.spelled spelled;
}

-- bytes with a fault are no event
pub no_event : (bytes : List ℕ) (b : Bad) → first_fault bytes ≡ Some b → event_of bytes ≡ None
unfolding event_of
no_event bytes b fault = rw fault refl

events_push : {S : Type 0} (p : Part S) (s : S) (es : List Event) (e : Event) → run_events p s (es ++ e ∷ []) ≡ p.after (run_events p s es) e
events_push p s [] e = refl
events_push p s (x ∷ es) e = events_push p (p.after s x) es e

-- a tentative state with one more event
pub tentative_push : (m : Module) (es : List Event) (e : Event) → tentative m (es ++ e ∷ []) ≡ module_after (tentative m es) e
tentative_push m es e = λ i. record {
  sessions = events_push sessions_part m.sessions es e i;
  timers = events_push timers_part m.timers es e i;
  pending = events_push pending_part m.pending es e i;
  counts = events_push counts_part m.counts es e i;
}

pub past_is : (m : Module) (es : List Event) (e : Event) (latest next : Option Module) → IfSome latest (λ t. t ≡ tentative m es) → next ≡ brought_past e latest → IfSome next (λ t. t ≡ tentative m (es ++ e ∷ []))
past_is m es e None next h is = rw is tt
past_is m es e (Some t) next h is = rw is (ap (λ x. module_after x e) h ∙ sym (tentative_push m es e))

-- the events of one entry
pub one_event : (x : Entry) (e : Event) → event_in x ≡ Some e → events_in (x ∷ []) ≡ e ∷ []
one_event x e is = ap (λ o. with_event o []) is

-- the event that came stands behind the others
pub with_one : (o : Option Event) (e : Event) (es : List Event) → o ≡ Some e → with_coming o es ≡ es ++ e ∷ []
with_one o e es is = ap (λ z. with_coming z es) is
