-- What the module takes of a row.
use Rattle.std.proofs.Common.{◌≡◌, ℕ, ◌-◌, ℤ, Bool, true, false, ◌||◌, List, [], ◌∷◌, ◌++◌, take, Option, Some, None, refl, sym, ap, subst, ◌∙◌, if◌then◌else◌}
use Rattle.cl_base.specs.declared.entry.Entry.{Entry}
use Rattle.entry_log.specs.Log.{Log}
use Rattle.sbe_events.specs.declared.event.Event.{Event}
use Rattle.sbe_events.specs.Spelling.{event_of}
use Rattle.module_state.specs.Entries.{events_in, with_event}
use Rattle.module_state.specs.Module.{Module}
use Rattle.member_module.specs.Held.{Held as ModuleHeld}
use Rattle.consensus_core.specs.declared.change.Change.{Change}
use Rattle.consensus_core.specs.declared.change.Change.TheVariants as changes
use Rattle.consensus_core.specs.declared.row.Row.{Row}
use Rattle.consensus_core.specs.declared.values.Values.{Values}
use Rattle.consensus_core.specs.Fit.{Held as CoreHeld}
use Rattle.consensus_core.specs.Member.{is_ready}
use Rattle.consensus_agent.specs.Sound.{ends_phase}
use Rattle.consensus_agent.specs.Taken.{HasTaken, IsTaken, RowTaken, ahead_after, begins_reign, events_after}
use Rattle.consensus_agent.proofs.Running.{Gave}

-- ---- the events of entries that come one by one

with_more : (o : Option Event) (es fs : List Event) → with_event o (es ++ fs) ≡ with_event o es ++ fs
with_more None es fs = refl
with_more (Some e) es fs = refl

pub events_more : (xs ys : Log) → events_in (xs ++ ys) ≡ events_in xs ++ events_in ys
events_more [] ys = refl
events_more (x ∷ xs) ys = ap (with_event (event_of x.bytes)) (events_more xs ys) ∙ with_more (event_of x.bytes) (events_in xs) (events_in ys)

append_twice : (as' bs cs : List Event) → (as' ++ bs) ++ cs ≡ as' ++ (bs ++ cs)
append_twice [] bs cs = refl
append_twice (a ∷ as') bs cs = ap (λ (l : List Event). a ∷ l) (append_twice as' bs cs)

pub events_push : (es fs new : List Event) (xs : Log) (x : Entry) → fs ≡ es ++ events_in xs → new ≡ fs ++ events_in (x ∷ []) → new ≡ es ++ events_in (xs ++ x ∷ [])
events_push es fs new xs x so is =
    is ∙ ap (λ (l : List Event). l ++ events_in (x ∷ [])) so ∙ append_twice es (events_in xs) (events_in (x ∷ [])) ∙ ap (λ (l : List Event). es ++ l) (sym (events_more xs (x ∷ [])))

-- ---- a change

pub took_nothing : (m n : ModuleHeld) → n ≡ m → HasTaken changes.Nothing false 0 m n
took_nothing m n is = subst (HasTaken changes.Nothing false 0 m) (sym is) (record { state = refl; consumed = refl; entries = refl; events = refl; coming = refl; alive = refl; since = refl })

pub took_raise : (term : ℤ) (voted : Option ℕ) (m n : ModuleHeld) → n ≡ m → HasTaken (changes.Raise term voted) false 0 m n
took_raise term voted m n is = subst (HasTaken (changes.Raise term voted) false 0 m) (sym is) (record { state = refl; consumed = refl; entries = refl; events = refl; coming = refl; alive = refl; since = refl })

pub took_entries : (es : Log) (m n : ModuleHeld) → n ≡ record m { ahead = n.ahead; latest = n.latest } → n.ahead.entries ≡ m.ahead.entries ++ es → n.ahead.events ≡ m.ahead.events ++ events_in es → HasTaken (changes.Append es) false 0 m n
took_entries es m n is entries events = record {
  state = ap (λ (x : ModuleHeld). x.state) is;
  consumed = ap (λ (x : ModuleHeld). x.consumed) is;
  entries = entries;
  events = events;
  coming = ap (λ (x : ModuleHeld). x.coming) is;
  alive = ap (λ (x : ModuleHeld). x.alive) is;
  since = ap (λ (x : ModuleHeld). x.since) is;
}

pub took_cut : (k : ℕ) (m n : ModuleHeld) → n ≡ record m { ahead = n.ahead; latest = None } → n.ahead.entries ≡ take (k - m.consumed) m.ahead.entries → n.ahead.events ≡ take (k - m.consumed) m.ahead.events → HasTaken (changes.Cut k) false 0 m n
took_cut k m n is entries events = record {
  state = ap (λ (x : ModuleHeld). x.state) is;
  consumed = ap (λ (x : ModuleHeld). x.consumed) is;
  entries = entries;
  events = events;
  coming = ap (λ (x : ModuleHeld). x.coming) is;
  alive = ap (λ (x : ModuleHeld). x.alive) is;
  since = ap (λ (x : ModuleHeld). x.since) is;
}

-- ---- and whether a reign begins

rests : (begins : Bool) (now : ℕ) (m n : ModuleHeld) → begins ≡ false → n ≡ record m { latest = n.latest } → HasTaken changes.Nothing begins now m n
rests begins now m n none is =
    subst (λ b. HasTaken changes.Nothing b now m n) (sym none)
    (record {
      state = ap (λ (x : ModuleHeld). x.state) is;
      consumed = ap (λ (x : ModuleHeld). x.consumed) is;
      entries = ap (λ (x : ModuleHeld). x.ahead.entries) is;
      events = ap (λ (x : ModuleHeld). x.ahead.events) is;
      coming = ap (λ (x : ModuleHeld). x.coming) is;
      alive = ap (λ (x : ModuleHeld). x.alive) is;
      since = ap (λ (x : ModuleHeld). x.since) is;
    })

not_ready : (was ready : Bool) → ready ≡ false → begins_reign was ready ≡ false
not_ready was true h = absurd (cc)
not_ready was false h = refl

still_ready : (was ready : Bool) → was ≡ true → begins_reign was ready ≡ false
still_ready true true h = refl
still_ready true false h = refl
still_ready false ready h = absurd (cc)

now_ready : (was ready : Bool) → was ≡ false → ready ≡ true → begins_reign was ready ≡ true
now_ready true ready h k = absurd (cc)
now_ready false true h k = refl
now_ready false false h k = absurd (cc)

-- it doesn't lead
pub took_rest : (was ready : Bool) (now : ℕ) (m n : ModuleHeld) → ready ≡ false → n ≡ record m { latest = None } → HasTaken changes.Nothing (begins_reign was ready) now m n
took_rest was ready now m n h is =
    rests (begins_reign was ready) now m n (not_ready was ready h) (is ∙ ap (λ (z : Option Module). record m { latest = z }) (sym (ap (λ (x : ModuleHeld). x.latest) is)))

-- a reign goes on
pub took_on : (was ready : Bool) (now : ℕ) (m n : ModuleHeld) → was ≡ true → n ≡ m → HasTaken changes.Nothing (begins_reign was ready) now m n
took_on was ready now m n h is = subst (HasTaken changes.Nothing (begins_reign was ready) now m) (sym is) (rests (begins_reign was ready) now m m (still_ready was ready h) refl)

-- one begins
pub took_reign : (was ready : Bool) (now : ℕ) (m n : ModuleHeld) → was ≡ false → ready ≡ true → n ≡ record m { latest = None; alive = []; since = now } → HasTaken changes.Nothing (begins_reign was ready) now m n
took_reign was ready now m n h k is =
    subst (λ b. HasTaken changes.Nothing b now m n) (sym (now_ready was ready h k))
    (record {
      state = ap (λ (x : ModuleHeld). x.state) is;
      consumed = ap (λ (x : ModuleHeld). x.consumed) is;
      entries = ap (λ (x : ModuleHeld). x.ahead.entries) is;
      events = ap (λ (x : ModuleHeld). x.ahead.events) is;
      coming = ap (λ (x : ModuleHeld). x.coming) is;
      alive = ap (λ (x : ModuleHeld). x.alive) is;
      since = ap (λ (x : ModuleHeld). x.since) is;
    })

-- ---- both

pub took_both : (change : Change) (begins : Bool) (now : ℕ) (m l n : ModuleHeld) → HasTaken change false 0 m l → HasTaken changes.Nothing begins now l n → HasTaken change begins now m n
took_both change begins now m l n first next = record {
  state = next.state ∙ first.state;
  consumed = next.consumed ∙ first.consumed;
  entries = next.entries ∙ first.entries;
  events = next.events ∙ first.events;
  coming = next.coming ∙ first.coming;
  alive = next.alive ∙ ap (λ (l : List (ℤ × ℕ)). if begins then [] else l) first.alive;
  since = next.since ∙ ap (λ (t : ℕ). if begins then now else t) first.since;
}

-- a row's change was taken, and then its packets were made
pub is_taken : (change : Change) (was : Bool) (v w : Values) (now : ℕ) (m l k n : ModuleHeld) (before over : Bool) → HasTaken change false 0 m l → HasTaken changes.Nothing (begins_reign was (is_ready w.election.state)) now l k → n ≡ k → w ≡ v → over ≡ (before || ends_phase was change v.election.state)
    → IsTaken change was v now m n before over
is_taken change was v w now m l k n before over first next same values phase =
    let b : begins_reign was (is_ready w.election.state) ≡ begins_reign was (is_ready v.election.state) = ap (λ (x : Values). begins_reign was (is_ready x.election.state)) values in
    record {
      taken = subst (HasTaken change (begins_reign was (is_ready v.election.state)) now m) (sym same)
          (took_both change (begins_reign was (is_ready v.election.state)) now m l k first (subst (λ z. HasTaken changes.Nothing z now l k) b next));
      phase = phase;
    }

-- the change and the values that the core gave are the row's
pub row_taken : (row : Row) (v : Values) (c : Change) (h : CoreHeld) (was : Bool) (now : ℕ) (m n : ModuleHeld) (before over : Bool) → Gave row c h → was ≡ is_ready v.election.state → IsTaken c was h.values now m n before over → RowTaken row v now m n before over
row_taken row v c h was now m n before over g ready is =
    subst (λ w. IsTaken row.change w row.values now m n before over) ready
    (subst (λ z. IsTaken z was row.values now m n before over) g.change
    (subst (λ (z : CoreHeld). IsTaken c was z.values now m n before over) g.held is))

-- a duty's row, by what was due
pub taken_past : (row own : Row) (v u : Values) (now : ℕ) (m l n : ModuleHeld) (before mid over : Bool) → own ≡ row → u ≡ v → mid ≡ before → l ≡ record m { latest = l.latest } → RowTaken own u now l n mid over → RowTaken row v now m n before over
taken_past row own v u now m l n before mid over rows values phase is taken =
    let h : RowTaken row v now l n before over =
    subst (λ b. RowTaken row v now l n b over) phase
    (subst (λ z. RowTaken row z now l n mid over) values (subst (λ z. RowTaken z u now l n mid over) rows taken)) in
    record {
      taken = record {
        state = h.taken.state ∙ ap (λ (x : ModuleHeld). x.state) is;
        consumed = h.taken.consumed ∙ ap (λ (x : ModuleHeld). x.consumed) is;
        entries = h.taken.entries ∙ ap (λ (x : ModuleHeld). ahead_after row.change x.consumed x.ahead.entries) is;
        events = h.taken.events ∙ ap (λ (x : ModuleHeld). events_after row.change x.consumed x.ahead.events) is;
        coming = h.taken.coming ∙ ap (λ (x : ModuleHeld). x.coming) is;
        alive = h.taken.alive ∙ ap (λ (x : ModuleHeld). if begins_reign (is_ready v.election.state) (is_ready row.values.election.state) then [] else x.alive) is;
        since = h.taken.since ∙ ap (λ (x : ModuleHeld). if begins_reign (is_ready v.election.state) (is_ready row.values.election.state) then now else x.since) is;
      };
      phase = h.phase;
    }
