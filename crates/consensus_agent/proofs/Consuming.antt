-- What a phase feeds and what its end takes, one feed, one output and one container after the other.
use Rattle.std.proofs.Common.{◌≡◌, ℕ, ◌+◌, Bool, List, [], ◌∷◌, ◌++◌, map, take, drop, Option, Some, None, refl, ap, sym, ◌∙◌, subst, append_assoc}
use Rattle.std.specs.Prelude.{slice_get}
use Rattle.std.proofs.lemmas.List.{append-nil}
use Rattle.cl_base.specs.declared.entry.Entry.{Entry}
use Rattle.commit_counter.specs.Ends.{Fed}
use Rattle.commit_counter.specs.declared.role.Role.{Role}
use Rattle.egress.specs.declared.sent.Sent.{Sent}
use Rattle.sbe_events.specs.declared.event.Event.{Event}
use Rattle.sbe_events.specs.Spelling.{term_of}
use Rattle.service_api.specs.declared.output.Output.{Output}
use Rattle.service_api.specs.declared.output.Output.TheVariants as outputs
use Rattle.service_container.specs.Held.{Held}
use Rattle.service_phases.specs.Feeds.{FeedsFrom, IsFed, Publishes, TakesMore}
use Rattle.service_phases.specs.Pairs.{Each, Each2}
use Rattle.service_phases.proofs.FedLog.{all_on}
use Rattle.module_state.specs.declared.output.ModuleOutput.{ModuleOutput}
use Rattle.module_state.specs.Module.{Module, module_after, module_asked, module_part}
use Rattle.module_state.specs.Outputs.{outputs_of}
use Rattle.module_state.specs.Owed.{owed_by_module}
use Rattle.module_state.specs.Part.{Asked, after_asks}
use Rattle.module_state.specs.Services.{asks_among}
use Rattle.owed_egress.specs.Outbox.{outputs_in}
use Rattle.owed_egress.specs.Records.{output_in, owed_outputs, sends_of, sent_of}
use Rattle.owed_egress.specs.Taken.{asks_at, module_over, module_with, sent_by_services, sent_over, sent_with}
use Rattle.owed_egress.proofs.Over.{over_next, sent_next}
use Rattle.member_module.specs.Ahead.{some_event}
use Rattle.member_module.specs.Held.{Held as ModuleHeld}
use Rattle.consensus_agent.specs.Consumed.{HasConsumed, HaveRising, IsTaking, asked_by, outboxes}

-- what feeds were fed of a log stays the log's, where these are its entries from the first on
pub all_from : (log : List Entry) (commit first : ℕ) (entries : List Entry) (bs fs gs hs : List Fed) → entries ≡ drop first log → Each (IsFed first commit) fs → Each2 (TakesMore first entries) fs gs → Each2 (Publishes commit) gs hs → Each2 (FeedsFrom log commit) bs fs → Each2 (FeedsFrom log commit) bs hs
all_from log commit first entries bs fs gs hs is fed takes publishes was =
    all_on log commit first bs fs gs hs fed was (subst (λ (es : List Entry). Each2 (TakesMore first es) fs gs) is takes) publishes

after_both : (m : Module) (xs ys : List Asked) → after_asks module_part m (xs ++ ys) ≡ after_asks module_part (after_asks module_part m xs) ys
after_both m [] ys = refl
after_both m (x ∷ xs) ys = after_both (module_asked m x.service x.command) xs ys

one_asked : (m : Module) (v : ℕ) (o : Output) (rest : List Output) → after_asks module_part m (asks_among v (o ∷ rest)) ≡ after_asks module_part (asked_by m v o) (asks_among v rest)
one_asked m v (outputs.Command c) rest = refl
one_asked m v (outputs.Egress session payload) rest = refl

-- a service asks by its first output, and then by the others
pub asked_first : (m : Module) (v : ℕ) (o : ℕ × Output) (rest : List (ℕ × Output)) → after_asks module_part m (asks_among v (map output_in (o ∷ rest))) ≡ after_asks module_part (asked_by m v o.1) (asks_among v (map output_in rest))
asked_first m v o rest = one_asked m v o.1 (map output_in rest)

-- the first service asks, and then the others
pub services_asked : (i : ℕ) (m one all : Module) (c : Held) (rest : List Held) (outs : List (ℕ × Output)) → outs ≡ outputs_in i c.outbox → one ≡ after_asks module_part m (asks_among c.service (map output_in outs)) → all ≡ after_asks module_part one (asks_at i (outboxes rest))
    → all ≡ after_asks module_part m (asks_at i (outboxes (c ∷ rest)))
services_asked i m one all c rest outs is first then =
    then
    ∙ ap (λ (s : Module). after_asks module_part s (asks_at i (outboxes rest))) (first ∙ ap (λ (os : List (ℕ × Output)). after_asks module_part m (asks_among c.service (map output_in os))) is)
    ∙ sym (after_both m (asks_among c.service (map output_in (outputs_in i c.outbox))) (asks_at i (outboxes rest)))

-- what the first service owes is sent, and then what the others owe
pub services_sent : (sends : Bool) (i : ℕ) (m : Module) (e : Event) (sent one all : List Sent) (c : Held) (rest : List Held) (outs : List (ℕ × Output)) → outs ≡ outputs_in i c.outbox → one ≡ sent ++ sent_of sends i (Some c.service) (owed_outputs m e outs) → all ≡ one ++ sent_by_services sends i m e (outboxes rest)
    → all ≡ sent ++ sent_by_services sends i m e (outboxes (c ∷ rest))
services_sent sends i m e sent one all c rest outs is first then =
    then
    ∙ ap (λ (s : List Sent). s ++ sent_by_services sends i m e (outboxes rest)) (first ∙ ap (λ (os : List (ℕ × Output)). sent ++ sent_of sends i (Some c.service) (owed_outputs m e os)) is)
    ∙ append_assoc sent (sent_of sends i (Some c.service) (owed_outputs m e (outputs_in i c.outbox))) (sent_by_services sends i m e (outboxes rest))

-- ---- one entry after the other

pub taking_on : (a b c : ModuleHeld) → IsTaking a b → IsTaking b c → IsTaking a c
taking_on a b c one two = record {
  consumed = two.consumed ∙ one.consumed;
  ahead = two.ahead ∙ one.ahead;
  coming = two.coming ∙ one.coming;
  alive = two.alive ∙ one.alive;
  since = two.since ∙ one.since;
}

pub unchanged : (a : ModuleHeld) → IsTaking a a
unchanged a = record { consumed = refl; ahead = refl; coming = refl; alive = refl; since = refl }

pub applied : (a b : ModuleHeld) → b ≡ record a { state = b.state; latest = None } → IsTaking a b
applied a b is = record {
  consumed = ap (λ (m : ModuleHeld). m.consumed) is;
  ahead = ap (λ (m : ModuleHeld). m.ahead) is;
  coming = ap (λ (m : ModuleHeld). m.coming) is;
  alive = ap (λ (m : ModuleHeld). m.alive) is;
  since = ap (λ (m : ModuleHeld). m.since) is;
}

pub all_taken : (a b c : ModuleHeld) → IsTaking a b → c ≡ record b { consumed = c.consumed; ahead = c.ahead; latest = c.latest } → HasConsumed a c
all_taken a b c taking is = record {
  coming = ap (λ (m : ModuleHeld). m.coming) is ∙ taking.coming;
  alive = ap (λ (m : ModuleHeld). m.alive) is ∙ taking.alive;
  since = ap (λ (m : ModuleHeld). m.since) is ∙ taking.since;
}

-- the module over one entry more
pub one_taken : (kept now : List Held) (n : ℕ) (a b : ModuleHeld) (next : Module) → now ≡ kept → IsTaking a b
    → (HaveRising kept → b.state ≡ module_over (outboxes kept) a.consumed a.state (take n a.ahead.events))
    → (HaveRising now → next ≡ module_with (outboxes now) (b.consumed + n) b.state (slice_get b.ahead.events n))
    → HaveRising kept → next ≡ module_over (outboxes kept) a.consumed a.state (take (n + 1) a.ahead.events)
one_taken kept now n a b next same taking was step rising =
    step (subst HaveRising (sym same) rising)
    ∙ (λ i. module_with (outboxes (same i)) (taking.consumed i + n) (was rising i) (slice_get ((taking.ahead i).events) n))
    ∙ sym (over_next (outboxes kept) a.consumed n a.state a.ahead.events)

-- and what it owes, behind what the others owe
pub one_sent : (kept now : List Held) (n : ℕ) (role as_now : Role) (a b : ModuleHeld) (sent next : List Sent) → now ≡ kept → as_now ≡ role → IsTaking a b
    → (HaveRising kept → b.state ≡ module_over (outboxes kept) a.consumed a.state (take n a.ahead.events))
    → (HaveRising kept → sent ≡ sent_over role (outboxes kept) a.consumed a.state (take n a.ahead.events))
    → (HaveRising now → next ≡ sent ++ sent_with as_now (outboxes now) (b.consumed + n) b.state (slice_get b.ahead.events n))
    → HaveRising kept → next ≡ sent_over role (outboxes kept) a.consumed a.state (take (n + 1) a.ahead.events)
one_sent kept now n role as_now a b sent next same as' taking state was step rising =
    step (subst HaveRising (sym same) rising)
    ∙ (λ i. was rising i ++ sent_with (as' i) (outboxes (same i)) (taking.consumed i + n) (state rising i) (slice_get ((taking.ahead i).events) n))
    ∙ sym (sent_next role (outboxes kept) a.consumed n a.state a.ahead.events)

-- the module takes the event of an entry, and then what the services ask at it
pub entry_taken : (kept : List Held) (i : ℕ) (m one all : Module) (o : Option Event) (e : Event) → o ≡ some_event e → one ≡ module_after m e → (HaveRising kept → all ≡ after_asks module_part one (asks_at i (outboxes kept)))
    → HaveRising kept → all ≡ module_with (outboxes kept) i m o
entry_taken kept i m one all o e is first then rising =
    then rising ∙ ap (λ (s : Module). after_asks module_part s (asks_at i (outboxes kept))) first ∙ ap (module_with (outboxes kept) i m) (sym is)

-- an entry that spells no event
pub none_taken : (kept : List Held) (i : ℕ) (m : Module) (o : Option Event) → o ≡ None → m ≡ module_with (outboxes kept) i m o
none_taken kept i m o is = ap (module_with (outboxes kept) i m) (sym is)

-- what an entry owes is sent: what the module owes, and then what the services owe
pub entry_sent : (role : Role) (kept : List Held) (i : ℕ) (m one : Module) (o : Option Event) (e : Event) (sent all : List Sent) (owed : List ModuleOutput) → o ≡ some_event e → one ≡ module_after m e → owed ≡ outputs_of (owed_by_module m e)
    → (HaveRising kept → all ≡ sent ++ (sent_of (sends_of role (term_of e)) i None owed ++ sent_by_services (sends_of role (term_of e)) i one e (outboxes kept)))
    → HaveRising kept → all ≡ sent ++ sent_with role (outboxes kept) i m o
entry_sent role kept i m one o e sent all owed is first owes then rising =
    then rising
    ∙ (λ j. sent ++ (sent_of (sends_of role (term_of e)) i None (owes j) ++ sent_by_services (sends_of role (term_of e)) i (first j) e (outboxes kept)))
    ∙ ap (λ (x : Option Event). sent ++ sent_with role (outboxes kept) i m x) (sym is)

pub none_sent : (role : Role) (kept : List Held) (i : ℕ) (m : Module) (o : Option Event) (sent : List Sent) → o ≡ None → sent ≡ sent ++ sent_with role (outboxes kept) i m o
none_sent role kept i m o sent is = sym (append-nil sent) ∙ ap (λ (x : Option Event). sent ++ sent_with role (outboxes kept) i m x) (sym is)

-- the module's records, and then the services'
pub entry_owes : (sends : Bool) (i : ℕ) (m : Module) (e : Event) (kept : List Held) (sent one all : List Sent) (owed : List ModuleOutput) → one ≡ sent ++ sent_of sends i None owed → all ≡ one ++ sent_by_services sends i m e (outboxes kept)
    → all ≡ sent ++ (sent_of sends i None owed ++ sent_by_services sends i m e (outboxes kept))
entry_owes sends i m e kept sent one all owed first then =
    then ∙ ap (λ (s : List Sent). s ++ sent_by_services sends i m e (outboxes kept)) first ∙ append_assoc sent (sent_of sends i None owed) (sent_by_services sends i m e (outboxes kept))
