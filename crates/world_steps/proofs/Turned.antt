-- Each step of the code is one turn of the world with its services and modules.
use Rattle.std.proofs.Common.{◌≡◌, ℕ, ◌^◌, Bool, true, false, ◌&&◌, List, length, drop, Option, Some, None, refl, ap, ◌∙◌, ℤ, if◌then◌else◌}
use Rattle.std.specs.Prelude.{nat_le, slice_get}
use Rattle.sbe_events.specs.declared.event.Event.{Event}
use Rattle.service_api.specs.declared.shipped.Kind.{Kind}
use Rattle.module_state.specs.Entries.{events_in}
use Rattle.module_state.specs.Logs.{due_in}
use Rattle.entry_log.specs.Log.{Log}
use Rattle.consensus_core.specs.Member.{Sent}
use Rattle.world.specs.World.{World, Step, Passes, Duty, Delivers, Client, member, step}
use Rattle.service_runs.specs.Hosts.{Rules, Hosted, Act, Rows, act, noted, is_free, is_row, lets_at, lets_rows, lets_packet}
use Rattle.one_log.specs.Led.{Led, Acts, Asks, consumes, goes_on, is_bare, turn, due_at as due_there, is_asked as asked_there}
use Rattle.one_log.specs.Ruled.{rules_of}
use Rattle.world_steps.specs.Members.{cut_of}
use Rattle.world_steps.specs.Steps.{Seen, IsQuiet, IsGiven, still, due_at, is_asked, step_of, turn_of}
use Rattle.world_steps.specs.declared.step.Step.{Step as CodeStep}
use Rattle.world_steps.specs.declared.step.Step.TheVariants as steps

abbrev pub seen_of : List Kind → Led → Seen
seen_of kinds l = record { kinds = kinds; world = l.hosted.world; printed = l.hosted.printed }

-- after an act that makes this world
abbrev pub noted_led : Rules → Led → World → Led
noted_led r l v = record { hosted = noted r l.hosted v; consumed = consumes l (noted r l.hosted v) }

went : (r : Rules) (l : Led) (a : Act) (v : World) → act r l.hosted a ≡ noted r l.hosted v → goes_on r l a ≡ noted_led r l v
went r l a v e = ap (λ (z : Hosted). record { hosted = z; consumed = consumes l z }) e

bare-act : (kinds : List Kind) (r : Rules) (l : Led) (a : Act) → is_bare a ≡ true → turn kinds r l (Acts a) ≡ goes_on r l a
bare-act kinds r l a h = ap (λ (b : Bool). if b then goes_on r l a else l) h

free-row : (r : Rules) (h : Hosted) (s : Step) → is_row s ≡ true → is_free h s ≡ true → act r h (Rows s) ≡ noted r h (step h.world s)
free-row r h s row free = ap (λ (b : Bool). if b then noted r h (step h.world s) else h) (ap (λ (b : Bool). b && is_free h s) row ∙ free)

lets : (l : Led) (m : ℕ) → IsQuiet l → lets_at l.hosted m ≡ true
lets l m q = ap (lets_rows (member l.hosted.world m) (l.hosted.hosts m)) (q.idle m)

lets-sent : (l : Led) (o : Option Sent) → IsQuiet l → lets_packet l.hosted o ≡ true
lets-sent l None q = refl
lets-sent l (Some s) q = lets l s.to q

pub due-same : (kinds : List Kind) (l : Led) (m : ℕ) (alive : List (ℤ × ℕ)) (since : ℕ) → IsQuiet l → due_there kinds l m alive since ≡ due_at (seen_of kinds l) m alive since
due-same kinds l m alive since q =
    ap (λ (xs : Log). due_in kinds (events_in xs) (events_in (drop (length xs) (member l.hosted.world m).durable.log)) alive (member l.hosted.world m).values.election.term l.hosted.world.now since) (q.consumed m)

still-turn : (kinds : List Kind) (r : Rules) (l : Led) → turn kinds r l (Acts (Rows still)) ≡ noted_led r l (step l.hosted.world still)
still-turn kinds r l = went r l (Rows still) (step l.hosted.world still) refl

pub asked-same : (kinds : List Kind) (l : Led) (m : ℕ) (e : Event) → IsQuiet l → asked_there kinds l m e ≡ is_asked (seen_of kinds l) m e
asked-same kinds l m e q = ap (λ (xs : Log). asked_there kinds (record l { consumed = λ (k : ℕ). xs }) m e) (q.consumed m)

pub turn-is : (kinds : List Kind) (l : Led) (c : CodeStep) (g : IsGiven c) → IsQuiet l → turn kinds (rules_of kinds) l (turn_of (seen_of kinds l) c g) ≡ noted_led (rules_of kinds) l (step l.hosted.world (step_of (seen_of kinds l) c))
turn-is kinds l (steps.Passes now) g q = at (nat_le now (2 ^ 60)) refl
  where
    r : Rules
    r = rules_of kinds

    at : (b : Bool) → nat_le now (2 ^ 60) ≡ b → turn kinds r l (if b then Acts (Rows (Passes now)) else Acts (Rows still)) ≡ noted_led r l (step l.hosted.world (if b then Passes now else still))
    at true h = bare-act kinds r l (Rows (Passes now)) h ∙ went r l (Rows (Passes now)) (step l.hosted.world (Passes now)) refl
    at false h = still-turn kinds r l
turn-is kinds l (steps.Starts m) g q = refl
turn-is kinds l (steps.Stops m) g q = refl
turn-is kinds l (steps.Duty m alive since cut) g q =
    let r = rules_of kinds in
    let s : Step = Duty m (due_there kinds l m alive since) (cut_of cut) in
    went r l (Rows s) (step l.hosted.world s) (free-row r l.hosted s refl (lets l m q))
    ∙ ap (λ (es : List Event). noted_led r l (step l.hosted.world (Duty m es (cut_of cut)))) (due-same kinds l m alive since q)
turn-is kinds l (steps.Delivers which cut) g q =
    let r = rules_of kinds in
    let s : Step = Delivers which (cut_of cut) in
    went r l (Rows s) (step l.hosted.world s) (free-row r l.hosted s refl (lets-sent l (slice_get l.hosted.world.sent which) q))
turn-is kinds l (steps.Client m e cut) g q = at (is_asked (seen_of kinds l) m e) refl
  where
    r : Rules
    r = rules_of kinds

    s : Step
    s = Client m e (cut_of cut)

    at : (b : Bool) → is_asked (seen_of kinds l) m e ≡ b → turn kinds r l (if b then Asks m e g (cut_of cut) else Acts (Rows still)) ≡ noted_led r l (step l.hosted.world (if b then s else still))
    at true h =
        ap (λ (b : Bool). if b then goes_on r l (Rows s) else l) (asked-same kinds l m e q ∙ h)
        ∙ went r l (Rows s) (step l.hosted.world s) (free-row r l.hosted s refl (lets l m q))
    at false h = still-turn kinds r l
