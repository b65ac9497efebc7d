-- What is due is of the term that was asked for.
use Rattle.std.proofs.Common.{◌≡◌, inl, ℕ, suc, ◌+◌, ℤ, true, List, [], ◌∷◌, refl, ap, ◌∙◌}
use Rattle.std.specs.Prelude.{All}
use Rattle.std.proofs.lemmas.List.Elements.{All-nil, All-cons, All-append}
use Rattle.sbe_events.specs.Spelling.{term_of}
use Rattle.sbe_events.specs.declared.event.Event.{Event}
use Rattle.session_manager.specs.declared.session.Session.{Session}
use Rattle.session_manager.specs.Sessions.{SessionTable, session_of}
use Rattle.timer_service.specs.Timers.{TimerTable}
use Rattle.pending_messages.specs.Pending.{PendingTable}
use Rattle.module_state.specs.Module.{Module}
use Rattle.module_state.specs.Due.{is_silent, is_marked, close_of, close_due, closes_due, over, rings_of, messages_of, messages_due, due}
use Rattle.entry_log.specs.Shape.{Shape, shape_of}
use Rattle.member_disk.specs.Kept.{Kept}
use Rattle.consensus_core.specs.declared.change.Change.{Change}
use Rattle.election.specs.declared.member.State.{State}
use Rattle.election.specs.declared.member.State.TheVariants.{LeaderReady}
use Rattle.consensus_core.specs.declared.values.Values.{Values}
use Rattle.consensus_core.specs.Member.{is_ready}
use Rattle.consensus_core.specs.Reign.{duty_at, does_duty}
use Rattle.consensus_core.proofs.Fitting.{choice}
use Rattle.consensus_agent.specs.Rows.{CutRow}

abbrev pub OfTerm : ℤ → List Event → Type 0
OfTerm term es = All (λ e. term_of e ≡ term) es

abbrev Is : ℤ → Event → Type 0
Is term e = term_of e ≡ term

close_is : (term : ℤ) (now : ℕ) (id : ℤ) (reason : ℕ) → OfTerm term (close_of term now id reason)
close_is term now id reason = All-cons (Is term) _ [] refl (All-nil (Is term))

close_due_is : (c : SessionTable) (alive : List (ℤ × ℕ)) (term : ℤ) (now since : ℕ) (s : Session) → OfTerm term (close_due c alive term now since s)
close_due_is c alive term now since s =
    choice (OfTerm term) (is_marked (session_of c s.id)) _ _ (λ h. close_is term now s.id 1)
    (λ h. choice (OfTerm term) (is_silent alive since now s) _ _ (λ g. close_is term now s.id 2) (λ g. All-nil (Is term)))

closes_are : (c : SessionTable) (alive : List (ℤ × ℕ)) (term : ℤ) (now since : ℕ) (ss : List Session) → OfTerm term (closes_due c alive term now since ss)
closes_are c alive term now since [] = All-nil (Is term)
closes_are c alive term now since (s ∷ ss) = All-append (Is term) _ _ (close_due_is c alive term now since s) (closes_are c alive term now since ss)

rings_are : (term : ℤ) (now : ℕ) (ts : TimerTable) → OfTerm term (rings_of term now ts)
rings_are term now [] = All-nil (Is term)
rings_are term now (t ∷ ts) = All-cons (Is term) _ _ refl (rings_are term now ts)

messages_are : (term : ℤ) (now v n : ℕ) (ps : List (List ℕ)) → OfTerm term (messages_of term now v n ps)
messages_are term now v n [] = All-nil (Is term)
messages_are term now v n (p ∷ ps) = All-cons (Is term) _ _ refl (messages_are term now v (n + 1) ps)

all_messages_are : (term : ℤ) (now v : ℕ) (os : PendingTable) → OfTerm term (messages_due term now v os)
all_messages_are term now v [] = All-nil (Is term)
all_messages_are term now v (o ∷ os) = All-append (Is term) _ _ (messages_are term now v o.appended o.waiting) (all_messages_are term now (suc v) os)

pub due_of_term : (es : List Event) (consumed tentative : Module) (ahead : List Event) (alive : List (ℤ × ℕ)) (term : ℤ) (now since : ℕ) → es ≡ due consumed tentative ahead alive term now since → OfTerm term es
due_of_term es consumed tentative ahead alive term now since is =
    rw is (All-append (Is term) _ _ (closes_are consumed.sessions alive term now since tentative.sessions.listed)
    (All-append (Is term) _ _ (rings_are term now (over ahead now consumed.timers)) (all_messages_are term now 0 tentative.pending)))

-- what is due is asked only of who is ready to lead
pub same_duty : (s : State) (v : Values) (xs : Shape) (es fs : List Event) (now : ℕ) → (is_ready s ≡ true → es ≡ fs) → duty_at s v xs es now ≡ duty_at s v xs fs now
same_duty LeaderReady v xs es fs now same = ap (λ due. duty_at LeaderReady v xs due now) (same refl)
same_duty _ v xs es fs now same = refl

-- the row of a duty, by what was due
pub duty_row : (v u : Values) (a k : Kept) (slice es fs : List Event) (now : ℕ) → u ≡ v → k ≡ a → slice ≡ es → (is_ready v.election.state ≡ true → es ≡ fs) → does_duty u (shape_of k.log) slice now ≡ does_duty v (shape_of a.log) fs now
duty_row v u a k slice es fs now values kept is same =
    ap (λ z. does_duty z (shape_of k.log) slice now) values
    ∙ ap (λ (z : Kept). does_duty v (shape_of z.log) slice now) kept
    ∙ ap (λ z. does_duty v (shape_of a.log) z now) is
    ∙ same_duty v.election.state v (shape_of a.log) es fs now same

-- a row that wasn't begun
pub cut_none : (change : Change) (a b : Kept) → b ≡ a → CutRow change a b
cut_none change a b is = inl (record { node = ap (λ (k : Kept). k.node) is; log = ap (λ (k : Kept). k.log) is })
