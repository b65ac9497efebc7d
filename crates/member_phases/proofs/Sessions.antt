-- What the services ask at an entry changes no session's stream, so nothing of what they owe there.
use Rattle.std.proofs.Common.{◌≡◌, ℕ, ℤ, Bool, true, false, List, [], ◌∷◌, ◌++◌, map, Option, Some, None, refl, ap, ◌∙◌, if◌then◌else◌}
use Rattle.std.specs.Prelude.{find}
use Rattle.sbe_events.specs.declared.event.Event.{Event}
use Rattle.sbe_events.specs.Spelling.{term_of}
use Rattle.sbe_local.specs.declared.command.Command.{Command}
use Rattle.sbe_local.specs.declared.command.Command.TheVariants as commands
use Rattle.service_api.specs.declared.output.Output.{Output}
use Rattle.service_api.specs.declared.output.Output.TheVariants as outputs
use Rattle.session_manager.specs.declared.session.Session.{Session}
use Rattle.session_manager.specs.Sessions.{SessionTable, at_id, is_of, marked, session_of}
use Rattle.module_state.specs.Dispatch.{sessions_asked}
use Rattle.module_state.specs.Module.{Module, module_part}
use Rattle.module_state.specs.Owed.{message_to, owed_by_outputs}
use Rattle.module_state.specs.Part.{Asked, after_asks}
use Rattle.module_state.specs.Places.{stamp_of}
use Rattle.module_state.proofs.Runs.{asks_keep}

abbrev stream_of : Option Session → Option ℤ
stream_of None = None
stream_of (Some s) = Some s.stream

-- the same streams
abbrev Alike : SessionTable → SessionTable → Type 0
Alike a b = (id : ℤ) → stream_of (session_of b id) ≡ stream_of (session_of a id)

same-id : (id : ℤ) (s : Session) → (at_id id marked s).id ≡ s.id
same-id id s = by (is_of id s)
  where
    by : (b : Bool) → (if b then marked s else s).id ≡ s.id
    by true = refl
    by false = refl

same-stream : (id : ℤ) (s : Session) → (at_id id marked s).stream ≡ s.stream
same-stream id s = by (is_of id s)
  where
    by : (b : Bool) → (if b then marked s else s).stream ≡ s.stream
    by true = refl
    by false = refl

abbrev or_else : Bool → Session → Option Session → Option Session
or_else b s o = if b then Some s else o

found : (q id : ℤ) (ss : List Session) → stream_of (find (is_of q) (map (at_id id marked) ss)) ≡ stream_of (find (is_of q) ss)
found q id [] = refl
found q id (s ∷ ss) = by (is_of q (at_id id marked s)) (is_of q s) (ap (λ (i : ℤ). is_of q (record s { id = i })) (same-id id s)) (found q id ss)
  where
    by : (a b : Bool) → a ≡ b → stream_of (find (is_of q) (map (at_id id marked) ss)) ≡ stream_of (find (is_of q) ss) → stream_of (or_else a (at_id id marked s) (find (is_of q) (map (at_id id marked) ss))) ≡ stream_of (or_else b s (find (is_of q) ss))
    by true true e rest = ap (λ (z : ℤ). Some z) (same-stream id s)
    by false false e rest = rest
    by true false e rest = absurd (cc)
    by false true e rest = absurd (cc)

asked-alike : (a b : SessionTable) (v : ℕ) (c : Command) → Alike a b → Alike a (sessions_asked b v c)
asked-alike a b v (commands.CloseSession session) same = λ id. found id session b.listed ∙ same id
asked-alike a b v (commands.Schedule corr deadline) same = same
asked-alike a b v (commands.Cancel corr) same = same
asked-alike a b v (commands.Offer service n payload) same = same
asked-alike a b v (commands.Ack _ _) same = same

pub asks-alike : (m : Module) (asks : List Asked) → Alike m.sessions (after_asks module_part m asks).sessions
asks-alike m asks = asks_keep module_part (λ (t : Module). Alike m.sessions t.sessions) (λ t v c same. asked-alike m.sessions t.sessions v c same) m asks (λ id. refl)

same-message : (term stamp session : ℤ) (payload : List ℕ) (a b : Option Session) → stream_of b ≡ stream_of a → message_to term stamp session payload b ≡ message_to term stamp session payload a
same-message term stamp session payload None None e = refl
same-message term stamp session payload None (Some s) e = absurd (cc)
same-message term stamp session payload (Some s) None e = absurd (cc)
same-message term stamp session payload (Some s) (Some t) e = ap (λ (z : ℤ). message_to term stamp session payload (Some (record s { stream = z }))) (some-is t.stream s.stream e)
  where
    some-is : (x y : ℤ) → stream_of (Some (record s { stream = x })) ≡ stream_of (Some (record s { stream = y })) → x ≡ y
    some-is x y e = cc

pub owed-alike : (a b : Module) (e : Event) (os : List Output) → Alike a.sessions b.sessions → owed_by_outputs b e os ≡ owed_by_outputs a e os
owed-alike a b e [] same = refl
owed-alike a b e (outputs.Egress session payload ∷ os) same =
    (λ i. same-message (term_of e) (stamp_of e) session payload (session_of a.sessions session) (session_of b.sessions session) (same session) i ++ owed-alike a b e os same i)
owed-alike a b e (outputs.Command c ∷ os) same = owed-alike a b e os same
