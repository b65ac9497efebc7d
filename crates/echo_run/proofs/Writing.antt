-- Each record that is sent can be written.
use Rattle.std.proofs.Common.{ℕ, suc, ◌+◌, ℤ, nat_le, List, [], ◌∷◌, length, Option, Some, None, arith}
use Rattle.std.specs.Prelude.{All}
use Rattle.std.proofs.lemmas.List.Elements.{All-nil, All-append, All-cons}
use Rattle.entry_log.specs.TermLaws.{choice}
use Rattle.election.specs.declared.member.Election.{Election}
use Rattle.sbe_events.specs.declared.event.Event.{Event}
use Rattle.sbe_events.specs.declared.event.Event.TheVariants as event
use Rattle.service_api.specs.declared.output.Output.{Output}
use Rattle.service_api.specs.declared.output.Output.TheVariants as output
use Rattle.service_api.specs.Echo.{echoed}
use Rattle.echo_run.specs.Driver.{IsWritable}
use Rattle.sbe_events.specs.Spelling.{term_of, stamp_of}
use Rattle.echo_run.specs.Module.{module_after, session_of}
use Rattle.echo_run.specs.Owed.{new_leader_to, closed_to, owed_by_module, given_to, owed_outputs, owed_by_echo, owed}
use Rattle.echo_run.specs.World.{sent_at, sent_from, leads_in, answers}
use Rattle.echo_run.specs.declared.module.Module.{Module}
use Rattle.echo_run.specs.declared.module.Session.{Session}
use Rattle.echo_run.specs.declared.sent.Origin.{Origin}
use Rattle.echo_run.specs.declared.sent.Origin.TheVariants as origin
use Rattle.echo_run.specs.declared.sent.Outcome.{Outcome}
use Rattle.echo_run.specs.declared.sent.Outcome.TheVariants as outcome
use Rattle.echo_run.specs.declared.sent.Sent.{Sent}

abbrev AllWritable : List Sent → Type 0
AllWritable sent = All IsWritable sent

one : (s : Sent) → IsWritable s → AllWritable (s ∷ [])
one s w = All-cons IsWritable s [] w (All-nil IsWritable)

news : (i j : ℕ) (term leader : ℤ) (sessions : List Session) → AllWritable (new_leader_to i j term leader sessions)
news i j term leader [] = All-nil IsWritable
news i j term leader (s ∷ sessions) = All-cons IsWritable _ (new_leader_to i (suc j) term leader sessions) tt (news i (suc j) term leader sessions)

closing : (i : ℕ) (term leader : ℤ) (found : Option Session) → AllWritable (closed_to i term leader found)
closing i term leader None = All-nil IsWritable
closing i term leader (Some s) = one _ (omega arith)

by_module : (m : Module) (i : ℕ) (e : Event) → AllWritable (owed_by_module m i e)
by_module m i (event.Term term position stamp base leader) = news i 0 term leader m.sessions
by_module m i (event.Opened term corr session stamp stream channel) = one _ (omega arith)
by_module m i (event.Closed term session stamp reason) = closing i term m.leader (session_of m session)
by_module m i (event.Message term session stamp payload) = All-nil IsWritable
by_module m i (event.ServiceMessage term service number stamp payload) = All-nil IsWritable
by_module m i (event.Timer term corr stamp) = All-nil IsWritable
by_module m i (event.Snapshot term position stamp) = All-nil IsWritable

given : (o : Origin) (term stamp session : ℤ) (payload : List ℕ) (found : Option Session) → AllWritable (given_to o term stamp session payload found)
given o term stamp session payload None = All-nil IsWritable
given o term stamp session payload (Some s) = choice AllWritable (nat_le (length payload) 16384) _ [] (λ short. one _ tt) (λ long. All-nil IsWritable)

by_outputs : (m : Module) (i v : ℕ) (term stamp : ℤ) (j : ℕ) (outputs : List Output) → AllWritable (owed_outputs m i v term stamp j outputs)
by_outputs m i v term stamp j [] = All-nil IsWritable
by_outputs m i v term stamp j (output.Egress session payload ∷ rest) =
    let here = given_to (origin.Service i v j) term stamp session payload (session_of m session) in
    All-append IsWritable here (owed_outputs m i v term stamp (j + length here) rest) (given (origin.Service i v j) term stamp session payload (session_of m session)) (by_outputs m i v term stamp (j + length here) rest)
by_outputs m i v term stamp j (output.Command command ∷ rest) = by_outputs m i v term stamp j rest

by_entry : (m : Module) (i : ℕ) (e : Event) → AllWritable (owed m i e)
by_entry m i e = All-append IsWritable (owed_by_module m i e) (owed_by_echo (module_after m e) i e) (by_module m i e) (by_outputs (module_after m e) i 0 (term_of e) (stamp_of e) 0 (echoed e))

pub entries_writable : (election : Election) (m : Module) (i : ℕ) (es : List Event) → AllWritable (sent_from election m i es)
entries_writable election m i [] = All-nil IsWritable
entries_writable election m i (e ∷ es) =
    All-append IsWritable (sent_at election m i e) (sent_from election (module_after m e) (suc i) es)
    (choice AllWritable (leads_in election (term_of e)) (owed m i e) [] (λ leads. by_entry m i e) (λ other. All-nil IsWritable))
    (entries_writable election (module_after m e) (suc i) es)

pub answers_writable : (client : ℕ) (corr : ℤ) (election : Election) (o : Outcome) → AllWritable (answers client corr election o)
answers_writable client corr election (outcome.Accepted i) = All-nil IsWritable
answers_writable client corr election (outcome.NotLeader leader) = one _ (omega arith)
answers_writable client corr election (outcome.WrongTerm term) = one _ (omega arith)
answers_writable client corr election (outcome.NoSession session) = one _ (omega arith)
answers_writable client corr election (outcome.TooLarge bytes) = one _ (omega arith)
answers_writable client corr election outcome.SessionLimit = one _ (omega arith)
answers_writable client corr election (outcome.BackPressure bytes) = one _ (omega arith)
answers_writable client corr election (outcome.LogFull place) = one _ (omega arith)
