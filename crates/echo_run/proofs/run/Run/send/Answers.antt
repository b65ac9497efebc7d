use Rattle.std.proofs.Common.{rules, ◌≡◌, ◌≤◌, ℤ, pos, ap, sym, ◌∙◌, arith, to_z, of_z, List, ℕ}
use Rattle.std.specs.Prelude.{FitsSigned}
use Rattle.std.specs.Int.{w64}
use Rattle.std.proofs.lemmas.Int.{to_z-of_z, to_z_pos}
use Rattle.std.proofs.lemmas.Result.{on_ok_weaker}
use Rattle.echo_run.specs.Driver.{world_of}
use Rattle.echo_run.specs.World.{known_by}
use Rattle.echo_run.specs.declared.clients.Known.{Known}
use Rattle.echo_run.specs.declared.run.Run.{Run}
use Rattle.sbe_events.specs.declared.event.Event.TheVariants as event
use Rattle.echo_run.proofs.OrdersWorlds.{sent_on, message_of}
use Rattle.echo_run.proofs.run.Run.send.Goals as goal

-- the message as its numbers are computed
computed_message : (r : Run) (known k : Known) (payload text : List ℕ) → k ≡ known → payload ≡ text → r.clock ≤ 281474976710656 → FitsSigned w64 r.election.term → FitsSigned w64 known.session → event.Message (to_z w64 (of_z w64 r.election.term)) (to_z w64 (of_z w64 known.session)) (to_z w64 r.clock) payload ≡ message_of text k (world_of r)
computed_message r known k payload text same copied moment term_fits session_fits =
    let term : to_z w64 (of_z w64 r.election.term) ≡ r.election.term = to_z-of_z w64 r.election.term term_fits in
    let session : to_z w64 (of_z w64 known.session) ≡ k.session = to_z-of_z w64 known.session session_fits ∙ ap (λ (x : Known). x.session) (sym same) in
    let stamp : to_z w64 r.clock ≡ pos r.clock = to_z_pos w64 r.clock (omega (arith, moment)) in
    cc

-- what a client knows, as it is passed on
passed_on : (k : Known) → FitsSigned w64 k.term → FitsSigned w64 k.session → record { term = to_z w64 (of_z w64 k.term); session = to_z w64 (of_z w64 k.session) } ≡ k
passed_on k term_fits session_fits =
    ap (λ (t : ℤ). record { term = t; session = to_z w64 (of_z w64 k.session) }) (to_z-of_z w64 k.term term_fits)
    ∙ ap (λ (s : ℤ). record { term = k.term; session = s }) (to_z-of_z w64 k.session session_fits)

pub returns-clause-world : goal.returns-clause-world
returns-clause-world c =
    let term : FitsSigned w64 c.args.self.now.election.term = search rules in
    let known_term : FitsSigned w64 c.known_by-known.result.term = search rules in
    let known_session : FitsSigned w64 c.known_by-known.result.session = search rules in
    let passed = passed_on c.known_by-known.result known_term known_session in
    on_ok_weaker c.push.result (λ told.
    sent_on c.args.line c.args.client c.args.text.now c.args.self.now c.offer_message.new.self c.push.new.self _ _ c.len.result c.in_ok-outcome.outcome
    (passed ∙ c.known_by-known.ensures ∙ ap (known_by c.args.client) c.as_slice.ensures)
    (computed_message c.args.self.now c.known_by-known.result _ c.in_ok-copy.field-0 c.args.text.now passed c.in_ok-copy.ensures c.requires.moment term known_session)
    c.len.ensures c.in_ok-outcome.ensures.outcome c.in_ok-outcome.ensures.world
    told) c.push.ensures.ok
