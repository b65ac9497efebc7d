use Rattle.std.proofs.Common.{rules, arith, ap, ◌∙◌, FitsSigned, w64, pos, ◌≤ℤ◌}
use Rattle.std.proofs.lemmas.Int.{ints, to_z-of_z}
use Rattle.std.proofs.lemmas.List.{take_rest}
use Rattle.wire_prims.specs.Strict.{service_of, number_of}
use Rattle.wire_prims.specs.Fields.{i64_at}
use Rattle.sbe_events.specs.Laws.{is_message, is_service_message}
use Rattle.sbe_events.proofs.decode.message_at.Goals as goal

pub returns-then-session-ge1 : goal.returns-then-session-ge1
returns-then-session-ge1 c =
    let term : FitsSigned w64 c.get_i64-term.result = search rules in
    let session : FitsSigned w64 c.get_i64-session.result = search rules in
    let stamp : FitsSigned w64 c.get_i64-stamp.result = search rules in
    let client : pos 1 ≤ℤ i64_at 16 c.args.bytes.now = omega (arith, ints, c.get_i64-session.ensures, c.if-session-ge1.true) in
    is_message c.args.bytes.now _ _ _ _ (to_z-of_z w64 c.get_i64-term.result term ∙ c.get_i64-term.ensures) (to_z-of_z w64 c.get_i64-session.result session ∙ c.get_i64-session.ensures)
    (to_z-of_z w64 c.get_i64-stamp.result stamp ∙ c.get_i64-stamp.ensures) (c.in_ok-payload.ensures ∙ take_rest c.args.bytes.now 32) client

pub returns : goal.returns
returns c =
    let term : FitsSigned w64 c.get_i64-term.result = search rules in
    let session : FitsSigned w64 c.get_i64-session.result = search rules in
    let stamp : FitsSigned w64 c.get_i64-stamp.result = search rules in
    let number : FitsSigned w64 c.sender_of-service.result.1 = search rules in
    let session_is = to_z-of_z w64 c.get_i64-session.result session ∙ c.get_i64-session.ensures in
    let low : i64_at 16 c.args.bytes.now ≤ℤ pos 0 = omega (arith, ints, c.get_i64-session.ensures, c.if-session-ge1.false) in
    is_service_message c.args.bytes.now _ _ _ _ _ (to_z-of_z w64 c.get_i64-term.result term ∙ c.get_i64-term.ensures) (c.sender_of-service.ensures.service ∙ ap service_of session_is)
    (to_z-of_z w64 c.sender_of-service.result.1 number ∙ c.sender_of-service.ensures.number ∙ ap number_of session_is)
    (to_z-of_z w64 c.get_i64-stamp.result stamp ∙ c.get_i64-stamp.ensures) (c.in_ok-payload.ensures ∙ take_rest c.args.bytes.now 32) low
