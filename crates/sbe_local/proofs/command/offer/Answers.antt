use Rattle.std.proofs.Common.{rules, ap, ◌∙◌, FitsSigned, w64}
use Rattle.std.proofs.lemmas.Int.{to_z-of_z}
use Rattle.std.proofs.lemmas.List.{take_rest}
use Rattle.wire_prims.specs.Strict.{service_of, number_of}
use Rattle.sbe_local.proofs.CommandLaws.{offer_is}
use Rattle.sbe_local.proofs.command.offer.Goals as goal

pub returns : goal.returns
returns c =
    let session : FitsSigned w64 c.get_i64.result = search rules in
    let number : FitsSigned w64 c.sender_of-service.result.1 = search rules in
    let session_is = to_z-of_z w64 c.get_i64.result session ∙ c.get_i64.ensures in (
      offer_is _ _ _ _ _ _ (c.sender_of-service.ensures.service ∙ ap service_of session_is) (to_z-of_z w64 c.sender_of-service.result.1 number ∙ c.sender_of-service.ensures.number ∙ ap number_of session_is) (c.in_ok-of.ensures ∙ take_rest c.args.bytes.now 32),
      c.in_ok-strict.ensures.none,
    )
