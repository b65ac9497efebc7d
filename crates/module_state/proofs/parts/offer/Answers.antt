use Rattle.std.proofs.Common.{◌≡◌, ◌^◌, false, length, sym, ◌∙◌, arith}
use Rattle.std.specs.Prelude.{nat_le, nat_lt}
use Rattle.std.proofs.lemmas.Bool.Decides.{nat_tests}
use Rattle.pending_messages.specs.Pending.{offered_of, offers_at}
use Rattle.pending_messages.proofs.ServiceLaws.{too_long, too_many}
use Rattle.module_state.proofs.parts.offer.Goals as goal

pub returns-then-len-gt-PAYLOAD_LIMIT-clause-ok : goal.returns-then-len-gt-PAYLOAD_LIMIT-clause-ok
returns-then-len-gt-PAYLOAD_LIMIT-clause-ok c =
    let len = c.len.ensures in
    let long = c.if-len-gt-PAYLOAD_LIMIT.true in
    let no : nat_le (length c.args.payload.now) 16384 ≡ false = grind (arith, nat_tests) in
    too_long c.args.service c.args.payload.now c.args.pending.now no

pub returns-then-not-has_room-clause-ok : goal.returns-then-not-has_room-clause-ok
returns-then-not-has_room-clause-ok c =
    let no : nat_lt (offered_of (offers_at c.args.service c.args.pending.now)) (2 ^ 47) ≡ false = sym c.has_room.ensures ∙ c.if-not-has_room.true in
    too_many c.args.service c.args.payload.now c.args.pending.now no
