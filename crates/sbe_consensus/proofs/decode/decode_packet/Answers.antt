use Rattle.std.proofs.Common.{Result, Ok, Err, ◌≡◌, None, Some, inl, sym, subst, ap, ◌∙◌, arith}
use Rattle.std.specs.Prelude.{IsErrAnd}
use Rattle.wire_prims.specs.declared.fault.Bad.{Bad}
use Rattle.wire_prims.specs.declared.fault.DecodeFault.{DecodeFault}
use Rattle.wire_prims.specs.declared.fault.DecodeFault.TheVariants as faults
use Rattle.sbe_consensus.specs.declared.packet.Packet.{Packet}
use Rattle.wire_prims.specs.Fields.{IsBytes}
use Rattle.sbe_consensus.specs.Spelling.{HasSpelling, spelling_of, first_fault, packet_of}
use Rattle.sbe_consensus.specs.Laws.{no_fault, packet_there, value_spells, encoded, spelling_fault}
use Rattle.sbe_consensus.proofs.decode.decode_packet.Goals as goal

pub returns-in_err-template-clause-only : goal.returns-in_err-template-clause-only
returns-in_err-template-clause-only c = λ e h is.
    let free : first_fault c.args.bytes.now ≡ None = sym (ap first_fault is) ∙ spelling_fault e h in
    let fault = c.in_err-template.ensures.fault in
    absurd (cc (free, fault))

no_other_error : (r : Result Packet DecodeFault) (b : Bad) → IsErrAnd r (λ e. e ≡ faults.NoMemory) → r ≡ Err (faults.Bad b) → ⊥
no_other_error (Ok v) b h is = cc
no_other_error (Err e) b h is = cc

pub returns-in_err-value_at-clause-bad : goal.returns-in_err-value_at-clause-bad
returns-in_err-value_at-clause-bad c = λ b. (λ is. absurd (no_other_error _ b c.from_residual-in_err-value_at.ensures.1 is), λ is. absurd (cc (is, no_fault c.in_ok-template.template c.args.bytes.now c.in_ok-template.ensures.sound)))

pub returns-clause-spelled : goal.returns-clause-spelled
returns-clause-spelled c =
    let fits : IsBytes c.args.bytes.now = λ i. omega (arith, c.type_inv.bytes i) in
    subst (λ v. HasSpelling v × (spelling_of v ≡ c.args.bytes.now)) (sym c.in_ok-value_at.ensures) (value_spells c.args.bytes.now fits c.in_ok-template.template c.in_ok-template.ensures.sound)

pub returns-clause-found : goal.returns-clause-found
returns-clause-found c = packet_there c.in_ok-template.template c.args.bytes.now c.in_ok-template.ensures.sound ∙ ap (λ v. Some v) (sym c.in_ok-value_at.ensures)

pub returns-clause-only : goal.returns-clause-only
returns-clause-only c = λ e h is.
    let here = packet_there c.in_ok-template.template c.args.bytes.now c.in_ok-template.ensures.sound in
    let there : packet_of c.args.bytes.now ≡ Some e = sym (ap packet_of is) ∙ encoded e h in
    inl (cc (here, there, c.in_ok-value_at.ensures))

pub returns-clause-bad : goal.returns-clause-bad
returns-clause-bad c = λ b. (λ is. absurd (cc is), λ is. absurd (cc (is, no_fault c.in_ok-template.template c.args.bytes.now c.in_ok-template.ensures.sound)))
