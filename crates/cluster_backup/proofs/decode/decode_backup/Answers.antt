use Rattle.std.proofs.Common.{Result, Ok, Err, ◌≡◌, None, Some, inl, inr, sym, subst, ap, ◌∙◌, arith}
use Rattle.wire_prims.specs.declared.fault.Bad.{Bad}
use Rattle.wire_prims.specs.declared.fault.DecodeFault.{DecodeFault}
use Rattle.wire_prims.specs.declared.fault.DecodeFault.TheVariants as faults
use Rattle.cluster_backup.specs.declared.packet.BackupPacket.{BackupPacket}
use Rattle.wire_prims.specs.Fields.{IsBytes}
use Rattle.cluster_backup.specs.Spelling.{HasSpelling, spelling_of, first_fault, packet_of}
use Rattle.std.specs.Prelude.{IsErr, IsErrAnd}
use Rattle.cluster_backup.proofs.PartLists.{other_fault}
use Rattle.cluster_backup.specs.Laws.{no_fault, packet_there, value_spells, encoded, spelling_fault}
use Rattle.cluster_backup.proofs.decode.decode_backup.Goals as goal

pub returns-clause-spelled : goal.returns-clause-spelled
returns-clause-spelled c =
    let fits : IsBytes c.args.bytes.now = λ i. omega (arith, c.type_inv.bytes i) in
    subst (λ v. HasSpelling v × (spelling_of v ≡ c.args.bytes.now)) (sym c.in_ok-value_at.ensures) (value_spells c.args.bytes.now fits c.in_ok-template.template c.in_ok-template.ensures.sound)

pub returns-clause-found : goal.returns-clause-found
returns-clause-found c = packet_there c.in_ok-template.template c.args.bytes.now c.in_ok-template.ensures.sound ∙ ap (λ v. Some v) (sym c.in_ok-value_at.ensures)

pub returns-clause-only : goal.returns-clause-only
returns-clause-only c = λ e h is.
    let here = packet_there c.in_ok-template.template c.args.bytes.now c.in_ok-template.ensures.sound in
    let there : packet_of c.args.bytes.now ≡ Some e = sym (ap packet_of is) ∙ encoded e h in
    inl (cc (here, there, c.in_ok-value_at.ensures))

pub returns-clause-only_bad : goal.returns-clause-only_bad
returns-clause-only_bad c = λ b is. absurd (cc (is, no_fault c.in_ok-template.template c.args.bytes.now c.in_ok-template.ensures.sound))

pub returns-in_err-template-clause-only : goal.returns-in_err-template-clause-only
returns-in_err-template-clause-only c = λ p h is.
    let none : first_fault c.args.bytes.now ≡ None = sym (ap first_fault is) ∙ spelling_fault p h in
    inr (only_none c.from_residual.result c.in_err-template.field-0.0 (c.from_residual.ensures) (other_fault c.args.bytes.now (first_fault c.args.bytes.now) c.in_err-template.field-0.0 none c.in_err-template.ensures.fault))
  where
    only_none : (r : Result BackupPacket DecodeFault) (e : DecodeFault) → IsErr r × IsErrAnd r (λ x. x ≡ e) → e ≡ faults.NoMemory → r ≡ Err faults.NoMemory
    only_none (Ok v) e k is = absurd k.1
    only_none (Err x) e k is = ap (λ y. Err y) (k.1 ∙ is)
