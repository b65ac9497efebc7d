-- Bytes that are read have no fault, and what they lead to can be written.
use Rattle.std.proofs.Common.{ℕ, List, FitsSigned, w64, w32, subst, sym, arith}
use Rattle.wire_prims.specs.Fields.{IsBytes, i32_at-fits, i64_at-fits}
use Rattle.sbe_client.specs.Reading.{ReadsIngress}
use Rattle.sbe_client.specs.Spelling.{IngressFits}
use Rattle.sbe_client.specs.declared.ingress.Ingress.{Ingress}
use Rattle.sbe_client.specs.declared.ingress.Ingress.TheVariants as ingress
use Rattle.ingress.proofs.Spelled.{spelled}
use Rattle.ingress.proofs.Admitted.{admits}
use Rattle.ingress.proofs.decision.decide.Goals as goal

read_fits : (bytes : List ℕ) (m : Ingress) → IsBytes bytes → ReadsIngress bytes m → IngressFits m
read_fits bytes (ingress.Connect corr stream channel) b r = (subst (λ z. FitsSigned w64 z) (sym r.1) (i64_at-fits 8 bytes b), subst (λ z. FitsSigned w32 z) (sym r.2) (i32_at-fits 16 bytes b))
read_fits bytes (ingress.Message term session payload) b r = (subst (λ z. FitsSigned w64 z) (sym r.1) (i64_at-fits 8 bytes b), subst (λ z. FitsSigned w64 z) (sym r.2) (i64_at-fits 16 bytes b))
read_fits bytes (ingress.Close term session) b r = (subst (λ z. FitsSigned w64 z) (sym r.1) (i64_at-fits 8 bytes b), subst (λ z. FitsSigned w64 z) (sym r.2) (i64_at-fits 16 bytes b))
read_fits bytes (ingress.KeepAlive term session) b r = (subst (λ z. FitsSigned w64 z) (sym r.1) (i64_at-fits 8 bytes b), subst (λ z. FitsSigned w64 z) (sym r.2) (i64_at-fits 16 bytes b))

pub returns-in-Ok-clause-bad : goal.returns-in-Ok-clause-bad
returns-in-Ok-clause-bad c = λ bad e. let f = (c.decode_ingress.ensures.bad bad).1 e in absurd cc

pub returns-in-Ok-clause-spelled : goal.returns-in-Ok-clause-spelled
returns-in-Ok-clause-spelled c = λ ids.
    let bytes : IsBytes c.args.bytes.now = λ i. omega (arith, c.type_inv.bytes i) in
    rw c.decide_message.ensures (spelled c.args.view.now c.args.now c.in-Ok.sent c.requires.view c.requires.now (read_fits c.args.bytes.now c.in-Ok.sent bytes c.in-Ok.ensures.read) ids)

pub returns-in-Err-Bad-clause-bad : goal.returns-in-Err-Bad-clause-bad
returns-in-Err-Bad-clause-bad c = λ bad e. let f = (c.decode_ingress.ensures.bad bad).1 e in cc

pub returns-in-Ok-clause-admits : goal.returns-in-Ok-clause-admits
returns-in-Ok-clause-admits c = λ actions. rw c.decide_message.ensures (admits c.args.view.now actions c.args.now c.in-Ok.sent)
