-- A gate and a type that are there are seen.
use Rattle.std.proofs.Common.{◌≡◌, ◌+◌, get_or, ◌∙◌, ap, arith}
use Rattle.wire_prims.specs.Fields.{u16_at}
use Rattle.log_segment.proofs.PadLemmas.{pad_gate}
use Rattle.log_segment.proofs.HeadLemmas.{header_gate, header_type, pad_type}
use Rattle.log_segment.proofs.scan.judge.Goals as goal

pub returns-then-header-ne-OPEN_GATE-clause-is_pad : goal.returns-then-header-ne-OPEN_GATE-clause-is_pad
returns-then-header-ne-OPEN_GATE-clause-is_pad c long is = absurd (c.if-header-ne-OPEN_GATE.true (ap (λ l. get_or l 31 0) is ∙ pad_gate c.args.position))

pub returns-then-header-ne-OPEN_GATE-clause-is_data : goal.returns-then-header-ne-OPEN_GATE-clause-is_data
returns-then-header-ne-OPEN_GATE-clause-is_data c long flags carried may is = absurd (c.if-header-ne-OPEN_GATE.true (ap (λ l. get_or l 31 0) is ∙ header_gate (32 + carried) flags c.args.position))

pub returns-then-get_u16-eq0-clause-is_data : goal.returns-then-get_u16-eq0-clause-is_data
returns-then-get_u16-eq0-clause-is_data c long flags carried may is =
    let one : c.get_u16.result ≡ 1 = c.get_u16.ensures ∙ ap (u16_at 6) is ∙ header_type (32 + carried) flags c.args.position in
    absurd (omega (arith, one, c.if-get_u16-eq0.true))

pub returns-else-get_u16-eq0-clause-is_pad : goal.returns-else-get_u16-eq0-clause-is_pad
returns-else-get_u16-eq0-clause-is_pad c long is = absurd (c.if-get_u16-eq0.false (c.get_u16.ensures ∙ ap (u16_at 6) is ∙ pad_type c.args.position))
