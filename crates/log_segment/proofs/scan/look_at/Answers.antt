use Rattle.std.proofs.Common.{◌≡◌, inl, inr, ◌+◌, ◌%◌, ◌<◌, IsTrue, length, drop, sym, ◌∙◌, ap, subst, arith, length-drop}
use Rattle.cl_base.specs.Disk.{FileState}
use Rattle.wire_prims.specs.Header.{aligned_to}
use Rattle.log_segment.specs.Segment.{IsAt, later_frames}
use Rattle.log_segment.specs.Looked.{IsOnly}
use Rattle.log_segment.proofs.FoundLemmas.{first_head, same_data, not_short, not_closed, not_pad, event_of}
use Rattle.log_segment.proofs.LookLemmas.{looked_then}
use Rattle.log_segment.proofs.scan.look_at.Goals as goal

pub returns-then-passes_end-clause-looked : goal.returns-then-passes_end-clause-looked
returns-then-passes_end-clause-looked g c = looked_then g.met.D.Disk.honest_tells c.in-Ok-Data.ensures.looked c.ends_early.ensures.looked

pub returns-else-flags-clause-looked : goal.returns-else-flags-clause-looked
returns-else-flags-clause-looked g c = looked_then g.met.D.Disk.honest_tells c.in-Ok-Data.ensures.looked c.look_later.ensures.looked

pub returns-then-passes_end-clause-event : goal.returns-then-passes_end-clause-event
returns-then-passes_end-clause-event g c told event some inside stands =
    let p = c.args.position in
    let file = ((g.D.Disk.state c.args.disk.now).files (2 + c.args.segment)).reads in
    let head = first_head p (p % 65536) event file some stands in
    let same = same_data c.in-Ok-Data.flags c.in-Ok-Data.carried head.flags head.carried (sym c.in-Ok-Data.field-0-is ∙ c.in-Ok-Data.ensures.data told head.flags head.carried head.may head.stands) in
    let beyond = subst (λ x. 65536 < p % 65536 + aligned_to (32 + x)) same.1 (c.passes_end.ensures.beyond c.if-passes_end.true) in
    absurd (omega (arith, beyond, head.frames, inside))

pub returns-then-flags-clause-event : goal.returns-then-flags-clause-event
returns-then-flags-clause-event g c told event some inside stands =
    let p = c.args.position in
    let file = ((g.D.Disk.state c.args.disk.now).files (2 + c.args.segment)).reads in
    let head = first_head p (p % 65536) event file some stands in
    let same = same_data c.in-Ok-Data.flags c.in-Ok-Data.carried head.flags head.carried (sym c.in-Ok-Data.field-0-is ∙ c.in-Ok-Data.ensures.data told head.flags head.carried head.may head.stands) in
    elim head.kind [
      | inl last ↦ ap event_of (same.1 ∙ last.1)
      | inr long ↦ absurd (omega (arith, same.0, long.0, c.if-flags.true))
    ]

pub returns-else-flags-clause-event : goal.returns-else-flags-clause-event
returns-else-flags-clause-event g c told event some inside stands =
    let p = c.args.position in
    let file = ((g.D.Disk.state c.args.disk.now).files (2 + c.args.segment)).reads in
    let head = first_head p (p % 65536) event file some stands in
    let same = same_data c.in-Ok-Data.flags c.in-Ok-Data.carried head.flags head.carried (sym c.in-Ok-Data.field-0-is ∙ c.in-Ok-Data.ensures.data told head.flags head.carried head.may head.stands) in
    elim head.kind [
      | inl last ↦ absurd (c.if-flags.false (same.0 ∙ last.0))
      | inr long ↦
          let left = drop 1376 event in
          let size = length-drop 1376 event in
          let now : ((g.D.Disk.state c.read_head.new.disk).files (2 + c.args.segment)).reads ≡ file = ap (λ (x : FileState). x.reads) ((c.in-Ok-Data.ensures.looked.looks told).files (2 + c.args.segment)) in
          let there = subst (λ l. IsAt (p % 65536 + 1408) (later_frames (length event) (p + 1408) left) l) (sym now) long.4 in
          let count : 1376 + length left ≡ length event = omega (arith, size, long.2) in
          subst (λ n. IsOnly (event_of n) c.look_later.result) count
          (c.look_later.ensures.exact (subst IsTrue (sym c.in-Ok-Data.ensures.looked.tells_same) told) (length event) left (omega (arith, size, long.2)) (omega (arith, size)) (omega (arith, inside, long.3)) there)
    ]

pub returns-in-Ok-Short-clause-event : goal.returns-in-Ok-Short-clause-event
returns-in-Ok-Short-clause-event g c told event some inside stands =
    let p = c.args.position in
    let file = ((g.D.Disk.state c.args.disk.now).files (2 + c.args.segment)).reads in
    let head = first_head p (p % 65536) event file some stands in
    absurd (not_short head.flags head.carried (sym c.in-Ok-Short.field-0-is ∙ c.in-Ok-Short.ensures.data told head.flags head.carried head.may head.stands))

pub returns-in-Ok-Closed-clause-event : goal.returns-in-Ok-Closed-clause-event
returns-in-Ok-Closed-clause-event g c told event some inside stands =
    let p = c.args.position in
    let file = ((g.D.Disk.state c.args.disk.now).files (2 + c.args.segment)).reads in
    let head = first_head p (p % 65536) event file some stands in
    absurd (not_closed head.flags head.carried (sym c.in-Ok-Closed.field-0-is ∙ c.in-Ok-Closed.ensures.data told head.flags head.carried head.may head.stands))

pub returns-in-Ok-Pad-clause-event : goal.returns-in-Ok-Pad-clause-event
returns-in-Ok-Pad-clause-event g c told event some inside stands =
    let p = c.args.position in
    let file = ((g.D.Disk.state c.args.disk.now).files (2 + c.args.segment)).reads in
    let head = first_head p (p % 65536) event file some stands in
    absurd (not_pad head.flags head.carried (sym c.in-Ok-Pad.field-0-is ∙ c.in-Ok-Pad.ensures.data told head.flags head.carried head.may head.stands))

pub returns-in-Err-clause-event : goal.returns-in-Err-clause-event
returns-in-Err-clause-event g c told event some inside stands =
    let p = c.args.position in
    let file = ((g.D.Disk.state c.args.disk.now).files (2 + c.args.segment)).reads in
    let head = first_head p (p % 65536) event file some stands in
    c.in-Err.ensures.data told head.flags head.carried head.may head.stands
