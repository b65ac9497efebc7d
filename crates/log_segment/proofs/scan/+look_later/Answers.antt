-- Frame after frame.
use Rattle.std.proofs.Common.{◌≡◌, inl, inr, ◌+◌, ◌-◌, ◌*◌, ◌%◌, ◌<◌, IsTrue, length, drop, sym, ◌∙◌, ap, subst, arith, length-drop}
use Rattle.cl_base.specs.Disk.{FileState}
use Rattle.wire_prims.specs.Header.{aligned_to}
use Rattle.log_segment.specs.Segment.{IsAt, later_frames}
use Rattle.log_segment.specs.Looked.{IsOnly}
use Rattle.log_segment.specs.Found.{data_header}
use Rattle.log_segment.proofs.FrameLens.{frames_some}
use Rattle.log_segment.proofs.FoundLemmas.{later_head, same_data, not_short, not_closed, not_pad, event_of}
use Rattle.log_segment.proofs.LookLemmas.{looked_then, looked_ok}
use Rattle.log_segment.proofs.scan.+look_later.Goals as goal

pub returns-in-Ok-Short-clause-looked : goal.returns-in-Ok-Short-clause-looked
returns-in-Ok-Short-clause-looked g t c = looked_then g.met.D.Disk.honest_tells c.in-Ok-Short.ensures.looked c.ends_early-in-Ok-Short.ensures.looked

pub returns-then-passes_end-clause-exact : goal.returns-then-passes_end-clause-exact
returns-then-passes_end-clause-exact g t c told more rest some few inside stands =
    let k = c.args.frame in
    let first = c.args.first in
    let p = first + k * 1408 in
    let at = first % 65536 + k * 1408 in
    let file = ((g.D.Disk.state c.args.disk.now).files (2 + c.args.segment)).reads in
    let least = frames_some (length rest) some in
    let off : p % 65536 ≡ at = omega (arith, inside, least.0) in
    let head = later_head more p at rest file some few stands in
    let shown = subst (λ a. IsAt a (data_header (32 + head.carried) head.flags p) file) (sym off) head.stands in
    let same = same_data c.in-Ok-Data.flags c.in-Ok-Data.carried head.flags head.carried (sym c.in-Ok-Data.field-0-is ∙ c.in-Ok-Data.ensures.data told head.flags head.carried head.may shown) in
    let beyond = subst (λ x. 65536 < p % 65536 + aligned_to (32 + x)) same.1 (c.passes_end.ensures.beyond c.if-passes_end.true) in
    absurd (omega (arith, beyond, off, head.frames, inside))

pub returns-then-flags-eq-LAST_FLAGS-clause-exact : goal.returns-then-flags-eq-LAST_FLAGS-clause-exact
returns-then-flags-eq-LAST_FLAGS-clause-exact g t c told more rest some few inside stands =
    let k = c.args.frame in
    let first = c.args.first in
    let p = first + k * 1408 in
    let at = first % 65536 + k * 1408 in
    let file = ((g.D.Disk.state c.args.disk.now).files (2 + c.args.segment)).reads in
    let least = frames_some (length rest) some in
    let off : p % 65536 ≡ at = omega (arith, inside, least.0) in
    let head = later_head more p at rest file some few stands in
    let shown = subst (λ a. IsAt a (data_header (32 + head.carried) head.flags p) file) (sym off) head.stands in
    let same = same_data c.in-Ok-Data.flags c.in-Ok-Data.carried head.flags head.carried (sym c.in-Ok-Data.field-0-is ∙ c.in-Ok-Data.ensures.data told head.flags head.carried head.may shown) in
    elim head.kind [
      | inl last ↦ ap (λ n. event_of (k * 1376 + n)) (same.1 ∙ last.1)
      | inr long ↦ absurd (omega (arith, same.0, long.0, c.if-flags-eq-LAST_FLAGS.true))
    ]

pub returns-else-flags-eq-LAST_FLAGS-clause-exact : goal.returns-else-flags-eq-LAST_FLAGS-clause-exact
returns-else-flags-eq-LAST_FLAGS-clause-exact g t c told more rest some few inside stands =
    let k = c.args.frame in
    let first = c.args.first in
    let p = first + k * 1408 in
    let at = first % 65536 + k * 1408 in
    let file = ((g.D.Disk.state c.args.disk.now).files (2 + c.args.segment)).reads in
    let least = frames_some (length rest) some in
    let off : p % 65536 ≡ at = omega (arith, inside, least.0) in
    let head = later_head more p at rest file some few stands in
    let shown = subst (λ a. IsAt a (data_header (32 + head.carried) head.flags p) file) (sym off) head.stands in
    let same = same_data c.in-Ok-Data.flags c.in-Ok-Data.carried head.flags head.carried (sym c.in-Ok-Data.field-0-is ∙ c.in-Ok-Data.ensures.data told head.flags head.carried head.may shown) in
    elim head.kind [
      | inl last ↦ absurd (c.if-flags-eq-LAST_FLAGS.false (same.0 ∙ last.0))
      | inr long ↦
          let left = drop 1376 rest in
          let size = length-drop 1376 rest in
          let now : ((g.D.Disk.state c.read_head.new.disk).files (2 + c.args.segment)).reads ≡ file = ap (λ (x : FileState). x.reads) ((c.in-Ok-Data.ensures.looked.looks told).files (2 + c.args.segment)) in
          let next_at : at + 1408 ≡ first % 65536 + (k + 1) * 1408 = omega arith in
          let next_p : p + 1408 ≡ first + (k + 1) * 1408 = omega arith in
          let there = subst (λ l. IsAt (first % 65536 + (k + 1) * 1408) (later_frames (more - 1) (first + (k + 1) * 1408) left) l) (sym now) (subst (λ a. IsAt a (later_frames (more - 1) (first + (k + 1) * 1408) left) file) next_at (subst (λ q. IsAt (at + 1408) (later_frames (more - 1) q left) file) next_p long.4)) in
          let count : (k + 1) * 1376 + length left ≡ k * 1376 + length rest = omega (arith, size, long.2) in
          subst (λ n. IsOnly (event_of n) c.look_later.result) count
          (c.look_later.ensures.exact (subst IsTrue (sym c.in-Ok-Data.ensures.looked.tells_same) told) (more - 1) left (omega (arith, size, long.2)) (omega (arith, size, long.2, few)) (omega (arith, inside, long.3)) there)
    ]

pub returns-in-Ok-Short-clause-exact : goal.returns-in-Ok-Short-clause-exact
returns-in-Ok-Short-clause-exact g t c told more rest some few inside stands =
    let k = c.args.frame in
    let first = c.args.first in
    let p = first + k * 1408 in
    let at = first % 65536 + k * 1408 in
    let file = ((g.D.Disk.state c.args.disk.now).files (2 + c.args.segment)).reads in
    let least = frames_some (length rest) some in
    let off : p % 65536 ≡ at = omega (arith, inside, least.0) in
    let head = later_head more p at rest file some few stands in
    let shown = subst (λ a. IsAt a (data_header (32 + head.carried) head.flags p) file) (sym off) head.stands in
    absurd (not_short head.flags head.carried (sym c.in-Ok-Short.field-0-is ∙ c.in-Ok-Short.ensures.data told head.flags head.carried head.may shown))

pub returns-in-Ok-Closed-clause-exact : goal.returns-in-Ok-Closed-clause-exact
returns-in-Ok-Closed-clause-exact g t c told more rest some few inside stands =
    let k = c.args.frame in
    let first = c.args.first in
    let p = first + k * 1408 in
    let at = first % 65536 + k * 1408 in
    let file = ((g.D.Disk.state c.args.disk.now).files (2 + c.args.segment)).reads in
    let least = frames_some (length rest) some in
    let off : p % 65536 ≡ at = omega (arith, inside, least.0) in
    let head = later_head more p at rest file some few stands in
    let shown = subst (λ a. IsAt a (data_header (32 + head.carried) head.flags p) file) (sym off) head.stands in
    absurd (not_closed head.flags head.carried (sym c.in-Ok-Closed.field-0-is ∙ c.in-Ok-Closed.ensures.data told head.flags head.carried head.may shown))

pub returns-in-Ok-Pad-clause-exact : goal.returns-in-Ok-Pad-clause-exact
returns-in-Ok-Pad-clause-exact g t c told more rest some few inside stands =
    let k = c.args.frame in
    let first = c.args.first in
    let p = first + k * 1408 in
    let at = first % 65536 + k * 1408 in
    let file = ((g.D.Disk.state c.args.disk.now).files (2 + c.args.segment)).reads in
    let least = frames_some (length rest) some in
    let off : p % 65536 ≡ at = omega (arith, inside, least.0) in
    let head = later_head more p at rest file some few stands in
    let shown = subst (λ a. IsAt a (data_header (32 + head.carried) head.flags p) file) (sym off) head.stands in
    absurd (not_pad head.flags head.carried (sym c.in-Ok-Pad.field-0-is ∙ c.in-Ok-Pad.ensures.data told head.flags head.carried head.may shown))

pub returns-in-Err-clause-exact : goal.returns-in-Err-clause-exact
returns-in-Err-clause-exact g t c told more rest some few inside stands =
    let k = c.args.frame in
    let first = c.args.first in
    let p = first + k * 1408 in
    let at = first % 65536 + k * 1408 in
    let file = ((g.D.Disk.state c.args.disk.now).files (2 + c.args.segment)).reads in
    let least = frames_some (length rest) some in
    let off : p % 65536 ≡ at = omega (arith, inside, least.0) in
    let head = later_head more p at rest file some few stands in
    let shown = subst (λ a. IsAt a (data_header (32 + head.carried) head.flags p) file) (sym off) head.stands in
    c.in-Err.ensures.data told head.flags head.carried head.may shown

pub returns-then-passes_end-clause-looked : goal.returns-then-passes_end-clause-looked
returns-then-passes_end-clause-looked g t c = looked_then g.met.D.Disk.honest_tells c.in-Ok-Data.ensures.looked c.ends_early-then-passes_end.ensures.looked

pub returns-then-flags-eq-LAST_FLAGS-clause-looked : goal.returns-then-flags-eq-LAST_FLAGS-clause-looked
returns-then-flags-eq-LAST_FLAGS-clause-looked g t c = looked_ok c.in-Ok-Data.ensures.looked tt
