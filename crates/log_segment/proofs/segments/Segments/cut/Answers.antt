-- The gate of the first frame that goes is closed.
use Rattle.std.specs.Prelude.{if◌then◌else◌}
use Rattle.std.proofs.Common.{◌≡◌, ◌≢◌, ◌⊎◌, ⊎_elim, ℕ, ◌+◌, ◌/◌, ◌%◌, ◌<◌, ◌≤◌, ◌==◌, List, length, take, refl, sym, ◌∙◌, ap, subst, arith}
use Rattle.std.proofs.lemmas.Bool.{ne_eqb}
use Rattle.std.proofs.lemmas.List.{take-map, length-map}
use Rattle.cl_base.specs.Fuse.{Passed, Ended, fuse_of_member}
use Rattle.entry_log.specs.Log.{Log, place}
use Rattle.entry_log.specs.Shape.{Shape, shape_of, entry_shape, end_of, end_from-shape_of}
use Rattle.log_segment.specs.Segment.{LogIs}
use Rattle.log_segment.specs.Cuts.{IsCut, CutLeft}
use Rattle.log_segment.specs.Held.{IsHeld}
use Rattle.log_segment.proofs.CutLemmas.{gate_there}
use Rattle.log_segment.proofs.KeepLemmas.{cut_low, cut_is, held_aligned}
use Rattle.log_segment.proofs.HeldLemmas.{held_take}
use Rattle.log_segment.proofs.segments.Segments.cut.Goals as goal

shape_place : (log : Log) (n : ℕ) (xs : Shape) (p : ℕ) → xs ≡ shape_of log → p ≡ end_of (take n xs) → p ≡ place (take n log)
shape_place log n xs p is at = at ∙ ap (λ (l : Shape). end_of (take n l)) is ∙ ap end_of (take-map entry_shape n log) ∙ end_from-shape_of 0 (take n log)

fewer : (log : Log) (n : ℕ) (xs : Shape) (count : ℕ) → xs ≡ shape_of log → count ≡ length xs → n ≤ length log → n ≢ count → n < length log
fewer log n xs count is all le ne = let len : length xs ≡ length log = ap length is ∙ length-map log entry_shape in omega (arith, len, all, le, ne)

outside : (g s : ℕ) → s < 256 → g < 2 ⊎ 258 ≤ g → g ≢ 2 + s
outside g s low far is = ⊎_elim (λ under. omega (arith, under, is)) (λ over. omega (arith, over, is, low)) far

module _ (log : Log) (n p seg : ℕ) (xs : Shape) (held : IsHeld log) (is : xs ≡ shape_of log) (below : n < length log) (p_is : p ≡ end_of (take n xs)) (seg_is : seg ≡ p / 65536) where
  at_place : p ≡ place (take n log)
  at_place = shape_place log n xs p is p_is

  low : p < 16777216
  low = subst (λ k. k < 16777216) (sym at_place) (cut_low log n held below)

  seg_low : seg < 256
  seg_low = let under = low in omega (arith, under, seg_is)

  at_high : p % 65536 + 32 ≤ 65536
  at_high = let aligned = held_aligned (take n log) (held_take n log held) in omega (arith, aligned, at_place)

  the_cut : IsCut log (take n log) seg (p % 65536)
  the_cut = subst (λ k. IsCut log (take n log) k (p % 65536)) (sym seg_is) (subst (λ k. IsCut log (take n log) (k / 65536) (k % 65536)) (sym at_place) (cut_is log n held below))

  room : (c : ℕ → List ℕ) → LogIs log c → p % 65536 + 32 ≤ length (c (2 + seg))
  room c stands = (gate_there log (take n log) seg (p % 65536) the_cut seg_low c stands).0

pub segment_at-requires : goal.segment_at-requires
segment_at-requires g c =
    let log = c.args.self.now in
    let n = c.args.entries in
    let p = c.end_at-place.result in
    let held = subst IsHeld c.self.view_is c.index.ensures.sound in
    let is = c.index-2.ensures.index ∙ ap shape_of c.self.view_is in
    let below = fewer log n c.index.result.now c.entries.result (c.index.ensures.index ∙ ap shape_of c.self.view_is) c.entries.ensures.count c.requires.few c.if-entries.false in
    low log n p (p / 65536) c.index-2.result.now held is below c.end_at-place.ensures refl

pub shut_gate-requires-clause-segment : goal.shut_gate-requires-clause-segment
shut_gate-requires-clause-segment g c =
    let log = c.args.self.now in
    let n = c.args.entries in
    let p = c.end_at-place.result in
    let held = subst IsHeld c.self.view_is c.index.ensures.sound in
    let is = c.index-2.ensures.index ∙ ap shape_of c.self.view_is in
    let below = fewer log n c.index.result.now c.entries.result (c.index.ensures.index ∙ ap shape_of c.self.view_is) c.entries.ensures.count c.requires.few c.if-entries.false in
    seg_low log n p c.segment_at.result c.index-2.result.now held is below c.end_at-place.ensures c.segment_at.ensures

pub shut_gate-requires-clause-high : goal.shut_gate-requires-clause-high
shut_gate-requires-clause-high g c =
    let log = c.args.self.now in
    let n = c.args.entries in
    let p = c.end_at-place.result in
    let held = subst IsHeld c.self.view_is c.index.ensures.sound in
    let is = c.index-2.ensures.index ∙ ap shape_of c.self.view_is in
    let below = fewer log n c.index.result.now c.entries.result (c.index.ensures.index ∙ ap shape_of c.self.view_is) c.entries.ensures.count c.requires.few c.if-entries.false in
    at_high log n p c.segment_at.result c.index-2.result.now held is below c.end_at-place.ensures c.segment_at.ensures

pub shut_gate-requires-clause-room : goal.shut_gate-requires-clause-room
shut_gate-requires-clause-room g c =
    let log = c.args.self.now in
    let n = c.args.entries in
    let p = c.end_at-place.result in
    let held = subst IsHeld c.self.view_is c.index.ensures.sound in
    let is = c.index-2.ensures.index ∙ ap shape_of c.self.view_is in
    let below = fewer log n c.index.result.now c.entries.result (c.index.ensures.index ∙ ap shape_of c.self.view_is) c.entries.ensures.count c.requires.few c.if-entries.false in
    λ told. room log n p c.segment_at.result c.index-2.result.now held is below c.end_at-place.ensures c.segment_at.ensures (λ f. ((g.D.Disk.state c.args.disk.now).files f).reads) (c.requires.stands told)

pub returns-in-Ok-clause-others : goal.returns-in-Ok-clause-others
returns-in-Ok-clause-others g c =
    let log = c.args.self.now in
    let n = c.args.entries in
    let p = c.end_at-place.result in
    let held = subst IsHeld c.self.view_is c.index.ensures.sound in
    let is = c.index-2.ensures.index ∙ ap shape_of c.self.view_is in
    let below = fewer log n c.index.result.now c.entries.result (c.index.ensures.index ∙ ap shape_of c.self.view_is) c.entries.ensures.count c.requires.few c.if-entries.false in
    λ told f far. c.shut_gate.ensures.others told f (outside f c.segment_at.result (seg_low log n p c.segment_at.result c.index-2.result.now held is below c.end_at-place.ensures c.segment_at.ensures) far)

pub returns-in-Ok-clause-each : goal.returns-in-Ok-clause-each
returns-in-Ok-clause-each g c =
    let log = c.args.self.now in
    let n = c.args.entries in
    let p = c.end_at-place.result in
    let held = subst IsHeld c.self.view_is c.index.ensures.sound in
    let is = c.index-2.ensures.index ∙ ap shape_of c.self.view_is in
    let below = fewer log n c.index.result.now c.entries.result (c.index.ensures.index ∙ ap shape_of c.self.view_is) c.entries.ensures.count c.requires.few c.if-entries.false in
    λ honest stands. c.shut_gate.ensures.each honest log (take n log) (record { is = the_cut log n p c.segment_at.result c.index-2.result.now held is below c.end_at-place.ensures c.segment_at.ensures; stands = stands })

pub returns-in-Ok-clause-cut_well : goal.returns-in-Ok-clause-cut_well
returns-in-Ok-clause-cut_well g c =
    let log = c.args.self.now in
    let n = c.args.entries in
    let p = c.end_at-place.result in
    let held = subst IsHeld c.self.view_is c.index.ensures.sound in
    let is = c.index-2.ensures.index ∙ ap shape_of c.self.view_is in
    let below = fewer log n c.index.result.now c.entries.result (c.index.ensures.index ∙ ap shape_of c.self.view_is) c.entries.ensures.count c.requires.few c.if-entries.false in
    λ honest stands. c.shut_gate.ensures.cut_well honest log (take n log) (record { is = the_cut log n p c.segment_at.result c.index-2.result.now held is below c.end_at-place.ensures c.segment_at.ensures; stands = stands })

pub returns-in-Err-clause-others : goal.returns-in-Err-clause-others
returns-in-Err-clause-others g c =
    let log = c.args.self.now in
    let n = c.args.entries in
    let p = c.end_at-place.result in
    let held = subst IsHeld c.self.view_is c.index.ensures.sound in
    let is = c.index-2.ensures.index ∙ ap shape_of c.self.view_is in
    let below = fewer log n c.index.result.now c.entries.result (c.index.ensures.index ∙ ap shape_of c.self.view_is) c.entries.ensures.count c.requires.few c.if-entries.false in
    λ told f far. c.shut_gate.ensures.others told f (outside f c.segment_at.result (seg_low log n p c.segment_at.result c.index-2.result.now held is below c.end_at-place.ensures c.segment_at.ensures) far)

pub returns-in-Err-clause-each : goal.returns-in-Err-clause-each
returns-in-Err-clause-each g c =
    let log = c.args.self.now in
    let n = c.args.entries in
    let p = c.end_at-place.result in
    let held = subst IsHeld c.self.view_is c.index.ensures.sound in
    let is = c.index-2.ensures.index ∙ ap shape_of c.self.view_is in
    let below = fewer log n c.index.result.now c.entries.result (c.index.ensures.index ∙ ap shape_of c.self.view_is) c.entries.ensures.count c.requires.few c.if-entries.false in
    λ honest stands. c.shut_gate.ensures.each honest log (take n log) (record { is = the_cut log n p c.segment_at.result c.index-2.result.now held is below c.end_at-place.ensures c.segment_at.ensures; stands = stands })

pub returns-in-Err-clause-cut_well : goal.returns-in-Err-clause-cut_well
returns-in-Err-clause-cut_well g c =
    let log = c.args.self.now in
    let n = c.args.entries in
    let p = c.end_at-place.result in
    let held = subst IsHeld c.self.view_is c.index.ensures.sound in
    let is = c.index-2.ensures.index ∙ ap shape_of c.self.view_is in
    let below = fewer log n c.index.result.now c.entries.result (c.index.ensures.index ∙ ap shape_of c.self.view_is) c.entries.ensures.count c.requires.few c.if-entries.false in
    λ honest stands. c.shut_gate.ensures.cut_well honest log (take n log) (record { is = the_cut log n p c.segment_at.result c.index-2.result.now held is below c.end_at-place.ensures c.segment_at.ensures; stands = stands })

pub returns-in-Ok-clause-stands : goal.returns-in-Ok-clause-stands
returns-in-Ok-clause-stands g c =
    let log = c.args.self.now in
    let n = c.args.entries in
    let p = c.end_at-place.result in
    let held = subst IsHeld c.self.view_is c.index.ensures.sound in
    let is = c.index-2.ensures.index ∙ ap shape_of c.self.view_is in
    let below = fewer log n c.index.result.now c.entries.result (c.index.ensures.index ∙ ap shape_of c.self.view_is) c.entries.ensures.count c.requires.few c.if-entries.false in
    λ told. subst (λ l. LogIs l (λ f. ((g.D.Disk.state c.shut_gate.new.disk).files f).reads)) (sym (c.cut.ensures ∙ ap (λ (l : Log). take n l) c.self.view_is)) (c.in-Ok.ensures.reads told log (take n log) (the_cut log n p c.segment_at.result c.index-2.result.now held is below c.end_at-place.ensures c.segment_at.ensures) (c.requires.stands told))

pub returns-in-Ok-clause-done : goal.returns-in-Ok-clause-done
returns-in-Ok-clause-done g c =
    let log = c.args.self.now in
    let n = c.args.entries in
    let p = c.end_at-place.result in
    let held = subst IsHeld c.self.view_is c.index.ensures.sound in
    let is = c.index-2.ensures.index ∙ ap shape_of c.self.view_is in
    let below = fewer log n c.index.result.now c.entries.result (c.index.ensures.index ∙ ap shape_of c.self.view_is) c.entries.ensures.count c.requires.few c.if-entries.false in
    λ honest stands. c.in-Ok.ensures.done honest log (take n log) (record { is = the_cut log n p c.segment_at.result c.index-2.result.now held is below c.end_at-place.ensures c.segment_at.ensures; stands = stands })

pub returns-in-Ok-clause-fuse : goal.returns-in-Ok-clause-fuse
returns-in-Ok-clause-fuse g c =
    let log = c.args.self.now in
    let n = c.args.entries in
    let p = c.end_at-place.result in
    let held = subst IsHeld c.self.view_is c.index.ensures.sound in
    let is = c.index-2.ensures.index ∙ ap shape_of c.self.view_is in
    let below = fewer log n c.index.result.now c.entries.result (c.index.ensures.index ∙ ap shape_of c.self.view_is) c.entries.ensures.count c.requires.few c.if-entries.false in
    let differ : n ≢ length log = λ same. absurd (omega (arith, below, same)) in
    let calls : (if n == length log then 0 else 2) ≡ 2 = ap (λ b. if b then 0 else 2) (ne_eqb n (length log) differ) in
    λ honest stands alive. subst (λ k. Passed k (g.D.Disk.state c.args.disk.now) (g.D.Disk.state c.shut_gate.new.disk)) (sym calls) (c.in-Ok.ensures.fuse honest log (take n log) (record { is = the_cut log n p c.segment_at.result c.index-2.result.now held is below c.end_at-place.ensures c.segment_at.ensures; stands = stands }) alive)

pub returns-in-Err-clause-fuse : goal.returns-in-Err-clause-fuse
returns-in-Err-clause-fuse g c =
    let log = c.args.self.now in
    let n = c.args.entries in
    let p = c.end_at-place.result in
    let held = subst IsHeld c.self.view_is c.index.ensures.sound in
    let is = c.index-2.ensures.index ∙ ap shape_of c.self.view_is in
    let below = fewer log n c.index.result.now c.entries.result (c.index.ensures.index ∙ ap shape_of c.self.view_is) c.entries.ensures.count c.requires.few c.if-entries.false in
    let differ : n ≢ length log = λ same. absurd (omega (arith, below, same)) in
    let calls : (if n == length log then 0 else 2) ≡ 2 = ap (λ b. if b then 0 else 2) (ne_eqb n (length log) differ) in
    λ honest stands alive failed stays. subst (λ k. Ended k (CutLeft log (take n log)) (g.D.Disk.state c.args.disk.now) (g.D.Disk.state c.shut_gate.new.disk)) (sym calls)
    (fuse_of_member (Unit {0}) (Unit {0}) 2 (CutLeft log (take n log)) (g.D.Disk.state c.args.disk.now) (g.D.Disk.state c.shut_gate.new.disk) c.in-Err.trouble c.from.result c.from.ensures (c.in-Err.ensures.fuse honest log (take n log) (record { is = the_cut log n p c.segment_at.result c.index-2.result.now held is below c.end_at-place.ensures c.segment_at.ensures; stands = stands })) alive failed stays)
