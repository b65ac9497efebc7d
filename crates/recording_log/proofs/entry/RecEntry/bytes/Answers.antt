-- The bytes spell the entry.
use Rattle.std.proofs.Common.{◌≡◌, ◌∙◌, ap, arith, rules, replicate, to_z, of_z, w32, w64}
use Rattle.std.specs.Int.RustNames.{FitsSigned}
use Rattle.std.proofs.lemmas.Int.{to_z-of_z}
use Rattle.cl_base.specs.Disk.{overwritten}
use Rattle.wire_prims.specs.Fields.{signed64, signed32, le32}
use Rattle.recording_log.specs.Entries.{entry_of}
use Rattle.recording_log.proofs.BlockLemmas.{spelled}
use Rattle.recording_log.proofs.entry.RecEntry.bytes.Goals as goal

pub returns : goal.returns
returns c =
    let s = c.args.self in
    let z0 : to_z w64 (of_z w64 s.recording) ≡ s.recording = grind (arith, to_z-of_z) in
    let z1 : to_z w64 (of_z w64 s.term) ≡ s.term = grind (arith, to_z-of_z) in
    let z2 : to_z w64 (of_z w64 s.base) ≡ s.base = grind (arith, to_z-of_z) in
    let z3 : to_z w64 (of_z w64 s.position) ≡ s.position = grind (arith, to_z-of_z) in
    let z4 : to_z w64 (of_z w64 s.stamp) ≡ s.stamp = grind (arith, to_z-of_z) in
    let z5 : to_z w32 (of_z w32 s.service) ≡ s.service = grind (arith, to_z-of_z) in
    let f0 : FitsSigned w64 s.recording = search rules in
    let f1 : FitsSigned w64 s.term = search rules in
    let f2 : FitsSigned w64 s.base = search rules in
    let f3 : FitsSigned w64 s.position = search rules in
    let f4 : FitsSigned w64 s.stamp = search rules in
    let f5 : FitsSigned w32 s.service = search rules in
    let i1 = c.put_i64.ensures ∙ ap (λ z. overwritten 0 (signed64 z) (replicate 63 0)) z0 in
    let i2 = c.put_i64-2.ensures ∙ (λ t. overwritten 8 (signed64 (z1 t)) (i1 t)) in
    let i3 = c.put_i64-3.ensures ∙ (λ t. overwritten 16 (signed64 (z2 t)) (i2 t)) in
    let i4 = c.put_i64-4.ensures ∙ (λ t. overwritten 24 (signed64 (z3 t)) (i3 t)) in
    let i5 = c.put_i64-5.ensures ∙ (λ t. overwritten 32 (signed64 (z4 t)) (i4 t)) in
    let i6 = c.put_i32.ensures ∙ (λ t. overwritten 40 (signed32 (z5 t)) (i5 t)) in
    let i7 = c.put_u32.ensures ∙ (λ t. overwritten 44 (le32 s.kind) (i6 t)) in
    ap entry_of i7 ∙ spelled s.recording s.term s.base s.position s.stamp s.service s.kind f0 f1 f2 f3 f4 f5 (omega arith)
