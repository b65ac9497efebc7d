use Rattle.std.proofs.Common.{◌≡◌, ℕ, ◌+◌, ◌-◌, ◌≤◌, length, replicate, refl, sym, ◌∙◌, ap, arith}
use Rattle.cl_base.specs.Disk.{overwritten}
use Rattle.wire_prims.specs.Fields.{le16, le32}
use Rattle.wire_prims.specs.Header.{aligned_to}
use Rattle.wire_prims.specs.Frames.{frame, frame_length, frame_type, header_bytes}
use Rattle.wire_prims.proofs.FrameLemmas.{frame_written, zeros_taken, zeros_length}
use Rattle.wire_prims.proofs.frame.write_frame.Goals as goal
use Rattle.wire_prims.proofs.frame.write_frame.Goals.{then-pad, else-pad}

length-header : (named flags type_number position gate : ℕ) → length (header_bytes named flags type_number position gate) ≡ 32
unfolding header_bytes le16 le32
length-header named flags type_number position gate = refl

pub returns : goal.returns
unfolding frame
returns c =
    let body = c.args.body.now in
    let end : ℕ = 32 + length c.args.body.now in
    let rest : ℕ = aligned_to (32 + length c.args.body.now) - (32 + length c.args.body.now) in
    let named : c.if-pad.named ≡ frame_length c.args.position c.args.pad (length c.args.body.now) =
    elim c.if-pad.branch [
      | then-pad w ↦ w.named-is ∙ sym (ap (λ p. frame_length c.args.position p (length c.args.body.now)) w.if-pad.true)
      | else-pad w ↦ w.named-is ∙ sym (ap (λ p. frame_length c.args.position p (length c.args.body.now)) w.if-pad.false)
    ] in
    let same_rest : length c.args.out.now - (32 + length c.args.body.now) ≡ rest = omega (arith, c.requires.len) in
    let small : rest ≤ 32 = omega arith in
    let head = header_bytes (frame_length c.args.position c.args.pad (length c.args.body.now)) c.args.flags (frame_type c.args.pad) c.args.position c.args.gate in
    let same = ap (λ n. header_bytes n c.args.flags c.type_of.result c.args.position c.args.gate) named ∙ ap (λ t. header_bytes (frame_length c.args.position c.args.pad (length c.args.body.now)) c.args.flags t c.args.position c.args.gate) c.type_of.ensures in
    frame_written head c.args.body.now (replicate {A = ℕ} rest 0) c.args.out.now c.write_header.new.out c.put.new.out c.put-2.new.out end
    (length-header (frame_length c.args.position c.args.pad (length c.args.body.now)) c.args.flags (frame_type c.args.pad) c.args.position c.args.gate) refl
    (omega (arith, c.requires.len, zeros_length rest))
    (c.write_header.ensures ∙ ap (λ h. overwritten 0 h c.args.out.now) same)
    c.put.ensures
    (c.put-2.ensures ∙ ap (λ z. overwritten (32 + length c.args.body.now) z c.put.new.out) (zeros_taken (length c.args.out.now - (32 + length c.args.body.now)) rest same_rest small))
