use Rattle.std.proofs.Common.{refl, ◌∙◌, ap, [], ◌∷◌, replicate, ◌/◌, ◌%◌, ◌^◌, w16, w32}
use Rattle.std.specs.Int.{to_le_bytes}
use Rattle.cl_base.specs.Disk.{overwritten}
use Rattle.wire_prims.specs.Fields.{le16, le32}
use Rattle.wire_prims.specs.Frames.{header_bytes}
use Rattle.wire_prims.proofs.FrameLemmas.{header_written}
use Rattle.wire_prims.proofs.frame.write_header.Goals as goal

pub returns : goal.returns
unfolding header_bytes le16 le32
returns c =
    header_written (to_le_bytes w32 c.args.named) (0 ∷ c.args.flags ∷ []) (to_le_bytes w16 c.args.type_number) (to_le_bytes w32 (c.args.position % 65536)) (to_le_bytes w32 1) (to_le_bytes w32 100)
    (to_le_bytes w32 (c.args.position / 65536 % 2 ^ 32)) (replicate 7 0) (c.args.gate ∷ [])
    c.args.out.now c.put.new.out c.put-2.new.out c.put-3.new.out c.put-4.new.out c.put-5.new.out c.put-6.new.out c.put-7.new.out c.put-8.new.out c.put-9.new.out
    refl refl refl refl refl refl refl refl refl
    (c.put.ensures ∙ ap (λ b. overwritten 0 b c.args.out.now) c.to_le_bytes.ensures)
    c.put-2.ensures
    (c.put-3.ensures ∙ ap (λ b. overwritten 6 b c.put-2.new.out) c.to_le_bytes-2.ensures)
    (c.put-4.ensures ∙ ap (λ b. overwritten 8 b c.put-3.new.out) (c.to_le_bytes-3.ensures ∙ ap (to_le_bytes w32) c.offset_of.ensures))
    (c.put-5.ensures ∙ ap (λ b. overwritten 12 b c.put-4.new.out) c.to_le_bytes-4.ensures)
    (c.put-6.ensures ∙ ap (λ b. overwritten 16 b c.put-5.new.out) c.to_le_bytes-5.ensures)
    (c.put-7.ensures ∙ ap (λ b. overwritten 20 b c.put-6.new.out) (c.to_le_bytes-6.ensures ∙ ap (to_le_bytes w32) c.number_at.ensures))
    c.put-8.ensures
    c.put-9.ensures
