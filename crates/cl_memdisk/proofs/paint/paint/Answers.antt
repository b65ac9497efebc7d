-- Each place is painted.
use Rattle.std.proofs.Common.{◌≡◌, length, map, drop, sym, ◌∙◌, ap, inl, arith, get_or, [], ◌<◌}
use Rattle.std.proofs.lemmas.List.{ext_get_or, drop_all}
use Rattle.cl_base.specs.Disk.{painted, spot}
use Rattle.cl_base.specs.Images.{length-painted, get_or-painted}
use Rattle.cl_memdisk.specs.Changes.{range_of}
use Rattle.cl_memdisk.proofs.PaintLemmas.{spot-last}
use Rattle.cl_memdisk.proofs.paint.paint.Goals as goal

pub returns : goal.returns
returns c =
    let x = c.args.x in
    let end = c.args.end in
    let old = c.args.bytes.now in
    let mid = c.loop-change.bytes in
    let new = c.fill-2.new.bytes in
    let changes = c.args.changes.now in
    let ranges = map range_of changes in
    let mid_len : length mid ≡ length old = c.loop-change.auto.bytes in
    let len : length new ≡ length mid = c.fill-2.auto.bytes in
    let none : map range_of (drop c.loop-change.change-index changes) ≡ [] = ap (λ l. map range_of l) (drop_all c.loop-change.change-index changes c.loop-change-test.false) in
    ext_get_or 0 new (painted x ranges end 0 old) (omega (arith, len, mid_len, length-painted x ranges end 0 old))
    (λ k within.
    let in_mid : k < length mid = omega (arith, len) in
    spot-last x end k (get_or mid k 0) (get_or new k 0) (λ above. c.fill-2.ensures.inside k in_mid above in_mid) (λ below. c.fill-2.ensures.outside k (inl below))
    ∙ ap (λ rs. spot x rs end k (get_or mid k 0)) (sym none)
    ∙ c.loop-change.invariant k (omega (arith, len, mid_len))
    ∙ sym (get_or-painted x ranges end 0 old k k (omega (arith, len, mid_len)) (omega arith)))
