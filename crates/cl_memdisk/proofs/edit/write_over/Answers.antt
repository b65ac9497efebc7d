-- What a write found, put back, gives the bytes from before.
use Rattle.std.proofs.Common.{◌≡◌, length, ◌∙◌, ap, arith}
use Rattle.std.proofs.lemmas.Grind.{common_steps}
use Rattle.cl_base.specs.Disk.{overwritten}
use Rattle.cl_base.specs.Images.{length-overwritten}
use Rattle.cl_memdisk.specs.Changes.{taken_back}
use Rattle.cl_memdisk.proofs.EditLemmas.{back_from_write, in_place}
use Rattle.cl_memdisk.proofs.edit.write_over.Goals as goal

pub returns-clause-changed : goal.returns-clause-changed
returns-clause-changed c =
    let file = c.args.file.now.items in
    let bytes = c.args.bytes.now in
    let change = c.in_ok-change.change in
    let range = c.in_ok-change.ensures.range in
    let new = c.overwrite.new.file in
    let is : new.items ≡ overwritten c.args.at bytes file = grind (arith, common_steps) in
    let len : length new.items ≡ length (overwritten c.args.at bytes file) = ap length is in
    let ends = c.in-Some.ensures in
    record {
      last = change;
      pushed = grind (arith, common_steps);
      from = range.0;
      end_is = range.1 ∙ grind (arith, common_steps);
      back = ap (taken_back change) is ∙ back_from_write change c.args.at c.in-Some.end file range.0 range.1 c.in_ok-change.ensures.was c.requires (omega (arith, ends)) bytes (grind (arith, common_steps));
      in_place = in_place change c.args.at c.in-Some.end file range.0 range.1 c.in_ok-change.ensures.was c.requires (omega (arith, ends)) new.cap new.items
          (omega (arith, len, length-overwritten c.args.at bytes file c.requires))
          (omega (arith, c.args.file.now.ok.0, c.args.file.now.ok.1, c.in_ok-overwrite.ensures.room))
          (λ below. omega (arith, len, length-overwritten c.args.at bytes file c.requires, ends));
    }
