-- What a cut found, put back, gives the bytes from before.
use Rattle.std.proofs.Common.{◌≡◌, length, take, ◌∙◌, ap, arith, length-take}
use Rattle.std.proofs.lemmas.Grind.{common_steps}
use Rattle.cl_memdisk.specs.Changes.{taken_back}
use Rattle.cl_memdisk.proofs.EditLemmas.{back_from_cut, in_place}
use Rattle.cl_memdisk.proofs.edit.cut_off.Goals as goal

pub returns-clause-changed : goal.returns-clause-changed
returns-clause-changed c =
    let file = c.args.file.now.items in
    let change = c.in_ok-change.change in
    let range = c.in_ok-change.ensures.range in
    let new = c.truncate.new.self in
    let is : new.items ≡ take c.args.len file = c.truncate.ensures.items in
    let size : c.len.result ≡ length file = grind (arith, common_steps) in
    let len : length new.items ≡ length (take c.args.len file) = ap length is in
    record {
      last = change;
      pushed = grind (arith, common_steps);
      from = range.0;
      end_is = range.1 ∙ size;
      back = ap (taken_back change) is ∙ back_from_cut change c.args.len c.len.result file range.0 range.1 c.in_ok-change.ensures.was c.requires (omega (arith, size)) size;
      in_place = in_place change c.args.len c.len.result file range.0 range.1 c.in_ok-change.ensures.was c.requires (omega (arith, size)) new.cap new.items
          (omega (arith, len, length-take c.args.len file))
          (omega (arith, c.args.file.now.ok.0, c.args.file.now.ok.1, c.truncate.ensures.capacity))
          (λ below. omega (arith, len, length-take c.args.len file, size));
    }
