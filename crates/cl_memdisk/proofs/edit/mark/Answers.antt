-- What a mark found stands there still.
use Rattle.std.proofs.Common.{refl, arith}
use Rattle.std.proofs.lemmas.Grind.{common_steps}
use Rattle.cl_memdisk.proofs.EditLemmas.{back_from, in_place}
use Rattle.cl_memdisk.proofs.edit.mark.Goals as goal

pub returns-clause-changed : goal.returns-clause-changed
returns-clause-changed c =
    let file = c.args.file.now.items in
    let change = c.in_ok-change.change in
    let range = c.in_ok-change.ensures.range in
    record {
      last = change;
      pushed = grind (arith, common_steps);
      from = range.0;
      end_is = range.1;
      back = back_from change c.args.from c.args.end file range.0 range.1 c.in_ok-change.ensures.was c.requires.starts c.requires.ends file refl refl;
      in_place = in_place change c.args.from c.args.end file range.0 range.1 c.in_ok-change.ensures.was c.requires.starts c.requires.ends c.args.file.now.cap file
          c.requires.starts (omega (arith, c.args.file.now.ok.0, c.args.file.now.ok.1)) (λ below. omega (arith, below));
    }
