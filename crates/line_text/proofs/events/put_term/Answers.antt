use Rattle.std.proofs.Common.{◌++◌, codes, string_bytes, to_z-of_z}
use Rattle.std.proofs.lemmas.Result.{on_ok_weaker}
use Rattle.line_text.specs.Pieces.{value}
use Rattle.line_text.proofs.Chains.{joined}
use Rattle.line_text.proofs.events.put_term.Goals as goal

pub returns : goal.returns
returns c =
    let fits_leader = c.ranges.leader in
    let fits_base = c.ranges.base in
    let fits_stamp = c.ranges.stamp in
    on_ok_weaker c.put_value-2.result (λ last. joined (string_bytes c.args.page.now) (string_bytes c.put_value.new.page) (string_bytes c.put_value-2.new.page) ((value (codes "term leader ") c.args.leader) ++ (value (codes " base ") c.args.base)) (value (codes " ts ") c.args.stamp) (joined (string_bytes c.args.page.now) (string_bytes c.put_value32.new.page) (string_bytes c.put_value.new.page) (value (codes "term leader ") c.args.leader) (value (codes " base ") c.args.base) (simp to_z-of_z at c.in_ok-put_value32.ensures) (simp to_z-of_z at c.in_ok-put_value.ensures)) last) (simp to_z-of_z at c.put_value-2.ensures)
