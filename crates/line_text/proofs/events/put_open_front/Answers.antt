use Rattle.std.proofs.Common.{◌++◌, codes, string_bytes, to_z-of_z}
use Rattle.std.proofs.lemmas.Result.{on_ok_weaker}
use Rattle.line_text.specs.Pieces.{value}
use Rattle.line_text.proofs.Chains.{joined}
use Rattle.line_text.proofs.events.put_open_front.Goals as goal

pub returns : goal.returns
returns c =
    let fits_session = c.ranges.session in
    let fits_stream = c.ranges.stream in
    let fits_corr = c.ranges.corr in
    on_ok_weaker c.put_value-2.result (λ last. joined (string_bytes c.args.page.now) (string_bytes c.put_value32.new.page) (string_bytes c.put_value-2.new.page) ((value (codes "open ") c.args.session) ++ (value (codes " stream ") c.args.stream)) (value (codes " corr ") c.args.corr) (joined (string_bytes c.args.page.now) (string_bytes c.put_value.new.page) (string_bytes c.put_value32.new.page) (value (codes "open ") c.args.session) (value (codes " stream ") c.args.stream) (simp to_z-of_z at c.in_ok-put_value.ensures) (simp to_z-of_z at c.in_ok-put_value32.ensures)) last) (simp to_z-of_z at c.put_value-2.ensures)
