use Rattle.std.proofs.Common.{◌++◌, codes, string_bytes, to_z-of_z}
use Rattle.std.proofs.lemmas.Result.{on_ok_weaker}
use Rattle.line_text.specs.Pieces.{hex_text, value}
use Rattle.line_text.specs.Events.{open_front}
use Rattle.line_text.proofs.Chains.{joined}
use Rattle.line_text.proofs.events.put_open.Goals as goal

pub returns : goal.returns
returns c =
    let fits_session = c.ranges.session in
    let fits_stream = c.ranges.stream in
    let fits_corr = c.ranges.corr in
    let fits_stamp = c.ranges.stamp in
    on_ok_weaker c.put_hex.result (λ last. joined (string_bytes c.args.page.now) (string_bytes c.put.new.page) (string_bytes c.put_hex.new.page) (((open_front c.args.session c.args.stream c.args.corr) ++ (value (codes " ts ") c.args.stamp)) ++ (codes " channel ")) (hex_text c.args.channel.now) (joined (string_bytes c.args.page.now) (string_bytes c.put_value.new.page) (string_bytes c.put.new.page) ((open_front c.args.session c.args.stream c.args.corr) ++ (value (codes " ts ") c.args.stamp)) (codes " channel ") (joined (string_bytes c.args.page.now) (string_bytes c.put_open_front.new.page) (string_bytes c.put_value.new.page) (open_front c.args.session c.args.stream c.args.corr) (value (codes " ts ") c.args.stamp) (simp to_z-of_z at c.in_ok-put_open_front.ensures) (simp to_z-of_z at c.in_ok-put_value.ensures)) c.in_ok-put.ensures) last) c.put_hex.ensures
