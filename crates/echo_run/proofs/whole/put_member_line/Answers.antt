use Rattle.std.proofs.Common.{◌++◌, codes, string_bytes, to_z-of_z}
use Rattle.std.proofs.lemmas.Result.{on_ok_weaker}
use Rattle.line_text.specs.Pieces.{newline, count, value}
use Rattle.line_text.proofs.Chains.{joined}
use Rattle.echo_run.proofs.whole.put_member_line.Goals as goal

pub returns : goal.returns
returns c =
    let fits_candidate = c.ranges.candidate in
    on_ok_weaker c.put-2.result (λ last. joined (string_bytes c.args.page.now) (string_bytes c.put.new.page) (string_bytes c.put-2.new.page) (((((value (codes "member 0 up candidate ") c.args.candidate) ++ (count (codes " entries ") c.args.entries)) ++ (count (codes " same ") c.args.same)) ++ (count (codes " commit ") c.args.commit)) ++ (codes " snapshots 0")) (newline) (joined (string_bytes c.args.page.now) (string_bytes c.put_count-3.new.page) (string_bytes c.put.new.page) ((((value (codes "member 0 up candidate ") c.args.candidate) ++ (count (codes " entries ") c.args.entries)) ++ (count (codes " same ") c.args.same)) ++ (count (codes " commit ") c.args.commit)) (codes " snapshots 0") (joined (string_bytes c.args.page.now) (string_bytes c.put_count-2.new.page) (string_bytes c.put_count-3.new.page) (((value (codes "member 0 up candidate ") c.args.candidate) ++ (count (codes " entries ") c.args.entries)) ++ (count (codes " same ") c.args.same)) (count (codes " commit ") c.args.commit) (joined (string_bytes c.args.page.now) (string_bytes c.put_count.new.page) (string_bytes c.put_count-2.new.page) ((value (codes "member 0 up candidate ") c.args.candidate) ++ (count (codes " entries ") c.args.entries)) (count (codes " same ") c.args.same) (joined (string_bytes c.args.page.now) (string_bytes c.put_value.new.page) (string_bytes c.put_count.new.page) (value (codes "member 0 up candidate ") c.args.candidate) (count (codes " entries ") c.args.entries) (simp to_z-of_z at c.in_ok-put_value.ensures) c.in_ok-put_count.ensures) c.in_ok-put_count-2.ensures) c.in_ok-put_count-3.ensures) c.in_ok-put.ensures) last) c.put-2.ensures
