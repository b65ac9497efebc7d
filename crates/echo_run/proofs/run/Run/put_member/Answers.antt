use Rattle.std.proofs.Common.{◌≡◌, ◌++◌, length, string_bytes, take, rules, w64, length-take-le}
use Rattle.std.specs.Prelude.{FitsSigned}
use Rattle.std.proofs.lemmas.Result.{on_ok_weaker}
use Rattle.line_text.proofs.Chains.{joined}
use Rattle.echo_run.specs.Driver.{world_of}
use Rattle.echo_run.specs.Reported.{own_text}
use Rattle.echo_run.specs.Text.{member_line}
use Rattle.echo_run.proofs.run.Run.put_member.Goals as goal

pub returns : goal.returns
returns c =
    let r = c.args.self.now in
    let printed : length (take r.commit r.log) ≡ r.commit = length-take-le r.commit r.log c.requires.commit in
    let fits : FitsSigned w64 r.election.candidate = search rules in
    let numbers : string_bytes c.put_member_line.new.page ≡ string_bytes c.args.page.now ++ member_line r.election.candidate (length r.log) r.commit r.commit = search rules in
    let line : string_bytes c.put_member_line.new.page ≡ string_bytes c.args.page.now ++ member_line r.election.candidate (length r.log) (length (take r.commit r.log)) r.commit = rw printed numbers in
    on_ok_weaker c.put_own.result (λ last. joined (string_bytes c.args.page.now) (string_bytes c.put_member_line.new.page) (string_bytes c.put_own.new.page) (member_line r.election.candidate (length r.log) (length (take r.commit r.log)) r.commit) (own_text (world_of r)) line last) c.put_own.ensures
