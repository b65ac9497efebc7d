use Rattle.std.proofs.Common.{◌≡◌, ◌++◌, string_bytes, rules}
use Rattle.std.specs.List.{flat_map}
use Rattle.std.proofs.lemmas.Result.{on_ok_weaker}
use Rattle.line_text.proofs.Chains.{joined}
use Rattle.echo_run.specs.Driver.{world_of}
use Rattle.echo_run.specs.Reported.{member_text, last_line}
use Rattle.echo_run.specs.Text.{order_line, log_text, inputs_text, streams_from}
use Rattle.echo_run.proofs.run.Run.put_all.Goals as goal

pub returns : goal.returns
returns c =
    let orders : string_bytes c.put_orders.new.page ≡ string_bytes c.args.page.now ++ flat_map order_line (world_of c.args.self.now).told = search rules in
    let log : string_bytes c.put_log.new.page ≡ string_bytes c.put_orders.new.page ++ log_text (world_of c.args.self.now).printed = search rules in
    let inputs : string_bytes c.put_inputs.new.page ≡ string_bytes c.put_log.new.page ++ inputs_text (world_of c.args.self.now).inputs = search rules in
    let streams : string_bytes c.put_streams.new.page ≡ string_bytes c.put_inputs.new.page ++ streams_from 64 0 (world_of c.args.self.now).sent = search rules in
    on_ok_weaker c.put.result (λ last. joined (string_bytes c.args.page.now) (string_bytes c.put_member.new.page) (string_bytes c.put.new.page) (((((flat_map order_line (world_of c.args.self.now).told) ++ (log_text (world_of c.args.self.now).printed)) ++ (inputs_text (world_of c.args.self.now).inputs)) ++ (streams_from 64 0 (world_of c.args.self.now).sent)) ++ (member_text (world_of c.args.self.now))) (last_line) (joined (string_bytes c.args.page.now) (string_bytes c.put_streams.new.page) (string_bytes c.put_member.new.page) ((((flat_map order_line (world_of c.args.self.now).told) ++ (log_text (world_of c.args.self.now).printed)) ++ (inputs_text (world_of c.args.self.now).inputs)) ++ (streams_from 64 0 (world_of c.args.self.now).sent)) (member_text (world_of c.args.self.now)) (joined (string_bytes c.args.page.now) (string_bytes c.put_inputs.new.page) (string_bytes c.put_streams.new.page) (((flat_map order_line (world_of c.args.self.now).told) ++ (log_text (world_of c.args.self.now).printed)) ++ (inputs_text (world_of c.args.self.now).inputs)) (streams_from 64 0 (world_of c.args.self.now).sent) (joined (string_bytes c.args.page.now) (string_bytes c.put_log.new.page) (string_bytes c.put_inputs.new.page) ((flat_map order_line (world_of c.args.self.now).told) ++ (log_text (world_of c.args.self.now).printed)) (inputs_text (world_of c.args.self.now).inputs) (joined (string_bytes c.args.page.now) (string_bytes c.put_orders.new.page) (string_bytes c.put_log.new.page) (flat_map order_line (world_of c.args.self.now).told) (log_text (world_of c.args.self.now).printed) orders log) inputs) streams) c.in_ok-put_member.ensures) last) c.put.ensures
