-- The worked run, computed from the definitions.
use Rattle.std.proofs.Common.{◌≡◌, refl}
use Rattle.std.specs.Fmt.{digits}
use Rattle.hex.specs.Hex.{encode_with}
use Rattle.wire_prims.specs.Fields.{le16, le32, le64, signed32, signed64}
use Rattle.wire_prims.specs.Strict.{message}
use Rattle.sbe_client.specs.Spelling.{egress_spelling_of}
use Rattle.entry_log.specs.Log.{end_after}
use Rattle.echo_run.specs.Module.{event_len}
use Rattle.echo_run.specs.Reported.{run_text}
use Rattle.echo_run.specs.Text.{streams_from}
use Rattle.echo_run.specs.Worked.{worked_orders, worked_text}

pub text_there : run_text worked_orders ≡ worked_text
unfolding run_text streams_from end_after event_len egress_spelling_of message le16 le32 le64 signed32 signed64 encode_with digits
text_there = refl
