use Rattle.std.proofs.Common.{sym}
use Rattle.sbe_events.specs.Laws.{found_sound}
use Rattle.sbe_events.proofs.decode.template_in.Goals as goal

pub returns-in-None-clause-sound : goal.returns-in-None-clause-sound
returns-in-None-clause-sound c =
    found_sound c.args.bytes.now c.in_ok-header.header c.in-Some.template (sym c.in_ok-header.ensures.exact) c.in_ok-header.ensures.found.0 (sym c.in-Some.ensures) (cc (c.in-None.ensures, c.rules.ensures.rules, c.tail.ensures))
