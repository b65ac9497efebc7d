use Rattle.std.proofs.Common.{◌≡◌, ℕ, List, [], Some, sym, ap, append-nil}
use Rattle.wire_prims.specs.declared.fault.Bad.{Bad}
use Rattle.sbe_events.specs.Spelling.{first_fault, event_of, event_from}
use Rattle.sbe_events.specs.Templates.{template_of}
use Rattle.wire_prims.specs.Fields.{u16_at}
use Rattle.line_text.specs.Events.{bytes_text, found_text}
use Rattle.line_text.proofs.events.put_bytes.Goals as goal

no_text : (bytes : List ℕ) (b : Bad) → first_fault bytes ≡ Some b → bytes_text bytes ≡ []
unfolding event_of
no_text bytes b e = ap (λ o. found_text (event_from o (template_of (u16_at 2 bytes)) bytes)) e

pub returns-in-Err-Bad : goal.returns-in-Err-Bad
returns-in-Err-Bad c =
    let e = (c.decode_event.ensures.bad c.in-Err-Bad.field-0-0).0 cc in
    rw (no_text c.args.bytes.now c.in-Err-Bad.field-0-0 e) (sym (append-nil _))
