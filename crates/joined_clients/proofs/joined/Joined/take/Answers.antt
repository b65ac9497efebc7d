use Rattle.std.proofs.Common.{◌≡◌, ℕ, List, Some, None, refl, sym, ap, ◌∙◌}
use Rattle.std.proofs.lemmas.Result.{on_ok_weaker}
use Rattle.joined_clients.specs.Joined.{JoinedSeen, meets, takes}
use Rattle.joined_clients.proofs.Given.{read_event, taken, passed, kept, hands_none}
use Rattle.joined_clients.proofs.joined.Joined.take.Goals as goal

pub returns-in-Ok : goal.returns-in-Ok
returns-in-Ok c =
    let seen = c.as_slice.result.now in
    let j : JoinedSeen = record { number = c.self.inside.number; client = c.self.inside.client; given = c.self.inside.given; handed = c.self.inside.handed } in
    let h = taken seen c.args.now c.self.inside.client c.on_egress.new.self c.in-Ok.took c.in-Ok.ensures.heard c.in-Ok.ensures.bad c.in-Ok.ensures.read in
    on_ok_weaker c.keep.result
    (λ is. is ∙ kept j (read_event seen) c.on_egress.new.self c.got_of.result (c.got_of.ensures ∙ h.0) h.1 ∙ ap (λ (b : List ℕ). meets j (read_event b)) c.as_slice.ensures ∙ ap (λ (x : JoinedSeen). takes x c.args.sent.now) c.self.view_is)
    c.keep.ensures

pub returns-in-Err-Bad : goal.returns-in-Err-Bad
returns-in-Err-Bad c =
    let seen = c.as_slice.result.now in
    let j : JoinedSeen = record { number = c.self.inside.number; client = c.self.inside.client; given = c.self.inside.given; handed = c.self.inside.handed } in
    let bad = c.in-Err-Bad.field-0-0 in
    let h = passed seen c.self.inside.client c.on_egress.new.self bad ((c.on_egress.ensures.bad bad).0 cc) c.in-Err-Bad.ensures.err in
    hands_none j (read_event seen) c.on_egress.new.self h.0 h.1 ∙ ap (λ (b : List ℕ). meets j (read_event b)) c.as_slice.ensures ∙ ap (λ (x : JoinedSeen). takes x c.args.sent.now) c.self.view_is
