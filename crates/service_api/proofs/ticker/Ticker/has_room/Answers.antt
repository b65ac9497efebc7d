use Rattle.std.proofs.Common.{◌≡◌, ◌||◌, false, length, is_some, ap, sym, ◌∙◌, arith}
use Rattle.std.specs.Prelude.{nat_lt}
use Rattle.std.proofs.lemmas.Bool.Decides.{nat_tests}
use Rattle.std.proofs.lemmas.Int.{to_z-of_z}
use Rattle.service_api.specs.Ticker.{session_of}
use Rattle.service_api.proofs.ticker.Ticker.has_room.Goals as goal

pub returns-else-len-lt-IDS_LIMIT : goal.returns-else-len-lt-IDS_LIMIT
returns-else-len-lt-IDS_LIMIT c =
    let len = c.len.ensures.len in
    let view = ap length c.self.view_is in
    let over = c.if-len-lt-IDS_LIMIT.false in
    let full : nat_lt (length c.args.self.now) 4096 ≡ false = grind (arith, nat_tests) in
    let fits = c.ranges.id in
    c.is_some.ensures ∙ ap is_some (simp to_z-of_z at c.session_of.ensures) ∙ ap (λ b. b || is_some (session_of c.args.self.now c.args.id)) (sym full)
