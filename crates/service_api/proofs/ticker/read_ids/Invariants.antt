use Rattle.std.proofs.Common.{◌≡◌, ◌+◌, ◌*◌, ℕ, length, None}
use Rattle.service_api.specs.Ticker.{pairs_at}
use Rattle.service_api.specs.TickerLaws.{HasRead}
use Rattle.service_api.proofs.ticker.read_ids.Given as goal

abbrev pub invariant-loop-i : goal.invariant-loop-i
invariant-loop-i l = (n : ℕ) × (l.count ≡ l.i + n) × HasRead (pairs_at l.count 4 None l.bytes) n (4 + 16 * l.i) l.last l.bytes l.ids.entries × (length l.ids.entries ≡ l.i)
