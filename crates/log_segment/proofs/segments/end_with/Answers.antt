use Rattle.std.proofs.Common.{rules, sym, subst, arith}
use Rattle.log_segment.specs.Held.{IsEventEntry}
use Rattle.log_segment.proofs.HeldLemmas.{ranged}
use Rattle.log_segment.proofs.segments.end_with.Goals as goal

pub end_after-end-requires-clause-event_len : goal.end_after-end-requires-clause-event_len
end_after-end-requires-clause-event_len c =
    let e = c.entry-item.result in
    let event : IsEventEntry e = subst IsEventEntry (sym c.entry-item.is) (c.requires.events c.loop-entry.entry-index e (search rules)) in
    let most = (ranged e event).most in
    let is = c.len.ensures in
    omega (arith, is, most)
