use Rattle.std.proofs.Common.{Some, sym, ◌∙◌, ap, arith, get_or}
use Rattle.std.proofs.lemmas.Option.{slice_get_within}
use Rattle.recording_log.proofs.ListLemmas.{item_there}
use Rattle.recording_log.proofs.SetLemmas.{zero_entry}
use Rattle.recording_log.proofs.SameLemmas.{same_entry, none_further}
use Rattle.recording_log.proofs.list.holds.Goals as goal

pub returns-then-eq-clause-there : goal.returns-then-eq-clause-there
returns-then-eq-clause-there c is =
    let entries = c.args.entries.now in
    let i = c.loop-i.i in
    (i, item_there entries i c.loop-i-test.true ∙ ap Some (same_entry (get_or entries i zero_entry) c.args.entry (sym c.if-eq.ensures)))

pub loop-i-preserved : goal.loop-i-preserved
loop-i-preserved c = none_further c.args.entries.now c.args.entry c.loop-i.i c.loop-i.invariant (sym c.if-eq.ensures)

pub returns-clause-nowhere : goal.returns-clause-nowhere
returns-clause-nowhere c is there = let within = slice_get_within c.args.entries.now there.0 c.args.entry there.1 in c.loop-i.invariant there.0 (omega arith) there.1
