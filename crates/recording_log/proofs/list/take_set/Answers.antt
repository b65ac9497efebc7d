use Rattle.std.proofs.lemmas.Bool.{iff_false}
use Rattle.recording_log.proofs.ListLemmas.{these_same, these_more}
use Rattle.recording_log.proofs.list.take_set.Goals as goal

pub returns-then-is_candidate-clause-taken : goal.returns-then-is_candidate-clause-taken
returns-then-is_candidate-clause-taken c entries i tells at these =
    let candidate = (c.is_candidate.ensures.candidate entries tells).0 c.if-is_candidate.true in
    let named = c.as_snapshot.ensures in
    these_more c.args.services entries c.args.sets.now.items c.put_set.new.sets.items c.as_snapshot.result i c.args.entry c.put_set.ensures.put these at candidate named.term named.position named.named named.low named.high

pub returns-else-is_candidate-clause-taken : goal.returns-else-is_candidate-clause-taken
returns-else-is_candidate-clause-taken c entries i tells at these =
    these_same c.args.services entries c.args.sets.now.items i c.args.entry these at (iff_false (c.is_candidate.ensures.candidate entries tells) c.if-is_candidate.false)
