-- The module's entry, and its set.
use Rattle.recording_log.proofs.sets.is_candidate.Goals as goal

pub returns-then-is_part-clause-candidate : goal.returns-then-is_part-clause-candidate
returns-then-is_part-clause-candidate c entries tells =
    let part = c.is_part.ensures.0 c.if-is_part.true in
    (λ is. (part, (c.has_set.ensures entries tells).0 is), λ candidate. (c.has_set.ensures entries tells).1 candidate.1)
