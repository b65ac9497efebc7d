-- The three exits.
use Rattle.std.proofs.Common.{◌≡◌, true, false, sym, ◌∙◌}
use Rattle.recording_log.proofs.SetLemmas.{stays_behind, stays_out, takes_over}
use Rattle.recording_log.proofs.sets.latest_from.Goals as goal

pub returns-then-is_behind : goal.returns-then-is_behind
returns-then-is_behind c = stays_behind c.args.services c.args.entries.now c.args.i c.requires.here c.args.latest c.requires.so_far (c.is_behind.ensures.yes c.if-is_behind.true)

pub returns-then-is_candidate : goal.returns-then-is_candidate
returns-then-is_candidate c = takes_over c.args.services c.args.entries.now c.args.i c.requires.here c.args.latest c.requires.so_far ((c.is_candidate.ensures.candidate c.args.entries.now c.requires.tells).0 c.if-is_candidate.true) (c.is_behind.ensures.no c.if-is_behind.false)

pub returns : goal.returns
returns c = stays_out c.args.services c.args.entries.now c.args.i c.requires.here c.args.latest c.requires.so_far
    (λ candidate. let is : c.is_candidate.result ≡ true = (c.is_candidate.ensures.candidate c.args.entries.now c.requires.tells).1 candidate in let clash : true ≡ false = sym is ∙ c.if-is_candidate.false in absurd (cc))
