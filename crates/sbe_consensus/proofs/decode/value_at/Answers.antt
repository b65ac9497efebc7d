use Rattle.std.proofs.Common.{ap, arith}
use Rattle.wire_prims.specs.Strict.{rules_size}
use Rattle.sbe_consensus.specs.Templates.{rules_of}
use Rattle.sbe_consensus.proofs.Cut.{answer_size, sound_long}
use Rattle.sbe_consensus.proofs.decode.value_at.Goals as goal

pub canvass_at-requires : goal.canvass_at-requires
canvass_at-requires c = omega (arith, ap (λ t. rules_size (rules_of t)) c.in-Canvass.is, sound_long c.args.template c.args.bytes.now c.requires)

pub request_vote_at-requires : goal.request_vote_at-requires
request_vote_at-requires c = omega (arith, ap (λ t. rules_size (rules_of t)) c.in-RequestVote.is, sound_long c.args.template c.args.bytes.now c.requires)

pub vote_at-requires : goal.vote_at-requires
vote_at-requires c = omega (arith, ap (λ t. rules_size (rules_of t)) c.in-Vote.is, sound_long c.args.template c.args.bytes.now c.requires)

pub append_at-requires : goal.append_at-requires
append_at-requires c = omega (arith, ap (λ t. rules_size (rules_of t)) c.in-Append.is, sound_long c.args.template c.args.bytes.now c.requires)

pub commit_at-requires : goal.commit_at-requires
commit_at-requires c = omega (arith, ap (λ t. rules_size (rules_of t)) c.in-Commit.is, sound_long c.args.template c.args.bytes.now c.requires)

pub answer_at-requires : goal.answer_at-requires
answer_at-requires c = omega (arith, answer_size c.args.template c.in-Answer.is, sound_long c.args.template c.args.bytes.now c.requires)
