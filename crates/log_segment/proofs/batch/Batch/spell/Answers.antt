-- The limits of a batch are those of its frames.
use Rattle.std.proofs.Common.{rules, ◌≡◌, ◌+◌, ◌%◌, ◌<◌, ◌≤◌, ◌==◌, length, refl, sym, ◌∙◌, ap, subst, arith}
use Rattle.log_segment.specs.Segment.{begin_at}
use Rattle.log_segment.specs.Batch.{first_begin, frames_of}
use Rattle.log_segment.proofs.HeldLemmas.{ranged, place_up}
use Rattle.log_segment.proofs.TogetherLemmas.{first_small, begin_aligned}
use Rattle.log_segment.proofs.SpelledLemmas.{begin_low, begin_within, spelled}
use Rattle.log_segment.proofs.batch.Batch.spell.Goals as goal

pub begin_of-begin-requires-clause-small : goal.begin_of-begin-requires-clause-small
begin_of-begin-requires-clause-small c = let small = first_small c.args.entries.now c.requires.events in let is = c.requires.first in omega (arith, is, small)

pub begin_of-begin-requires-clause-place : goal.begin_of-begin-requires-clause-place
begin_of-begin-requires-clause-place c = let up = place_up c.args.place c.args.entries.now in let room = c.requires.room in omega (arith, up, room)

pub spell_batch-requires-clause-some : goal.spell_batch-requires-clause-some
spell_batch-requires-clause-some c = λ k d below. let least = (ranged _ (c.requires.events k d below)).least in omega (arith, least)

pub spell_batch-requires-clause-small : goal.spell_batch-requires-clause-small
spell_batch-requires-clause-small c = λ k d below. let most = (ranged _ (c.requires.events k d below)).most in omega (arith, most)

pub spell_batch-requires-clause-place : goal.spell_batch-requires-clause-place
spell_batch-requires-clause-place c = subst (λ k. k % 32 ≡ 0) (sym c.begin_of-begin.ensures) (begin_aligned c.args.place c.args.first c.requires.place)

pub spell_batch-requires-clause-below : goal.spell_batch-requires-clause-below
spell_batch-requires-clause-below c =
    let begin : c.begin_of-begin.result ≡ first_begin c.args.place c.args.entries.now = c.begin_of-begin.ensures ∙ ap (λ n. begin_at c.args.place n) c.requires.first in
    subst (λ k. k < 16777216) (sym begin) (begin_low c.args.place c.args.entries.now c.requires.batch c.requires.events c.requires.room)

pub spell_batch-requires-clause-within : goal.spell_batch-requires-clause-within
spell_batch-requires-clause-within c =
    let begin : c.begin_of-begin.result ≡ first_begin c.args.place c.args.entries.now = c.begin_of-begin.ensures ∙ ap (λ n. begin_at c.args.place n) c.requires.first in
    subst (λ k. k % 65536 + frames_of c.args.entries.now ≤ 65536) (sym begin) (begin_within c.args.place c.args.entries.now c.requires.batch c.requires.events)

pub returns : goal.returns
returns c =
    let begin : c.begin_of-begin.result ≡ first_begin c.args.place c.args.entries.now = c.begin_of-begin.ensures ∙ ap (λ n. begin_at c.args.place n) c.requires.first in
    let len : c.len.result ≡ length c.in_ok-bytes.bytes.items = search rules in
    let ends = ap (λ k. c.begin_of-begin.result % 65536 + k == 65536) len in
    spelled c.args.place c.args.entries.now c.requires.batch c.requires.events (record { place = c.args.place; begin = c.begin_of-begin.result; bytes = c.close.new.bytes; fills = c.begin_of-begin.result % 65536 + c.len.result == 65536 }) c.in_ok-bytes.bytes.items c.requires.place c.requires.room refl begin
    c.in_ok-bytes.ensures.spells c.in_ok-bytes.ensures.size c.in_ok-close.ensures ends
