use Rattle.std.proofs.Common.{arith, ◌-◌, ◌^◌, take, get_or}
use Rattle.std.specs.Str.Parse.{digits_value}
use Rattle.std.specs.Char.{digit_value}
use Rattle.std.proofs.lemmas.Int.Digits.{digits_value_more}
use Rattle.plan.proofs.NumberLaws.{digit_at, saturated}
use Rattle.plan.proofs.number.digits_value.Goals as goal

pub value_of-requires : goal.value_of-requires
value_of-requires c = digit_at c.args.word.now c.loop-digit.digit-index (omega arith) c.requires

pub loop-digit-preserved : goal.loop-digit-preserved
loop-digit-preserved c =
    let i = c.loop-digit.digit-index in
    let word = c.args.word.now in
    let more = digits_value_more 10 word i (omega arith) in
    let step = saturated (2 ^ 64 - 1) (digits_value 10 (take i word)) c.loop-digit.value (digit_value (get_or word i 0)) c.loop-digit.invariant in
    cc
