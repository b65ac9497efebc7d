-- A data frame's own header is found right.
use Rattle.std.proofs.Common.{◌≡◌, ℕ, ◌+◌, ◌-◌, List, get_or, Result, Ok, false, true, sym, ◌∙◌, ap, subst, arith}
use Rattle.wire_prims.specs.Fields.{u32_at}
use Rattle.log_segment.specs.Found.{MayStand, data_header}
use Rattle.log_segment.specs.declared.scan.Head.{Head}
use Rattle.log_segment.specs.declared.scan.Head.TheVariants as heads
use Rattle.log_segment.specs.declared.scan.Turn.{Turn}
use Rattle.log_segment.proofs.HeadLemmas.{header_named, header_version, header_flags, wanted_header, may_small}
use Rattle.log_segment.proofs.scan.judge_data.Goals as goal

differ : true ≡ false → ⊥
differ is = cc

named : (turn : Turn) (flags carried p n : ℕ) (header : List ℕ) → MayStand turn flags carried → header ≡ data_header (32 + carried) flags p → n ≡ u32_at 0 header → n ≡ 32 + carried
named turn flags carried p n header may is at = at ∙ ap (u32_at 0) is ∙ header_named (32 + carried) flags p (let small = may_small turn flags carried may in omega (arith, small))

flagged : (flags carried p : ℕ) (header : List ℕ) → header ≡ data_header (32 + carried) flags p → get_or header 5 0 ≡ flags
flagged flags carried p header is = ap (λ l. get_or l 5 0) is ∙ header_flags (32 + carried) flags p

pub returns-then-not-fits_length-clause-exact : goal.returns-then-not-fits_length-clause-exact
returns-then-not-fits_length-clause-exact c flags carried may is =
    let f = flagged flags carried c.args.position c.args.header.now is in
    absurd (differ (sym (c.if-not-fits_length.ensures.complete carried (subst (λ k. MayStand c.args.turn k carried) (sym f) may) (named c.args.turn flags carried c.args.position c.get_u32-length.result c.args.header.now may is c.get_u32-length.ensures))))

pub returns-then-header-ne0-clause-exact : goal.returns-then-header-ne0-clause-exact
returns-then-header-ne0-clause-exact c flags carried may is = absurd (c.if-header-ne0.true (ap (λ l. get_or l 4 0) is ∙ header_version (32 + carried) flags c.args.position))

pub returns-then-not-fits_turn-clause-exact : goal.returns-then-not-fits_turn-clause-exact
returns-then-not-fits_turn-clause-exact c flags carried may is =
    let f = flagged flags carried c.args.position c.args.header.now is in
    absurd (differ (sym (c.if-not-fits_turn.ensures.complete carried (subst (λ k. MayStand c.args.turn k carried) (sym f) may))))

pub returns-then-wrong-lt32-clause-exact : goal.returns-then-wrong-lt32-clause-exact
returns-then-wrong-lt32-clause-exact c flags carried may is =
    let f = flagged flags carried c.args.position c.args.header.now is in
    let wrong = c.first_differing-wrong.result in
    let header = subst (λ k. c.args.header.now ≡ data_header (32 + carried) k c.args.position) (sym f) is in
    absurd (c.first_differing-wrong.ensures.differ c.if-wrong-lt32.true (ap (λ l. get_or l wrong 0) header ∙ wanted_header c.args.position (get_or c.args.header.now 5 0) (32 + carried) c.write_frame.new.out wrong c.write_frame.ensures c.first_differing-wrong.ensures.low))

abbrev found_data : ℕ → ℕ → Result Head ℕ
found_data flags carried = Ok (heads.Data flags carried)

pub returns-clause-exact : goal.returns-clause-exact
returns-clause-exact c flags carried may is =
    let f = flagged flags carried c.args.position c.args.header.now is in
    let n : c.from.result - 32 ≡ carried = omega (arith, c.from.ensures, named c.args.turn flags carried c.args.position c.get_u32-length.result c.args.header.now may is c.get_u32-length.ensures) in
    λ i. found_data (f i) (n i)
