use Rattle.std.proofs.Common.{◌≡◌, ◌∙◌, sym, ap, subst, arith, ℤ, take, to_z, of_z, w64}
use Rattle.std.proofs.lemmas.Int.{ints}
use Rattle.entry_log.specs.Shape.{last_term_of, end_of, terms_to}
use Rattle.log_replication.specs.Replication.{IsAnswer}
use Rattle.log_replication.proofs.Answered.{is_answer, answer_term-shape, answer_end-shape}
use Rattle.log_replication.proofs.answers.answer_canvass.Goals as goal

pub returns-clause-answer : goal.returns-clause-answer
returns-clause-answer c =
    let xs = c.args.index.now in
    let f = c.args.f in
    let n = c.entries_through-entries.result in
    let zf : to_z w64 (of_z w64 f) ≡ f = omega (arith, ints) in
    let zt : to_z w64 (of_z w64 c.term_at.result) ≡ c.term_at.result = omega (arith, ints) in
    let prefix : terms_to f xs ≡ take n xs = subst (λ (t : ℤ). terms_to t xs ≡ take n xs) zf c.entries_through-entries.ensures.prefix in
    let term : last_term_of (terms_to f xs) ≡ to_z w64 (of_z w64 c.term_at.result) = ap last_term_of prefix ∙ sym c.term_at.ensures ∙ sym zt in
    let end : end_of (terms_to f xs) ≡ c.end_at.result = ap end_of prefix ∙ sym c.end_at.ensures in
    subst (λ e. IsAnswer xs f (to_z w64 (of_z w64 c.term_at.result)) e) end (subst (λ (t : ℤ). IsAnswer xs f t (end_of (terms_to f xs))) term (is_answer f xs c.entries_through-entries.ensures.rises))

pub returns-clause-term : goal.returns-clause-term
returns-clause-term c =
    let xs = c.args.index.now in
    let f = c.args.f in
    let n = c.entries_through-entries.result in
    let zf : to_z w64 (of_z w64 f) ≡ f = omega (arith, ints) in
    let zt : to_z w64 (of_z w64 c.term_at.result) ≡ c.term_at.result = omega (arith, ints) in
    let prefix : terms_to f xs ≡ take n xs = subst (λ (t : ℤ). terms_to t xs ≡ take n xs) zf c.entries_through-entries.ensures.prefix in
    let term : last_term_of (terms_to f xs) ≡ to_z w64 (of_z w64 c.term_at.result) = ap last_term_of prefix ∙ sym c.term_at.ensures ∙ sym zt in
    let end : end_of (terms_to f xs) ≡ c.end_at.result = ap end_of prefix ∙ sym c.end_at.ensures in
    λ log e. sym term ∙ answer_term-shape f log xs e

pub returns-clause-end : goal.returns-clause-end
returns-clause-end c =
    let xs = c.args.index.now in
    let f = c.args.f in
    let n = c.entries_through-entries.result in
    let zf : to_z w64 (of_z w64 f) ≡ f = omega (arith, ints) in
    let zt : to_z w64 (of_z w64 c.term_at.result) ≡ c.term_at.result = omega (arith, ints) in
    let prefix : terms_to f xs ≡ take n xs = subst (λ (t : ℤ). terms_to t xs ≡ take n xs) zf c.entries_through-entries.ensures.prefix in
    let term : last_term_of (terms_to f xs) ≡ to_z w64 (of_z w64 c.term_at.result) = ap last_term_of prefix ∙ sym c.term_at.ensures ∙ sym zt in
    let end : end_of (terms_to f xs) ≡ c.end_at.result = ap end_of prefix ∙ sym c.end_at.ensures in
    λ log e. sym end ∙ answer_end-shape f log xs e
