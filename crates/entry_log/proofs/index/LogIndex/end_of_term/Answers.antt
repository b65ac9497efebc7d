use Rattle.std.proofs.Common.{sym, ap, subst, ◌≡◌, ◌≢◌, ◌∙◌, ℤ, negsuc, take, arith, to_z, of_z, w64}
use Rattle.std.proofs.lemmas.Int.{ints}
use Rattle.entry_log.specs.Shape.{last_term_of, end_of, terms_to}
use Rattle.entry_log.specs.TermLaws.{up_to_last_of-terms_to, end_of_term-none}
use Rattle.entry_log.proofs.index.LogIndex.end_of_term.Goals as goal

pub returns-then-term_at-term : goal.returns-then-term_at-term
returns-then-term_at-term c =
    let xs = c.args.self.now in
    let u = c.args.term in
    let n = c.entries_through-entries.result in
    let z : to_z w64 (of_z w64 u) ≡ u = omega (arith, ints) in
    let prefix : terms_to u xs ≡ take n xs = subst (λ (t : ℤ). terms_to t xs ≡ take n xs) z c.entries_through-entries.ensures.prefix in
    let same : c.term_at.result ≡ u = let t = c.if-term_at-term.true in omega (arith, ints, t) in
    let last : last_term_of (terms_to u xs) ≡ u = ap last_term_of prefix ∙ sym c.term_at.ensures ∙ same in
    c.end_at.ensures ∙ ap end_of (sym prefix) ∙ ap end_of (sym (up_to_last_of-terms_to u (negsuc 0) xs c.entries_through-entries.ensures.rises last))

pub returns-else-term_at-term : goal.returns-else-term_at-term
returns-else-term_at-term c =
    let xs = c.args.self.now in
    let u = c.args.term in
    let n = c.entries_through-entries.result in
    let z : to_z w64 (of_z w64 u) ≡ u = omega (arith, ints) in
    let prefix : terms_to u xs ≡ take n xs = subst (λ (t : ℤ). terms_to t xs ≡ take n xs) z c.entries_through-entries.ensures.prefix in
    let other : last_term_of (terms_to u xs) ≢ u = λ e. c.if-term_at-term.false (ap (of_z w64) (c.term_at.ensures ∙ ap last_term_of (sym prefix) ∙ e)) in
    sym (end_of_term-none u xs c.entries_through-entries.ensures.rises other)
