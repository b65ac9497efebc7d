use Rattle.std.proofs.Common.{◌≡◌, ◌∙◌, ◌≤◌, sym, ap, subst, arith, rules, ℤ, min, length, take, to_z, of_z, w64}
use Rattle.std.proofs.lemmas.Int.{ints}
use Rattle.entry_log.specs.Log.{last, IsPrefixOf, Log}
use Rattle.entry_log.specs.Shape.{Shape, ends_by, terms_to}
use Rattle.log_replication.specs.Replication.{IsKept, kept, answer_term, answer_end}
use Rattle.log_replication.proofs.Kept.{is_kept, kept_from-take, last_term_of-take}
use Rattle.log_replication.proofs.answers.keep_for.Goals as goal
use Rattle.log_replication.specs.Cuts.{keeps_common, keeps_matched}

pub returns-clause-kept : goal.returns-clause-kept
returns-clause-kept c =
    let xs = c.args.index.now in
    let u = c.args.u in
    let a = c.entries_through.result in
    let zu : to_z w64 (of_z w64 u) ≡ u = omega (arith, ints) in
    let prefix : terms_to u xs ≡ take a xs = subst (λ (t : ℤ). terms_to t xs ≡ take a xs) zu c.entries_through.ensures.prefix in
    let count : a ≡ length (terms_to u xs) = subst (λ (t : ℤ). a ≡ length (terms_to t xs)) zu c.entries_through.ensures.count in
    let n : c.min-entries.result ≡ min a (ends_by c.args.e xs) = c.min-entries.ensures ∙ ap (min a) c.entries_to.ensures.count in
    let within : ends_by c.args.e xs ≤ length xs = subst (λ k. k ≤ length xs) c.entries_to.ensures.count c.entries_to.ensures.within in
    subst (λ k. IsKept xs u c.args.e k) (sym n) (is_kept xs u c.args.e a c.entries_through.ensures.within prefix count within)

pub returns-clause-log : goal.returns-clause-log
returns-clause-log c =
    let xs = c.args.index.now in
    let u = c.args.u in
    let a = c.entries_through.result in
    let zu : to_z w64 (of_z w64 u) ≡ u = omega (arith, ints) in
    let count : a ≡ length (terms_to u xs) = subst (λ (t : ℤ). a ≡ length (terms_to t xs)) zu c.entries_through.ensures.count in
    let n : c.min-entries.result ≡ min (length (terms_to u xs)) (ends_by c.args.e xs) = c.min-entries.ensures ∙ ap (λ k. min k c.entries_to.result) count ∙ ap (min (length (terms_to u xs))) c.entries_to.ensures.count in
    λ log s.
    ap (λ k. take k log) n
    ∙ subst (λ (sh : Shape). take (min (length (terms_to u sh)) (ends_by c.args.e sh)) log ≡ kept u c.args.e log) s (kept_from-take 0 u c.args.e log)

pub returns-clause-log_matched : goal.returns-clause-log_matched
returns-clause-log_matched c =
    λ log s.
    let l : last (kept c.args.u c.args.e log) ≡ c.term_at.result = ap last (sym (returns-clause-log c log s)) ∙ sym (last_term_of-take log c.args.index.now c.min-entries.result s) ∙ sym c.term_at.ensures in
    rw l (search rules)

pub returns-clause-common : goal.returns-clause-common
returns-clause-common c =
    λ own leader common s a p q.
    let kept_common : IsPrefixOf common (kept (answer_term leader (last own)) (answer_end leader (last own)) own) = keeps_common own leader common a.own_written a.own_rises a.leader_rises a.leader_written p q in
    let same : kept (answer_term leader (last own)) (answer_end leader (last own)) own ≡ take c.min-entries.result own =
    ap (λ (t : ℤ). kept t (answer_end leader (last own)) own) (sym a.term) ∙ ap (λ e. kept c.args.u e own) (sym a.end) ∙ sym (returns-clause-log c own s) in
    subst (λ (l : Log). IsPrefixOf common l) same kept_common

pub returns-clause-no_more : goal.returns-clause-no_more
returns-clause-no_more c =
    λ reign own leader s a w ao al e.
    let same : kept (answer_term leader (last own)) (answer_end leader (last own)) own ≡ take c.min-entries.result own =
    ap (λ (t : ℤ). kept t (answer_end leader (last own)) own) (sym a.term) ∙ ap (λ p. kept c.args.u p own) (sym a.end) ∙ sym (returns-clause-log c own s) in
    subst (λ (l : Log). IsPrefixOf l leader) same
    (keeps_matched reign own leader a.own_written a.leader_rises a.leader_written w ao al (ap last same ∙ e ∙ a.term))
