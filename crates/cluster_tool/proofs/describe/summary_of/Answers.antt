use Rattle.std.proofs.Common.{◌≡◌, length, to_z, of_z, w64, ap, ◌∙◌, arith}
use Rattle.std.proofs.lemmas.Int.{ints}
use Rattle.std.proofs.lemmas.List.{length-map}
use Rattle.entry_log.specs.Log.{place}
use Rattle.entry_log.specs.Shape.{entry_shape, end_of, end_from-shape_of}
use Rattle.cluster_tool.proofs.describe.summary_of.Goals as goal

pub returns : goal.returns
returns c =
    let log = c.args.durable.now.log in
    let plain : to_z w64 (of_z w64 c.candidate_term-candidate.result) ≡ c.candidate_term-candidate.result = omega (arith, ints) in
    let candidate = plain ∙ c.candidate_term-candidate.ensures.value in
    let entries : c.entries-entries.result ≡ length log = c.entries-entries.ensures.count ∙ ap length c.index-index.ensures.index ∙ length-map log entry_shape in
    let ends : c.place-place.result ≡ place log = c.place-place.ensures ∙ ap end_of c.index-index.ensures.index ∙ end_from-shape_of 0 log in
    λ i. record { candidate = candidate i; entries = entries i; place = ends i; terms = c.args.terms; sets = c.args.sets }
