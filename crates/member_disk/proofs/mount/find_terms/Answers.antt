use Rattle.std.specs.Prelude.{slice_get, Some}
use Rattle.std.proofs.Common.{◌≡◌, pos, get_or, rules}
use Rattle.recording_log.specs.Valid.{terms_of}
use Rattle.log_segment.specs.declared.kept.NewTerm.{NewTerm}
use Rattle.member_disk.specs.Changes.{term_at}
use Rattle.member_disk.proofs.Terms.{each_more}
use Rattle.member_disk.proofs.mount.find_terms.Goals as goal

abbrev zero_term : NewTerm
zero_term = record { entry = 0; term = pos 0; base = 0; stamp = pos 0 }

pub loop-new-preserved : goal.loop-new-preserved
loop-new-preserved c =
    let t = get_or c.args.terms.now c.loop-new.new-index zero_term in
    let here : slice_get (terms_of c.args.recording.now) c.in-Some.at ≡ Some (term_at (get_or c.args.terms.now c.loop-new.new-index zero_term)) = search rules in
    each_more c.args.recording.now c.args.terms.now c.loop-new.new-index zero_term c.loop-new-test.true (c.in-Some.at, here) c.loop-new.invariant
