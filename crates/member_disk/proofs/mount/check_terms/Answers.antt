use Rattle.std.proofs.Common.{List, subst}
use Rattle.log_segment.specs.declared.kept.NewTerm.{NewTerm}
use Rattle.member_disk.specs.Changes.{HaveTerms}
use Rattle.member_disk.proofs.Terms.{each_there}
use Rattle.member_disk.proofs.mount.check_terms.Goals as goal

pub returns-then-find_terms-clause-there : goal.returns-then-find_terms-clause-there
returns-then-find_terms-clause-there c = subst (λ (ts : List NewTerm). HaveTerms c.args.recording.now ts) c.terms.ensures (each_there c.args.recording.now c.terms.result.now (c.find_terms.ensures c.if-find_terms.true))
