use Rattle.std.proofs.Common.{rules, of_z, w64, sym, ◌∙◌, ap}
use Rattle.cl_base.specs.declared.entry.Entry.{Entry}
use Rattle.log_segment.proofs.EntryLemmas.{no_damage}
use Rattle.log_segment.proofs.entries.read_known.Goals as goal

pub returns-in-Err-clause-exact : goal.returns-in-Err-clause-exact
returns-in-Err-clause-exact g c told log kept e next is here len term = no_damage _ c.in-Err.fault (c.in-Err.ensures.sound told log kept e next here len)

pub returns-in_err-entry-in-Ok-clause-exact : goal.returns-in_err-entry-in-Ok-clause-exact
returns-in_err-entry-in-Ok-clause-exact g c told log kept e next is here len term = let quiet = c.in_err-entry-in-Ok.ensures.exact e is (sym (c.in-Ok.ensures.exact told log kept e next here len)) in search (rules, quiet)

pub returns-else-entry-term-clause-exact : goal.returns-else-entry-term-clause-exact
returns-else-entry-term-clause-exact g c told log kept e next is here len term = c.in_ok-entry-in-Ok.ensures.exact e is (sym (c.in-Ok.ensures.exact told log kept e next here len))

pub returns-then-entry-term-clause-exact : goal.returns-then-entry-term-clause-exact
returns-then-entry-term-clause-exact g c told log kept e next is here len term =
    let same = c.in_ok-entry-in-Ok.ensures.exact e is (sym (c.in-Ok.ensures.exact told log kept e next here len)) in
    absurd (c.if-entry-term.true (ap (of_z w64) (ap (λ (x : Entry). x.term) same ∙ sym term)))
