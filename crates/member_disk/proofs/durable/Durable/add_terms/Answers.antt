use Rattle.std.proofs.Common.{◌≡◌, ◌+◌, ◌++◌, [], ◌∷◌, take, Result, Ok, Err, IsTrue, sym, ◌∙◌, ap, subst, arith}
use Rattle.std.proofs.lemmas.List.{take_more, take_all}
use Rattle.cl_base.specs.declared.entry.Entry.{Entry}
use Rattle.entry_log.specs.Log.{Log}
use Rattle.log_segment.specs.Held.{IsEventEntry, new_terms}
use Rattle.member_disk.specs.Changes.{HaveTerms}
use Rattle.member_disk.proofs.Grown.{terms_more}
use Rattle.member_disk.proofs.Terms.{terms_stay, terms_push}
use Rattle.cl_base.specs.Runs.{DiskLaws}
use Rattle.cl_base.specs.declared.fault.MemberFault.{MemberFault}
use Rattle.member_disk.specs.Parts.{IsMade, made, term_parts}
use Rattle.member_disk.specs.CutWell.{no_file}
use Rattle.member_disk.proofs.Lists.{made_none}
use Rattle.member_disk.proofs.Sparing.{spares_none, spares_after}
use Rattle.member_disk.proofs.TermRuns.{standing, entry_makes, entry_made, early_terms}
use Rattle.member_disk.proofs.durable.Durable.add_terms.Given as given
use Rattle.member_disk.proofs.durable.Durable.add_terms.Goals as goal

abbrev laws_of : (g : given.Over) → DiskLaws g.row.D.Denot
laws_of g = record {
  state = g.D.Disk.state;
  is_honest = g.D.Disk.is_honest;
  tells = g.D.Disk.tells;
  moment = g.D.Disk.moment;
  left_since = g.D.Disk.left_since;
  reads = g.met.D.Disk.reads_is_image;
  synced = g.met.D.Disk.synced_is_image;
  honest_tells = g.met.D.Disk.honest_tells;
  only_now = g.met.D.Disk.only_now;
}

pub add_term_of-requires-clause-event : goal.add_term_of-requires-clause-event
add_term_of-requires-clause-event g c = subst IsEventEntry (sym c.entry-item.is) (c.requires.events c.loop-entry.entry-index c.entry-item.result c.loop-entry-test.true)

pub add_term_of-requires-clause-stands : goal.add_term_of-requires-clause-stands
add_term_of-requires-clause-stands g c told = c.loop-entry.invariant.stands (subst IsTrue c.loop-entry.invariant.tells told)

pub returns-in-Err-clause-more : goal.returns-in-Err-clause-more
returns-in-Err-clause-more g c = terms_more c.args.self.now c.loop-entry.self c.add_term_of.new.self c.loop-entry.invariant.more c.add_term_of.ensures.more

pub loop-entry-preserved : goal.loop-entry-preserved
loop-entry-preserved g c =
    let inv = c.loop-entry.invariant in
    let xs = c.args.entries.now in
    let i = c.loop-entry.entry-index in
    let e = c.entry-item.result in
    let kept = c.args.self.now in
    let more : take (i + 1) xs ≡ take i xs ++ e ∷ [] = take_more xs i e c.loop-entry-test.true ∙ ap (λ (x : Entry). take i xs ++ x ∷ []) (sym c.entry-item.is) in
    let next_makes : c.add_term_of.new.self ≡ made (term_parts kept (take (i + 1) xs)) kept = entry_makes kept c.loop-entry.self c.add_term_of.new.self xs i e more inv.makes c.in-Ok.ensures.makes in
    record {
      cause = omega (arith, c.add_term_of.ensures.cause.later);
      tells = c.add_term_of.ensures.tells ∙ inv.tells;
      honest = c.add_term_of.ensures.honest ∙ inv.honest;
      stands = λ told. c.in-Ok.ensures.stands (subst IsTrue (sym inv.tells) told);
      more = terms_more c.args.self.now c.loop-entry.self c.add_term_of.new.self inv.more c.add_term_of.ensures.more;
      makes = next_makes;
      made = λ honest all.
          let honest1 = subst IsTrue (sym inv.honest) honest in
          let now = standing (laws_of g) kept c.loop-entry.self (take i xs) c.args.disk.now c.loop-entry.disk inv.makes (inv.made honest all) in
          entry_made (laws_of g) kept c.loop-entry.self xs i e c.args.disk.now c.loop-entry.disk c.add_term_of.new.disk (Ok tt) more inv.makes (inv.made honest all) (c.in-Ok.ensures.made honest1 now);
      spares = λ honest all.
          let honest1 = subst IsTrue (sym inv.honest) honest in
          let now = standing (laws_of g) c.args.self.now c.loop-entry.self (take c.loop-entry.entry-index c.args.entries.now) c.args.disk.now c.loop-entry.disk inv.makes (inv.made honest all) in
          spares_after (laws_of g) no_file c.args.disk.now c.loop-entry.disk c.add_term_of.new.disk (inv.spares honest all) (c.add_term_of.ensures.spares honest1 now);
      there =
          let xs = c.args.entries.now in
          let i = c.loop-entry.entry-index in
          let e = c.entry-item.result in
          let stay = terms_stay c.loop-entry.self.entries c.add_term_of.new.self.entries (new_terms 0 (take i xs)) c.add_term_of.ensures.more.entries inv.there in
          let next : take (i + 1) xs ≡ take i xs ++ e ∷ [] = take_more xs i e c.loop-entry-test.true ∙ ap (λ (x : Entry). take i xs ++ x ∷ []) (sym c.entry-item.is) in
          subst (λ (l : Log). HaveTerms c.add_term_of.new.self.entries (new_terms 0 l)) (sym next) (terms_push c.add_term_of.new.self.entries 0 (take i xs) e stay c.in-Ok.ensures.there);
    }

pub returns-clause-there : goal.returns-clause-there
returns-clause-there g c =
    let all = take_all c.loop-entry.entry-index c.args.entries.now (omega arith) in
    subst (λ (l : Log). HaveTerms c.loop-entry.self.entries (new_terms 0 l)) all c.loop-entry.invariant.there

pub returns-clause-makes : goal.returns-clause-makes
returns-clause-makes g c =
    let all = take_all c.loop-entry.entry-index c.args.entries.now (omega arith) in
    subst (λ (l : Log). c.loop-entry.self ≡ made (term_parts c.args.self.now l) c.args.self.now) all c.loop-entry.invariant.makes

pub returns-clause-made : goal.returns-clause-made
returns-clause-made g c honest each =
    let all = take_all c.loop-entry.entry-index c.args.entries.now (omega arith) in
    let result : Result (Unit {0}) MemberFault = Ok tt in
    subst (λ (l : Log). IsMade g.D.Disk.state g.D.Disk.moment g.D.Disk.left_since (term_parts c.args.self.now l) c.args.self.now c.args.disk.now c.loop-entry.disk result) all (c.loop-entry.invariant.made honest each)

pub returns-in-Err-clause-spares : goal.returns-in-Err-clause-spares
returns-in-Err-clause-spares g c honest all =
    let inv = c.loop-entry.invariant in
    let honest1 = subst IsTrue (sym inv.honest) honest in
    let now = standing (laws_of g) c.args.self.now c.loop-entry.self (take c.loop-entry.entry-index c.args.entries.now) c.args.disk.now c.loop-entry.disk inv.makes (inv.made honest all) in
    spares_after (laws_of g) no_file c.args.disk.now c.loop-entry.disk c.add_term_of.new.disk (inv.spares honest all) (c.add_term_of.ensures.spares honest1 now)

pub returns-in-Err-clause-made : goal.returns-in-Err-clause-made
returns-in-Err-clause-made g c honest all =
    let inv = c.loop-entry.invariant in
    let xs = c.args.entries.now in
    let i = c.loop-entry.entry-index in
    let e = c.entry-item.result in
    let kept = c.args.self.now in
    let more : take (i + 1) xs ≡ take i xs ++ e ∷ [] = take_more xs i e c.loop-entry-test.true ∙ ap (λ (x : Entry). take i xs ++ x ∷ []) (sym c.entry-item.is) in
    let honest1 = subst IsTrue (sym inv.honest) honest in
    let now = standing (laws_of g) kept c.loop-entry.self (take i xs) c.args.disk.now c.loop-entry.disk inv.makes (inv.made honest all) in
    early_terms (laws_of g) kept xs (i + 1) c.args.disk.now c.add_term_of.new.disk c.in-Err.fault
    (entry_made (laws_of g) kept c.loop-entry.self xs i e c.args.disk.now c.loop-entry.disk c.add_term_of.new.disk (Err c.in-Err.fault) more inv.makes (inv.made honest all) (c.in-Err.ensures.made honest1 now))
