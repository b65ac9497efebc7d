use Rattle.std.proofs.Common.{◌≡◌, Option, Result, Ok, sym, ◌∙◌, ap, subst}
use Rattle.log_segment.specs.Held.{new_term_of}
use Rattle.member_disk.proofs.NewTerms.{new_ranged}
use Rattle.cl_base.specs.Runs.{DiskLaws}
use Rattle.std.specs.Prelude.{OnOk}
use Rattle.cl_base.specs.declared.fault.MemberFault.{MemberFault}
use Rattle.log_segment.specs.declared.kept.NewTerm.{NewTerm}
use Rattle.member_disk.specs.Parts.{IsMade, made, wanted_parts}
use Rattle.member_disk.specs.CutWell.{no_file}
use Rattle.member_disk.proofs.Lists.{made_none}
use Rattle.member_disk.proofs.Sparing.{spares_none}
use Rattle.member_disk.proofs.durable.Durable.add_term_of.Given as given
use Rattle.member_disk.proofs.durable.Durable.add_term_of.Goals as goal

abbrev laws_of : (g : given.Over) → DiskLaws g.row.D.Denot
laws_of g = record {
  state = g.D.Disk.state;
  is_honest = g.D.Disk.is_honest;
  tells = g.D.Disk.tells;
  moment = g.D.Disk.moment;
  left_since = g.D.Disk.left_since;
  reads = g.met.D.Disk.reads_is_image;
  synced = g.met.D.Disk.synced_is_image;
  honest_tells = g.met.D.Disk.honest_tells;
  only_now = g.met.D.Disk.only_now;
}

pub add_term-requires-clause-range : goal.add_term-requires-clause-range
add_term-requires-clause-range g c = new_ranged c.args.entry.now 0 c.in-Some.new c.requires.event (ap (new_term_of 0) (sym c.as_slice.ensures) ∙ sym c.in-Some.ensures)

pub returns-in-Some-clause-makes : goal.returns-in-Some-clause-makes
returns-in-Some-clause-makes g c =
    let is = ap (new_term_of 0) (sym c.as_slice.ensures) ∙ sym c.in-Some.ensures in
    let kept = c.args.self.now in
    subst (λ (o : Option NewTerm). OnOk c.add_term.result (c.add_term.new.self ≡ made (wanted_parts kept o) kept)) (sym is) c.add_term.ensures.makes

pub returns-in-Some-clause-made : goal.returns-in-Some-clause-made
returns-in-Some-clause-made g c honest all =
    let is = ap (new_term_of 0) (sym c.as_slice.ensures) ∙ sym c.in-Some.ensures in
    let kept = c.args.self.now in
    subst (λ (o : Option NewTerm). IsMade g.D.Disk.state g.D.Disk.moment g.D.Disk.left_since (wanted_parts kept o) kept c.args.disk.now c.add_term.new.disk c.add_term.result) (sym is) (c.add_term.ensures.made honest all)

pub returns-in-None-clause-makes : goal.returns-in-None-clause-makes
returns-in-None-clause-makes g c =
    let is = ap (new_term_of 0) (sym c.as_slice.ensures) ∙ sym c.in-None.ensures in
    let kept = c.args.self.now in
    sym (ap (λ (o : Option NewTerm). made (wanted_parts kept o) kept) is)

pub returns-in-None-clause-made : goal.returns-in-None-clause-made
returns-in-None-clause-made g c honest all =
    let is = ap (new_term_of 0) (sym c.as_slice.ensures) ∙ sym c.in-None.ensures in
    let kept = c.args.self.now in
    let d0 = c.args.disk.now in
    let result : Result (Unit {0}) MemberFault = Ok tt in
    subst (λ (o : Option NewTerm). IsMade g.D.Disk.state g.D.Disk.moment g.D.Disk.left_since (wanted_parts kept o) kept d0 d0 result) (sym is) (made_none (laws_of g) (Unit {0}) tt kept d0 honest all)

pub returns-in-None-clause-spares : goal.returns-in-None-clause-spares
returns-in-None-clause-spares g c honest all = spares_none (laws_of g) no_file c.args.disk.now honest
