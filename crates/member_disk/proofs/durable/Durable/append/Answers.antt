-- The TERM entries that a batch wants, and then the batch.
use Rattle.std.specs.Prelude.{OnOk}
use Rattle.std.proofs.Common.{◌≡◌, ℕ, ⊎_elim, ◌++◌, Err, IsTrue, sym, ◌∙◌, ap, subst}
use Rattle.cl_base.specs.Runs.{DiskLaws}
use Rattle.cl_base.specs.declared.fault.MemberFault.{MemberFault}
use Rattle.cl_base.specs.declared.fault.MemberFault.TheVariants.{Device, NoMemory, LogFull}
use Rattle.entry_log.specs.Log.{Log, place}
use Rattle.member_disk.specs.Kept.{Kept, EachStands}
use Rattle.member_disk.specs.Parts.{IsMade, made, append_parts}
use Rattle.member_disk.specs.CutWell.{no_file}
use Rattle.member_disk.proofs.Compose.{on_ok}
use Rattle.member_disk.proofs.Lists.{not_begun}
use Rattle.member_disk.proofs.TermRuns.{standing}
use Rattle.member_disk.proofs.AppendMade.{append_made, append_makes, append_early}
use Rattle.member_disk.proofs.AppendParts.{append_cut_well}
use Rattle.member_disk.proofs.Sparing.{spares_none, spares_log, spares_after}
use Rattle.member_disk.proofs.durable.Durable.append.Given as given
use Rattle.member_disk.proofs.durable.Durable.append.Goals as goal

abbrev laws_of : (g : given.Over) → DiskLaws g.row.D.Denot
laws_of g = record {
  state = g.D.Disk.state;
  is_honest = g.D.Disk.is_honest;
  tells = g.D.Disk.tells;
  moment = g.D.Disk.moment;
  left_since = g.D.Disk.left_since;
  reads = g.met.D.Disk.reads_is_image;
  synced = g.met.D.Disk.synced_is_image;
  honest_tells = g.met.D.Disk.honest_tells;
  only_now = g.met.D.Disk.only_now;
}

pub returns-in-Ok-add_terms-clause-makes : goal.returns-in-Ok-add_terms-clause-makes
returns-in-Ok-add_terms-clause-makes g c =
    let ready : Kept = record { node = c.self-in-Ok.inside.node; entries = c.self-in-Ok.inside.recording; log = c.self-in-Ok.inside.log; services = c.self-in-Ok.inside.services } in
    let after : Kept = record ready { log = c.publish.new.self } in
    let is = c.self-in-Ok.view_is ∙ c.in-Ok-add_terms.ensures.makes in
    on_ok (Unit {0}) MemberFault _ _ c.publish.result
    (λ now. append_makes c.args.self.now ready after c.args.entries.now is (ap (λ (l : Log). let k : Kept = record ready { log = l } in k) now)) c.publish.ensures.ok

pub returns-in-Ok-add_terms-clause-made : goal.returns-in-Ok-add_terms-clause-made
returns-in-Ok-add_terms-clause-made g c honest all =
    let ready : Kept = record { node = c.self-in-Ok.inside.node; entries = c.self-in-Ok.inside.recording; log = c.self-in-Ok.inside.log; services = c.self-in-Ok.inside.services } in
    let d1 = c.add_terms.new.disk in
    let is = c.self-in-Ok.view_is ∙ c.in-Ok-add_terms.ensures.makes in
    let honest1 = subst IsTrue (sym c.add_terms.ensures.honest) honest in
    append_made (laws_of g) c.args.self.now ready c.args.entries.now c.args.disk.now d1 c.publish.new.disk c.publish.result is (c.in-Ok-add_terms.ensures.made honest all) honest1
    (c.publish.ensures.others (g.met.D.Disk.honest_tells d1 honest1)) (c.publish.ensures.done honest1) (c.publish.ensures.each honest1) (c.publish.ensures.cut_well honest1) (c.publish.ensures.apart honest1) (c.publish.ensures.fuse honest1)

pub returns-in-Ok-add_terms-clause-spares : goal.returns-in-Ok-add_terms-clause-spares
returns-in-Ok-add_terms-clause-spares g c honest all =
    let d1 = c.add_terms.new.disk in
    let d2 = c.publish.new.disk in
    let honest1 = subst IsTrue (sym c.add_terms.ensures.honest) honest in
    spares_after (laws_of g) no_file c.args.disk.now d1 d2 (c.add_terms.ensures.spares honest all)
    (spares_log (laws_of g) no_file d1 d2 (c.publish.ensures.others (g.met.D.Disk.honest_tells d1 honest1)) (c.publish.ensures.apart honest1))

pub returns-in-Ok-clause-made : goal.returns-in-Ok-clause-made
returns-in-Ok-clause-made g c honest all = append_early (laws_of g) c.args.self.now c.args.entries.now c.args.disk.now c.add_terms.new.disk c.in-Err-add_terms.fault (c.in-Err-add_terms.ensures.made honest all)

pub returns-clause-made : goal.returns-clause-made
returns-clause-made g c honest all =
    not_begun (laws_of g) (Unit {0}) (append_parts c.args.self.now c.args.entries.now) c.args.self.now c.args.disk.now honest all c.in-Err.fault
    (λ is. ⊎_elim (λ none. not_memory c.in-Err.fault none is) (λ full. not_full c.in-Err.fault _ full.0 is) c.in-Err.ensures.err)
  where
    not_memory : (e : MemberFault) → e ≡ NoMemory → e ≡ Device → ⊥
    not_memory e a b = absurd (cc)

    not_full : (e : MemberFault) (p : ℕ) → e ≡ LogFull p → e ≡ Device → ⊥
    not_full e p a b = absurd (cc)

pub returns-in-Ok-add_terms-clause-cut_well : goal.returns-in-Ok-add_terms-clause-cut_well
returns-in-Ok-add_terms-clause-cut_well g c honest all terms =
    append_cut_well g.D.Disk.state g.D.Disk.moment g.D.Disk.left_since (Unit {0}) no_file c.args.self.now c.args.entries.now c.args.disk.now c.publish.new.disk c.publish.result c.requires.events terms
    (returns-in-Ok-add_terms-clause-made g c honest all) (returns-in-Ok-add_terms-clause-spares g c honest all)

pub returns-in-Ok-clause-cut_well : goal.returns-in-Ok-clause-cut_well
returns-in-Ok-clause-cut_well g c honest all terms =
    append_cut_well g.D.Disk.state g.D.Disk.moment g.D.Disk.left_since (Unit {0}) no_file c.args.self.now c.args.entries.now c.args.disk.now c.add_terms.new.disk (Err c.in-Err-add_terms.fault) c.requires.events terms
    (returns-in-Ok-clause-made g c honest all) (c.add_terms.ensures.spares honest all)

pub returns-clause-cut_well : goal.returns-clause-cut_well
returns-clause-cut_well g c honest all terms =
    append_cut_well g.D.Disk.state g.D.Disk.moment g.D.Disk.left_since (Unit {0}) no_file c.args.self.now c.args.entries.now c.args.disk.now c.args.disk.now (Err c.in-Err.fault) c.requires.events terms
    (returns-clause-made g c honest all) (spares_none (laws_of g) no_file c.args.disk.now honest)
