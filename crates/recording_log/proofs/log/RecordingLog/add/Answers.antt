-- Each exit of an addition.
use Rattle.std.proofs.Common.{◌≡◌, ◌++◌, [], ◌∷◌, List, length, sym, ◌∙◌, subst, ap, arith, rules, length-append}
use Rattle.cl_base.specs.Disk.{FileState}
use Rattle.recording_log.specs.declared.entry.RecEntry.{RecEntry}
use Rattle.recording_log.specs.Entries.{Holds}
use Rattle.recording_log.specs.Valid.{terms_of}
use Rattle.recording_log.specs.Steps.{IsAddition, AddLeft, added}
use Rattle.recording_log.specs.Parts.{Tells, TellsWith, part_of}
use Rattle.cl_base.specs.EveryRun.{every_settled}
use Rattle.recording_log.proofs.HoldLemmas.{added_holds}
use Rattle.recording_log.proofs.MountLemmas.{terms_more}
use Rattle.recording_log.proofs.PartLemmas.{with_last, on_ok, on_err}
use Rattle.cl_base.specs.Fuse.{fuse_of_member}
use Rattle.recording_log.proofs.log.RecordingLog.add.Goals as goal

pub invariant_of-self-in-Ok : goal.invariant_of-self-in-Ok
invariant_of-self-in-Ok g c =
    let old = c.self.inside.entries.items in
    let e = c.args.entry in
    let items : c.put_entry.new.entries.items ≡ old ++ e ∷ [] = c.put_entry.ensures.entries ∙ ap (λ (l : List RecEntry). l ++ e ∷ []) c.make_room.ensures.entries in (
      omega (arith, ap length items, length-append old (e ∷ []), c.in-Some.ensures.place.1),
      c.put_entry.ensures.terms ∙ ap (λ l. l ++ terms_of (e ∷ [])) (c.make_room.ensures.terms ∙ c.self.invariant.1) ∙ sym (ap terms_of items ∙ terms_more old e),
      subst (Tells c.take_in.new.self) (sym items)
          (on_ok c.take_in.result (Tells c.take_in.new.self (old ++ e ∷ [])) (sym c.is_err.ensures.value ∙ c.if-is_err.false) (c.take_in.ensures.ok old c.self.invariant.2)),
    )

pub invariant_of-self-then-is_err : goal.invariant_of-self-then-is_err
invariant_of-self-then-is_err g c =
    let old = c.self.inside.entries.items in
    let entries = c.make_room.ensures.entries in (
      omega (arith, ap length entries, c.self.invariant.0),
      c.make_room.ensures.terms ∙ c.self.invariant.1 ∙ sym (ap terms_of entries),
      subst (Tells c.take_in.new.self) (sym entries) (on_err c.take_in.result (Tells c.take_in.new.self old) (sym c.is_err.ensures.value ∙ c.if-is_err.true) (c.take_in.ensures.err old c.self.invariant.2)),
    )

pub let_go-requires : goal.let_go-requires
let_go-requires g c =
    let old = c.self.inside.entries.items in
    let e = c.args.entry in
    let tells = on_ok c.take_in.result (Tells c.take_in.new.self (old ++ e ∷ [])) (sym c.is_err.ensures.value ∙ c.if-is_err.false) (c.take_in.ensures.ok old c.self.invariant.2) in
    subst (TellsWith (part_of e) c.take_in.new.self) (sym (c.deref.ensures.value ∙ c.make_room.ensures.entries)) (with_last c.take_in.new.self old e tells)

pub returns-in-Ok-clause-mounted : goal.returns-in-Ok-clause-mounted
returns-in-Ok-clause-mounted g c told =
    let now = c.args.self.now in
    let at = c.in-Some.at in
    let size : length c.bytes.result ≡ 63 = search rules in
    let is : IsAddition at c.bytes.result now c.args.entry = record {
      place = omega (arith, c.in-Some.ensures.place.0, ap length c.self.view_is);
      size = size;
      spells = c.bytes.ensures;
    } in
    let reads = ((g.D.Disk.state c.args.disk.now).files 1).reads in
    let ch = c.in-Ok.ensures.done told in
    subst (Holds (now ++ c.args.entry ∷ [])) (sym (ap (λ (s : FileState). s.reads) ch.changed)) (added_holds at c.bytes.result now c.args.entry is reads (c.requires told))

pub returns-in-Ok-clause-done : goal.returns-in-Ok-clause-done
returns-in-Ok-clause-done g c honest every =
    let now = c.args.self.now in
    let at = c.in-Some.at in
    let size : length c.bytes.result ≡ 63 = search rules in
    let is : IsAddition at c.bytes.result now c.args.entry = record {
      place = omega (arith, c.in-Some.ensures.place.0, ap length c.self.view_is);
      size = size;
      spells = c.bytes.ensures;
    } in
    let f0 = (g.D.Disk.state c.args.disk.now).files in
    let reads = (f0 1).reads in
    let ch = c.in-Ok.ensures.done (g.met.D.Disk.honest_tells c.args.disk.now honest) in
    every_settled 1 (Holds (now ++ c.args.entry ∷ [])) f0 (added at c.bytes.result reads) (g.D.Disk.state c.add_to_file.new.disk).files ch.changed ch.others
    (added_holds at c.bytes.result now c.args.entry is reads (every.this reads (g.met.D.Disk.reads_is_image c.args.disk.now 1 honest)))

pub returns-in-Ok-clause-cut_well : goal.returns-in-Ok-clause-cut_well
returns-in-Ok-clause-cut_well g c honest every =
    let now = c.args.self.now in
    let at = c.in-Some.at in
    let size : length c.bytes.result ≡ 63 = search rules in
    let is : IsAddition at c.bytes.result now c.args.entry = record {
      place = omega (arith, c.in-Some.ensures.place.0, ap length c.self.view_is);
      size = size;
      spells = c.bytes.ensures;
    } in
    c.add_to_file.ensures.cut_well honest now c.args.entry is every

pub returns-in-Ok-clause-fuse : goal.returns-in-Ok-clause-fuse
returns-in-Ok-clause-fuse g c honest every =
    let now = c.args.self.now in
    let at = c.in-Some.at in
    let size : length c.bytes.result ≡ 63 = search rules in
    let is : IsAddition at c.bytes.result now c.args.entry = record {
      place = omega (arith, c.in-Some.ensures.place.0, ap length c.self.view_is);
      size = size;
      spells = c.bytes.ensures;
    } in
    c.in-Ok.ensures.fuse honest now c.args.entry is every

pub returns-in-Err-clause-cut_well : goal.returns-in-Err-clause-cut_well
returns-in-Err-clause-cut_well g c honest every =
    let now = c.args.self.now in
    let at = c.in-Some.at in
    let size : length c.bytes.result ≡ 63 = search rules in
    let is : IsAddition at c.bytes.result now c.args.entry = record {
      place = omega (arith, c.in-Some.ensures.place.0, ap length c.self.view_is);
      size = size;
      spells = c.bytes.ensures;
    } in
    c.add_to_file.ensures.cut_well honest now c.args.entry is every

pub returns-in-Err-clause-fuse : goal.returns-in-Err-clause-fuse
returns-in-Err-clause-fuse g c honest every =
    let now = c.args.self.now in
    let at = c.in-Some.at in
    let size : length c.bytes.result ≡ 63 = search rules in
    let is : IsAddition at c.bytes.result now c.args.entry = record {
      place = omega (arith, c.in-Some.ensures.place.0, ap length c.self.view_is);
      size = size;
      spells = c.bytes.ensures;
    } in
    fuse_of_member (Unit {0}) (Unit {0}) 5 (AddLeft now (now ++ c.args.entry ∷ [])) (g.D.Disk.state c.args.disk.now) (g.D.Disk.state c.add_to_file.new.disk) c.in-Err.trouble c.from.result c.from.ensures
    (c.in-Err.ensures.fuse honest now c.args.entry is every)
