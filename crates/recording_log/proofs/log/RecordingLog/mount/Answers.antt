-- Each exit of the mount.
use Rattle.std.proofs.Common.{◌≡◌, ◌*◌, ◌++◌, [], ◌∷◌, List, Some, IsTrue, length, sym, ◌∙◌, subst, ap, arith, length-append}
use Rattle.cl_base.specs.Disk.{FileState}
use Rattle.recording_log.specs.declared.entry.RecEntry.{RecEntry}
use Rattle.recording_log.specs.Entries.{Begins, IsNext}
use Rattle.cl_base.specs.Looks.{looks_same, same_more}
use Rattle.cl_base.specs.declared.fault.MemberFault.TheVariants.{Device}
use Rattle.recording_log.specs.Valid.{terms_of}
use Rattle.recording_log.specs.Parts.{Tells}
use Rattle.recording_log.proofs.PartLemmas.{on_ok}
use Rattle.recording_log.proofs.MountLemmas.{begins_more, terms_more, look_more}
use Rattle.recording_log.proofs.log.RecordingLog.mount.Goals as goal

pub returns-then-is_none-clause-any_moment : goal.returns-then-is_none-clause-any_moment
returns-then-is_none-clause-any_moment g c honest =
    let inv = c.entries.invariant in
    let honest1 = subst IsTrue (sym inv.honest) honest in
    look_more g.D.Disk.state g.D.Disk.moment g.D.Disk.left_since c.args.disk.now c.entries.disk c.read_entry.new.disk (inv.run honest) (inv.same (g.met.D.Disk.honest_tells c.args.disk.now honest)).files (c.read_entry.ensures.any_moment honest1)

pub returns-in-Ok-None-clause-any_moment : goal.returns-in-Ok-None-clause-any_moment
returns-in-Ok-None-clause-any_moment g c honest =
    let inv = c.entries.invariant in
    let honest1 = subst IsTrue (sym inv.honest) honest in
    look_more g.D.Disk.state g.D.Disk.moment g.D.Disk.left_since c.args.disk.now c.entries.disk c.read_entry.new.disk (inv.run honest) (inv.same (g.met.D.Disk.honest_tells c.args.disk.now honest)).files (c.read_entry.ensures.any_moment honest1)

pub returns-in-Err-clause-any_moment : goal.returns-in-Err-clause-any_moment
returns-in-Err-clause-any_moment g c honest =
    let inv = c.entries.invariant in
    let honest1 = subst IsTrue (sym inv.honest) honest in
    look_more g.D.Disk.state g.D.Disk.moment g.D.Disk.left_since c.args.disk.now c.entries.disk c.read_entry.new.disk (inv.run honest) (inv.same (g.met.D.Disk.honest_tells c.args.disk.now honest)).files (c.read_entry.ensures.any_moment honest1)

pub entries-preserved : goal.entries-preserved
entries-preserved g c =
    let inv = c.entries.invariant in
    let old = c.entries.entries.items in
    let e = c.in-Ok-Some.entry in
    let items : c.put_entry.new.entries.items ≡ old ++ e ∷ [] = c.put_entry.ensures.entries ∙ ap (λ (l : List RecEntry). l ++ e ∷ []) c.make_room.ensures.entries in
    record {
      cause = omega (arith, c.read_entry.ensures.cause.later);
      tells = c.read_entry.ensures.tells ∙ inv.tells;
      honest = c.read_entry.ensures.honest ∙ inv.honest;
      same = λ told. same_more (g.D.Disk.state c.args.disk.now) (g.D.Disk.state c.entries.disk) (g.D.Disk.state c.read_entry.new.disk) (inv.same told)
          (looks_same Device (g.D.Disk.state c.entries.disk) (g.D.Disk.state c.read_entry.new.disk) _ (c.in-Ok-Some.ensures.looks (subst IsTrue (sym inv.tells) told)) (λ is. absurd (cc)));
      begins = λ told.
          let next : IsNext (64 * c.entries.i) ((g.D.Disk.state c.entries.disk).files 1).reads (Some e) = rw c.in-Ok-Some.field-0-is at (c.in-Ok-Some.ensures.gives (subst IsTrue (sym inv.tells) told)) in
          let reads : ((g.D.Disk.state c.entries.disk).files 1).reads ≡ ((g.D.Disk.state c.args.disk.now).files 1).reads = ap (λ (s : FileState). s.reads) ((inv.same told).files 1) in
          subst (λ l. Begins l ((g.D.Disk.state c.args.disk.now).files 1).reads) (sym items)
          (begins_more old ((g.D.Disk.state c.args.disk.now).files 1).reads (inv.begins told) c.entries.i inv.count e (subst (λ r. IsNext (64 * c.entries.i) r (Some e)) reads next));
      count = omega (arith, ap length items, length-append old (e ∷ []), inv.count);
      terms = c.put_entry.ensures.terms ∙ ap (λ l. l ++ terms_of (e ∷ [])) (c.make_room.ensures.terms ∙ inv.terms) ∙ sym (ap terms_of items ∙ terms_more old e);
      parts = subst (Tells c.take_in.new.self) (sym items)
          (on_ok c.take_in.result (Tells c.take_in.new.self (old ++ e ∷ [])) (sym c.is_err.ensures.value ∙ c.if-is_err.false) (c.take_in.ensures.ok old inv.parts));
      run = λ honest.
          let honest1 = subst IsTrue (sym inv.honest) honest in
          look_more g.D.Disk.state g.D.Disk.moment g.D.Disk.left_since c.args.disk.now c.entries.disk c.read_entry.new.disk (inv.run honest) (inv.same (g.met.D.Disk.honest_tells c.args.disk.now honest)).files (c.read_entry.ensures.any_moment honest1);
    }
