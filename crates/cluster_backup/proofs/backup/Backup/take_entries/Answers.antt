use Rattle.std.proofs.Common.{rules, ◌≡◌, ◌<◌, FitsSigned, w64, length, IsTrue, sym, ◌∙◌, ap, subst, arith}
use Rattle.std.proofs.lemmas.Int.{to_z-of_z}
use Rattle.entry_log.specs.Log.{Log}
use Rattle.entry_log.specs.Shape.{shape_of}
use Rattle.log_segment.specs.Held.{new_terms}
use Rattle.member_disk.specs.Kept.{Kept, Held, EachStands}
use Rattle.member_disk.specs.Changes.{IsAppended, HaveTerms}
use Rattle.cluster_backup.specs.Taking.{Grows, IsBehind, EntriesBring}
use Rattle.cluster_backup.specs.Cutting.{EntriesCutWell}
use Rattle.cluster_backup.specs.declared.answer.Taken.TheVariants.{Grown}
use Rattle.cluster_backup.proofs.Bringing.{passed, some_entries, grown_brings}
use Rattle.cluster_backup.proofs.Cutting.{entries_cut, entries_append_cut}
use Rattle.cluster_backup.proofs.backup.Backup.take_entries.Goals as goal

pub append-requires-clause-batch : goal.append-requires-clause-batch
append-requires-clause-batch g c =
    let some : 0 < length c.in_ok-entries.entries = some_entries (length c.in_ok-entries.entries) c.is_empty.result c.is_empty.ensures c.if-is_empty.false in
    let signed : FitsSigned w64 c.args.start = search rules in
    let same : passed c.args.start ≡ c.args.start = to_z-of_z w64 c.args.start signed in
    let b : IsBehind c.self.inside.disk.kept.log c.args.start c.args.events.now c.in_ok-entries.entries = subst (λ z. IsBehind c.self.inside.disk.kept.log z c.args.events.now c.in_ok-entries.entries) same ((c.in_ok-entries.ensures c.self.inside.disk.kept.log c.index.ensures.index).some some) in
    rw c.as_slice.ensures b.fits.batch

pub append-requires-clause-events : goal.append-requires-clause-events
append-requires-clause-events g c =
    let some : 0 < length c.in_ok-entries.entries = some_entries (length c.in_ok-entries.entries) c.is_empty.result c.is_empty.ensures c.if-is_empty.false in
    let signed : FitsSigned w64 c.args.start = search rules in
    let same : passed c.args.start ≡ c.args.start = to_z-of_z w64 c.args.start signed in
    let b : IsBehind c.self.inside.disk.kept.log c.args.start c.args.events.now c.in_ok-entries.entries = subst (λ z. IsBehind c.self.inside.disk.kept.log z c.args.events.now c.in_ok-entries.entries) same ((c.in_ok-entries.ensures c.self.inside.disk.kept.log c.index.ensures.index).some some) in
    rw c.as_slice.ensures b.each

pub append-requires-clause-rises : goal.append-requires-clause-rises
append-requires-clause-rises g c =
    let some : 0 < length c.in_ok-entries.entries = some_entries (length c.in_ok-entries.entries) c.is_empty.result c.is_empty.ensures c.if-is_empty.false in
    let signed : FitsSigned w64 c.args.start = search rules in
    let same : passed c.args.start ≡ c.args.start = to_z-of_z w64 c.args.start signed in
    let b : IsBehind c.self.inside.disk.kept.log c.args.start c.args.events.now c.in_ok-entries.entries = subst (λ z. IsBehind c.self.inside.disk.kept.log z c.args.events.now c.in_ok-entries.entries) same ((c.in_ok-entries.ensures c.self.inside.disk.kept.log c.index.ensures.index).some some) in
    rw c.as_slice.ensures b.fits.rises

pub returns-clause-brings : goal.returns-clause-brings
returns-clause-brings g c =
    let some : 0 < length c.in_ok-entries.entries = some_entries (length c.in_ok-entries.entries) c.is_empty.result c.is_empty.ensures c.if-is_empty.false in
    let signed : FitsSigned w64 c.args.start = search rules in
    let same : passed c.args.start ≡ c.args.start = to_z-of_z w64 c.args.start signed in
    let b : IsBehind c.self.inside.disk.kept.log c.args.start c.args.events.now c.in_ok-entries.entries = subst (λ z. IsBehind c.self.inside.disk.kept.log z c.args.events.now c.in_ok-entries.entries) same ((c.in_ok-entries.ensures c.self.inside.disk.kept.log c.index.ensures.index).some some) in
    subst (λ (h : Held g.row.D.Denot). EntriesBring h.kept c.args.start c.args.events.now (Grown c.len.result) c.append.new.self.kept) c.self.view_is
    (grown_brings c.self.inside.disk.kept c.append.new.self.kept c.args.start c.args.events.now c.in_ok-entries.entries c.len.result b c.len.ensures
    (subst (λ (l : Log). IsAppended l c.self.inside.disk.kept c.append.new.self.kept) c.as_slice.ensures c.in_ok-append.ensures.ok))

pub returns-clause-cut_well : goal.returns-clause-cut_well
returns-clause-cut_well g c =
    let some : 0 < length c.in_ok-entries.entries = some_entries (length c.in_ok-entries.entries) c.is_empty.result c.is_empty.ensures c.if-is_empty.false in
    let signed : FitsSigned w64 c.args.start = search rules in
    let same : passed c.args.start ≡ c.args.start = to_z-of_z w64 c.args.start signed in
    let b : IsBehind c.self.inside.disk.kept.log c.args.start c.args.events.now c.in_ok-entries.entries = subst (λ z. IsBehind c.self.inside.disk.kept.log z c.args.events.now c.in_ok-entries.entries) same ((c.in_ok-entries.ensures c.self.inside.disk.kept.log c.index.ensures.index).some some) in
    subst (λ (h : Held g.row.D.Denot). IsTrue (g.D.Disk.is_honest h.disk) → EachStands h.kept (g.D.Disk.state h.disk).files → HaveTerms h.kept.entries (new_terms 0 h.kept.log) → EntriesCutWell g.D.Disk.state g.D.Disk.moment g.D.Disk.left_since h.kept c.args.start c.args.events.now h.disk c.append.new.self.disk) c.self.view_is
    (λ honest all terms. entries_append_cut g.D.Disk.state g.D.Disk.moment g.D.Disk.left_since c.self.inside.disk.kept c.self.inside.disk.disk c.append.new.self.disk c.args.start c.args.events.now c.in_ok-entries.entries c.as_slice.result.now b c.as_slice.ensures (c.append.ensures.cut_well honest all terms))

pub returns-in_err-append-clause-cut_well : goal.returns-in_err-append-clause-cut_well
returns-in_err-append-clause-cut_well g c =
    let some : 0 < length c.in_ok-entries.entries = some_entries (length c.in_ok-entries.entries) c.is_empty.result c.is_empty.ensures c.if-is_empty.false in
    let signed : FitsSigned w64 c.args.start = search rules in
    let same : passed c.args.start ≡ c.args.start = to_z-of_z w64 c.args.start signed in
    let b : IsBehind c.self.inside.disk.kept.log c.args.start c.args.events.now c.in_ok-entries.entries = subst (λ z. IsBehind c.self.inside.disk.kept.log z c.args.events.now c.in_ok-entries.entries) same ((c.in_ok-entries.ensures c.self.inside.disk.kept.log c.index.ensures.index).some some) in
    subst (λ (h : Held g.row.D.Denot). IsTrue (g.D.Disk.is_honest h.disk) → EachStands h.kept (g.D.Disk.state h.disk).files → HaveTerms h.kept.entries (new_terms 0 h.kept.log) → EntriesCutWell g.D.Disk.state g.D.Disk.moment g.D.Disk.left_since h.kept c.args.start c.args.events.now h.disk c.append.new.self.disk) c.self.view_is
    (λ honest all terms. entries_append_cut g.D.Disk.state g.D.Disk.moment g.D.Disk.left_since c.self.inside.disk.kept c.self.inside.disk.disk c.append.new.self.disk c.args.start c.args.events.now c.in_ok-entries.entries c.as_slice.result.now b c.as_slice.ensures (c.append.ensures.cut_well honest all terms))

pub returns-then-is_empty-clause-brings : goal.returns-then-is_empty-clause-brings
returns-then-is_empty-clause-brings g c =
    let signed : FitsSigned w64 c.args.start = search rules in
    let same : passed c.args.start ≡ c.args.start = to_z-of_z w64 c.args.start signed in
    let shape : c.index.result.now ≡ shape_of c.args.self.now.kept.log = c.index.ensures.index ∙ ap (λ (h : Held g.row.D.Denot). shape_of h.kept.log) c.self.view_is in
    let empty : length c.in_ok-entries.entries ≡ 0 = c.is_empty.ensures.0 c.if-is_empty.true in
    (λ grows. (c.in_ok-entries.ensures c.args.self.now.kept.log shape).none empty (subst (λ z. Grows c.args.self.now.kept.log z c.args.events.now) (sym same) grows), first_of (search rules, cc))
