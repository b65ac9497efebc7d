use Rattle.std.proofs.Common.{◌≡◌, pos, IsTrue, subst}
use Rattle.log_segment.specs.Held.{new_terms}
use Rattle.member_disk.specs.Kept.{Kept, Held, EachStands}
use Rattle.member_disk.specs.Changes.{HaveTerms}
use Rattle.cluster_backup.specs.Taking.{CanPut}
use Rattle.cluster_backup.specs.Cutting.{SnapshotCutWell}
use Rattle.cluster_backup.specs.declared.part.Part.TheVariants as part
use Rattle.cluster_backup.proofs.PartLists.{all_short}
use Rattle.cluster_backup.proofs.Cutting.{snapshot_cut}
use Rattle.cluster_backup.proofs.backup.Backup.take_snapshot.Goals as goal

pub put_snapshot-requires-clause-pieces : goal.put_snapshot-requires-clause-pieces
put_snapshot-requires-clause-pieces g c = all_short part.Piece c.args.pieces.now c.requires.pieces

pub returns-clause-cut_well : goal.returns-clause-cut_well
returns-clause-cut_well g c =
    let can : CanPut c.self.inside.disk.kept c.args.head = subst (λ (k : Kept). CanPut k c.args.head) c.durable.ensures (c.can_put.ensures.0 c.if-not-can_put.false) in
    subst (λ (h : Held g.row.D.Denot). IsTrue (g.D.Disk.is_honest h.disk) → EachStands h.kept (g.D.Disk.state h.disk).files → HaveTerms h.kept.entries (new_terms 0 h.kept.log) → SnapshotCutWell g.D.Disk.state g.D.Disk.moment g.D.Disk.left_since h.kept (pos c.args.head.recording) c.args.head h.disk c.put_snapshot.new.self.disk) c.self.view_is
    (λ honest all terms. snapshot_cut g.D.Disk.state g.D.Disk.moment g.D.Disk.left_since c.self.inside.disk.kept c.self.inside.disk.disk c.put_snapshot.new.self.disk c.args.head can c.put_snapshot.ensures.again (λ absent. c.put_snapshot.ensures.cut_well honest all terms absent))

pub returns-in_err-put_snapshot-clause-cut_well : goal.returns-in_err-put_snapshot-clause-cut_well
returns-in_err-put_snapshot-clause-cut_well g c =
    let can : CanPut c.self.inside.disk.kept c.args.head = subst (λ (k : Kept). CanPut k c.args.head) c.durable.ensures (c.can_put.ensures.0 c.if-not-can_put.false) in
    subst (λ (h : Held g.row.D.Denot). IsTrue (g.D.Disk.is_honest h.disk) → EachStands h.kept (g.D.Disk.state h.disk).files → HaveTerms h.kept.entries (new_terms 0 h.kept.log) → SnapshotCutWell g.D.Disk.state g.D.Disk.moment g.D.Disk.left_since h.kept (pos c.args.head.recording) c.args.head h.disk c.put_snapshot.new.self.disk) c.self.view_is
    (λ honest all terms. snapshot_cut g.D.Disk.state g.D.Disk.moment g.D.Disk.left_since c.self.inside.disk.kept c.self.inside.disk.disk c.put_snapshot.new.self.disk c.args.head can c.put_snapshot.ensures.again (λ absent. c.put_snapshot.ensures.cut_well honest all terms absent))
