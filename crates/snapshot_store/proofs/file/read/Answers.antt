use Rattle.std.proofs.Common.{◌≡◌, ◌+◌, ◌++◌, ◌∷◌, [], IsTrue, sym, ◌∙◌, ap, subst, arith, take, length, drop}
use Rattle.cl_base.specs.Disk.{FileState}
use Rattle.cl_base.specs.Looks.{looks_same, same_more}
use Rattle.cl_base.specs.declared.fault.MemberFault.TheVariants.{Device}
use Rattle.wire_prims.specs.Strict.{counted}
use Rattle.snapshot_store.specs.Snapshots.{spelled, ArePieces}
use Rattle.snapshot_store.proofs.Pieces.{look_more, pieces_more, front_more, count_more}
use Rattle.snapshot_store.proofs.file.read.Goals as goal

pub returns-in_err-piece-clause-any_moment : goal.returns-in_err-piece-clause-any_moment
returns-in_err-piece-clause-any_moment g c honest =
    let inv = c.loop-at.invariant in
    let honest1 = subst IsTrue (sym inv.honest) honest in
    look_more g.D.Disk.state g.D.Disk.moment g.D.Disk.left_since c.args.disk.now c.loop-at.disk c.read_piece.new.disk (inv.run honest) (inv.same (g.met.D.Disk.honest_tells c.args.disk.now honest)).files (c.read_piece.ensures.any_moment honest1)

pub returns-in_default-clause-any_moment : goal.returns-in_default-clause-any_moment
returns-in_default-clause-any_moment g c honest =
    let inv = c.loop-at.invariant in
    let honest1 = subst IsTrue (sym inv.honest) honest in
    look_more g.D.Disk.state g.D.Disk.moment g.D.Disk.left_since c.args.disk.now c.loop-at.disk c.read_piece.new.disk (inv.run honest) (inv.same (g.met.D.Disk.honest_tells c.args.disk.now honest)).files (c.read_piece.ensures.any_moment honest1)

pub loop-at-preserved : goal.loop-at-preserved
loop-at-preserved g c =
    let inv = c.loop-at.invariant in
    let ps = c.loop-at.pieces in
    let p = c.in_ok-piece.piece in
    let more : c.push.new.self ≡ ps ++ p ∷ [] = c.in-Ok.ensures.ok in
    let n = c.len.ensures in
    record {
      cause = omega (arith, c.read_piece.ensures.cause.later);
      tells = c.read_piece.ensures.tells ∙ inv.tells;
      honest = c.read_piece.ensures.honest ∙ inv.honest;
      same = λ told. same_more (g.D.Disk.state c.args.disk.now) (g.D.Disk.state c.loop-at.disk) (g.D.Disk.state c.read_piece.new.disk) (inv.same told)
          (looks_same Device (g.D.Disk.state c.loop-at.disk) (g.D.Disk.state c.read_piece.new.disk) _ (c.in_ok-piece.ensures.looks (subst IsTrue (sym inv.tells) told)) (λ is. absurd (cc)));
      within = omega (arith, c.in_ok-piece.ensures.within, n);
      strict = subst ArePieces (sym more) (pieces_more ps p inv.strict c.in_ok-piece.ensures.strict);
      front = λ told.
          let file = ((g.D.Disk.state c.args.disk.now).files c.file_of-file.result).reads in
          let reads : ((g.D.Disk.state c.loop-at.disk).files c.file_of-file.result).reads ≡ file = ap (λ (s : FileState). s.reads) ((inv.same told).files c.file_of-file.result) in
          let here : take (4 + length p) (drop c.loop-at.at file) ≡ counted p = subst (λ l. take (4 + length p) (drop c.loop-at.at l) ≡ counted p) reads (c.in_ok-piece.ensures.gives (subst IsTrue (sym inv.tells) told)) in
          ap (λ m. take (c.loop-at.at + (4 + m)) file) n ∙ front_more file ps p c.loop-at.at (inv.front told) here ∙ ap spelled (sym more);
      count = ap (λ l. length (spelled l)) more ∙ count_more ps p c.loop-at.at inv.count ∙ ap (λ m. c.loop-at.at + (4 + m)) (sym n);
      run = λ honest.
          let honest1 = subst IsTrue (sym inv.honest) honest in
          look_more g.D.Disk.state g.D.Disk.moment g.D.Disk.left_since c.args.disk.now c.loop-at.disk c.read_piece.new.disk (inv.run honest) (inv.same (g.met.D.Disk.honest_tells c.args.disk.now honest)).files (c.read_piece.ensures.any_moment honest1);
    }
