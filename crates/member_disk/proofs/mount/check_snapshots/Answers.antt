use Rattle.std.proofs.Common.{IsTrue, sym, ◌∙◌, subst, arith}
use Rattle.cl_base.specs.Looks.{looks_same, looks_after, same_more}
use Rattle.cl_base.specs.declared.fault.MemberFault.TheVariants.{Device}
use Rattle.member_disk.proofs.Looking.{look_more}
use Rattle.member_disk.proofs.mount.check_snapshots.Goals as goal

pub returns-in-Err-clause-any_moment : goal.returns-in-Err-clause-any_moment
returns-in-Err-clause-any_moment g c honest =
    let inv = c.loop-recording.invariant in
    let honest1 = subst IsTrue (sym inv.honest) honest in
    look_more g.D.Disk.state g.D.Disk.moment g.D.Disk.left_since c.args.disk.now c.loop-recording.disk c.check_marked.new.disk (inv.run honest) (inv.files (g.met.D.Disk.honest_tells c.args.disk.now honest)) (c.check_marked.ensures.any_moment honest1)

pub returns-in-Err-clause-looks : goal.returns-in-Err-clause-looks
returns-in-Err-clause-looks g c told alive =
    let inv = c.loop-recording.invariant in
    let same = inv.same told alive in
    looks_after Device (g.D.Disk.state c.args.disk.now) (g.D.Disk.state c.loop-recording.disk) (g.D.Disk.state c.check_marked.new.disk) _ same (c.in-Err.ensures.looks (subst IsTrue (sym inv.tells) told) (same.burnt ∙ alive))

pub loop-recording-preserved : goal.loop-recording-preserved
loop-recording-preserved g c =
    let inv = c.loop-recording.invariant in
    record {
      cause = omega (arith, c.check_marked.ensures.cause.later);
      tells = c.check_marked.ensures.tells ∙ inv.tells;
      honest = c.check_marked.ensures.honest ∙ inv.honest;
      same = λ told alive. let same = inv.same told alive in same_more (g.D.Disk.state c.args.disk.now) (g.D.Disk.state c.loop-recording.disk) (g.D.Disk.state c.check_marked.new.disk) same
          (looks_same Device (g.D.Disk.state c.loop-recording.disk) (g.D.Disk.state c.check_marked.new.disk) _ (c.in-Ok.ensures.looks (subst IsTrue (sym inv.tells) told) (same.burnt ∙ alive)) (λ is. absurd (cc)));
      files = λ told f. c.check_marked.ensures.files (subst IsTrue (sym inv.tells) told) f ∙ inv.files told f;
      run = λ honest.
          let honest1 = subst IsTrue (sym inv.honest) honest in
          look_more g.D.Disk.state g.D.Disk.moment g.D.Disk.left_since c.args.disk.now c.loop-recording.disk c.check_marked.new.disk (inv.run honest) (inv.files (g.met.D.Disk.honest_tells c.args.disk.now honest)) (c.check_marked.ensures.any_moment honest1);
    }
