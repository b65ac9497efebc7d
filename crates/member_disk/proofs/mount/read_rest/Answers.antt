use Rattle.std.proofs.Common.{IsTrue, sym, subst}
use Rattle.member_disk.proofs.Looking.{look_more}
use Rattle.member_disk.proofs.mount.read_rest.Goals as goal

pub returns-in-Ok-look_at-clause-any_moment : goal.returns-in-Ok-look_at-clause-any_moment
returns-in-Ok-look_at-clause-any_moment g c honest =
    let d0 = c.args.disk.now in
    let d1 = c.mount.new.disk in
    let d2 = c.mount-in-Ok.new.disk in
    let told = g.met.D.Disk.honest_tells d0 honest in
    let honest1 = subst IsTrue (sym c.mount.ensures.honest) honest in
    let first = c.mount.ensures.any_moment honest in
    let same = (c.mount.ensures.looks told).files in
    let second = c.mount-in-Ok.ensures.looked.run honest1 in
    let told1 = subst IsTrue (sym c.mount.ensures.tells) told in
    let honest2 = subst IsTrue (sym c.mount-in-Ok.ensures.looked.honest_same) honest1 in
    let same1 = (c.mount-in-Ok.ensures.looked.looks told1).files in
    let third = c.look_at.ensures.any_moment honest2 in
    let d3 = c.look_at.new.disk in
    look_more g.D.Disk.state g.D.Disk.moment g.D.Disk.left_since d0 d1 d3 first same (look_more g.D.Disk.state g.D.Disk.moment g.D.Disk.left_since d1 d2 d3 second same1 third)

pub returns-in-Err-look_at-clause-any_moment : goal.returns-in-Err-look_at-clause-any_moment
returns-in-Err-look_at-clause-any_moment g c honest =
    let d0 = c.args.disk.now in
    let d1 = c.mount.new.disk in
    let d2 = c.mount-in-Ok.new.disk in
    let told = g.met.D.Disk.honest_tells d0 honest in
    let honest1 = subst IsTrue (sym c.mount.ensures.honest) honest in
    let first = c.mount.ensures.any_moment honest in
    let same = (c.mount.ensures.looks told).files in
    let second = c.mount-in-Ok.ensures.looked.run honest1 in
    let told1 = subst IsTrue (sym c.mount.ensures.tells) told in
    let honest2 = subst IsTrue (sym c.mount-in-Ok.ensures.looked.honest_same) honest1 in
    let same1 = (c.mount-in-Ok.ensures.looked.looks told1).files in
    let third = c.look_at.ensures.any_moment honest2 in
    let d3 = c.look_at.new.disk in
    look_more g.D.Disk.state g.D.Disk.moment g.D.Disk.left_since d0 d1 d3 first same (look_more g.D.Disk.state g.D.Disk.moment g.D.Disk.left_since d1 d2 d3 second same1 third)

pub returns-in-Err-mount-clause-any_moment : goal.returns-in-Err-mount-clause-any_moment
returns-in-Err-mount-clause-any_moment g c honest =
    let d0 = c.args.disk.now in
    let d1 = c.mount.new.disk in
    let d2 = c.mount-in-Ok.new.disk in
    let told = g.met.D.Disk.honest_tells d0 honest in
    let honest1 = subst IsTrue (sym c.mount.ensures.honest) honest in
    let first = c.mount.ensures.any_moment honest in
    let same = (c.mount.ensures.looks told).files in
    let second = c.mount-in-Ok.ensures.looked.run honest1 in
    look_more g.D.Disk.state g.D.Disk.moment g.D.Disk.left_since d0 d1 d2 first same second
