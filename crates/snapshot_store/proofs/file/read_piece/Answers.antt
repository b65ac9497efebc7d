use Rattle.std.proofs.Common.{◌≡◌, ◌+◌, take, drop, length, IsTrue, sym, ◌∙◌, ap, subst}
use Rattle.cl_base.specs.Disk.{FileState}
use Rattle.snapshot_store.proofs.Pieces.{counted_at, look_more}
use Rattle.snapshot_store.proofs.file.read_piece.Goals as goal

pub returns-in_err-bytes-clause-any_moment : goal.returns-in_err-bytes-clause-any_moment
returns-in_err-bytes-clause-any_moment g c honest =
    let honest1 = subst IsTrue (sym c.read_length.ensures.honest) honest in
    look_more g.D.Disk.state g.D.Disk.moment g.D.Disk.left_since c.args.disk.now c.read_length.new.disk c.read_bytes.new.disk (c.read_length.ensures.any_moment honest) (c.read_length.ensures.looks (g.met.D.Disk.honest_tells c.args.disk.now honest)).files (c.read_bytes.ensures.any_moment honest1)

pub returns-in-Some-clause-any_moment : goal.returns-in-Some-clause-any_moment
returns-in-Some-clause-any_moment g c honest =
    let honest1 = subst IsTrue (sym c.read_length.ensures.honest) honest in
    look_more g.D.Disk.state g.D.Disk.moment g.D.Disk.left_since c.args.disk.now c.read_length.new.disk c.read_bytes.new.disk (c.read_length.ensures.any_moment honest) (c.read_length.ensures.looks (g.met.D.Disk.honest_tells c.args.disk.now honest)).files (c.read_bytes.ensures.any_moment honest1)

pub returns-in-None-clause-any_moment : goal.returns-in-None-clause-any_moment
returns-in-None-clause-any_moment g c honest =
    let honest1 = subst IsTrue (sym c.read_length.ensures.honest) honest in
    look_more g.D.Disk.state g.D.Disk.moment g.D.Disk.left_since c.args.disk.now c.read_length.new.disk c.read_bytes.new.disk (c.read_length.ensures.any_moment honest) (c.read_length.ensures.looks (g.met.D.Disk.honest_tells c.args.disk.now honest)).files (c.read_bytes.ensures.any_moment honest1)

pub returns-in-None-clause-gives : goal.returns-in-None-clause-gives
returns-in-None-clause-gives g c told =
    let file = ((g.D.Disk.state c.args.disk.now).files c.args.file).reads in
    let told1 = subst IsTrue (sym c.read_length.ensures.tells) told in
    let n = c.in_ok-size.size in
    let reads : ((g.D.Disk.state c.read_length.new.disk).files c.args.file).reads ≡ file = ap (λ (s : FileState). s.reads) ((c.read_length.ensures.looks told).files c.args.file) in
    let body : c.from_vec.result ≡ take n (drop (c.args.at + 4) file) = c.from_vec.ensures ∙ c.in_ok-bytes.ensures.gives told1 ∙ ap (λ l. take n (drop (c.args.at + 4) l)) reads in
    let size : length c.from_vec.result ≡ n = ap length c.from_vec.ensures ∙ c.in_ok-bytes.ensures.count in
    counted_at file c.from_vec.result c.args.at n (c.in_ok-size.ensures.gives told).0 body size
