-- Each exit of a mount.
use Rattle.std.proofs.Common.{◌+◌, Ok, Err, IsTrue, sym, subst, arith}
use Rattle.cl_base.specs.Disk.{FileState, IsImageOf}
use Rattle.cl_base.specs.Runs.{DiskLaws}
use Rattle.cl_base.specs.Looks.{looks_same, looks_after, looks_ends}
use Rattle.cl_base.specs.Torn.{run_after, weaker}
use Rattle.cl_base.specs.declared.fault.MemberFault.TheVariants.{Device}
use Rattle.node_state.specs.Node.{Stays, mount_calls}
use Rattle.recording_log.specs.Entries.{Holds}
use Rattle.member_disk.specs.Kept.{Kept, Means}
use Rattle.member_disk.proofs.Standing.{log_stays, one_ne}
use Rattle.member_disk.proofs.Mounts.{kept_once, settled_first, mounted_all, means_first, means_then, first_ended, second_ended}
use Rattle.member_disk.proofs.Looking.{looks_ok, looks_err, look_more}
use Rattle.member_disk.proofs.mount.mount_files.Given as given
use Rattle.member_disk.proofs.mount.mount_files.Goals as goal

abbrev laws_of : (g : given.Over) → DiskLaws g.row.D.Denot
laws_of g = record {
  state = g.D.Disk.state;
  is_honest = g.D.Disk.is_honest;
  tells = g.D.Disk.tells;
  moment = g.D.Disk.moment;
  left_since = g.D.Disk.left_since;
  reads = g.met.D.Disk.reads_is_image;
  synced = g.met.D.Disk.synced_is_image;
  honest_tells = g.met.D.Disk.honest_tells;
  only_now = g.met.D.Disk.only_now;
}

pub returns-in-Ok-read_rest-clause-once : goal.returns-in-Ok-read_rest-clause-once
returns-in-Ok-read_rest-clause-once g c told kept reads held services =
    let f0 = (g.D.Disk.state c.args.disk.now).files in
    let f1 = (g.D.Disk.state c.mount.new.disk).files in
    let told1 = subst IsTrue (sym c.mount.ensures.tells) told in
    let others = c.mount.ensures.others told in
    let mine : Kept = record { node = c.in-Ok.node; entries = c.in-Ok-read_rest.recording; log = c.in-Ok-read_rest.log; services = c.args.services } in
    let entries = subst (λ (s : FileState). Holds mine.entries s.reads) (others 1 one_ne) (c.in-Ok-read_rest.ensures.entries told1) in
    let log = log_stays mine.log f1 f0 (λ s below. sym (others (2 + s) (λ is. absurd (omega arith)))) (c.in-Ok-read_rest.ensures.log told1) in
    let same = c.in-Ok-read_rest.ensures.once told1 kept.log held (log_stays kept.log f0 f1 (λ s below. others (2 + s) (λ is. absurd (omega arith))) reads.log) in
    kept_once f0 mine kept (record { node = c.in-Ok.ensures.gives told; entries = entries; log = log }) reads same (sym services)

pub returns-in-Ok-read_rest-clause-settled : goal.returns-in-Ok-read_rest-clause-settled
returns-in-Ok-read_rest-clause-settled g c honest settled =
    let laws = laws_of g in
    let d0 = c.args.disk.now in
    let d1 = c.mount.new.disk in
    let s0 = g.D.Disk.state d0 in
    let s1 = g.D.Disk.state d1 in
    let told = g.met.D.Disk.honest_tells d0 honest in
    let told1 = subst IsTrue (sym c.mount.ensures.tells) told in
    let honest1 = subst IsTrue (sym c.mount.ensures.honest) honest in
    let single = settled_first laws d0 honest settled in
    let mine : Kept = record { node = c.in-Ok.node; entries = c.in-Ok-read_rest.recording; log = c.in-Ok-read_rest.log; services = c.args.services } in
    mounted_all laws d0 honest settled mine s1.files (g.D.Disk.state c.read_rest.new.disk).files (c.in-Ok.ensures.done honest single) (c.read_rest.ensures.looks told1).files (c.in-Ok-read_rest.ensures.entries told1) (c.in-Ok-read_rest.ensures.log told1)

pub returns-in-Ok-read_rest-clause-run : goal.returns-in-Ok-read_rest-clause-run
returns-in-Ok-read_rest-clause-run g c honest settled kept reads =
    let laws = laws_of g in
    let d0 = c.args.disk.now in
    let d1 = c.mount.new.disk in
    let s0 = g.D.Disk.state d0 in
    let s1 = g.D.Disk.state d1 in
    let told = g.met.D.Disk.honest_tells d0 honest in
    let told1 = subst IsTrue (sym c.mount.ensures.tells) told in
    let honest1 = subst IsTrue (sym c.mount.ensures.honest) honest in
    let single = settled_first laws d0 honest settled in
    let keeps = c.mount.ensures.keeps honest single kept.node reads.node in
    let run1 = weaker g.D.Disk.moment g.D.Disk.left_since d0 d1 (Stays s0.files kept.node) (Means kept) (means_first laws d0 honest settled kept reads) keeps.1 in
    let d2 = c.read_rest.new.disk in
    let s2 = g.D.Disk.state d2 in
    let run2 = weaker g.D.Disk.moment g.D.Disk.left_since d1 d2 (IsImageOf s1.files) (Means kept) (means_then laws d0 honest settled kept reads s1.files keeps.0) (c.read_rest.ensures.any_moment honest1) in
    run_after g.D.Disk.moment g.D.Disk.left_since d0 d1 d2 (Means kept) run1 run2

pub returns-in-Err-read_rest-clause-run : goal.returns-in-Err-read_rest-clause-run
returns-in-Err-read_rest-clause-run g c honest settled kept reads =
    let laws = laws_of g in
    let d0 = c.args.disk.now in
    let d1 = c.mount.new.disk in
    let s0 = g.D.Disk.state d0 in
    let s1 = g.D.Disk.state d1 in
    let told = g.met.D.Disk.honest_tells d0 honest in
    let told1 = subst IsTrue (sym c.mount.ensures.tells) told in
    let honest1 = subst IsTrue (sym c.mount.ensures.honest) honest in
    let single = settled_first laws d0 honest settled in
    let keeps = c.mount.ensures.keeps honest single kept.node reads.node in
    let run1 = weaker g.D.Disk.moment g.D.Disk.left_since d0 d1 (Stays s0.files kept.node) (Means kept) (means_first laws d0 honest settled kept reads) keeps.1 in
    let d2 = c.read_rest.new.disk in
    let s2 = g.D.Disk.state d2 in
    let run2 = weaker g.D.Disk.moment g.D.Disk.left_since d1 d2 (IsImageOf s1.files) (Means kept) (means_then laws d0 honest settled kept reads s1.files keeps.0) (c.read_rest.ensures.any_moment honest1) in
    run_after g.D.Disk.moment g.D.Disk.left_since d0 d1 d2 (Means kept) run1 run2

pub returns-in-Err-clause-run : goal.returns-in-Err-clause-run
returns-in-Err-clause-run g c honest settled kept reads =
    let laws = laws_of g in
    let d0 = c.args.disk.now in
    let d1 = c.mount.new.disk in
    let s0 = g.D.Disk.state d0 in
    let s1 = g.D.Disk.state d1 in
    let told = g.met.D.Disk.honest_tells d0 honest in
    let told1 = subst IsTrue (sym c.mount.ensures.tells) told in
    let honest1 = subst IsTrue (sym c.mount.ensures.honest) honest in
    let single = settled_first laws d0 honest settled in
    let keeps = c.mount.ensures.keeps honest single kept.node reads.node in
    let run1 = weaker g.D.Disk.moment g.D.Disk.left_since d0 d1 (Stays s0.files kept.node) (Means kept) (means_first laws d0 honest settled kept reads) keeps.1 in
    run1

pub returns-in-Ok-read_rest-clause-fuse : goal.returns-in-Ok-read_rest-clause-fuse
returns-in-Ok-read_rest-clause-fuse g c honest settled kept reads =
    let laws = laws_of g in
    let d0 = c.args.disk.now in
    let d1 = c.mount.new.disk in
    let s0 = g.D.Disk.state d0 in
    let s1 = g.D.Disk.state d1 in
    let told = g.met.D.Disk.honest_tells d0 honest in
    let told1 = subst IsTrue (sym c.mount.ensures.tells) told in
    let honest1 = subst IsTrue (sym c.mount.ensures.honest) honest in
    let single = settled_first laws d0 honest settled in
    let s2 = g.D.Disk.state c.read_rest.new.disk in
    second_ended laws d0 honest settled kept reads (Unit {0}) (Unit {0}) (mount_calls (s0.files 0).reads) s1 s2 tt (Ok tt) (c.in-Ok.ensures.fuse honest single kept.node reads.node)
    (looks_ends Device (λ _ _. Unit {0}) s1 s2 _ (c.in-Ok-read_rest.ensures.looks told1))

pub returns-in-Err-read_rest-clause-fuse : goal.returns-in-Err-read_rest-clause-fuse
returns-in-Err-read_rest-clause-fuse g c honest settled kept reads =
    let laws = laws_of g in
    let d0 = c.args.disk.now in
    let d1 = c.mount.new.disk in
    let s0 = g.D.Disk.state d0 in
    let s1 = g.D.Disk.state d1 in
    let told = g.met.D.Disk.honest_tells d0 honest in
    let told1 = subst IsTrue (sym c.mount.ensures.tells) told in
    let honest1 = subst IsTrue (sym c.mount.ensures.honest) honest in
    let single = settled_first laws d0 honest settled in
    let s2 = g.D.Disk.state c.read_rest.new.disk in
    second_ended laws d0 honest settled kept reads (Unit {0}) (Unit {0}) (mount_calls (s0.files 0).reads) s1 s2 tt (Err c.in-Err-read_rest.fault) (c.in-Ok.ensures.fuse honest single kept.node reads.node)
    (looks_ends Device (λ _ _. Unit {0}) s1 s2 _ (c.in-Err-read_rest.ensures.looks told1))

pub returns-in-Err-clause-fuse : goal.returns-in-Err-clause-fuse
returns-in-Err-clause-fuse g c honest settled kept reads =
    let laws = laws_of g in
    let d0 = c.args.disk.now in
    let d1 = c.mount.new.disk in
    let s0 = g.D.Disk.state d0 in
    let s1 = g.D.Disk.state d1 in
    let told = g.met.D.Disk.honest_tells d0 honest in
    let told1 = subst IsTrue (sym c.mount.ensures.tells) told in
    let honest1 = subst IsTrue (sym c.mount.ensures.honest) honest in
    let single = settled_first laws d0 honest settled in
    first_ended laws d0 honest settled kept reads (Unit {0}) (Unit {0}) (mount_calls (s0.files 0).reads) s1 c.in-Err.fault (c.mount.ensures.others told) (c.in-Err.ensures.fuse honest single kept.node reads.node)

pub returns-in-Ok-read_rest-clause-looks : goal.returns-in-Ok-read_rest-clause-looks
returns-in-Ok-read_rest-clause-looks g c told two =
    let s0 = g.D.Disk.state c.args.disk.now in
    let s1 = g.D.Disk.state c.mount.new.disk in
    let s2 = g.D.Disk.state c.read_rest.new.disk in
    let told1 = subst IsTrue (sym c.mount.ensures.tells) told in
    let same = looks_same Device s0 s1 _ (c.in-Ok.ensures.looks told two) (λ is. absurd (cc)) in
    looks_after Device s0 s1 s2 _ same (looks_ok _ _ s1 s2 _ _ (c.in-Ok-read_rest.ensures.looks told1))

pub returns-in-Err-read_rest-clause-looks : goal.returns-in-Err-read_rest-clause-looks
returns-in-Err-read_rest-clause-looks g c told two =
    let s0 = g.D.Disk.state c.args.disk.now in
    let s1 = g.D.Disk.state c.mount.new.disk in
    let s2 = g.D.Disk.state c.read_rest.new.disk in
    let told1 = subst IsTrue (sym c.mount.ensures.tells) told in
    let same = looks_same Device s0 s1 _ (c.in-Ok.ensures.looks told two) (λ is. absurd (cc)) in
    looks_after Device s0 s1 s2 _ same (looks_err _ _ s1 s2 _ (c.in-Err-read_rest.ensures.looks told1))

pub returns-in-Ok-read_rest-clause-any_moment : goal.returns-in-Ok-read_rest-clause-any_moment
returns-in-Ok-read_rest-clause-any_moment g c honest two =
    let d0 = c.args.disk.now in
    let d1 = c.mount.new.disk in
    let d2 = c.read_rest.new.disk in
    let told = g.met.D.Disk.honest_tells d0 honest in
    let honest1 = subst IsTrue (sym c.mount.ensures.honest) honest in
    look_more g.D.Disk.state g.D.Disk.moment g.D.Disk.left_since d0 d1 d2 (c.mount.ensures.any_moment honest two) (c.mount.ensures.looks told two).files (c.read_rest.ensures.any_moment honest1)

pub returns-in-Err-read_rest-clause-any_moment : goal.returns-in-Err-read_rest-clause-any_moment
returns-in-Err-read_rest-clause-any_moment g c honest two =
    let d0 = c.args.disk.now in
    let d1 = c.mount.new.disk in
    let d2 = c.read_rest.new.disk in
    let told = g.met.D.Disk.honest_tells d0 honest in
    let honest1 = subst IsTrue (sym c.mount.ensures.honest) honest in
    look_more g.D.Disk.state g.D.Disk.moment g.D.Disk.left_since d0 d1 d2 (c.mount.ensures.any_moment honest two) (c.mount.ensures.looks told two).files (c.read_rest.ensures.any_moment honest1)
