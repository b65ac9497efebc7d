-- Each exit of the staging.
use Rattle.std.proofs.Common.{◌≡◌, ℕ, ◌+◌, ◌*◌, inl, inr, List, length, replicate, IsTrue, sym, subst, arith}
use Rattle.cl_base.specs.Torn.{Torn, run_after, weaker}
use Rattle.cl_base.specs.Through.{IsTornFrom, ThroughLeft}
use Rattle.recording_log.specs.declared.entry.RecEntry.{RecEntry}
use Rattle.cl_base.specs.Every.{FileIs}
use Rattle.recording_log.specs.Entries.{Holds}
use Rattle.cl_base.specs.EveryRun.{every_through, moment_through}
use Rattle.recording_log.proofs.HoldLemmas.{torn_holds}
use Rattle.recording_log.proofs.Run.{first_every, first_run, then_ends}
use Rattle.recording_log.proofs.file.stage.Goals as goal

-- the bytes before the gate may be torn, and those behind it
before_gate : (entries : List RecEntry) (at n : ℕ) → at ≡ 64 * length entries → n ≡ 63 → (e x : List ℕ) → Holds entries e → Torn at n e x → Holds entries x
before_gate entries at n is size e x holds torn = torn_holds entries e x at n (omega arith) (inr (omega arith)) torn holds

behind_gate : (entries : List RecEntry) (at : ℕ) → at ≡ 64 * length entries → (e x : List ℕ) → Holds entries e → Torn (at + 64) 64 e x → Holds entries x
behind_gate entries at is e x holds torn = torn_holds entries e x (at + 64) 64 (omega arith) (inl (omega arith)) torn holds

pub returns-in-Err-clause-each : goal.returns-in-Err-clause-each
returns-in-Err-clause-each g c honest entries is every =
    let d0 = c.args.disk.now in
    let f0 = (g.D.Disk.state d0).files in
    let d1 = c.write_at.new.self in
    let told = g.met.D.Disk.honest_tells d0 honest in
    let torn = before_gate entries c.args.at (length c.args.block.now) is c.requires.size in
    first_every g.D.Disk.state g.D.Disk.is_honest g.D.Disk.moment g.D.Disk.left_since g.met.D.Disk.reads_is_image g.met.D.Disk.synced_is_image g.D.Disk.tells g.met.D.Disk.honest_tells g.met.D.Disk.only_now d0 honest 1 c.args.at c.args.block.now (Holds entries) every d1 c.write_at.result (omega (arith, c.requires.room told)) torn c.write_at.ensures.told c.write_at.ensures.time

pub returns-in-Err-clause-cut_well : goal.returns-in-Err-clause-cut_well
returns-in-Err-clause-cut_well g c honest entries is every =
    let d0 = c.args.disk.now in
    let f0 = (g.D.Disk.state d0).files in
    let d1 = c.write_at.new.self in
    let told = g.met.D.Disk.honest_tells d0 honest in
    let torn = before_gate entries c.args.at (length c.args.block.now) is c.requires.size in
    first_run g.D.Disk.state g.D.Disk.is_honest g.D.Disk.moment g.D.Disk.left_since g.met.D.Disk.reads_is_image g.met.D.Disk.synced_is_image g.D.Disk.tells g.met.D.Disk.honest_tells g.met.D.Disk.only_now d0 honest 1 c.args.at c.args.block.now (Holds entries) every d1 c.write_at.result (omega (arith, c.requires.room told)) torn c.write_at.ensures.told c.write_at.ensures.time

pub returns-in-Ok-clause-each : goal.returns-in-Ok-clause-each
returns-in-Ok-clause-each g c honest entries is every =
    let d0 = c.args.disk.now in
    let f0 = (g.D.Disk.state d0).files in
    let d1 = c.write_at.new.self in
    let told = g.met.D.Disk.honest_tells d0 honest in
    let torn = before_gate entries c.args.at (length c.args.block.now) is c.requires.size in
    let f1 = (g.D.Disk.state d1).files in
    let every1 = first_every g.D.Disk.state g.D.Disk.is_honest g.D.Disk.moment g.D.Disk.left_since g.met.D.Disk.reads_is_image g.met.D.Disk.synced_is_image g.D.Disk.tells g.met.D.Disk.honest_tells g.met.D.Disk.only_now d0 honest 1 c.args.at c.args.block.now (Holds entries) every d1 c.write_at.result (omega (arith, c.requires.room told)) torn c.write_at.ensures.told c.write_at.ensures.time in
    let honest1 = subst IsTrue (sym c.write_at.ensures.honest) honest in
    every_through 1 (Holds entries) f0 (Holds entries) (c.args.at + 64) 64 f1 (g.D.Disk.state c.write_through.new.disk).files every1 (behind_gate entries c.args.at is) (c.write_through.ensures.images honest1)

pub returns-in-Ok-clause-cut_well : goal.returns-in-Ok-clause-cut_well
returns-in-Ok-clause-cut_well g c honest entries is every =
    let d0 = c.args.disk.now in
    let f0 = (g.D.Disk.state d0).files in
    let d1 = c.write_at.new.self in
    let told = g.met.D.Disk.honest_tells d0 honest in
    let torn = before_gate entries c.args.at (length c.args.block.now) is c.requires.size in
    let f1 = (g.D.Disk.state d1).files in
    let every1 = first_every g.D.Disk.state g.D.Disk.is_honest g.D.Disk.moment g.D.Disk.left_since g.met.D.Disk.reads_is_image g.met.D.Disk.synced_is_image g.D.Disk.tells g.met.D.Disk.honest_tells g.met.D.Disk.only_now d0 honest 1 c.args.at c.args.block.now (Holds entries) every d1 c.write_at.result (omega (arith, c.requires.room told)) torn c.write_at.ensures.told c.write_at.ensures.time in
    let run1 = first_run g.D.Disk.state g.D.Disk.is_honest g.D.Disk.moment g.D.Disk.left_since g.met.D.Disk.reads_is_image g.met.D.Disk.synced_is_image g.D.Disk.tells g.met.D.Disk.honest_tells g.met.D.Disk.only_now d0 honest 1 c.args.at c.args.block.now (Holds entries) every d1 c.write_at.result (omega (arith, c.requires.room told)) torn c.write_at.ensures.told c.write_at.ensures.time in
    let honest1 = subst IsTrue (sym c.write_at.ensures.honest) honest in
    let d2 = c.write_through.new.disk in
    let run2 = weaker g.D.Disk.moment g.D.Disk.left_since d1 d2 (IsTornFrom 1 (c.args.at + 64) 64 f1) (FileIs 1 (Holds entries) f0) (moment_through 1 (Holds entries) f0 (Holds entries) (c.args.at + 64) 64 f1 every1 (behind_gate entries c.args.at is)) (c.write_through.ensures.any_moment honest1) in
    run_after g.D.Disk.moment g.D.Disk.left_since d0 d1 d2 (FileIs 1 (Holds entries) f0) run1 run2

pub returns-in-Ok-clause-fuse : goal.returns-in-Ok-clause-fuse
returns-in-Ok-clause-fuse g c told =
    let told1 = subst IsTrue (sym c.write_at.ensures.tells) told in
    then_ends (Unit {0}) 1 2 (ThroughLeft 1 (c.args.at + 64) (replicate 64 0) (g.D.Disk.state c.write_at.new.self).files) _ (g.D.Disk.state c.args.disk.now) (g.D.Disk.state c.write_at.new.self) (g.D.Disk.state c.write_through.new.disk) c.write_through.result (c.in-Ok.ensures.told told) (c.write_through.ensures.fuse told1)
