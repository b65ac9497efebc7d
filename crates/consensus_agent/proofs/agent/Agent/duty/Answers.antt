use Rattle.std.proofs.Common.{ap, subst, refl}
use Rattle.std.specs.Prelude.{IfOk, OnErr, OnOk}
use Rattle.entry_log.specs.Shape.{shape_of}
use Rattle.member_disk.specs.Kept.{Kept, Held as DiskHeld}
use Rattle.consensus_core.specs.declared.row.Row.{Row}
use Rattle.consensus_core.specs.Reign.{does_duty}
use Rattle.consensus_agent.specs.Disks.{Done, Went}
use Rattle.consensus_agent.specs.Rows.{CutRow, RowRan, due_to}
use Rattle.consensus_agent.proofs.Due.{duty_row}
use Rattle.consensus_agent.proofs.Running.{values_in, kept_in, on_ok}
use Rattle.consensus_agent.proofs.Taking.{taken_past}
use Rattle.consensus_agent.proofs.Disking.{went_none}
use Rattle.consensus_agent.proofs.agent.Agent.duty.Goals as goal

pub returns-clause-row : goal.returns-clause-row
returns-clause-row g c =
    let own : Row = does_duty c.due.new.self.core.values (shape_of c.due.new.self.disk.kept.log) c.as_slice.result.now c.args.now in
    let same = duty_row c.args.self.now.core.values c.due.new.self.core.values c.args.self.now.disk.kept c.due.new.self.disk.kept c.as_slice.result.now c.in_ok-due.due (due_to c.args.self.now.«module» c.args.self.now.core.values.election.term c.args.now) c.args.now (ap values_in c.due.ensures.core) (ap kept_in c.due.ensures.disk) c.as_slice.ensures c.in_ok-due.ensures.due in
    subst (λ z. IfOk c.do_duty.result (RowRan (g.D.Disk.tells c.args.self.now.disk.disk) z c.args.self.now.disk.kept c.do_duty.new.self.disk.kept c.do_duty.new.self.core.values)) same
    (subst (λ (d : DiskHeld g.row.D.Denot). IfOk c.do_duty.result (RowRan (g.D.Disk.tells d.disk) own d.kept c.do_duty.new.self.disk.kept c.do_duty.new.self.core.values)) c.due.ensures.disk c.do_duty.ensures.row)

pub returns-clause-cut : goal.returns-clause-cut
returns-clause-cut g c =
    let own : Row = does_duty c.due.new.self.core.values (shape_of c.due.new.self.disk.kept.log) c.as_slice.result.now c.args.now in
    let same = duty_row c.args.self.now.core.values c.due.new.self.core.values c.args.self.now.disk.kept c.due.new.self.disk.kept c.as_slice.result.now c.in_ok-due.due (due_to c.args.self.now.«module» c.args.self.now.core.values.election.term c.args.now) c.args.now (ap values_in c.due.ensures.core) (ap kept_in c.due.ensures.disk) c.as_slice.ensures c.in_ok-due.ensures.due in
    subst (λ (z : Row). OnErr c.do_duty.result (CutRow z.change c.args.self.now.disk.kept c.do_duty.new.self.disk.kept)) same
    (subst (λ (k : Kept). OnErr c.do_duty.result (CutRow own.change k c.do_duty.new.self.disk.kept)) (ap kept_in c.due.ensures.disk) c.do_duty.ensures.cut)

pub returns-clause-taken : goal.returns-clause-taken
returns-clause-taken g c =
    let own : Row = does_duty c.due.new.self.core.values (shape_of c.due.new.self.disk.kept.log) c.as_slice.result.now c.args.now in
    let row : Row = does_duty c.args.self.now.core.values (shape_of c.args.self.now.disk.kept.log) (due_to c.args.self.now.«module» c.args.self.now.core.values.election.term c.args.now) c.args.now in
    let same = duty_row c.args.self.now.core.values c.due.new.self.core.values c.args.self.now.disk.kept c.due.new.self.disk.kept c.as_slice.result.now c.in_ok-due.due (due_to c.args.self.now.«module» c.args.self.now.core.values.election.term c.args.now) c.args.now (ap values_in c.due.ensures.core) (ap kept_in c.due.ensures.disk) c.as_slice.ensures c.in_ok-due.ensures.due in
    on_ok c.do_duty.result (λ h. taken_past row own c.args.self.now.core.values c.due.new.self.core.values c.args.now c.args.self.now.«module» c.due.new.self.«module» c.do_duty.new.self.«module» c.args.self.now.over c.due.new.self.over c.do_duty.new.self.over same (ap values_in c.due.ensures.core) c.due.ensures.over c.due.ensures.module h) c.do_duty.ensures.taken

pub returns-clause-went : goal.returns-clause-went
returns-clause-went g c =
    let own : Row = does_duty c.due.new.self.core.values (shape_of c.due.new.self.disk.kept.log) c.as_slice.result.now c.args.now in
    let same = duty_row c.args.self.now.core.values c.due.new.self.core.values c.args.self.now.disk.kept c.due.new.self.disk.kept c.as_slice.result.now c.in_ok-due.due (due_to c.args.self.now.«module» c.args.self.now.core.values.election.term c.args.now) c.args.now (ap values_in c.due.ensures.core) (ap kept_in c.due.ensures.disk) c.as_slice.ensures c.in_ok-due.ensures.due in
    subst (λ (z : Row). Went g.D.Disk.state g.D.Disk.tells g.D.Disk.is_honest z.change c.args.self.now.disk c.do_duty.new.self.disk) same
    (subst (λ (d : DiskHeld g.row.D.Denot). Went g.D.Disk.state g.D.Disk.tells g.D.Disk.is_honest own.change d c.do_duty.new.self.disk) c.due.ensures.disk c.do_duty.ensures.went)

pub returns-clause-done : goal.returns-clause-done
returns-clause-done g c =
    let own : Row = does_duty c.due.new.self.core.values (shape_of c.due.new.self.disk.kept.log) c.as_slice.result.now c.args.now in
    let same = duty_row c.args.self.now.core.values c.due.new.self.core.values c.args.self.now.disk.kept c.due.new.self.disk.kept c.as_slice.result.now c.in_ok-due.due (due_to c.args.self.now.«module» c.args.self.now.core.values.election.term c.args.now) c.args.now (ap values_in c.due.ensures.core) (ap kept_in c.due.ensures.disk) c.as_slice.ensures c.in_ok-due.ensures.due in
    subst (λ (z : Row). OnOk c.do_duty.result (Done g.D.Disk.state g.D.Disk.tells g.D.Disk.is_honest z.change c.args.self.now.disk c.do_duty.new.self.disk)) same
    (subst (λ (d : DiskHeld g.row.D.Denot). OnOk c.do_duty.result (Done g.D.Disk.state g.D.Disk.tells g.D.Disk.is_honest own.change d c.do_duty.new.self.disk)) c.due.ensures.disk c.do_duty.ensures.done)

pub returns-then-not-self-clause-went : goal.returns-then-not-self-clause-went
returns-then-not-self-clause-went g c = went_none g.D.Disk.state g.D.Disk.tells g.D.Disk.is_honest _ c.args.self.now.disk c.args.self.now.disk refl

pub returns-in_err-due-clause-went : goal.returns-in_err-due-clause-went
returns-in_err-due-clause-went g c = went_none g.D.Disk.state g.D.Disk.tells g.D.Disk.is_honest _ c.args.self.now.disk c.due.new.self.disk c.due.ensures.disk
