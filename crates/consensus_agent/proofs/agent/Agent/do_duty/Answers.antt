use Rattle.std.proofs.Common.{◌≡◌, ap, subst, refl}
use Rattle.std.specs.Prelude.{OnOk}
use Rattle.entry_log.specs.Shape.{shape_of}
use Rattle.consensus_core.specs.declared.row.Row.{Row}
use Rattle.consensus_core.specs.Reign.{does_duty}
use Rattle.consensus_agent.proofs.Commits.{duty_moves}
use Rattle.consensus_agent.proofs.Running.{gave, can_run, rises, still, on_ok, on_both}
use Rattle.consensus_agent.proofs.Sounding.{duty_runs}
use Rattle.consensus_agent.specs.Disks.{Done, Went}
use Rattle.consensus_agent.proofs.Taking.{row_taken}
use Rattle.consensus_agent.proofs.Disking.{went_none}
use Rattle.consensus_agent.proofs.agent.Agent.do_duty.Goals as goal

pub finish-requires-clause-can : goal.finish-requires-clause-can
finish-requires-clause-can g c =
    let row : Row = does_duty c.args.self.now.core.values (shape_of c.args.self.now.disk.kept.log) c.args.due.now c.args.now in
    let own : Row = does_duty c.args.self.now.core.values c.index.result.now c.args.due.now c.args.now in
    let same : own ≡ row = ap (λ xs. does_duty c.args.self.now.core.values xs c.args.due.now c.args.now) c.index.ensures.index in
    let gives = gave row own c.in_ok-change.change c.on_duty.new.self same c.in_ok-change.ensures.change c.in_ok-change.ensures.values in
    can_run row c.in_ok-change.change c.on_duty.new.self c.args.self.now.disk.kept c.args.self.now.«module».consumed gives
    (duty_runs c.args.self.now.core.values c.args.self.now.disk.kept c.args.self.now.disk.whole c.args.self.now.«module» c.args.due.now c.args.now c.requires.now c.requires.due c.requires.term (c.args.self.now.sound c.requires.whole))

pub returns-clause-rises : goal.returns-clause-rises
returns-clause-rises g c =
    let row : Row = does_duty c.args.self.now.core.values (shape_of c.args.self.now.disk.kept.log) c.args.due.now c.args.now in
    let own : Row = does_duty c.args.self.now.core.values c.index.result.now c.args.due.now c.args.now in
    let same : own ≡ row = ap (λ xs. does_duty c.args.self.now.core.values xs c.args.due.now c.args.now) c.index.ensures.index in
    let gives = gave row own c.in_ok-change.change c.on_duty.new.self same c.in_ok-change.ensures.change c.in_ok-change.ensures.values in
    on_ok c.finish.result (λ h. rises c.args.self.now.core.values c.finish.new.self.core.values row c.in_ok-change.change c.on_duty.new.self gives (duty_moves c.args.self.now.core.values (shape_of c.args.self.now.disk.kept.log) c.args.due.now c.args.now) h) c.finish.ensures.values

pub returns-clause-over : goal.returns-clause-over
returns-clause-over g c =
    let row : Row = does_duty c.args.self.now.core.values (shape_of c.args.self.now.disk.kept.log) c.args.due.now c.args.now in
    let own : Row = does_duty c.args.self.now.core.values c.index.result.now c.args.due.now c.args.now in
    let same : own ≡ row = ap (λ xs. does_duty c.args.self.now.core.values xs c.args.due.now c.args.now) c.index.ensures.index in
    let gives = gave row own c.in_ok-change.change c.on_duty.new.self same c.in_ok-change.ensures.change c.in_ok-change.ensures.values in
    on_both c.finish.result (λ h o. still c.args.self.now.core.values c.finish.new.self.core.values row c.in_ok-change.change c.on_duty.new.self c.is_ready-was_ready.result c.args.self.now.over c.finish.new.self.over gives
    (duty_moves c.args.self.now.core.values (shape_of c.args.self.now.disk.kept.log) c.args.due.now c.args.now) h c.is_ready-was_ready.ensures.value o) c.finish.ensures.values c.finish.ensures.over

pub returns-clause-taken : goal.returns-clause-taken
returns-clause-taken g c =
    let row : Row = does_duty c.args.self.now.core.values (shape_of c.args.self.now.disk.kept.log) c.args.due.now c.args.now in
    let own : Row = does_duty c.args.self.now.core.values c.index.result.now c.args.due.now c.args.now in
    let same : own ≡ row = ap (λ xs. does_duty c.args.self.now.core.values xs c.args.due.now c.args.now) c.index.ensures.index in
    let gives = gave row own c.in_ok-change.change c.on_duty.new.self same c.in_ok-change.ensures.change c.in_ok-change.ensures.values in
    on_ok c.finish.result (λ h. row_taken row c.args.self.now.core.values c.in_ok-change.change c.on_duty.new.self c.is_ready-was_ready.result c.args.now c.args.self.now.«module» c.finish.new.self.«module» c.args.self.now.over c.finish.new.self.over gives
    c.is_ready-was_ready.ensures.value h) c.finish.ensures.taken

pub returns-clause-went : goal.returns-clause-went
returns-clause-went g c =
    let row : Row = does_duty c.args.self.now.core.values (shape_of c.args.self.now.disk.kept.log) c.args.due.now c.args.now in
    let own : Row = does_duty c.args.self.now.core.values c.index.result.now c.args.due.now c.args.now in
    let same : own ≡ row = ap (λ xs. does_duty c.args.self.now.core.values xs c.args.due.now c.args.now) c.index.ensures.index in
    let gives = gave row own c.in_ok-change.change c.on_duty.new.self same c.in_ok-change.ensures.change c.in_ok-change.ensures.values in
    subst (λ z. Went g.D.Disk.state g.D.Disk.tells g.D.Disk.is_honest z c.args.self.now.disk c.finish.new.self.disk) gives.change c.finish.ensures.went

pub returns-clause-done : goal.returns-clause-done
returns-clause-done g c =
    let row : Row = does_duty c.args.self.now.core.values (shape_of c.args.self.now.disk.kept.log) c.args.due.now c.args.now in
    let own : Row = does_duty c.args.self.now.core.values c.index.result.now c.args.due.now c.args.now in
    let same : own ≡ row = ap (λ xs. does_duty c.args.self.now.core.values xs c.args.due.now c.args.now) c.index.ensures.index in
    let gives = gave row own c.in_ok-change.change c.on_duty.new.self same c.in_ok-change.ensures.change c.in_ok-change.ensures.values in
    subst (λ z. OnOk c.finish.result (Done g.D.Disk.state g.D.Disk.tells g.D.Disk.is_honest z c.args.self.now.disk c.finish.new.self.disk)) gives.change c.finish.ensures.done

pub returns-in_err-change-clause-went : goal.returns-in_err-change-clause-went
returns-in_err-change-clause-went g c = went_none g.D.Disk.state g.D.Disk.tells g.D.Disk.is_honest _ c.args.self.now.disk c.args.self.now.disk refl
