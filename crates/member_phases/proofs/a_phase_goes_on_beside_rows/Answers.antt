use Rattle.std.proofs.Common.{true, subst}
use Rattle.consensus_core.specs.declared.row.Row.{Row}
use Rattle.consensus_core.specs.Member.{stopped}
use Rattle.member_rows.specs.Calls.{RowDone}
use Rattle.member_rows.proofs.Bytes.{read-spells}
use Rattle.member_rows.proofs.Handed.{duty-ready, duty-same, log-spelled, packet-ready, packet-same}
use Rattle.run_world.specs.RunWorld.{due_at, seat}
use Rattle.consensus_core.specs.Member.{row_of_duty, row_of_packet}
use Rattle.member_phases.proofs.Beside.{dropped-acted, dropped-halted, goes-beside, more-beside, row-beside}
use Rattle.member_phases.proofs.Worlds.{commit-low}
use Rattle.member_phases.proofs.a_phase_goes_on_beside_rows.Goals as goal

pub returns-clause-beside : goal.returns-clause-beside
returns-clause-beside g c kinds u v feeds s t runs d = goes-beside kinds u v feeds s t runs d

pub returns-clause-appended : goal.returns-clause-appended
returns-clause-appended g c u v s t more lending consumed applied run rises low log over = more-beside u v s t more lending consumed applied run rises low log over

pub returns-clause-packet : goal.returns-clause-packet
returns-clause-packet g c n kinds w m now u v bytes p out f lawful fits read up done whole =
    let s = seat w m in
    let spelled = read-spells bytes p fits read in
    let d = done p spelled.0 spelled.1 in
    let ready = packet-ready g.D.Disk.state kinds u true s up d.was now p spelled.0 in
    let here = subst (λ (r : Row). RowDone g.D.Disk.state g.D.Disk.tells g.D.Disk.is_honest r now u v out) (packet-same g.D.Disk.state kinds u true s up d.was now p) d in
    row-beside _ _ _ kinds (row_of_packet s.member p now) now u v s out up ready (commit-low n kinds w m lawful) here f whole

pub returns-clause-duty : goal.returns-clause-duty
returns-clause-duty g c n kinds w m now u v out f five three lawful early up d whole =
    let s = seat w m in
    let ready = duty-ready g.D.Disk.state kinds u true s up d.was now three early (log-spelled n kinds w m five three lawful) in
    let here = subst (λ (r : Row). RowDone g.D.Disk.state g.D.Disk.tells g.D.Disk.is_honest r now u v out) (duty-same g.D.Disk.state kinds u true s up d.was now) d in
    row-beside _ _ _ kinds (row_of_duty s.member (due_at kinds s now) now) now u v s out up ready (commit-low n kinds w m lawful) here f whole

pub returns-clause-broken : goal.returns-clause-broken
returns-clause-broken g c kinds row now f s x v ended d inputs cut is was own = dropped-acted _ kinds x v ended d inputs row now s was own f cut is

pub returns-clause-failed : goal.returns-clause-failed
returns-clause-failed g c kinds k s x v ended d inputs is was own = dropped-halted _ kinds x v ended d inputs (stopped s.member.durable) k s is was own
