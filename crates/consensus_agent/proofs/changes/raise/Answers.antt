use Rattle.std.proofs.Common.{◌≡◌, to_z, of_z, w64, subst}
use Rattle.std.proofs.lemmas.Int.{to_z-of_z}
use Rattle.consensus_core.specs.declared.change.Change.TheVariants as changes
use Rattle.consensus_agent.specs.Disks.{Done, Went}
use Rattle.consensus_agent.proofs.Disking.{raise_went, raise_done}
use Rattle.consensus_agent.proofs.Running.{ok_out}
use Rattle.consensus_agent.proofs.changes.raise.Goals as goal

pub returns-in_err-raise_term-clause-went : goal.returns-in_err-raise_term-clause-went
returns-in_err-raise_term-clause-went g c =
    let same : to_z w64 (of_z w64 c.args.term) ≡ c.args.term = to_z-of_z w64 c.args.term c.ranges.term in
    subst (λ t. Went g.D.Disk.state g.D.Disk.tells g.D.Disk.is_honest (changes.Raise t c.args.voted) c.args.disk.now c.raise_term.new.self) same
    (raise_went g.D.Disk.state g.D.Disk.moment g.D.Disk.left_since g.D.Disk.tells g.D.Disk.is_honest (to_z w64 (of_z w64 c.args.term)) c.args.voted c.args.disk.now c.raise_term.new.self c.raise_term.result c.raise_term.ensures.tells c.raise_term.ensures.honest c.raise_term.ensures.ok c.raise_term.ensures.err c.raise_term.ensures.cut_well)

pub returns-clause-went : goal.returns-clause-went
returns-clause-went g c =
    let same : to_z w64 (of_z w64 c.args.term) ≡ c.args.term = to_z-of_z w64 c.args.term c.ranges.term in
    subst (λ t. Went g.D.Disk.state g.D.Disk.tells g.D.Disk.is_honest (changes.Raise t c.args.voted) c.args.disk.now c.raise_term.new.self) same
    (raise_went g.D.Disk.state g.D.Disk.moment g.D.Disk.left_since g.D.Disk.tells g.D.Disk.is_honest (to_z w64 (of_z w64 c.args.term)) c.args.voted c.args.disk.now c.raise_term.new.self c.raise_term.result c.raise_term.ensures.tells c.raise_term.ensures.honest c.raise_term.ensures.ok c.raise_term.ensures.err c.raise_term.ensures.cut_well)

pub returns-clause-done : goal.returns-clause-done
returns-clause-done g c =
    let same : to_z w64 (of_z w64 c.args.term) ≡ c.args.term = to_z-of_z w64 c.args.term c.ranges.term in
    subst (λ t. Done g.D.Disk.state g.D.Disk.tells g.D.Disk.is_honest (changes.Raise t c.args.voted) c.args.disk.now c.raise_term.new.self) same
    (ok_out c.raise_term.result _ c.in_ok-raise_term.was (raise_done g.D.Disk.state g.D.Disk.moment g.D.Disk.left_since g.D.Disk.tells g.D.Disk.is_honest (to_z w64 (of_z w64 c.args.term)) c.args.voted c.args.disk.now c.raise_term.new.self c.raise_term.result c.raise_term.ensures.ok c.raise_term.ensures.made))
