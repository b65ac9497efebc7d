use Rattle.std.proofs.Common.{subst, sym, rules}
use Rattle.std.specs.Prelude.{IsTrue, IfErr}
use Rattle.std.proofs.lemmas.Result.{err_from_is_err_and}
use Rattle.consensus_agent.specs.Faults.{IsNoDamage}
use Rattle.consensus_agent.proofs.Disking.{looked_once}
use Rattle.consensus_agent.proofs.Found.{within, like, exactly, undamaged}
use Rattle.consensus_agent.proofs.agent.Agent.read.Goals as goal

pub read-requires-clause-index : goal.read-requires-clause-index
read-requires-clause-index g c =
    let whole : IsTrue c.args.self.now.is_whole = search rules in
    within c.args.self.now.core.values c.args.self.now.disk.kept c.args.self.now.disk.whole c.args.self.now.«module» c.args.index (c.args.self.now.sound whole) c.requires

pub returns-in_err-entry-clause-undamaged : goal.returns-in_err-entry-clause-undamaged
returns-in_err-entry-clause-undamaged g c = λ tells.
    let whole : IsTrue c.args.self.now.is_whole = search rules in
    let below = within c.args.self.now.core.values c.args.self.now.disk.kept c.args.self.now.disk.whole c.args.self.now.«module» c.args.index (c.args.self.now.sound whole) c.requires in
    let p = err_from_is_err_and c.from_residual.result c.from_residual.ensures.1 in
    subst (λ r. IfErr r IsNoDamage) (sym p.1) (undamaged c.args.self.now.disk.kept.log c.args.index _ p.0 below (c.in_err-entry.ensures.exact tells) p.2)

pub returns-clause-entry : goal.returns-clause-entry
returns-clause-entry g c =
    let whole : IsTrue c.args.self.now.is_whole = search rules in
    like c.args.self.now.disk.kept.log c.args.index c.in_ok-entry.entry (within c.args.self.now.core.values c.args.self.now.disk.kept c.args.self.now.disk.whole c.args.self.now.«module» c.args.index (c.args.self.now.sound whole) c.requires) c.in_ok-entry.ensures.entry

pub returns-clause-exact : goal.returns-clause-exact
returns-clause-exact g c = λ tells.
    let whole : IsTrue c.args.self.now.is_whole = search rules in
    exactly c.args.self.now.disk.kept.log c.args.index c.in_ok-entry.entry (within c.args.self.now.core.values c.args.self.now.disk.kept c.args.self.now.disk.whole c.args.self.now.«module» c.args.index (c.args.self.now.sound whole) c.requires) (c.in_ok-entry.ensures.exact tells)

pub returns-in_err-entry-clause-looked : goal.returns-in_err-entry-clause-looked
returns-in_err-entry-clause-looked g c = looked_once g.D.Disk.state g.D.Disk.tells g.D.Disk.is_honest c.args.self.now.disk c.read.new.self c.read.result c.read.ensures.kept c.read.ensures.tells c.read.ensures.honest c.read.ensures.looks

pub returns-clause-looked : goal.returns-clause-looked
returns-clause-looked g c = looked_once g.D.Disk.state g.D.Disk.tells g.D.Disk.is_honest c.args.self.now.disk c.read.new.self c.read.result c.read.ensures.kept c.read.ensures.tells c.read.ensures.honest c.read.ensures.looks
