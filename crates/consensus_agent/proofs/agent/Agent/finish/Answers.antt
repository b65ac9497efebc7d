use Rattle.std.proofs.Common.{◌&&◌, ◌||◌, ap, ◌∙◌}
use Rattle.std.specs.Prelude.{not}
use Rattle.consensus_core.specs.Fit.{Held as CoreHeld}
use Rattle.consensus_core.specs.Member.{is_ready}
use Rattle.consensus_agent.specs.Sound.{is_cut}
use Rattle.consensus_agent.proofs.Spoken.{spoken_as}
use Rattle.consensus_agent.proofs.Disking.{done_after, told_by, went_after}
use Rattle.consensus_agent.proofs.Running.{values_in, kept_in}
use Rattle.consensus_agent.proofs.Sounding.{made_stands, over_of}
use Rattle.consensus_agent.proofs.Taking.{is_taken}
use Rattle.consensus_agent.proofs.agent.Agent.finish.Goals as goal

pub send-requires-clause-stands : goal.send-requires-clause-stands
send-requires-clause-stands g c =
    made_stands c.args.change c.args.self.now.core.values c.settle.new.self.core.values c.args.self.now.disk.kept c.make.new.self.disk.kept c.settle.new.self.disk.kept c.args.self.now.«module».consumed c.requires.can c.in_ok-make.ensures.made
    (ap values_in (c.settle.ensures.core ∙ c.in_ok-make.ensures.core))
    (ap kept_in c.settle.ensures.disk)

pub returns-clause-taken : goal.returns-clause-taken
returns-clause-taken g c =
    is_taken c.args.change c.args.was_ready c.args.self.now.core.values c.make.new.self.core.values c.args.now c.args.self.now.«module» c.make.new.self.«module» c.settle.new.self.«module» c.send.new.self.«module» c.args.self.now.over c.send.new.self.over
    c.in_ok-make.ensures.taken
    c.settle.ensures.taken
    c.send.ensures.module
    (ap values_in c.in_ok-make.ensures.core)
    (c.send.ensures.over
    ∙ over_of c.args.self.now.over c.make.new.self.over c.settle.new.self.over (is_cut c.args.change) (is_ready c.args.self.now.core.values.election.state && not c.args.was_ready) c.in_ok-make.ensures.over
    (c.settle.ensures.over ∙ ap (λ (h : CoreHeld). c.make.new.self.over || (is_ready h.values.election.state && not c.args.was_ready)) c.in_ok-make.ensures.core))

pub returns-in_err-packets-clause-went : goal.returns-in_err-packets-clause-went
returns-in_err-packets-clause-went g c = went_after g.D.Disk.state g.D.Disk.tells g.D.Disk.is_honest g.met.D.Disk.honest_tells c.args.change c.args.self.now.disk c.make.new.self.disk c.settle.new.self.disk c.send.new.self.disk c.make.ensures.went c.settle.ensures.disk c.send.ensures.looked

pub returns-clause-went : goal.returns-clause-went
returns-clause-went g c = went_after g.D.Disk.state g.D.Disk.tells g.D.Disk.is_honest g.met.D.Disk.honest_tells c.args.change c.args.self.now.disk c.make.new.self.disk c.settle.new.self.disk c.send.new.self.disk c.make.ensures.went c.settle.ensures.disk c.send.ensures.looked

pub returns-clause-done : goal.returns-clause-done
returns-clause-done g c =
    done_after g.D.Disk.state g.D.Disk.tells g.D.Disk.is_honest g.met.D.Disk.honest_tells c.args.change c.args.self.now.disk c.make.new.self.disk c.settle.new.self.disk c.send.new.self.disk c.make.ensures.went c.in_ok-make.ensures.done c.settle.ensures.disk c.send.ensures.looked
    c.in_ok-packets.ensures.same

pub returns-clause-sent : goal.returns-clause-sent
returns-clause-sent g c =
    spoken_as (g.D.Disk.tells c.settle.new.self.disk.disk) (g.D.Disk.tells c.args.self.now.disk.disk) c.settle.new.self.core c.args.self.now.core c.settle.new.self.disk.kept c.send.new.self.disk.kept c.in_ok-packets.packets
    (told_by g.D.Disk.state g.D.Disk.tells g.D.Disk.is_honest c.args.change c.args.self.now.disk c.make.new.self.disk c.settle.new.self.disk c.make.ensures.went c.settle.ensures.disk)
    (c.settle.ensures.core ∙ c.in_ok-make.ensures.core)
    c.send.ensures.disk
    c.in_ok-packets.ensures.sent
