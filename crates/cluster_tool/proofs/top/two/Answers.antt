use Rattle.std.proofs.Common.{[], ◌∷◌, refl}
use Rattle.cluster_tool.specs.Words.{verify}
use Rattle.cluster_tool.proofs.Ending.{runs_looked}
use Rattle.cluster_tool.proofs.top.two.Goals as goal

pub returns-in-None-turned_away : goal.returns-in-None-turned_away
returns-in-None-turned_away g c =
    runs_looked g.D.Disk.tells g.D.Disk.is_honest g.D.Disk.state g.D.Disk.fault_count g.O.Sink.tells g.O.Sink.held g.O.Sink.fault_count verify
    (c.args.first ∷ c.args.second ∷ []) (c.turned_away.new.disk ∷ c.turned_away-in-None.new.disk ∷ []) _ _ _ _
    (c.turned_away.ensures.seen, (c.turned_away-in-None.ensures.seen, tt)) (c.in-None.ensures.none refl, (c.in-None-turned_away.ensures.none refl, tt)) c.verified.ensures
