use Rattle.std.proofs.Common.{[], ◌∷◌, refl, sym, subst}
use Rattle.cluster_tool.specs.declared.top.Single.{Single}
use Rattle.cluster_tool.specs.Words.{describe, recording}
use Rattle.cluster_tool.specs.Listed.{Runs, listing_of}
use Rattle.cluster_tool.proofs.Ending.{runs_looked}
use Rattle.cluster_tool.proofs.top.one.Goals as goal

pub returns-in-Describe : goal.returns-in-Describe
returns-in-Describe g c =
    subst (λ (s : Single). Runs g.D.Disk.tells g.D.Disk.is_honest g.D.Disk.state g.D.Disk.fault_count g.O.Sink.tells g.O.Sink.held g.O.Sink.fault_count (listing_of s) (c.args.disk ∷ []) (c.described.result.0 ∷ []) c.args.sink.now c.described.new.sink c.described.result.1)
    (sym c.in-Describe.is)
    (runs_looked g.D.Disk.tells g.D.Disk.is_honest g.D.Disk.state g.D.Disk.fault_count g.O.Sink.tells g.O.Sink.held g.O.Sink.fault_count (describe c.in-Describe.services)
    (c.args.disk ∷ []) (c.turned_away.new.disk ∷ []) _ _ _ _ (c.turned_away.ensures.seen, tt) (c.in-None.ensures.none refl, tt) c.described.ensures)

pub returns-in-Recorded : goal.returns-in-Recorded
returns-in-Recorded g c =
    subst (λ (s : Single). Runs g.D.Disk.tells g.D.Disk.is_honest g.D.Disk.state g.D.Disk.fault_count g.O.Sink.tells g.O.Sink.held g.O.Sink.fault_count (listing_of s) (c.args.disk ∷ []) (c.recorded.result.0 ∷ []) c.args.sink.now c.recorded.new.sink c.recorded.result.1)
    (sym c.in-Recorded.is)
    (runs_looked g.D.Disk.tells g.D.Disk.is_honest g.D.Disk.state g.D.Disk.fault_count g.O.Sink.tells g.O.Sink.held g.O.Sink.fault_count recording
    (c.args.disk ∷ []) (c.turned_away.new.disk ∷ []) _ _ _ _ (c.turned_away.ensures.seen, tt) (c.in-None.ensures.none refl, tt) c.recorded.ensures)
