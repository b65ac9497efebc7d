use Rattle.std.proofs.Common.{ℕ, OnOk, List, ◌++◌, sym, ap, subst}
use Rattle.service_container.specs.Held.{Held}
use Rattle.service_phases.specs.Pairs.{Each, Each2}
use Rattle.service_phases.specs.Phases.{HasAll, IsWithin, Lending}
use Rattle.run_phases.specs.Grown.{GoesOn}
use Rattle.run_phases.proofs.Fronts.{commit_in}
use Rattle.run_phases.proofs.Grown.{all_twice, spliced}
use Rattle.run_phases.proofs.Stays.{holds_log}
use Rattle.run_phases.proofs.free.free_end.Goals as goal

pub returns-in-Err-clause-grew : goal.returns-in-Err-clause-grew
returns-in-Err-clause-grew g c =
    let mid = c.free_feed.new.agent.services in
    let back = c.free_drop.ensures.back in
    subst (Each2 GoesOn c.args.agent.now.services.lent) (sym (ap (λ (l : Lending). l.kept) back.lending)) (spliced _ c.args.agent.now.services.lent mid.kept mid.lent back.back c.free_feed.ensures.grew c.free_feed.ensures.free.runs.lent back.went)

pub returns-in-Err-clause-within : goal.returns-in-Err-clause-within
returns-in-Err-clause-within g c log is feeds =
    let commit = ap commit_in c.free_feed.ensures.core in
    let mid = c.free_feed.new.agent.services in
    subst (λ (k : ℕ). Each (IsWithin log k) c.free_drop.new.agent.services.kept) commit
    (c.free_drop.ensures.within log (holds_log log _ _ (c.free_feed.ensures.log log is feeds)) (subst (λ (k : ℕ). Each (IsWithin log k) mid.kept) (sym commit) (c.free_feed.ensures.within log is feeds)))

pub returns-clause-grew : goal.returns-clause-grew
returns-clause-grew g c =
    let mid = c.free_feed.new.agent.services in
    let old = c.args.agent.now.services.lent in
    let first : Each2 GoesOn old mid.lent = subst (λ (k : List Held). Each2 GoesOn old (k ++ mid.lent)) c.in_default.ensures.going.kept c.free_feed.ensures.grew in
    all_twice _ old mid.lent c.end_fed.new.agent.services.kept first c.free_feed.ensures.free.runs.lent c.end_fed.ensures.grew

pub returns-clause-within : goal.returns-clause-within
returns-clause-within g c log is feeds =
    subst (λ (k : ℕ). Each (IsWithin log k) c.end_fed.new.agent.services.kept) (ap commit_in c.free_feed.ensures.core) (c.end_fed.ensures.within log (holds_log log _ _ (c.free_feed.ensures.log log is feeds)))

pub returns-clause-all : goal.returns-clause-all
returns-clause-all g c log is feeds =
    subst (λ (k : ℕ). OnOk c.end_fed.result (Each (HasAll log k) c.end_fed.new.agent.services.kept)) (ap commit_in c.free_feed.ensures.core) (c.end_fed.ensures.all log (holds_log log _ _ (c.free_feed.ensures.log log is feeds)))
