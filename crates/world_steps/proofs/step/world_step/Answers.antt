-- A step that is made and printed.
use Rattle.world_steps.proofs.Promised.{is-step}
use Rattle.world_steps.proofs.step.world_step.Goals as goal

pub returns-clause-step : goal.returns-clause-step
returns-clause-step c = (is-step c.args.w.now c.make.new.w c.prints.new.self c.args.s.now c.requires.given c.requires.reached c.in_ok-make.ensures c.in_ok-prints.ensures).step_is

pub returns-clause-printed : goal.returns-clause-printed
returns-clause-printed c = (is-step c.args.w.now c.make.new.w c.prints.new.self c.args.s.now c.requires.given c.requires.reached c.in_ok-make.ensures c.in_ok-prints.ensures).printed

pub returns-clause-kinds : goal.returns-clause-kinds
returns-clause-kinds c = (is-step c.args.w.now c.make.new.w c.prints.new.self c.args.s.now c.requires.given c.requires.reached c.in_ok-make.ensures c.in_ok-prints.ensures).kinds

pub returns-clause-reached : goal.returns-clause-reached
returns-clause-reached c = (is-step c.args.w.now c.make.new.w c.prints.new.self c.args.s.now c.requires.given c.requires.reached c.in_ok-make.ensures c.in_ok-prints.ensures).reached

pub returns-clause-goes_on : goal.returns-clause-goes_on
returns-clause-goes_on c = (is-step c.args.w.now c.make.new.w c.prints.new.self c.args.s.now c.requires.given c.requires.reached c.in_ok-make.ensures c.in_ok-prints.ensures).goes_on

pub returns-clause-terms : goal.returns-clause-terms
returns-clause-terms c = (is-step c.args.w.now c.make.new.w c.prints.new.self c.args.s.now c.requires.given c.requires.reached c.in_ok-make.ensures c.in_ok-prints.ensures).safe.terms

pub returns-clause-votes : goal.returns-clause-votes
returns-clause-votes c = (is-step c.args.w.now c.make.new.w c.prints.new.self c.args.s.now c.requires.given c.requires.reached c.in_ok-make.ensures c.in_ok-prints.ensures).safe.votes

pub returns-clause-reigns : goal.returns-clause-reigns
returns-clause-reigns c = (is-step c.args.w.now c.make.new.w c.prints.new.self c.args.s.now c.requires.given c.requires.reached c.in_ok-make.ensures c.in_ok-prints.ensures).safe.reigns

pub returns-clause-opens : goal.returns-clause-opens
returns-clause-opens c = (is-step c.args.w.now c.make.new.w c.prints.new.self c.args.s.now c.requires.given c.requires.reached c.in_ok-make.ensures c.in_ok-prints.ensures).safe.opens

pub returns-clause-grounded : goal.returns-clause-grounded
returns-clause-grounded c = (is-step c.args.w.now c.make.new.w c.prints.new.self c.args.s.now c.requires.given c.requires.reached c.in_ok-make.ensures c.in_ok-prints.ensures).safe.grounded

pub returns-clause-agreed : goal.returns-clause-agreed
returns-clause-agreed c = (is-step c.args.w.now c.make.new.w c.prints.new.self c.args.s.now c.requires.given c.requires.reached c.in_ok-make.ensures c.in_ok-prints.ensures).safe.agreed

pub returns-clause-commits : goal.returns-clause-commits
returns-clause-commits c = (is-step c.args.w.now c.make.new.w c.prints.new.self c.args.s.now c.requires.given c.requires.reached c.in_ok-make.ensures c.in_ok-prints.ensures).safe.commits

pub returns-clause-cuts : goal.returns-clause-cuts
returns-clause-cuts c = (is-step c.args.w.now c.make.new.w c.prints.new.self c.args.s.now c.requires.given c.requires.reached c.in_ok-make.ensures c.in_ok-prints.ensures).safe.cuts

pub returns-clause-served : goal.returns-clause-served
returns-clause-served c = (is-step c.args.w.now c.make.new.w c.prints.new.self c.args.s.now c.requires.given c.requires.reached c.in_ok-make.ensures c.in_ok-prints.ensures).served

pub returns-clause-unchanged : goal.returns-clause-unchanged
returns-clause-unchanged c = (is-step c.args.w.now c.make.new.w c.prints.new.self c.args.s.now c.requires.given c.requires.reached c.in_ok-make.ensures c.in_ok-prints.ensures).unchanged

pub returns-clause-grows : goal.returns-clause-grows
returns-clause-grows c = (is-step c.args.w.now c.make.new.w c.prints.new.self c.args.s.now c.requires.given c.requires.reached c.in_ok-make.ensures c.in_ok-prints.ensures).grows
