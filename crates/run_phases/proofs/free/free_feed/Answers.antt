use Rattle.std.proofs.Common.{rules, ◌≡◌, ◌∙◌, true, false, List, ◌++◌, refl, sym, subst}
use Rattle.service_container.specs.Held.{Held}
use Rattle.service_phases.specs.Pairs.{Each2}
use Rattle.run_phases.specs.Grown.{GoesOn}
use Rattle.run_phases.proofs.Frees.{may_finish, runs_on, fed_due}
use Rattle.run_phases.proofs.Fronts.{ahead_same}
use Rattle.run_phases.proofs.Grown.{all_none, all_twice}
use Rattle.run_phases.proofs.free.free_feed.Goals as goal

pub returns-in_err-fed-clause-free : goal.returns-in_err-fed-clause-free
returns-in_err-fed-clause-free g c = record {
  runs = runs_on _ _ _ _ _ c.loop.invariant.free.runs c.feed.ensures.on;
  finish = may_finish _ _ _ c.feed.ensures.phase.fed;
}

pub have_published-requires : goal.have_published-requires
have_published-requires g c = rw (c.as_slice.ensures, c.commit.ensures) (fed_due _ _ _ c.feed.ensures.phase.fed)

pub returns-then-eq-clause-free : goal.returns-then-eq-clause-free
returns-then-eq-clause-free g c = record {
  runs = runs_on _ _ _ _ _ c.loop.invariant.free.runs c.feed.ensures.on;
  finish = may_finish _ _ _ c.feed.ensures.phase.fed;
}

pub go_on-requires-clause-free : goal.go_on-requires-clause-free
go_on-requires-clause-free g c κs within = record {
  runs = runs_on _ _ _ _ _ c.loop.invariant.free.runs c.feed.ensures.on;
  finish = may_finish _ _ _ c.feed.ensures.phase.fed;
}

pub loop-init : goal.loop-init
loop-init g c = record {
  free = c.requires.free;
  going = c.requires.going;
  over = refl;
  held = refl;
  core = refl;
  base = refl;
  disk = refl;
  role = refl;
  whole = refl;
  grew = all_none c.args.agent.now.services.lent;
  log = λ log is has. has;
  stays = λ over. (refl, refl);
}

pub loop-preserved : goal.loop-preserved
loop-preserved g c =
    let i = c.loop.invariant in
    let a = c.loop.agent in
    let b = c.go_on.new.agent in
    let on : a.over ≡ false = search rules in
    let going = c.in_ok-go_on.ensures.going in
    let cs = c.args.agent.now.services.lent in
    record {
      free = c.go_on.ensures.free;
      going = going;
      over = c.in_ok-go_on.ensures.over ∙ i.over;
      held = c.go_on.ensures.module ∙ i.held;
      core = c.go_on.ensures.core ∙ i.core;
      base = c.go_on.ensures.base ∙ i.base;
      disk = c.go_on.ensures.disk ∙ i.disk;
      role = c.go_on.ensures.role ∙ i.role;
      whole = c.go_on.ensures.whole ∙ i.whole;
      grew = subst (λ (k : List Held). Each2 GoesOn cs (k ++ b.services.lent)) going.kept (all_twice _ cs _ _ i.grew i.free.runs.lent c.go_on.ensures.grew);
      log = λ log is has.
          let was = i.log log is has in
          c.go_on.ensures.log log (record { lent = was.lent; fed = c.feed.ensures.log log a.services.begun (ahead_same log _ _ i.held is) was.fed });
      stays = λ over. absurd (let e : true ≡ false = sym over ∙ sym i.over ∙ on in cc);
    }

pub returns-in_err-go_on-clause-grew : goal.returns-in_err-go_on-clause-grew
returns-in_err-go_on-clause-grew g c = all_twice _ _ _ _ c.loop.invariant.grew c.loop.invariant.free.runs.lent c.go_on.ensures.grew
