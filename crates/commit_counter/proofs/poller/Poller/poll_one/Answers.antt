use Rattle.std.proofs.Common.{rules, arith, ap, ◌∙◌}
use Rattle.commit_counter.proofs.Counts.{looks, moves}
use Rattle.commit_counter.proofs.Lines.{takes, starts}
use Rattle.commit_counter.proofs.poller.Poller.poll_one.Goals as goal

pub load-self-inside-requires : goal.load-self-inside-requires
load-self-inside-requires g c =
    let k = c.self.invariant.knows in (
      search rules,
      search rules,
      looks _ _ c.self.inside.seat.me (ap (λ v. v.feeds) k) (ap (λ v. v.polls) k),
    )

pub pop_as-requires-clause-rule : goal.pop_as-requires-clause-rule
pop_as-requires-clause-rule g c = (takes _ _ c.self.invariant.pops, starts _ _ c.self.invariant.pops)

pub store-requires : goal.store-requires
store-requires g c =
    let k = c.self.invariant.knows in
    let n = c.load-self-inside.ensures in
    let now = ap (λ m. m.0) n.2.0 in (
      search rules,
      search rules,
      moves _ _ c.load-self-inside.new.seat.me _ (ap (λ v. v.feeds) now ∙ ap (λ v. v.feeds) k) (ap (λ v. v.polls) now ∙ ap (λ v. v.polls) k)
          (let position = ap (λ v. v.position) now ∙ ap (λ v. v.position) k in omega arith)
          (let seen = ap (λ v. v.seen) now in omega arith),
    )
