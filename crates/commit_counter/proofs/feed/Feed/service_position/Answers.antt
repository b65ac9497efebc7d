use Rattle.std.proofs.Common.{rules, ap}
use Rattle.commit_counter.proofs.Counts.{asks}
use Rattle.commit_counter.proofs.feed.Feed.service_position.Goals as goal

pub load-requires : goal.load-requires
load-requires c = (search rules, search rules, asks _ _ c.self.inside.seat.me (ap (λ v. v.feeds) c.self.invariant.knows) (ap (λ v. v.polls) c.self.invariant.knows))
