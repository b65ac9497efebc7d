use Rattle.std.proofs.Common.{rules, ◌≡◌, length, vec_len, ap, subst, List, arith}
use Rattle.std.proofs.lemmas.List.{length-map}
use Rattle.std.specs.declared.snapshot.Snapshot.{Snapshot}
use Rattle.commit_counter.specs.Ends.{Fed}
use Rattle.service_container.specs.Held.{Held}
use Rattle.service_container.specs.declared.container.Served.{Served}
use Rattle.service_phases.specs.Pairs.{Each2}
use Rattle.service_phases.specs.Phases.{Lending, BeginsAt, RanFor, Closed}
use Rattle.service_phases.proofs.Lists.{same_length}
use Rattle.service_phases.proofs.Ends.{ends_within, ends_whole, ends_at, may_close}
use Rattle.service_phases.proofs.services.Services.end.Goals as goal

pub close_each-requires-clause-close : goal.close_each-requires-clause-close
close_each-requires-clause-close g c = rw (c.into_vec-feeds.ensures, c.into_vec-served.ensures) (may_close _ _ c.requires.finished c.requires.images)

pub close_each-requires-clause-room : goal.close_each-requires-clause-room
close_each-requires-clause-room g c =
    let many : length c.args.self.now.lent ≡ length c.args.served = same_length RanFor _ _ c.requires.served in
    let lent = ap (λ (a : Lending). length a.lent) c.self.view_is in
    let served = ap length c.into_vec-served.ensures in
    let n : vec_len c.into_vec-served.result ≡ length c.into_vec-served.result.items = search rules in
    omega (arith, many, lent, served, n, c.self.invariant.room, length-map c.self.inside.lent.items (λ (x : Snapshot Held). x.value))

pub returns-clause-closed : goal.returns-clause-closed
returns-clause-closed g c =
    let Q : (List Fed × List Served) → Type 0 = λ z. Each2 Closed z.0 z.1 in
    subst Q (λ i. (c.into_vec-feeds.ensures i, c.into_vec-served.ensures i)) c.close_each.ensures.closed

pub returns-clause-within : goal.returns-clause-within
returns-clause-within g c log commit within feeds =
    let P : Lending → Type 0 = λ a. Each2 BeginsAt a.lent a.begun in
    let begins = subst P c.self.view_is c.self.invariant.begins in
    ends_within log commit _ _ _ _ within begins feeds c.requires.served (returns-clause-closed g c)

pub returns-clause-whole : goal.returns-clause-whole
returns-clause-whole g c log commit within feeds has ended =
    let P : Lending → Type 0 = λ a. Each2 BeginsAt a.lent a.begun in
    let begins = subst P c.self.view_is c.self.invariant.begins in
    ends_whole log commit _ _ _ _ within begins feeds c.requires.served (returns-clause-closed g c) has ended

pub returns-clause-place : goal.returns-clause-place
returns-clause-place g c commit has ended = ends_at commit _ _ _ c.requires.served (returns-clause-closed g c) has ended
