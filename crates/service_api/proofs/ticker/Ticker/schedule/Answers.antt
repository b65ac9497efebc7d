use Rattle.std.proofs.Common.{rules, w64, to_z, FitsSigned, pos, ◌+ℤ◌, Result, Ok, Err, OnOk, ◌≡◌, ◌&&◌, ◌^◌, true, false, ap, sym, ◌∙◌, arith}
use Rattle.std.specs.Prelude.{nat_lt}
use Rattle.std.proofs.lemmas.Bool.Decides.{nat_tests}
use Rattle.std.proofs.lemmas.Int.{to_z-of_z, ints}
use Rattle.service_api.specs.Ticker.{has_room}
use Rattle.service_api.proofs.ticker.Ticker.schedule.Goals as goal

is_scheduled : (c : goal.After-put) → (nat_lt c.args.delay (2 ^ 32) && has_room c.args.self.now c.args.id) ≡ true
is_scheduled c =
    let fits = c.ranges.id in
    let is = simp to_z-of_z at c.has_room.ensures in
    let room : has_room c.args.self.now c.args.id ≡ true = sym is ∙ c.if-not-has_room.false in
    let below = c.if-delay-ge-DELAY_LIMIT.false in
    let soon : nat_lt c.args.delay (2 ^ 32) ≡ true = grind (arith, nat_tests) in
    rw (soon, room)

pub returns-clause-state : goal.returns-clause-state
returns-clause-state c =
    let id = c.ranges.id in
    let session = c.ranges.session in
    rw (is_scheduled c) (simp to_z-of_z at c.put.ensures.ok)

on_ok : {A B : Type 0} (r : Result A B) (P : Type 0) → P → OnOk r P
on_ok (Ok x) P p = p
on_ok (Err e) P p = tt

pub returns-clause-outputs : goal.returns-clause-outputs
returns-clause-outputs c =
    let id = c.ranges.id in
    let stamp = c.ranges.stamp in
    let below = c.if-delay-ge-DELAY_LIMIT.false in
    let delay : to_z w64 c.args.delay ≡ pos c.args.delay = omega (arith, ints) in
    let fits : FitsSigned w64 (c.args.stamp +ℤ pos c.args.delay) = search rules in
    rw (is_scheduled c) (on_ok c.put.result _ (simp (to_z-of_z, delay) at c.in_ok-push.ensures.ok))
