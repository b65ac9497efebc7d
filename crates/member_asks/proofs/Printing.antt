-- What a member of a lawful world has committed is printed.
use Rattle.std.proofs.Common.{◌≡◌, ℕ, ◌≤◌, List, [], length, subst, arith}
use Rattle.entry_log.specs.Log.{Log}
use Rattle.service_api.specs.declared.shipped.Kind.{Kind}
use Rattle.consensus_core.specs.Member.{Member}
use Rattle.world.specs.World.{member}
use Rattle.service_runs.specs.Hosts.{longer}
use Rattle.one_log.specs.Led.{turns, led}
use Rattle.one_log.specs.Ruled.{rules_of}
use Rattle.one_log.proofs.Turns.{Stays, stays}
use Rattle.run_world.specs.Lawful.{Lawful}
use Rattle.run_world.specs.RunWorld.{RunWorld, committed, seat}
use Rattle.run_world.proofs.Printed.{longer-short}
use Rattle.run_world.proofs.Shown.{commit-within, member-shown}

pub prints-none : (xs : Log) → longer xs [] ≡ xs
prints-none xs = longer-short xs [] (omega arith)

pub is-printed : (n : ℕ) (kinds : List Kind) (w : RunWorld) (m : ℕ) → n ≤ 5 → length kinds ≤ 3 → Lawful n kinds w → longer w.printed (committed (seat w m).member) ≡ w.printed
is-printed n kinds w m five three lawful =
    let r = rules_of kinds in
    let d = turns kinds r (led n) lawful.taken in
    let h = d.hosted in
    let st : Stays n kinds r d = stays n kinds r lawful.taken five three in
    let s = lawful.shows in
    let within : length (committed (member h.world m)) ≤ length h.printed = commit-within n r h m st.held in
    longer-short w.printed (committed (seat w m).member)
    (subst (λ (p : Log). length (committed (seat w m).member) ≤ length p) s.printed (subst (λ (x : Member). length (committed x) ≤ length h.printed) (member-shown h w m s) within))
