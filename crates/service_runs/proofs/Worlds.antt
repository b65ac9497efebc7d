-- Each act is at most one step of the world, and what a start begins with.
use Rattle.std.proofs.Common.{◌≡◌, ℕ, ◌<◌, Bool, true, false, not, ◌&&◌, List, [], ◌∷◌, ◌++◌, length, refl, sym, ap, ◌∙◌, arith}
use Rattle.std.specs.Prelude.{nat_lt}
use Rattle.std.proofs.lemmas.Bool.Decides.{nat_tests}
use Rattle.world.specs.World.{World, Step, Starts, Puts, Invalidates, member, step, run, is_running}
use Rattle.consensus_core.specs.Member.{Member, Cut, starts}
use Rattle.world.proofs.Kept.{member-put_same}
use Rattle.world.proofs.Effects.{if-cases}
use Rattle.service_runs.specs.Hosts.{Rules, Stage, Idle, Taking, Over, Ending, Host, Hosted, Act, Rows, Mounts, Drops, Opens, Feeds, Takes, Closes, Writes, Sends, begun, follow, is_idle, is_taking, is_row, is_free, is_feeding, feed_of, input, all_reach, writes, sends, act, acts_on}

abbrev pub StepsTo : World → World → Type 0
StepsTo w v = (steps : List Step) × (v ≡ run w steps)

abbrev To : Hosted → Hosted → Type 0
To w z = StepsTo w.world z.world

none-to : (w : Hosted) → To w w
none-to w = ([], refl)

writes-steps : (r : Rules) (w : Hosted) (m : ℕ) (s : Stage) (cut : Cut) → To w (writes r w m s cut)
writes-steps r w m Idle cut = none-to w
writes-steps r w m Taking cut = none-to w
writes-steps r w m Over cut = none-to w
writes-steps r w m (Ending upto []) cut = none-to w
writes-steps r w m (Ending upto (d ∷ due)) cut = if-cases (To w) (is_running w.world m) _ _ (λ b. (Puts m d.entries d.snap cut ∷ [], refl)) (λ b. none-to w)

sends-steps : (r : Rules) (w : Hosted) (m : ℕ) (s : Stage) → To w (sends r w m s)
sends-steps r w m Idle = none-to w
sends-steps r w m Taking = none-to w
sends-steps r w m Over = none-to w
sends-steps r w m (Ending upto (d ∷ due)) = none-to w
sends-steps r w m (Ending upto []) = if-cases (To w) (is_running w.world m) _ _ (λ b. ([], refl)) (λ b. none-to w)

act-steps : (r : Rules) (w : Hosted) (a : Act) → To w (act r w a)
act-steps r w (Rows s) = if-cases (To w) (is_row s && is_free w s) _ _ (λ b. (s ∷ [], refl)) (λ b. none-to w)
act-steps r w (Mounts m) = (Starts m r.services ∷ [], refl)
act-steps r w (Drops m) = (Invalidates m r.services ∷ [], refl)
act-steps r w (Opens m) = if-cases (To w) (is_running w.world m && is_idle (w.hosts m).stage) _ _ (λ b. ([], refl)) (λ b. none-to w)
act-steps r w (Feeds m s c) = if-cases (To w) (is_running w.world m && is_feeding (w.hosts m).stage) _ _ (λ b. ([], refl)) (λ b. none-to w)
act-steps r w (Takes m s) =
    if-cases (To w) (is_running w.world m && (is_taking (w.hosts m).stage && (nat_lt s r.services && nat_lt (length (input (w.hosts m) s)) (feed_of (w.hosts m) s).published))) _ _ (λ b. ([], refl)) (λ b. none-to w)
act-steps r w (Closes m) = if-cases (To w) (is_running w.world m && (is_taking (w.hosts m).stage && all_reach (member w.world m).values.rest.commit (w.hosts m).run.inputs)) _ _ (λ b. ([], refl)) (λ b. none-to w)
act-steps r w (Writes m cut) = writes-steps r w m (w.hosts m).stage cut
act-steps r w (Sends m) = sends-steps r w m (w.hosts m).stage

run-append : (w : World) (xs ys : List Step) → run w (xs ++ ys) ≡ run (run w xs) ys
run-append w [] ys = refl
run-append w (x ∷ xs) ys = run-append (step w x) xs ys

pub acts-steps : (r : Rules) (w : Hosted) (as' : List Act) → StepsTo w.world (acts_on r w as').world
acts-steps r w [] = ([], refl)
acts-steps r w (a ∷ as') =
    let z = act-steps r w a in
    let y = acts-steps r (act r w a) as' in
    (z.0 ++ y.0, y.1 ∙ ap (λ (u : World). run u y.0) z.1 ∙ sym (run-append w.world z.0 y.0))

-- a start begins each service with the entries that the latest valid set of the disk stands for
pub mount-begins : (r : Rules) (w : Hosted) (m : ℕ) → m < length w.world.members → (member w.world m).up ≡ false
    → ((act r w (Mounts m)).hosts m).run ≡ (begun r (starts m (length w.world.members) r.services (member w.world m).durable) []).run
mount-begins r w m l down =
    let x = member w.world m in
    let y = starts m (length w.world.members) r.services x.durable in
    let go : (nat_lt m (length w.world.members) && not x.up) ≡ true = both (nat_lt m (length w.world.members)) x.up (grind (arith, nat_tests, l)) down in
    let at : member (step w.world (Starts m r.services)) m ≡ y = rw go (member-put_same w.world m y [] [] [] l) in
    ap (λ (z : Member). (follow r x z (w.hosts m)).run) at ∙ fresh-run down
  where
    both : (a b : Bool) → a ≡ true → b ≡ false → (a && not b) ≡ true
    both true false e f = refl
    both true true e f = absurd (cc)
    both false b e f = absurd (cc)

    fresh-run : (member w.world m).up ≡ false
        → (follow r (member w.world m) (starts m (length w.world.members) r.services (member w.world m).durable) (w.hosts m)).run ≡ (begun r (starts m (length w.world.members) r.services (member w.world m).durable) []).run
    fresh-run no-up = if-cases (λ (z : Host). z.run ≡ (begun r (starts m (length w.world.members) r.services (member w.world m).durable) []).run) (member w.world m).up _ _ (λ t. absurd (cc)) (λ f. refl)
