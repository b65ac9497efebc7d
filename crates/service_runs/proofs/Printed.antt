-- With each act the printed log only grows.
use Rattle.std.proofs.Common.{ℕ, ◌&&◌, [], ◌∷◌, length, arith}
use Rattle.std.specs.Prelude.{nat_lt}
use Rattle.std.proofs.lemmas.Int.{ints}
use Rattle.entry_log.specs.Log.{Log, IsPrefixOf}
use Rattle.log_replication.specs.Prefixes.{is_prefix, Leads-self}
use Rattle.world.specs.World.{Step, Starts, Puts, Invalidates, member, step, is_running}
use Rattle.consensus_core.specs.Member.{Cut}
use Rattle.world.proofs.Effects.{if-cases}
use Rattle.agreement.proofs.Runs2.{step-fits}
use Rattle.agreement.proofs.Moves.{step-moves}
use Rattle.service_runs.specs.Hosts.{Rules, Stage, Idle, Taking, Over, Ending, Hosted, Act, Rows, Mounts, Drops, Opens, Feeds, Takes, Closes, Writes, Sends, noted, is_idle, is_taking, is_row, is_free, feed_of, is_feeding, input, all_reach, writes, sends, act}
use Rattle.service_runs.proofs.Held.{Held, prints, settled-moves}

self-prefix : (xs : Log) → IsPrefixOf xs xs
self-prefix xs = is_prefix xs xs (Leads-self xs)

-- the printed log only grows
noted-printed : (n : ℕ) (r : Rules) (w : Hosted) (s : Step) → Held n r w → IsPrefixOf w.printed (noted r w (step w.world s)).printed
noted-printed n r w s k =
    is_prefix w.printed (noted r w (step w.world s)).printed
    (prints n (step w.world s) (length (step w.world s).members) w.printed (step-fits n w.world s k.inv k.fits)
    (k.printed.0, settled-moves w.world (step w.world s) k.printed.0 k.printed.0 w.printed (step-moves n w.world s k.inv k.fits) (omega (arith, ints)) k.printed.1)).1

writes-printed : (n : ℕ) (r : Rules) (w : Hosted) (m : ℕ) (s : Stage) (cut : Cut) → Held n r w → IsPrefixOf w.printed (writes r w m s cut).printed
writes-printed n r w m Idle cut k = self-prefix w.printed
writes-printed n r w m Taking cut k = self-prefix w.printed
writes-printed n r w m Over cut k = self-prefix w.printed
writes-printed n r w m (Ending upto []) cut k = self-prefix w.printed
writes-printed n r w m (Ending upto (d ∷ due)) cut k =
    if-cases (λ (z : Hosted). IsPrefixOf w.printed z.printed) (is_running w.world m) _ _ (λ b. noted-printed n r w (Puts m d.entries d.snap cut) k) (λ b. self-prefix w.printed)

sends-printed : (r : Rules) (w : Hosted) (m : ℕ) (s : Stage) → IsPrefixOf w.printed (sends r w m s).printed
sends-printed r w m Idle = self-prefix w.printed
sends-printed r w m Taking = self-prefix w.printed
sends-printed r w m Over = self-prefix w.printed
sends-printed r w m (Ending upto (d ∷ due)) = self-prefix w.printed
sends-printed r w m (Ending upto []) = if-cases (λ (z : Hosted). IsPrefixOf w.printed z.printed) (is_running w.world m) _ _ (λ b. self-prefix w.printed) (λ b. self-prefix w.printed)

pub act-printed : (n : ℕ) (r : Rules) (w : Hosted) (a : Act) → Held n r w → IsPrefixOf w.printed (act r w a).printed
act-printed n r w (Rows s) k = if-cases (λ (z : Hosted). IsPrefixOf w.printed z.printed) (is_row s && is_free w s) _ _ (λ b. noted-printed n r w s k) (λ b. self-prefix w.printed)
act-printed n r w (Mounts m) k = noted-printed n r w (Starts m r.services) k
act-printed n r w (Drops m) k = noted-printed n r w (Invalidates m r.services) k
act-printed n r w (Opens m) k = if-cases (λ (z : Hosted). IsPrefixOf w.printed z.printed) (is_running w.world m && is_idle (w.hosts m).stage) _ _ (λ b. self-prefix w.printed) (λ b. self-prefix w.printed)
act-printed n r w (Feeds m s c) k = if-cases (λ (z : Hosted). IsPrefixOf w.printed z.printed) (is_running w.world m && is_feeding (w.hosts m).stage) _ _ (λ b. self-prefix w.printed) (λ b. self-prefix w.printed)
act-printed n r w (Takes m s) k =
    if-cases (λ (z : Hosted). IsPrefixOf w.printed z.printed) (is_running w.world m && (is_taking (w.hosts m).stage && (nat_lt s r.services && nat_lt (length (input (w.hosts m) s)) (feed_of (w.hosts m) s).published))) _ _ (λ b. self-prefix w.printed) (λ b. self-prefix w.printed)
act-printed n r w (Closes m) k =
    if-cases (λ (z : Hosted). IsPrefixOf w.printed z.printed) (is_running w.world m && (is_taking (w.hosts m).stage && all_reach (member w.world m).values.rest.commit (w.hosts m).run.inputs)) _ _ (λ b. self-prefix w.printed) (λ b. self-prefix w.printed)
act-printed n r w (Writes m cut) k = writes-printed n r w m (w.hosts m).stage cut k
act-printed n r w (Sends m) k = sends-printed r w m (w.hosts m).stage
