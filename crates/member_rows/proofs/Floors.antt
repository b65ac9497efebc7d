-- A running member's commit is no lower than the entries that its services began with.
use Rattle.std.proofs.Common.{◌≡◌, ℕ, ◌≤◌, true, ◌&&◌, List, [], ◌∷◌, length, None, refl, sym, ap, ◌∙◌, subst, arith}
use Rattle.std.specs.Prelude.{nat_eq, nat_lt}
use Rattle.std.proofs.lemmas.Bool.Decides.{nat_tests}
use Rattle.service_api.specs.declared.shipped.Kind.{Kind}
use Rattle.consensus_core.specs.Member.{Cut, Member, Run}
use Rattle.world.specs.World.{Step, Starts, Puts, Invalidates, member, step, is_running}
use Rattle.world.proofs.Effects.{if-cases}
use Rattle.agreement.proofs.Moves.{step-moves}
use Rattle.service_runs.specs.Hosts.{Rules, Stage, Idle, Taking, Over, Ending, Host, Hosted, Act, Rows, Mounts, Drops, Opens, Feeds, Takes, Closes, Writes, Sends, noted, with_host, is_idle, is_taking, is_row, is_free, is_feeding, feed_of, input, all_reach, writes, sends, act, acts_on, hosted}
use Rattle.service_runs.proofs.Acts.{act-held, hosted-held}
use Rattle.service_runs.proofs.Held.{Held}
use Rattle.one_log.specs.Led.{led, turns}
use Rattle.one_log.specs.Ruled.{rules_of}
use Rattle.one_log.proofs.Turns.{turns-acts}
use Rattle.run_world.specs.Lawful.{Lawful}
use Rattle.run_world.specs.RunWorld.{RunWorld, seat}
use Rattle.run_world.proofs.Shown.{member-shown}

-- of each member that runs
abbrev FirstsLow : Hosted → Type 0
FirstsLow w = (m : ℕ) → (member w.world m).up ≡ true → (w.hosts m).run.first ≤ (member w.world m).values.rest.commit

-- a step of the world, by which no commit falls
noted-low : (n : ℕ) (r : Rules) (w : Hosted) (s : Step) → Held n r w → (hosts : ℕ → Host) → ((m : ℕ) → (hosts m).run.first ≡ (w.hosts m).run.first) → FirstsLow w → FirstsLow (noted r (record w { hosts = hosts }) (step w.world s))
noted-low n r w s held hosts same low m up =
    let v = step w.world s in
    let P : Host → Type 0 = λ z. z.run.first ≤ (member v m).values.rest.commit in
    if-cases P (member v m).up _ _
    (λ y. if-cases P (member w.world m).up _ _
    (λ x.
    let a = low m x in
    let b = ((step-moves n w.world s held.inv held.fits).members m).commit x up in
    let c = same m in
    omega (arith, a, b, c))
    (λ x. omega arith))
    (λ y. absurd (cc (y, up)))

-- a change of one member's runs that leaves what they began with
host-first : (w : Hosted) (m : ℕ) (g : Host) → g.run.first ≡ (w.hosts m).run.first → (k : ℕ) → ((with_host w m g).hosts k).run.first ≡ (w.hosts k).run.first
host-first w m g same k =
    if-cases (λ (z : Host). z.run.first ≡ (w.hosts k).run.first) (nat_eq k m) _ _
    (λ e. let is : k ≡ m = grind (arith, nat_tests, e) in subst (λ (j : ℕ). g.run.first ≡ (w.hosts j).run.first) (sym is) same)
    (λ e. refl)

host-low : (w : Hosted) (m : ℕ) (g : Host) → g.run.first ≡ (w.hosts m).run.first → FirstsLow w → FirstsLow (with_host w m g)
host-low w m g same low k up = let a = low k up in let b = host-first w m g same k in omega (arith, a, b)

writes-low : (n : ℕ) (r : Rules) (w : Hosted) (m : ℕ) (s : Stage) (cut : Cut) → Held n r w → FirstsLow w → FirstsLow (writes r w m s cut)
writes-low n r w m Idle cut held low = low
writes-low n r w m Taking cut held low = low
writes-low n r w m Over cut held low = low
writes-low n r w m (Ending upto []) cut held low = low
writes-low n r w m (Ending upto (d ∷ due)) cut held low =
    let h = w.hosts m in
    let g : Host = record { run = h.run; applied = h.applied; role = h.role; stage = Ending upto due; feeds = h.feeds; past = h.past } in
    if-cases FirstsLow (is_running w.world m) _ _ (λ b. noted-low n r w (Puts m d.entries d.snap cut) held (with_host w m g).hosts (host-first w m g refl) low) (λ b. low)

sends-low : (r : Rules) (w : Hosted) (m : ℕ) (s : Stage) → FirstsLow w → FirstsLow (sends r w m s)
sends-low r w m Idle low = low
sends-low r w m Taking low = low
sends-low r w m Over low = low
sends-low r w m (Ending upto (d ∷ due)) low = low
sends-low r w m (Ending upto []) low =
    let h = w.hosts m in
    let g : Host = record { run = h.run; applied = upto; role = None; stage = Idle; feeds = h.feeds; past = h.past } in
    if-cases FirstsLow (is_running w.world m) _ _ (λ b k up. host-low w m g refl low k up) (λ b. low)

act-low : (n : ℕ) (r : Rules) (w : Hosted) (a : Act) → Held n r w → FirstsLow w → FirstsLow (act r w a)
act-low n r w (Rows s) held low = if-cases FirstsLow (is_row s && is_free w s) _ _ (λ b. noted-low n r w s held w.hosts (λ m. refl) low) (λ b. low)
act-low n r w (Mounts m) held low = noted-low n r w (Starts m r.services) held w.hosts (λ k. refl) low
act-low n r w (Drops m) held low = noted-low n r w (Invalidates m r.services) held w.hosts (λ k. refl) low
act-low n r w (Opens m) held low = if-cases FirstsLow (is_running w.world m && is_idle (w.hosts m).stage) _ _ (λ b. host-low w m _ refl low) (λ b. low)
act-low n r w (Feeds m s c) held low = if-cases FirstsLow (is_running w.world m && is_feeding (w.hosts m).stage) _ _ (λ b. host-low w m _ refl low) (λ b. low)
act-low n r w (Takes m s) held low =
    if-cases FirstsLow (is_running w.world m && (is_taking (w.hosts m).stage && (nat_lt s r.services && nat_lt (length (input (w.hosts m) s)) (feed_of (w.hosts m) s).published))) _ _ (λ b. host-low w m _ refl low) (λ b. low)
act-low n r w (Closes m) held low =
    if-cases FirstsLow (is_running w.world m && (is_taking (w.hosts m).stage && all_reach (member w.world m).values.rest.commit (w.hosts m).run.inputs)) _ _ (λ b. host-low w m _ refl low) (λ b. low)
act-low n r w (Writes m cut) held low = writes-low n r w m (w.hosts m).stage cut held low
act-low n r w (Sends m) held low = sends-low r w m (w.hosts m).stage low

acts-low : (n : ℕ) (r : Rules) (w : Hosted) (as' : List Act) → Held n r w → FirstsLow w → FirstsLow (acts_on r w as')
acts-low n r w [] held low = low
acts-low n r w (a ∷ as') held low = acts-low n r (act r w a) as' (act-held n r w a held) (act-low n r w a held low)

hosted-low : (n : ℕ) → FirstsLow (hosted n)
hosted-low n m up = omega arith

pub first-low : (n : ℕ) (kinds : List Kind) (w : RunWorld) (m : ℕ) → Lawful n kinds w → (seat w m).member.up ≡ true → (seat w m).run.first ≤ (seat w m).member.values.rest.commit
first-low n kinds w m lawful up =
    let r = rules_of kinds in
    let h = (turns kinds r (led n) lawful.taken).hosted in
    let acts = turns-acts kinds r (led n) lawful.taken in
    let low : FirstsLow h = subst FirstsLow (sym acts.1) (acts-low n r (hosted n) acts.0 (hosted-held n r) (hosted-low n)) in
    let shown : member h.world m ≡ (seat w m).member = member-shown h w m lawful.shows in
    let run : (h.hosts m).run ≡ (seat w m).run = (lawful.shows.hosts m).run in
    let a = low m (ap (λ (x : Member). x.up) shown ∙ up) in
    let b : (h.hosts m).run.first ≡ (seat w m).run.first = ap (λ (x : Run). x.first) run in
    let c : (member h.world m).values.rest.commit ≡ (seat w m).member.values.rest.commit = ap (λ (x : Member). x.values.rest.commit) shown in
    omega (arith, a, b, c)
