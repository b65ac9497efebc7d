-- What is promised of each world that is reached.
use Rattle.std.proofs.Common.{◌≡◌, ℕ, zero, suc, ◌≤◌, Bool, false, length, take, length-append, refl, sym, ap, ◌∙◌, subst, arith, if◌then◌else◌}
use Rattle.std.specs.Prelude.{nat_lt}
use Rattle.std.proofs.lemmas.Bool.Decides.{nat_tests}
use Rattle.std.proofs.lemmas.Int.{ints}
use Rattle.entry_log.specs.Log.{Log, IsPrefixOf}
use Rattle.log_replication.specs.Prefixes.{is_prefix}
use Rattle.module_state.specs.Entries.{events_in}
use Rattle.world.specs.World.{World, Step, member, step}
use Rattle.world.specs.Safe.{TermsHold, VotesHold, ReignsHold}
use Rattle.world.proofs.Runs.{terms-hold, votes-hold, reigns-hold}
use Rattle.agreement.specs.View.{IsGrounded, IsAgreed, CommitsHold, CutsKeep, view_of}
use Rattle.agreement.proofs.Commits.{take-leads}
use Rattle.agreement.proofs.Moves.{step-moves}
use Rattle.agreement.proofs.Runs2.{commits-hold, cuts-keep, step-fits}
use Rattle.service_runs.proofs.Held.{prints, settled-moves}
use Rattle.service_runs.proofs.Statements.{snaps-hold, inputs-hold, printed-holds, outputs-hold}
use Rattle.one_log.specs.Opened.{TermsOpen}
use Rattle.one_log.specs.Formed.{EventsStand}
use Rattle.one_log.specs.Ruled.{rules_of}
use Rattle.one_log.proofs.Named.{leaders-named}
use Rattle.one_log.proofs.Opened.{terms-open}
use Rattle.one_log.proofs.Records.{are-recorded, starts-restore}
use Rattle.one_log.proofs.Turns.{logs-formed, modules-know, events-stand}
use Rattle.world_steps.specs.Promises.{GoesOn, IsServed}
use Rattle.service_runs.specs.Hosts.{longer, printed_by}
use Rattle.world_steps.specs.Steps.{Seen, IsReached, IsGiven, step_of}
use Rattle.world_steps.specs.declared.step.Step.{Step as CodeStep}
use Rattle.world_steps.proofs.Reached.{led_of, known-of, same-seen, after_step, reached-step}

-- what is so of the members of a world
pub record IsSafe (n : ℕ) (w : World) : Type 0 where
  pub terms : TermsHold w
  pub votes : VotesHold w
  pub reigns : ReignsHold n w
  pub opens : TermsOpen w
  pub grounded : IsGrounded (view_of w)
  pub agreed : IsAgreed (view_of w)
  pub commits : CommitsHold w
  pub cuts : CutsKeep w

pub is-safe : (s : Seen) (q : IsReached s) → IsSafe (length s.world.members) s.world
is-safe s q =
    let st = (known-of s q).stays in
    let w = (led_of s q).hosted.world in
    let inv = st.held.inv in
    let fits = st.held.fits in
    subst (λ (n : ℕ). IsSafe n s.world) (sym q.count) (subst (IsSafe q.members) q.stands.world (record {
      terms = terms-hold q.members w inv;
      votes = votes-hold q.members w inv;
      reigns = reigns-hold q.members w inv;
      opens = terms-open q.members w inv fits st.opened;
      grounded = fits.grounded;
      agreed = fits.agreed;
      commits = commits-hold q.members w fits;
      cuts = cuts-keep q.members w inv fits;
    }))

pub goes-on : (s : Seen) (q : IsReached s) (t : Step) → GoesOn s.world (step s.world t)
goes-on s q t =
    let st = (known-of s q).stays in
    let w = (led_of s q).hosted.world in
    let fits = st.held.fits in
    let moves = step-moves q.members w t st.held.inv fits in
    subst (λ (v : World). GoesOn v (step v t)) q.stands.world (record {
      candidates = λ m. (moves.members m).candidate;
      kept = λ m.
          let x = member w m in
          is_prefix (take x.values.rest.commit x.durable.log) (member (step w t) m).durable.log ((moves.members m).logs (take x.values.rest.commit x.durable.log) (fits.members m).commit.1 (take-leads x.values.rest.commit x.durable.log));
      commits = λ m was is. (moves.members m).commit was is;
    })

pub is-served : (s : Seen) (q : IsReached s) → IsServed s
is-served s q =
    let r = rules_of s.kinds in
    let n = q.members in
    let l = led_of s q in
    let st = (known-of s q).stays in
    let formed = logs-formed n s.kinds r l st in
    record {
      world = l;
      stands = q.stands;
      snaps = snaps-hold n r l.hosted st.held;
      inputs = inputs-hold n r l.hosted st.held;
      printed = printed-holds n r l.hosted st.held;
      outputs = outputs-hold n r l.hosted st.held;
      formed = formed;
      know = modules-know n s.kinds r l st;
      members = λ m. subst (λ (w : World). EventsStand s.kinds (events_in (member w m).durable.log)) q.stands.world (events-stand s.kinds l.hosted.world.now (member l.hosted.world m).durable.log (formed.members m));
      stand = subst (λ (p : Log). EventsStand s.kinds (events_in p)) q.stands.printed (events-stand s.kinds l.hosted.world.now l.hosted.printed formed.printed);
      named = leaders-named n s.kinds r l st;
      recorded = are-recorded n s.kinds l st;
      starts = starts-restore n s.kinds l st;
    }

-- ---- what is printed

longer-stays : (xs ys : Log) → IsPrefixOf ys xs → longer xs ys ≡ xs
longer-stays xs ys h = ap (λ (b : Bool). if b then ys else xs) (no-less (length xs) (length ys) (length_of_prefix ys xs h))
  where
    no-less : (a b : ℕ) → b ≤ a → nat_lt a b ≡ false
    no-less a b l = grind (arith, nat_tests)

    length_of_prefix : (front all : Log) → IsPrefixOf front all → length front ≤ length all
    length_of_prefix front all p = let n = length-append front p.0 in let e = ap length p.1 in omega (arith, n, e)

-- where it has each commit's entries already
printed-stays : (n : ℕ) (w : World) (p : Log) → ((m : ℕ) → IsPrefixOf (take (member w m).values.rest.commit (member w m).durable.log) p) → printed_by n w p ≡ p
printed-stays zero w p h = refl
printed-stays (suc n) w p h =
    let front = take (member w n).values.rest.commit (member w n).durable.log in
    ap (λ (z : Log). longer z front) (printed-stays n w p h) ∙ longer-stays p front (h n)

-- the printed log has each commit's entries
fronts : (s : Seen) (q : IsReached s) (m : ℕ) → IsPrefixOf (take (member s.world m).values.rest.commit (member s.world m).durable.log) s.printed
fronts s q m =
    let l = led_of s q in
    subst (λ (z : Seen). IsPrefixOf (take (member z.world m).values.rest.commit (member z.world m).durable.log) z.printed) (same-seen s q)
    ((printed-holds q.members (rules_of s.kinds) l.hosted (known-of s q).stays.held).commits m)

-- a step that leaves the members as they are leaves all as it is
unchanged-there : (s : Seen) (q : IsReached s) (c : CodeStep) → step s.world (step_of s c) ≡ s.world → after_step s c ≡ s
unchanged-there s q c same =
    let stays : printed_by (length s.world.members) s.world s.printed ≡ s.printed = printed-stays (length s.world.members) s.world s.printed (fronts s q) in
    ap (λ (w : World). record { kinds = s.kinds; world = w; printed = printed_by (length w.members) w s.printed }) same
    ∙ ap (λ (p : Log). record { kinds = s.kinds; world = s.world; printed = p }) stays

grows-there : (s : Seen) (q : IsReached s) (t : Step) → IsPrefixOf s.printed (printed_by (length (step s.world t).members) (step s.world t) s.printed)
grows-there s q t =
    let n = q.members in
    let l = led_of s q in
    let w = l.hosted.world in
    let k = (known-of s q).stays.held in
    let p = l.hosted.printed in
    subst (λ (z : Seen). IsPrefixOf z.printed (printed_by (length (step z.world t).members) (step z.world t) z.printed)) (same-seen s q)
    (is_prefix p (printed_by (length (step w t).members) (step w t) p)
    (prints n (step w t) (length (step w t).members) p (step-fits n w t k.inv k.fits)
    (k.printed.0, settled-moves w (step w t) k.printed.0 k.printed.0 p (step-moves n w t k.inv k.fits) (omega (arith, ints)) k.printed.1)).1)

-- ---- a whole step

-- what a step of the code leads to
pub record IsStep (w v : Seen) (c : CodeStep) : Type 0 where
  pub step_is : v.world ≡ step w.world (step_of w c)
  pub printed : v.printed ≡ printed_by (length v.world.members) v.world w.printed
  pub kinds : v.kinds ≡ w.kinds
  pub reached : IsReached v
  pub unchanged : v.world ≡ w.world → v ≡ w
  pub grows : IsPrefixOf w.printed v.printed
  pub goes_on : GoesOn w.world v.world
  pub safe : IsSafe (length v.world.members) v.world
  pub served : IsServed v

whole : (w : Seen) (c : CodeStep) → IsGiven c → IsReached w → IsStep w (after_step w c) c
whole w c g q =
    let there = reached-step w c g q in
    record { step_is = refl; printed = refl; kinds = refl; reached = there; unchanged = unchanged-there w q c; grows = grows-there w q (step_of w c); goes_on = goes-on w q (step_of w c); safe = is-safe (after_step w c) there; served = is-served (after_step w c) there }

pub is-step : (w u v : Seen) (c : CodeStep) → IsGiven c → IsReached w → u ≡ record w { world = step w.world (step_of w c) } → v ≡ record u { printed = printed_by (length u.world.members) u.world u.printed } → IsStep w v c
is-step w u v c g q made printed =
    subst (λ (z : Seen). IsStep w z c) (sym (printed ∙ ap (λ (z : Seen). record z { printed = printed_by (length z.world.members) z.world z.printed }) made)) (whole w c g q)
