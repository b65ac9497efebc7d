-- What a driver prints of a running member is what the world prints.
use Rattle.std.proofs.Common.{◌≡◌, ℕ, ◌<◌, ◌≤◌, Bool, true, false, List, [], ◌∷◌, ◌++◌, length, take, drop, set, Option, Some, None, refl, sym, ap, ◌∙◌, subst, arith, length-set, get_or-set_same}
use Rattle.std.specs.Prelude.{nat_lt}
use Rattle.std.specs.List.{AllByRecursion}
use Rattle.std.proofs.lemmas.List.{append-nil}
use Rattle.cl_base.specs.Disk.{DiskState}
use Rattle.cl_base.specs.declared.disk.Choice.{Choice}
use Rattle.cl_base.specs.declared.entry.Entry.{Entry}
use Rattle.entry_log.specs.Log.{Log, IsPrefixOf}
use Rattle.log_replication.specs.Prefixes.{Leads, is_prefix}
use Rattle.sbe_consensus.specs.declared.packet.Outgoing.{Outgoing}
use Rattle.service_api.specs.declared.shipped.Kind.{Kind}
use Rattle.consensus_core.specs.declared.values.Values.{Values}
use Rattle.service_runs.specs.Hosts.{longer}
use Rattle.run_outside.specs.Gives.{newly}
use Rattle.run_world.specs.Lawful.{Lawful}
use Rattle.consensus_core.specs.Member.{Sent}
use Rattle.run_world.specs.Seat.{Fate, Seat, first_seat}
use Rattle.network.specs.Net.{coming, first_of, replayed, taken}
use Rattle.world.proofs.Effects.{if-cases}
use Rattle.one_log.proofs.Good.{all_weaker}
use Rattle.run_world.specs.Rounds.{Phased, consume, phase_over, put_all}
use Rattle.run_orders.specs.Phases.{PhasesAct, is_of_phase}
use Rattle.run_world.specs.RunWorld.{RunWorld, Act, Passes, Hands, Begins, Takes, Closes, Writes, Sends, Fails, Cuts, Heals, Loses, Replays, after_acts, committed, does, handed, seat, with_net}
use Rattle.run_world.proofs.Acts.{act-lifts, acts-lift}
use Rattle.run_orders.specs.Stands.{EndedSeen, IsSeat, IsUp, RunSeen, SeatSeen, Stands, UpSeen, seen_put}
use Rattle.member_rows.specs.Places.{running_seat}
use Rattle.member_rows.specs.Turns.{IsTurn, committed_seen}
use Rattle.member_gives.specs.One.{Only, actor, may_print, receiver}
use Rattle.member_gives.proofs.Alone.{act-only, each-at, each-length, only-count}
use Rattle.member_gives.proofs.Listed.{prints-on}
use Rattle.member_gives.proofs.Printing.{Turned, act-turned, commit-inside, turned-none}

module _ {D : Type 0} (state : D → DiskState) (kinds : List Kind) where
  -- what the driver prints of a member
  abbrev given : UpSeen D → Log → Log
  given u p = p ++ newly u.module_held.consumed u.module_held.ahead.entries u.core.values.rest.commit (length p)

  seen-here : (u : UpSeen D) (going : Bool) (s : Seat) (p : Log) → IsUp state kinds u going s → given u p ≡ p ++ newly s.applied (drop s.applied s.member.durable.log) s.member.values.rest.commit (length p)
  seen-here u going s p up =
      ap (λ (k : ℕ). p ++ newly k u.module_held.ahead.entries u.core.values.rest.commit (length p)) up.has_module.applied
      ∙ ap (λ (es : List Entry). p ++ newly s.applied es u.core.values.rest.commit (length p)) up.has_module.entries
      ∙ ap (λ (v : Values). p ++ newly s.applied (drop s.applied s.member.durable.log) v.rest.commit (length p)) up.values

  -- a seat that an act has made
  prints-here : (w v : RunWorld) (m : ℕ) (u : UpSeen D) (going b : Bool) → Turned b m w v → (seat v m).member.values.rest.commit ≤ length (seat v m).member.durable.log → IsUp state kinds u going (seat v m) → given u w.printed ≡ v.printed
  prints-here w v m u going b t inside up =
      seen-here u going (seat v m) w.printed up
      ∙ prints-on w.printed (seat v m).member.durable.log (seat v m).applied (seat v m).member.values.rest.commit (t.applied up.up) inside (subst (Leads w.printed) t.printed t.grows)
      ∙ sym t.printed

  pub prints-still : (n : ℕ) (w : RunWorld) (m : ℕ) (u : UpSeen D) (going : Bool) (p : Log) → n ≤ 5 → length kinds ≤ 3 → Lawful n kinds w → IsUp state kinds u going (seat w m) → p ≡ w.printed → given u p ≡ longer w.printed (committed (seat w m).member)
  prints-still n w m u going p five three lawful up is =
      let t = turned-none n kinds w lawful five three false m in
      ap (given u) is ∙ prints-here w w m u going false t (commit-inside n kinds w lawful five three m) up ∙ t.printed

  pub prints-act : (n : ℕ) (w : RunWorld) (a : Act) (m : ℕ) (u : UpSeen D) (going : Bool) (p : Log) → n ≤ 5 → length kinds ≤ 3 → Lawful n kinds w → actor w a ≡ Some m → IsUp state kinds u going (seat (does kinds w a) m) → p ≡ w.printed → given u p ≡ (does kinds w a).printed
  prints-act n w a m u going p five three lawful of up is =
      let t = act-turned n kinds w lawful five three a m of in
      let next = act-lifts n kinds w a five three lawful in
      ap (given u) is ∙ prints-here w (does kinds w a) m u going (may_print a) t (commit-inside n kinds (does kinds w a) next five three m) up

module _ {D : Type 0} (state : D → DiskState) (kinds : List Kind) where
  -- the member that a turn has made runs in the turn's world
  runs-there : (x : RunSeen D) (w v : RunWorld) (m : ℕ) (y : SeatSeen D) (sent : List Sent) (log : Log) → Only m w v → m < length w.seats → Stands state kinds (seen_put m y sent log x) v → IsSeat state kinds y (seat v m)
  runs-there x w v m y sent log only l stands =
      let count = each-length (IsSeat state kinds) (set x.seats m y) v.seats stands.seats in
      let size = length-set x.seats m y in
      let same = only-count m w v only in
      let inside : m < length x.seats = omega (arith, l, count, size, same) in
      subst (λ (z : SeatSeen D). IsSeat state kinds z (seat v m)) (get_or-set_same x.seats m y y inside)
      (each-at (IsSeat state kinds) (set x.seats m y) v.seats m y first_seat stands.seats (omega (arith, inside, size)))

  pub prints-turn : (n : ℕ) (x : RunSeen D) (w : RunWorld) (act : Fate → Act) (m : ℕ) (u : UpSeen D) (going : Bool) (choice : Choice) (ended : List EndedSeen) (out : List Outgoing) → n ≤ 5 → length kinds ≤ 3 → Lawful n kinds w
      → ((f : Fate) → actor w (act f) ≡ Some m) → m < length w.seats → x.printed ≡ w.printed → IsTurn state kinds act m (running_seat choice ended u going) (committed_seen u) out x w
      → x.printed ++ newly u.module_held.consumed u.module_held.ahead.entries u.core.values.rest.commit (length x.printed) ≡ longer x.printed (committed_seen u)
  prints-turn n x w act m u going choice ended out five three lawful of l is t =
      let v = does kinds w (act t.fate) in
      let here = runs-there x w v m (running_seat choice ended u going) t.sent (committed_seen u) (act-only kinds w (act t.fate) m (of t.fate)) l t.stands in
      prints-act state kinds n w (act t.fate) m u going x.printed five three lawful (of t.fate) here.home is ∙ sym t.stands.printed

-- ---- what an act prints, whoever gives it

pub prints-world : (n : ℕ) (kinds : List Kind) (w : RunWorld) (a : Act) (m : ℕ) → n ≤ 5 → length kinds ≤ 3 → Lawful n kinds w → actor w a ≡ Some m → (does kinds w a).printed ≡ longer w.printed (committed (seat (does kinds w a) m).member)
prints-world n kinds w a m five three lawful of = (act-turned n kinds w lawful five three a m of).printed

-- acts of no member
none-handed : (kinds : List Kind) (w : RunWorld) (o : Option (ℕ × Outgoing)) (f : Fate) → receiver o ≡ None → (handed o f (with_net (taken w.net) w)).printed ≡ w.printed
none-handed kinds w None f e = refl
none-handed kinds w (Some q) f e = absurd (cc)

none-prints : (kinds : List Kind) (w : RunWorld) (a : Act) → actor w a ≡ None → (does kinds w a).printed ≡ w.printed
none-prints kinds w (Passes now) e = refl
none-prints kinds w (Hands f) e = none-handed kinds w (first_of (coming w.net)) f e
none-prints kinds w (Cuts from to) e = refl
none-prints kinds w (Heals from to) e = refl
none-prints kinds w (Loses from to) e = refl
none-prints kinds w (Replays from to latest) e = if-cases (λ (v : RunWorld). v.printed ≡ w.printed) (nat_lt to (length w.seats)) (with_net (replayed from to latest w.net) w) w (λ b. refl) (λ b. refl)
none-prints kinds w _ e = absurd (cc)

pub prints-grow : (n : ℕ) (kinds : List Kind) (w : RunWorld) (a : Act) → n ≤ 5 → length kinds ≤ 3 → Lawful n kinds w → IsPrefixOf w.printed (does kinds w a).printed
prints-grow n kinds w a five three lawful = at (actor w a) refl
  where
    at : (o : Option ℕ) → actor w a ≡ o → IsPrefixOf w.printed (does kinds w a).printed
    at None e = ([], append-nil w.printed ∙ sym (none-prints kinds w a e))
    at (Some m) e = is_prefix w.printed (does kinds w a).printed (act-turned n kinds w lawful five three a m e).grows

pub prints-nothing : (n : ℕ) (kinds : List Kind) (w : RunWorld) (a : Act) → n ≤ 5 → length kinds ≤ 3 → Lawful n kinds w → may_print a ≡ false → (does kinds w a).printed ≡ w.printed
prints-nothing n kinds w a five three lawful quiet = at (actor w a) refl
  where
    at : (o : Option ℕ) → actor w a ≡ o → (does kinds w a).printed ≡ w.printed
    at None e = none-prints kinds w a e
    at (Some m) e = (act-turned n kinds w lawful five three a m e).quiet quiet

-- ---- phases print nothing

abbrev IsQuiet : Act → Type 0
IsQuiet a = may_print a ≡ false

pub all-quiet : (n : ℕ) (kinds : List Kind) (w : RunWorld) (acts : List Act) → n ≤ 5 → length kinds ≤ 3 → Lawful n kinds w → AllByRecursion IsQuiet acts → (after_acts kinds w acts).printed ≡ w.printed
all-quiet n kinds w [] five three lawful all = refl
all-quiet n kinds w (a ∷ acts) five three lawful all = all-quiet n kinds (does kinds w a) acts five three (act-lifts n kinds w a five three lawful) all.1 ∙ prints-nothing n kinds w a five three lawful all.0

phase-quiet : (a : Act) → is_of_phase a ≡ true → may_print a ≡ false
phase-quiet (Begins m) e = refl
phase-quiet (Takes m k) e = refl
phase-quiet (Closes m) e = refl
phase-quiet (Writes m f) e = refl
phase-quiet (Sends m) e = refl
phase-quiet (Fails m own) e = refl
phase-quiet _ e = absurd (cc)

pub phases-quiet : (n : ℕ) (kinds : List Kind) (w v : RunWorld) → n ≤ 5 → length kinds ≤ 3 → Lawful n kinds w → PhasesAct kinds w v → v.printed ≡ w.printed
phases-quiet n kinds w v five three lawful p = ap (λ (u : RunWorld). u.printed) p.becomes ∙ all-quiet n kinds w p.acts five three lawful (all_weaker (λ (a : Act). is_of_phase a ≡ true) IsQuiet phase-quiet p.acts p.phases)

-- and so does a whole phase
takes-quiet : (m : ℕ) (services : List ℕ) → AllByRecursion IsQuiet (consume m services)
takes-quiet m [] = tt
takes-quiet m (k ∷ ks) = (refl, takes-quiet m ks)

writes-quiet : (m : ℕ) (fates : List Fate) → AllByRecursion IsQuiet (put_all m fates)
writes-quiet m [] = tt
writes-quiet m (f ∷ fs) = (refl, writes-quiet m fs)

over-quiet : (n : ℕ) (kinds : List Kind) (m : ℕ) (fates : List Fate) (fails : Option ℕ) (w : RunWorld) → n ≤ 5 → length kinds ≤ 3 → Lawful n kinds w → (phase_over kinds m fates fails w).printed ≡ w.printed
over-quiet n kinds m fates (Some own) w five three lawful = prints-nothing n kinds w (Fails m own) five three lawful refl
over-quiet n kinds m fates None w five three lawful =
    let closed = does kinds w (Closes m) in
    let first = act-lifts n kinds w (Closes m) five three lawful in
    let put = after_acts kinds closed (put_all m fates) in
    prints-nothing n kinds put (Sends m) five three (acts-lift n kinds closed (put_all m fates) five three first) refl
    ∙ all-quiet n kinds closed (put_all m fates) five three first (writes-quiet m fates)
    ∙ prints-nothing n kinds w (Closes m) five three lawful refl

pub phase-prints : (n : ℕ) (kinds : List Kind) (m : ℕ) (w v : RunWorld) → n ≤ 5 → length kinds ≤ 3 → Lawful n kinds w → Phased kinds m w v → v.printed ≡ w.printed
phase-prints n kinds m w v five three lawful p =
    let begun = does kinds w (Begins m) in
    let first = act-lifts n kinds w (Begins m) five three lawful in
    let fed = after_acts kinds begun (consume m p.services) in
    ap (λ (u : RunWorld). u.printed) p.ends
    ∙ over-quiet n kinds m p.fates p.fails fed five three (acts-lift n kinds begun (consume m p.services) five three first)
    ∙ all-quiet n kinds begun (consume m p.services) five three first (takes-quiet m p.services)
    ∙ prints-nothing n kinds w (Begins m) five three lawful refl
