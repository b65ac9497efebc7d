-- One member alone in a run: which acts are of it alone, and how it stands to the world.
use Rattle.std.proofs.Common.{◌≡◌, ◌⊎◌, inl, inr, ℕ, zero, suc, ◌<◌, ◌≤◌, Bool, true, false, ◌&&◌, List, [], ◌∷◌, length, map, set, Option, Some, None, refl, sym, ap, ◌∙◌, subst, arith, length-set, set-set, get_or-set_same, if◌then◌else◌}
use Rattle.std.specs.Prelude.{nat_lt, slice_get, slice_index_or}
use Rattle.std.specs.List.{AllByRecursion}
use Rattle.std.proofs.lemmas.List.{set-get_or}
use Rattle.std.proofs.lemmas.Option.{get_or_from_slice_get, slice_get_cases, slice_get_within}
use Rattle.cl_base.specs.Disk.{DiskState}
use Rattle.entry_log.specs.Log.{Log}
use Rattle.sbe_consensus.specs.Spelling.{packet_of}
use Rattle.sbe_consensus.specs.declared.packet.Outgoing.{Outgoing}
use Rattle.sbe_consensus.specs.declared.packet.Packet.{Packet}
use Rattle.service_api.specs.declared.shipped.Kind.{Kind}
use Rattle.consensus_core.specs.Member.{Sent, may_take, row_of_client, row_of_duty, sent_by}
use Rattle.network.specs.Net.{NetSeen, coming, first_of, taken}
use Rattle.service_phases.specs.Pairs.{Each2}
use Rattle.service_runs.specs.Hosts.{Rules, all_reach, longer}
use Rattle.one_log.specs.Ruled.{rules_of}
use Rattle.world.proofs.Effects.{if-cases}
use Rattle.run_world.specs.Seat.{Seat, Fate, Phase, Rests, Goes, Ends, first_seat, is_going, is_resting}
use Rattle.run_world.specs.RunWorld.{RunWorld, Act, Passes, Hands, Duty, Asks, Hears, Starts, Stops, Fails, Invalidates, Fuses, Begins, Takes, Closes, Writes, Sends, Cuts, Heals, Loses, Replays, after_acts, all_sent, closes, committed, does, due_at, handed, is_down, is_free, is_up, may_ask, put, seat, sends, takes_packet, with_net, writes}
use Rattle.run_world.specs.Rounds.{Phased, consume, phase_over, put_all}
use Rattle.run_orders.specs.Stands.{IsSeat, RunSeen, SeatSeen, Stands}
use Rattle.member_gives.specs.One.{OneSeen, Only, StandsFor, actor, one_of, one_put, receiver, with_one}

-- ---- what is of one member

pub only-same : (m : ℕ) (w : RunWorld) → Only m w w
only-same m w = sym (set-get_or w.seats m first_seat)

put-there : (xs : List Seat) (m : ℕ) (s : Seat) → set xs m s ≡ set xs m (slice_index_or (set xs m s) m first_seat)
put-there [] m s = refl
put-there (x ∷ xs) zero s = refl
put-there (x ∷ xs) (suc m) s = ap (λ (l : List Seat). x ∷ l) (put-there xs m s)

pub only-put : (m : ℕ) (w : RunWorld) (s : Seat) (ps : List Sent) → Only m w (put m s ps w)
only-put m w s ps = put-there w.seats m s

pub only-then : (m : ℕ) (w u v : RunWorld) → Only m w u → Only m u v → Only m w v
only-then m w u v first second = second ∙ ap (λ (l : List Seat). set l m (seat v m)) first ∙ set-set w.seats m (seat u m) (seat v m)

pub only-count : (m : ℕ) (w v : RunWorld) → Only m w v → length v.seats ≡ length w.seats
only-count m w v only = ap length only ∙ length-set w.seats m (seat v m)

-- ---- the acts of a member

same-member : (k m : ℕ) → Some k ≡ Some m → k ≡ m
same-member k m e = cc

at-actor : (w v : RunWorld) (k m : ℕ) → Some k ≡ Some m → Only k w v → Only m w v
at-actor w v k m e only = subst (λ (j : ℕ). Only j w v) (same-member k m e) only

takes-only : (m : ℕ) (w : RunWorld) (p : Option Packet) (f : Fate) → Only m w (takes_packet m p f w)
takes-only m w None f = only-same m w
takes-only m w (Some p) f = if-cases (Only m w) (is_free w m) _ _ (λ b. only-put m w _ []) (λ b. only-same m w)

hands-only : (m : ℕ) (w : RunWorld) (p : Option (ℕ × Outgoing)) (f : Fate) → receiver p ≡ Some m → Only m w (handed p f w)
hands-only m w None f e = absurd (cc)
hands-only m w (Some p) f e = at-actor w (takes_packet p.1.to (packet_of p.1.bytes) f w) p.1.to m e (takes-only p.1.to w (packet_of p.1.bytes) f)

closes-only : (r : Rules) (m : ℕ) (w : RunWorld) (p : Phase) → Only m w (closes r m p w)
closes-only r m w Rests = only-same m w
closes-only r m w (Ends role upto due) = only-same m w
closes-only r m w (Goes role over) = if-cases (Only m w) (all_reach (seat w m).member.values.rest.commit (seat w m).run.inputs) _ _ (λ b. only-put m w _ []) (λ b. only-same m w)

writes-only : (m : ℕ) (w : RunWorld) (p : Phase) (f : Fate) → Only m w (writes m p f w)
writes-only m w Rests f = only-same m w
writes-only m w (Goes role over) f = only-same m w
writes-only m w (Ends role upto []) f = only-same m w
writes-only m w (Ends role upto (d ∷ due)) f = only-put m w _ []

sends-only : (r : Rules) (m : ℕ) (w : RunWorld) (p : Phase) → Only m w (sends r m p w)
sends-only r m w Rests = only-same m w
sends-only r m w (Goes role over) = only-same m w
sends-only r m w (Ends role upto (d ∷ due)) = only-same m w
sends-only r m w (Ends role upto []) = only-put m w _ []

put-if : (m : ℕ) (w : RunWorld) (s : Seat) (ps : List Sent) (b : Bool) → Only m w (if b then put m s ps w else w)
put-if m w s ps b = if-cases (Only m w) b (put m s ps w) w (λ yes. only-put m w s ps) (λ no. only-same m w)

calls-if : (m : ℕ) (w v : RunWorld) (b : Bool) → Only m w v → Only m w (if b then v else w)
calls-if m w v b only = if-cases (Only m w) b v w (λ yes. only) (λ no. only-same m w)

pub act-only : (kinds : List Kind) (w : RunWorld) (a : Act) (m : ℕ) → actor w a ≡ Some m → Only m w (does kinds w a)
act-only kinds w (Passes now) m e = absurd (cc)
act-only kinds w (Hands f) m e = hands-only m (with_net (taken w.net) w) (first_of (coming w.net)) f e
act-only kinds w (Duty k f) m e = at-actor w (does kinds w (Duty k f)) k m e (put-if k w _ (sent_by (row_of_duty (seat w k).member (due_at kinds (seat w k) w.now) w.now) f.cut (seat w k).member) (is_free w k))
act-only kinds w (Asks k ev fits f) m e = at-actor w (does kinds w (Asks k ev fits f)) k m e (put-if k w _ (sent_by (row_of_client (seat w k).member ev) f.cut (seat w k).member) (is_free w k && may_ask kinds (seat w k) w.now ev))
act-only kinds w (Hears k session) m e = at-actor w (does kinds w (Hears k session)) k m e (put-if k w _ [] (nat_lt k (length w.seats)))
act-only kinds w (Starts k f) m e = at-actor w (does kinds w (Starts k f)) k m e (put-if k w _ [] (is_down w k))
act-only kinds w (Stops k) m e = at-actor w (does kinds w (Stops k)) k m e (put-if k w _ [] (is_up w k))
act-only kinds w (Fails k own) m e = at-actor w (does kinds w (Fails k own)) k m e (put-if k w _ [] (is_up w k))
act-only kinds w (Invalidates k f) m e = at-actor w (does kinds w (Invalidates k f)) k m e (put-if k w _ [] (is_down w k))
act-only kinds w (Fuses k calls choice) m e = at-actor w (does kinds w (Fuses k calls choice)) k m e (put-if k w _ [] (nat_lt k (length w.seats)))
act-only kinds w (Begins k) m e = at-actor w (does kinds w (Begins k)) k m e (put-if k w _ [] (is_up w k && is_resting (seat w k).phase))
act-only kinds w (Takes k service) m e = at-actor w (does kinds w (Takes k service)) k m e (put-if k w _ [] (is_up w k && (is_going (seat w k).phase && (nat_lt service (length kinds) && may_take (seat w k).member (seat w k).run service))))
act-only kinds w (Closes k) m e = at-actor w (does kinds w (Closes k)) k m e (calls-if k w (closes (rules_of kinds) k (seat w k).phase w) (is_up w k) (closes-only (rules_of kinds) k w (seat w k).phase))
act-only kinds w (Writes k f) m e = at-actor w (does kinds w (Writes k f)) k m e (calls-if k w (writes k (seat w k).phase f w) (is_up w k) (writes-only k w (seat w k).phase f))
act-only kinds w (Sends k) m e = at-actor w (does kinds w (Sends k)) k m e (calls-if k w (sends (rules_of kinds) k (seat w k).phase w) (is_up w k) (sends-only (rules_of kinds) k w (seat w k).phase))
act-only kinds w (Cuts from to) m e = absurd (cc)
act-only kinds w (Heals from to) m e = absurd (cc)
act-only kinds w (Loses from to) m e = absurd (cc)
act-only kinds w (Replays from to latest) m e = absurd (cc)

abbrev IsOf : ℕ → Act → Type 0
IsOf m a = (u : RunWorld) → actor u a ≡ Some m

pub acts-only : (kinds : List Kind) (w : RunWorld) (acts : List Act) (m : ℕ) → AllByRecursion (IsOf m) acts → Only m w (after_acts kinds w acts)
acts-only kinds w [] m all = only-same m w
acts-only kinds w (a ∷ acts) m all = only-then m w (does kinds w a) (after_acts kinds (does kinds w a) acts) (act-only kinds w a m (all.0 w)) (acts-only kinds (does kinds w a) acts m all.1)

-- ---- a whole phase

all-takes : (m : ℕ) (services : List ℕ) → AllByRecursion (IsOf m) (consume m services)
all-takes m [] = tt
all-takes m (k ∷ ks) = (λ u. refl, all-takes m ks)

all-writes : (m : ℕ) (fates : List Fate) → AllByRecursion (IsOf m) (put_all m fates)
all-writes m [] = tt
all-writes m (f ∷ fs) = (λ u. refl, all-writes m fs)

over-only : (kinds : List Kind) (m : ℕ) (fates : List Fate) (fails : Option ℕ) (w : RunWorld) → Only m w (phase_over kinds m fates fails w)
over-only kinds m fates None w =
    let closed = does kinds w (Closes m) in
    let put = after_acts kinds closed (put_all m fates) in
    only-then m w closed (does kinds put (Sends m)) (act-only kinds w (Closes m) m refl) (only-then m closed put (does kinds put (Sends m)) (acts-only kinds closed (put_all m fates) m (all-writes m fates)) (act-only kinds put (Sends m) m refl))
over-only kinds m fates (Some own) w = act-only kinds w (Fails m own) m refl

pub phased-only : (kinds : List Kind) (m : ℕ) (w v : RunWorld) → Phased kinds m w v → Only m w v
phased-only kinds m w v p =
    let begun = does kinds w (Begins m) in
    let fed = after_acts kinds begun (consume m p.services) in
    subst (Only m w) (sym p.ends)
    (only-then m w fed (phase_over kinds m p.fates p.fails fed)
    (only-then m w begun fed (act-only kinds w (Begins m) m refl) (acts-only kinds begun (consume m p.services) m (all-takes m p.services)))
    (over-only kinds m p.fates p.fails fed))

-- ---- how one member stands to the world

pub each-length : {A B : Type 0} (R : A → B → Type 0) (xs : List A) (ys : List B) → Each2 R xs ys → length xs ≡ length ys
each-length R [] [] each = refl
each-length R [] (y ∷ ys) each = absurd each
each-length R (x ∷ xs) [] each = absurd each
each-length R (x ∷ xs) (y ∷ ys) each = ap suc (each-length R xs ys each.1)

pub each-at : {A B : Type 0} (R : A → B → Type 0) (xs : List A) (ys : List B) (i : ℕ) (x : A) (y : B) → Each2 R xs ys → i < length xs → R (slice_index_or xs i x) (slice_index_or ys i y)
each-at R [] ys i x y each l = absurd (omega (arith, l))
each-at R (a ∷ xs) [] i x y each l = absurd each
each-at R (a ∷ xs) (b ∷ ys) zero x y each l = each.0
each-at R (a ∷ xs) (b ∷ ys) (suc i) x y each l = each-at R xs ys i x y each.1 (omega (arith, l))

each-set : {A B : Type 0} (R : A → B → Type 0) (xs : List A) (ys : List B) (i : ℕ) (x : A) (y : B) → Each2 R xs ys → R x y → Each2 R (set xs i x) (set ys i y)
each-set R [] [] i x y each is = each
each-set R [] (b ∷ ys) i x y each is = absurd each
each-set R (a ∷ xs) [] i x y each is = absurd each
each-set R (a ∷ xs) (b ∷ ys) zero x y each is = (is, each.1)
each-set R (a ∷ xs) (b ∷ ys) (suc i) x y each is = (each.0, each-set R xs ys i x y each.1 is)

module _ {D : Type 0} (state : D → DiskState) (kinds : List Kind) where
  pub seat-there : (x : RunSeen D) (w : RunWorld) (m : ℕ) → Stands state kinds x w → m < length w.seats → (y : SeatSeen D) × (slice_get x.seats m ≡ Some y)
  seat-there x w m stands l = elim (slice_get_cases x.seats m).1 [
    | inl there ↦ (there.0, there.2)
    | inr past ↦ absurd (let p = past.0 in let count = each-length (IsSeat state kinds) x.seats w.seats stands.seats in omega (arith, p, count, l))
  ]

  pub stands-alone : (x : RunSeen D) (w : RunWorld) (m : ℕ) (y : SeatSeen D) → Stands state kinds x w → slice_get x.seats m ≡ Some y → StandsFor state kinds m (one_of y x) w
  stands-alone x w m y stands is =
      let l : m < length x.seats = slice_get_within x.seats m y is in
      let count = each-length (IsSeat state kinds) x.seats w.seats stands.seats in
      record {
        within = omega (arith, l, count);
        now = stands.now;
        seat = subst (λ (z : SeatSeen D). IsSeat state kinds z (seat w m)) (get_or_from_slice_get x.seats m y y is) (each-at (IsSeat state kinds) x.seats w.seats m y first_seat stands.seats l);
        net = stands.net;
        records = stands.records;
        printed = stands.printed;
      }

  pub stands-again : (x : RunSeen D) (w v : RunWorld) (m : ℕ) (o : OneSeen D) → Stands state kinds x w → StandsFor state kinds m o v → Only m w v → Stands state kinds (with_one m o x) v
  stands-again x w v m o stands one only = record {
    now = one.now;
    seats = subst (λ (l : List Seat). Each2 (IsSeat state kinds) (set x.seats m o.seat) l) (sym only) (each-set (IsSeat state kinds) x.seats w.seats m o.seat (seat v m) stands.seats one.seat);
    net = one.net;
    records = one.records;
    printed = one.printed;
  }

  pub stands-put : (w : RunWorld) (m : ℕ) (o : OneSeen D) (y : SeatSeen D) (s : Seat) (ps : List Sent) → StandsFor state kinds m o w → IsSeat state kinds y s → StandsFor state kinds m (one_put m y ps (committed s.member) o) (put m s ps w)
  stands-put w m o y s ps one is =
      let l = one.within in
      let size = length-set w.seats m s in
      record {
        within = omega (arith, l, size);
        now = one.now;
        seat = subst (IsSeat state kinds y) (sym (get_or-set_same w.seats m s first_seat l)) is;
        net = ap (λ (net : NetSeen). all_sent m ps net) one.net;
        records = one.records;
        printed = ap (λ (log : Log). longer log (committed s.member)) one.printed;
      }
