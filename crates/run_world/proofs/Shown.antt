-- A change of one member in the world of steps shows as the change of its seat.
use Rattle.std.proofs.Common.{◌≡◌, ◌≢◌, inl, inr, ℕ, ◌<◌, ◌≤◌, Bool, true, false, ◌&&◌, ◌||◌, not, if◌then◌else◌, List, [], ◌∷◌, ◌++◌, length, map, set, take, refl, sym, ap, ◌∙◌, subst, arith, length-set, get_or-set_same, get_or-set_other}
use Rattle.std.specs.Prelude.{Contains, slice_index_or, nat_lt}
use Rattle.std.specs.List.{AllByRecursion}
use Rattle.std.proofs.lemmas.Bool.{cases_eq, cases_lt}
use Rattle.std.proofs.lemmas.Bool.Decides.{nat_tests}
use Rattle.std.proofs.lemmas.List.{map-set, length-map, get_or_past}
use Rattle.std.proofs.lemmas.List.Elements.{Contains-append_left, Contains-append_right}
use Rattle.std.proofs.Math.ListN.{get_or-map}
use Rattle.entry_log.specs.Durable.{fresh}
use Rattle.service_api.specs.declared.shipped.Kind.{Kind}
use Rattle.consensus_core.specs.Member.{Member, Sent, stopped, is_ready}
use Rattle.world.specs.World.{World, member}
use Rattle.service_runs.specs.Hosts.{Rules, Host, Hosted, Stage, Idle, Taking, Over, Ending, follow, is_over, marked, noted, printed_by, longer}
use Rattle.service_runs.proofs.Held.{Held}
use Rattle.service_runs.proofs.Lists.{take-short}
use Rattle.run_world.specs.Seat.{Seat, Phase, Rests, Goes, Ends, first_seat}
use Rattle.run_world.specs.RunWorld.{RunWorld, seat, put, all_sent, committed}
use Rattle.run_world.specs.Lawful.{IsSpelled, IsFlown, IsHost, IsPhase, member_of, Shows}
use Rattle.run_world.proofs.Flown.{flown-more, flown-all}
use Rattle.run_world.proofs.Printed.{prints-one}

-- ---- what is shown of a member

pub member-shown : (h : Hosted) (w : RunWorld) (m : ℕ) → Shows h w → member h.world m ≡ (seat w m).member
member-shown h w m s = ap (λ (xs : List Member). slice_index_or xs m (stopped fresh)) s.members ∙ get_or-map member_of w.seats m first_seat

pub count-shown : (h : Hosted) (w : RunWorld) → Shows h w → length h.world.members ≡ length w.seats
count-shown h w s = ap length s.members ∙ length-map w.seats member_of

over-self : (x : Member) → is_over x x ≡ false
over-self x = both (nat_lt (length x.durable.log) (length x.durable.log)) (is_ready x.values.election.state) (grind (arith, nat_tests))
  where
    both : (a b : Bool) → a ≡ false → (a || (b && not b)) ≡ false
    both true b e = e
    both false true e = refl
    both false false e = refl

still-phase : (x : Member) (p : Phase) (h : Host) → IsPhase p h → IsPhase p (record h { stage = marked x x h.stage })
still-phase x Rests h i = ap (marked x x) i
still-phase x (Goes role true) h i = (ap (marked x x) i.0, i.1, i.2)
still-phase x (Goes role false) h i = (ap (marked x x) i.0 ∙ ap (λ (b : Bool). if b then Over else Taking) (over-self x), i.1, i.2)
still-phase x (Ends role upto due) h i = (ap (marked x x) i.0, i.1)

-- a member that stays leaves its host as it is
pub still-host : (r : Rules) (x : Member) (h : Host) (s : Seat) → IsHost h s → IsHost (follow r x x h) s
still-host r x h s i = at x.up refl
  where
    at : (b : Bool) → x.up ≡ b → IsHost (follow r x x h) s
    at true up =
        let e : follow r x x h ≡ record h { stage = marked x x h.stage } = rw up refl in
        subst (λ (z : Host). IsHost z s) (sym e) (record { run = i.run; applied = i.applied; past = i.past; phase = still-phase x s.phase h i.phase })
    at false down =
        let e : follow r x x h ≡ h = rw down refl in
        subst (λ (z : Host). IsHost z s) (sym e) i

-- ---- the change

-- a world after a change of the member m, which is y then and has sent these packets
pub record IsChange (v w : World) (m : ℕ) (y : Member) (ps : List Sent) : Type 0 where
  pub now : w.now ≡ v.now
  pub members : w.members ≡ set v.members m y
  pub sent : w.sent ≡ v.sent ++ ps

all-contain : (xs ps : List Sent) → AllByRecursion (λ (s : Sent). Contains (xs ++ ps) s) ps
all-contain xs ps = at ps (λ s has. Contains-append_right xs ps s has)
  where
    at : (qs : List Sent) → ((s : Sent) → Contains qs s → Contains (xs ++ ps) s) → AllByRecursion (λ (s : Sent). Contains (xs ++ ps) s) qs
    at [] f = tt
    at (q ∷ qs) f = (f q (Contains-append_left (q ∷ []) qs q (0, (omega arith), refl)), at qs (λ s has. f s (Contains-append_right (q ∷ []) qs s has)))

-- what a member committed is no longer than what is printed
pub commit-within : (n : ℕ) (r : Rules) (h : Hosted) (j : ℕ) → Held n r h → length (committed (member h.world j)) ≤ length h.printed
commit-within n r h j held = elim (cases_lt j (length h.world.members)) [
  | inl l ↦ (let a = take-short (member h.world j).values.rest.commit (member h.world j).durable.log in let b = held.commits j l in omega (arith, a, b))
  | inr past ↦ subst (λ (x : Member). length (committed x) ≤ length h.printed) (sym (get_or_past h.world.members j (stopped fresh) past)) (omega arith)
]

-- no commit stands past what is printed
abbrev pub AllPrinted : Hosted → Type 0
AllPrinted h = (j : ℕ) → length (committed (member h.world j)) ≤ length h.printed

pub put-shows : (r : Rules) (h : Hosted) (w : RunWorld) (v : World) (m : ℕ) (y : Member) (ps : List Sent) (s' : Seat) → AllPrinted h → Shows h w → m < length w.seats
    → IsChange h.world v m y ps → s'.member ≡ y → IsHost (follow r (member h.world m) y (h.hosts m)) s' → IsSpelled v → Shows (noted r h v) (put m s' ps w)
put-shows r h w v m y ps s' all s within c is host spelled =
    let count = count-shown h w s in
    let inside : m < length h.world.members = omega (arith, within, count) in
    let size : length v.members ≡ length h.world.members = ap length c.members ∙ length-set h.world.members m y in
    let here : member v m ≡ y = ap (λ (xs : List Member). slice_index_or xs m (stopped fresh)) c.members ∙ get_or-set_same h.world.members m y (stopped fresh) inside in
    let there : (j : ℕ) → j ≢ m → member v j ≡ member h.world j = λ j other. ap (λ (xs : List Member). slice_index_or xs j (stopped fresh)) c.members ∙ get_or-set_other h.world.members m j y (stopped fresh) other in
    let few : (j : ℕ) → j ≢ m → length (committed (member v j)) ≤ length h.printed = λ j other. subst (λ (x : Member). length (committed x) ≤ length h.printed) (sym (there j other)) (all j) in
    record {
      now = c.now ∙ s.now;
      members = c.members ∙ ap (λ (xs : List Member). set xs m y) s.members ∙ ap (λ (x : Member). set (map member_of w.seats) m x) (sym is) ∙ sym (map-set member_of w.seats m s');
      hosts = λ j. elim (cases_eq j m) [
        | inl same ↦ subst (λ (k : ℕ). IsHost (follow r (member h.world k) (member v k) (h.hosts k)) (seat (put m s' ps w) k)) (sym same)
            (subst (λ (z : Seat). IsHost (follow r (member h.world m) (member v m) (h.hosts m)) z) (sym (get_or-set_same w.seats m s' first_seat within))
            (subst (λ (x : Member). IsHost (follow r (member h.world m) x (h.hosts m)) s') (sym here) host))
        | inr other ↦ subst (λ (z : Seat). IsHost (follow r (member h.world j) (member v j) (h.hosts j)) z) (sym (get_or-set_other w.seats m j s' first_seat other))
            (subst (λ (x : Member). IsHost (follow r (member h.world j) x (h.hosts j)) (seat w j)) (sym (there j other)) (still-host r (member h.world j) (h.hosts j) (seat w j) (s.hosts j)))
      ];
      outputs = s.outputs;
      printed =
          prints-one v m (length v.members) h.printed (omega (arith, inside, size)) few
          ∙ ap (λ (p : List _). longer p (committed (member v m))) s.printed
          ∙ ap (λ (x : Member). longer w.printed (committed x)) (here ∙ sym is);
      flown = flown-all v m ps w.net (subst (λ (xs : List Sent). AllByRecursion (λ (p : Sent). Contains xs p) ps) (sym c.sent) (all-contain h.world.sent ps)) spelled.to
          (flown-more h.world v w.net size (λ p has. subst (λ (xs : List Sent). Contains xs p) (sym c.sent) (Contains-append_left h.world.sent ps p has)) s.flown);
      spelled = spelled;
    }
