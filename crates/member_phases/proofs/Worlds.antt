-- One seat of a world is changed.
use Rattle.std.proofs.Common.{◌≡◌, inl, inr, ℕ, zero, suc, ◌<◌, ◌≤◌, true, false, List, [], ◌∷◌, ◌++◌, length, set, take, refl, sym, ap, ◌∙◌, subst, arith, get_or-set_same, length-set}
use Rattle.std.specs.Prelude.{Contains, slice_index_or}
use Rattle.std.proofs.lemmas.Bool.{cases_lt}
use Rattle.std.proofs.lemmas.List.{get_or_past}
use Rattle.entry_log.specs.Log.{Log}
use Rattle.log_replication.specs.Prefixes.{Leads}
use Rattle.service_api.specs.declared.shipped.Kind.{Kind}
use Rattle.consensus_core.specs.Member.{Member, Run}
use Rattle.world.specs.World.{member}
use Rattle.service_runs.specs.Hosts.{Hosted}
use Rattle.service_runs.proofs.Acts.{held}
use Rattle.service_runs.proofs.Held.{Held}
use Rattle.one_log.specs.Led.{led, turns}
use Rattle.one_log.specs.Ruled.{rules_of}
use Rattle.one_log.proofs.Turns.{turns-acts}
use Rattle.run_world.specs.Lawful.{Lawful}
use Rattle.run_world.specs.Seat.{Seat, first_seat}
use Rattle.run_world.specs.RunWorld.{Act, RunWorld, after_acts, committed, does, put, seat}
use Rattle.run_world.proofs.Printed.{longer-short}
use Rattle.run_world.proofs.Queues.{committed-within}
use Rattle.run_world.proofs.Shown.{commit-within, member-shown}
use Rattle.member_phases.specs.Seats.{with_seat}

-- a running member is there
pub up-there : (w : RunWorld) (m : ℕ) → (seat w m).member.up ≡ true → m < length w.seats
up-there w m up = elim (cases_lt m (length w.seats)) [
  | inl l ↦ l
  | inr past ↦ absurd (none (ap (λ (s : Seat). s.member.up) (sym (get_or_past w.seats m first_seat past)) ∙ up))
]
  where
    none : false ≡ true → ⊥
    none e = cc

-- ---- what explains a world

abbrev pub hosted-of : (n : ℕ) (kinds : List Kind) (w : RunWorld) → Lawful n kinds w → Hosted
hosted-of n kinds w lawful = (turns kinds (rules_of kinds) (led n) lawful.taken).hosted

pub is-held : (n : ℕ) (kinds : List Kind) (w : RunWorld) (lawful : Lawful n kinds w) → Held n (rules_of kinds) (hosted-of n kinds w lawful)
is-held n kinds w lawful =
    let r = rules_of kinds in
    let acts = turns-acts kinds r (led n) lawful.taken in
    subst (Held n r) (sym acts.1) (held n r acts.0)

-- what is committed is printed
pub printed-all : (n : ℕ) (kinds : List Kind) (w : RunWorld) (m : ℕ) → Lawful n kinds w → length (committed (seat w m).member) ≤ length w.printed
printed-all n kinds w m lawful =
    let h = hosted-of n kinds w lawful in
    committed-within h w m (λ j. commit-within n (rules_of kinds) h j (is-held n kinds w lawful)) lawful.shows

-- a commit is within the log
pub commit-low : (n : ℕ) (kinds : List Kind) (w : RunWorld) (m : ℕ) → Lawful n kinds w → (seat w m).member.values.rest.commit ≤ length (seat w m).member.durable.log
commit-low n kinds w m lawful =
    let h = hosted-of n kinds w lawful in
    subst (λ (x : Member). x.values.rest.commit ≤ length x.durable.log) (member-shown h w m lawful.shows) ((is-held n kinds w lawful).fits.members m).commit.0

-- what a service of a running member consumed
abbrev pub IsFront : Member → Log → Type 0
IsFront x xs = Leads xs x.durable.log × (length xs ≤ x.values.rest.commit)

pub inputs-front : (n : ℕ) (kinds : List Kind) (w : RunWorld) (m : ℕ) (xs : Log) → Lawful n kinds w → (seat w m).member.up ≡ true → Contains (seat w m).run.inputs xs → IsFront (seat w m).member xs
inputs-front n kinds w m xs lawful up has =
    let h = hosted-of n kinds w lawful in
    let shown = member-shown h w m lawful.shows in
    let on : (member h.world m).up ≡ true = ap (λ (x : Member). x.up) shown ∙ up in
    let own = subst (λ (r : Run). Contains r.inputs xs) (sym (lawful.shows.hosts m).run) has in
    subst (λ (x : Member). IsFront x xs) shown (((is-held n kinds w lawful).live m on).inputs xs own)

-- a front of a log is its first entries
pub front-is : (xs l : Log) → Leads xs l → xs ≡ take (length xs) l
front-is [] l lead = refl
front-is (x ∷ xs) [] lead = absurd lead
front-is (x ∷ xs) (y ∷ l) lead = (λ i. lead.0 i ∷ front-is xs l lead.1 i)

-- ---- a seat that is set

pub set-set : (xs : List Seat) (m : ℕ) (s t : Seat) → set (set xs m s) m t ≡ set xs m t
set-set [] m s t = refl
set-set (x ∷ xs) zero s t = refl
set-set (x ∷ xs) (suc m) s t = ap (λ (l : List Seat). x ∷ l) (set-set xs m s t)

set-own : (xs : List Seat) (m : ℕ) → set xs m (slice_index_or xs m first_seat) ≡ xs
set-own [] m = refl
set-own (x ∷ xs) zero = refl
set-own (x ∷ xs) (suc m) = ap (λ (l : List Seat). x ∷ l) (set-own xs m)

abbrev pub with_seats : RunWorld → List Seat → RunWorld
with_seats w l = record w { seats = l }

pub own-seat : (w : RunWorld) (m : ℕ) → with_seat m (seat w m) w ≡ w
own-seat w m = ap (with_seats w) (set-own w.seats m)

pub seat-twice : (w : RunWorld) (m : ℕ) (s t : Seat) → with_seat m t (with_seat m s w) ≡ with_seat m t w
seat-twice w m s t = ap (with_seats w) (set-set w.seats m s t)

pub seat-there : (w : RunWorld) (m : ℕ) (s : Seat) → m < length w.seats → seat (with_seat m s w) m ≡ s
seat-there w m s l = get_or-set_same w.seats m s first_seat l

pub still-there : (w : RunWorld) (m : ℕ) (s : Seat) → m < length w.seats → m < length (with_seat m s w).seats
still-there w m s l = let e = length-set w.seats m s in omega (arith, l, e)

-- nothing more is printed of it
pub put-is : (w : RunWorld) (m : ℕ) (s : Seat) → length (committed s.member) ≤ length w.printed → put m s [] w ≡ with_seat m s w
put-is w m s few = ap (λ (p : Log). record w { seats = set w.seats m s; printed = p }) (longer-short w.printed (committed s.member) few)

pub acts-append : (kinds : List Kind) (w : RunWorld) (as' bs : List Act) → after_acts kinds w (as' ++ bs) ≡ after_acts kinds (after_acts kinds w as') bs
acts-append kinds w [] bs = refl
acts-append kinds w (a ∷ as') bs = acts-append kinds (does kinds w a) as' bs
