-- The seat after the row of an event that was asked.
use Rattle.std.proofs.Common.{◌≡◌, ◌⊎◌, inl, inr, ℕ, ◌≤◌, Bool, true, false, ◌&&◌, ◌||◌, not, [], ◌∷◌, ◌++◌, length, Option, refl, ap, ◌∙◌, arith, if◌then◌else◌, length-append}
use Rattle.std.specs.Prelude.{nat_lt}
use Rattle.std.proofs.lemmas.Bool.Decides.{nat_tests}
use Rattle.std.proofs.lemmas.List.{take-append-le}
use Rattle.entry_log.specs.Durable.{Durable}
use Rattle.sbe_events.specs.declared.event.Event.{Event}
use Rattle.consensus_core.specs.declared.change.Change.TheVariants as changes
use Rattle.consensus_core.specs.declared.plan.Plan.TheVariants as plans
use Rattle.consensus_core.specs.declared.row.Row.{Row}
use Rattle.consensus_core.specs.Member.{Member, Cut, Whole, Before, After, after, is_ready, row_of_client, sent_by, stopped}
use Rattle.consensus_core.specs.Reign.{entry_of}
use Rattle.consensus_core.specs.Rows.{nothing}
use Rattle.service_runs.specs.Hosts.{is_over}
use Rattle.run_world.specs.Seat.{Seat, Fate, Phase, Rests, Goes, Ends, acted, becomes, faults_left, halted, phase_after, reigns_from, went_on}
use Rattle.run_world.specs.RunWorld.{committed}

-- a disk with one more entry in its log
abbrev pub longer_by : Event → Durable → Durable
longer_by e d = record d { log = d.log ++ entry_of e ∷ [] }

abbrev pub appends_one : Member → Event → Row
appends_one x e = record { values = x.values; change = changes.Append (entry_of e ∷ []); plan = plans.Silence }

-- a member that runs, with one more entry in its log
abbrev pub with_one : Member → Event → Member
with_one x e = record { up = true; values = x.values; durable = longer_by e x.durable }

-- the row of a member that is ready to lead
pub row-is : (x : Member) (e : Event) → is_ready x.values.election.state ≡ true → row_of_client x e ≡ appends_one x e
row-is x e lead = ap (λ (b : Bool). if b then appends_one x e else nothing x.values.election x.values.rest) lead

-- no reign begins by it
keeps-reign : (s : Seat) (now : ℕ) (b : Bool) → (if b && not b then record s { alive = []; since = now } else s) ≡ s
keeps-reign s now true = refl
keeps-reign s now false = refl

-- and no phase is over by it
not-over : (a b : Bool) → a ≡ false → (a || (b && not b)) ≡ false
not-over true b e = e
not-over false true e = refl
not-over false false e = refl

goes-on : (x : Member) (e : Event) → is_over x (with_one x e) ≡ false
goes-on x e =
    let n = length-append x.durable.log (entry_of e ∷ []) in
    not-over (nat_lt (length (x.durable.log ++ entry_of e ∷ [])) (length x.durable.log)) (is_ready x.values.election.state) (grind (arith, nat_tests, n))

same-phase : (x y : Member) (p : Phase) → is_over x y ≡ false → phase_after x y p ≡ p
same-phase x y Rests on = refl
same-phase x y (Goes role true) on = refl
same-phase x y (Goes role false) on = ap (λ (b : Bool). Goes role b) on
same-phase x y (Ends role upto due) on = refl

-- a fate in which the disk does all of it
abbrev pub whole_fate : Option ℕ → ℕ → Fate
whole_fate lets own = record { cut = Whole; lets = lets; own = own }

-- the seat with one more entry in its member's log
abbrev pub grown : Event → Fate → Seat → Seat
grown e f s = record s { member = with_one s.member e; faults = faults_left f s.faults }

pub acted-whole : (s : Seat) (e : Event) (now : ℕ) (lets : Option ℕ) (own : ℕ) → is_ready s.member.values.election.state ≡ true → acted (row_of_client s.member e) now (whole_fate lets own) s ≡ grown e (whole_fate lets own) s
acted-whole s e now lets own lead =
    let f = whole_fate lets own in
    let y = with_one s.member e in
    ap (λ (r : Row). acted r now f s) (row-is s.member e lead)
    ∙ ap (λ (t : Seat). went_on y f t) (keeps-reign s now (is_ready s.member.values.election.state))
    ∙ ap (λ (p : Phase). record s { member = y; phase = p; faults = faults_left f s.faults }) (same-phase s.member y s.phase (goes-on s.member e))

-- it sends nothing
pub sends-none : (x : Member) (e : Event) (c : Cut) → sent_by (row_of_client x e) c x ≡ []
sends-none x e Whole = at (is_ready x.values.election.state)
  where
    at : (b : Bool) → sent_by (if b then appends_one x e else nothing x.values.election x.values.rest) Whole x ≡ []
    at true = refl
    at false = refl
sends-none x e Before = refl
sends-none x e After = refl

-- ---- where the disk fails at it

abbrev pub fate_before : Option ℕ → ℕ → Fate
fate_before lets own = record { cut = Before; lets = lets; own = own }

abbrev pub fate_after : Option ℕ → ℕ → Fate
fate_after lets own = record { cut = After; lets = lets; own = own }

pub acted-before : (s : Seat) (e : Event) (now : ℕ) (lets : Option ℕ) (own : ℕ) → is_ready s.member.values.election.state ≡ true → acted (row_of_client s.member e) now (fate_before lets own) s ≡ halted (stopped s.member.durable) own s
acted-before s e now lets own lead =
    ap (λ (r : Row). acted r now (fate_before lets own) s) (row-is s.member e lead)
    ∙ ap (λ (t : Seat). halted (stopped s.member.durable) own t) (keeps-reign s now (is_ready s.member.values.election.state))

pub acted-after : (s : Seat) (e : Event) (now : ℕ) (lets : Option ℕ) (own : ℕ) → is_ready s.member.values.election.state ≡ true
    → acted (row_of_client s.member e) now (fate_after lets own) s ≡ halted (stopped (longer_by e s.member.durable)) own s
acted-after s e now lets own lead =
    ap (λ (r : Row). acted r now (fate_after lets own) s) (row-is s.member e lead)
    ∙ ap (λ (t : Seat). halted (stopped (longer_by e s.member.durable)) own t) (keeps-reign s now (is_ready s.member.values.election.state))

-- ---- what it committed

becomes-member : (y : Member) (f : Fate) (s : Seat) → (becomes y f s).member ≡ y
becomes-member y f s = at y.up
  where
    at : (b : Bool) → (if b then went_on y f s else halted y f.own s).member ≡ y
    at true = refl
    at false = refl

-- as before, or nothing once it stopped
pub commits : (s : Seat) (e : Event) (now : ℕ) (f : Fate) → s.member.values.rest.commit ≤ length s.member.durable.log → (committed (acted (row_of_client s.member e) now f s).member ≡ committed s.member) ⊎ (committed (acted (row_of_client s.member e) now f s).member ≡ [])
commits s e now f within =
    let x = s.member in
    let row = row_of_client x e in
    let is : (acted row now f s).member ≡ after row f.cut x = becomes-member (after row f.cut x) f (reigns_from now row s) in
    at f.cut (ap committed is)
  where
    whole : (x : Member) → x.values.rest.commit ≤ length x.durable.log → (b : Bool) → committed (after (if b then appends_one x e else nothing x.values.election x.values.rest) Whole x) ≡ committed x
    whole x within true = take-append-le x.values.rest.commit x.durable.log (entry_of e ∷ []) within
    whole x within false = refl

    at : (c : Cut) → committed (acted (row_of_client s.member e) now f s).member ≡ committed (after (row_of_client s.member e) c s.member) → (committed (acted (row_of_client s.member e) now f s).member ≡ committed s.member) ⊎ (committed (acted (row_of_client s.member e) now f s).member ≡ [])
    at Whole is = inl (is ∙ whole s.member within (is_ready s.member.values.election.state))
    at Before is = inr is
    at After is = inr is
