-- What becomes of an entry that is offered, case by case.
use Rattle.std.proofs.Common.{◌≡◌, ℕ, ◌-◌, ◌<◌, ◌≤◌, Bool, true, false, if◌then◌else◌, nat_lt, [], ◌∷◌, ◌++◌, length, refl, sym, ◌∙◌, ap, arith}
use Rattle.std.proofs.lemmas.Bool.Decides.{nat_tests}
use Rattle.entry_log.specs.Log.{end_after}
use Rattle.sbe_events.specs.declared.event.Event.{Event}
use Rattle.echo_run.specs.Driver.{IsKept, member_in}
use Rattle.echo_run.specs.LeaderRows.{Member}
use Rattle.echo_run.specs.Module.{event_len, place_of}
use Rattle.echo_run.specs.World.{taken, admitted}
use Rattle.echo_run.specs.declared.run.Run.{Run}
use Rattle.echo_run.specs.declared.sent.Outcome.{Outcome}
use Rattle.echo_run.specs.declared.sent.Outcome.TheVariants as outcome
use Rattle.echo_run.proofs.LogBounds.{place_push}

-- what is offered changes nothing of the election
pub taken_election : (m : Member) (e : Event) (o : Outcome) → (taken m e o).election ≡ m.election
taken_election m e (outcome.Accepted i) = refl
taken_election m e (outcome.NotLeader l) = refl
taken_election m e (outcome.WrongTerm t) = refl
taken_election m e (outcome.NoSession s) = refl
taken_election m e (outcome.TooLarge n) = refl
taken_election m e outcome.SessionLimit = refl
taken_election m e (outcome.BackPressure n) = refl
taken_election m e (outcome.LogFull p) = refl

-- an offer's outcome by its end, by the place of the commit, and by how many entries there are
abbrev admit : ℕ → ℕ → ℕ → Outcome
admit place before n = if nat_lt 32768 (place - before) then outcome.BackPressure (place - before) else if nat_lt 16777216 place then outcome.LogFull place else outcome.Accepted n

admit_pressed : (place before n waiting : ℕ) → waiting ≡ place - before → 32768 < waiting → outcome.BackPressure waiting ≡ admit place before n
admit_pressed place before n waiting is more =
    let test : nat_lt 32768 (place - before) ≡ true = grind (arith, nat_tests) in
    ap outcome.BackPressure is ∙ sym (ap (λ (b : Bool). if b then outcome.BackPressure (place - before) else if nat_lt 16777216 place then outcome.LogFull place else outcome.Accepted n) test)

admit_few : (place before n waiting : ℕ) → waiting ≡ place - before → waiting ≤ 32768 → admit place before n ≡ (if nat_lt 16777216 place then outcome.LogFull place else outcome.Accepted n)
admit_few place before n waiting is few =
    let test : nat_lt 32768 (place - before) ≡ false = grind (arith, nat_tests) in
    ap (λ (b : Bool). if b then outcome.BackPressure (place - before) else if nat_lt 16777216 place then outcome.LogFull place else outcome.Accepted n) test

admit_full : (place before n waiting : ℕ) → waiting ≡ place - before → waiting ≤ 32768 → 16777216 < place → outcome.LogFull place ≡ admit place before n
admit_full place before n waiting is few past =
    let test : nat_lt 16777216 place ≡ true = grind (arith, nat_tests) in
    sym (admit_few place before n waiting is few ∙ ap (λ (b : Bool). if b then outcome.LogFull place else outcome.Accepted n) test)

admit_room : (place before n waiting : ℕ) → waiting ≡ place - before → waiting ≤ 32768 → place ≤ 16777216 → outcome.Accepted n ≡ admit place before n
admit_room place before n waiting is few room =
    let test : nat_lt 16777216 place ≡ false = grind (arith, nat_tests) in
    sym (admit_few place before n waiting is few ∙ ap (λ (b : Bool). if b then outcome.LogFull place else outcome.Accepted n) test)

module _ (r : Run) (kept : IsKept r) (e : Event) (end : ℕ) (at : end ≡ end_after r.name.place (event_len e)) where
  pub ends : end ≡ place_of (r.log ++ e ∷ [])
  ends = at ∙ ap (λ n. end_after n.place (event_len e)) kept.name ∙ sym (place_push r.log 0 e)

  by_end : admit end r.commit_place (length r.log) ≡ admitted (member_in r) e
  by_end = ap (λ p. admit p r.commit_place (length r.log)) ends ∙ ap (λ q. admit (place_of (r.log ++ e ∷ [])) q (length r.log)) kept.commit_place

  pub pressed : (waiting : ℕ) → waiting ≡ end - r.commit_place → 32768 < waiting → outcome.BackPressure waiting ≡ admitted (member_in r) e
  pressed waiting is more = admit_pressed end r.commit_place (length r.log) waiting is more ∙ by_end

  pub full : (waiting : ℕ) → waiting ≡ end - r.commit_place → waiting ≤ 32768 → 16777216 < end → outcome.LogFull end ≡ admitted (member_in r) e
  full waiting is few past = admit_full end r.commit_place (length r.log) waiting is few past ∙ by_end

  pub accepted : (waiting : ℕ) → waiting ≡ end - r.commit_place → waiting ≤ 32768 → end ≤ 16777216 → outcome.Accepted (length r.log) ≡ admitted (member_in r) e
  accepted waiting is few room = admit_room end r.commit_place (length r.log) waiting is few room ∙ by_end
