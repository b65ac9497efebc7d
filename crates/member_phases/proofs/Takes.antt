-- Services consume what is committed.
use Rattle.std.proofs.Common.{◌≡◌, ℕ, zero, suc, ◌+◌, ◌-◌, ◌<◌, ◌≤◌, ℤ, Bool, true, ◌&&◌, List, [], ◌∷◌, ◌++◌, length, map, set, take, drop, Option, refl, sym, ap, ◌∙◌, subst, arith, length-append, append_assoc, if◌then◌else◌}
use Rattle.std.specs.Prelude.{Contains, nat_lt, slice_index_or}
use Rattle.std.proofs.lemmas.Bool.Decides.{nat_tests}
use Rattle.std.proofs.lemmas.List.{map-append}
use Rattle.entry_log.specs.Log.{Log}
use Rattle.service_api.specs.declared.shipped.Kind.{Kind}
use Rattle.consensus_core.specs.Member.{Member, Run, input_of, may_take, with_next}
use Rattle.service_phases.specs.Pairs.{Each}
use Rattle.service_runs.proofs.Lists.{take-length}
use Rattle.run_world.specs.Lawful.{Lawful}
use Rattle.run_world.specs.Rounds.{consume}
use Rattle.run_world.specs.Seat.{Seat, Goes, fed, is_going}
use Rattle.run_world.specs.RunWorld.{Act, RunWorld, Takes, after_acts, committed, is_up, put, seat}
use Rattle.run_world.proofs.Rows.{both}
use Rattle.member_phases.specs.Seats.{all_fed, with_seat}
use Rattle.member_phases.proofs.Worlds.{IsFront, acts-append, commit-low, front-is, inputs-front, own-seat, printed-all, put-is, seat-there, seat-twice, still-there, up-there}

take_of : ℕ → ℕ → Act
take_of m k = Takes m k

-- ---- from one seat to another, by takes alone

abbrev pub IsAt : RunWorld → ℕ → Seat → Type 0
IsAt w m s = (m < length w.seats) × (seat w m ≡ s) × (length (committed s.member) ≤ length w.printed)

abbrev pub Feeds : List Kind → Seat → Seat → Type 0
Feeds kinds s t = (ks : List ℕ) × ((w : RunWorld) (m : ℕ) → IsAt w m s → after_acts kinds w (consume m ks) ≡ with_seat m t w)

pub feeds-none : (kinds : List Kind) (s : Seat) → Feeds kinds s s
feeds-none kinds s = ([], λ w m at. sym (ap (λ (t : Seat). with_seat m t w) (sym at.1) ∙ own-seat w m))

pub feeds-on : (kinds : List Kind) (s t v : Seat) → t.member ≡ s.member → Feeds kinds s t → Feeds kinds t v → Feeds kinds s v
feeds-on kinds s t v same a b = (
  a.0 ++ b.0,
  λ w m at.
      let u = with_seat m t w in
      let next : IsAt u m t = (still-there w m t at.0, seat-there w m t at.0, subst (λ (x : Member). length (committed x) ≤ length w.printed) (sym same) at.2) in
      ap (after_acts kinds w) (map-append (λ (k : ℕ). Takes m k) a.0 b.0)
      ∙ acts-append kinds w (consume m a.0) (consume m b.0)
      ∙ ap (λ (z : RunWorld). after_acts kinds z (consume m b.0)) (a.1 w m at)
      ∙ b.1 u m next
      ∙ seat-twice w m t v,
)

-- ---- one entry

may : (x : Member) (run : Run) (k : ℕ) → x.up ≡ true → k < length run.inputs → length (input_of run k) < x.values.rest.commit → may_take x run k ≡ true
may x run k up there low =
    both x.up (nat_lt k (length run.inputs) && nat_lt (length (input_of run k)) x.values.rest.commit) up
    (both (nat_lt k (length run.inputs)) (nat_lt (length (input_of run k)) x.values.rest.commit) (grind (arith, nat_tests, there)) (grind (arith, nat_tests, low)))

pub feeds-one : (kinds : List Kind) (s : Seat) (k : ℕ) (role : Option ℤ) (over : Bool) → s.member.up ≡ true → s.phase ≡ Goes role over → length s.run.inputs ≡ length kinds → k < length s.run.inputs → length (input_of s.run k) < s.member.values.rest.commit
    → Feeds kinds s (fed k s)
feeds-one kinds s k role over up goes count there low = (k ∷ [], one)
  where
    here : nat_lt k (length kinds) ≡ true
    here = grind (arith, nat_tests, count, there)

    guard : (w : RunWorld) (m : ℕ) → m < length w.seats → (is : seat w m ≡ s) → (is_up w m && (is_going (seat w m).phase && (nat_lt k (length kinds) && may_take (seat w m).member (seat w m).run k))) ≡ true
    guard w m l is =
        subst (λ (t : Seat). ((nat_lt m (length w.seats) && t.member.up) && (is_going t.phase && (nat_lt k (length kinds) && may_take t.member t.run k))) ≡ true) (sym is)
        (both (nat_lt m (length w.seats) && s.member.up) (is_going s.phase && (nat_lt k (length kinds) && may_take s.member s.run k))
        (both (nat_lt m (length w.seats)) s.member.up (grind (arith, nat_tests, l)) up)
        (both (is_going s.phase) (nat_lt k (length kinds) && may_take s.member s.run k) (ap is_going goes)
        (both (nat_lt k (length kinds)) (may_take s.member s.run k) here (may s.member s.run k up there low))))

    one : (w : RunWorld) (m : ℕ) → IsAt w m s → after_acts kinds w (consume m (k ∷ [])) ≡ with_seat m (fed k s) w
    one w m at =
        ap (λ (b : Bool). if b then put m (fed k (seat w m)) [] w else w) (guard w m at.0 at.1)
        ∙ ap (λ (t : Seat). put m (fed k t) [] w) at.1
        ∙ put-is w m (fed k s) at.2

-- ---- one service

abbrev pub with_inputs : Seat → List Log → Seat
with_inputs s l = record s { run = record s.run { inputs = l } }

pub get-mid : (done : List Log) (xs : Log) (rest : List Log) → slice_index_or (done ++ xs ∷ rest) (length done) [] ≡ xs
get-mid [] xs rest = refl
get-mid (d ∷ done) xs rest = get-mid done xs rest

pub set-mid : (done : List Log) (xs ys : Log) (rest : List Log) → set (done ++ xs ∷ rest) (length done) ys ≡ done ++ ys ∷ rest
set-mid [] xs ys rest = refl
set-mid (d ∷ done) xs ys rest = ap (λ (l : List Log). d ∷ l) (set-mid done xs ys rest)

-- with one entry more
take-more : (j : ℕ) (log : Log) → j < length log → take j log ++ take 1 (drop j log) ≡ take (suc j) log
take-more j [] low = absurd (omega (arith, low))
take-more zero (x ∷ log) low = refl
take-more (suc j) (x ∷ log) low = ap (λ (l : Log). x ∷ l) (take-more j log (omega (arith, low)))

pub next-is : (j : ℕ) (log : Log) → j < length log → with_next (take j log) log ≡ take (suc j) log
next-is j log low = ap (λ (k : ℕ). take j log ++ take 1 (drop k log)) (take-length j log (omega (arith, low))) ∙ take-more j log low

pub mid-there : (done : List Log) (xs : Log) (rest : List Log) → length done < length (done ++ xs ∷ rest)
mid-there done xs rest = let e = length-append done (xs ∷ rest) in omega (arith, e)

pub mid-count : (done : List Log) (xs ys : Log) (rest : List Log) → length (done ++ ys ∷ rest) ≡ length (done ++ xs ∷ rest)
mid-count done xs ys rest = length-append done (ys ∷ rest) ∙ sym (length-append done (xs ∷ rest))

module _ (kinds : List Kind) (s : Seat) (role : Option ℤ) (over : Bool) (up : s.member.up ≡ true) (goes : s.phase ≡ Goes role over) (within : s.member.values.rest.commit ≤ length s.member.durable.log) where
  abbrev log : Log
  log = s.member.durable.log

  abbrev commit : ℕ
  commit = s.member.values.rest.commit

  -- so many entries more
  feeds-service : (done rest : List Log) (more j : ℕ) → j + more ≡ commit → length (done ++ take j log ∷ rest) ≡ length kinds → Feeds kinds (with_inputs s (done ++ take j log ∷ rest)) (with_inputs s (done ++ take commit log ∷ rest))
  feeds-service done rest zero j e count =
      let is : j ≡ commit = omega (arith, e) in
      subst (λ (k : ℕ). Feeds kinds (with_inputs s (done ++ take j log ∷ rest)) (with_inputs s (done ++ take k log ∷ rest))) is (feeds-none kinds (with_inputs s (done ++ take j log ∷ rest)))
  feeds-service done rest (suc more) j e count =
      let t = with_inputs s (done ++ take j log ∷ rest) in
      let below : j < commit = omega (arith, e) in
      let inside : j < length log = omega (arith, below, within) in
      let has : length (slice_index_or (done ++ take j log ∷ rest) (length done) []) ≡ j = ap (λ (l : Log). length l) (get-mid done (take j log) rest) ∙ take-length j log (omega (arith, inside)) in
      let one = feeds-one kinds t (length done) role over up goes count (mid-there done (take j log) rest) (omega (arith, has, below)) in
      let new : set (done ++ take j log ∷ rest) (length done) (with_next (slice_index_or (done ++ take j log ∷ rest) (length done) []) log) ≡ done ++ take (suc j) log ∷ rest =
      ap (λ (xs : Log). set (done ++ take j log ∷ rest) (length done) (with_next xs log)) (get-mid done (take j log) rest)
      ∙ set-mid done (take j log) (with_next (take j log) log) rest
      ∙ ap (λ (xs : Log). done ++ xs ∷ rest) (next-is j log inside) in
      let to : Feeds kinds t (with_inputs s (done ++ take (suc j) log ∷ rest)) = subst (λ (l : List Log). Feeds kinds t (with_inputs s l)) new one in
      feeds-on kinds t (with_inputs s (done ++ take (suc j) log ∷ rest)) (with_inputs s (done ++ take commit log ∷ rest)) refl to
      (feeds-service done rest more (suc j) (omega (arith, e)) (mid-count done (take j log) (take (suc j) log) rest ∙ count))

  -- ---- all of them

  feeds-all : (done todo : List Log) → Each (IsFront s.member) todo → length (done ++ todo) ≡ length kinds → Feeds kinds (with_inputs s (done ++ todo)) (with_inputs s (done ++ map (λ (xs : Log). take commit log) todo))
  feeds-all done [] fronts count = feeds-none kinds (with_inputs s (done ++ []))
  feeds-all done (xs ∷ todo) fronts count =
      let is : xs ≡ take (length xs) log = front-is xs log fronts.0.0 in
      let all = λ (ys : Log). done ++ ys ∷ todo in
      let low = fronts.0.1 in
      let first : Feeds kinds (with_inputs s (done ++ xs ∷ todo)) (with_inputs s (done ++ take commit log ∷ todo)) =
      subst (λ (ys : Log). Feeds kinds (with_inputs s (done ++ ys ∷ todo)) (with_inputs s (done ++ take commit log ∷ todo))) (sym is)
      (feeds-service done todo (commit - length xs) (length xs) (omega (arith, low)) (mid-count done xs (take (length xs) log) todo ∙ count)) in
      let one : List Log = take commit log ∷ [] in
      let here : done ++ take commit log ∷ todo ≡ (done ++ one) ++ todo = sym (append_assoc done one todo) in
      let there : (done ++ one) ++ map (λ (ys : Log). take commit log) todo ≡ done ++ take commit log ∷ map (λ (ys : Log). take commit log) todo = append_assoc done one (map (λ (ys : Log). take commit log) todo) in
      let more : Feeds kinds (with_inputs s ((done ++ one) ++ todo)) (with_inputs s ((done ++ one) ++ map (λ (ys : Log). take commit log) todo)) =
      feeds-all (done ++ one) todo fronts.1 (ap (λ (l : List Log). length l) (sym here) ∙ mid-count done xs (take commit log) todo ∙ count) in
      feeds-on kinds (with_inputs s (done ++ xs ∷ todo)) (with_inputs s (done ++ take commit log ∷ todo)) (with_inputs s (done ++ take commit log ∷ map (λ (ys : Log). take commit log) todo)) refl first
      (subst (λ (l : List Log). Feeds kinds (with_inputs s l) (with_inputs s (done ++ take commit log ∷ map (λ (ys : Log). take commit log) todo))) (sym here)
      (subst (λ (l : List Log). Feeds kinds (with_inputs s ((done ++ one) ++ todo)) (with_inputs s l)) there more))

Contains-later : (xs ys : Log) (xss : List Log) → Contains xss ys → Contains (xs ∷ xss) ys
Contains-later xs ys xss has = (suc has.0, (let a = has.1 in omega (arith, a)), has.2)

pub each-front : (x : Member) (xss : List Log) → ((xs : Log) → Contains xss xs → IsFront x xs) → Each (IsFront x) xss
each-front x [] all = tt
each-front x (xs ∷ xss) all = (all xs (0, omega arith, refl), each-front x xss (λ ys has. all ys (Contains-later xs ys xss has)))

-- in a phase that goes on, of a seat whose services consumed fronts of what is committed
pub seat-feeds : (kinds : List Kind) (s : Seat) (role : Option ℤ) (over : Bool) → s.member.up ≡ true → s.phase ≡ Goes role over → s.member.values.rest.commit ≤ length s.member.durable.log → ((xs : Log) → Contains s.run.inputs xs → IsFront s.member xs)
    → length s.run.inputs ≡ length kinds → Feeds kinds s (all_fed s)
seat-feeds kinds s role over up goes low fronts count = feeds-all kinds s role over up goes low [] s.run.inputs (each-front s.member s.run.inputs fronts) count

pub all-taken : (n : ℕ) (kinds : List Kind) (w : RunWorld) (m : ℕ) (role : Option ℤ) (over : Bool) → Lawful n kinds w → (seat w m).member.up ≡ true → (seat w m).phase ≡ Goes role over → length (seat w m).run.inputs ≡ length kinds
    → (ks : List ℕ) × (after_acts kinds w (consume m ks) ≡ with_seat m (all_fed (seat w m)) w)
all-taken n kinds w m role over lawful up goes count =
    let s = seat w m in
    let feeds : Feeds kinds s (all_fed s) = seat-feeds kinds s role over up goes (commit-low n kinds w m lawful) (λ xs has. inputs-front n kinds w m xs lawful up has) count in
    (feeds.0, feeds.1 w m (up-there w m up, refl, printed-all n kinds w m lawful))
