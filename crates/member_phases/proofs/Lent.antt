-- Containers of a phase that goes on: as it begins, and as they are lent once more.
use Rattle.std.proofs.Common.{◌≡◌, ℕ, zero, suc, ◌+◌, ◌≤◌, ◌<◌, ◌^◌, true, List, [], ◌∷◌, ◌++◌, length, map, take, drop, refl, sym, ap, ◌∙◌, arith, zero-add, length-append, append_assoc, length-drop}
use Rattle.std.proofs.lemmas.List.{drop-append-le, take-append-drop, take-append-le}
use Rattle.cl_base.specs.declared.entry.Entry.{Entry}
use Rattle.entry_log.specs.Log.{Log}
use Rattle.run_orders.specs.Stands.{HasInput, HaveInputs}
use Rattle.run_phases.specs.Grown.{GoesOn}
use Rattle.service_api.specs.declared.output.Output.{Output}
use Rattle.service_api.specs.declared.shipped.Kind.{Kind}
use Rattle.service_api.specs.declared.shipped.Shipped.{Shipped}
use Rattle.service_api.specs.Service.{outbox_from, state_from, state_of}
use Rattle.service_api.specs.ServiceLaws.{outbox_twice}
use Rattle.service_api.specs.Shipped.{first_of}
use Rattle.service_container.specs.Held.{Held, consumed_to}
use Rattle.service_container.specs.Records.{records_from}
use Rattle.service_phases.specs.Pairs.{Each, Each2}
use Rattle.service_phases.specs.Phases.{IsAt, IsWithin, forgetting}
use Rattle.service_phases.specs.Stages.{IsLent}
use Rattle.service_runs.proofs.Lists.{take-length}
use Rattle.member_phases.specs.Frees.{HasOutput, HaveOutputs}
use Rattle.member_phases.proofs.Grown.{records-append, state-append, take-on}

drop-past : (n : ℕ) (xs : Log) → length xs ≤ n → drop n xs ≡ []
drop-past zero [] low = refl
drop-past zero (x ∷ xs) low = absurd (omega (arith, low))
drop-past (suc n) [] low = refl
drop-past (suc n) (x ∷ xs) low = drop-past n xs (omega (arith, low))

-- ---- as a phase begins

begun-output : (kind : Kind) (base applied : ℕ) (log : Log) (number : ℕ) (c : Held) (xs : Log) → base ≤ length log → HasInput kind base log number c xs → IsAt applied c → HasOutput kind applied (forgetting c) xs
begun-output kind base applied log number c xs low is at =
    let a = ap (λ (l : List Entry). length l) is.inputs in
    let b = length-append (take base log) c.inputs in
    let e = take-length base log low in
    let f = at.place in
    let g = is.base in
    let many : length xs ≡ applied = omega (arith, a, b, e, f, g) in
    record {
      low = omega (arith, f);
      since = omega (arith, many);
      outbox = sym (ap (outbox_from (state_of kind (take applied xs)) applied) (drop-past applied xs (omega (arith, many))));
    }

pub all-begun : (kinds : List Kind) (base applied : ℕ) (log : Log) (number : ℕ) (cs : List Held) (xss : List Log) → base ≤ length log → HaveInputs kinds base log number cs xss → Each (IsAt applied) cs → HaveOutputs kinds applied (map forgetting cs) xss
all-begun [] base applied log number [] [] low have at = tt
all-begun [] base applied log number [] (xs ∷ xss) low have at = absurd have
all-begun [] base applied log number (c ∷ cs) xss low have at = absurd have
all-begun (kind ∷ kinds) base applied log number [] xss low have at = absurd have
all-begun (kind ∷ kinds) base applied log number (c ∷ cs) [] low have at = absurd have
all-begun (kind ∷ kinds) base applied log number (c ∷ cs) (xs ∷ xss) low have at =
    (begun-output kind base applied log number c xs low have.0 at.0, all-begun kinds base applied log (suc number) cs xss low have.1 at.1)

pub all-lent : (applied : ℕ) (cs : List Held) → applied < 2 ^ 62 → Each (IsAt applied) cs → Each (IsLent applied) (map forgetting cs)
all-lent applied [] bound at = tt
all-lent applied (c ∷ cs) bound at =
    (record { place = (let a = at.0.place in omega (arith, a)); ready = ((let a = at.0.place in omega (arith, a, bound)), at.0.whole) }, all-lent applied cs bound at.1)

-- ---- as they are lent once more

-- what a service consumed, with this container
abbrev pub consumed_by : ℕ → Log → Held → Log
consumed_by base log d = take base log ++ d.inputs

-- from a front of the log to a longer one
pub record Further (log : Log) (commit : ℕ) (xs ys : Log) : Type 0 where
  pub was : xs ≡ take (length xs) log
  pub is : ys ≡ take (length ys) log
  pub longer : length xs ≤ length ys
  pub due : length ys ≤ commit

module _ (log : Log) (base applied commit : ℕ) (low : base ≤ length log) where
  module _ (kind : Kind) (number : ℕ) (c d : Held) (xs : Log) (is : HasInput kind base log number c xs) (grew : GoesOn c d) where
    abbrev more : List Entry
    more = grew.more

    abbrev start : Shipped
    start = state_of kind (take base log)

    abbrev ys : Log
    ys = consumed_by base log d

    d-base : d.base ≡ base
    d-base = grew.applies.base ∙ is.base

    whole : xs ++ more ≡ ys
    whole =
        ap (λ (l : List Entry). l ++ more) is.inputs
        ∙ append_assoc (take base log) c.inputs more
        ∙ ap (λ (l : List Entry). take base log ++ l) (sym grew.applies.inputs)

    place : consumed_to c ≡ length xs
    place =
        let a = ap (λ (l : List Entry). length l) is.inputs in
        let b = length-append (take base log) c.inputs in
        let e = take-length base log low in
        let f = is.base in
        omega (arith, a, b, e, f)

    base-state : state_from start base c.inputs ≡ c.state
    base-state =
        ap (λ (k : ℕ). state_from start k c.inputs) (sym (zero-add (length (take base log)) ∙ take-length base log low))
        ∙ sym (state-append (first_of kind) 0 (take base log) c.inputs)
        ∙ ap (state_of kind) (sym is.inputs)
        ∙ sym is.state

    lent-input : d.whole ≡ true → HasInput kind base log number d ys
    lent-input on = record {
      service = grew.applies.service ∙ is.service;
      base = d-base;
      inputs = refl;
      state =
          grew.applies.state on
          ∙ ap (λ (s : Shipped). state_from s (consumed_to c) more) is.state
          ∙ ap (λ (k : ℕ). state_from (state_of kind xs) k more) (place ∙ sym (zero-add (length xs)))
          ∙ sym (state-append (first_of kind) 0 xs more)
          ∙ ap (state_of kind) whole;
      records =
          grew.applies.records on
          ∙ ap (λ (r : List (ℕ × List ℕ)). r ++ records_from c.state (consumed_to c) more) is.records
          ∙ ap (λ (t : Shipped). records_from start base c.inputs ++ records_from t (consumed_to c) more) (sym base-state)
          ∙ ap (λ (k : ℕ). records_from start base c.inputs ++ records_from (state_from start base c.inputs) (k + length c.inputs) more) is.base
          ∙ sym (records-append start base c.inputs more)
          ∙ ap (records_from start base) (sym grew.applies.inputs);
      whole = on;
    }

    grown-long : length xs ≤ length ys
    grown-long = let a = length-append xs more in let b = ap (λ (l : List Entry). length l) whole in omega (arith, a, b)

    lent-output : d.whole ≡ true → HasOutput kind applied c xs → HasOutput kind applied d ys
    lent-output on out =
        let s = state_of kind (take applied xs) in
        let rest = drop applied xs in
        let through : state_from s applied rest ≡ state_of kind xs =
        ap (λ (k : ℕ). state_from s k rest) (sym (zero-add (length (take applied xs)) ∙ take-length applied xs out.since))
        ∙ sym (state-append (first_of kind) 0 (take applied xs) rest)
        ∙ ap (state_of kind) (take-append-drop applied xs) in
        let to : length xs ≡ applied + length rest = (let a = length-drop applied xs in let b = out.since in omega (arith, a, b)) in
        record {
          low = (let a = out.low in let b = d-base in let f = is.base in omega (arith, a, b, f));
          since = (let a = out.since in let b = grown-long in omega (arith, a, b));
          outbox =
              grew.applies.outbox on
              ∙ ap (λ (o : List (ℕ × Output)). o ++ outbox_from c.state (consumed_to c) more) out.outbox
              ∙ ap (λ (t : Shipped). outbox_from s applied rest ++ outbox_from t (consumed_to c) more) (is.state ∙ sym through)
              ∙ ap (λ (k : ℕ). outbox_from s applied rest ++ outbox_from (state_from s applied rest) k more) (place ∙ to)
              ∙ sym (outbox_twice s applied rest more)
              ∙ ap (outbox_from s applied) (sym (drop-append-le applied xs more out.since) ∙ ap (drop applied) whole)
              ∙ ap (λ (l : Log). outbox_from (state_of kind l) applied (drop applied ys)) (sym (take-append-le applied xs more out.since) ∙ ap (take applied) whole);
        }

    lent-further : xs ≡ take (length xs) log → IsWithin log commit d → Further log commit xs ys
    lent-further front within =
        let long : length ys ≡ base + length d.inputs = (let a = length-append (take base log) d.inputs in let e = take-length base log low in omega (arith, a, e)) in
        record {
          was = front;
          is =
              ap (λ (l : List Entry). take base log ++ l) (within.inputs ∙ ap (λ (k : ℕ). take (length d.inputs) (drop k log)) d-base)
              ∙ take-on base (length d.inputs) log low ∙ ap (λ (k : ℕ). take k log) (sym long);
          longer = grown-long;
          due = (let a = within.due in let b = d-base in omega (arith, a, b, long));
        }

  pub all-further : (kinds : List Kind) (number : ℕ) (cs ds : List Held) (xss : List Log) → HaveInputs kinds base log number cs xss → Each2 GoesOn cs ds → Each (λ (xs : Log). xs ≡ take (length xs) log) xss → Each (IsWithin log commit) ds → Each2 (Further log commit) xss (map (consumed_by base log) ds)
  all-further [] number [] [] [] have grew fronts within = tt
  all-further [] number [] (d ∷ ds) [] have grew fronts within = absurd grew
  all-further [] number [] ds (xs ∷ xss) have grew fronts within = absurd have
  all-further [] number (c ∷ cs) ds xss have grew fronts within = absurd have
  all-further (kind ∷ kinds) number [] ds xss have grew fronts within = absurd have
  all-further (kind ∷ kinds) number (c ∷ cs) ds [] have grew fronts within = absurd have
  all-further (kind ∷ kinds) number (c ∷ cs) [] (xs ∷ xss) have grew fronts within = absurd grew
  all-further (kind ∷ kinds) number (c ∷ cs) (d ∷ ds) (xs ∷ xss) have grew fronts within =
      (lent-further kind number c d xs have.0 grew.0 fronts.0 within.0, all-further kinds (suc number) cs ds xss have.1 grew.1 fronts.1 within.1)

  pub all-again : (kinds : List Kind) (number : ℕ) (cs ds : List Held) (xss : List Log) → HaveInputs kinds base log number cs xss → Each2 GoesOn cs ds → Each (λ (d : Held). d.whole ≡ true) ds → HaveInputs kinds base log number ds (map (consumed_by base log) ds)
  all-again [] number [] [] [] have grew on = tt
  all-again [] number [] (d ∷ ds) [] have grew on = absurd grew
  all-again [] number [] ds (xs ∷ xss) have grew on = absurd have
  all-again [] number (c ∷ cs) ds xss have grew on = absurd have
  all-again (kind ∷ kinds) number [] ds xss have grew on = absurd have
  all-again (kind ∷ kinds) number (c ∷ cs) ds [] have grew on = absurd have
  all-again (kind ∷ kinds) number (c ∷ cs) [] (xs ∷ xss) have grew on = absurd grew
  all-again (kind ∷ kinds) number (c ∷ cs) (d ∷ ds) (xs ∷ xss) have grew on =
      (lent-input kind number c d xs have.0 grew.0 on.0, all-again kinds (suc number) cs ds xss have.1 grew.1 on.1)

  pub all-out : (kinds : List Kind) (number : ℕ) (cs ds : List Held) (xss : List Log) → HaveInputs kinds base log number cs xss → Each2 GoesOn cs ds → Each (λ (d : Held). d.whole ≡ true) ds → HaveOutputs kinds applied cs xss → HaveOutputs kinds applied ds (map (consumed_by base log) ds)
  all-out [] number [] [] [] have grew on out = tt
  all-out [] number [] (d ∷ ds) [] have grew on out = absurd grew
  all-out [] number [] ds (xs ∷ xss) have grew on out = absurd have
  all-out [] number (c ∷ cs) ds xss have grew on out = absurd have
  all-out (kind ∷ kinds) number [] ds xss have grew on out = absurd have
  all-out (kind ∷ kinds) number (c ∷ cs) ds [] have grew on out = absurd have
  all-out (kind ∷ kinds) number (c ∷ cs) [] (xs ∷ xss) have grew on out = absurd grew
  all-out (kind ∷ kinds) number (c ∷ cs) (d ∷ ds) (xs ∷ xss) have grew on out =
      (lent-output kind number c d xs have.0 grew.0 on.0 out.0, all-out kinds (suc number) cs ds xss have.1 grew.1 on.1 out.1)

pub lent-whole : (first : ℕ) (ds : List Held) → Each (IsLent first) ds → Each (λ (d : Held). d.whole ≡ true) ds
lent-whole first [] lent = tt
lent-whole first (d ∷ ds) lent = (lent.0.ready.1, lent-whole first ds lent.1)
