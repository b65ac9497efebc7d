-- Containers of a phase that goes on, once they consumed the log up to the commit: as if they had begun at the module's place.
use Rattle.std.proofs.Common.{◌≡◌, ℕ, suc, ◌+◌, ◌-◌, ◌≤◌, true, List, [], ◌∷◌, ◌++◌, length, take, drop, refl, sym, ap, ◌∙◌, arith, zero-add, length-append, append_assoc, length-drop}
use Rattle.std.proofs.lemmas.List.{drop-append-le, drop-take, take-append-drop, take-take}
use Rattle.std.proofs.Math.Seq.{drop-append_seam}
use Rattle.cl_base.specs.declared.entry.Entry.{Entry}
use Rattle.entry_log.specs.Log.{Log}
use Rattle.run_orders.specs.Stands.{HasInput, HaveInputs}
use Rattle.run_phases.specs.Grown.{GoesOn, Grew}
use Rattle.service_api.specs.declared.output.Output.{Output}
use Rattle.service_api.specs.declared.shipped.Kind.{Kind}
use Rattle.service_api.specs.declared.shipped.Shipped.{Shipped}
use Rattle.service_api.specs.Service.{outbox_from, state_from, state_of}
use Rattle.service_api.specs.ServiceLaws.{outbox_twice}
use Rattle.service_api.specs.Shipped.{first_of}
use Rattle.service_container.specs.Held.{Held, consumed_to}
use Rattle.service_container.specs.Records.{records_from}
use Rattle.service_phases.specs.Pairs.{Each, Each2}
use Rattle.service_phases.specs.Phases.{HasAll, IsAt}
use Rattle.service_runs.proofs.Lists.{take-length}
use Rattle.member_phases.specs.Frees.{HasOutput, HaveOutputs}
use Rattle.member_phases.specs.Grown.{GrewTo}
use Rattle.member_phases.proofs.Grown.{records-append, state-append, take-on}

-- the first entries of the log
abbrev pub IsFrontOf : Log → Log → Type 0
IsFrontOf log xs = xs ≡ take (length xs) log

module _ (log : Log) (base applied commit : ℕ) (low : base ≤ length log) (due : applied ≤ commit) (within : commit ≤ length log) where
  abbrev taken : Log
  taken = take (commit - applied) (drop applied log)

  front-on : take applied log ++ taken ≡ take commit log
  front-on = take-on applied (commit - applied) log (omega (arith, due, within)) ∙ ap (λ (k : ℕ). take k log) (omega (arith, due))

  -- ---- one service

  module _ (kind : Kind) (number : ℕ) (c d : Held) (xs : Log) (is : HasInput kind base log number c xs) (out : HasOutput kind applied c xs) (front : IsFrontOf log xs) (grew : GoesOn c d) (all : HasAll log commit d) where
    abbrev more : List Entry
    more = grew.more

    abbrev start : Shipped
    start = state_of kind (take base log)

    d-base : d.base ≡ base
    d-base = grew.applies.base ∙ is.base

    low-base : base ≤ applied
    low-base = let a = out.low in let b = is.base in omega (arith, a, b)

    fills : take base log ++ d.inputs ≡ take commit log
    fills =
        let many : base + length d.inputs ≡ commit = (let a = all.all in let b = d-base in omega (arith, a, b)) in
        ap (λ (l : List Entry). take base log ++ l) (all.within.inputs ∙ ap (λ (k : ℕ). take (length d.inputs) (drop k log)) d-base)
        ∙ take-on base (length d.inputs) log low ∙ ap (λ (k : ℕ). take k log) many

    whole : xs ++ more ≡ take commit log
    whole =
        ap (λ (l : List Entry). l ++ more) is.inputs
        ∙ append_assoc (take base log) c.inputs more
        ∙ ap (λ (l : List Entry). take base log ++ l) (sym grew.applies.inputs)
        ∙ fills

    place : consumed_to c ≡ length xs
    place =
        let a = ap (λ (l : List Entry). length l) is.inputs in
        let b = length-append (take base log) c.inputs in
        let e = take-length base log low in
        let f = is.base in
        omega (arith, a, b, e, f)

    new-state : d.state ≡ state_of kind (take commit log)
    new-state =
        grew.applies.state all.whole
        ∙ ap (λ (s : Shipped). state_from s (consumed_to c) more) is.state
        ∙ ap (λ (k : ℕ). state_from (state_of kind xs) k more) (place ∙ sym (zero-add (length xs)))
        ∙ sym (state-append (first_of kind) 0 xs more)
        ∙ ap (state_of kind) whole

    base-state : state_from start base c.inputs ≡ c.state
    base-state =
        ap (λ (k : ℕ). state_from start k c.inputs) (sym (zero-add (length (take base log)) ∙ take-length base log low))
        ∙ sym (state-append (first_of kind) 0 (take base log) c.inputs)
        ∙ ap (state_of kind) (sym is.inputs)
        ∙ sym is.state

    new-records : d.records ≡ records_from start base d.inputs
    new-records =
        grew.applies.records all.whole
        ∙ ap (λ (r : List (ℕ × List ℕ)). r ++ records_from c.state (consumed_to c) more) is.records
        ∙ ap (λ (t : Shipped). records_from start base c.inputs ++ records_from t (consumed_to c) more) (sym base-state)
        ∙ ap (λ (k : ℕ). records_from start base c.inputs ++ records_from (state_from start base c.inputs) (k + length c.inputs) more) is.base
        ∙ sym (records-append start base c.inputs more)
        ∙ ap (records_from start base) (sym grew.applies.inputs)

    -- what came out since the module's place
    abbrev at : Shipped
    at = state_of kind (take applied log)

    front-same : take applied xs ≡ take applied log
    front-same = ap (take applied) front ∙ take-take applied (length xs) log out.since

    through : state_from (state_of kind (take applied xs)) applied (drop applied xs) ≡ state_of kind xs
    through =
        let long : length (take applied xs) ≡ applied = take-length applied xs out.since in
        ap (λ (k : ℕ). state_from (state_of kind (take applied xs)) k (drop applied xs)) (sym (zero-add (length (take applied xs)) ∙ long))
        ∙ sym (state-append (first_of kind) 0 (take applied xs) (drop applied xs))
        ∙ ap (state_of kind) (take-append-drop applied xs)

    new-outbox : d.outbox ≡ outbox_from at applied taken
    new-outbox =
        let s = state_of kind (take applied xs) in
        let rest = drop applied xs in
        let to : length xs ≡ applied + length rest = (let a = length-drop applied xs in let b = out.since in omega (arith, a, b)) in
        let left : rest ++ more ≡ taken =
        sym (drop-append-le applied xs more out.since) ∙ ap (drop applied) whole ∙ ap (λ (k : ℕ). drop applied (take k log)) (omega (arith, due)) ∙ drop-take applied (commit - applied) log in
        grew.applies.outbox all.whole
        ∙ ap (λ (o : List (ℕ × Output)). o ++ outbox_from c.state (consumed_to c) more) out.outbox
        ∙ ap (λ (t : Shipped). outbox_from s applied rest ++ outbox_from t (consumed_to c) more) (is.state ∙ sym through)
        ∙ ap (λ (k : ℕ). outbox_from s applied rest ++ outbox_from (state_from s applied rest) k more) (place ∙ to)
        ∙ sym (outbox_twice s applied rest more)
        ∙ ap (outbox_from s applied) left
        ∙ ap (λ (l : Log). outbox_from (state_of kind l) applied taken) front-same

    -- ---- a container that had consumed what the module has

    abbrev part : Log
    part = take (applied - base) (drop base log)

    abbrev earlier : Held
    earlier = record { service = number; base = base; inputs = part; state = at; outbox = []; records = records_from start base part; whole = true }

    to-place : take applied log ≡ take base log ++ part
    to-place = let l = low-base in sym (take-on base (applied - base) log low ∙ ap (λ (k : ℕ). take k log) (omega (arith, l)))

    part-long : base + length part ≡ applied
    part-long =
        let l = low-base in
        let a = length-drop base log in
        let b = take-length (applied - base) (drop base log) (omega (arith, a, l, due, within)) in
        omega (arith, b, l)

    earlier-input : HasInput kind base log number earlier (take applied log)
    earlier-input = record { service = refl; base = refl; inputs = to-place; state = refl; records = refl; whole = refl }

    earlier-at : IsAt applied earlier
    earlier-at = record { place = part-long; whole = refl }

    part-state : state_from start base part ≡ at
    part-state =
        ap (λ (k : ℕ). state_from start k part) (sym (zero-add (length (take base log)) ∙ take-length base log low))
        ∙ sym (state-append (first_of kind) 0 (take base log) part)
        ∙ ap (state_of kind) (sym to-place)

    two-parts : d.inputs ≡ part ++ taken
    two-parts =
        let both : take base log ++ d.inputs ≡ take base log ++ (part ++ taken) = fills ∙ sym front-on ∙ ap (λ (l : Log). l ++ taken) to-place ∙ append_assoc (take base log) part taken in
        sym (drop-append_seam (take base log) d.inputs) ∙ ap (drop (length (take base log))) both ∙ drop-append_seam (take base log) (part ++ taken)

    earlier-grew : Grew earlier d
    earlier-grew = record {
      more = taken;
      applies = record {
        service = grew.applies.service ∙ is.service;
        base = d-base;
        inputs = two-parts;
        state = λ w.
            new-state ∙ ap (state_of kind) (sym front-on) ∙ state-append (first_of kind) 0 (take applied log) taken
            ∙ ap (λ (k : ℕ). state_from at k taken) (zero-add (length (take applied log)) ∙ take-length applied log (omega (arith, due, within)) ∙ sym part-long);
        outbox = λ w. new-outbox ∙ ap (λ (k : ℕ). outbox_from at k taken) (sym part-long);
        records = λ w.
            new-records ∙ ap (records_from start base) two-parts ∙ records-append start base part taken
            ∙ ap (λ (t : Shipped). records_from start base part ++ records_from t (base + length part) taken) part-state;
      };
    }

  -- ---- all of them

  pub record Earlier (kinds : List Kind) (number : ℕ) (ds : List Held) : Type 0 where
    pub cs : List Held
    pub xss : List Log
    pub have : HaveInputs kinds base log number cs xss
    pub at : Each (IsAt applied) cs
    pub grew : Each2 Grew cs ds
    pub count : length xss ≡ length kinds

  pub all-earlier : (kinds : List Kind) (number : ℕ) (cs ds : List Held) (xss : List Log) → HaveInputs kinds base log number cs xss → HaveOutputs kinds applied cs xss → Each (IsFrontOf log) xss → Each2 GoesOn cs ds → Each (HasAll log commit) ds → Earlier kinds number ds
  all-earlier [] number [] [] [] have out fronts grew all = record { cs = []; xss = []; have = tt; at = tt; grew = tt; count = refl }
  all-earlier [] number [] (d ∷ ds) [] have out fronts grew all = absurd grew
  all-earlier [] number [] ds (xs ∷ xss) have out fronts grew all = absurd have
  all-earlier [] number (c ∷ cs) ds xss have out fronts grew all = absurd have
  all-earlier (kind ∷ kinds) number [] ds xss have out fronts grew all = absurd have
  all-earlier (kind ∷ kinds) number (c ∷ cs) ds [] have out fronts grew all = absurd have
  all-earlier (kind ∷ kinds) number (c ∷ cs) [] (xs ∷ xss) have out fronts grew all = absurd grew
  all-earlier (kind ∷ kinds) number (c ∷ cs) (d ∷ ds) (xs ∷ xss) have out fronts grew all =
      let z = all-earlier kinds (suc number) cs ds xss have.1 out.1 fronts.1 grew.1 all.1 in
      record {
        cs = earlier kind number c d xs have.0 out.0 fronts.0 grew.0 all.0 ∷ z.cs;
        xss = take applied log ∷ z.xss;
        have = (earlier-input kind number c d xs have.0 out.0 fronts.0 grew.0 all.0, z.have);
        at = (earlier-at kind number c d xs have.0 out.0 fronts.0 grew.0 all.0, z.at);
        grew = (earlier-grew kind number c d xs have.0 out.0 fronts.0 grew.0 all.0, z.grew);
        count = ap suc z.count;
      }

  pub going-grew : (kinds : List Kind) (ds : List Held) (z : Earlier kinds 0 ds) → Each (HasAll log commit) ds → GrewTo kinds log base applied commit z.cs ds z.xss
  going-grew kinds ds z all = record { low = low; due = due; within = within; have = z.have; at = z.at; grew = z.grew; all = all }
