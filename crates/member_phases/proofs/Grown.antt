-- Containers that consumed the log up to the commit.
use Rattle.std.proofs.Common.{◌≡◌, ℕ, zero, suc, ◌+◌, ◌-◌, ◌≤◌, List, [], ◌∷◌, ◌++◌, length, map, take, drop, refl, sym, ap, ◌∙◌, subst, arith, add-zero, zero-add, length-append, append_assoc}
use Rattle.std.proofs.lemmas.List.{drop-take, take-map, take-take}
use Rattle.std.proofs.Math.Seq.{drop-append_seam, take-append_seam}
use Rattle.cl_base.specs.declared.entry.Entry.{Entry}
use Rattle.entry_log.specs.Log.{Log}
use Rattle.consensus_agent.specs.Consumed.{HaveRising, outboxes}
use Rattle.module_state.specs.Entries.{events_in}
use Rattle.module_state.specs.Places.{entry_of, log_of}
use Rattle.owed_egress.specs.Outbox.{IndicesRise}
use Rattle.owed_egress.specs.Taken.{outboxes_from, outboxes_in}
use Rattle.owed_egress.proofs.Rising.{rise_outbox}
use Rattle.run_orders.specs.Stands.{HasInput, HaveInputs}
use Rattle.run_phases.specs.Grown.{Grew}
use Rattle.service_api.specs.declared.shipped.Kind.{Kind}
use Rattle.service_api.specs.declared.shipped.Shipped.{Shipped}
use Rattle.service_api.specs.Service.{at_entry, outbox_from, state_from, state_of}
use Rattle.service_api.specs.Shipped.{first_of}
use Rattle.service_container.specs.Held.{Held, consumed_to}
use Rattle.service_container.specs.Records.{left_at, records_from}
use Rattle.service_phases.specs.Pairs.{Each, Each2}
use Rattle.service_phases.specs.Phases.{HasAll, IsAt}
use Rattle.service_runs.proofs.Lists.{take-length}
use Rattle.member_phases.specs.Grown.{GrewTo}

-- ---- over a list and then another

further : (i n : ℕ) → (i + 1) + n ≡ i + suc n
further i n = omega arith

pub state-append : (s : Shipped) (i : ℕ) (xs ys : List Entry) → state_from s i (xs ++ ys) ≡ state_from (state_from s i xs) (i + length xs) ys
state-append s i [] ys = ap (λ (k : ℕ). state_from s k ys) (sym (add-zero i))
state-append s i (x ∷ xs) ys = state-append (at_entry s i x).0 (i + 1) xs ys ∙ ap (λ (k : ℕ). state_from (state_from (at_entry s i x).0 (i + 1) xs) k ys) (further i (length xs))

pub records-append : (s : Shipped) (i : ℕ) (xs ys : List Entry) → records_from s i (xs ++ ys) ≡ records_from s i xs ++ records_from (state_from s i xs) (i + length xs) ys
records-append s i [] ys = ap (λ (k : ℕ). records_from s k ys) (sym (add-zero i))
records-append s i (x ∷ xs) ys =
    let t = (at_entry s i x).0 in
    let l = left_at i x t in
    ap (λ (r : List (ℕ × List ℕ)). l ++ r) (records-append t (i + 1) xs ys ∙ ap (λ (k : ℕ). records_from t (i + 1) xs ++ records_from (state_from t (i + 1) xs) k ys) (further i (length xs)))
    ∙ sym (append_assoc l (records_from t (i + 1) xs) (records_from (state_from t (i + 1) xs) (i + suc (length xs)) ys))

-- the first entries, and some of those behind them
pub take-on : (base n : ℕ) (log : Log) → base ≤ length log → take base log ++ take n (drop base log) ≡ take (base + n) log
take-on zero n log low = ap (λ (k : ℕ). take k log) (sym (zero-add n))
take-on (suc base) n [] low = absurd (omega (arith, low))
take-on (suc base) n (x ∷ log) low = ap (λ (l : Log). x ∷ l) (take-on base n log (omega (arith, low))) ∙ ap (λ (k : ℕ). take k (x ∷ log)) (past base n)
  where
    past : (a b : ℕ) → suc (a + b) ≡ suc a + b
    past a b = omega arith

module _ (log : Log) (base applied commit : ℕ) (low : base ≤ length log) (due : applied ≤ commit) (within : commit ≤ length log) where
  abbrev pub taken : Log
  taken = take (commit - applied) (drop applied log)

  -- ---- one service

  module _ (kind : Kind) (number : ℕ) (c d : Held) (xs : Log) (is : HasInput kind base log number c xs) (at : IsAt applied c) (grew : Grew c d) (all : HasAll log commit d) where
    abbrev more : List Entry
    more = grew.more

    d-base : d.base ≡ base
    d-base = grew.applies.base ∙ is.base

    -- up to the commit
    fills : take base log ++ d.inputs ≡ take commit log
    fills =
        let many : base + length d.inputs ≡ commit = (let a = all.all in let b = d-base in omega (arith, a, b)) in
        ap (λ (l : List Entry). take base log ++ l) (all.within.inputs ∙ ap (λ (k : ℕ). take (length d.inputs) (drop k log)) d-base)
        ∙ take-on base (length d.inputs) log low ∙ ap (λ (k : ℕ). take k log) many

    whole : xs ++ more ≡ take commit log
    whole =
        ap (λ (l : List Entry). l ++ more) is.inputs
        ∙ append_assoc (take base log) c.inputs more
        ∙ ap (λ (l : List Entry). take base log ++ l) (sym grew.applies.inputs)
        ∙ fills

    long : length xs ≡ applied
    long =
        let a = ap (λ (l : List Entry). length l) is.inputs in
        let b = length-append (take base log) c.inputs in
        let e = take-length base log low in
        let f = at.place in
        let g = is.base in
        omega (arith, a, b, e, f, g)

    front : xs ≡ take applied log
    front = sym (take-append_seam xs more) ∙ ap (λ (k : ℕ). take k (xs ++ more)) long ∙ ap (take applied) whole ∙ take-take applied commit log due

    rest : more ≡ taken
    rest =
        let e : commit ≡ applied + (commit - applied) = omega (arith, due) in
        sym (drop-append_seam xs more) ∙ ap (λ (k : ℕ). drop k (xs ++ more)) long ∙ ap (drop applied) whole
        ∙ ap (λ (k : ℕ). drop applied (take k log)) e ∙ drop-take applied (commit - applied) log

    state-is : c.state ≡ state_of kind (take applied log)
    state-is = is.state ∙ ap (state_of kind) front

    base-state : state_from (state_of kind (take base log)) base c.inputs ≡ c.state
    base-state =
        ap (λ (k : ℕ). state_from (state_of kind (take base log)) k c.inputs) (sym (zero-add (length (take base log)) ∙ take-length base log low))
        ∙ sym (state-append (first_of kind) 0 (take base log) c.inputs)
        ∙ ap (state_of kind) (sym is.inputs)
        ∙ sym is.state

    new-state : d.state ≡ state_of kind (take commit log)
    new-state =
        grew.applies.state all.whole
        ∙ ap (λ (s : Shipped). state_from s (consumed_to c) more) is.state
        ∙ ap (λ (k : ℕ). state_from (state_of kind xs) k more) (at.place ∙ sym long ∙ sym (zero-add (length xs)))
        ∙ sym (state-append (first_of kind) 0 xs more)
        ∙ ap (state_of kind) whole

    new-records : d.records ≡ records_from (state_of kind (take base log)) base d.inputs
    new-records =
        let s = state_of kind (take base log) in
        grew.applies.records all.whole
        ∙ ap (λ (r : List (ℕ × List ℕ)). r ++ records_from c.state (consumed_to c) more) is.records
        ∙ ap (λ (t : Shipped). records_from s base c.inputs ++ records_from t (consumed_to c) more) (sym base-state)
        ∙ ap (λ (k : ℕ). records_from s base c.inputs ++ records_from (state_from s base c.inputs) (k + length c.inputs) more) is.base
        ∙ sym (records-append s base c.inputs more)
        ∙ ap (records_from s base) (sym grew.applies.inputs)

    pub grown-input : HasInput kind base log number d (take commit log)
    grown-input = record {
      service = grew.applies.service ∙ is.service;
      base = d-base;
      inputs = sym fills;
      state = new-state;
      records = new-records;
      whole = all.whole;
    }

    pub grown-outbox : d.outbox ≡ outbox_from (state_of kind (take applied log)) applied taken
    grown-outbox =
        grew.applies.outbox all.whole
        ∙ ap (λ (s : Shipped). outbox_from s (consumed_to c) more) state-is
        ∙ ap (λ (k : ℕ). outbox_from (state_of kind (take applied log)) k more) at.place
        ∙ ap (outbox_from (state_of kind (take applied log)) applied) rest

    pub grown-rises : IndicesRise d.outbox
    grown-rises = subst IndicesRise (sym grown-outbox) (rise_outbox (state_of kind (take applied log)) applied taken)

  -- ---- all of them

  abbrev pub states : List Kind → List Shipped
  states kinds = map (λ (kind : Kind). state_of kind (take applied log)) kinds

  pub record AllGrown (kinds : List Kind) (number : ℕ) (ds : List Held) (xss : List Log) : Type 0 where
    pub inputs : HaveInputs kinds base log number ds (map (λ (xs : Log). take commit log) xss)
    pub out : outboxes ds ≡ outboxes_from number (states kinds) applied taken
    pub rising : HaveRising ds

  pub all-grown : (kinds : List Kind) (number : ℕ) (cs ds : List Held) (xss : List Log) → HaveInputs kinds base log number cs xss → Each (IsAt applied) cs → Each2 Grew cs ds → Each (HasAll log commit) ds → AllGrown kinds number ds xss
  all-grown [] number [] [] [] have at grew all = record { inputs = tt; out = refl; rising = tt }
  all-grown [] number [] (d ∷ ds) xss have at grew all = absurd grew
  all-grown [] number [] [] (xs ∷ xss) have at grew all = absurd have
  all-grown [] number (c ∷ cs) ds xss have at grew all = absurd have
  all-grown (kind ∷ kinds) number [] ds xss have at grew all = absurd have
  all-grown (kind ∷ kinds) number (c ∷ cs) ds [] have at grew all = absurd have
  all-grown (kind ∷ kinds) number (c ∷ cs) [] (xs ∷ xss) have at grew all = absurd grew
  all-grown (kind ∷ kinds) number (c ∷ cs) (d ∷ ds) (xs ∷ xss) have at grew all =
      let more = all-grown kinds (suc number) cs ds xss have.1 at.1 grew.1 all.1 in
      let here = grown-input kind number c d xs have.0 at.0 grew.0 all.0 in
      let out = grown-outbox kind number c d xs have.0 at.0 grew.0 all.0 in
      record {
        inputs = (here, more.inputs);
        out = (λ i. (here.service i, out i) ∷ more.out i);
        rising = (grown-rises kind number c d xs have.0 at.0 grew.0 all.0, more.rising);
      }

pub grown : (kinds : List Kind) (log : Log) (base applied commit : ℕ) (cs ds : List Held) (xss : List Log) (g : GrewTo kinds log base applied commit cs ds xss) → AllGrown log base applied commit g.low g.due g.within kinds 0 ds xss
grown kinds log base applied commit cs ds xss g = all-grown log base applied commit g.low g.due g.within kinds 0 cs ds xss g.have g.at g.grew g.all

-- of a log of events
pub grown-boxes : (kinds : List Kind) (log : Log) (base applied commit : ℕ) (cs ds : List Held) (xss : List Log) → log ≡ log_of (events_in log) → GrewTo kinds log base applied commit cs ds xss → outboxes ds ≡ outboxes_in kinds (events_in log) applied (commit - applied)
grown-boxes kinds log base applied commit cs ds xss are g =
    (grown kinds log base applied commit cs ds xss g).out
    ∙ (λ i. outboxes_from 0 (map (λ (kind : Kind). state_of kind (front i)) kinds) applied (take (commit - applied) (drop applied (are i))))
  where
    front : take applied log ≡ log_of (take applied (events_in log))
    front = ap (take applied) are ∙ take-map entry_of applied (events_in log)
