-- A member with one more entry in its log, on both sides.
use Rattle.std.proofs.Common.{◌≡◌, ℕ, ◌+◌, ◌≤◌, suc, ℤ, ◌≤ℤ◌, negsuc, Bool, List, [], ◌∷◌, ◌++◌, length, take, drop, Option, Some, None, refl, sym, ap, ◌∙◌, subst, arith, length-append}
use Rattle.std.specs.Prelude.{IsTrue}
use Rattle.std.proofs.lemmas.Int.{ints}
use Rattle.std.proofs.lemmas.List.{take-append-le, drop-append-le}
use Rattle.std.proofs.lemmas.List.Elements.{All-append, All-cons, All-nil}
use Rattle.cl_base.specs.Disk.{FileState, DiskState}
use Rattle.cl_base.specs.declared.entry.Entry.{Entry}
use Rattle.entry_log.specs.Log.{Log, RisesFrom, last_from, place}
use Rattle.entry_log.specs.Durable.{Durable}
use Rattle.entry_log.specs.Shape.{shape_of, last_term_of, last_term_from-shape_of}
use Rattle.recording_log.specs.declared.entry.RecEntry.{RecEntry}
use Rattle.sbe_events.specs.Laws.{encoded}
use Rattle.sbe_events.specs.Spelling.{HasSpelling, term_of, event_of}
use Rattle.sbe_events.specs.declared.event.Event.{Event}
use Rattle.service_api.specs.declared.shipped.Kind.{Kind}
use Rattle.service_api.specs.Service.{state_of}
use Rattle.service_container.specs.Held.{Held as ContainerHeld}
use Rattle.service_container.specs.Records.{records_from}
use Rattle.service_phases.specs.Pairs.{Each, Each2}
use Rattle.log_segment.specs.Held.{IsEventEntry, IsHeld}
use Rattle.member_disk.specs.CutWell.{snapshots_of}
use Rattle.member_disk.specs.Kept.{Kept, EachStands}
use Rattle.member_module.specs.Held.{Held as ModuleHeld}
use Rattle.module_state.specs.Entries.{events_in, with_event}
use Rattle.module_state.specs.Services.{module_of}
use Rattle.consensus_core.specs.Reign.{entry_of}
use Rattle.consensus_agent.specs.Accepted.{HasMore}
use Rattle.consensus_agent.specs.Disks.{KeepsSets}
use Rattle.consensus_agent.specs.Rows.{IsKept}
use Rattle.run_world.specs.Seat.{Seat, Fate}
use Rattle.run_orders.specs.Kept.{HasBase, IsStateOf, IsStored}
use Rattle.run_orders.proofs.Bases.{all-more}
use Rattle.member_rows.proofs.Images.{all-stored-on}
use Rattle.run_orders.specs.Stands.{HasInput, HasModule, HaveInputs, IsUp, UpSeen, containers_of}
use Rattle.member_asks.specs.Clauses.{Stays}
use Rattle.member_asks.proofs.Calm.{inputs-stay, phase-stays}
use Rattle.member_asks.proofs.Rowed.{grown, longer_by}

-- ---- the log

rises-on : (t : ℤ) (log : Log) (x : Entry) → RisesFrom t log → last_from t log ≤ℤ x.term → RisesFrom t (log ++ x ∷ [])
rises-on t [] x rises high = (high, tt)
rises-on t (y ∷ log) x rises high = (rises.0, rises-on y.term log x rises.1 high)

-- its entries are events whose terms don't fall, with room, one more included
pub held-grown : (log : Log) (e : Event) → IsHeld log → HasSpelling e → last_term_of (shape_of log) ≡ term_of e → place (log ++ entry_of e ∷ []) ≤ 16777216 → IsHeld (log ++ entry_of e ∷ [])
held-grown log e held spelled last room =
    let here : last_from (negsuc 0) log ≡ term_of e = sym (last_term_from-shape_of (negsuc 0) log) ∙ last in
    record {
      events = All-append IsEventEntry log (entry_of e ∷ []) held.events (All-cons IsEventEntry (entry_of e) [] (e, encoded e spelled, refl) (All-nil IsEventEntry));
      rises = rises-on (negsuc 0) log (entry_of e) held.rises (omega (arith, ints, here));
      room = room;
    }

-- ---- the module

events-one : (log : Log) (e : Event) → HasSpelling e → events_in (log ++ entry_of e ∷ []) ≡ events_in log ++ e ∷ []
events-one [] e spelled = ap (λ (o : Option Event). with_event o []) (encoded e spelled)
events-one (x ∷ log) e spelled = ap (with_event (event_of x.bytes)) (events-one log e spelled) ∙ past (event_of x.bytes) (events_in log) (e ∷ [])
  where
    past : (o : Option Event) (es fs : List Event) → with_event o (es ++ fs) ≡ with_event o es ++ fs
    past None es fs = refl
    past (Some y) es fs = refl

-- it has one more event ahead
pub module-grown : (kinds : List Kind) (m n : ModuleHeld) (s : Seat) (e : Event) (f : Fate) → s.applied ≤ length s.member.durable.log → HasSpelling e → HasMore e m n → HasModule kinds m s → HasModule kinds n (grown e f s)
module-grown kinds m n s e f low spelled more has =
    let log = s.member.durable.log in
    let front : take s.applied (log ++ entry_of e ∷ []) ≡ take s.applied log = take-append-le s.applied log (entry_of e ∷ []) low in
    let rest : drop s.applied (log ++ entry_of e ∷ []) ≡ drop s.applied log ++ entry_of e ∷ [] = drop-append-le s.applied log (entry_of e ∷ []) low in
    record {
      applied = more.consumed ∙ has.applied;
      state = more.state ∙ has.state ∙ ap (λ (l : Log). module_of kinds (events_in l)) (sym front);
      entries = more.entries ∙ ap (λ (l : Log). l ++ entry_of e ∷ []) has.entries ∙ sym rest;
      events = more.events ∙ ap (λ (es : List Event). es ++ e ∷ []) has.events ∙ sym (ap events_in rest ∙ events-one (drop s.applied log) e spelled);
      coming = more.coming;
      alive = more.alive ∙ has.alive;
      since = more.since ∙ has.since;
    }

-- ---- the services

input-grown : (kind : Kind) (count : ℕ) (log more : Log) (number : ℕ) (c : ContainerHeld) (xs : Log) → count ≤ length log → HasInput kind count log number c xs → HasInput kind count (log ++ more) number c xs
input-grown kind count log more number c xs low is =
    let same : take count log ≡ take count (log ++ more) = sym (take-append-le count log more low) in
    record {
      service = is.service;
      base = is.base;
      inputs = is.inputs ∙ ap (λ (l : Log). l ++ c.inputs) same;
      state = is.state;
      records = is.records ∙ ap (λ (l : Log). records_from (state_of kind l) count c.inputs) same;
      whole = is.whole;
    }

pub inputs-grown : (kinds : List Kind) (count : ℕ) (log more : Log) (number : ℕ) (cs : List ContainerHeld) (xss : List Log) → count ≤ length log → HaveInputs kinds count log number cs xss → HaveInputs kinds count (log ++ more) number cs xss
inputs-grown [] count log more number [] [] low have = have
inputs-grown [] count log more number [] (xs ∷ xss) low have = absurd have
inputs-grown [] count log more number (c ∷ cs) xss low have = absurd have
inputs-grown (kind ∷ kinds) count log more number [] xss low have = absurd have
inputs-grown (kind ∷ kinds) count log more number (c ∷ cs) [] low have = absurd have
inputs-grown (kind ∷ kinds) count log more number (c ∷ cs) (xs ∷ xss) low have = (input-grown kind count log more number c xs low have.0, inputs-grown kinds count log more (suc number) cs xss low have.1)

-- ---- the disk

pub state-grown : (a b : Kept) (old new : ℕ → FileState) (d : Durable) (e : Event) → IsKept a.node (a.log ++ entry_of e ∷ []) b → KeepsSets a b → ((g : ℕ) → 258 ≤ g → new g ≡ old g) → IsStateOf a old d → IsStateOf b new (longer_by e d)
state-grown a b old new d e kept sets same is = record {
  candidate = is.candidate ∙ ap (λ n. n.term) (sym kept.node);
  voted = is.voted ∙ ap (λ n. n.voted) (sym kept.node);
  log = ap (λ (l : Log). l ++ entry_of e ∷ []) is.log ∙ sym kept.log;
  snapshots = subst (λ (es : List RecEntry). Each2 (IsStored new) es d.snapshots) (sym sets.snapshots) (all-stored-on old new same (snapshots_of a.entries) d.snapshots is.snapshots);
}

module _ {D : Type 0} (state : D → DiskState) (kinds : List Kind) where
  pub up-grown : (u v : UpSeen D) (going : Bool) (s : Seat) (e : Event) (f : Fate) → Stays u v → IsTrue v.disk.whole → IsKept u.disk.kept.node (u.disk.kept.log ++ entry_of e ∷ []) v.disk.kept → KeepsSets u.disk.kept v.disk.kept
      → IsHeld (u.disk.kept.log ++ entry_of e ∷ []) → EachStands v.disk.kept (state v.disk.disk).files → ((g : ℕ) → 258 ≤ g → (state v.disk.disk).files g ≡ (state u.disk.disk).files g)
      → HasModule kinds v.module_held (grown e f s) → IsUp state kinds u going s → IsUp state kinds v going (grown e f s)
  up-grown u v going s e f stays whole kept sets held each same has is =
      let log = s.member.durable.log in
      let more : Log = u.disk.kept.log ++ entry_of e ∷ [] in
      let bases : Each (HasBase v.disk.kept.log) (snapshots_of v.disk.kept.entries) =
      subst (λ (l : Log). Each (HasBase l) (snapshots_of v.disk.kept.entries)) (sym kept.log) (subst (Each (HasBase more)) (sym sets.snapshots) (all-more u.disk.kept.log (entry_of e ∷ []) (snapshots_of u.disk.kept.entries) is.mountable.bases)) in
      record {
        up = refl;
        values = stays.values ∙ is.values;
        whole = whole;
        mountable = record { count = sets.services ∙ is.mountable.count; held = subst IsHeld (sym kept.log) held; terms = sets.terms is.mountable.terms; bases = bases };
        each = each;
        durable = state-grown u.disk.kept v.disk.kept (state u.disk.disk).files (state v.disk.disk).files s.member.durable e kept sets same is.durable;
        has_module = has;
        first = stays.base ∙ is.first;
        within = (let n = length-append log (entry_of e ∷ []) in let b = stays.base in let i = is.within in omega (arith, n, b, i));
        inputs = inputs-stay D kinds u v going (log ++ entry_of e ∷ []) s.run.inputs stays (inputs-grown kinds u.base log (entry_of e ∷ []) 0 (containers_of going u.lending) s.run.inputs is.within is.inputs);
        phase = phase-stays D u v going s stays is.phase;
      }
