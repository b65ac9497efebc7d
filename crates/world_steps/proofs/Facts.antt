-- What is so of the logs of worlds that are reached.
use Rattle.std.proofs.Common.{ℕ, ◌^◌, List, [], ◌∷◌, refl, sym, ap, subst, arith, ℤ, pos, negsuc, ◌≤ℤ◌}
use Rattle.std.specs.List.{AllByRecursion}
use Rattle.std.proofs.lemmas.Int.{ints}
use Rattle.std.proofs.lemmas.List.{append-nil}
use Rattle.entry_log.specs.Log.{Log, last, Rises, RisesFrom}
use Rattle.entry_log.specs.Shape.{shape_of, TermsRiseFrom}
use Rattle.log_replication.specs.Replication.{IsAnchored}
use Rattle.log_replication.specs.Prefixes.{leads, Rises-front}
use Rattle.sbe_events.specs.Laws.{encoded}
use Rattle.sbe_events.specs.Spelling.{HasSpelling as IsEvent, spelling_of}
use Rattle.sbe_events.specs.declared.event.Event.{Event}
use Rattle.sbe_consensus.specs.Spelling.{IsEntry, AreEntries}
use Rattle.service_api.specs.declared.shipped.Kind.{Kind}
use Rattle.module_state.specs.Places.{entry_of, log_of}
use Rattle.module_state.specs.Entries.{IsSpellable}
use Rattle.consensus_core.specs.Fit.{IsTerm}
use Rattle.consensus_core.proofs.Measured.{event_short}
use Rattle.consensus_core.proofs.OverLog.{same_name_law}
use Rattle.world.specs.World.{World, member}
use Rattle.agreement.proofs.Second.{Fits, reign_of}
use Rattle.agreement.proofs.Runs2.{commits-hold}
use Rattle.one_log.proofs.Good.{Good}
use Rattle.one_log.proofs.Formed.{Formed, good-anchored}
use Rattle.world_steps.specs.Fit.{LogFits, Runs}

event-entry : (e : Event) → IsEvent e → IsEntry (entry_of e)
event-entry e h = let short = event_short (spelling_of e) e (encoded e h) in record { event = (e, encoded e h, refl); short = omega (arith, short) }

events-entries : (es : List Event) → AllByRecursion IsSpellable es → AreEntries (log_of es)
events-entries [] h = tt
events-entries (e ∷ es) h = (event-entry e h.0.0, events-entries es h.1)

rises-shape : (t : ℤ) (log : Log) → RisesFrom t log → TermsRiseFrom t (shape_of log)
rises-shape t [] r = tt
rises-shape t (x ∷ xs) r = (r.0, rises-shape x.term xs r.1)

anchored-rises : (n : ℕ) (w : World) (log : Log) → Fits n w → IsAnchored (reign_of w) log → Rises log
anchored-rises n w [] f a = tt
anchored-rises n w (x ∷ xs) f a =
    Rises-front (negsuc 0) (x ∷ xs) (reign_of w (last (x ∷ xs))) (leads (x ∷ xs) (reign_of w (last (x ∷ xs))) (a (x ∷ xs) ([], append-nil (x ∷ xs)) (λ z. cc))) (f.grounded.rises (last (x ∷ xs)))

-- each member's log, whose candidate term is within the limit, can be indexed and sent
pub log-fits : (n : ℕ) (kinds : List Kind) (w : World) (m : ℕ) → Fits n w → Formed kinds w → IsTerm (member w m).durable.candidate → LogFits (member w m).durable.log
log-fits n kinds w m f g t =
    let log = (member w m).durable.log in
    let good : Good kinds w.now log = good-anchored kinds w log g (f.grounded.anchored m) in
    let name = same_name_law log in
    let room = good.room in
    record {
      place = (let e = ap (λ z. z.place) name in omega (arith, e, room));
      term = subst (λ (u : ℤ). u ≤ℤ pos (2 ^ 62)) (sym (ap (λ z. z.term) name)) (below (last log) (member w m).durable.candidate (f.low m) t.high);
      rises = rises-shape (negsuc 0) log (anchored-rises n w log f (f.grounded.anchored m));
      entries = subst AreEntries (sym good.are) (events-entries good.es good.spellable);
    }
  where
    below : (a b : ℤ) → a ≤ℤ b → b ≤ℤ pos (2 ^ 62) → a ≤ℤ pos (2 ^ 62)
    below a b p q = omega (arith, ints, p, q)

pub runs-here : (n : ℕ) (kinds : List Kind) (w : World) (m : ℕ) → Fits n w → Formed kinds w → IsTerm (member w m).durable.candidate → Runs (member w m).values (member w m).durable.log
runs-here n kinds w m f g t = record { log_fits = log-fits n kinds w m f g t; commit = (commits-hold n w f).within m }
