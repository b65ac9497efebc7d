use Rattle.std.proofs.Common.{rules, ◌≡◌, ◌≤◌, ◌<◌, ◌-◌, [], All, IsTrue, FitsSigned, w64, length, drop, refl, sym, ◌∙◌, ap, subst, arith}
use Rattle.std.specs.Prelude.{unsigned_abs}
use Rattle.std.proofs.lemmas.Int.{to_z-of_z}
use Rattle.cl_base.specs.declared.entry.Entry.{Entry}
use Rattle.entry_log.specs.Log.{Log}
use Rattle.log_segment.specs.Held.{IsEventEntry}
use Rattle.cluster_backup.specs.Spelling.{AreParts}
use Rattle.cluster_backup.specs.Taking.{AreBehind, Fits, entries_of}
use Rattle.cluster_backup.specs.declared.part.Part.TheVariants as part
use Rattle.cluster_backup.proofs.PartLists.{all_parts}
use Rattle.cluster_backup.proofs.Events.{all_events, all_small}
use Rattle.cluster_backup.proofs.Bringing.{passed, past_parts, those_behind, none_fit}
use Rattle.cluster_backup.proofs.entries.behind.Goals as goal

pub entries_of-requires : goal.entries_of-requires
entries_of-requires c =
    let signed : FitsSigned w64 c.args.start = search rules in
    let same : passed c.args.start ≡ c.args.start = to_z-of_z w64 c.args.start signed in
    let reached = subst (λ z. unsigned_abs z ≤ c.entries.result → c.past.result.now ≡ drop (c.entries.result - unsigned_abs z) c.args.events.now) same c.past.ensures.reached in
    let gap = subst (λ z. c.entries.result < unsigned_abs z → c.past.result.now ≡ []) same c.past.ensures.gap in
    all_parts part.Event c.past.result.now (past_parts c.entries.result c.args.start c.args.events.now c.past.result.now reached gap c.requires.events)

pub fit-requires-clause-events : goal.fit-requires-clause-events
fit-requires-clause-events c =
    let signed : FitsSigned w64 c.args.start = search rules in
    let same : passed c.args.start ≡ c.args.start = to_z-of_z w64 c.args.start signed in
    let reached = subst (λ z. unsigned_abs z ≤ c.entries.result → c.past.result.now ≡ drop (c.entries.result - unsigned_abs z) c.args.events.now) same c.past.ensures.reached in
    let gap = subst (λ z. c.entries.result < unsigned_abs z → c.past.result.now ≡ []) same c.past.ensures.gap in
    subst (λ (l : Log). All (λ (e : Entry). length e.bytes ≤ 32768) l) (sym (c.as_slice.ensures ∙ c.in_ok-entries.ensures)) (all_small c.past.result.now (past_parts c.entries.result c.args.start c.args.events.now c.past.result.now reached gap c.requires.events))

pub returns-then-not-fit : goal.returns-then-not-fit
returns-then-not-fit c = λ log is.
    let signed : FitsSigned w64 c.args.start = search rules in
    let same : passed c.args.start ≡ c.args.start = to_z-of_z w64 c.args.start signed in
    let reached = subst (λ z. unsigned_abs z ≤ c.entries.result → c.past.result.now ≡ drop (c.entries.result - unsigned_abs z) c.args.events.now) same c.past.ensures.reached in
    let gap = subst (λ z. c.entries.result < unsigned_abs z → c.past.result.now ≡ []) same c.past.ensures.gap in
    let term : FitsSigned w64 c.last_term.result = search rules in
    let same_term : passed c.last_term.result ≡ c.last_term.result = to_z-of_z w64 c.last_term.result term in
    let are : c.as_slice.result.now ≡ entries_of c.past.result.now = c.as_slice.ensures ∙ c.in_ok-entries.ensures in
    let out : Fits c.place.result c.last_term.result c.as_slice.result.now → IsTrue c.fit.result = λ f. c.fit.ensures.1 (subst (λ z. Fits c.place.result z c.as_slice.result.now) (sym same_term) f) in
    subst (λ (l : Log). AreBehind log c.args.start c.args.events.now l) (sym c.new.ensures)
    (none_fit log c.args.index.now c.entries.result c.args.start c.args.events.now is c.entries.ensures.count c.place.result c.last_term.result c.as_slice.result.now c.place.ensures c.last_term.ensures
    (λ reach. are ∙ ap entries_of (reached reach)) (λ far. are ∙ ap entries_of (gap far)) (λ f. let test = out f in absurd (cc (test, c.if-not-fit.true))))

pub returns : goal.returns
returns c = λ log is.
    let signed : FitsSigned w64 c.args.start = search rules in
    let same : passed c.args.start ≡ c.args.start = to_z-of_z w64 c.args.start signed in
    let reached = subst (λ z. unsigned_abs z ≤ c.entries.result → c.past.result.now ≡ drop (c.entries.result - unsigned_abs z) c.args.events.now) same c.past.ensures.reached in
    let gap = subst (λ z. c.entries.result < unsigned_abs z → c.past.result.now ≡ []) same c.past.ensures.gap in
    let term : FitsSigned w64 c.last_term.result = search rules in
    let same_term : passed c.last_term.result ≡ c.last_term.result = to_z-of_z w64 c.last_term.result term in
    let are : c.as_slice.result.now ≡ entries_of c.past.result.now = c.as_slice.ensures ∙ c.in_ok-entries.ensures in
    subst (λ (l : Log). AreBehind log c.args.start c.args.events.now l) c.as_slice.ensures
    (those_behind log c.args.index.now c.entries.result c.args.start c.args.events.now is c.entries.ensures.count c.place.result c.last_term.result c.as_slice.result.now c.place.ensures c.last_term.ensures
    (λ reach. are ∙ ap entries_of (reached reach)) (λ far. are ∙ ap entries_of (gap far)) (subst (λ z. Fits c.place.result z c.as_slice.result.now) same_term (c.fit.ensures.0 c.if-not-fit.false))
    (subst (λ (l : Log). All IsEventEntry l) (sym are) (all_events c.past.result.now (past_parts c.entries.result c.args.start c.args.events.now c.past.result.now reached gap c.requires.events))))
