-- Entry by entry.
use Rattle.std.proofs.Common.{rules, ◌≡◌, ◌+◌, ◌≤◌, ℤ, [], ◌∷◌, ◌++◌, length, take, drop, sym, ◌∙◌, ap, subst, arith, append_assoc, length-append}
use Rattle.std.proofs.lemmas.List.{take_at, length-map}
use Rattle.entry_log.specs.Shape.{entry_shape}
use Rattle.entry_log.specs.Log.{Log, RisesFrom, last, place, place_from, end_after}
use Rattle.log_segment.specs.Held.{IsEventEntry}
use Rattle.log_segment.proofs.AppendLemmas.{place_more}
use Rattle.log_segment.proofs.HeldLemmas.{place_up}
use Rattle.log_segment.proofs.KeepLemmas.{drop_here, last_more, take_front}
use Rattle.log_segment.proofs.kept.KeptLog.push_all.Goals as goal

pub push-requires-clause-event : goal.push-requires-clause-event
push-requires-clause-event c = subst IsEventEntry (sym c.entry-item.is) (c.requires.events c.loop-entry.entry-index c.entry-item.result (search rules))

pub push-requires-clause-room : goal.push-requires-clause-room
push-requires-clause-room c =
    let e = c.entry-item.result in
    let rest = drop (c.loop-entry.entry-index + 1) c.args.entries.now in
    let here : drop c.loop-entry.entry-index c.args.entries.now ≡ e ∷ rest = drop_here c.args.entries.now c.loop-entry.entry-index e (search rules) c.entry-item.is in
    let room = subst (λ (l : Log). place_from (place c.loop-entry.self) l ≤ 16777216) here c.loop-entry.invariant.room in
    let up = place_up (end_after (place c.loop-entry.self) (length e.bytes)) rest in
    omega (arith, room, up)

pub push-requires-clause-term : goal.push-requires-clause-term
push-requires-clause-term c =
    let e = c.entry-item.result in
    let rest = drop (c.loop-entry.entry-index + 1) c.args.entries.now in
    let here : drop c.loop-entry.entry-index c.args.entries.now ≡ e ∷ rest = drop_here c.args.entries.now c.loop-entry.entry-index e (search rules) c.entry-item.is in
    (subst (λ (l : Log). RisesFrom (last c.loop-entry.self) l) here c.loop-entry.invariant.rises).0

pub cut-requires : goal.cut-requires
cut-requires c =
    let same : length c.push.new.self ≡ length c.loop-entry.self = ap (λ (l : Log). length l) c.in-Err.ensures.err in
    let count = c.entries-before.ensures.count in
    let index = ap length c.index.ensures.index in
    omega (arith, same, count, index, c.loop-entry.invariant.count, length-map c.args.self.now entry_shape)

pub returns-in-Err-clause-err : goal.returns-in-Err-clause-err
returns-in-Err-clause-err c =
    let init = c.args.self.now in
    let now = c.loop-entry.self in
    let n = c.entries-before.result in
    let n_is : n ≡ length init = c.entries-before.ensures.count ∙ ap length c.index.ensures.index ∙ length-map init entry_shape in
    let i = c.loop-entry.entry-index in
    let rest = drop i c.args.entries.now in
    let within : n ≤ length now = omega (arith, n_is, c.loop-entry.invariant.count) in
    c.cut.ensures ∙ ap (λ (l : Log). take n l) c.in-Err.ensures.err ∙ sym (take_front n now rest within) ∙ ap (λ (l : Log). take n l) c.loop-entry.invariant.log ∙ take_at init c.args.entries.now n (sym n_is)

pub loop-entry-preserved : goal.loop-entry-preserved
loop-entry-preserved c =
    let now = c.loop-entry.self in
    let e = c.entry-item.result in
    let rest = drop (c.loop-entry.entry-index + 1) c.args.entries.now in
    let here : drop c.loop-entry.entry-index c.args.entries.now ≡ e ∷ rest = drop_here c.args.entries.now c.loop-entry.entry-index e (search rules) c.entry-item.is in
    let new : c.push.new.self ≡ now ++ e ∷ [] = c.in-Ok.ensures.ok in
    record {
      log = ap (λ (l : Log). l ++ rest) new ∙ append_assoc now (e ∷ []) rest ∙ ap (λ (l : Log). now ++ l) (sym here) ∙ c.loop-entry.invariant.log;
      count = ap (λ (l : Log). length l) new ∙ omega (arith, length-append now (e ∷ []), c.loop-entry.invariant.count);
      rises = subst (λ (l : Log). RisesFrom (last l) rest) (sym new) (subst (λ (t : ℤ). RisesFrom t rest) (sym (last_more now e)) (subst (λ (l : Log). RisesFrom (last now) l) here c.loop-entry.invariant.rises).1);
      room = subst (λ (l : Log). place_from (place l) rest ≤ 16777216) (sym new) (subst (λ p. place_from p rest ≤ 16777216) (sym (place_more 0 now (e ∷ []))) (subst (λ (l : Log). place_from (place now) l ≤ 16777216) here c.loop-entry.invariant.room));
    }
