-- The batch behind the log.
use Rattle.std.proofs.Common.{◌≡◌, inr, Err, sym, ◌∙◌, ap, subst, arith}
use Rattle.cl_base.specs.declared.fault.MemberFault.TheVariants as fault
use Rattle.entry_log.specs.Log.{Log, place, place_from}
use Rattle.log_segment.specs.Batch.{IsBatchAt}
use Rattle.log_segment.specs.Spelled.{IsSpelled}
use Rattle.log_segment.proofs.segments.Segments.stage.Goals as goal

pub returns-then-end-gt-LOG_LIMIT-clause-err : goal.returns-then-end-gt-LOG_LIMIT-clause-err
returns-then-end-gt-LOG_LIMIT-clause-err c =
    let end : c.end_with-end.result ≡ place_from (place c.args.self.now) c.args.entries.now = c.end_with-end.ensures ∙ ap (λ p. place_from p c.args.entries.now) (c.place-place.ensures.place ∙ ap (λ (l : Log). place l) c.self.view_is) in
    inr (ap fault.LogFull end, omega (arith, end, c.if-end-gt-LOG_LIMIT.true))

pub spell-requires-clause-batch : goal.spell-requires-clause-batch
spell-requires-clause-batch c = subst (λ p. IsBatchAt p c.args.entries.now) (sym (c.place-place.ensures.place ∙ ap (λ (l : Log). place l) c.self.view_is)) c.requires.batch

pub returns-in-Ok-clause-ok : goal.returns-in-Ok-clause-ok
returns-in-Ok-clause-ok c = subst (λ p. IsSpelled p c.args.entries.now c.in-Ok.batch) (c.place-place.ensures.place ∙ ap (λ (l : Log). place l) c.self.view_is) c.in-Ok.ensures

pub returns-in-Ok-clause-room : goal.returns-in-Ok-clause-room
returns-in-Ok-clause-room c =
    let end : c.end_with-end.result ≡ place_from (place c.args.self.now) c.args.entries.now = c.end_with-end.ensures ∙ ap (λ p. place_from p c.args.entries.now) (c.place-place.ensures.place ∙ ap (λ (l : Log). place l) c.self.view_is) in
    omega (arith, end, c.if-end-gt-LOG_LIMIT.false)

pub returns-then-end-gt-LOG_LIMIT-clause-full : goal.returns-then-end-gt-LOG_LIMIT-clause-full
returns-then-end-gt-LOG_LIMIT-clause-full c out =
    let end : c.end_with-end.result ≡ place_from (place c.args.self.now) c.args.entries.now = c.end_with-end.ensures ∙ ap (λ p. place_from p c.args.entries.now) (c.place-place.ensures.place ∙ ap (λ (l : Log). place l) c.self.view_is) in
    ap (λ p. Err (fault.LogFull p)) end

pub returns-in-Ok-clause-full : goal.returns-in-Ok-clause-full
returns-in-Ok-clause-full c out =
    let end : c.end_with-end.result ≡ place_from (place c.args.self.now) c.args.entries.now = c.end_with-end.ensures ∙ ap (λ p. place_from p c.args.entries.now) (c.place-place.ensures.place ∙ ap (λ (l : Log). place l) c.self.view_is) in
    absurd (omega (arith, end, out, c.if-end-gt-LOG_LIMIT.false))

pub returns-in-Err-clause-full : goal.returns-in-Err-clause-full
returns-in-Err-clause-full c out =
    let end : c.end_with-end.result ≡ place_from (place c.args.self.now) c.args.entries.now = c.end_with-end.ensures ∙ ap (λ p. place_from p c.args.entries.now) (c.place-place.ensures.place ∙ ap (λ (l : Log). place l) c.self.view_is) in
    absurd (omega (arith, end, out, c.if-end-gt-LOG_LIMIT.false))
