use Rattle.std.proofs.Common.{rules, ◌≡◌, ◌==◌, true, length, w64, FitsSigned, eq-eqb}
use Rattle.std.proofs.lemmas.Int.{to_z-of_z}
use Rattle.service_api.proofs.ticker.Ticker.ask.Goals as goal

pub returns-then-payload-eq-SCHEDULE_BYTES-clause-state : goal.returns-then-payload-eq-SCHEDULE_BYTES-clause-state
returns-then-payload-eq-SCHEDULE_BYTES-clause-state c =
    let len : (length c.args.payload.now == 16) ≡ true = eq-eqb _ _ (search rules) in
    let session = c.ranges.session in
    let stamp = c.ranges.stamp in
    let id : FitsSigned w64 c.get_i64-id.result = search rules in
    rw (len, ← c.get_i64-id.ensures, ← c.get_u64.ensures) (simp to_z-of_z at c.schedule.ensures.state)

pub returns-then-payload-eq-SCHEDULE_BYTES-clause-outputs : goal.returns-then-payload-eq-SCHEDULE_BYTES-clause-outputs
returns-then-payload-eq-SCHEDULE_BYTES-clause-outputs c =
    let len : (length c.args.payload.now == 16) ≡ true = eq-eqb _ _ (search rules) in
    let session = c.ranges.session in
    let stamp = c.ranges.stamp in
    let id : FitsSigned w64 c.get_i64-id.result = search rules in
    rw (len, ← c.get_i64-id.ensures, ← c.get_u64.ensures) (simp to_z-of_z at c.schedule.ensures.outputs)
