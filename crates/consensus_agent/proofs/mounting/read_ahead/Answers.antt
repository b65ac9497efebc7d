use Rattle.std.proofs.Common.{◌≡◌, ◌<◌, ◌≤◌, ◌-◌, ◌+◌, length, refl, ap, sym, subst, ◌∙◌, arith}
use Rattle.std.specs.Prelude.{IsTrue, []}
use Rattle.entry_log.specs.Log.{Log}
use Rattle.entry_log.specs.Shape.{Shape}
use Rattle.member_disk.specs.Kept.{Kept}
use Rattle.consensus_agent.specs.Reads.{IsReadOn}
use Rattle.consensus_agent.proofs.Disking.{looked_next, looked_none}
use Rattle.consensus_agent.proofs.Entries.{length_shape}
use Rattle.consensus_agent.proofs.Quiets.{quiet_none, quiet_by, quiet_more}
use Rattle.consensus_agent.proofs.Reading.{read_at, read_none}
use Rattle.consensus_agent.proofs.Running.{ok_out}
use Rattle.consensus_agent.proofs.mounting.read_ahead.Goals as goal

pub loop-index-init : goal.loop-index-init
loop-index-init g c = record {
  state = refl;
  taken = refl;
  low = (let first = c.consumed-index.ensures.value in omega (arith, first));
  fresh = c.requires.fresh;
  looked = looked_none g.D.Disk.state g.D.Disk.tells g.D.Disk.is_honest c.args.disk.now c.args.disk.now refl;
  quiet = quiet_none g.D.Disk.fault_count g.D.Disk.state g.D.Disk.tells c.args.disk.now c.args.disk.now refl;
  whole = c.requires.whole;
  read = (let first = c.consumed-index.ensures.value in
      subst (λ es. IsReadOn (g.D.Disk.tells c.args.disk.now.disk) c.args.disk.now.kept.log c.args.«module».now.consumed (c.consumed-index.result - c.args.«module».now.consumed) [] es) (sym c.requires.none)
      (read_none (g.D.Disk.tells c.args.disk.now.disk) c.args.disk.now.kept.log c.args.«module».now.consumed (c.consumed-index.result - c.args.«module».now.consumed) [] (omega (arith, first))));
}

pub loop-index-preserved : goal.loop-index-preserved
loop-index-preserved g c =
    let inv = c.loop-index.invariant in
    let i = c.loop-index.index in
    let first = c.args.«module».now.consumed in
    let same : c.loop-index.disk.kept.log ≡ c.args.disk.now.kept.log = ap (λ (k : Kept). k.log) inv.looked.kept in
    let many : length c.loop-index.disk.kept.log ≡ length c.args.disk.now.kept.log = ap (λ (l : Log). length l) same in
    let shape : length c.index.result.now ≡ length c.args.disk.now.kept.log = ap (λ (xs : Shape). length xs) c.index.ensures.index ∙ length_shape c.args.disk.now.kept.log in
    let entries = c.entries-entries.ensures.count in
    let test = c.loop-index-test.true in
    let below : i < length c.args.disk.now.kept.log = omega (arith, test, entries, shape) in
    let low : first ≤ i = inv.low in
    record {
      state = c.take_one.ensures.state ∙ inv.state;
      taken = c.take_one.ensures.consumed ∙ inv.taken;
      low = omega (arith, low);
      fresh = c.in_ok-take_one.ensures.fresh;
      looked = looked_next g.D.Disk.state g.D.Disk.tells g.D.Disk.is_honest c.args.disk.now c.loop-index.disk c.read.new.self c.read.result inv.looked c.read.ensures.kept c.read.ensures.tells c.read.ensures.honest c.read.ensures.looks;
      quiet = quiet_more g.D.Disk.fault_count g.D.Disk.state g.D.Disk.tells c.args.disk.now c.loop-index.disk c.read.new.self inv.looked.tells inv.quiet
          (ok_out c.read.result _ c.in_ok-entry.was (quiet_by g.D.Disk.fault_count g.D.Disk.state g.D.Disk.tells c.loop-index.disk c.read.new.self c.read.result c.read.ensures.cause c.read.ensures.looks));
      whole = c.read.ensures.whole;
      read = read_at (g.D.Disk.tells c.args.disk.now.disk) c.args.disk.now.kept.log c.loop-index.disk.kept.log first i (i + 1 - first) [] c.loop-index.«module».ahead.entries c.take_one.new.«module».ahead.entries c.in_ok-entry.entry same (omega (arith, many, below)) low (omega (arith, low)) inv.read
          c.in_ok-entry.ensures.entry
          (λ t. c.in_ok-entry.ensures.exact (subst IsTrue (sym inv.looked.tells) t))
          c.in_ok-take_one.ensures.entries;
    }
