use Rattle.std.proofs.Common.{◌≡◌, ◌-◌, ◌+◌, length, refl, ap, sym, subst, ◌∙◌, arith}
use Rattle.std.specs.Prelude.{IsTrue}
use Rattle.cl_base.specs.Looks.{same_none}
use Rattle.entry_log.specs.Log.{Log}
use Rattle.entry_log.specs.Shape.{Shape}
use Rattle.member_disk.specs.Kept.{Kept}
use Rattle.consensus_agent.specs.Reads.{IsReadOn}
use Rattle.consensus_agent.proofs.Disking.{looked_next, looked_none, same_next}
use Rattle.consensus_agent.proofs.Entries.{length_shape}
use Rattle.consensus_agent.proofs.Reading.{read_at, read_none}
use Rattle.consensus_agent.proofs.Sounding.{few}
use Rattle.consensus_agent.proofs.reads.read_range.Goals as goal

pub read-requires-clause-index : goal.read-requires-clause-index
read-requires-clause-index g c =
    let same : length c.loop-index.disk.kept.log ≡ length c.args.disk.now.kept.log = ap (λ (k : Kept). length k.log) c.loop-index.invariant.looked.kept in
    omega (arith, same)

pub loop-index-init : goal.loop-index-init
loop-index-init g c = record {
  whole = c.requires.whole;
  looked = looked_none g.D.Disk.state g.D.Disk.tells g.D.Disk.is_honest c.args.disk.now c.args.disk.now refl;
  same = λ told. same_none (g.D.Disk.state c.args.disk.now.disk);
  read = read_none (g.D.Disk.tells c.args.disk.now.disk) c.args.disk.now.kept.log c.args.first (c.args.first - c.args.first) c.args.batches.now (omega arith);
}

pub loop-index-preserved : goal.loop-index-preserved
loop-index-preserved g c =
    let inv = c.loop-index.invariant in
    let i = c.loop-index.index in
    let same : c.loop-index.disk.kept.log ≡ c.args.disk.now.kept.log = ap (λ (k : Kept). k.log) inv.looked.kept in
    let many : length c.loop-index.disk.kept.log ≡ length c.args.disk.now.kept.log = ap (λ (l : Log). length l) same in
    record {
      whole = c.read.ensures.whole;
      looked = looked_next g.D.Disk.state g.D.Disk.tells g.D.Disk.is_honest c.args.disk.now c.loop-index.disk c.read.new.self c.read.result inv.looked c.read.ensures.kept c.read.ensures.tells c.read.ensures.honest c.read.ensures.looks;
      same = same_next g.D.Disk.state g.D.Disk.tells g.D.Disk.is_honest c.args.disk.now c.loop-index.disk c.read.new.self c.read.result c.in_ok-entry.entry c.in_ok-entry.was inv.looked.tells inv.same c.read.ensures.looks;
      read = read_at (g.D.Disk.tells c.args.disk.now.disk) c.args.disk.now.kept.log c.loop-index.disk.kept.log c.args.first i (i + 1 - c.args.first) c.args.batches.now c.loop-index.batches c.push.new.self c.in_ok-entry.entry same (omega (arith, many)) (omega arith) (omega arith) inv.read
          c.in_ok-entry.ensures.entry
          (λ t. c.in_ok-entry.ensures.exact (subst IsTrue (sym inv.looked.tells) t))
          c.in_ok-push.ensures.ok;
    }

pub returns-in_err-entry-clause-looked : goal.returns-in_err-entry-clause-looked
returns-in_err-entry-clause-looked g c = looked_next g.D.Disk.state g.D.Disk.tells g.D.Disk.is_honest c.args.disk.now c.loop-index.disk c.read.new.self c.read.result c.loop-index.invariant.looked c.read.ensures.kept c.read.ensures.tells c.read.ensures.honest c.read.ensures.looks

pub returns-in_err-push-clause-looked : goal.returns-in_err-push-clause-looked
returns-in_err-push-clause-looked g c = looked_next g.D.Disk.state g.D.Disk.tells g.D.Disk.is_honest c.args.disk.now c.loop-index.disk c.read.new.self c.read.result c.loop-index.invariant.looked c.read.ensures.kept c.read.ensures.tells c.read.ensures.honest c.read.ensures.looks

pub returns-clause-read : goal.returns-clause-read
returns-clause-read g c =
    let few_of = few c.index.result.now c.index.ensures.ranged in
    let shape : length c.index.result.now ≡ length c.args.disk.now.kept.log = ap (λ (xs : Shape). length xs) c.index.ensures.index ∙ length_shape c.args.disk.now.kept.log in
    let all : c.loop-index.index - c.args.first ≡ c.args.count = omega (arith, few_of, shape) in
    subst (λ n. IsReadOn (g.D.Disk.tells c.args.disk.now.disk) c.args.disk.now.kept.log c.args.first n c.args.batches.now c.loop-index.batches) all c.loop-index.invariant.read
