use Rattle.std.proofs.Common.{◌≡◌, ℕ, ◌+◌, ◌-◌, ◌≤◌, ◌++◌, ◌∷◌, [], List, length, take, get_or, refl, sym, subst, arith}
use Rattle.std.specs.Prelude.{IsTrue}
use Rattle.std.proofs.lemmas.List.{take_more, take_all}
use Rattle.cl_base.specs.Looks.{same_none, same_more}
use Rattle.entry_log.specs.Log.{Log}
use Rattle.member_disk.specs.Kept.{Kept}
use Rattle.consensus_agent.specs.Reads.{IsReadOn}
use Rattle.consensus_agent.proofs.Disking.{looked_more, looked_none}
use Rattle.consensus_agent.proofs.Ranges.{within_at}
use Rattle.consensus_agent.proofs.Reading.{AllRead, are_read, read_exact, read_more}
use Rattle.consensus_agent.proofs.reads.read_ranges.Goals as goal

pub loop-range-init : goal.loop-range-init
loop-range-init g c = record {
  whole = c.requires.whole;
  looked = looked_none g.D.Disk.state g.D.Disk.tells g.D.Disk.is_honest c.args.disk.now c.args.disk.now refl;
  same = λ told. same_none (g.D.Disk.state c.args.disk.now.disk);
  read = c.new-batches.ensures;
}

pub read_range-requires-clause-within : goal.read_range-requires-clause-within
read_range-requires-clause-within g c =
    let r : ℕ × ℕ = get_or c.args.ranges.now c.loop-range.range-index (0, 0) in
    subst (λ (k : Kept). r.1 ≤ length k.log - r.0) (sym c.loop-range.invariant.looked.kept) (within_at c.args.ranges.now (length c.args.disk.now.kept.log) c.loop-range.range-index (0, 0) c.requires.within c.loop-range-test.true)

pub loop-range-preserved : goal.loop-range-preserved
loop-range-preserved g c =
    let inv = c.loop-range.invariant in
    let rs : List (ℕ × ℕ) = c.args.ranges.now in
    let i : ℕ = c.loop-range.range-index in
    let r : ℕ × ℕ = get_or rs i (0, 0) in
    let more : take (i + 1) rs ≡ take i rs ++ r ∷ [] = take_more rs i (0, 0) c.loop-range-test.true in
    let told = g.D.Disk.tells c.args.disk.now.disk in
    let log : Log = c.args.disk.now.kept.log in
    let read : IsReadOn told log r.0 r.1 c.loop-range.batches c.read_range.new.batches =
    subst (λ t. IsReadOn t log r.0 r.1 c.loop-range.batches c.read_range.new.batches) inv.looked.tells
    (subst (λ (k : Kept). IsReadOn (g.D.Disk.tells c.loop-range.disk.disk) k.log r.0 r.1 c.loop-range.batches c.read_range.new.batches) inv.looked.kept c.in_ok-read_range.ensures.read) in
    record {
      whole = c.read_range.ensures.whole;
      looked = looked_more g.D.Disk.state g.D.Disk.tells g.D.Disk.is_honest c.args.disk.now c.loop-range.disk c.read_range.new.disk inv.looked c.read_range.ensures.looked;
      same = λ t. same_more (g.D.Disk.state c.args.disk.now.disk) (g.D.Disk.state c.loop-range.disk.disk) (g.D.Disk.state c.read_range.new.disk.disk) (inv.same t) (c.in_ok-read_range.ensures.same (subst IsTrue (sym inv.looked.tells) t));
      read = subst (λ (l : List (ℕ × ℕ)). AllRead told log l c.read_range.new.batches) (sym more) (read_more told log (take i rs) r c.loop-range.batches c.read_range.new.batches inv.read read);
    }

pub returns-in_err-read_range-clause-looked : goal.returns-in_err-read_range-clause-looked
returns-in_err-read_range-clause-looked g c = looked_more g.D.Disk.state g.D.Disk.tells g.D.Disk.is_honest c.args.disk.now c.loop-range.disk c.read_range.new.disk c.loop-range.invariant.looked c.read_range.ensures.looked

pub returns-clause-read : goal.returns-clause-read
returns-clause-read g c =
    let all = take_all c.loop-range.range-index c.args.ranges.now (omega arith) in
    are_read (g.D.Disk.tells c.args.disk.now.disk) c.args.disk.now.kept.log c.args.ranges.now c.loop-range.batches (subst (λ (rs : List (ℕ × ℕ)). AllRead (g.D.Disk.tells c.args.disk.now.disk) c.args.disk.now.kept.log rs c.loop-range.batches) all c.loop-range.invariant.read)

pub returns-clause-exact : goal.returns-clause-exact
returns-clause-exact g c = λ told.
    let all = take_all c.loop-range.range-index c.args.ranges.now (omega arith) in
    read_exact (g.D.Disk.tells c.args.disk.now.disk) c.args.disk.now.kept.log c.args.ranges.now c.loop-range.batches told (subst (λ (rs : List (ℕ × ℕ)). AllRead (g.D.Disk.tells c.args.disk.now.disk) c.args.disk.now.kept.log rs c.loop-range.batches) all c.loop-range.invariant.read)
