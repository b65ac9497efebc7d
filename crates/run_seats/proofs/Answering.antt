-- What a member answers with.
use Rattle.std.proofs.Common.{ℕ, ◌≤◌, ◌&&◌, ◌||◌, length, take, drop, ap, arith}
use Rattle.std.specs.Prelude.{is_some, nat_le, sum}
use Rattle.std.proofs.lemmas.Bool.{and_parts, leb-true}
use Rattle.std.proofs.lemmas.List.{length-take}
use Rattle.cl_base.specs.declared.entry.Entry.{Entry}
use Rattle.entry_log.specs.Shape.{Shape, end_of, lens_of}
use Rattle.entry_log.specs.Batches.{in_one_segment}
use Rattle.log_replication.specs.Batches.{IsLongestBatch}
use Rattle.log_segment.specs.Held.{IsEventEntry}
use Rattle.cluster_backup.specs.Giving.{IsEvent}

pub few_of : (xs : Shape) (from n : ℕ) → IsLongestBatch xs from n → n ≤ 64
few_of xs from n h =
    let ys = take n (drop from xs) in
    let a = and_parts (nat_le (length (take n (drop from xs))) 64) ((nat_le (length (take n (drop from xs))) 1 || nat_le (sum (lens_of (take n (drop from xs)))) 8192) && in_one_segment (end_of (take from xs)) (take n (drop from xs))) h.fits in
    omega (arith, leb-true (length (take n (drop from xs))) 64 a.0, length-take n (drop from xs), h.within)

pub some_event : (e : Entry) → IsEventEntry e → IsEvent e.bytes
some_event e h = ap is_some h.1
