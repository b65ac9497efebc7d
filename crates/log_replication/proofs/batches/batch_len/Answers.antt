use Rattle.std.proofs.Common.{◌≡◌, ◌+◌, ◌-◌, ◌^◌, ◌<◌, ◌≤◌, ◌∙◌, inl, inr, min, length, get_or, take, drop, sym, ap, subst, arith}
use Rattle.std.proofs.lemmas.List.{length-drop}
use Rattle.entry_log.specs.Shape.{lens_of, end_from, end_of}
use Rattle.entry_log.specs.Batches.{segment_of}
use Rattle.log_replication.proofs.Batched.{follows, is_longest, stops, Pieces, Pieces-one, Pieces-more, bytes-first, bytes-next, segment-first, segment-next}
use Rattle.log_replication.proofs.batches.batch_len.Goals as goal
use Rattle.log_replication.proofs.batches.batch_len.Goals.{then-bytes-gt-BATCH_BYTES-via-then-bytes-gt-BATCH_BYTES, then-bytes-gt-BATCH_BYTES-via-else-bytes-gt-BATCH_BYTES+then-next-segment}

pub returns-then-limit-eq0-clause-follows : goal.returns-then-limit-eq0-clause-follows
returns-then-limit-eq0-clause-follows c = follows c.args.index.now c.args.from 0

pub returns-then-bytes-gt-BATCH_BYTES-clause-follows : goal.returns-then-bytes-gt-BATCH_BYTES-clause-follows
returns-then-bytes-gt-BATCH_BYTES-clause-follows c = follows c.args.index.now c.args.from c.loop-count.count

pub returns-clause-follows : goal.returns-clause-follows
returns-clause-follows c = follows c.args.index.now c.args.from c.min-limit.result

pub loop-count-init : goal.loop-count-init
loop-count-init c =
    let xs = c.args.index.now in
    let some = c.if-limit-eq0.false in
    let count = c.entries.ensures.count in
    let limit = c.min-limit.ensures in
    let rest = c.saturating_sub.ensures in
    let inside : c.args.from < length xs = omega (arith, some, count, limit, rest) in
    record {
      low = omega arith;
      high = omega (arith, some);
      bytes = c.event_len-bytes.ensures ∙ bytes-first xs c.args.from inside;
      pieces = Pieces-one (end_of (take c.args.from xs)) (drop c.args.from xs);
    }

pub loop-count-preserved : goal.loop-count-preserved
loop-count-preserved c =
    let xs = c.args.index.now in
    let from = c.args.from in
    let k = c.loop-count.count in
    let count = c.entries.ensures.count in
    let limit = c.min-limit.ensures in
    let rest = c.saturating_sub.ensures in
    let below = c.loop-count-test.true in
    let inside : from + k < length xs = omega (arith, count, limit, rest, below) in
    let few : k < 64 = omega (arith, limit, below) in
    let inv = c.loop-count.invariant in
    let add : c.saturating_add-bytes.result ≡ min (c.loop-count.bytes + get_or (lens_of xs) (from + k) 0) (2 ^ 64 - 1) = c.saturating_add-bytes.ensures ∙ ap (λ n. min (c.loop-count.bytes + n) (2 ^ 64 - 1)) c.event_len.ensures in
    let bytes = bytes-next xs from k c.loop-count.bytes c.saturating_add-bytes.result inside inv.bytes add c.if-bytes-gt-BATCH_BYTES.false in
    let segment : segment_of (end_from (end_of (take from xs)) (take (k + 1) (drop from xs))) ≡ segment_of (end_from (end_of (take from xs)) (take 1 (drop from xs))) =
    sym (segment-next xs from k) ∙ ap segment_of (sym c.end_at-in-loop-count.ensures) ∙ sym c.segment_of-next.ensures ∙ c.if-next-segment.false ∙ c.segment_of-segment.ensures ∙ ap segment_of c.end_at.ensures ∙ segment-first xs from in
    record {
      low = omega arith;
      high = omega (arith, below);
      bytes = bytes;
      pieces = Pieces-more (end_of (take from xs)) (drop from xs) k few inv.pieces (subst (λ n. n ≤ 8192) bytes c.if-bytes-gt-BATCH_BYTES.false) segment;
    }

pub returns-then-bytes-gt-BATCH_BYTES-clause-longest : goal.returns-then-bytes-gt-BATCH_BYTES-clause-longest
returns-then-bytes-gt-BATCH_BYTES-clause-longest c =
    let xs = c.args.index.now in
    let from = c.args.from in
    let k = c.loop-count.count in
    let count = c.entries.ensures.count in
    let limit = c.min-limit.ensures in
    let rest = c.saturating_sub.ensures in
    let below = c.loop-count-test.true in
    let inside : from + k < length xs = omega (arith, count, limit, rest, below) in
    let inv = c.loop-count.invariant in
    let add : c.saturating_add-bytes.result ≡ min (c.loop-count.bytes + get_or (lens_of xs) (from + k) 0) (2 ^ 64 - 1) = c.saturating_add-bytes.ensures ∙ ap (λ n. min (c.loop-count.bytes + n) (2 ^ 64 - 1)) c.event_len.ensures in
    stops xs from k c.loop-count.bytes c.saturating_add-bytes.result inside inv.low inv.pieces inv.bytes add
    (elim c.then-bytes-gt-BATCH_BYTES.branch [
      | then-bytes-gt-BATCH_BYTES-via-then-bytes-gt-BATCH_BYTES w ↦ inl w.if-bytes-gt-BATCH_BYTES.true
      | then-bytes-gt-BATCH_BYTES-via-else-bytes-gt-BATCH_BYTES+then-next-segment w ↦ inr (λ e.
          w.if-next-segment.true (c.segment_of-next.ensures ∙ ap segment_of c.end_at-in-loop-count.ensures ∙ e ∙ ap segment_of (sym c.end_at.ensures) ∙ sym c.segment_of-segment.ensures))
    ])

pub returns-clause-longest : goal.returns-clause-longest
returns-clause-longest c =
    let xs = c.args.index.now in
    let from = c.args.from in
    let count = c.entries.ensures.count in
    let limit = c.min-limit.ensures in
    let rest = c.saturating_sub.ensures in
    let inv = c.loop-count.invariant in
    let high = inv.high in
    let end = c.loop-count-test.false in
    let same : c.loop-count.count ≡ c.min-limit.result = omega (arith, high, end) in
    let len = length-drop from xs in
    is_longest xs from c.min-limit.result (omega (arith, len, count, limit, rest)) (subst (λ k. Pieces (end_of (take from xs)) (drop from xs) k) same inv.pieces)
    (λ m i p. let few = p.few in omega (arith, i, few, len, count, limit, rest))
