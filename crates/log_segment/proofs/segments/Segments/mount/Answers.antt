-- Entry by entry.
use Rattle.std.proofs.Common.{Ok, Err, to_z, of_z, w64, append_assoc, ◌≡◌, ℕ, ◌+◌, ◌/◌, ◌%◌, ◌<◌, ◌≤◌, ◌≤ℤ◌, [], ◌∷◌, ◌++◌, IsTrue, length, sym, ◌∙◌, ap, subst, arith}
use Rattle.std.specs.Prelude.{IfSome}
use Rattle.std.proofs.lemmas.Int.{ints}
use Rattle.cl_base.specs.Disk.{FileState}
use Rattle.cl_base.specs.declared.entry.Entry.{Entry}
use Rattle.entry_log.specs.Log.{Log, place, end_after}
use Rattle.log_segment.specs.Segment.{EntriesIn, EventIn, IsShut}
use Rattle.log_segment.specs.Held.{IsEventEntry}
use Rattle.log_segment.proofs.AppendLemmas.{entries_more, place_more}
use Rattle.log_segment.proofs.HeldLemmas.{ranged}
use Rattle.log_segment.proofs.KeepLemmas.{end_above}
use Rattle.log_segment.proofs.MountLemmas.{next_only, none_first, some_first, all_read, full_log}
use Rattle.log_segment.proofs.LookLemmas.{ok_of, looked_ok, looked_err, read_none, read_then, read_more, read_done}
use Rattle.log_segment.proofs.segments.Segments.mount.Goals as goal

pub entries-init : goal.entries-init
entries-init g c = record {
  seen = read_none g.met.D.Disk.only_now c.args.disk.now;
  alive = λ told some. absurd (omega (arith, some, ap place c.new-log.ensures));
  stands = λ told s low. subst (λ (l : Log). EntriesIn s ((g.D.Disk.state c.args.disk.now).files (2 + s)).reads 0 l) (sym c.new-log.ensures) tt;
  exact = λ told log held stands. (log, ap (λ (l : Log). l ++ log) (sym c.new-log.ensures));
}

pub returns-in-Err-push-clause-looked : goal.returns-in-Err-push-clause-looked
returns-in-Err-push-clause-looked g c = looked_ok (read_then g.met.D.Disk.honest_tells c.entries.invariant.seen c.in-Ok-Some.ensures.looked) tt

pub entries-preserved : goal.entries-preserved
entries-preserved g c =
    let inv = c.entries.invariant in
    let log = c.entries.log in
    let e = c.in-Ok-Some.entry in
    let new : c.push.new.self ≡ log ++ e ∷ [] = c.in-Ok.ensures.ok in
    record {
      seen = read_more (read_then g.met.D.Disk.honest_tells inv.seen c.in-Ok-Some.ensures.looked);
      alive = λ told some. sym (inv.seen.same told).burnt ∙ (c.in-Ok-Some.ensures.looked.looks (subst IsTrue (sym inv.seen.tells_same) told)).ok;
      exact = λ told log_all held stands.
          let told1 = subst IsTrue (sym inv.seen.tells_same) told in
          let z : to_z w64 (of_z w64 c.last_term-last_term.result) ≡ c.last_term-last_term.result = omega (arith, ints) in
          let split = inv.exact told log_all held stands in
          let kept = log in
          let more = some_first e split.0 (sym c.in-Ok-Some.field-0-is ∙ next_only log_all kept held (λ f. ((g.D.Disk.state c.args.disk.now).files f).reads) (λ f. ((g.D.Disk.state c.entries.disk).files f).reads) (λ f. ap (λ (x : FileState). x.reads) ((inv.seen.same told).files f)) stands c.place-place.result (to_z w64 (of_z w64 c.last_term-last_term.result)) c.place-place.ensures.place (z ∙ c.last_term-last_term.ensures) (omega (arith, c.place-place.ensures.place, c.if-place-ge-LOG_LIMIT.false)) (Ok c.in-Ok-Some.field-0) (c.in-Ok-Some.ensures.exact_end told1) (c.in-Ok-Some.ensures.exact told1) split.0 split.1) in
          (more.0, split.1 ∙ ap (λ (l : Log). log ++ l) more.1 ∙ sym (append_assoc log (e ∷ []) more.0) ∙ ap (λ (l : Log). l ++ more.0) (sym new));
      stands = λ told s low.
          let file : ((g.D.Disk.state c.entries.disk).files (2 + s)).reads ≡ ((g.D.Disk.state c.args.disk.now).files (2 + s)).reads = ap (λ (x : FileState). x.reads) ((inv.seen.same told).files (2 + s)) in
          let read = (subst (λ o. IfSome o (λ (v : Entry). (s : ℕ) → s < 256 → EventIn s ((g.D.Disk.state c.entries.disk).files (2 + s)).reads c.place-place.result v.bytes)) c.in-Ok-Some.field-0-is (c.in-Ok-Some.ensures.stands (subst IsTrue (sym inv.seen.tells_same) told))) s low in
          let here = subst (λ p. EventIn s ((g.D.Disk.state c.args.disk.now).files (2 + s)).reads p e.bytes) c.place-place.ensures.place (subst (λ l. EventIn s l c.place-place.result e.bytes) file read) in
          subst (λ (l : Log). EntriesIn s ((g.D.Disk.state c.args.disk.now).files (2 + s)).reads 0 l) (sym new) (entries_more s ((g.D.Disk.state c.args.disk.now).files (2 + s)).reads 0 log (e ∷ []) (inv.stands told s low) (here, tt));
    }

pub entries-smaller : goal.entries-smaller
entries-smaller g c =
    let log = c.entries.log in
    let e = c.in-Ok-Some.entry in
    let new : c.push.new.self ≡ log ++ e ∷ [] = c.in-Ok.ensures.ok in
    let parts = subst (λ o. IfSome o (λ (v : Entry). IsEventEntry v × (to_z w64 (of_z w64 c.last_term-last_term.result) ≤ℤ v.term) × (end_after c.place-place.result (length v.bytes) ≤ 16777216))) c.in-Ok-Some.field-0-is c.in-Ok-Some.ensures.entry in
    let least = (ranged e parts.0).least in
    let above = end_above (place log) (length e.bytes) (omega (arith, least)) in
    let end : place c.push.new.self ≡ end_after (place log) (length e.bytes) = ap place new ∙ place_more 0 log (e ∷ []) in
    let at = c.place-place.ensures.place in
    omega (arith, above, end, at, c.if-place-ge-LOG_LIMIT.false)

pub returns-then-place-ge-LOG_LIMIT-clause-looked : goal.returns-then-place-ge-LOG_LIMIT-clause-looked
returns-then-place-ge-LOG_LIMIT-clause-looked g c = let at = c.place-place.ensures.place in read_done c.entries.invariant.seen (λ told. c.entries.invariant.alive told (omega (arith, at, c.if-place-ge-LOG_LIMIT.true)))

pub returns-then-place-ge-LOG_LIMIT-clause-stands : goal.returns-then-place-ge-LOG_LIMIT-clause-stands
returns-then-place-ge-LOG_LIMIT-clause-stands g c told s low = let at = c.place-place.ensures.place in record { entries = c.entries.invariant.stands told s low; ends = λ here below. absurd (omega (arith, at, below, c.if-place-ge-LOG_LIMIT.true)) }

pub returns-in-Ok-None-clause-looked : goal.returns-in-Ok-None-clause-looked
returns-in-Ok-None-clause-looked g c = looked_ok (read_then g.met.D.Disk.honest_tells c.entries.invariant.seen c.in-Ok-None.ensures.looked) tt

pub returns-in-Ok-None-clause-stands : goal.returns-in-Ok-None-clause-stands
returns-in-Ok-None-clause-stands g c told s low =
    let inv = c.entries.invariant in
    let log = c.entries.log in
    let file : ((g.D.Disk.state c.entries.disk).files (2 + s)).reads ≡ ((g.D.Disk.state c.args.disk.now).files (2 + s)).reads = ap (λ (x : FileState). x.reads) ((inv.seen.same told).files (2 + s)) in
    let shut = subst (λ p. IsShut (p % 65536) ((g.D.Disk.state c.entries.disk).files (2 + p / 65536)).reads) c.place-place.ensures.place (c.in-Ok-None.ensures.ends (subst IsTrue (sym inv.seen.tells_same) told) (ap ok_of c.in-Ok-None.field-0-is)) in
    record {
      entries = inv.stands told s low;
      ends = λ here below. subst (λ l. IsShut (place log % 65536) l) file (subst (λ k. IsShut (place log % 65536) ((g.D.Disk.state c.entries.disk).files (2 + k)).reads) here shut);
    }

pub returns-in-Err-clause-looked : goal.returns-in-Err-clause-looked
returns-in-Err-clause-looked g c = looked_err (read_then g.met.D.Disk.honest_tells c.entries.invariant.seen c.in-Err.ensures.looked)

pub returns-in-Ok-None-clause-exact : goal.returns-in-Ok-None-clause-exact
returns-in-Ok-None-clause-exact g c told log_all held stands =
    let inv = c.entries.invariant in
    let kept = c.entries.log in
    let told1 = subst IsTrue (sym inv.seen.tells_same) told in
    let z : to_z w64 (of_z w64 c.last_term-last_term.result) ≡ c.last_term-last_term.result = omega (arith, ints) in
    let split = inv.exact told log_all held stands in
    let none = none_first split.0 (sym c.in-Ok-None.field-0-is ∙ next_only log_all kept held (λ f. ((g.D.Disk.state c.args.disk.now).files f).reads) (λ f. ((g.D.Disk.state c.entries.disk).files f).reads) (λ f. ap (λ (x : FileState). x.reads) ((inv.seen.same told).files f)) stands c.place-place.result (to_z w64 (of_z w64 c.last_term-last_term.result)) c.place-place.ensures.place (z ∙ c.last_term-last_term.ensures) (omega (arith, c.place-place.ensures.place, c.if-place-ge-LOG_LIMIT.false)) (Ok c.in-Ok-None.field-0) (c.in-Ok-None.ensures.exact_end told1) (c.in-Ok-None.ensures.exact told1) split.0 split.1) in
    all_read log_all kept (split.1 ∙ ap (λ (l : Log). kept ++ l) none)

pub returns-in-Err-clause-exact : goal.returns-in-Err-clause-exact
returns-in-Err-clause-exact g c told log_all held stands =
    let inv = c.entries.invariant in
    let kept = c.entries.log in
    let told1 = subst IsTrue (sym inv.seen.tells_same) told in
    let z : to_z w64 (of_z w64 c.last_term-last_term.result) ≡ c.last_term-last_term.result = omega (arith, ints) in
    let split = inv.exact told log_all held stands in
    next_only log_all kept held (λ f. ((g.D.Disk.state c.args.disk.now).files f).reads) (λ f. ((g.D.Disk.state c.entries.disk).files f).reads) (λ f. ap (λ (x : FileState). x.reads) ((inv.seen.same told).files f)) stands c.place-place.result (to_z w64 (of_z w64 c.last_term-last_term.result)) c.place-place.ensures.place (z ∙ c.last_term-last_term.ensures) (omega (arith, c.place-place.ensures.place, c.if-place-ge-LOG_LIMIT.false)) (Err c.in-Err.fault) (c.in-Err.ensures.exact_end told1) (c.in-Err.ensures.exact told1) split.0 split.1

pub returns-then-place-ge-LOG_LIMIT-clause-exact : goal.returns-then-place-ge-LOG_LIMIT-clause-exact
returns-then-place-ge-LOG_LIMIT-clause-exact g c told log_all held stands =
    let split = c.entries.invariant.exact told log_all held stands in
    full_log log_all c.entries.log held split.0 split.1 (let at = c.place-place.ensures.place in omega (arith, at, c.if-place-ge-LOG_LIMIT.true))

pub returns-then-place-ge-LOG_LIMIT-clause-reads : goal.returns-then-place-ge-LOG_LIMIT-clause-reads
returns-then-place-ge-LOG_LIMIT-clause-reads g c told s low =
    let at = c.place-place.ensures.place in
    let file : ((g.D.Disk.state c.entries.disk).files (2 + s)).reads ≡ ((g.D.Disk.state c.args.disk.now).files (2 + s)).reads = ap (λ (x : FileState). x.reads) ((c.entries.invariant.seen.same told).files (2 + s)) in
    record { entries = subst (λ l. EntriesIn s l 0 c.entries.log) (sym file) (c.entries.invariant.stands told s low); ends = λ here below. absurd (omega (arith, at, below, c.if-place-ge-LOG_LIMIT.true)) }

pub returns-in-Ok-None-clause-reads : goal.returns-in-Ok-None-clause-reads
returns-in-Ok-None-clause-reads g c told s low =
    let inv = c.entries.invariant in
    let log = c.entries.log in
    let told1 = subst IsTrue (sym inv.seen.tells_same) told in
    let one : ((g.D.Disk.state c.entries.disk).files (2 + s)).reads ≡ ((g.D.Disk.state c.args.disk.now).files (2 + s)).reads = ap (λ (x : FileState). x.reads) ((inv.seen.same told).files (2 + s)) in
    let two : ((g.D.Disk.state c.read_next.new.disk).files (2 + s)).reads ≡ ((g.D.Disk.state c.entries.disk).files (2 + s)).reads = ap (λ (x : FileState). x.reads) ((c.in-Ok-None.ensures.looked.looks told1).files (2 + s)) in
    let shut = subst (λ p. IsShut (p % 65536) ((g.D.Disk.state c.entries.disk).files (2 + p / 65536)).reads) c.place-place.ensures.place (c.in-Ok-None.ensures.ends told1 (ap ok_of c.in-Ok-None.field-0-is)) in
    record {
      entries = subst (λ l. EntriesIn s l 0 log) (sym (two ∙ one)) (inv.stands told s low);
      ends = λ here below. subst (λ l. IsShut (place log % 65536) l) (sym two) (subst (λ k. IsShut (place log % 65536) ((g.D.Disk.state c.entries.disk).files (2 + k)).reads) here shut);
    }
