-- One frame, or the first and those behind it.
use Rattle.std.proofs.Common.{◌≡◌, ℕ, ◌+◌, ◌-◌, ◌%◌, List, ◌++◌, length, take, drop, false, IsTrue, sym, ◌∙◌, ap, subst, arith}
use Rattle.cl_base.specs.Disk.{FileState}
use Rattle.wire_prims.specs.Header.{aligned_to}
use Rattle.wire_prims.specs.Frames.{frame}
use Rattle.entry_log.specs.Log.{frames_len}
use Rattle.log_segment.specs.Segment.{later_frames, entry_frames}
use Rattle.log_segment.specs.Reads.{IsWrongAt, Puts}
use Rattle.log_segment.proofs.FrameLens.{frames_small, frames_more, frames_some, length-frame}
use Rattle.log_segment.proofs.SpellLemmas.{mapped, short_entry, long_entry}
use Rattle.log_segment.proofs.EntryReads.{wrong_first, wrong_rest, puts_both, puts_as, wrong_as}
use Rattle.cl_base.specs.declared.fault.MemberFault.{MemberFault}
use Rattle.log_segment.proofs.LookLemmas.{looked_then}
use Rattle.log_segment.proofs.read.read_frames.Goals as goal

full : (p : ℕ) (b : List ℕ) → length b ≡ 1376 → length (frame p 0x5A 0x80 false b) ≡ 1408
full p b size = length-frame p 0x5A 0x80 false b ∙ ap (λ k. aligned_to (32 + k)) size

pub returns-then-len-le-PAYLOAD-clause-gives : goal.returns-then-len-le-PAYLOAD-clause-gives
returns-then-len-le-PAYLOAD-clause-gives g c told =
    let n = c.args.len in
    let p = c.args.position in
    let short = c.if-len-le-PAYLOAD.true in
    mapped (Unit {0}) MemberFault _ _ c.read_fragment.result
    (puts_as (frame p 0x5A 0xC0 false) (entry_frames p) ((g.D.Disk.state c.args.disk.now).files (2 + c.args.segment)).reads (p % 65536) n (λ v len. sym (short_entry p v (omega (arith, len, short)))) c.args.out.now.items c.read_fragment.new.out.items)
    (c.read_fragment.ensures.gives told)

pub returns-then-len-le-PAYLOAD-clause-damaged : goal.returns-then-len-le-PAYLOAD-clause-damaged
returns-then-len-le-PAYLOAD-clause-damaged g c told file place same =
    let n = c.args.len in
    let p = c.args.position in
    let short = c.if-len-le-PAYLOAD.true in
    let wrong = c.read_fragment.ensures.damaged told file place same in (
      wrong.0,
      wrong_as (frame p 0x5A 0xC0 false) (entry_frames p) ((g.D.Disk.state c.args.disk.now).files (2 + c.args.segment)).reads (p % 65536) n (λ v len. sym (short_entry p v (omega (arith, len, short))))
          (aligned_to (32 + n)) (frames_len n) place (sym (frames_small n c.requires.some short)) wrong.1,
    )

pub read_later-requires-clause-fits : goal.read_later-requires-clause-fits
read_later-requires-clause-fits g c told1 =
    let n = c.args.len in
    let p = c.args.position in
    let long = c.if-len-le-PAYLOAD.false in
    let inside = c.requires.within in
    let more = frames_more n (omega (arith, long)) in
    let some = frames_some (n - 1376) (omega (arith, long)) in
    let next : (p + 1408) % 65536 ≡ p % 65536 + 1408 = omega (arith, inside, more, some.0) in
    let told : IsTrue (g.D.Disk.tells c.args.disk.now) = subst IsTrue c.read_fragment-2.ensures.tells told1 in
    let one_read = c.in-Ok.ensures.gives told in
    let fits = one_read.stands.fits in
    let len = full p one_read.body one_read.size in
    let files = ap (λ (x : FileState). length x.reads) (c.read_fragment-2.ensures.files told (2 + c.args.segment)) in
    omega (arith, fits, len, files, next)

pub read_later-requires-clause-below : goal.read_later-requires-clause-below
read_later-requires-clause-below g c =
    let n = c.args.len in
    let long = c.if-len-le-PAYLOAD.false in
    let inside = c.requires.within in
    let below = c.requires.below in
    let more = frames_more n (omega (arith, long)) in
    let some = frames_some (n - 1376) (omega (arith, long)) in
    omega (arith, below, inside, more, some.0)

pub read_later-requires-clause-within : goal.read_later-requires-clause-within
read_later-requires-clause-within g c =
    let n = c.args.len in
    let p = c.args.position in
    let long = c.if-len-le-PAYLOAD.false in
    let inside = c.requires.within in
    let more = frames_more n (omega (arith, long)) in
    let some = frames_some (n - 1376) (omega (arith, long)) in
    let next : (p + 1408) % 65536 ≡ p % 65536 + 1408 = omega (arith, inside, more, some.0) in
    omega (arith, next, inside, more)

pub returns-in-Ok-clause-gives : goal.returns-in-Ok-clause-gives
returns-in-Ok-clause-gives g c told =
    let n = c.args.len in
    let p = c.args.position in
    let long = c.if-len-le-PAYLOAD.false in
    let inside = c.requires.within in
    let more = frames_more n (omega (arith, long)) in
    let some = frames_some (n - 1376) (omega (arith, long)) in
    let next : (p + 1408) % 65536 ≡ p % 65536 + 1408 = omega (arith, inside, more, some.0) in
    let told1 = subst IsTrue (sym c.read_fragment-2.ensures.tells) told in
    let files = c.read_fragment-2.ensures.files told (2 + c.args.segment) in
    let bytes = ((g.D.Disk.state c.args.disk.now).files (2 + c.args.segment)).reads in
    mapped (Unit {0}) MemberFault _ _ c.read_later.result
    (λ puts. puts_both (frame p 0x5A 0x80 false) (later_frames n (p + 1408)) (entry_frames p) 1376 1408 n (omega (arith, long)) (full p)
    (λ v len. long_entry p v (omega (arith, len, long)) ∙ ap (λ k. frame p 0x5A 0x80 false (take 1376 v) ++ later_frames k (p + 1408) (drop 1376 v)) len) bytes (p % 65536) c.args.out.now.items c.read_fragment-2.new.out.items c.read_later.new.out.items (c.in-Ok.ensures.gives told)
    (subst (λ k. Puts (later_frames n (p + 1408)) bytes k (n - 1376) c.read_fragment-2.new.out.items c.read_later.new.out.items) next
    (subst (λ (x : FileState). Puts (later_frames n (p + 1408)) x.reads ((p + 1408) % 65536) (n - 1376) c.read_fragment-2.new.out.items c.read_later.new.out.items) files puts)))
    (c.read_later.ensures.gives told1)

pub returns-in-Ok-clause-damaged : goal.returns-in-Ok-clause-damaged
returns-in-Ok-clause-damaged g c told file place same =
    let n = c.args.len in
    let p = c.args.position in
    let long = c.if-len-le-PAYLOAD.false in
    let inside = c.requires.within in
    let more = frames_more n (omega (arith, long)) in
    let some = frames_some (n - 1376) (omega (arith, long)) in
    let next : (p + 1408) % 65536 ≡ p % 65536 + 1408 = omega (arith, inside, more, some.0) in
    let told1 = subst IsTrue (sym c.read_fragment-2.ensures.tells) told in
    let files = c.read_fragment-2.ensures.files told (2 + c.args.segment) in
    let bytes = ((g.D.Disk.state c.args.disk.now).files (2 + c.args.segment)).reads in
    let one_read = c.in-Ok.ensures.gives told in
    let wrong = c.read_later.ensures.damaged told1 file place same in
    let rest = later_frames n (p + 1408) in
    let size = frames_len (n - 1376) in
    let here = subst (λ k. IsWrongAt rest bytes k (n - 1376) size place) next (subst (λ (x : FileState). IsWrongAt rest x.reads ((p + 1408) % 65536) (n - 1376) size place) files wrong.1) in (
      wrong.0,
      subst (λ k. IsWrongAt (entry_frames p) bytes (p % 65536) n k place) (sym more)
          (wrong_rest (frame p 0x5A 0x80 false) rest (entry_frames p) 1376 1408 n (omega (arith, long)) (full p) (λ v len. long_entry p v (omega (arith, len, long)) ∙ ap (λ k. frame p 0x5A 0x80 false (take 1376 v) ++ later_frames k (p + 1408) (drop 1376 v)) len) bytes (p % 65536)
          one_read.body one_read.size one_read.stands size place here),
    )

pub returns-in-Err-clause-damaged : goal.returns-in-Err-clause-damaged
returns-in-Err-clause-damaged g c told file place same =
    let n = c.args.len in
    let p = c.args.position in
    let long = c.if-len-le-PAYLOAD.false in
    let more = frames_more n (omega (arith, long)) in
    let bytes = ((g.D.Disk.state c.args.disk.now).files (2 + c.args.segment)).reads in
    let wrong = c.in-Err.ensures.damaged told file place same in
    let rest = later_frames n (p + 1408) in
    let size = frames_len (n - 1376) in (
      wrong.0,
      subst (λ k. IsWrongAt (entry_frames p) bytes (p % 65536) n k place) (sym more)
          (wrong_first (frame p 0x5A 0x80 false) rest (entry_frames p) 1376 1408 n (omega (arith, long)) (full p) (λ v len. long_entry p v (omega (arith, len, long)) ∙ ap (λ k. frame p 0x5A 0x80 false (take 1376 v) ++ later_frames k (p + 1408) (drop 1376 v)) len) bytes (p % 65536) size place wrong.1),
    )

pub returns-in-Ok-clause-looked : goal.returns-in-Ok-clause-looked
returns-in-Ok-clause-looked g c = looked_then g.met.D.Disk.honest_tells c.in-Ok.ensures.looked c.read_later.ensures.looked
