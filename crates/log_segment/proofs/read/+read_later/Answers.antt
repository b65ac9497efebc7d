-- The last frame, or a middle one and those behind it.
use Rattle.std.proofs.Common.{◌≡◌, ℕ, ◌+◌, ◌-◌, ◌%◌, ◌≤◌, List, length, false, IsTrue, sym, ◌∙◌, ap, subst, arith, rules}
use Rattle.cl_base.specs.Disk.{FileState}
use Rattle.wire_prims.specs.Header.{aligned_to}
use Rattle.wire_prims.specs.Frames.{frame}
use Rattle.entry_log.specs.Log.{frames_len}
use Rattle.log_segment.specs.Segment.{later_frames}
use Rattle.log_segment.specs.Reads.{IsWrongAt, Puts}
use Rattle.log_segment.proofs.FrameLens.{frames_small, frames_more, frames_some, length-frame}
use Rattle.log_segment.proofs.SpellLemmas.{mapped, short_later, long_later}
use Rattle.log_segment.proofs.EntryReads.{wrong_first, wrong_rest, puts_both, puts_as, wrong_as}
use Rattle.cl_base.specs.declared.fault.MemberFault.{MemberFault}
use Rattle.log_segment.proofs.read.+read_later.Goals.{then-more-eq0-via-then-more-eq0, then-more-eq0-via-else-more-eq0+then-left-le-PAYLOAD}
use Rattle.log_segment.proofs.LookLemmas.{looked_then}
use Rattle.log_segment.proofs.read.+read_later.Goals as goal

full : (p : ℕ) (b : List ℕ) → length b ≡ 1376 → length (frame p 0x5A 0 false b) ≡ 1408
full p b size = length-frame p 0x5A 0 false b ∙ ap (λ k. aligned_to (32 + k)) size

pub returns-then-more-eq0-clause-gives : goal.returns-then-more-eq0-clause-gives
returns-then-more-eq0-clause-gives g t c told =
    let n = c.args.left in
    let p = c.args.position in
    let short : n ≤ 1376 = elim c.then-more-eq0.branch [
      | then-more-eq0-via-then-more-eq0 w ↦ (let few = c.requires.few in let none = w.if-more-eq0.true in omega (arith, few, none))
      | then-more-eq0-via-else-more-eq0+then-left-le-PAYLOAD w ↦ w.if-left-le-PAYLOAD.true
    ] in
    mapped (Unit {0}) MemberFault _ _ c.read_fragment.result
    (puts_as (frame p 0x5A 0x40 false) (later_frames c.args.more p) ((g.D.Disk.state c.args.disk.now).files (2 + c.args.segment)).reads (p % 65536) n (λ v len. sym (short_later c.args.more p v (omega (arith, len, short)))) c.args.out.now.items c.read_fragment.new.out.items)
    (c.read_fragment.ensures.gives told)

pub returns-then-more-eq0-clause-damaged : goal.returns-then-more-eq0-clause-damaged
returns-then-more-eq0-clause-damaged g t c told file place same =
    let n = c.args.left in
    let p = c.args.position in
    let short : n ≤ 1376 = elim c.then-more-eq0.branch [
      | then-more-eq0-via-then-more-eq0 w ↦ (let few = c.requires.few in let none = w.if-more-eq0.true in omega (arith, few, none))
      | then-more-eq0-via-else-more-eq0+then-left-le-PAYLOAD w ↦ w.if-left-le-PAYLOAD.true
    ] in
    let wrong = c.read_fragment.ensures.damaged told file place same in (
      wrong.0,
      wrong_as (frame p 0x5A 0x40 false) (later_frames c.args.more p) ((g.D.Disk.state c.args.disk.now).files (2 + c.args.segment)).reads (p % 65536) n (λ v len. sym (short_later c.args.more p v (omega (arith, len, short))))
          (aligned_to (32 + n)) (frames_len n) place (sym (frames_small n c.requires.some short)) wrong.1,
    )

pub read_later-requires : goal.read_later-requires
read_later-requires g t c κs within =
    let n = c.args.left in
    let p = c.args.position in
    let long = c.if-left-le-PAYLOAD.false in
    let few = c.requires.few in
    let inside = c.requires.within in
    let aligned = c.requires.place in
    let below = c.requires.below in
    let more = frames_more n (omega (arith, long)) in
    let some = frames_some (n - 1376) (omega (arith, long)) in
    let one = c.if-more-eq0.false in
    let next : (p + 1408) % 65536 ≡ p % 65536 + 1408 = omega (arith, inside, more, some.0) in (
      search rules,
      (
        within,
        (
          c.requires.segment,
          (
            omega (arith, long),
            (
              omega (arith, few, one),
              (
                omega (arith, aligned),
                (
                  omega (arith, below, inside, more, some.0),
                  (
                    omega (arith, next, inside, more),
                    λ told1.
                        let told : IsTrue (g.D.Disk.tells c.args.disk.now) = subst IsTrue c.read_fragment-2.ensures.tells told1 in
                        let one_read = c.in-Ok.ensures.gives told in
                        let fits = one_read.stands.fits in
                        let len = full p one_read.body one_read.size in
                        let files = ap (λ (x : FileState). length x.reads) (c.read_fragment-2.ensures.files told (2 + c.args.segment)) in
                        omega (arith, fits, len, files, next),
                  ),
                ),
              ),
            ),
          ),
        ),
      ),
    )

pub returns-in-Ok-clause-gives : goal.returns-in-Ok-clause-gives
returns-in-Ok-clause-gives g t c told =
    let n = c.args.left in
    let p = c.args.position in
    let long = c.if-left-le-PAYLOAD.false in
    let inside = c.requires.within in
    let more = frames_more n (omega (arith, long)) in
    let some = frames_some (n - 1376) (omega (arith, long)) in
    let one = c.if-more-eq0.false in
    let next : (p + 1408) % 65536 ≡ p % 65536 + 1408 = omega (arith, inside, more, some.0) in
    let told1 = subst IsTrue (sym c.read_fragment-2.ensures.tells) told in
    let files = c.read_fragment-2.ensures.files told (2 + c.args.segment) in
    let bytes = ((g.D.Disk.state c.args.disk.now).files (2 + c.args.segment)).reads in
    mapped (Unit {0}) MemberFault _ _ c.read_later.result
    (λ puts. puts_both (frame p 0x5A 0 false) (later_frames (c.args.more - 1) (p + 1408)) (later_frames c.args.more p) 1376 1408 n (omega (arith, long)) (full p)
    (λ v len. long_later c.args.more p v (omega (arith, one)) (omega (arith, len, long))) bytes (p % 65536) c.args.out.now.items c.read_fragment-2.new.out.items c.read_later.new.out.items (c.in-Ok.ensures.gives told)
    (subst (λ k. Puts (later_frames (c.args.more - 1) (p + 1408)) bytes k (n - 1376) c.read_fragment-2.new.out.items c.read_later.new.out.items) next
    (subst (λ (x : FileState). Puts (later_frames (c.args.more - 1) (p + 1408)) x.reads ((p + 1408) % 65536) (n - 1376) c.read_fragment-2.new.out.items c.read_later.new.out.items) files puts)))
    (c.read_later.ensures.gives told1)

pub returns-in-Ok-clause-damaged : goal.returns-in-Ok-clause-damaged
returns-in-Ok-clause-damaged g t c told file place same =
    let n = c.args.left in
    let p = c.args.position in
    let long = c.if-left-le-PAYLOAD.false in
    let inside = c.requires.within in
    let more = frames_more n (omega (arith, long)) in
    let some = frames_some (n - 1376) (omega (arith, long)) in
    let one = c.if-more-eq0.false in
    let next : (p + 1408) % 65536 ≡ p % 65536 + 1408 = omega (arith, inside, more, some.0) in
    let told1 = subst IsTrue (sym c.read_fragment-2.ensures.tells) told in
    let files = c.read_fragment-2.ensures.files told (2 + c.args.segment) in
    let bytes = ((g.D.Disk.state c.args.disk.now).files (2 + c.args.segment)).reads in
    let one_read = c.in-Ok.ensures.gives told in
    let wrong = c.read_later.ensures.damaged told1 file place same in
    let rest = later_frames (c.args.more - 1) (p + 1408) in
    let size = frames_len (n - 1376) in
    let here = subst (λ k. IsWrongAt rest bytes k (n - 1376) size place) next (subst (λ (x : FileState). IsWrongAt rest x.reads ((p + 1408) % 65536) (n - 1376) size place) files wrong.1) in (
      wrong.0,
      subst (λ k. IsWrongAt (later_frames c.args.more p) bytes (p % 65536) n k place) (sym more)
          (wrong_rest (frame p 0x5A 0 false) rest (later_frames c.args.more p) 1376 1408 n (omega (arith, long)) (full p) (λ v len. long_later c.args.more p v (omega (arith, one)) (omega (arith, len, long))) bytes (p % 65536)
          one_read.body one_read.size one_read.stands size place here),
    )

pub returns-in-Err-clause-damaged : goal.returns-in-Err-clause-damaged
returns-in-Err-clause-damaged g t c told file place same =
    let n = c.args.left in
    let p = c.args.position in
    let long = c.if-left-le-PAYLOAD.false in
    let more = frames_more n (omega (arith, long)) in
    let one = c.if-more-eq0.false in
    let bytes = ((g.D.Disk.state c.args.disk.now).files (2 + c.args.segment)).reads in
    let wrong = c.in-Err.ensures.damaged told file place same in
    let rest = later_frames (c.args.more - 1) (p + 1408) in
    let size = frames_len (n - 1376) in (
      wrong.0,
      subst (λ k. IsWrongAt (later_frames c.args.more p) bytes (p % 65536) n k place) (sym more)
          (wrong_first (frame p 0x5A 0 false) rest (later_frames c.args.more p) 1376 1408 n (omega (arith, long)) (full p) (λ v len. long_later c.args.more p v (omega (arith, one)) (omega (arith, len, long))) bytes (p % 65536) size place wrong.1),
    )

pub returns-in-Ok-clause-looked : goal.returns-in-Ok-clause-looked
returns-in-Ok-clause-looked g t c = looked_then g.met.D.Disk.honest_tells c.in-Ok.ensures.looked c.read_later.ensures.looked
