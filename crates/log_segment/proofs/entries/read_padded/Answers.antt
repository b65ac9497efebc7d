use Rattle.std.proofs.Common.{ℕ, ℤ, to_z, of_z, w64, ◌≡◌, IsTrue, refl, ◌+◌, ◌-◌, ◌/◌, ◌%◌, ◌<◌, ◌≤◌, ◌≤ℤ◌, length, sym, ◌∙◌, ap, subst, arith}
use Rattle.std.proofs.lemmas.Int.{ints}
use Rattle.cl_base.specs.declared.entry.Entry.{Entry}
use Rattle.entry_log.specs.Log.{end_after, frames_len}
use Rattle.log_segment.specs.Held.{IsEventEntry}
use Rattle.log_segment.proofs.LookLemmas.{looked_then, looked_ok, looked_err, if_ok, if_both}
use Rattle.cl_base.specs.Disk.{FileState}
use Rattle.log_segment.specs.Found.{FoundFits}
use Rattle.log_segment.specs.Segment.{IsAt, EventIn, entry_frames, begin_at}
use Rattle.log_segment.proofs.PadLemmas.{pad_begins, pad_ends}
use Rattle.log_segment.proofs.FrameLens.{frames_some}
use Rattle.log_segment.proofs.LogReads.{frames_bound}
use Rattle.log_segment.proofs.HeldLemmas.{ranged}
use Rattle.log_segment.proofs.FoundLemmas.{same_event, short_event, closed_event, pad_event}
use Rattle.log_segment.proofs.MountLemmas.{padded_frames, padded_stands}
use Rattle.log_segment.proofs.EntryLemmas.{end_padded}
use Rattle.log_segment.proofs.entries.read_padded.Goals as goal

pub returns-else-frames_size-room-clause-entry : goal.returns-else-frames_size-room-clause-entry
returns-else-frames_size-room-clause-entry g c =
    let room = 65536 - c.args.pad % 65536 in
    let n = c.in-Ok-Event.len in
    let fits = (subst (FoundFits (c.args.pad + (65536 - c.args.pad % 65536))) c.in-Ok-Event.field-0-is c.in-Ok-Event.ensures.fits).0 in
    let long : room < frames_len n = omega (arith, c.frames_size.ensures, c.if-frames_size-room.false) in
    let z : to_z w64 (of_z w64 c.args.last_term) ≡ c.args.last_term = omega (arith, ints) in
    if_ok (λ (e : Entry). IsEventEntry e × (length e.bytes ≡ n) × (to_z w64 (of_z w64 c.args.last_term) ≤ℤ e.term)) (λ (e : Entry). IsEventEntry e × (c.args.last_term ≤ℤ e.term) × (end_after c.args.pad (length e.bytes) ≤ 16777216)) c.read_found.result
    (λ e is. (is.0, subst (λ (t : ℤ). t ≤ℤ e.term) z is.2, subst (λ k. end_after c.args.pad k ≤ 16777216) (sym is.1) (end_padded c.args.pad n (omega (arith, c.if-position-ge-LOG_LIMIT.false)) long (omega (arith, fits))))) c.read_found.ensures.entry

pub returns-else-frames_size-room-clause-looked : goal.returns-else-frames_size-room-clause-looked
returns-else-frames_size-room-clause-looked g c = looked_then g.met.D.Disk.honest_tells c.in-Ok-Event.ensures.looked c.read_found.ensures.looked

pub returns-then-frames_size-room-clause-looked : goal.returns-then-frames_size-room-clause-looked
returns-then-frames_size-room-clause-looked g c = looked_ok c.in-Ok-Event.ensures.looked tt

pub returns-then-position-ge-LOG_LIMIT-clause-exact : goal.returns-then-position-ge-LOG_LIMIT-clause-exact
returns-then-position-ge-LOG_LIMIT-clause-exact g c told e is high long room event =
    let n = length e.bytes in
    let least = (ranged e is).least in
    let frames = frames_some n (omega (arith, least)) in
    let ends = pad_ends c.args.pad n (c.args.pad + (65536 - c.args.pad % 65536)) long refl in
    absurd (omega (arith, ends, frames.0, room, c.if-position-ge-LOG_LIMIT.true))

pub returns-then-frames_size-room-clause-exact : goal.returns-then-frames_size-room-clause-exact
returns-then-frames_size-room-clause-exact g c told e is high long room event =
    let p = c.args.pad in
    let n = length e.bytes in
    let q = p + (65536 - p % 65536) in
    let least = (ranged e is).least in
    let most = (ranged e is).most in
    let frames = frames_some n (omega (arith, least)) in
    let bound = frames_bound n (omega (arith, most)) in
    let ends = pad_ends p n q long refl in
    let begins = pad_begins p n q long refl in
    let there = subst (λ b. IsAt (q % 65536) (entry_frames q e.bytes) ((g.D.Disk.state c.args.disk.now).files (2 + b / 65536)).reads) begins (padded_frames p n e.bytes ((g.D.Disk.state c.args.disk.now).files (2 + begin_at p n / 65536)).reads refl long event) in
    let shown = subst (λ k. IsAt (q % 65536) (entry_frames q e.bytes) ((g.D.Disk.state c.args.disk.now).files (2 + k)).reads) (sym c.segment_at.ensures) there in
    let inside : q % 65536 + frames_len n ≤ 65536 = omega (arith, bound) in
    let same = same_event c.in-Ok-Event.len n (sym c.in-Ok-Event.field-0-is ∙ c.in-Ok-Event.ensures.event told e.bytes (omega (arith, least)) inside shown) in
    absurd (omega (arith, long, ap frames_len same, c.frames_size.ensures, c.if-frames_size-room.true))

pub returns-else-frames_size-room-clause-exact : goal.returns-else-frames_size-room-clause-exact
returns-else-frames_size-room-clause-exact g c told e is high long room event =
    let p = c.args.pad in
    let n = length e.bytes in
    let q = p + (65536 - p % 65536) in
    let least = (ranged e is).least in
    let most = (ranged e is).most in
    let frames = frames_some n (omega (arith, least)) in
    let bound = frames_bound n (omega (arith, most)) in
    let ends = pad_ends p n q long refl in
    let begins = pad_begins p n q long refl in
    let there = subst (λ b. IsAt (q % 65536) (entry_frames q e.bytes) ((g.D.Disk.state c.args.disk.now).files (2 + b / 65536)).reads) begins (padded_frames p n e.bytes ((g.D.Disk.state c.args.disk.now).files (2 + begin_at p n / 65536)).reads refl long event) in
    let shown = subst (λ k. IsAt (q % 65536) (entry_frames q e.bytes) ((g.D.Disk.state c.args.disk.now).files (2 + k)).reads) (sym c.segment_at.ensures) there in
    let inside : q % 65536 + frames_len n ≤ 65536 = omega (arith, bound) in
    let same = same_event c.in-Ok-Event.len n (sym c.in-Ok-Event.field-0-is ∙ c.in-Ok-Event.ensures.event told e.bytes (omega (arith, least)) inside shown) in
    let z : to_z w64 (of_z w64 c.args.last_term) ≡ c.args.last_term = omega (arith, ints) in
    let now : ((g.D.Disk.state c.look_at.new.disk).files (2 + q / 65536)).reads ≡ ((g.D.Disk.state c.args.disk.now).files (2 + q / 65536)).reads = ap (λ (x : FileState). x.reads) ((c.in-Ok-Event.ensures.looked.looks told).files (2 + q / 65536)) in
    c.read_found.ensures.exact (subst IsTrue (sym c.in-Ok-Event.ensures.looked.tells_same) told) e is (sym same) (subst (λ (t : ℤ). t ≤ℤ e.term) (sym z) high) (subst (λ l. IsAt (q % 65536) (entry_frames q e.bytes) l) (sym now) there)

pub returns-in-Ok-Short-clause-exact : goal.returns-in-Ok-Short-clause-exact
returns-in-Ok-Short-clause-exact g c told e is high long room event =
    let p = c.args.pad in
    let n = length e.bytes in
    let q = p + (65536 - p % 65536) in
    let least = (ranged e is).least in
    let most = (ranged e is).most in
    let frames = frames_some n (omega (arith, least)) in
    let bound = frames_bound n (omega (arith, most)) in
    let ends = pad_ends p n q long refl in
    let begins = pad_begins p n q long refl in
    let there = subst (λ b. IsAt (q % 65536) (entry_frames q e.bytes) ((g.D.Disk.state c.args.disk.now).files (2 + b / 65536)).reads) begins (padded_frames p n e.bytes ((g.D.Disk.state c.args.disk.now).files (2 + begin_at p n / 65536)).reads refl long event) in
    let shown = subst (λ k. IsAt (q % 65536) (entry_frames q e.bytes) ((g.D.Disk.state c.args.disk.now).files (2 + k)).reads) (sym c.segment_at.ensures) there in
    let inside : q % 65536 + frames_len n ≤ 65536 = omega (arith, bound) in
    absurd (short_event n (sym c.in-Ok-Short.field-0-is ∙ c.in-Ok-Short.ensures.event told e.bytes (omega (arith, least)) inside shown))

pub returns-in-Ok-Closed-clause-exact : goal.returns-in-Ok-Closed-clause-exact
returns-in-Ok-Closed-clause-exact g c told e is high long room event =
    let p = c.args.pad in
    let n = length e.bytes in
    let q = p + (65536 - p % 65536) in
    let least = (ranged e is).least in
    let most = (ranged e is).most in
    let frames = frames_some n (omega (arith, least)) in
    let bound = frames_bound n (omega (arith, most)) in
    let ends = pad_ends p n q long refl in
    let begins = pad_begins p n q long refl in
    let there = subst (λ b. IsAt (q % 65536) (entry_frames q e.bytes) ((g.D.Disk.state c.args.disk.now).files (2 + b / 65536)).reads) begins (padded_frames p n e.bytes ((g.D.Disk.state c.args.disk.now).files (2 + begin_at p n / 65536)).reads refl long event) in
    let shown = subst (λ k. IsAt (q % 65536) (entry_frames q e.bytes) ((g.D.Disk.state c.args.disk.now).files (2 + k)).reads) (sym c.segment_at.ensures) there in
    let inside : q % 65536 + frames_len n ≤ 65536 = omega (arith, bound) in
    absurd (closed_event n (sym c.in-Ok-Closed.field-0-is ∙ c.in-Ok-Closed.ensures.event told e.bytes (omega (arith, least)) inside shown))

pub returns-in-Ok-Pad-clause-exact : goal.returns-in-Ok-Pad-clause-exact
returns-in-Ok-Pad-clause-exact g c told e is high long room event =
    let p = c.args.pad in
    let n = length e.bytes in
    let q = p + (65536 - p % 65536) in
    let least = (ranged e is).least in
    let most = (ranged e is).most in
    let frames = frames_some n (omega (arith, least)) in
    let bound = frames_bound n (omega (arith, most)) in
    let ends = pad_ends p n q long refl in
    let begins = pad_begins p n q long refl in
    let there = subst (λ b. IsAt (q % 65536) (entry_frames q e.bytes) ((g.D.Disk.state c.args.disk.now).files (2 + b / 65536)).reads) begins (padded_frames p n e.bytes ((g.D.Disk.state c.args.disk.now).files (2 + begin_at p n / 65536)).reads refl long event) in
    let shown = subst (λ k. IsAt (q % 65536) (entry_frames q e.bytes) ((g.D.Disk.state c.args.disk.now).files (2 + k)).reads) (sym c.segment_at.ensures) there in
    let inside : q % 65536 + frames_len n ≤ 65536 = omega (arith, bound) in
    absurd (pad_event n (sym c.in-Ok-Pad.field-0-is ∙ c.in-Ok-Pad.ensures.event told e.bytes (omega (arith, least)) inside shown))

pub returns-in-Err-clause-exact : goal.returns-in-Err-clause-exact
returns-in-Err-clause-exact g c told e is high long room event =
    let p = c.args.pad in
    let n = length e.bytes in
    let q = p + (65536 - p % 65536) in
    let least = (ranged e is).least in
    let most = (ranged e is).most in
    let frames = frames_some n (omega (arith, least)) in
    let bound = frames_bound n (omega (arith, most)) in
    let ends = pad_ends p n q long refl in
    let begins = pad_begins p n q long refl in
    let there = subst (λ b. IsAt (q % 65536) (entry_frames q e.bytes) ((g.D.Disk.state c.args.disk.now).files (2 + b / 65536)).reads) begins (padded_frames p n e.bytes ((g.D.Disk.state c.args.disk.now).files (2 + begin_at p n / 65536)).reads refl long event) in
    let shown = subst (λ k. IsAt (q % 65536) (entry_frames q e.bytes) ((g.D.Disk.state c.args.disk.now).files (2 + k)).reads) (sym c.segment_at.ensures) there in
    let inside : q % 65536 + frames_len n ≤ 65536 = omega (arith, bound) in
    c.in-Err.ensures.event told e.bytes (omega (arith, least)) inside shown

pub returns-in-Err-clause-looked : goal.returns-in-Err-clause-looked
returns-in-Err-clause-looked g c = looked_err c.in-Err.ensures.looked

pub returns-else-frames_size-room-clause-stands : goal.returns-else-frames_size-room-clause-stands
returns-else-frames_size-room-clause-stands g c told =
    let p = c.args.pad in
    let q = p + (65536 - p % 65536) in
    let n = c.in-Ok-Event.len in
    let f0 = (g.D.Disk.state c.args.disk.now).files in
    let f1 = (g.D.Disk.state c.look_at.new.disk).files in
    let long : 65536 - p % 65536 < frames_len n = omega (arith, c.frames_size.ensures, c.if-frames_size-room.false) in
    let now : (f1 (2 + q / 65536)).reads ≡ (f0 (2 + q / 65536)).reads = ap (λ (x : FileState). x.reads) ((c.in-Ok-Event.ensures.looked.looks told).files (2 + q / 65536)) in
    if_both (λ (e : Entry). IsEventEntry e × (length e.bytes ≡ n) × (to_z w64 (of_z w64 c.args.last_term) ≤ℤ e.term)) (λ (e : Entry). IsAt (q % 65536) (entry_frames q e.bytes) (f1 (2 + q / 65536)).reads) (λ (e : Entry). (s : ℕ) → s < 256 → EventIn s (f0 (2 + s)).reads p e.bytes) c.read_found.result
    (λ e is there. padded_stands p e.bytes (λ f. (f0 f).reads) (subst (λ k. 65536 - p % 65536 < frames_len k) (sym is.1) long) (c.requires.stands told) (subst (λ l. IsAt (q % 65536) (entry_frames q e.bytes) l) now there))
    c.read_found.ensures.entry (c.read_found.ensures.stands (subst IsTrue (sym c.in-Ok-Event.ensures.looked.tells_same) told))
