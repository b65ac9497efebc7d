use Rattle.std.proofs.Common.{ℤ, ◌≤ℤ◌, to_z, of_z, w64, ◌≡◌, inl, inr, ℕ, IsTrue, ◌+◌, ◌-◌, ◌/◌, ◌%◌, ◌≤◌, length, sym, ◌∙◌, ap, subst, arith}
use Rattle.std.proofs.lemmas.Int.{ints}
use Rattle.entry_log.specs.Log.{end_after, frames_len}
use Rattle.log_segment.proofs.LookLemmas.{looked_then, looked_ok, looked_err}
use Rattle.std.proofs.lemmas.Bool.{cases_lt}
use Rattle.cl_base.specs.Disk.{FileState}
use Rattle.log_segment.specs.Found.{FoundFits}
use Rattle.log_segment.specs.Segment.{IsAt, EventIn, entry_frames, begin_at}
use Rattle.log_segment.proofs.HeldLemmas.{ranged}
use Rattle.log_segment.proofs.FoundLemmas.{same_event, short_event, closed_event, pad_event, short_pad, closed_pad, event_pad, short_closed, pad_closed, event_closed}
use Rattle.log_segment.proofs.MountLemmas.{fits_frames, pad_before, padded_in, some_of}
use Rattle.log_segment.proofs.EntryLemmas.{end_within}
use Rattle.log_segment.proofs.entries.read_next.Goals as goal

pub returns-in-Err-ends_early-clause-looked : goal.returns-in-Err-ends_early-clause-looked
returns-in-Err-ends_early-clause-looked g c = looked_err (looked_then g.met.D.Disk.honest_tells c.in-Ok-Short.ensures.looked c.in-Err-ends_early.ensures.looked)

pub returns-in-Ok-read_padded-clause-looked : goal.returns-in-Ok-read_padded-clause-looked
returns-in-Ok-read_padded-clause-looked g c = looked_ok (looked_then g.met.D.Disk.honest_tells c.in-Ok-Pad.ensures.looked c.in-Ok-read_padded.ensures.looked) tt

pub returns-in-Err-read_padded-clause-looked : goal.returns-in-Err-read_padded-clause-looked
returns-in-Err-read_padded-clause-looked g c = looked_err (looked_then g.met.D.Disk.honest_tells c.in-Ok-Pad.ensures.looked c.in-Err-read_padded.ensures.looked)

pub returns-in-Ok-read_found-clause-looked : goal.returns-in-Ok-read_found-clause-looked
returns-in-Ok-read_found-clause-looked g c = looked_ok (looked_then g.met.D.Disk.honest_tells c.in-Ok-Event.ensures.looked c.in-Ok-read_found.ensures.looked) tt

pub returns-in-Err-read_found-clause-looked : goal.returns-in-Err-read_found-clause-looked
returns-in-Err-read_found-clause-looked g c = looked_err (looked_then g.met.D.Disk.honest_tells c.in-Ok-Event.ensures.looked c.in-Err-read_found.ensures.looked)

pub returns-in-Ok-read_found-clause-entry : goal.returns-in-Ok-read_found-clause-entry
returns-in-Ok-read_found-clause-entry g c =
    let parts = c.in-Ok-read_found.ensures.entry in
    let fits = (subst (FoundFits c.args.place) c.in-Ok-Event.field-0-is c.in-Ok-Event.ensures.fits).0 in (
      parts.0,
      subst (λ (t : ℤ). t ≤ℤ c.in-Ok-read_found.entry.term) (omega (arith, ints)) parts.2,
      subst (λ n. end_after c.args.place n ≤ 16777216) (sym parts.1) (end_within c.args.place c.in-Ok-Event.len c.requires.below fits),
    )

pub returns-in-Err-ends_early-clause-exact : goal.returns-in-Err-ends_early-clause-exact
returns-in-Err-ends_early-clause-exact g c told e is high room events =
    let p = c.args.place in
    let n = length e.bytes in
    let reads = λ (f : ℕ). ((g.D.Disk.state c.args.disk.now).files f).reads in
    let z : to_z w64 (of_z w64 c.args.last_term) ≡ c.args.last_term = omega (arith, ints) in
    elim (cases_lt (65536 - p % 65536) (frames_len n)) [
      | inl long ↦ absurd (short_pad (sym c.in-Ok-Short.field-0-is ∙ c.in-Ok-Short.ensures.pad told (pad_before p e is c.requires.below room reads events long)))
      | inr fits ↦ let least = (ranged e is).least in let at = fits_frames p e is c.requires.below room reads events fits in absurd (short_event n (sym c.in-Ok-Short.field-0-is ∙ c.in-Ok-Short.ensures.event told e.bytes (omega (arith, least)) at.0 at.1))
    ]

pub returns-in-Ok-Closed-clause-exact : goal.returns-in-Ok-Closed-clause-exact
returns-in-Ok-Closed-clause-exact g c told e is high room events =
    let p = c.args.place in
    let n = length e.bytes in
    let reads = λ (f : ℕ). ((g.D.Disk.state c.args.disk.now).files f).reads in
    let z : to_z w64 (of_z w64 c.args.last_term) ≡ c.args.last_term = omega (arith, ints) in
    elim (cases_lt (65536 - p % 65536) (frames_len n)) [
      | inl long ↦ absurd (closed_pad (sym c.in-Ok-Closed.field-0-is ∙ c.in-Ok-Closed.ensures.pad told (pad_before p e is c.requires.below room reads events long)))
      | inr fits ↦ let least = (ranged e is).least in let at = fits_frames p e is c.requires.below room reads events fits in absurd (closed_event n (sym c.in-Ok-Closed.field-0-is ∙ c.in-Ok-Closed.ensures.event told e.bytes (omega (arith, least)) at.0 at.1))
    ]

pub returns-in-Ok-read_padded-clause-exact : goal.returns-in-Ok-read_padded-clause-exact
returns-in-Ok-read_padded-clause-exact g c told e is high room events =
    let p = c.args.place in
    let n = length e.bytes in
    let reads = λ (f : ℕ). ((g.D.Disk.state c.args.disk.now).files f).reads in
    let z : to_z w64 (of_z w64 c.args.last_term) ≡ c.args.last_term = omega (arith, ints) in
    elim (cases_lt (65536 - p % 65536) (frames_len n)) [
      | inl long ↦ let now : ((g.D.Disk.state c.look_at.new.disk).files (2 + begin_at p n / 65536)).reads ≡ reads (2 + begin_at p n / 65536) = ap (λ (x : FileState). x.reads) ((c.in-Ok-Pad.ensures.looked.looks told).files (2 + begin_at p n / 65536)) in ap some_of (c.in-Ok-read_padded.ensures.exact (subst IsTrue (sym c.in-Ok-Pad.ensures.looked.tells_same) told) e is (subst (λ (t : ℤ). t ≤ℤ e.term) (sym z) high) long room (subst (λ l. EventIn (begin_at p n / 65536) l p e.bytes) (sym now) (padded_in p e is c.requires.below room reads events long)))
      | inr fits ↦ let least = (ranged e is).least in let at = fits_frames p e is c.requires.below room reads events fits in absurd (pad_event n (sym c.in-Ok-Pad.field-0-is ∙ c.in-Ok-Pad.ensures.event told e.bytes (omega (arith, least)) at.0 at.1))
    ]

pub returns-in-Err-read_padded-clause-exact : goal.returns-in-Err-read_padded-clause-exact
returns-in-Err-read_padded-clause-exact g c told e is high room events =
    let p = c.args.place in
    let n = length e.bytes in
    let reads = λ (f : ℕ). ((g.D.Disk.state c.args.disk.now).files f).reads in
    let z : to_z w64 (of_z w64 c.args.last_term) ≡ c.args.last_term = omega (arith, ints) in
    elim (cases_lt (65536 - p % 65536) (frames_len n)) [
      | inl long ↦ let now : ((g.D.Disk.state c.look_at.new.disk).files (2 + begin_at p n / 65536)).reads ≡ reads (2 + begin_at p n / 65536) = ap (λ (x : FileState). x.reads) ((c.in-Ok-Pad.ensures.looked.looks told).files (2 + begin_at p n / 65536)) in c.in-Err-read_padded.ensures.exact (subst IsTrue (sym c.in-Ok-Pad.ensures.looked.tells_same) told) e is (subst (λ (t : ℤ). t ≤ℤ e.term) (sym z) high) long room (subst (λ l. EventIn (begin_at p n / 65536) l p e.bytes) (sym now) (padded_in p e is c.requires.below room reads events long))
      | inr fits ↦ let least = (ranged e is).least in let at = fits_frames p e is c.requires.below room reads events fits in absurd (pad_event n (sym c.in-Ok-Pad.field-0-is ∙ c.in-Ok-Pad.ensures.event told e.bytes (omega (arith, least)) at.0 at.1))
    ]

pub returns-in-Ok-read_found-clause-exact : goal.returns-in-Ok-read_found-clause-exact
returns-in-Ok-read_found-clause-exact g c told e is high room events =
    let p = c.args.place in
    let n = length e.bytes in
    let reads = λ (f : ℕ). ((g.D.Disk.state c.args.disk.now).files f).reads in
    let z : to_z w64 (of_z w64 c.args.last_term) ≡ c.args.last_term = omega (arith, ints) in
    elim (cases_lt (65536 - p % 65536) (frames_len n)) [
      | inl long ↦ absurd (event_pad c.in-Ok-Event.len (sym c.in-Ok-Event.field-0-is ∙ c.in-Ok-Event.ensures.pad told (pad_before p e is c.requires.below room reads events long)))
      | inr fits ↦ let least = (ranged e is).least in let at = fits_frames p e is c.requires.below room reads events fits in let now : ((g.D.Disk.state c.look_at.new.disk).files (2 + p / 65536)).reads ≡ reads (2 + p / 65536) = ap (λ (x : FileState). x.reads) ((c.in-Ok-Event.ensures.looked.looks told).files (2 + p / 65536)) in let size = same_event c.in-Ok-Event.len n (sym c.in-Ok-Event.field-0-is ∙ c.in-Ok-Event.ensures.event told e.bytes (omega (arith, least)) at.0 at.1) in ap some_of (c.in-Ok-read_found.ensures.exact (subst IsTrue (sym c.in-Ok-Event.ensures.looked.tells_same) told) e is (sym size) (subst (λ (t : ℤ). t ≤ℤ e.term) (sym z) high) (subst (λ l. IsAt (p % 65536) (entry_frames p e.bytes) l) (sym now) at.1))
    ]

pub returns-in-Err-read_found-clause-exact : goal.returns-in-Err-read_found-clause-exact
returns-in-Err-read_found-clause-exact g c told e is high room events =
    let p = c.args.place in
    let n = length e.bytes in
    let reads = λ (f : ℕ). ((g.D.Disk.state c.args.disk.now).files f).reads in
    let z : to_z w64 (of_z w64 c.args.last_term) ≡ c.args.last_term = omega (arith, ints) in
    elim (cases_lt (65536 - p % 65536) (frames_len n)) [
      | inl long ↦ absurd (event_pad c.in-Ok-Event.len (sym c.in-Ok-Event.field-0-is ∙ c.in-Ok-Event.ensures.pad told (pad_before p e is c.requires.below room reads events long)))
      | inr fits ↦ let least = (ranged e is).least in let at = fits_frames p e is c.requires.below room reads events fits in let now : ((g.D.Disk.state c.look_at.new.disk).files (2 + p / 65536)).reads ≡ reads (2 + p / 65536) = ap (λ (x : FileState). x.reads) ((c.in-Ok-Event.ensures.looked.looks told).files (2 + p / 65536)) in let size = same_event c.in-Ok-Event.len n (sym c.in-Ok-Event.field-0-is ∙ c.in-Ok-Event.ensures.event told e.bytes (omega (arith, least)) at.0 at.1) in c.in-Err-read_found.ensures.exact (subst IsTrue (sym c.in-Ok-Event.ensures.looked.tells_same) told) e is (sym size) (subst (λ (t : ℤ). t ≤ℤ e.term) (sym z) high) (subst (λ l. IsAt (p % 65536) (entry_frames p e.bytes) l) (sym now) at.1)
    ]

pub returns-in-Err-clause-exact : goal.returns-in-Err-clause-exact
returns-in-Err-clause-exact g c told e is high room events =
    let p = c.args.place in
    let n = length e.bytes in
    let reads = λ (f : ℕ). ((g.D.Disk.state c.args.disk.now).files f).reads in
    let z : to_z w64 (of_z w64 c.args.last_term) ≡ c.args.last_term = omega (arith, ints) in
    elim (cases_lt (65536 - p % 65536) (frames_len n)) [
      | inl long ↦ c.in-Err.ensures.pad told (pad_before p e is c.requires.below room reads events long)
      | inr fits ↦ let least = (ranged e is).least in let at = fits_frames p e is c.requires.below room reads events fits in c.in-Err.ensures.event told e.bytes (omega (arith, least)) at.0 at.1
    ]

pub returns-in-Err-ends_early-clause-exact_end : goal.returns-in-Err-ends_early-clause-exact_end
returns-in-Err-ends_early-clause-exact_end g c told shut =
    absurd (short_closed (sym c.in-Ok-Short.field-0-is ∙ c.in-Ok-Short.ensures.closed told shut))

pub returns-in-Ok-read_padded-clause-exact_end : goal.returns-in-Ok-read_padded-clause-exact_end
returns-in-Ok-read_padded-clause-exact_end g c told shut =
    absurd (pad_closed (sym c.in-Ok-Pad.field-0-is ∙ c.in-Ok-Pad.ensures.closed told shut))

pub returns-in-Err-read_padded-clause-exact_end : goal.returns-in-Err-read_padded-clause-exact_end
returns-in-Err-read_padded-clause-exact_end g c told shut =
    absurd (pad_closed (sym c.in-Ok-Pad.field-0-is ∙ c.in-Ok-Pad.ensures.closed told shut))

pub returns-in-Ok-read_found-clause-exact_end : goal.returns-in-Ok-read_found-clause-exact_end
returns-in-Ok-read_found-clause-exact_end g c told shut =
    absurd (event_closed c.in-Ok-Event.len (sym c.in-Ok-Event.field-0-is ∙ c.in-Ok-Event.ensures.closed told shut))

pub returns-in-Err-read_found-clause-exact_end : goal.returns-in-Err-read_found-clause-exact_end
returns-in-Err-read_found-clause-exact_end g c told shut =
    absurd (event_closed c.in-Ok-Event.len (sym c.in-Ok-Event.field-0-is ∙ c.in-Ok-Event.ensures.closed told shut))

pub returns-in-Err-clause-exact_end : goal.returns-in-Err-clause-exact_end
returns-in-Err-clause-exact_end g c told shut =
    c.in-Err.ensures.closed told shut
