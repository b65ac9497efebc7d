-- What the index says of the entry.
use Rattle.std.proofs.Common.{◌≡◌, ℕ, ◌+◌, ◌/◌, ◌%◌, ◌<◌, ◌≤◌, ℤ, length, take, to_z, of_z, w64, refl, sym, ◌∙◌, ap, subst, arith}
use Rattle.std.proofs.lemmas.Int.{ints}
use Rattle.cl_base.specs.declared.entry.Entry.{Entry}
use Rattle.entry_log.specs.Log.{place}
use Rattle.entry_log.specs.Shape.{EntryShape, shape_of, entry_shape}
use Rattle.log_segment.specs.Segment.{begin_at}
use Rattle.log_segment.specs.Held.{IsEventEntry, IsHeld}
use Rattle.log_segment.proofs.LookLemmas.{if_ok}
use Rattle.log_segment.proofs.KeepLemmas.{split, split_count, length_room, read_len, read_term, read_place, read_ranged, read_event_at, read_begin, read_aligned, read_fits}
use Rattle.log_segment.proofs.segments.Segments.read.Goals as goal

abbrev shape_with : ℤ → ℕ → EntryShape
shape_with t n = record { term = t; len = n }

shaped : (a b : Entry) → a.term ≡ b.term → length a.bytes ≡ length b.bytes → entry_shape a ≡ entry_shape b
shaped a b one two = λ i. shape_with (one i) (two i)

pub overflow_add-index : goal.overflow_add-index
overflow_add-index g c =
    let log = c.args.self.now in
    let n = c.args.index in
    let held = subst IsHeld c.self.view_is c.index-log.ensures.sound in
    let xs = c.index-log.result.now in
    let is = c.index-log.ensures.index ∙ ap shape_of c.self.view_is in
    let room = length_room 0 log held.events in
    let below = held.room in
    let under = c.requires.index in
    search (arith, room, below, under)

pub read_known-requires-clause-some : goal.read_known-requires-clause-some
read_known-requires-clause-some g c =
    let log = c.args.self.now in
    let n = c.args.index in
    let held = subst IsHeld c.self.view_is c.index-log.ensures.sound in
    let xs = c.index-log.result.now in
    let is = c.index-log.ensures.index ∙ ap shape_of c.self.view_is in
    let parts = split log n c.requires.index in
    let count = split_count log n c.requires.index in
    let least = (read_ranged log (take n log) parts.rest parts.entry parts.whole held xs is n count).least in
    let len = read_len log (take n log) parts.rest parts.entry parts.whole held xs is n count c.event_len-len.result c.event_len-len.ensures in
    omega (arith, least, len)

pub read_known-requires-clause-small : goal.read_known-requires-clause-small
read_known-requires-clause-small g c =
    let log = c.args.self.now in
    let n = c.args.index in
    let held = subst IsHeld c.self.view_is c.index-log.ensures.sound in
    let xs = c.index-log.result.now in
    let is = c.index-log.ensures.index ∙ ap shape_of c.self.view_is in
    let parts = split log n c.requires.index in
    let count = split_count log n c.requires.index in
    let most = (read_ranged log (take n log) parts.rest parts.entry parts.whole held xs is n count).most in
    let len = read_len log (take n log) parts.rest parts.entry parts.whole held xs is n count c.event_len-len.result c.event_len-len.ensures in
    omega (arith, most, len)

pub read_known-requires-clause-place : goal.read_known-requires-clause-place
read_known-requires-clause-place g c =
    let log = c.args.self.now in
    let n = c.args.index in
    let held = subst IsHeld c.self.view_is c.index-log.ensures.sound in
    let xs = c.index-log.result.now in
    let is = c.index-log.ensures.index ∙ ap shape_of c.self.view_is in
    let parts = split log n c.requires.index in
    let count = split_count log n c.requires.index in
    subst (λ p. p % 32 ≡ 0) (sym (read_place log (take n log) parts.rest parts.entry parts.whole held xs is n count c.end_at-place.result c.end_at-place.ensures)) (read_aligned log (take n log) parts.rest parts.entry parts.whole held xs is n count)

pub read_known-requires-clause-below : goal.read_known-requires-clause-below
read_known-requires-clause-below g c =
    let log = c.args.self.now in
    let n = c.args.index in
    let held = subst IsHeld c.self.view_is c.index-log.ensures.sound in
    let xs = c.index-log.result.now in
    let is = c.index-log.ensures.index ∙ ap shape_of c.self.view_is in
    let parts = split log n c.requires.index in
    let count = split_count log n c.requires.index in
    subst (λ p. begin_at p c.event_len-len.result < 16777216) (sym (read_place log (take n log) parts.rest parts.entry parts.whole held xs is n count c.end_at-place.result c.end_at-place.ensures)) (subst (λ k. begin_at (place (take n log)) k < 16777216) (sym (read_len log (take n log) parts.rest parts.entry parts.whole held xs is n count c.event_len-len.result c.event_len-len.ensures)) (read_begin log (take n log) parts.rest parts.entry parts.whole held xs is n count))

pub read_known-requires-clause-fits : goal.read_known-requires-clause-fits
read_known-requires-clause-fits g c =
    let log = c.args.self.now in
    let n = c.args.index in
    let held = subst IsHeld c.self.view_is c.index-log.ensures.sound in
    let xs = c.index-log.result.now in
    let is = c.index-log.ensures.index ∙ ap shape_of c.self.view_is in
    let parts = split log n c.requires.index in
    let count = split_count log n c.requires.index in
    λ told. subst (λ p. begin_at p c.event_len-len.result % 65536 ≤ length ((g.D.Disk.state c.args.disk.now).files (2 + begin_at p c.event_len-len.result / 65536)).reads) (sym (read_place log (take n log) parts.rest parts.entry parts.whole held xs is n count c.end_at-place.result c.end_at-place.ensures)) (subst (λ k. begin_at (place (take n log)) k % 65536 ≤ length ((g.D.Disk.state c.args.disk.now).files (2 + begin_at (place (take n log)) k / 65536)).reads) (sym (read_len log (take n log) parts.rest parts.entry parts.whole held xs is n count c.event_len-len.result c.event_len-len.ensures)) (read_fits log (take n log) parts.rest parts.entry parts.whole held xs is n count (λ f. ((g.D.Disk.state c.args.disk.now).files f).reads) (c.requires.stands told)))

pub returns-clause-entry : goal.returns-clause-entry
returns-clause-entry g c kept rest e whole count =
    let log = c.args.self.now in
    let n = c.args.index in
    let held = subst IsHeld c.self.view_is c.index-log.ensures.sound in
    let xs = c.index-log.result.now in
    let is = c.index-log.ensures.index ∙ ap shape_of c.self.view_is in
    let z : to_z w64 (of_z w64 c.term_at-term.result) ≡ c.term_at-term.result = omega (arith, ints) in
    let len = read_len log kept rest e whole held xs is n count c.event_len-len.result c.event_len-len.ensures in
    let term = z ∙ read_term log kept rest e whole held xs is n count c.term_at-term.result (n + 1) refl c.term_at-term.ensures in
    if_ok (λ (v : Entry). IsEventEntry v × (length v.bytes ≡ c.event_len-len.result) × (v.term ≡ to_z w64 (of_z w64 c.term_at-term.result))) (λ (v : Entry). IsEventEntry v × (entry_shape v ≡ entry_shape e)) c.read_known.result (λ v k. (k.0, shaped v e (k.2 ∙ term) (k.1 ∙ len))) c.read_known.ensures.entry

pub returns-clause-exact : goal.returns-clause-exact
returns-clause-exact g c told kept rest e whole count =
    let log = c.args.self.now in
    let n = c.args.index in
    let held = subst IsHeld c.self.view_is c.index-log.ensures.sound in
    let xs = c.index-log.result.now in
    let is = c.index-log.ensures.index ∙ ap shape_of c.self.view_is in
    let z : to_z w64 (of_z w64 c.term_at-term.result) ≡ c.term_at-term.result = omega (arith, ints) in
    let len = read_len log kept rest e whole held xs is n count c.event_len-len.result c.event_len-len.ensures in
    let term = z ∙ read_term log kept rest e whole held xs is n count c.term_at-term.result (n + 1) refl c.term_at-term.ensures in
    c.read_known.ensures.exact told log kept e (record { rest = rest; whole = whole; stands = c.requires.stands told }) (read_event_at log kept rest e whole held xs is n count) (read_place log kept rest e whole held xs is n count c.end_at-place.result c.end_at-place.ensures) len term
