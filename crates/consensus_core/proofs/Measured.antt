-- Entries that come in a batch.
use Rattle.std.proofs.Common.{◌≡◌, ℕ, zero, suc, ℤ, ◌&&◌, ◌+◌, ◌-◌, ◌≤◌, Bool, true, false, List, [], ◌∷◌, length, Option, Some, None, refl, arith}
use Rattle.std.specs.Prelude.{All, nat_le, unsigned_abs}
use Rattle.std.proofs.lemmas.Bool.Decides.{nat_tests}
use Rattle.cl_base.specs.declared.entry.Entry.{Entry}
use Rattle.entry_log.specs.Log.{Log, end_after, place_from}
use Rattle.entry_log.specs.Shape.{Shape, shape_of, end_from, end_from-shape_of}
use Rattle.entry_log.specs.declared.name.LogName.{LogName}
use Rattle.entry_log.specs.Batches.{is_batch}
use Rattle.consensus_core.specs.Rows.{name_of_shape}
use Rattle.consensus_core.specs.Sendable.{is_sendable_batch, is_sendable, is_other}
use Rattle.consensus_core.specs.declared.values.Values.{Values}
use Rattle.sbe_consensus.specs.declared.packet.Packet.TheVariants as P
use Rattle.entry_log.specs.Places.{place_from_grows}
use Rattle.wire_prims.specs.Fields.{u32_at}
use Rattle.wire_prims.specs.Header.{bad}
use Rattle.wire_prims.specs.Strict.{◌or_else◌, unless, tail_fault}
use Rattle.wire_prims.specs.declared.fault.BadCause.TheVariants as causes
use Rattle.wire_prims.specs.declared.strict.Tail.TheVariants.{Rest, Counted}
use Rattle.wire_prims.specs.StrictLaws.{strict_ends}
use Rattle.wire_prims.specs.declared.fault.Bad.{Bad}
use Rattle.sbe_events.specs.Laws.{Sound, sound, free_event}
use Rattle.sbe_events.specs.Spelling.{event_of}
use Rattle.sbe_events.specs.Templates.{rules_of, tail_of}
use Rattle.sbe_events.specs.declared.event.Event.{Event}
use Rattle.sbe_events.specs.declared.template.Template.{Template}
use Rattle.sbe_events.specs.declared.template.Template.TheVariants as templates
use Rattle.sbe_consensus.specs.Spelling.{IsEntry, AreEntries}

unless_holds : (b : Bool) (x : Bad) → unless b x ≡ None → b ≡ true
unless_holds true x e = refl
unless_holds false x e = absurd (cc)

first_none : (a b : Option Bad) → (a or_else b) ≡ None → a ≡ None
first_none None b e = refl
first_none (Some x) b e = absurd (cc)

rest_short : (limit at : ℕ) (bytes : List ℕ) → tail_fault (Rest limit) at bytes ≡ None → length bytes ≤ at + limit
rest_short limit at bytes e = let h = unless_holds (nat_le (length bytes - at) limit) (bad at causes.Value) e in grind (arith, nat_tests, h)

counted_short : (limit at : ℕ) (bytes : List ℕ) → tail_fault (Counted limit) at bytes ≡ None → u32_at at bytes ≤ limit
counted_short limit at bytes e =
    let long : Option Bad = unless (nat_le (u32_at at bytes) limit) (bad at causes.Value) in
    let more : Option Bad = unless (nat_le (length bytes) (at + 4 + u32_at at bytes)) (bad (at + 4 + u32_at at bytes) causes.Trailing) in
    let h = unless_holds (nat_le (u32_at at bytes) limit) (bad at causes.Value) (first_none long more e) in
    grind (arith, nat_tests, h)

-- bytes that spell an event are short enough for the log
sound_short : (t : Template) (bytes : List ℕ) → Sound t bytes → length bytes ≤ 32768
sound_short templates.Message bytes s = let h = rest_short 16384 32 bytes s.strict.ends in omega (arith, h)
sound_short templates.Opened bytes s = let e = strict_ends (rules_of templates.Opened) (tail_of templates.Opened) bytes s.strict in let h = counted_short 1024 44 bytes s.strict.ends in omega (arith, e, h)
sound_short templates.Timer bytes s = let e = strict_ends (rules_of templates.Timer) (tail_of templates.Timer) bytes s.strict in omega (arith, e)
sound_short templates.Closed bytes s = let e = strict_ends (rules_of templates.Closed) (tail_of templates.Closed) bytes s.strict in omega (arith, e)
sound_short templates.Snapshot bytes s = let e = strict_ends (rules_of templates.Snapshot) (tail_of templates.Snapshot) bytes s.strict in omega (arith, e)
sound_short templates.Term bytes s = let e = strict_ends (rules_of templates.Term) (tail_of templates.Term) bytes s.strict in omega (arith, e)

entry_short : (x : Entry) → IsEntry x → length x.bytes ≤ 32768
entry_short x e = let free = free_event x.bytes e.event.0 e.event.1 in let s = sound x.bytes free in sound_short s.0 x.bytes s.2

pub entries_short : (xs : Log) → AreEntries xs → All (λ e. length e.bytes ≤ 32768) xs
entries_short [] e k d h = absurd (omega (arith, h))
entries_short (x ∷ xs) e zero d h = entry_short x e.0
entries_short (x ∷ xs) e (suc k) d h = entries_short xs e.1 k d (omega (arith, h))

-- a batch that can have been sent begins within the log's bounds
pub sendable_start : (t : ℤ) (start : ℕ) (entries : Log) (own : LogName) → is_sendable_batch t start entries own ≡ true → start ≤ 16777216
sendable_start t start entries own e =
    let low = both (nat_le (place_from start entries) 16777216 && is_batch start (shape_of entries)) _ e in
    let end = both (nat_le (place_from start entries) 16777216) (is_batch start (shape_of entries)) low in
    let up = place_from_grows start entries in
    grind (arith, nat_tests, end, up)
  where
    both : (a b : Bool) → (a && b) ≡ true → a ≡ true
    both true b h = refl
    both false b h = absurd (cc)

pub sendable_packet : (v : Values) (xs : Shape) (t start leader : ℤ) (entries : Log) → is_sendable v xs (P.LogBatch t start leader entries) ≡ true → unsigned_abs start ≤ 16777216
sendable_packet v xs t start leader entries e = sendable_start t (unsigned_abs start) entries (name_of_shape xs) (second (is_other v.election (unsigned_abs leader)) (is_sendable_batch t (unsigned_abs start) entries (name_of_shape xs)) e)
  where
    second : (a b : Bool) → (a && b) ≡ true → b ≡ true
    second true b h = h
    second false b h = absurd (cc)

pub event_short : (bytes : List ℕ) (e : Event) → event_of bytes ≡ Some e → length bytes ≤ 32768
event_short bytes e is = let free = free_event bytes e is in let s = sound bytes free in sound_short s.0 bytes s.2

pub end_from_shape : (p : ℕ) (log : Log) → end_from p (shape_of log) ≡ place_from p log
end_from_shape p log = end_from-shape_of p log
