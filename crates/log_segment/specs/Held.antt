-- The logs that a member holds.
use Rattle.std.specs.Prelude.{◌≡◌, ℕ, ◌+◌, ◌≤◌, ◌^◌, ◌==◌, ◌&&◌, if◌then◌else◌, pos, ◌≤ℤ◌, All, List, [], ◌∷◌, length, Option, Some, None}
use Rattle.std.specs.Int.{w64, cast_unsigned}
use Rattle.cl_base.specs.declared.entry.Entry.{Entry}
use Rattle.wire_prims.specs.Fields.{u16_at, i64_at}
use Rattle.sbe_events.specs.Spelling.{event_of, term_of}
use Rattle.sbe_events.specs.declared.event.Event.{Event}
use Rattle.entry_log.specs.Log.{Log, Rises, place}
use Rattle.entry_log.specs.Shape.{EntryShape, Shape, end_of}
use Rattle.log_segment.specs.declared.kept.NewTerm.{NewTerm}

-- the entry's bytes spell an event, whose term is the entry's
abbrev pub IsEventEntry : Entry → Type 0
IsEventEntry e = (v : Event) × (event_of e.bytes ≡ Some v) × (e.term ≡ term_of v)

-- events, whose terms don't fall, and no more of them than the segments hold
pub record IsHeld (log : Log) : Type 0 where
  pub events : All IsEventEntry log
  pub rises : Rises log
  pub room : place log ≤ 16777216

-- an entry's term is 0 to 2^62, and its event has 32 to 16,416 bytes
pub record IsRanged (x : EntryShape) : Type 0 where
  pub low : pos 0 ≤ℤ x.term
  pub high : x.term ≤ℤ pos (2 ^ 62)
  pub least : 32 ≤ x.len
  pub most : x.len ≤ 16416

-- the terms, the lengths and the place of a log that a member holds
pub record AreRanged (xs : Shape) : Type 0 where
  pub each : All IsRanged xs
  pub room : end_of xs ≤ 16777216

-- the term that begins by the entry of this index, where its event is that of a new term
abbrev pub new_term_of : ℕ → List ℕ → Option NewTerm
new_term_of i event =
    if (length event == 48) && (u16_at 2 event == 24) then Some (record { entry = i; term = i64_at 8 event; base = cast_unsigned w64 (i64_at 32 event); stamp = i64_at 24 event }) else None

abbrev pub put_term : Option NewTerm → List NewTerm → List NewTerm
put_term None terms = terms
put_term (Some t) terms = t ∷ terms

-- the terms that begin in the entries from this index on
abbrev pub new_terms : ℕ → Log → List NewTerm
new_terms i [] = []
new_terms i (e ∷ es) = put_term (new_term_of i e.bytes) (new_terms (i + 1) es)
