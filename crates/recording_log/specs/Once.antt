-- A file has at most one list of entries, and is wrong nowhere where it has one.
use Rattle.std.specs.Prelude.{◌≡◌, ℕ, ◌≤◌, pos, List, length}
use Rattle.std.proofs.Common.{inl, inr, sym, ◌∙◌, arith}
use Rattle.std.proofs.lemmas.Bool.{cases_lt}
use Rattle.std.proofs.lemmas.List.{ext_get_or}
use Rattle.recording_log.specs.declared.entry.RecEntry.{RecEntry}
use Rattle.recording_log.specs.Entries.{Holds, IsWrongAt}

no_entry : RecEntry
no_entry = record { recording = pos 0; term = pos 0; base = pos 0; position = pos 0; stamp = pos 0; service = pos 0; kind = 0 }

no_longer : (a b : List RecEntry) (bytes : List ℕ) → Holds a bytes → Holds b bytes → length b ≤ length a
no_longer a b bytes first second = elim (cases_lt (length a) (length b)) [
  | inl less ↦ absurd (first.closed (second.begins.opened (length a) less))
  | inr up ↦ omega arith
]

pub holds_once : (a b : List RecEntry) (bytes : List ℕ) → Holds a bytes → Holds b bytes → a ≡ b
holds_once a b bytes first second =
    let len : length a ≡ length b = omega (arith, no_longer a b bytes first second, no_longer b a bytes second first) in
    ext_get_or no_entry a b len (λ i within. first.begins.each i no_entry (omega arith) ∙ sym (second.begins.each i no_entry (omega (arith, len))))

pub holds_not_wrong : (a : List RecEntry) (bytes : List ℕ) (place : ℕ) → Holds a bytes → IsWrongAt bytes place → ⊥
holds_not_wrong a bytes place holds wrong = elim (cases_lt (length a) wrong.count) [
  | inl more ↦ holds.closed (wrong.opened (length a) more)
  | inr few ↦ let room = holds.room in let short = wrong.short in omega (arith, room, short)
]
