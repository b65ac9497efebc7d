-- A log is a list of entries. Where its entries end, and which of two logs is better.
use Rattle.std.specs.Prelude.{◌≡◌, ℕ, ℤ, negsuc, pos, ◌≤ℤ◌, Bool, ◌&&◌, ◌||◌, List, [], ◌∷◌, ◌++◌, length, ◌+◌, ◌-◌, ◌*◌, ◌/◌, ◌%◌, ◌<◌, nat_lt, nat_le, int_lt, int_le, if◌then◌else◌, ◌==◌, ⊤}
use Rattle.cl_base.specs.declared.entry.Entry.{Entry}
use Rattle.entry_log.specs.declared.name.LogName.{LogName}

abbrev pub Log : Type 0
Log = List Entry

-- The bytes of the frames of an event of n bytes: whole frames of 1,408 bytes that carry 1,376 each and, for what is
-- left, one frame of 32 bytes and the rest, up to a multiple of 32 (Aeron's alignment).
abbrev pub frames_len : ℕ → ℕ
frames_len n = n / 1376 * 1408 + (if (n % 1376) == 0 then 0 else (32 + n % 1376 + 31) / 32 * 32)

-- Where an event of n bytes ends that is written at place p. An entry stands in one segment of 65,536 bytes: where
-- its frames don't fit in what is left of p's, a pad fills that and they begin the next.
unfoldable pub end_after : ℕ → ℕ → ℕ
end_after p n =
    let room = 65536 - p % 65536 in
    if nat_le (frames_len n) room then p + frames_len n else p + room + frames_len n

-- the place of a log that is written from place p
abbrev pub place_from : ℕ → Log → ℕ
place_from p [] = p
place_from p (e ∷ es) = place_from (end_after p (length e.bytes)) es

-- where a log ends
abbrev pub place : Log → ℕ
place log = place_from 0 log

abbrev pub last_from : ℤ → Log → ℤ
last_from t [] = t
last_from t (e ∷ es) = last_from e.term es

-- the term of the last entry, -1 for the empty log
abbrev pub last : Log → ℤ
last log = last_from (negsuc 0) log

abbrev pub same_term : ℤ → ℤ → Bool
same_term s t = int_le s t && int_le t s

-- a log of the first last term and place is better than one of the second
abbrev pub better : ℤ → ℕ → ℤ → ℕ → Bool
better t1 p1 t2 p2 = int_lt t2 t1 || (same_term t1 t2 && nat_lt p2 p1)

abbrev pub name_of : Log → LogName
name_of log = record { term = last log; place = place log }

abbrev pub IsPrefixOf : Log → Log → Type 0
IsPrefixOf xs ys = (rest : Log) × (xs ++ rest ≡ ys)

-- each entry has bytes, and a term that isn't none
abbrev pub IsWritten : Log → Type 0
IsWritten [] = ⊤
IsWritten (x ∷ xs) = (0 < length x.bytes) × (pos 0 ≤ℤ x.term) × IsWritten xs

-- terms don't fall, from this one on
abbrev pub RisesFrom : ℤ → Log → Type 0
RisesFrom t [] = ⊤
RisesFrom t (x ∷ xs) = (t ≤ℤ x.term) × RisesFrom x.term xs

-- the terms of a log don't fall
abbrev pub Rises : Log → Type 0
Rises log = RisesFrom (negsuc 0) log
