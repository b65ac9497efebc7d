-- What a SNAPSHOT entry that counts names is in its ranges.
use Rattle.std.specs.Prelude.{◌≡◌, ◌^◌, ◌&&◌, ◌||◌, ◌==◌, pos, ◌≤ℤ◌, IsTrue, nat_le, int_le, int_lt, true}
use Rattle.std.proofs.Common.{⊎_elim, arith}
use Rattle.std.proofs.lemmas.Bool.{and_parts, or_cases, eqb-true}
use Rattle.std.proofs.lemmas.Int.{ints}
use Rattle.recording_log.specs.declared.entry.RecEntry.{RecEntry}
use Rattle.recording_log.specs.Valid.{in_range, is_valid, is_snapshot, names_snapshot}

snapshot_names : (e : RecEntry) → IsTrue (is_snapshot e) → names_snapshot e ≡ true
snapshot_names e is =
    let p = and_parts (is_valid e) (e.kind == 1) is in
    let v = and_parts (nat_le e.kind 1 && in_range e.term && in_range e.base) (e.kind == 0 || names_snapshot e) p.0 in
    let one = eqb-true e.kind 1 p.1 in
    ⊎_elim (λ zero. let none = eqb-true e.kind 0 zero in absurd (omega (arith, one, none))) (λ n. n) (or_cases (e.kind == 0) (names_snapshot e) v.1)

-- its position is at most 2^62
pub snapshot_position : (e : RecEntry) → IsTrue (is_snapshot e) → e.position ≤ℤ pos (2 ^ 62)
snapshot_position e is =
    let n = and_parts (int_le (pos 0) e.recording && int_lt e.recording (pos 1024)) (in_range e.position) (snapshot_names e is) in
    let r = and_parts (int_le (pos 0) e.position) (int_le e.position (pos (2 ^ 62))) n.1 in
    let high = r.1 in
    grind (arith, ints, high)
