-- Variable fields, one after the other.
use Rattle.std.proofs.Common.{◌≡◌, ℕ, suc, ◌+◌, ◌-◌, ◌<◌, ◌≤◌, Bool, List, length, refl, sym, ap, ◌∙◌, arith}
use Rattle.std.proofs.lemmas.Bool.{le-leb}
use Rattle.sbe_client.specs.Reading.{variable_end, has_variables}

-- a field that is there leaves the others
pub goes_on : (count i at next : ℕ) (bytes : List ℕ) (total : Bool) → i < count → at + 4 ≤ length bytes → next ≤ length bytes → next ≡ variable_end at bytes
    → has_variables (count - i) at bytes ≡ total → has_variables (count - (i + 1)) next bytes ≡ total
goes_on count i at next bytes total lt four all e so_far =
    let k : count - i ≡ suc (count - (i + 1)) = omega arith in
    let all' : variable_end at bytes ≤ length bytes = omega (arith, e) in
    let one : has_variables (count - i) at bytes ≡ has_variables (count - (i + 1)) (variable_end at bytes) bytes = rw (k, le-leb _ _ four, le-leb _ _ all') refl in
    ap (λ n. has_variables (count - (i + 1)) n bytes) e ∙ sym one ∙ so_far
