-- The file of a new member.
use Rattle.std.proofs.Common.{◌≡◌, ℕ, ◌+◌, List, [], ◌∷◌, ◌++◌, length, refl, ◌∙◌, ap, arith}
use Rattle.std.proofs.lemmas.Int.{ints}
use Rattle.std.proofs.lemmas.List.{append-nil, drop_all}
use Rattle.cl_base.specs.Disk.{FileState, settled_file, overwritten}
use Rattle.wire_prims.specs.Fields.{u64_at, u32_at, i64_at}
use Rattle.node_state.specs.Node.{Tells, fresh, IsFresh}

abbrev pub fresh_bytes : List ℕ
fresh_bytes =
    255 ∷ 255 ∷ 255 ∷ 255 ∷ 255 ∷ 255 ∷ 255 ∷ 255 ∷ 255 ∷ 255 ∷ 255 ∷ 255 ∷ 255 ∷ 255 ∷ 255 ∷ 255 ∷ 0 ∷ 2 ∷ 0 ∷ 0 ∷ 255 ∷ 255 ∷ 255 ∷ 255 ∷ 255 ∷ 255 ∷ 255 ∷ 255 ∷ 0 ∷ 0 ∷ 0 ∷ 0 ∷ []

pub fresh_tells : Tells fresh fresh_bytes
unfolding u64_at u32_at i64_at
fresh_tells = (record { size = refl; slot = refl; term = refl; voted = refl; low = omega (arith, ints); high = omega (arith, ints) }, refl)

front : (bytes : List ℕ) → overwritten 0 bytes [] ≡ bytes
front bytes = ap (λ l. bytes ++ l) (drop_all (0 + length bytes) [] (omega arith)) ∙ append-nil bytes

pub fresh_is : (s : FileState) (bytes reads : List ℕ) → reads ≡ [] → Tells fresh bytes → s ≡ settled_file (overwritten 0 bytes reads) → IsFresh s
fresh_is s bytes reads none tells is = record {
  bytes = bytes;
  settled = is ∙ ap (λ l. settled_file (overwritten 0 bytes l)) none ∙ ap settled_file (front bytes);
  tells = tells;
}
