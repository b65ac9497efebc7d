-- The first fault of a part stands within its bytes.
use Rattle.std.proofs.Common.{◌≡◌, ℕ, ◌≤◌, Bool, true, false, cond, List, length, Option, Some, refl, arith}
use Rattle.std.specs.Prelude.{nat_lt, ◌==◌}
use Rattle.std.proofs.lemmas.Bool.{ltb-false}
use Rattle.wire_prims.specs.Fields.{u16_at}
use Rattle.wire_prims.specs.Header.{bad}
use Rattle.wire_prims.specs.declared.fault.Bad.{Bad}
use Rattle.wire_prims.specs.declared.fault.BadCause.TheVariants as causes
use Rattle.sbe_local.specs.Pieces.{first_fault_piece, piece_fault}
use Rattle.sbe_consensus.proofs.Places.{place_within}
use Rattle.snapshot_store.proofs.Within.{fault_within}
use Rattle.cluster_backup.specs.Spelling.{part_fault}
use Rattle.cluster_backup.specs.declared.part.Part.{Part}
use Rattle.cluster_backup.specs.declared.part.Part.TheVariants as part

place_is : (f b : Bad) (n : ℕ) → Some f ≡ Some b → f.place ≤ n → b.place ≤ n
place_is f b n e h = let same : f.place ≡ b.place = cc in omega (arith, same, h)

past_header : (short schema : Bool) (f g b : Bad) (x : Option Bad) (n : ℕ) → f.place ≤ n → (short ≡ false → g.place ≤ n) → (short ≡ false → x ≡ Some b → b.place ≤ n) → cond short (Some f) (cond schema x (Some g)) ≡ Some b → b.place ≤ n
past_header true schema f g b x n p q r e = place_is f b n e p
past_header false true f g b x n p q r e = r refl e
past_header false false f g b x n p q r e = place_is g b n e (q refl)

piece_within : (bytes : List ℕ) (b : Bad) → first_fault_piece bytes ≡ Some b → b.place ≤ length bytes
unfolding first_fault_piece
piece_within bytes b e =
    past_header (nat_lt (length bytes) 8) (u16_at 4 bytes == 111) (bad (length bytes) causes.Short) (bad 4 causes.Schema) b (piece_fault (u16_at 2 bytes) bytes) (length bytes) (omega arith)
    (λ long. omega (arith, ltb-false (length bytes) 8 long))
    (λ long is. fault_within (u16_at 2 bytes) bytes b (ltb-false (length bytes) 8 long) is) e

pub part_within : (k : Part) (bytes : List ℕ) (b : Bad) → part_fault k bytes ≡ Some b → b.place ≤ length bytes
part_within part.Event bytes b e = place_within bytes b e
part_within part.Piece bytes b e = piece_within bytes b e
