use Rattle.std.proofs.Common.{arith, ◌∙◌, ap}
use Rattle.wire_prims.specs.Fields.{IsBytes, le32}
use Rattle.snapshot_store.proofs.Pieces.{number_spells}
use Rattle.snapshot_store.proofs.file.number_of.Goals as goal

pub returns-clause-spells : goal.returns-clause-spells
returns-clause-spells c =
    let fits : IsBytes c.args.bytes.now = λ i. omega (arith, c.type_inv.bytes i) in
    ap le32 c.get_u32.ensures ∙ number_spells c.args.bytes.now fits c.requires
