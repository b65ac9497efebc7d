-- Which packets there are, and which numbers their blocks have.
use Rattle.std.specs.Prelude.{ℕ, ◌+◌, ◌-◌, ◌^◌, ℤ, pos, ◌==◌, if◌then◌else◌, List, [], ◌∷◌, Option, Some, None}
use Rattle.wire_prims.specs.Fields.{u16_at}
use Rattle.wire_prims.specs.Strict.{rules_size}
use Rattle.wire_prims.specs.declared.strict.Rule.{Rule}
use Rattle.wire_prims.specs.declared.strict.Rule.TheVariants.{Narrow, AnyWide, AnyNarrow}
use Rattle.sbe_consensus.specs.Templates.{number, last}
use Rattle.cluster_backup.specs.declared.part.Part.{Part}
use Rattle.cluster_backup.specs.declared.part.Part.TheVariants as part
use Rattle.cluster_backup.specs.declared.template.Template.{Template}
use Rattle.cluster_backup.specs.declared.template.Template.TheVariants.{Query, Log, Snapshot}

abbrev pub number_of : Template → ℕ
number_of Query = 56
number_of Log = 57
number_of Snapshot = 58

abbrev pub template_by : ℕ → Option Template
template_by n = if n == 56 then Some Query else (if n == 57 then Some Log else (if n == 58 then Some Snapshot else None))

-- the template of bytes
abbrev pub template_of : List ℕ → Option Template
template_of bytes = template_by (u16_at 2 bytes)

-- the block of a query: entries, position
abbrev pub query_rules : List Rule
query_rules = number ∷ last ∷ []

-- the fewest parts, and the most
abbrev pub least : Part → ℤ
least part.Event = pos 1
least part.Piece = pos 0

abbrev pub most : Part → ℤ
most part.Event = pos 64
most part.Piece = pos (2 ^ 31 - 1)

-- the block before such parts, its numbers in rising place
abbrev pub rules_in : Part → List Rule
-- start, count
rules_in part.Event = number ∷ Narrow (pos 1) (pos 64) ∷ []
-- recording, term, position, stamp, service, count
rules_in part.Piece = AnyWide ∷ number ∷ number ∷ number ∷ AnyNarrow ∷ Narrow (pos 0) (pos (2 ^ 31 - 1)) ∷ []

-- how many bytes that block has
abbrev pub block : Part → ℕ
block k = rules_size (rules_in k)
