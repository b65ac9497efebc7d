-- A small run: one member with a ledger leads, and a client opens a session.
use Rattle.std.specs.Prelude.{◌≡◌, pos, List, [], ◌∷◌}
use Rattle.std.proofs.Common.{arith}
use Rattle.std.proofs.lemmas.Int.{ints}
use Rattle.wire_prims.specs.Fields.{IsBytes}
use Rattle.sbe_events.specs.declared.event.Event.{Event}
use Rattle.sbe_events.specs.declared.event.Event.TheVariants.{Term, Opened}
use Rattle.module_state.specs.Worked.{ledger}
use Rattle.module_state.specs.Entries.{IsSpellable}
use Rattle.consensus_core.specs.Member.{Whole}
use Rattle.world.specs.World.{Passes}
use Rattle.service_runs.specs.Hosts.{Rows, Mounts}
use Rattle.service_runs.specs.Example.{example}
use Rattle.one_log.specs.Led.{Led, Turn, Acts, Leads, Asks, turns, led}

abbrev pub term : Event
term = Term (pos 0) (pos 0) (pos 300) (pos 0) (pos 0)

abbrev pub opened : Event
opened = Opened (pos 0) (pos 1) (pos 1) (pos 300) (pos 0) []

no_bytes : IsBytes []
no_bytes i = omega arith

pub term-fits : IsSpellable term
term-fits = (((omega (arith, ints), omega (arith, ints)), (omega (arith, ints), omega (arith, ints)), (omega (arith, ints), omega (arith, ints)), refl-zero, (omega (arith, ints), omega (arith, ints))), no_bytes)
  where
    refl-zero : pos 0 ≡ pos 0
    refl-zero = λ i. pos 0

pub opened-fits : IsSpellable opened
opened-fits = (((omega (arith, ints), omega (arith, ints)), record { sfits = omega arith }, (omega (arith, ints), omega (arith, ints)), (omega (arith, ints), omega (arith, ints)), record { sfits = omega arith }, omega arith), no_bytes)

-- it leads, and has its term's entry
abbrev pub elected : List Turn
elected = Acts (Mounts 0) ∷ Leads 0 [] 0 Whole ∷ Acts (Rows (Passes 300)) ∷ Leads 0 [] 0 Whole ∷ Leads 0 [] 0 Whole ∷ Leads 0 [] 0 Whole ∷ Leads 0 [] 0 Whole ∷ []

abbrev pub leading : Led
leading = turns ledger example (led 1) elected

abbrev pub opens : Turn
opens = Asks 0 opened opened-fits Whole
