-- Entries that spell an event of their term.
use Rattle.std.proofs.Common.{◌≡◌, suc, List, [], ◌∷◌, length, All, refl, ap}
use Rattle.std.proofs.lemmas.List.Elements.{All-nil, All-cons}
use Rattle.cl_base.specs.declared.entry.Entry.{Entry}
use Rattle.entry_log.specs.Log.{Log}
use Rattle.entry_log.specs.Shape.{shape_of}
use Rattle.sbe_consensus.specs.Spelling.{AreEntries}
use Rattle.log_segment.specs.Held.{IsEventEntry}

pub all_events : (xs : List Entry) → AreEntries xs → All IsEventEntry xs
all_events [] h = All-nil IsEventEntry
all_events (x ∷ xs) h = All-cons IsEventEntry x xs h.0.event (all_events xs h.1)

pub length_shape : (log : Log) → length (shape_of log) ≡ length log
length_shape [] = refl
length_shape (x ∷ log) = ap (λ n. suc n) (length_shape log)
