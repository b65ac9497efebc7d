-- A small run: one member with one service, a snapshot action, and restarts.
use Rattle.std.specs.Prelude.{pos, List, [], ◌∷◌, ◌++◌, length, map, nat_eq}
use Rattle.sbe_events.specs.declared.event.Event.{Event}
use Rattle.sbe_events.specs.declared.event.Event.TheVariants as events
use Rattle.consensus_core.specs.Member.{Whole, Before, After}
use Rattle.world.specs.World.{Step, Passes, Stops, Duty, Delivers, Client}
use Rattle.service_runs.specs.Hosts.{Rules, Act, Rows, Mounts, Drops, Opens, Feeds, Takes, Closes, Writes, Sends}

-- the event of a snapshot action, as member 0 appends it behind its first entry
abbrev pub action : Event
action = events.Snapshot (pos 0) (pos 96) (pos 300)

-- an event of 36 bytes is an action, and each seat owes one output for each entry
abbrev pub example : Rules
example = record {
  services = 1;
  is_action = λ e. nat_eq (length e.bytes) 36;
  stamp = λ e. pos 0;
  owed = λ log seat. (length log ∷ seat ∷ []) ∷ [];
  pieces = λ log seat. [];
}

-- the member leads, its action is committed, its service takes both entries, and the phase's end begins
abbrev pub to_the_end : List Act
to_the_end =
    Mounts 0 ∷ Rows (Duty 0 [] Whole) ∷ Rows (Passes 300) ∷ Rows (Duty 0 [] Whole) ∷ Rows (Duty 0 [] Whole) ∷ Rows (Duty 0 [] Whole) ∷ Rows (Duty 0 [] Whole) ∷ Rows (Duty 0 [] Whole)
    ∷ Rows (Client 0 action Whole) ∷ Rows (Duty 0 [] Whole) ∷ Opens 0 ∷ Feeds 0 0 5 ∷ Takes 0 0 ∷ Takes 0 0 ∷ Closes 0 ∷ []

-- both puts, and the outputs
abbrev pub whole : List Act
whole = Writes 0 Whole ∷ Writes 0 Whole ∷ Sends 0 ∷ []

-- the second put is cut before it
abbrev pub cut_short : List Act
cut_short = Writes 0 Whole ∷ Writes 0 Before ∷ Sends 0 ∷ Mounts 0 ∷ []

-- or after it
abbrev pub cut_late : List Act
cut_late = Writes 0 Whole ∷ Writes 0 After ∷ Sends 0 ∷ Mounts 0 ∷ []

abbrev pub again : List Act
again = Rows (Stops 0) ∷ Mounts 0 ∷ []

abbrev pub dropped : List Act
dropped = Rows (Stops 0) ∷ Drops 0 ∷ Mounts 0 ∷ []

abbrev pub rows : List Step → List Act
rows ss = map Rows ss

-- Three members: member 0 leads term 0, its first entry is committed, and its next one stands on it alone. In a phase that has fed both, member 1 is elected in term 1, and member 0 cuts the second.
abbrev pub outlived : List Act
outlived =
    (Mounts 0 ∷ Mounts 1 ∷ Mounts 2 ∷ []) ++ (rows (
    Duty 0 [] Whole ∷ Duty 1 [] Whole ∷ Duty 2 [] Whole ∷ Passes 10 ∷ Duty 1 [] Whole ∷ Delivers 0 Whole
    ∷ Passes 300 ∷ Duty 0 [] Whole ∷ Duty 0 [] Whole ∷ Delivers 2 Whole ∷ Delivers 4 Whole ∷ Duty 0 [] Whole ∷ Duty 0 [] Whole
    ∷ Delivers 5 Whole ∷ Delivers 7 Whole ∷ Delivers 8 Whole ∷ Delivers 9 Whole ∷ Duty 0 [] Whole ∷ Delivers 10 Whole ∷ Delivers 11 Whole ∷ Duty 0 [] Whole
    ∷ Client 0 action Whole ∷ [])
    ++ (Opens 0 ∷ Feeds 0 0 5 ∷ rows (
    Passes 2000 ∷ Duty 1 [] Whole ∷ Duty 2 [] Whole ∷ Duty 2 [] Whole ∷ Delivers 15 Whole ∷ Passes 2400 ∷ Duty 1 [] Whole ∷ Duty 1 [] Whole
    ∷ Delivers 17 Whole ∷ Delivers 18 Whole ∷ Duty 1 [] Whole ∷ Duty 1 [] Whole ∷ Delivers 19 Whole ∷ Delivers 21 Whole ∷ Delivers 22 Whole ∷ [])))

-- the phase ends, the next one begins, and the entry of term 1 is committed and with_next
abbrev pub goes_on : List Act
goes_on =
    (Takes 0 0 ∷ Closes 0 ∷ Sends 0 ∷ Opens 0 ∷ Feeds 0 0 5 ∷ [])
    ++ (rows (Delivers 23 Whole ∷ Duty 1 [] Whole ∷ Delivers 24 Whole ∷ [])
    ++ (Feeds 0 0 5 ∷ rows (Delivers 25 Whole ∷ Duty 1 [] Whole ∷ Delivers 26 Whole ∷ []) ++ (Feeds 0 0 5 ∷ Takes 0 0 ∷ Takes 0 0 ∷ [])))
