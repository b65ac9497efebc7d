-- Two small runs.
use Rattle.std.specs.Prelude.{List, [], ◌∷◌}
use Rattle.consensus_core.specs.Member.{Whole}
use Rattle.world.specs.World.{Step, Passes, Starts, Duty, Delivers}

-- one member alone: its start, its ballot, its term's entry and the commit
abbrev pub alone : List Step
alone = Starts 0 1 ∷ Duty 0 [] Whole ∷ Passes 300 ∷ Duty 0 [] Whole ∷ Duty 0 [] Whole ∷ Duty 0 [] Whole ∷ Duty 0 [] Whole ∷ Duty 0 [] Whole ∷ []

-- three members: member 0 is elected and two hold its entry
abbrev pub three : List Step
three =
    Starts 0 1 ∷ Starts 1 1 ∷ Starts 2 1 ∷ Duty 0 [] Whole ∷ Duty 1 [] Whole ∷ Duty 2 [] Whole ∷ Passes 10 ∷ Duty 1 [] Whole ∷ Delivers 0 Whole
    ∷ Passes 300 ∷ Duty 0 [] Whole ∷ Duty 0 [] Whole ∷ Delivers 2 Whole ∷ Delivers 4 Whole ∷ Duty 0 [] Whole ∷ Duty 0 [] Whole
    ∷ Delivers 5 Whole ∷ Delivers 7 Whole ∷ Delivers 8 Whole ∷ Delivers 9 Whole ∷ Duty 0 [] Whole ∷ Delivers 10 Whole ∷ Delivers 11 Whole ∷ Duty 0 [] Whole ∷ []
