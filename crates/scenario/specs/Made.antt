-- The generated scenario.
use Rattle.std.specs.Prelude.{ℕ, ◌+◌, ◌-◌, ◌/◌, ◌%◌, ◌==◌, ◌||◌, List, [], ◌∷◌, ◌++◌, if◌then◌else◌, codes, flat_map, decimal}
use Rattle.std.specs.List.{range_with_len}

-- message i: client i mod 5 sends it to the member
abbrev pub message_text : ℕ → ℕ → List ℕ
message_text member i = codes "send " ++ decimal (i % 5) ++ 32 ∷ decimal member ++ codes " m" ++ decimal i ++ 10 ∷ []

-- three rounds after each fifth message, and after the last before this end
abbrev pub pause : ℕ → ℕ → List ℕ
pause end i = if (i + 1) % 5 == 0 || i + 1 == end then codes "rounds 3\n" else []

-- a message, and the rounds after it
abbrev pub message_step : ℕ → ℕ → ℕ → List ℕ
message_step member end i = message_text member i ++ pause end i

-- the messages from number a up to an end, to one member
abbrev pub half : ℕ → ℕ → ℕ → List ℕ
half member a end = flat_map (message_step member end) (range_with_len a (end - a))

-- three members and five clients
abbrev pub head_text : List ℕ
head_text = codes "members 3\nservice echo\nservice ledger\nrounds 60\nconnect 0 0\nconnect 1 0\nconnect 2 0\nconnect 3 0\nconnect 4 0\nrounds 5\n"

-- the loss of the leader, and its return
abbrev pub middle_text : List ℕ
middle_text = codes "rounds 5\nstop 0\nrounds 300\nstart 0\nrounds 100\n"

-- n messages, the first half of them to member 0, the others to member 1
unfoldable pub made : ℕ → List ℕ
made n = head_text ++ half 0 0 (n / 2) ++ middle_text ++ half 1 (n / 2) n ++ codes "rounds 10\n"
