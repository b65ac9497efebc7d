-- The rows of the table of outcomes: a test, and the outcome where it holds.
use Rattle.std.specs.Prelude.{ℕ, ◌-◌, ℤ, nat_lt, nat_le, Bool, not, is_none, if◌then◌else◌, List, [], ◌∷◌, length, Option, Some, None}
use Rattle.std.specs.Ordering.{int_eq}
use Rattle.session_manager.specs.Sessions.{session_of}
use Rattle.ingress.specs.declared.outcome.Outcome.{Outcome}
use Rattle.ingress.specs.declared.outcome.Outcome.TheVariants as outcome
use Rattle.ingress.specs.declared.view.View.{View}

abbrev pub Rows : Type 0
Rows = List (Bool × Outcome)

-- the first row that applies
abbrev pub first_row : Rows → Option Outcome
first_row [] = None
first_row (r ∷ rs) = if r.0 then Some r.1 else first_row rs

abbrev pub leading_rows : View → Rows
leading_rows v = (not v.ready, outcome.NotLeader v.leader) ∷ []

-- a message that names a term and a session
abbrev pub naming_rows : View → ℤ → ℤ → Rows
naming_rows v term session =
    (not (int_eq term v.term), outcome.WrongTerm term)
    ∷ (is_none (session_of v.sessions.now.table session), outcome.NoSession session)
    ∷ []

-- a payload or a channel of so many bytes
abbrev pub size_rows : ℕ → ℕ → Rows
size_rows bytes limit = (nat_lt limit bytes, outcome.TooLarge bytes) ∷ []

abbrev pub open_rows : View → Rows
open_rows v = (nat_le 1024 (length v.sessions.now.table.listed), outcome.SessionLimit) ∷ []

-- so many snapshot actions are in the log
abbrev pub action_rows : ℕ → Rows
action_rows actions = (nat_le 256 actions, outcome.ActionLimit) ∷ []

-- an entry that would end at this place
abbrev pub room_rows : View → ℕ → Rows
room_rows v end =
    (nat_lt 32768 (end - v.commit_place), outcome.BackPressure (end - v.commit_place))
    ∷ (nat_lt 16777216 end, outcome.LogFull end)
    ∷ []
