-- Which events there are, and which numbers their blocks have.
use Rattle.std.specs.Prelude.{ℕ, ◌^◌, ◌-◌, pos, ◌==◌, if◌then◌else◌, List, [], ◌∷◌, Option, Some, None}
use Rattle.wire_prims.specs.declared.strict.Rule.{Rule}
use Rattle.wire_prims.specs.declared.strict.Rule.TheVariants.{Wide, Narrow, AnyWide, AnyNarrow, Repeat, Sender}
use Rattle.wire_prims.specs.declared.strict.Tail.{Tail}
use Rattle.wire_prims.specs.declared.strict.Tail.TheVariants.{Nothing, Rest, Counted}
use Rattle.sbe_events.specs.declared.template.Template.{Template}
use Rattle.sbe_events.specs.declared.template.Template.TheVariants.{Message, Timer, Opened, Closed, Snapshot, Term}

abbrev pub number_of : Template → ℕ
number_of Message = 1
number_of Timer = 20
number_of Opened = 21
number_of Closed = 22
number_of Snapshot = 23
number_of Term = 24

-- the template of a number
abbrev pub template_of : ℕ → Option Template
template_of n =
    if n == 1 then Some Message else
    (if n == 20 then Some Timer else
    (if n == 21 then Some Opened else
    (if n == 22 then Some Closed else
    (if n == 23 then Some Snapshot else
    (if n == 24 then Some Term else None)))))

-- a term, a position or a stamp: 0 to 2^62
abbrev pub number : Rule
number = Wide (pos 0) (pos (2 ^ 62))

-- a client's session: at least 1
abbrev pub client : Rule
client = Wide (pos 1) (pos (2 ^ 63 - 1))

-- the numbers of the block, in rising place
abbrev pub rules_of : Template → List Rule
-- term, session, stamp
rules_of Message = number ∷ Sender ∷ number ∷ []
-- term, correlation id, stamp
rules_of Timer = number ∷ AnyWide ∷ number ∷ []
-- term, correlation id, session, stamp, response stream
rules_of Opened = number ∷ AnyWide ∷ client ∷ number ∷ AnyNarrow ∷ []
-- term, session, stamp, reason
rules_of Closed = number ∷ client ∷ number ∷ Narrow (pos 0) (pos 2) ∷ []
-- term, position, stamp, action 2
rules_of Snapshot = number ∷ number ∷ number ∷ Narrow (pos 2) (pos 2) ∷ []
-- term, position, stamp, the term's base, which is the position, the leader, the log's session 1
rules_of Term = number ∷ number ∷ number ∷ Repeat 16 ∷ Narrow (pos 0) (pos 4) ∷ Narrow (pos 1) (pos 1) ∷ []

-- what follows the block: a payload to the end, a response channel with its length, or nothing
abbrev pub tail_of : Template → Tail
tail_of Message = Rest 16384
tail_of Opened = Counted 1024
tail_of Timer = Nothing
tail_of Closed = Nothing
tail_of Snapshot = Nothing
tail_of Term = Nothing
