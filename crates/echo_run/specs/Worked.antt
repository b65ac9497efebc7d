-- A run worked by hand: one member, one client, one message that comes back.
use Rattle.std.specs.Prelude.{ℕ, List, [], ◌∷◌, ◌++◌, codes}
use Rattle.scenario.specs.declared.order.Named.TheVariants.{Echo}
use Rattle.scenario.specs.declared.order.Order.{Order}
use Rattle.scenario.specs.declared.order.Order.TheVariants as order
use Rattle.line_text.specs.Pieces.{newline}

-- the orders of lines 1 to 7
abbrev pub worked_orders : List Order
worked_orders =
    order.Members 1 1
    ∷ order.Service 2 Echo
    ∷ order.Rounds 3 40
    ∷ order.Connect 4 0 0
    ∷ order.Rounds 5 1
    ∷ order.Send 6 0 0 (codes "hi")
    ∷ order.Rounds 7 1
    ∷ []

abbrev pub line : List ℕ → List ℕ
line words = words ++ newline

-- what the run writes, line by line
abbrev pub worked_text : List ℕ
worked_text =
    line (codes "order 4 accepted 1")
    ++ line (codes "order 6 accepted 2")
    ++ line (codes "log 3")
    ++ line (codes "entry 0 0 term leader 0 base 0 ts 340")
    ++ line (codes "entry 1 0 open 1 stream 0 corr 1 ts 400 channel -")
    ++ line (codes "entry 2 0 message 1 ts 410 6869")
    ++ line (codes "service 0 0 run 1 from 0 count 3")
    ++ line (codes "in 0 0 term leader 0 base 0 ts 340")
    ++ line (codes "in 1 0 open 1 stream 0 corr 1 ts 400 channel -")
    ++ line (codes "in 2 0 message 1 ts 410 6869")
    ++ line (codes "stream 0 egress 2")
    ++ line (codes "out 1 module 200002006f000000010000000000000001000000000000000000000000000000000000000000000000000000")
    ++ line (codes "out 2 service 0 0 180001006f000000000000000000000001000000000000009a010000000000006869")
    ++ line (codes "member 0 up candidate 0 entries 3 same 3 commit 3 snapshots 0")
    ++ line (codes "done")
