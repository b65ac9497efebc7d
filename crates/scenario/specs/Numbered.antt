-- Orders under other line numbers.
use Rattle.std.specs.Prelude.{ℕ, ◌+◌, List, [], ◌∷◌}
use Rattle.scenario.specs.declared.order.Order.{Order}
use Rattle.scenario.specs.declared.order.Order.TheVariants as order

-- the same order on another line
abbrev pub at_line : ℕ → Order → Order
at_line l (order.Members line n) = order.Members l n
at_line l (order.Service line name) = order.Service l name
at_line l (order.Rounds line n) = order.Rounds l n
at_line l (order.Quiet line n) = order.Quiet l n
at_line l (order.Connect line a b) = order.Connect l a b
at_line l (order.Send line a b text) = order.Send l a b text
at_line l (order.SendHex line a b payload) = order.SendHex l a b payload
at_line l (order.Close line a b) = order.Close l a b
at_line l (order.KeepAlive line a b) = order.KeepAlive l a b
at_line l (order.Raw line a b bytes) = order.Raw l a b bytes
at_line l (order.Action line n) = order.Action l n
at_line l (order.Stop line n) = order.Stop l n
at_line l (order.Start line n) = order.Start l n
at_line l (order.Invalidate line n) = order.Invalidate l n
at_line l (order.Fuse line a b left) = order.Fuse l a b left
at_line l (order.Cut line a b) = order.Cut l a b
at_line l (order.Heal line a b) = order.Heal l a b
at_line l (order.Lose line a b) = order.Lose l a b
at_line l (order.Replay line a b k) = order.Replay l a b k
at_line l (order.FreeOn line) = order.FreeOn l
at_line l (order.FreeOff line) = order.FreeOff l
at_line l (order.Join line c) = order.Join l c
at_line l (order.Offer line c text) = order.Offer l c text
at_line l (order.Backup line n) = order.Backup l n
at_line l (order.BackupOff line) = order.BackupOff l
at_line l (order.BackupLose line) = order.BackupLose l

-- the same orders, one on each line from number l on
abbrev pub numbered : ℕ → List Order → List Order
numbered l [] = []
numbered l (o ∷ os) = at_line l o ∷ numbered (l + 1) os
