-- What stands behind an order's first word is its numbers and then the rest.
use Rattle.std.proofs.Common.{◌≡◌, ◌++◌, refl}
use Rattle.std.specs.Prelude.{decimal}
use Rattle.std.proofs.lemmas.List.{append-nil}
use Rattle.scenario.specs.declared.order.Order.{Order}
use Rattle.scenario.specs.declared.order.Order.TheVariants.{Members, Service, Rounds, Quiet, Connect, Send, SendHex, Close, KeepAlive, Raw, Action, Stop, Start, Invalidate, Fuse, Cut, Heal, Lose, Replay, FreeOn, FreeOff, Join, Offer, Backup, BackupOff, BackupLose}
use Rattle.scenario.specs.Printing.{two_text, numbers_text, rest_text, args_text}

pub parts_text : (o : Order) → numbers_text o ++ rest_text o ≡ args_text o
parts_text (Members line n) = append-nil (decimal n)
parts_text (Service line name) = refl
parts_text (Rounds line n) = append-nil (decimal n)
parts_text (Quiet line n) = append-nil (decimal n)
parts_text (Connect line c m) = append-nil (two_text c m)
parts_text (Send line c m text) = refl
parts_text (SendHex line c m payload) = refl
parts_text (Close line c m) = append-nil (two_text c m)
parts_text (KeepAlive line c m) = append-nil (two_text c m)
parts_text (Raw line c m bytes) = refl
parts_text (Action line m) = append-nil (decimal m)
parts_text (Stop line m) = append-nil (decimal m)
parts_text (Start line m) = append-nil (decimal m)
parts_text (Invalidate line m) = append-nil (decimal m)
parts_text (Fuse line m calls left) = refl
parts_text (Cut line a b) = append-nil (two_text a b)
parts_text (Heal line a b) = append-nil (two_text a b)
parts_text (Lose line a b) = append-nil (two_text a b)
parts_text (Replay line a b k) = refl
parts_text (FreeOn line) = refl
parts_text (FreeOff line) = refl
parts_text (Join line c) = append-nil (decimal c)
parts_text (Offer line c text) = refl
parts_text (Backup line m) = append-nil (decimal m)
parts_text (BackupOff line) = refl
parts_text (BackupLose line) = refl
