-- Orders as text.
use Rattle.std.specs.Prelude.{ℕ, ◌+◌, ◌/◌, ◌%◌, nat_lt, List, [], ◌∷◌, ◌++◌, if◌then◌else◌, codes, flat_map, decimal}
use Rattle.cl_base.specs.declared.disk.Choice.{Choice}
use Rattle.cl_base.specs.declared.disk.Choice.TheVariants as choice
use Rattle.scenario.specs.declared.order.Named.{Named}
use Rattle.scenario.specs.declared.order.Named.TheVariants.{Echo, Ledger, Ticker}
use Rattle.scenario.specs.declared.order.Order.{Order}
use Rattle.scenario.specs.declared.order.Order.TheVariants.{Members, Service, Rounds, Quiet, Connect, Send, SendHex, Close, KeepAlive, Raw, Action, Stop, Start, Invalidate, Fuse, Cut, Heal, Lose, Replay, FreeOn, FreeOff, Join, Offer, Backup, BackupOff, BackupLose}
use Rattle.scenario.specs.declared.keyword.Single.TheVariants as single
use Rattle.scenario.specs.declared.keyword.Double.TheVariants as double
use Rattle.scenario.specs.declared.keyword.Keyword.{Keyword}
use Rattle.scenario.specs.declared.keyword.Keyword.TheVariants as keyword
use Rattle.scenario.specs.Keywords.{keyword_text}

-- the hexadecimal digit of a number below 16
abbrev pub glyph : ℕ → ℕ
glyph d = if nat_lt d 10 then 48 + d else 87 + d

-- the two digits of a byte
abbrev pub byte_text : ℕ → List ℕ
byte_text b = glyph (b / 16) ∷ glyph (b % 16) ∷ []

-- two digits for each byte, or a dash for none
abbrev pub hex_text : List ℕ → List ℕ
hex_text [] = codes "-"
hex_text (b ∷ bs) = flat_map byte_text (b ∷ bs)

abbrev pub choice_text : Choice → List ℕ
choice_text choice.Drop = codes "drop"
choice_text choice.Keep = codes "keep"
choice_text (choice.Fill x) = byte_text x

abbrev pub name_text : Named → List ℕ
name_text Echo = codes "echo"
name_text Ledger = codes "ledger"
name_text Ticker = codes "ticker"

-- two numbers, a space between them
abbrev pub two_text : ℕ → ℕ → List ℕ
two_text a b = decimal a ++ 32 ∷ decimal b

-- the first word of an order
abbrev pub keyword_for : Order → Keyword
keyword_for (Members line n) = keyword.One single.Members
keyword_for (Service line name) = keyword.Service
keyword_for (Rounds line n) = keyword.One single.Rounds
keyword_for (Quiet line n) = keyword.One single.Quiet
keyword_for (Connect line c m) = keyword.Two double.Connect
keyword_for (Send line c m text) = keyword.Send
keyword_for (SendHex line c m payload) = keyword.SendHex
keyword_for (Close line c m) = keyword.Two double.Close
keyword_for (KeepAlive line c m) = keyword.Two double.KeepAlive
keyword_for (Raw line c m bytes) = keyword.Raw
keyword_for (Action line m) = keyword.One single.Action
keyword_for (Stop line m) = keyword.One single.Stop
keyword_for (Start line m) = keyword.One single.Start
keyword_for (Invalidate line m) = keyword.One single.Invalidate
keyword_for (Fuse line m calls left) = keyword.Fuse
keyword_for (Cut line a b) = keyword.Two double.Cut
keyword_for (Heal line a b) = keyword.Two double.Heal
keyword_for (Lose line a b) = keyword.Two double.Lose
keyword_for (Replay line a b k) = keyword.Replay
keyword_for (FreeOn line) = keyword.Free
keyword_for (FreeOff line) = keyword.Free
keyword_for (Join line c) = keyword.One single.Join
keyword_for (Offer line c text) = keyword.Offer
keyword_for (Backup line m) = keyword.Backup
keyword_for (BackupOff line) = keyword.Backup
keyword_for (BackupLose line) = keyword.Backup

-- the numbers of an order, a space between them
abbrev pub numbers_text : Order → List ℕ
numbers_text (Members line n) = decimal n
numbers_text (Service line name) = []
numbers_text (Rounds line n) = decimal n
numbers_text (Quiet line n) = decimal n
numbers_text (Connect line c m) = two_text c m
numbers_text (Send line c m text) = two_text c m
numbers_text (SendHex line c m payload) = two_text c m
numbers_text (Close line c m) = two_text c m
numbers_text (KeepAlive line c m) = two_text c m
numbers_text (Raw line c m bytes) = two_text c m
numbers_text (Action line m) = decimal m
numbers_text (Stop line m) = decimal m
numbers_text (Start line m) = decimal m
numbers_text (Invalidate line m) = decimal m
numbers_text (Fuse line m calls left) = two_text m calls
numbers_text (Cut line a b) = two_text a b
numbers_text (Heal line a b) = two_text a b
numbers_text (Lose line a b) = two_text a b
numbers_text (Replay line a b k) = two_text a b
numbers_text (FreeOn line) = []
numbers_text (FreeOff line) = []
numbers_text (Join line c) = decimal c
numbers_text (Offer line c text) = decimal c
numbers_text (Backup line m) = decimal m
numbers_text (BackupOff line) = []
numbers_text (BackupLose line) = []

-- what stands behind an order's numbers
abbrev pub rest_text : Order → List ℕ
rest_text (Members line n) = []
rest_text (Service line name) = name_text name
rest_text (Rounds line n) = []
rest_text (Quiet line n) = []
rest_text (Connect line c m) = []
rest_text (Send line c m text) = 32 ∷ text
rest_text (SendHex line c m payload) = 32 ∷ hex_text payload
rest_text (Close line c m) = []
rest_text (KeepAlive line c m) = []
rest_text (Raw line c m bytes) = 32 ∷ hex_text bytes
rest_text (Action line m) = []
rest_text (Stop line m) = []
rest_text (Start line m) = []
rest_text (Invalidate line m) = []
rest_text (Fuse line m calls left) = 32 ∷ choice_text left
rest_text (Cut line a b) = []
rest_text (Heal line a b) = []
rest_text (Lose line a b) = []
rest_text (Replay line a b k) = 32 ∷ decimal k
rest_text (FreeOn line) = codes "on"
rest_text (FreeOff line) = codes "off"
rest_text (Join line c) = []
rest_text (Offer line c text) = 32 ∷ text
rest_text (Backup line m) = []
rest_text (BackupOff line) = codes "off"
rest_text (BackupLose line) = codes "lose"

-- what stands behind the first word and its space
abbrev pub args_text : Order → List ℕ
args_text (Members line n) = decimal n
args_text (Service line name) = name_text name
args_text (Rounds line n) = decimal n
args_text (Quiet line n) = decimal n
args_text (Connect line c m) = two_text c m
args_text (Send line c m text) = two_text c m ++ 32 ∷ text
args_text (SendHex line c m payload) = two_text c m ++ 32 ∷ hex_text payload
args_text (Close line c m) = two_text c m
args_text (KeepAlive line c m) = two_text c m
args_text (Raw line c m bytes) = two_text c m ++ 32 ∷ hex_text bytes
args_text (Action line m) = decimal m
args_text (Stop line m) = decimal m
args_text (Start line m) = decimal m
args_text (Invalidate line m) = decimal m
args_text (Fuse line m calls left) = two_text m calls ++ 32 ∷ choice_text left
args_text (Cut line a b) = two_text a b
args_text (Heal line a b) = two_text a b
args_text (Lose line a b) = two_text a b
args_text (Replay line a b k) = two_text a b ++ 32 ∷ decimal k
args_text (FreeOn line) = codes "on"
args_text (FreeOff line) = codes "off"
args_text (Join line c) = decimal c
args_text (Offer line c text) = decimal c ++ 32 ∷ text
args_text (Backup line m) = decimal m
args_text (BackupOff line) = codes "off"
args_text (BackupLose line) = codes "lose"

-- an order as a line, without its line feed
unfoldable pub order_text : Order → List ℕ
order_text o = keyword_text (keyword_for o) ++ 32 ∷ args_text o

-- one line for each order, each ended by a line feed
abbrev pub printed : List Order → List ℕ
printed orders = flat_map (λ o. order_text o ++ 10 ∷ []) orders
