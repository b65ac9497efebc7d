-- What a line spells: an order, with numbers of any size.
use Rattle.std.specs.Prelude.{ℕ, ◌==◌, List, length, if◌then◌else◌, Option, Some, None, Result, Ok, Err, codes, bytes_eq}
use Rattle.scenario.specs.declared.fault.Cause.{Cause}
use Rattle.scenario.specs.declared.fault.Cause.TheVariants.{UnknownOrder, Arguments}
use Rattle.scenario.specs.declared.order.Order.{Order}
use Rattle.scenario.specs.declared.order.Order.TheVariants as order
use Rattle.scenario.specs.declared.keyword.Single.{Single}
use Rattle.scenario.specs.declared.keyword.Single.TheVariants as single
use Rattle.scenario.specs.declared.keyword.Double.{Double}
use Rattle.scenario.specs.declared.keyword.Double.TheVariants as double
use Rattle.scenario.specs.declared.keyword.Keyword.{Keyword}
use Rattle.scenario.specs.declared.keyword.Keyword.TheVariants as keyword
use Rattle.scenario.specs.Result.{◌>>=◌}
use Rattle.scenario.specs.Words.{cut_word, number, number_and_rest, two_numbers, two_and_rest, hex, choice, named}
use Rattle.scenario.specs.Keywords.{keyword_of}

-- `send C M TEXT`: the text is all behind the third space, and not empty
unfoldable pub send_of : ℕ → List ℕ → Result Order Cause
send_of line args = do
  parts ← two_and_rest args
  if length parts.2 == 0 then Err Arguments else Ok (order.Send line parts.0 parts.1 parts.2)

-- `sendhex C M HEX`
unfoldable pub sendhex_of : ℕ → List ℕ → Result Order Cause
sendhex_of line args = do
  parts ← two_and_rest args
  payload ← hex parts.2
  Ok (order.SendHex line parts.0 parts.1 payload)

-- `bytes C M HEX`
unfoldable pub raw_of : ℕ → List ℕ → Result Order Cause
raw_of line args = do
  parts ← two_and_rest args
  bytes ← hex parts.2
  Ok (order.Raw line parts.0 parts.1 bytes)

-- `fuse M K CHOICE`
unfoldable pub fuse_of : ℕ → List ℕ → Result Order Cause
fuse_of line args = do
  parts ← two_and_rest args
  left ← choice parts.2
  Ok (order.Fuse line parts.0 parts.1 left)

-- `replay A B K`
unfoldable pub replay_of : ℕ → List ℕ → Result Order Cause
replay_of line args = do
  parts ← two_and_rest args
  latest ← number parts.2
  Ok (order.Replay line parts.0 parts.1 latest)

-- `free on`, `free off`
unfoldable pub free_of : ℕ → List ℕ → Result Order Cause
free_of line args = if bytes_eq args (codes "on") then Ok (order.FreeOn line) else (if bytes_eq args (codes "off") then Ok (order.FreeOff line) else Err Arguments)

-- `offer C TEXT`: the text is all behind the second space, and not empty
unfoldable pub offer_of : ℕ → List ℕ → Result Order Cause
offer_of line args = do
  parts ← number_and_rest args
  if length parts.1 == 0 then Err Arguments else Ok (order.Offer line parts.0 parts.1)

-- `backup M`, `backup off`, `backup lose`
unfoldable pub backup_of : ℕ → List ℕ → Result Order Cause
backup_of line args = if bytes_eq args (codes "off") then Ok (order.BackupOff line) else (if bytes_eq args (codes "lose") then Ok (order.BackupLose line) else (number args >>= λ m. Ok (order.Backup line m)))

-- the order of one number
abbrev pub single_order : ℕ → Single → ℕ → Order
single_order line single.Members n = order.Members line n
single_order line single.Rounds n = order.Rounds line n
single_order line single.Quiet n = order.Quiet line n
single_order line single.Action n = order.Action line n
single_order line single.Stop n = order.Stop line n
single_order line single.Start n = order.Start line n
single_order line single.Invalidate n = order.Invalidate line n
single_order line single.Join n = order.Join line n

-- the order of two numbers
abbrev pub double_order : ℕ → Double → ℕ → ℕ → Order
double_order line double.Connect a b = order.Connect line a b
double_order line double.Close a b = order.Close line a b
double_order line double.KeepAlive a b = order.KeepAlive line a b
double_order line double.Cut a b = order.Cut line a b
double_order line double.Heal a b = order.Heal line a b
double_order line double.Lose a b = order.Lose line a b

-- the order of a first word and the text behind its space
unfoldable pub order_of : ℕ → Keyword → List ℕ → Result Order Cause
order_of line (keyword.One k) args = number args >>= λ n. Ok (single_order line k n)
order_of line (keyword.Two k) args = two_numbers args >>= λ ns. Ok (double_order line k ns.0 ns.1)
order_of line keyword.Service args = named args >>= λ name. Ok (order.Service line name)
order_of line keyword.Send args = send_of line args
order_of line keyword.SendHex args = sendhex_of line args
order_of line keyword.Raw args = raw_of line args
order_of line keyword.Fuse args = fuse_of line args
order_of line keyword.Replay args = replay_of line args
order_of line keyword.Free args = free_of line args
order_of line keyword.Offer args = offer_of line args
order_of line keyword.Backup args = backup_of line args

-- a first word that may be none of them, and the text behind its space where there is one
unfoldable pub order_after : ℕ → Option Keyword → List ℕ → Result Order Cause
order_after line None args = Err UnknownOrder
order_after line (Some k) args = order_of line k args

-- no order is one word alone
unfoldable pub order_alone : Option Keyword → Result Order Cause
order_alone None = Err UnknownOrder
order_alone (Some k) = Err Arguments

abbrev pub order_by : ℕ → List ℕ → Option (List ℕ × List ℕ) → Result Order Cause
order_by line text None = order_alone (keyword_of text)
order_by line text (Some parts) = order_after line (keyword_of parts.0) parts.1

-- the order that a line's text spells
unfoldable pub spelled : ℕ → List ℕ → Result Order Cause
spelled line text = order_by line text (cut_word text)
