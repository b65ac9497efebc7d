-- The clients that orders name: a client is either joined, and sends by itself, or orders send for it.
use Rattle.std.specs.Prelude.{ℕ, List, set, slice_index_or, Option, Some, None}
use Rattle.scenario.specs.declared.fault.Cause.{Cause}
use Rattle.scenario.specs.declared.fault.Cause.TheVariants as cause
use Rattle.scenario.specs.declared.naming.Naming.{Naming}
use Rattle.scenario.specs.declared.naming.Naming.TheVariants.{Sends, Joins, Offers}
use Rattle.scenario.specs.declared.naming.ClientUse.{ClientUse}
use Rattle.scenario.specs.declared.naming.ClientUse.TheVariants.{Unused, Ordered, Joined}
use Rattle.scenario.specs.declared.order.Order.{Order}
use Rattle.scenario.specs.declared.order.Order.TheVariants as order

-- how an order names a client, and the client's number
abbrev pub naming : Order → Option (Naming × ℕ)
naming (order.Connect line c m) = Some (Sends, c)
naming (order.Send line c m text) = Some (Sends, c)
naming (order.SendHex line c m payload) = Some (Sends, c)
naming (order.Close line c m) = Some (Sends, c)
naming (order.KeepAlive line c m) = Some (Sends, c)
naming (order.Raw line c m bytes) = Some (Sends, c)
naming (order.Join line c) = Some (Joins, c)
naming (order.Offer line c text) = Some (Offers, c)
naming _ = None

-- the cause by which a client so used keeps an order from naming it so
abbrev pub barred_by : ClientUse → Naming → Option Cause
barred_by Joined Sends = Some cause.Joined
barred_by Unused Joins = None
barred_by _ Joins = Some cause.Joined
barred_by Joined Offers = None
barred_by _ Offers = Some cause.NotJoined
barred_by _ Sends = None

-- what a client is used for once an order named it so
abbrev pub use_after : ClientUse → Naming → ClientUse
use_after before Sends = Ordered
use_after before Joins = Joined
use_after before Offers = before

-- what a client is used for
abbrev pub used : List ClientUse → ℕ → ClientUse
used clients c = slice_index_or clients c Unused

abbrev pub barred_naming : List ClientUse → Option (Naming × ℕ) → Option Cause
barred_naming clients None = None
barred_naming clients (Some named) = barred_by (used clients named.1) named.0

-- the cause by which the client that an order names keeps it from coming
abbrev pub barred : List ClientUse → Order → Option Cause
barred clients o = barred_naming clients (naming o)

abbrev pub used_naming : List ClientUse → Option (Naming × ℕ) → List ClientUse
used_naming clients None = clients
used_naming clients (Some named) = set clients named.1 (use_after (used clients named.1) named.0)

-- what each client is used for once an order more has come
abbrev pub clients_after : List ClientUse → Order → List ClientUse
clients_after clients o = used_naming clients (naming o)
