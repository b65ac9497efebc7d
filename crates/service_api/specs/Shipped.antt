-- The shipped services as one: a state of any of them is that of the service of its kind.
use Rattle.std.specs.Prelude.{ℕ, List, [], Result, Ok, Err}
use Rattle.wire_prims.specs.declared.fault.Bad.{Bad}
use Rattle.sbe_events.specs.declared.event.Event.{Event}
use Rattle.service_api.specs.declared.output.Output.{Output}
use Rattle.service_api.specs.declared.shipped.Kind.{Kind}
use Rattle.service_api.specs.declared.shipped.Kind.TheVariants as kinds
use Rattle.service_api.specs.declared.shipped.Shipped.{Shipped}
use Rattle.service_api.specs.declared.shipped.Shipped.TheVariants.{Echo, Ledger, Ticker}
use Rattle.service_api.specs.Echo.{echoed, restored_echo}
use Rattle.service_api.specs.Ledger.{Books, entered, spelled_books, restored_books}
use Rattle.service_api.specs.Ticker.{ticked, spelled_ids, restored_ids}

-- the service that a state is of
abbrev pub kind_of : Shipped → Kind
kind_of (Echo s) = kinds.Echo
kind_of (Ledger s) = kinds.Ledger
kind_of (Ticker s) = kinds.Ticker

-- the state before any event
abbrev pub first_of : Kind → Shipped
first_of kinds.Echo = Echo tt
first_of kinds.Ledger = Ledger (record { total = 0; audits = 0 })
first_of kinds.Ticker = Ticker []

-- the state after the event at an index, and what comes out
abbrev pub applied_of : Shipped → ℕ → Event → Shipped × List Output
applied_of (Echo s) i e = (Echo s, echoed e)
applied_of (Ledger s) i e = (Ledger (entered s e).0, (entered s e).1)
applied_of (Ticker s) i e = (Ticker (ticked s e).0, (ticked s e).1)

-- the bytes of its records
abbrev pub spelled_of : Shipped → List ℕ
spelled_of (Echo s) = []
spelled_of (Ledger s) = spelled_books s
spelled_of (Ticker s) = spelled_ids s

-- a state that was read, or the fault
abbrev pub read_as : {S : Type 0} → (S → Shipped) → Result S Bad → Result Shipped Bad
read_as make (Ok s) = Ok (make s)
read_as make (Err b) = Err b

-- the state that bytes are the records of, or their first fault
abbrev pub restored_of : Kind → List ℕ → Result Shipped Bad
restored_of kinds.Echo bytes = read_as Echo (restored_echo bytes)
restored_of kinds.Ledger bytes = read_as Ledger (restored_books bytes)
restored_of kinds.Ticker bytes = read_as Ticker (restored_ids bytes)
