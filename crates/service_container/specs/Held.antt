-- A container as contracts see it, and what it may do.
use Rattle.std.specs.Prelude.{◌≡◌, ℕ, ◌+◌, Bool, true, List, [], ◌++◌, length}
use Rattle.cl_base.specs.declared.entry.Entry.{Entry}
use Rattle.service_api.specs.declared.output.Output.{Output}
use Rattle.service_api.specs.declared.shipped.Shipped.{Shipped}
use Rattle.service_api.specs.Service.{state_from, outbox_from}
use Rattle.commit_counter.specs.Ends.{Polled}
use Rattle.service_container.specs.Records.{records_from}

-- which service, the index at which it began, what it consumed since, its state, what came out since its outbox was emptied last, the records that it left, and whether all that it consumed was applied
pub record Held : Type 0 where
  pub service : ℕ
  pub base : ℕ
  pub inputs : List Entry
  pub state : Shipped
  pub outbox : List (ℕ × Output)
  pub records : List (ℕ × List ℕ)
  pub whole : Bool

-- the index of the first entry that it has not consumed
abbrev pub consumed_to : Held → ℕ
consumed_to c = c.base + length c.inputs

-- a container that has consumed nothing yet
abbrev pub begun : ℕ → ℕ → Shipped → Held
begun service base state = record { service = service; base = base; inputs = []; state = state; outbox = []; records = []; whole = true }

-- these entries were consumed, and applied where the container is still whole
pub record Applies (c d : Held) (more : List Entry) : Type 0 where
  pub service : d.service ≡ c.service
  pub base : d.base ≡ c.base
  pub inputs : d.inputs ≡ c.inputs ++ more
  pub state : d.whole ≡ true → d.state ≡ state_from c.state (consumed_to c) more
  pub outbox : d.whole ≡ true → d.outbox ≡ c.outbox ++ outbox_from c.state (consumed_to c) more
  pub records : d.whole ≡ true → d.records ≡ c.records ++ records_from c.state (consumed_to c) more

-- these entries were polled, of the same image
pub record Polls (p q : Polled) (more : List Entry) : Type 0 where
  pub name : q.name ≡ p.name
  pub start : q.start ≡ p.start
  pub list : q.list ≡ p.list ++ more

-- what was polled in between was consumed, in order
abbrev pub Consumes : Held → Polled → Held → Polled → Type 0
Consumes c p d q = (more : List Entry) × Applies c d more × Polls p q more
