-- What becomes of a member that is asked something, and what it gives.
use Rattle.std.specs.Prelude.{◌≡◌, ℕ, Bool, List, [], ◌++◌, length, Option, Some, None}
use Rattle.cl_base.specs.Disk.{DiskState}
use Rattle.cl_base.specs.declared.entry.Entry.{Entry}
use Rattle.egress.specs.Streams.{StreamSeen, sent_more}
use Rattle.egress.specs.declared.sent.Sent.{Sent}
use Rattle.ingress.specs.declared.outcome.Outcome.{Outcome}
use Rattle.sbe_consensus.specs.Spelling.{first_fault}
use Rattle.sbe_consensus.specs.declared.packet.Outgoing.{Outgoing}
use Rattle.consensus_agent.specs.declared.rows.Delivered.{Delivered}
use Rattle.consensus_agent.specs.declared.rows.Delivered.TheVariants as delivered
use Rattle.run_orders.specs.Stands.{UpSeen}
use Rattle.member_rows.specs.Calls.{PacketCut, PacketDone, RowCut, RowDone, Unchanged, duty_row}
use Rattle.member_asks.specs.Clauses.{ActionFailed, ActionTaken, ClientFailed, ClientTaken}
use Rattle.run_outside.specs.Gives.{newly, with_packets}
use Rattle.run_outside.specs.declared.outside.Outside.{Outside}
use Rattle.run_seats.specs.declared.asking.Asking.{Asking}
use Rattle.run_seats.specs.declared.asking.Asking.TheVariants as asking
use Rattle.run_seats.specs.declared.asking.Given.{Given}

-- the packets of a delivery: none where its bytes are called bad
abbrev pub packets_of : Delivered → List Outgoing
packets_of (delivered.Sent out) = out
packets_of (delivered.Bad bad) = []

-- ---- what a call makes of the member

module _ {D : Type 0} (state : D → DiskState) (is_told is_honest : D → Bool) where
  -- bytes were taken as a packet, whose row was done; or they are called bad, by their first fault, and changed nothing
  abbrev pub TookBytes : List ℕ → ℕ → UpSeen D → UpSeen D → Delivered → Type 0
  TookBytes bytes now u v (delivered.Sent out) = PacketDone state is_told is_honest bytes now u v out
  TookBytes bytes now u v (delivered.Bad bad) = Unchanged u v × (first_fault bytes ≡ Some bad)

  -- an order of a client was taken, with this outcome and this answer
  abbrev pub TookOrder : List ℕ → ℕ → UpSeen D → UpSeen D → Outcome × Option Sent → Type 0
  TookOrder bytes now u v r = ClientTaken state is_told is_honest bytes now r.0 r.1 u v

  -- what was asked was taken at this moment (ms), and gives this
  abbrev pub Took : Asking → ℕ → UpSeen D → UpSeen D → Given → Type 0
  Took (asking.Packet bytes) now u v g = (d : Delivered) × (TookBytes bytes.now now u v d × (g ≡ record { packets = packets_of d; answer = None; outcome = None }))
  Took asking.Duty now u v g = RowDone state is_told is_honest (duty_row u now) now u v g.packets × (g.answer ≡ None) × (g.outcome ≡ None)
  Took (asking.Client bytes) now u v g = (o : Outcome) × (ClientTaken state is_told is_honest bytes.now now o g.answer u v × (g.packets ≡ []) × (g.outcome ≡ Some o))
  Took asking.Action now u v g = (o : Outcome) × (ActionTaken state is_told is_honest now o u v × (g ≡ record { packets = []; answer = None; outcome = Some o }))

  -- a fault of the disk cut it
  abbrev pub Fell : Asking → ℕ → UpSeen D → UpSeen D → Type 0
  Fell (asking.Packet bytes) now u v = PacketCut state is_told is_honest bytes.now now u v
  Fell asking.Duty now u v = RowCut state is_told is_honest (duty_row u now) u v
  Fell (asking.Client bytes) now u v = ClientFailed state is_told is_honest bytes.now now u v
  Fell asking.Action now u v = ActionFailed state is_told is_honest now u v

-- ---- and what of the outside

-- what a client gets that no entry owes goes to its stream, where there is something
abbrev pub with_answer : Option Sent → List StreamSeen → List StreamSeen
with_answer None streams = streams
with_answer (Some answer) streams = sent_more answer streams

-- what a member has committed is printed
abbrev pub with_printed : {D : Type 0} → UpSeen D → List Entry → List Entry
with_printed v printed = printed ++ newly v.module_held.consumed v.module_held.ahead.entries v.core.values.rest.commit (length printed)

-- a member of this number gave this
pub record Gave (from : ℕ) (g : Given) (a b : Outside) : Type 0 where
  pub net : b.net ≡ with_packets from g.packets a.net
  pub egress : b.egress ≡ with_answer g.answer a.egress

module _ {D : Type 0} (state : D → DiskState) (is_told is_honest : D → Bool) where
  -- the member of a number was asked this at a moment (ms): it was taken, what that gives was given, and what the member has committed is printed
  pub record Asked (from now : ℕ) (what : Asking) (u v : UpSeen D) (outcome : Option Outcome) (a b : Outside) : Type 0 where
    pub gives : Given
    pub told : outcome ≡ gives.outcome
    pub took : Took state is_told is_honest what now u v gives
    pub gave : Gave from gives a b
    pub printed : b.printed ≡ with_printed v a.printed

  -- a fault of its disk cut the call, and nothing was given
  pub record Cut (now : ℕ) (what : Asking) (u v : UpSeen D) (a b : Outside) : Type 0 where
    pub fell : Fell state is_told is_honest what now u v
    pub silent : b ≡ a
