-- What a member says of an order of a client, or of an action: the clauses of `Agent::client` and of `Agent::action`, field by field, of what a driver has of it.
use Rattle.std.specs.Prelude.{◌≡◌, ℕ, Bool, IfSome, List, Option}
use Rattle.cl_base.specs.Disk.{DiskState}
use Rattle.wire_prims.specs.Fields.{IsBytes}
use Rattle.egress.specs.declared.sent.Sent.{Sent}
use Rattle.ingress.specs.declared.outcome.Outcome.{Outcome}
use Rattle.member_module.specs.Held.{at_end}
use Rattle.consensus_agent.specs.Accepted.{IsDecided, IsDecidedAction, IsDirect, Leaves, OnNothingNew, TookAction, TookClient, Tried}
use Rattle.run_orders.specs.Stands.{UpSeen}
use Rattle.member_rows.specs.Calls.{GoesOn}

-- what no order changes: clauses `services`, `base`, `role`, `values` and `over`
pub record Stays {D : Type 0} (u v : UpSeen D) : Type 0 where
  pub services : v.lending ≡ u.lending
  pub base : v.base ≡ u.base
  pub role : v.role ≡ u.role
  pub values : v.core.values ≡ u.core.values
  pub over : v.over ≡ u.over

module _ {D : Type 0} (state : D → DiskState) (is_told is_honest : D → Bool) where
  -- ---- a client's message

  -- its bytes, of a slice of u8, were taken at this moment (ms) with this outcome and this answer
  pub record ClientTaken (bytes : List ℕ) (now : ℕ) (o : Outcome) (answer : Option Sent) (u v : UpSeen D) : Type 0 where
    pub octets : IsBytes bytes
    pub stays : Stays u v
    pub took : TookClient state is_told is_honest u.core.values bytes now o u.disk v.disk u.module_held v.module_held
    pub untouched : OnNothingNew o (v.disk ≡ u.disk)
    pub direct : IfSome answer IsDirect
    pub leaves : Leaves o u.core.values.election.term u.disk.kept v.disk.kept
    -- clause `whole`, with the ghost field `sound`
    pub whole : GoesOn v
    -- clause `was_whole`, with the ghost field `sound`
    pub sound : GoesOn u

  -- a call of its disk failed: the answer is Err, and not NoMemory
  pub record ClientFailed (bytes : List ℕ) (now : ℕ) (u v : UpSeen D) : Type 0 where
    pub octets : IsBytes bytes
    pub stays : Stays u v
    -- clause `was_whole`, with the ghost field `sound`
    pub sound : GoesOn u
    pub tried : Tried state is_told is_honest (λ w. IsDecided w bytes now) u.core.values u.module_held u.disk v.disk

  -- ---- an action

  -- it was taken at this moment (ms) with this outcome
  pub record ActionTaken (now : ℕ) (o : Outcome) (u v : UpSeen D) : Type 0 where
    pub stays : Stays u v
    pub took : TookAction state is_told is_honest u.core.values now o u.disk v.disk u.module_held v.module_held
    pub untouched : OnNothingNew o (v.disk ≡ u.disk)
    pub leaves : Leaves o u.core.values.election.term u.disk.kept v.disk.kept
    -- clause `whole`, with the ghost field `sound`
    pub whole : GoesOn v
    -- clause `was_whole`, with the ghost field `sound`
    pub sound : GoesOn u

  -- a call of its disk failed: the answer is Err, and not NoMemory
  pub record ActionFailed (now : ℕ) (u v : UpSeen D) : Type 0 where
    pub stays : Stays u v
    -- clause `was_whole`, with the ghost field `sound`
    pub sound : GoesOn u
    pub tried : Tried state is_told is_honest (λ w. IsDecidedAction w (at_end u.module_held) now) u.core.values u.module_held u.disk v.disk
