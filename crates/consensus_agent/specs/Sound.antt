-- What is true of a member that goes on, and of a row that it can run.
use Rattle.std.specs.Prelude.{◌≡◌, ⊤, ℕ, ◌+◌, ◌<◌, ◌≤◌, ◌^◌, ℤ, pos, ◌<ℤ◌, ◌≤ℤ◌, Bool, true, false, ◌&&◌, ◌||◌, not, IsTrue, IfSome, Option, length}
use Rattle.entry_log.specs.Log.{Log}
use Rattle.entry_log.specs.Shape.{shape_of}
use Rattle.election.specs.declared.member.State.{State}
use Rattle.node_state.specs.Node.{Node, raised}
use Rattle.member_disk.specs.Kept.{Kept}
use Rattle.member_module.specs.Held.{Held as ModuleHeld}
use Rattle.consensus_core.specs.declared.change.Change.{Change}
use Rattle.consensus_core.specs.declared.change.Change.TheVariants as changes
use Rattle.consensus_core.specs.declared.values.Values.{Values}
use Rattle.consensus_core.specs.Fit.{IsFit}
use Rattle.consensus_core.specs.Member.{is_ready}
use Rattle.consensus_core.specs.Standing.{Standing, CanFollow, changed_shape}

-- the values name the candidate term and the member voted for that are on the disk
pub record NamesVote (v : Values) (n : Node) : Type 0 where
  pub candidate : v.election.candidate ≡ n.term
  pub voted : v.election.voted ≡ n.voted

-- the module has the log's entries ahead past those that it consumed, by their number
abbrev pub HasAhead : ModuleHeld → Log → Type 0
HasAhead m log = m.consumed + length m.ahead.entries ≡ length log

-- the disk goes on, the values stand to what it keeps, and the module is within the commit
pub record IsSound (v : Values) (k : Kept) (whole : Bool) (m : ModuleHeld) : Type 0 where
  pub disk : IsTrue whole
  pub standing : Standing v (shape_of k.log)
  pub fit : IsFit v.election
  pub vote : NamesVote v k.node
  pub consumed : m.consumed ≤ v.rest.commit
  pub ahead : HasAhead m k.log

-- a raise that the disk can make: above the candidate term, for nobody or for a member of a cluster
pub record CanRaise (term : ℤ) (voted : Option ℕ) (n : Node) : Type 0 where
  pub above : n.term <ℤ term
  pub high : term ≤ℤ pos (2 ^ 62)
  pub member : IfSome voted (λ m. m < 5)

-- a change that the disk can make, by which the first entries stay
abbrev pub CanChange : Change → ℕ → Kept → Type 0
CanChange changes.Nothing first k = ⊤
CanChange (changes.Raise term voted) first k = CanRaise term voted k.node
CanChange (changes.Append entries) first k = CanFollow (shape_of k.log) entries
CanChange (changes.Cut n) first k = (first ≤ n) × (n ≤ length k.log)

-- the node after a change
abbrev pub changed_node : Change → Node → Node
changed_node (changes.Raise term voted) n = raised n term voted
changed_node _ n = n

-- a row with these values whose change the disk can make, after which the values stand to what is kept
pub record CanRun (change : Change) (v : Values) (k : Kept) (consumed : ℕ) : Type 0 where
  pub can : CanChange change consumed k
  pub standing : Standing v (changed_shape change (shape_of k.log))
  pub fit : IsFit v.election
  pub vote : NamesVote v (changed_node change k.node)
  pub low : consumed ≤ v.rest.commit

abbrev pub is_cut : Change → Bool
is_cut (changes.Cut n) = true
is_cut _ = false

-- a row ends the phase that runs: the log was cut, or the member became ready to lead
abbrev pub ends_phase : Bool → Change → State → Bool
ends_phase was_ready change state = is_cut change || (is_ready state && not was_ready)
