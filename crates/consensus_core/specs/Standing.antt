-- What a member's values have to do with its log, and that its disk can make each row's change.
use Rattle.std.specs.Prelude.{◌≡◌, ℕ, ◌<◌, ◌≤◌, ◌^◌, ℤ, pos, ◌≤ℤ◌, ◌<ℤ◌, true, All, IfSome, List, [], ◌∷◌, ◌++◌, length, take, Option}
use Rattle.entry_log.specs.Log.{Log}
use Rattle.entry_log.specs.Batches.{is_batch}
use Rattle.entry_log.specs.Shape.{Shape, shape_of, end_of, last_term_of, TermsRiseFrom}
use Rattle.election.specs.declared.member.State.TheVariants.{LeaderInit, LeaderReady}
use Rattle.sbe_events.specs.declared.event.Event.{Event}
use Rattle.sbe_events.specs.Spelling.{HasSpelling as IsEvent, term_of}
use Rattle.sbe_consensus.specs.declared.packet.Packet.{Packet}
use Rattle.sbe_consensus.specs.Spelling.{HasSpelling as IsPacket, AreEntries}
use Rattle.consensus_core.specs.declared.change.Change.{Change}
use Rattle.consensus_core.specs.declared.change.Change.TheVariants as changes
use Rattle.consensus_core.specs.declared.row.Row.{Row}
use Rattle.consensus_core.specs.declared.values.Values.{Values}
use Rattle.consensus_core.specs.Fit.{IsFit, is_balloting, started}
use Rattle.consensus_core.specs.Reign.{does_duty}
use Rattle.consensus_core.specs.Sendable.{receives}

-- the commit is within the log, and the log within its limit; who stands for election or is elected has no entry of that
-- term yet, and who leads has its term's as the last
pub record Standing (v : Values) (xs : Shape) : Type 0 where
  pub commit : v.rest.commit ≤ length xs
  pub place : end_of xs ≤ 16777216
  pub stood : is_balloting v.election.state ≡ true → last_term_of xs <ℤ v.election.candidate
  pub elected : v.election.state ≡ LeaderInit → last_term_of xs <ℤ v.election.term
  pub leads : v.election.state ≡ LeaderReady → last_term_of xs ≡ v.election.term

-- the shape of a log after a change
abbrev pub changed_shape : Change → Shape → Shape
changed_shape changes.Nothing xs = xs
changed_shape (changes.Raise term voted) xs = xs
changed_shape (changes.Append entries) xs = xs ++ shape_of entries
changed_shape (changes.Cut n) xs = take n xs

-- entries that can go behind a log of this shape: one batch of events, whose terms don't fall, within the log's limit
pub record CanFollow (xs : Shape) (entries : Log) : Type 0 where
  pub some : 0 < length entries
  pub batch : is_batch (end_of xs) (shape_of entries) ≡ true
  pub end : end_of (xs ++ shape_of entries) ≤ 16777216
  pub rises : TermsRiseFrom (last_term_of xs) (shape_of entries)
  pub events : AreEntries entries

-- the values name the candidate term and the member voted for that are on the disk: those stay
pub record SameVote (old new : Values) : Type 0 where
  pub candidate : new.election.candidate ≡ old.election.candidate
  pub voted : new.election.voted ≡ old.election.voted

-- or they are raised
pub record IsRaise (term : ℤ) (voted : Option ℕ) (old new : Values) : Type 0 where
  pub above : old.election.candidate <ℤ term
  pub high : term ≤ℤ pos (2 ^ 62)
  pub member : IfSome voted (λ m. m < 5)
  pub candidate : new.election.candidate ≡ term
  pub choice : new.election.voted ≡ voted

-- the change can be made on a disk with a log of this shape
abbrev pub CanMake : Change → Values → Values → Shape → Type 0
CanMake changes.Nothing old new xs = SameVote old new
CanMake (changes.Raise term voted) old new xs = IsRaise term voted old new
CanMake (changes.Append entries) old new xs = SameVote old new × CanFollow xs entries
CanMake (changes.Cut n) old new xs = SameVote old new × (new.rest.commit ≤ n) × (n ≤ length xs)

-- the row's change can be made, and the member's values stand to its log as before
abbrev pub RowFits : Values → Shape → Row → Type 0
RowFits v xs row = CanMake row.change v row.values xs × Standing row.values (changed_shape row.change xs)

-- of each packet's row
abbrev pub PacketsFit : Type 0
PacketsFit = (v : Values) (xs : Shape) (p : Packet) (now : ℕ) → Standing v xs → IsFit v.election → IsPacket p → RowFits v xs (receives v xs p now)

-- of each duty's, with due events of the member's term
abbrev pub DutiesFit : Type 0
DutiesFit = (v : Values) (xs : Shape) (due : List Event) (now : ℕ) → Standing v xs → IsFit v.election → now ≤ 2 ^ 60 → All IsEvent due → All (λ e. term_of e ≡ v.election.term) due
    → RowFits v xs (does_duty v xs due now)

-- and of one that starts
abbrev pub StartsFit : Type 0
StartsFit = (id members : ℕ) (candidate : ℤ) (voted : Option ℕ) (commit : ℕ) (xs : Shape) → commit ≤ length xs → end_of xs ≤ 16777216 → Standing (started id members candidate voted commit).values xs
