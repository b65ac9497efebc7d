-- What a listing tells, by what the disks' files stand for.
use Rattle.std.specs.Prelude.{◌≡◌, ◌⊎◌, ℕ, zero, suc, ◌≤◌, Bool, IsTrue, List, [], ◌∷◌, ◌++◌, map, Option, Some, None, ⊤}
use Rattle.cl_base.specs.Counts.{Rose}
use Rattle.cl_base.specs.Disk.{FileState, DiskState}
use Rattle.recording_log.specs.declared.entry.RecEntry.{RecEntry}
use Rattle.recording_log.specs.Entries.{Holds}
use Rattle.log_segment.specs.Held.{IsHeld}
use Rattle.member_disk.specs.Kept.{Kept, Held, ReadsLike}
use Rattle.line_text.specs.Written.{IsFront}
use Rattle.cluster_tool.specs.declared.status.ToolStatus.{ToolStatus}
use Rattle.cluster_tool.specs.declared.status.ToolStatus.TheVariants as status
use Rattle.cluster_tool.specs.Status.{status_text, IsRefusal}
use Rattle.cluster_tool.specs.Text.{describe_text, recording_text, verify_text}
use Rattle.cluster_tool.specs.Words.{Tool, Listing, describe, recording, verify}
use Rattle.cluster_tool.specs.Told.{Told}
use Rattle.cluster_tool.specs.declared.top.Single.{Single}
use Rattle.cluster_tool.specs.declared.top.Single.TheVariants as single
use Rattle.cluster_tool.specs.Disks.{IsSeen, IsRead, AllTell, AreSeen, AreRead, RoseAt, NoneOld, IsOldAt, NamesOld}

-- the files stand for this, with so many services
pub record StandFor (services : ℕ) (files : ℕ → FileState) (kept : Kept) : Type 0 where
  pub reads : ReadsLike kept files
  pub held : IsHeld kept.log
  pub as_many : kept.services ≡ services

-- a disk was mounted with so many services
pub record IsMounted {D : Type 0} (tells honest : D → Bool) (state : D → DiskState) (faults : D → ℕ) (services : ℕ) (old : D) (new : Held D) : Type 0 where
  pub whole : IsTrue new.whole
  pub disk : IsRead tells honest state faults old new.disk
  pub stands : IsTrue (tells old) → StandFor services (state old).files new.kept

-- a member with so many services: what its files stand for
pub record IsDescription (services : ℕ) (files : ℕ → FileState) (text : List ℕ) : Type 0 where
  pub kept : Kept
  pub stands : StandFor services files kept
  pub is : text ≡ describe_text kept

-- the entries of file 1, valid or not
pub record IsRecording (files : ℕ → FileState) (text : List ℕ) : Type 0 where
  pub entries : List RecEntry
  pub holds : Holds entries (files 1).reads
  pub is : text ≡ recording_text entries

-- the logs of two members
pub record IsVerification (first second : ℕ → FileState) (text : List ℕ) : Type 0 where
  pub one : Kept
  pub two : Kept
  pub first_stands : StandFor 1 first one
  pub second_stands : StandFor 1 second two
  pub is : text ≡ verify_text one.log two.log

-- the text of a listing of disks with these files
abbrev pub Lists : Listing → List (ℕ → FileState) → List ℕ → Type 0
Lists (describe services) (files ∷ []) text = IsDescription services files text
Lists recording (files ∷ []) text = IsRecording files text
Lists verify (first ∷ second ∷ []) text = IsVerification first second text
Lists _ _ text = ⊥

-- so many services each disk is mounted with
abbrev pub services_in : Listing → ℕ
services_in (describe services) = services
services_in recording = 1
services_in verify = 1

-- The disks before this one stand for members, where they tell their contents.
abbrev pub StandBefore : {D : Type 0} → (D → Bool) → (D → DiskState) → ℕ → List D → ℕ → Type 0
StandBefore tells state services [] n = ⊥
StandBefore tells state services (d ∷ ds) zero = ⊤
StandBefore tells state services (d ∷ ds) (suc n) = (IsTrue (tells d) → (kept : Kept) × StandFor services (state d).files kept) × StandBefore tells state services ds n

-- What an answer leaves of a sink: WriteFault comes only where its count rose. Where it tells what it holds, that is what
-- it held and more: the one line of a refusal.
pub record Leaves {O : Type 0} (tells : O → Bool) (held : O → List ℕ) (faults : O → ℕ) (old new : O) (given : ToolStatus) : Type 0 where
  pub later : faults old ≤ faults new
  pub same : tells new ≡ tells old
  pub fault : given ≡ status.WriteFault → Rose (faults old) (faults new)
  pub refusal : IsTrue (tells old) → IsRefusal given → held new ≡ held old ++ status_text given
  pub more : IsTrue (tells old) → IsFront (held old) (held new)

-- the sink holds what it held, and a listing
pub record HoldsMore (P : List ℕ → Type 0) (old new : List ℕ) : Type 0 where
  pub text : List ℕ
  pub lists : P text
  pub holds : new ≡ old ++ text

-- How a listing of these disks ends, once none of them is of version 1: what is answered, and what stays.
pub record Ends {D O : Type 0} (tells honest : D → Bool) (state : D → DiskState) (faults : D → ℕ) (sink_tells : O → Bool) (held : O → List ℕ) (sink_faults : O → ℕ)
    (listing : Listing) (old new : List D) (sink_old sink_new : O) (given : ToolStatus) : Type 0 where
  pub no_usage : given ≡ status.Usage → ⊥
  pub no_old : (d : ℕ) → given ≡ status.Old d → ⊥
  pub damaged : (d file place : ℕ) → given ≡ status.Damaged d file place → StandBefore tells state (services_in listing) old d
  pub disk_fault : (d : ℕ) → given ≡ status.DiskFault d → RoseAt faults old new d
  pub done : IsTrue (sink_tells sink_old) → AllTell tells old → given ≡ status.Done → HoldsMore (Lists listing (map (λ d. (state d).files) old)) (held sink_old) (held sink_new)
  pub sink : Leaves sink_tells held sink_faults sink_old sink_new given
  pub disks : AreRead tells honest state faults old new

-- How the listing of two disks ends, of which the first is mounted.
pub record EndsWith {D O : Type 0} (tells honest : D → Bool) (state : D → DiskState) (faults : D → ℕ) (sink_tells : O → Bool) (held : O → List ℕ) (sink_faults : O → ℕ)
    (first : Held D) (second new new1 : D) (sink_old sink_new : O) (given : ToolStatus) : Type 0 where
  pub no_usage : given ≡ status.Usage → ⊥
  pub no_old : (d : ℕ) → given ≡ status.Old d → ⊥
  pub damaged : (d file place : ℕ) → given ≡ status.Damaged d file place → (d ≡ 0) ⊎ (d ≡ 1)
  pub disk_fault : (d : ℕ) → given ≡ status.DiskFault d → RoseAt faults (first.disk ∷ second ∷ []) (new ∷ new1 ∷ []) d
  pub done : IsTrue (sink_tells sink_old) → IsTrue (tells first.disk) → IsTrue (tells second) → given ≡ status.Done
      → HoldsMore (λ text. (two : Kept) × StandFor 1 (state second).files two × (text ≡ verify_text first.kept.log two.log)) (held sink_old) (held sink_new)
  pub sink : Leaves sink_tells held sink_faults sink_old sink_new given
  pub first_seen : IsSeen tells honest state faults first.disk new
  pub second_read : IsRead tells honest state faults second new1

-- How a listing of these disks ends.
pub record Runs {D O : Type 0} (tells honest : D → Bool) (state : D → DiskState) (faults : D → ℕ) (sink_tells : O → Bool) (held : O → List ℕ) (sink_faults : O → ℕ)
    (listing : Listing) (old new : List D) (sink_old sink_new : O) (given : ToolStatus) : Type 0 where
  pub no_usage : given ≡ status.Usage → ⊥
  pub old_first : (d : ℕ) → given ≡ status.Old d → IsOldAt tells state old d × AreSeen tells honest state faults old new
  pub old_exactly : (d : ℕ) → AllTell tells old → IsOldAt tells state old d → NamesOld d given
  pub damaged : (d file place : ℕ) → given ≡ status.Damaged d file place → NoneOld tells state old × StandBefore tells state (services_in listing) old d
  pub disk_fault : (d : ℕ) → given ≡ status.DiskFault d → RoseAt faults old new d
  pub done : IsTrue (sink_tells sink_old) → AllTell tells old → given ≡ status.Done → HoldsMore (Lists listing (map (λ d. (state d).files) old)) (held sink_old) (held sink_new)
  pub sink : Leaves sink_tells held sink_faults sink_old sink_new given
  pub disks : AreRead tells honest state faults old new

-- what is listed of one disk
abbrev pub listing_of : Single → Listing
listing_of (single.Describe services) = describe services
listing_of single.Recorded = recording

-- How a call ends by what the words ask for: where they aren't those of a listing the disks are as they were.
abbrev pub Answers : {D O : Type 0} → (D → Bool) → (D → Bool) → (D → DiskState) → (D → ℕ) → (O → Bool) → (O → List ℕ) → (O → ℕ) → Option Tool → List D → List D → O → O → ToolStatus → Type 0
Answers tells honest state faults sink_tells held sink_faults None old new sink_old sink_new given =
    (new ≡ old) × Told sink_tells held sink_faults sink_old sink_new status.Usage (status_text status.Usage) given
Answers tells honest state faults sink_tells held sink_faults (Some tool) old new sink_old sink_new given =
    Runs tells honest state faults sink_tells held sink_faults tool.listing old new sink_old sink_new given
