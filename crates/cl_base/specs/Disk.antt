-- What a disk tells of its files, what its calls do to them, and what a crash may leave.
use Rattle.std.specs.Prelude.{◌≡◌, ◌≢◌, ◌⊎◌, ℕ, ◌+◌, ◌-◌, ◌<◌, ◌≤◌, min, max, Bool, true, false, ◌&&◌, ◌||◌, nat_le, nat_lt, if◌then◌else◌, List, [], ◌∷◌, ◌++◌, length, take, drop, slice_index, Option, Some, None, Result, Ok, Err}
use Rattle.cl_base.specs.Counts.{Rose}
use Rattle.cl_base.specs.declared.fault.Trouble.{Trouble}
use Rattle.cl_base.specs.declared.fault.Trouble.TheVariants.{Failed, NoMemory}
use Rattle.cl_base.specs.declared.disk.Choice.{Choice}
use Rattle.cl_base.specs.declared.disk.Choice.TheVariants.{Drop, Keep, Fill}

-- One file: what a read gives, what its last sync left, the ranges written since (first byte, byte past the last),
-- and the least and the greatest length that it had since.
pub record FileState : Type 0 where
  pub reads : List ℕ
  pub synced : List ℕ
  pub ranges : List (ℕ × ℕ)
  pub least : ℕ
  pub most : ℕ

-- a place lies in one of the ranges
abbrev pub covers : List (ℕ × ℕ) → ℕ → Bool
covers [] i = false
covers (r ∷ rs) i = (nat_le r.0 i && nat_lt i r.1) || covers rs i

-- What a crash may leave of a file: any bytes in a written range and past the synced end, the synced bytes elsewhere.
pub record IsImage (s : FileState) (c : List ℕ) : Type 0 where
  pub no_shorter : s.least ≤ length c
  pub no_longer : length c ≤ s.most
  pub outside : (i : ℕ) → i < length s.synced → i < length c → covers s.ranges i ≡ false → slice_index c i ≡ slice_index s.synced i

-- an image of a whole disk, file by file
abbrev pub IsImageOf : (ℕ → FileState) → (ℕ → List ℕ) → Type 0
IsImageOf files c = (f : ℕ) → IsImage (files f) (c f)

-- with these bytes at this place
abbrev pub overwritten : ℕ → List ℕ → List ℕ → List ℕ
overwritten at bytes file = take at file ++ bytes ++ drop (at + length bytes) file

abbrev pub written_file : ℕ → List ℕ → FileState → FileState
written_file at bytes s = record {
  reads = overwritten at bytes s.reads;
  synced = s.synced;
  ranges = s.ranges ++ (at, at + length bytes) ∷ [];
  least = s.least;
  most = max s.most (at + length bytes);
}

abbrev pub cut_file : ℕ → FileState → FileState
cut_file n s = record {
  reads = take n s.reads;
  synced = s.synced;
  ranges = s.ranges ++ (n, length s.reads) ∷ [];
  least = min s.least n;
  most = s.most;
}

-- all of a file on the disk
abbrev pub settled_file : List ℕ → FileState
settled_file bytes = record { reads = bytes; synced = bytes; ranges = []; least = length bytes; most = length bytes }

abbrev pub synced_file : FileState → FileState
synced_file s = settled_file s.reads

-- a range from `at` up to `end` is as if written and not synced, with any bytes there, and the file was never shorter than `least`
pub record IsTorn (least at end : ℕ) (old new : FileState) : Type 0 where
  pub synced : new.synced ≡ old.synced
  pub ranges : new.ranges ≡ old.ranges ++ (at, end) ∷ []
  pub no_shorter : least ≤ new.least
  pub no_longer : new.most ≤ max old.most end
  pub same : (i : ℕ) → i < length old.reads → i < at ⊎ end ≤ i → slice_index new.reads i ≡ slice_index old.reads i

-- a write of n bytes, and a cut, that failed
abbrev pub IsTornWrite : ℕ → ℕ → FileState → FileState → Type 0
IsTornWrite at n old new = IsTorn old.least at (at + n) old new

abbrev pub IsTornCut : ℕ → FileState → FileState → Type 0
IsTornCut len old new = IsTorn (min old.least len) len (length old.reads) old new

-- x at a place in one of the ranges or past an end, and else the byte b that is there
abbrev pub spot : ℕ → List (ℕ × ℕ) → ℕ → ℕ → ℕ → ℕ
spot x ranges end i b = if covers ranges i || nat_le end i then x else b

-- the bytes of a file, from place i on, with x in each range and past an end
abbrev pub painted : ℕ → List (ℕ × ℕ) → ℕ → ℕ → List ℕ → List ℕ
painted x ranges end i [] = []
painted x ranges end i (b ∷ bs) = spot x ranges end i b ∷ painted x ranges end (i + 1) bs

-- what each choice leaves
abbrev pub left_by : Choice → FileState → List ℕ
left_by Drop s = s.synced
left_by Keep s = s.reads
left_by (Fill x) s = painted x s.ranges (length s.synced) 0 s.reads

-- all that a disk tells
pub record DiskState : Type 0 where
  pub files : ℕ → FileState
  -- how many changing calls the fuse still lets pass
  pub lets : Option ℕ
  -- the fuse has refused a call
  pub burnt : Bool
  -- the faults that no fuse made
  pub own_faults : ℕ

-- the fuse refuses a changing call
abbrev pub fuse_ends : Option ℕ → Bool
fuse_ends None = false
fuse_ends (Some n) = nat_le n 0

abbrev pub after_call : Option ℕ → Option ℕ
after_call None = None
after_call (Some n) = Some (n - 1)

-- every file but f is as it was
abbrev pub OthersStay : ℕ → (ℕ → FileState) → (ℕ → FileState) → Type 0
OthersStay f old new = (g : ℕ) → g ≢ f → new g ≡ old g

-- file f becomes so, and the others stay
pub record ChangesFile (f : ℕ) (old new : ℕ → FileState) (next : FileState) : Type 0 where
  pub changed : new f ≡ next
  pub others : (g : ℕ) → g ≢ f → new g ≡ old g

-- a changing call that passed
pub record Passes (f : ℕ) (next : FileState) (old new : DiskState) : Type 0 where
  pub alive : old.burnt ≡ false
  pub let_pass : fuse_ends old.lets ≡ false
  pub files : ChangesFile f old.files new.files next
  pub lets : new.lets ≡ after_call old.lets
  pub burnt : new.burnt ≡ false
  pub own : new.own_faults ≡ old.own_faults

-- one that the fuse refused
pub record Refused (old new : DiskState) : Type 0 where
  pub cause : (old.burnt || fuse_ends old.lets) ≡ true
  pub files : (g : ℕ) → new.files g ≡ old.files g
  pub lets : new.lets ≡ old.lets
  pub burnt : new.burnt ≡ true
  pub own : new.own_faults ≡ old.own_faults

-- one that failed by the disk itself
pub record Breaks (f : ℕ) (tears : FileState → FileState → Type 0) (old new : DiskState) : Type 0 where
  pub alive : old.burnt ≡ false
  pub let_pass : fuse_ends old.lets ≡ false
  pub torn : tears (old.files f) (new.files f)
  pub others : (g : ℕ) → g ≢ f → new.files g ≡ old.files g
  pub own : Rose old.own_faults new.own_faults

-- what a changing call of file f leaves, by its answer
abbrev pub ChangeGives : {T : Type 0} → ℕ → (FileState → FileState) → (FileState → FileState → Type 0) → DiskState → DiskState → Result T Trouble → Type 0
ChangeGives f done torn old new (Ok _) = Passes f (done (old.files f)) old new
ChangeGives f done torn old new (Err Failed) = Refused old new ⊎ Breaks f torn old new
ChangeGives f done torn old new (Err NoMemory) = new ≡ old

-- a looking call that failed by the fuse, or by the disk itself
pub record LookFails (old new : DiskState) : Type 0 where
  pub files : (g : ℕ) → new.files g ≡ old.files g
  pub lets : new.lets ≡ old.lets
  pub burnt : new.burnt ≡ old.burnt
  pub cause : ((old.burnt ≡ true) × (new.own_faults ≡ old.own_faults)) ⊎ ((old.burnt ≡ false) × Rose old.own_faults new.own_faults)

-- what a looking call leaves, by its answer
abbrev pub LookGives : {T : Type 0} → (T → Type 0) → DiskState → DiskState → Result T Trouble → Type 0
LookGives gives old new (Ok v) = (old.burnt ≡ false) × (new ≡ old) × gives v
LookGives gives old new (Err Failed) = LookFails old new
LookGives gives old new (Err NoMemory) = new ≡ old

-- what a read of a buffer of this length gives
pub record ReadAt (file : List ℕ) (at : ℕ) (buf_old buf_new : List ℕ) (n : ℕ) : Type 0 where
  pub count : n ≡ min (length buf_old) (length file - at)
  pub bytes : take n buf_new ≡ take n (drop at file)

-- what a crash by a choice leaves
pub record CrashLeaves (choice : Choice) (old new : DiskState) : Type 0 where
  pub files : (g : ℕ) → new.files g ≡ settled_file (left_by choice (old.files g))
  pub lets : new.lets ≡ None
  pub burnt : new.burnt ≡ false
  pub own : new.own_faults ≡ old.own_faults

-- Time goes on: a crash since t might have left what it might have left before, or what it may leave now.
pub record Elapses (before now : ℕ) (past since : ℕ → (ℕ → List ℕ) → Type 0) (may_leave : (ℕ → List ℕ) → Type 0) : Type 0 where
  pub later : before ≤ now
  pub nothing_else : (t : ℕ) (c : ℕ → List ℕ) → t ≤ before → since t c → past t c ⊎ may_leave c
  pub keeps : (t : ℕ) (c : ℕ → List ℕ) → t ≤ before → past t c → since t c

-- Each image at any moment since old has P: what is cut well.
pub record LeavesOnly {D : Type 0} (moment : D → ℕ) (left_since : D → ℕ → (ℕ → List ℕ) → Type 0) (old new : D) (P : (ℕ → List ℕ) → Type 0) : Type 0 where
  pub later : moment old ≤ moment new
  pub each : (c : ℕ → List ℕ) → left_since new (moment old) c → P c
  -- for a run that began earlier
  pub before : (t : ℕ) (c : ℕ → List ℕ) → t ≤ moment old → left_since new t c → left_since old t c ⊎ P c
