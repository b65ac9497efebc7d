-- An image as its two ends see it.
use Rattle.std.specs.Prelude.{◌≡◌, ℕ, ◌+◌, Bool, true, List, ◌++◌, length}
use Rattle.atomic_table.specs.Seated.{TableId}
use Rattle.cl_base.specs.declared.entry.Entry.{Entry}
use Rattle.commit_counter.specs.declared.role.Role.{Role}

-- which image: its queue and its words
pub record Name : Type 0 where
  pub queue : TableId
  pub words : TableId

-- the driver's end: where the image begins, what was fed, what was published, whether the end was, what the member was as the phase began, and how far the service was found to have taken
pub record Fed : Type 0 where
  pub name : Name
  pub start : ℕ
  pub list : List Entry
  pub commit : ℕ
  pub ended : Bool
  pub role : Role
  pub found : ℕ

-- the service's end: where the image begins, what was taken, the commit that was seen last, and whether the end was seen with it
pub record Polled : Type 0 where
  pub name : Name
  pub start : ℕ
  pub list : List Entry
  pub seen : ℕ
  pub last : Bool

-- the index of the first entry that was not fed
abbrev pub fed_to : Fed → ℕ
fed_to f = f.start + length f.list

-- the index of the first entry that was not taken
abbrev pub taken_to : Polled → ℕ
taken_to p = p.start + length p.list

-- the end was seen, and all up to the commit was taken
abbrev pub HasEnded : Polled → Type 0
HasEnded p = (p.last ≡ true) × (taken_to p ≡ p.seen)

-- a list begins with these entries
abbrev pub IsPrefix : List Entry → List Entry → Type 0
IsPrefix begin whole = (rest : List Entry) × (whole ≡ begin ++ rest)
