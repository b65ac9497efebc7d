-- What is read of a log to be sent on.
use Rattle.std.specs.Prelude.{◌≡◌, ⊤, ℕ, ◌-◌, ◌≤◌, Bool, IsTrue, List, [], ◌∷◌, ◌++◌, length, take, drop}
use Rattle.cl_base.specs.declared.entry.Entry.{Entry}
use Rattle.entry_log.specs.Log.{Log}
use Rattle.sbe_consensus.specs.Spelling.{AreEntries}

-- the ranges, each of a first entry and a number of entries, lie within a log of so many entries
abbrev pub AreWithin : List (ℕ × ℕ) → ℕ → Type 0
AreWithin [] n = ⊤
AreWithin (r ∷ rs) n = (r.1 ≤ n - r.0) × AreWithin rs n

-- the entries of these ranges, one range after the other, each an event of its term
abbrev pub AreRead : List (ℕ × ℕ) → List Entry → Type 0
AreRead [] es = ⊤
AreRead (r ∷ rs) es = (r.1 ≤ length es) × AreEntries (take r.1 es) × AreRead rs (drop r.1 es)

-- so many entries from this one on were read behind others, each an event of its term: on a disk that tells its contents the log's own
pub record IsReadOn (tells : Bool) (log : Log) (first count : ℕ) (old new : List Entry) : Type 0 where
  pub more : List Entry
  pub behind : new ≡ old ++ more
  pub many : length more ≡ count
  pub entries : AreEntries more
  pub same : IsTrue tells → more ≡ take count (drop first log)
