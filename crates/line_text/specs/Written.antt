-- What a sink holds, and what stands on a page, after more was told.
use Rattle.std.specs.Prelude.{◌≡◌, ℕ, ◌≤◌, Bool, List, ◌++◌, length, take, IsTrue, Result, Ok, Err}
use Rattle.cl_base.specs.Counts.{HasCause}
use Rattle.cl_base.specs.declared.fault.Trouble.{Trouble}

-- what was held, followed by some of the front of a text
abbrev pub IsPart : List ℕ → List ℕ → List ℕ → Type 0
IsPart old text new = (n : ℕ) × (n ≤ length text) × (new ≡ old ++ take n text)

-- one text begins another
pub record IsFront (front all : List ℕ) : Type 0 where
  pub rest : List ℕ
  pub whole : front ++ rest ≡ all

-- All was told: what is held and what stands on the page are what they were, and the text behind it. What was held is
-- still held.
pub record IsTold (held page text held' page' : List ℕ) : Type 0 where
  pub all : held' ++ page' ≡ (held ++ page) ++ text
  pub more : IsFront held held'

-- An early end: what is held is what was held and more, and a front of all that was to be told.
pub record IsCutShort (held page text held' : List ℕ) : Type 0 where
  pub more : IsFront held held'
  pub front : IsFront held' ((held ++ page) ++ text)

abbrev pub Tells : {T E : Type 0} → Result T E → List ℕ → List ℕ → List ℕ → List ℕ → List ℕ → Type 0
Tells (Ok u) held page text held' page' = IsTold held page text held' page'
Tells (Err e) held page text held' page' = IsCutShort held page text held'

-- A text is told behind what a sink holds and a page has: each error has its cause, and where the sink tells what it
-- holds, it is as above.
pub record Adds {O T : Type 0} (tells : O → Bool) (held : O → List ℕ) (faults : O → ℕ) (old new : O) (page page' text : List ℕ) (result : Result T Trouble) : Type 0 where
  pub cause : HasCause (faults old) (faults new) result
  pub same : tells new ≡ tells old
  pub told : IsTrue (tells old) → Tells result (held old) page text (held new) page'
