-- The new term event of a reign, and where it stands.
use Rattle.std.specs.Prelude.{◌≡◌, ◌≢◌, ◌⊎◌, ℕ, ℤ, ◌≤ℤ◌, pos, ◌^◌, [], ◌∷◌, ◌++◌, Contains}
use Rattle.cl_base.specs.declared.entry.Entry.{Entry}
use Rattle.entry_log.specs.Log.{Log, last, place, IsPrefixOf}
use Rattle.world.specs.World.{World, Raise, Reign, Holding, member, reign_in}
use Rattle.world.specs.World.{term_entry}

-- the reign's first log stands in this log, with the reign's new term event behind it: at its place, and naming its member
abbrev pub IsOpened : Reign → Log → Type 0
IsOpened r log = (now : ℕ) × IsPrefixOf (r.first ++ term_entry r.term (place r.first) now r.member ∷ []) log

-- the entry behind xs is the new term event of its term's reign, which began with xs, and names the member that reigned
abbrev pub IsOpening : World → Log → Entry → Type 0
IsOpening w xs x = (r : Reign) × (now : ℕ) × Contains w.reigns r × (r.term ≡ x.term) × (r.first ≡ xs) × (x ≡ term_entry x.term (place xs) now r.member)

-- a log's first entry of a term is its new term event
abbrev pub OpensTerms : World → Log → Type 0
OpensTerms w log = (xs : Log) (x : Entry) → IsPrefixOf (xs ++ x ∷ []) log → last xs ≢ x.term → IsOpening w xs x

pub record TermsOpen (w : World) : Type 0 where
  -- a reign's log is its first log, or goes on with its new term event
  pub reigns : (r : Reign) → Contains w.reigns r → (reign_in w.written r.term ≡ r.first) ⊎ IsOpened r (reign_in w.written r.term)
  -- of every log
  pub members : (m : ℕ) → OpensTerms w (member w m).durable.log
  pub written : (t : ℤ) → OpensTerms w (reign_in w.written t)
  pub firsts : (r : Reign) → Contains w.reigns r → OpensTerms w r.first
  pub raised : (r : Raise) → Contains w.raises r → OpensTerms w r.log
  pub held : (h : Holding) → Contains w.holdings h → OpensTerms w h.log
  -- terms are within the limit
  pub low : (r : Reign) → Contains w.reigns r → r.term ≤ℤ pos (2 ^ 62)
