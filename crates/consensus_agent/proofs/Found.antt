-- What is read of a log at an index, and the latest of the listed sets.
use Rattle.std.proofs.Common.{◌≡◌, inl, inr, ℕ, zero, suc, ◌<◌, ◌-◌, ℤ, pos, ◌≤ℤ◌, Bool, List, [], ◌∷◌, ◌++◌, length, get_or, take, drop, Some, refl, sym, ap, subst, ◌∙◌, arith}
use Rattle.std.specs.Prelude.{slice_get}
use Rattle.std.proofs.lemmas.Bool.{cases_eq}
use Rattle.std.proofs.lemmas.Int.{ints}
use Rattle.recording_log.specs.declared.entry.RecEntry.{RecEntry}
use Rattle.recording_log.specs.declared.entry.SnapshotAt.{SnapshotAt}
use Rattle.recording_log.specs.Listed.{AreSets, IsAmong, IsBefore}
use Rattle.recording_log.specs.Sets.{HasNoSet}
use Rattle.cl_base.specs.declared.entry.Entry.{Entry}
use Rattle.entry_log.specs.Log.{Log}
use Rattle.entry_log.specs.Shape.{entry_shape}
use Rattle.log_segment.specs.Held.{IsEventEntry}
use Rattle.log_segment.specs.Looked.{IsNoDamage as IsNoDisk}
use Rattle.cl_base.specs.declared.fault.MemberFault.{MemberFault}
use Rattle.cl_base.specs.declared.fault.MemberFault.TheVariants as disk
use Rattle.consensus_agent.specs.declared.fault.AgentFault.{AgentFault}
use Rattle.consensus_agent.specs.declared.fault.AgentFault.TheVariants as agent
use Rattle.member_disk.specs.Kept.{Kept}
use Rattle.member_module.specs.Held.{Held as ModuleHeld}
use Rattle.consensus_core.specs.declared.values.Values.{Values}
use Rattle.consensus_agent.specs.Copies.{IsLike, IsNewest}
use Rattle.consensus_agent.specs.Faults.{IsNoDamage, answered}
use Rattle.consensus_agent.specs.Sound.{IsSound}
use Rattle.consensus_agent.proofs.Entries.{length_shape}

-- an entry at an index, between those before it and those past it
pub record Found (log : Log) (i : ℕ) : Type 0 where
  pub own : Entry
  pub at : slice_get log i ≡ Some own
  pub split : log ≡ take i log ++ own ∷ drop (suc i) log
  pub many : length (take i log) ≡ i

pub found : (log : Log) (i : ℕ) → i < length log → Found log i
found [] i h = absurd (omega (arith, h))
found (x ∷ xs) zero h = record { own = x; at = refl; split = refl; many = refl }
found (x ∷ xs) (suc i) h =
    let r = found xs i (omega (arith, h)) in
    record { own = r.own; at = r.at; split = ap (λ (ys : Log). x ∷ ys) r.split; many = ap (λ n. suc n) r.many }

-- what is committed is in the log
pub within : (v : Values) (k : Kept) (a : Bool) (m : ModuleHeld) (i : ℕ) → IsSound v k a m → i < v.rest.commit → i < length k.log
within v k a m i s below = let c = s.standing.commit in let many = length_shape k.log in omega (arith, c, many, below)

-- what a disk reads there
pub like : (log : Log) (i : ℕ) (x : Entry) → i < length log → ((kept rest : Log) (e : Entry) → log ≡ kept ++ e ∷ rest → length kept ≡ i → IsEventEntry x × (entry_shape x ≡ entry_shape e)) → IsLike log i x
like log i x below read =
    let f = found log i below in
    let is = read (take i log) (drop (suc i) log) f.own f.split f.many in
    record { own = f.own; at = f.at; event = is.0; shape = is.1 }

-- and one that tells its contents
pub exactly : (log : Log) (i : ℕ) (x : Entry) → i < length log → ((kept rest : Log) (e : Entry) → log ≡ kept ++ e ∷ rest → length kept ≡ i → x ≡ e) → slice_get log i ≡ Some x
exactly log i x below read = let f = found log i below in f.at ∙ ap (λ z. Some z) (sym (read (take i log) (drop (suc i) log) f.own f.split f.many))

pub undamaged : (log : Log) (i : ℕ) (fault : MemberFault) (e : AgentFault) → i < length log → ((kept rest : Log) (x : Entry) → log ≡ kept ++ x ∷ rest → length kept ≡ i → IsNoDisk fault) → e ≡ answered fault → IsNoDamage e
undamaged log i fault e below read is = let f = found log i below in subst IsNoDamage (sym is) (kept fault (read (take i log) (drop (suc i) log) f.own f.split f.many))
  where
    kept : (z : MemberFault) → IsNoDisk z → IsNoDamage (answered z)
    kept disk.Device h = tt
    kept (disk.LogFull place) h = tt
    kept (disk.Damaged file place) h = h
    kept disk.NoMemory h = tt

-- a member answers Device only where its disk did
pub device_only : (fault : MemberFault) (e : AgentFault) → e ≡ answered fault → e ≡ agent.Device → fault ≡ disk.Device
device_only disk.Device e is device = refl
device_only (disk.LogFull place) e is device = absurd (let h : agent.NoMemory ≡ agent.Device = sym is ∙ device in cc)
device_only (disk.Damaged file place) e is device = absurd (let h : agent.Damaged file place ≡ agent.Device = sym is ∙ device in cc)
device_only disk.NoMemory e is device = absurd (let h : agent.NoMemory ≡ agent.Device = sym is ∙ device in cc)

-- ---- the latest of the listed sets

-- a set isn't later than another that is before it, or is of its term and position
at_last : (term position : ℤ) (z : SnapshotAt) → z.term ≡ term → pos z.position ≡ position → (position ≤ℤ pos z.position) × (position ≡ pos z.position → term ≤ℤ z.term)
at_last term position z t q = (omega (arith, ints, q), λ same. omega (arith, ints, t))

before_last : (term position : ℤ) (a z : SnapshotAt) → a.term ≡ term → pos a.position ≡ position → IsBefore a z → (position ≤ℤ pos z.position) × (position ≡ pos z.position → term ≤ℤ z.term)
before_last term position a z t q (inl less) = (omega (arith, ints, q, less), λ same. absurd (omega (arith, ints, q, same, less)))
before_last term position a z t q (inr tie) = let even = tie.0 in let low = tie.1 in (omega (arith, ints, q, even), λ same. omega (arith, ints, t, low))

-- the last one listed
pub newest : (services : ℕ) (entries : List RecEntry) (sets : List SnapshotAt) (d : SnapshotAt) → AreSets services entries sets → 0 < length sets → IsNewest services entries (get_or sets (length sets - 1) d)
newest services entries sets d are some = record {
  listed = are.each (length sets - 1) d (omega (arith, some));
  latest = λ term position set. at term position (are.all term position set);
}
  where
    at : (term position : ℤ) → IsAmong term position sets → (position ≤ℤ pos (get_or sets (length sets - 1) d).position) × (position ≡ pos (get_or sets (length sets - 1) d).position → term ≤ℤ (get_or sets (length sets - 1) d).term)
    at term position among =
        let within = among.within in
        let t = among.term_there d in
        let q = among.position_there d in
        elim (cases_eq among.index (length sets - 1)) [
          | inl is ↦ at_last term position (get_or sets (length sets - 1) d) (ap (λ (k : ℕ). (get_or sets k d).term) (sym is) ∙ t) (ap (λ (k : ℕ). pos (get_or sets k d).position) (sym is) ∙ q)
          | inr other ↦ before_last term position (get_or sets among.index d) (get_or sets (length sets - 1) d) t q (are.rise among.index (length sets - 1) d (omega (arith, other)) (omega (arith, within)))
        ]

-- where none is listed
pub no_set : (services : ℕ) (entries : List RecEntry) (sets : List SnapshotAt) → AreSets services entries sets → length sets ≡ 0 → HasNoSet services entries
no_set services entries sets are none term position set = let within = (are.all term position set).within in absurd (omega (arith, none, within))
