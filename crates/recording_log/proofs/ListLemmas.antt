-- The list of the valid sets, entry by entry.
use Rattle.std.specs.Prelude.{slice_get}
use Rattle.std.proofs.Common.{◌≡◌, inl, inr, ⊎_elim, ℕ, ℤ, pos, ◌+◌, ◌-◌, ◌<◌, ◌≤◌, ◌^◌, ◌≤ℤ◌, Some, List, [], ◌++◌, length, replicate, get_or, refl, sym, ◌∙◌, ap, subst, arith}
use Rattle.std.proofs.lemmas.Bool.{cases_lt, cases_eq}
use Rattle.std.proofs.lemmas.Int.{ints}
use Rattle.std.proofs.lemmas.List.{append-nil, drop_all}
use Rattle.std.proofs.lemmas.Option.{slice_get_within, slice_get-get_or}
use Rattle.cl_base.specs.Disk.{FileState, settled_file, overwritten}
use Rattle.recording_log.specs.declared.entry.RecEntry.{RecEntry}
use Rattle.recording_log.specs.declared.entry.SnapshotAt.{SnapshotAt}
use Rattle.recording_log.specs.Entries.{Holds, IsFresh}
use Rattle.recording_log.specs.Sets.{IsPart, HasPart, HasSet, IsCandidate}
use Rattle.recording_log.specs.Ranges.{snapshot_position}
use Rattle.recording_log.specs.Listed.{Rise, EachListed, IsListed, HaveFirst, HaveThese, IsAmong, IsPutIn, IsLastPart}
use Rattle.recording_log.proofs.MountLemmas.{begins_none}
use Rattle.recording_log.proofs.SetLemmas.{zero_entry, there}

pub no_sets : (services : ℕ) (entries : List RecEntry) → EachListed services entries []
no_sets services entries k d below = absurd (omega arith)

module _ (services : ℕ) (entries : List RecEntry) (old new : List SnapshotAt) (set : SnapshotAt) (put : IsPutIn set old new) where
  pub listed_more : EachListed services entries old → IsListed services entries set → EachListed services entries new
  listed_more each here k d below = ⊎_elim
      (λ is. subst (IsListed services entries) (sym is) here)
      (λ was. subst (IsListed services entries) (sym was.2) (each was.0 d was.1))
      (put.only k d below)

  -- the entry at index i is the one of the set
  pub first_more : (i : ℕ) (e : RecEntry) → HaveFirst services entries i old → slice_get entries i ≡ Some e → e.term ≡ set.term → e.position ≡ pos set.position → HaveFirst services entries (i + 1) new
  first_more i e have at term position j x below is candidate = elim (cases_lt j i) [
    | inl less ↦ put.kept x.term x.position (have j x less is candidate)
    | inr from ↦
        let same : j ≡ i = omega arith in
        let one : x ≡ e = some_same x e (sym is ∙ ap (slice_get entries) same ∙ at) in
        subst (λ t. IsAmong t x.position new) (sym (ap (λ (y : RecEntry). y.term) one ∙ term))
        (subst (λ q. IsAmong set.term q new) (sym (ap (λ (y : RecEntry). y.position) one ∙ position)) put.here)
  ]
    where
      some_same : (a b : RecEntry) → Some a ≡ Some b → a ≡ b
      some_same a b eq = cc

-- an entry that is the module's of no valid set adds none
pub first_same : (services : ℕ) (entries : List RecEntry) (sets : List SnapshotAt) (i : ℕ) (e : RecEntry) → HaveFirst services entries i sets → slice_get entries i ≡ Some e → (IsCandidate services entries e → ⊥) → HaveFirst services entries (i + 1) sets
first_same services entries sets i e have at none j x below is candidate = elim (cases_lt j i) [
  | inl less ↦ have j x less is candidate
  | inr from ↦
      let same : j ≡ i = omega arith in
      let one : x ≡ e = some_same x e (sym is ∙ ap (slice_get entries) same ∙ at) in
      absurd (none (subst (IsCandidate services entries) one candidate))
]
  where
    some_same : (a b : RecEntry) → Some a ≡ Some b → a ≡ b
    some_same a b eq = cc

pub all_sets : (services : ℕ) (entries : List RecEntry) (sets : List SnapshotAt) (i : ℕ) → length entries ≤ i → HaveFirst services entries i sets → (term position : ℤ) → HasSet services entries term position → IsAmong term position sets
all_sets services entries sets i over have term position set =
    let part = set.of_module in
    let e = part.entry in
    let within = slice_get_within entries part.index e part.at in
    let t : e.term ≡ term = part.part.1 in
    let q : e.position ≡ position = part.part.2 in
    let whole : HasSet services entries e.term e.position = subst (λ x. HasSet services entries x e.position) (sym t) (subst (λ x. HasSet services entries term x) (sym q) set) in
    let own : IsCandidate services entries e = ((part.part.0, refl, refl, part.part.3), whole) in
    let among : IsAmong e.term e.position sets = have part.index e (omega arith) part.at own in
    subst (λ x. IsAmong x position sets) t (subst (λ x. IsAmong e.term x sets) q among)

front : (bytes : List ℕ) → overwritten 0 bytes [] ≡ bytes
front bytes = ap (λ l. bytes ++ l) (drop_all (0 + length bytes) [] (omega arith)) ∙ append-nil bytes

pub fresh_is : (s : FileState) (bytes reads : List ℕ) → reads ≡ [] → Holds [] bytes → s ≡ settled_file (overwritten 0 bytes reads) → IsFresh s
fresh_is s bytes reads none holds is = record {
  bytes = bytes;
  settled = is ∙ ap (λ l. settled_file (overwritten 0 bytes l)) none ∙ ap settled_file (front bytes);
  holds = holds;
}

pub zeros_hold : Holds [] (replicate 64 0)
zeros_hold = record { begins = begins_none (replicate 64 0); room = omega arith; closed = λ is. absurd (cc) }

pub no_rise : Rise []
no_rise i j d less below = absurd (omega arith)

pub first_none : (services : ℕ) (entries : List RecEntry) (sets : List SnapshotAt) → HaveFirst services entries 0 sets
first_none services entries sets j e below = absurd (omega arith)

pub item_there : (entries : List RecEntry) (i : ℕ) → i < length entries → slice_get entries i ≡ Some (get_or entries i zero_entry)
item_there entries i within = slice_get-get_or entries i zero_entry within

pub these_same : (services : ℕ) (entries : List RecEntry) (sets : List SnapshotAt) (i : ℕ) (e : RecEntry) → HaveThese services entries i sets → slice_get entries i ≡ Some e → (IsCandidate services entries e → ⊥) → HaveThese services entries (i + 1) sets
these_same services entries sets i e these at none = record { each = these.each; first = first_same services entries sets i e these.first at none }

pub these_more : (services : ℕ) (entries : List RecEntry) (old new : List SnapshotAt) (set : SnapshotAt) (i : ℕ) (e : RecEntry) → IsPutIn set old new → HaveThese services entries i old → slice_get entries i ≡ Some e → IsCandidate services entries e
    → e.term ≡ set.term → e.position ≡ pos set.position → set.recording < 1024 → pos 0 ≤ℤ set.term → set.term ≤ℤ pos (2 ^ 62) → HaveThese services entries (i + 1) new
these_more services entries old new set i e put these at candidate term position named low high =
    let at_most = snapshot_position e candidate.0.0 in
    let listed : IsListed services entries set = record {
      recording = named;
      low = low;
      high = high;
      position = below set.position (subst (λ q. q ≤ℤ pos (2 ^ 62)) position at_most);
      whole = subst (λ t. HasSet services entries t (pos set.position)) term (subst (λ q. HasSet services entries e.term q) position candidate.1);
    } in
    record { each = listed_more services entries old new set put these.each listed; first = first_more services entries old new set put i e these.first at term position }
  where
    below : (n : ℕ) → pos n ≤ℤ pos (2 ^ 62) → n ≤ 2 ^ 62
    below n le = omega (arith, ints, le)

module _ (entries : List RecEntry) (term position s : ℤ) where
  pub none_below : (i : ℕ) → 0 < i → i ≤ length entries → (IsPart term position s (get_or entries (i - 1) zero_entry) → ⊥) → ((j : ℕ) (d : RecEntry) → i ≤ j → slice_get entries j ≡ Some d → IsPart term position s d → ⊥)
      → (j : ℕ) (d : RecEntry) → i - 1 ≤ j → slice_get entries j ≡ Some d → IsPart term position s d → ⊥
  none_below i some within here none j d from at part = elim (cases_eq j (i - 1)) [
    | inl is ↦ here (subst (IsPart term position s) (sym (ap (λ k. get_or entries k zero_entry) (sym is) ∙ there entries j d at)) part)
    | inr other ↦ none j d (omega (arith, other)) at part
  ]

  pub last_here : (service : ℤ) (i : ℕ) → 0 < i → i ≤ length entries → s ≡ service → IsPart term position s (get_or entries (i - 1) zero_entry) → ((j : ℕ) (d : RecEntry) → i ≤ j → slice_get entries j ≡ Some d → IsPart term position s d → ⊥)
      → IsLastPart entries term position service (get_or entries (i - 1) zero_entry)
  last_here service i some within same part none = record {
    index = i - 1;
    at = slice_get-get_or entries (i - 1) zero_entry (omega arith);
    part = subst (λ x. IsPart term position x (get_or entries (i - 1) zero_entry)) same part;
    last = λ j d more at other. none j d (omega arith) at (subst (λ x. IsPart term position x d) (sym same) other);
  }

  pub none_all : (service : ℤ) → s ≡ service → ((j : ℕ) (d : RecEntry) → 0 ≤ j → slice_get entries j ≡ Some d → IsPart term position s d → ⊥) → HasPart entries term position service → ⊥
  none_all service same none has = none has.index has.entry (omega arith) has.at (subst (λ x. IsPart term position x has.entry) (sym same) has.part)
