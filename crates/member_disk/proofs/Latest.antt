-- The latest of the valid sets.
use Rattle.std.proofs.Common.{◌≡◌, inl, inr, ℕ, ◌-◌, ◌<◌, ℤ, pos, ◌≤ℤ◌, List, length, get_or, sym, ◌∙◌, ap, subst, arith}
use Rattle.std.proofs.lemmas.Bool.{cases_eq}
use Rattle.std.proofs.lemmas.Int.{ints}
use Rattle.recording_log.specs.declared.entry.RecEntry.{RecEntry}
use Rattle.recording_log.specs.declared.entry.SnapshotAt.{SnapshotAt}
use Rattle.recording_log.specs.Sets.{HasPart, HasSet}
use Rattle.recording_log.specs.Listed.{IsBefore, AreSets, IsLastPart}
use Rattle.member_disk.specs.Changes.{IsMemberOf, HasSome, IsLatestPart}

module _ (services : ℕ) (entries : List RecEntry) (sets : List SnapshotAt) (are : AreSets services entries sets) where
  pub some_there : HasSome services entries → 0 < length sets
  some_there some = let within = (are.all some.term some.position some.set).within in omega (arith, within)

  -- no set is after the last
  up_to_last : (d : SnapshotAt) (term position : ℤ) → HasSet services entries term position → (position ≤ℤ pos (get_or sets (length sets - 1) d).position) × (position ≡ pos (get_or sets (length sets - 1) d).position → term ≤ℤ (get_or sets (length sets - 1) d).term)
  up_to_last d term position set =
      let among = are.all term position set in
      let within = among.within in
      let t = among.term_there d in
      let q = among.position_there d in
      elim (cases_eq among.index (length sets - 1)) [
        | inl is ↦ last term position (get_or sets (length sets - 1) d) (ap (λ (k : ℕ). (get_or sets k d).term) (sym is) ∙ t) (ap (λ (k : ℕ). pos (get_or sets k d).position) (sym is) ∙ q)
        | inr other ↦ before term position (get_or sets among.index d) (get_or sets (length sets - 1) d) t q (are.rise among.index (length sets - 1) d (omega (arith, other)) (omega (arith, within)))
      ]
    where
      last : (term position : ℤ) (z : SnapshotAt) → z.term ≡ term → pos z.position ≡ position → (position ≤ℤ pos z.position) × (position ≡ pos z.position → term ≤ℤ z.term)
      last term position z t q = (omega (arith, ints, q), λ same. omega (arith, ints, t))

      before : (term position : ℤ) (a z : SnapshotAt) → a.term ≡ term → pos a.position ≡ position → IsBefore a z → (position ≤ℤ pos z.position) × (position ≡ pos z.position → term ≤ℤ z.term)
      before term position a z t q (inl less) = (omega (arith, ints, q, less), λ same. absurd (omega (arith, ints, q, same, less)))
      before term position a z t q (inr tie) = let even = tie.0 in let low = tie.1 in (omega (arith, ints, q, even), λ same. omega (arith, ints, t, low))

  pub part_of_last : (service : ℤ) (d : SnapshotAt) (e : RecEntry) → 0 < length sets → IsLastPart entries (get_or sets (length sets - 1) d).term (pos (get_or sets (length sets - 1) d).position) service e → IsLatestPart services entries service e
  part_of_last service d e some part =
      let z = get_or sets (length sets - 1) d in
      let t : e.term ≡ (get_or sets (length sets - 1) d).term = part.part.1 in
      let q : e.position ≡ pos (get_or sets (length sets - 1) d).position = part.part.2 in
      let listed = are.each (length sets - 1) d (omega (arith, some)) in
      record {
        part = subst (λ x. IsLastPart entries x e.position service e) (sym t) (subst (λ y. IsLastPart entries (get_or sets (length sets - 1) d).term y service e) (sym q) part);
        whole = subst (λ x. HasSet services entries x e.position) (sym t) (subst (λ y. HasSet services entries (get_or sets (length sets - 1) d).term y) (sym q) listed.whole);
        latest = λ term position set. let up = up_to_last d term position set in (subst (λ y. position ≤ℤ y) (sym q) up.0, λ same. subst (λ x. term ≤ℤ x) (sym t) (up.1 (same ∙ q)));
      }

pub part_there : (services : ℕ) (entries : List RecEntry) (term position service : ℤ) → HasSet services entries term position → IsMemberOf services service → HasPart entries term position service
part_there services entries term position service set (inl is) = subst (HasPart entries term position) (sym is) set.of_module
part_there services entries term position service set (inr one) = subst (HasPart entries term position) (sym one.1) (set.each one.0 one.2)
