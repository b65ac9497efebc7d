-- TERM entries that are added leave the sets of snapshots as they were.
use Rattle.std.specs.Prelude.{slice_get, Result, Ok, Err, OnOk, OnErr}
use Rattle.cl_base.specs.declared.fault.MemberFault.{MemberFault}
use Rattle.std.proofs.Common.{◌≡◌, ◌⊎◌, inl, inr, ⊎_elim, ℕ, zero, suc, ℤ, pos, IsTrue, Some, List, [], ◌∷◌, ◌++◌, refl, sym, ◌∙◌, ap, subst, append_assoc}
use Rattle.std.specs.Prelude.{◌==◌}
use Rattle.std.proofs.lemmas.Bool.{and_parts}
use Rattle.std.proofs.lemmas.List.{append-nil}
use Rattle.recording_log.specs.declared.entry.RecEntry.{RecEntry}
use Rattle.recording_log.specs.declared.entry.SnapshotAt.{SnapshotAt}
use Rattle.recording_log.specs.Valid.{is_valid, is_snapshot, term_entry}
use Rattle.recording_log.specs.Sets.{HasPart, HasSet}
use Rattle.recording_log.specs.Listed.{AreSets}
use Rattle.member_disk.specs.Kept.{Kept}
use Rattle.member_disk.specs.Changes.{NoneSnapshot, GrewByTerms, HasMoreTerms}

get_front : (xs ys : List RecEntry) (i : ℕ) (d : RecEntry) → slice_get xs i ≡ Some d → slice_get (xs ++ ys) i ≡ Some d
get_front [] ys i d is = absurd (cc)
get_front (x ∷ xs) ys zero d is = is
get_front (x ∷ xs) ys (suc i) d is = get_front xs ys i d is

get_split : (xs ys : List RecEntry) (i : ℕ) (d : RecEntry) → slice_get (xs ++ ys) i ≡ Some d → (slice_get xs i ≡ Some d) ⊎ ((j : ℕ) × (slice_get ys j ≡ Some d))
get_split [] ys i d is = inr (i, is)
get_split (x ∷ xs) ys zero d is = inl is
get_split (x ∷ xs) ys (suc i) d is = get_split xs ys i d is

none_there : (ys : List RecEntry) (j : ℕ) (d : RecEntry) → NoneSnapshot ys → slice_get ys j ≡ Some d → IsTrue (is_snapshot d) → ⊥
none_there [] j d none is = absurd (cc)
none_there (y ∷ ys) zero d none is = λ counts. none.0 (subst (λ (e : RecEntry). IsTrue (is_snapshot e)) (sym (some_same y d is)) counts)
  where
    some_same : (a b : RecEntry) → Some a ≡ Some b → a ≡ b
    some_same a b same = cc
none_there (y ∷ ys) (suc j) d none is = none_there ys j d none.1 is

module _ (old added : List RecEntry) (none : NoneSnapshot added) where
  part_more : (term position service : ℤ) → HasPart old term position service → HasPart (old ++ added) term position service
  part_more term position service part = record { index = part.index; entry = part.entry; at = get_front old added part.index part.entry part.at; part = part.part }

  part_less : (term position service : ℤ) → HasPart (old ++ added) term position service → HasPart old term position service
  part_less term position service part = ⊎_elim
      (λ at. record { index = part.index; entry = part.entry; at = at; part = part.part })
      (λ there. absurd (none_there added there.0 part.entry none there.1 part.part.0))
      (get_split old added part.index part.entry part.at)

  set_more : (services : ℕ) (term position : ℤ) → HasSet services old term position → HasSet services (old ++ added) term position
  set_more services term position set = record { of_module = part_more term position _ set.of_module; each = λ s below. part_more term position (pos s) (set.each s below) }

  set_less : (services : ℕ) (term position : ℤ) → HasSet services (old ++ added) term position → HasSet services old term position
  set_less services term position set = record { of_module = part_less term position _ set.of_module; each = λ s below. part_less term position (pos s) (set.each s below) }

  sets_more : (services : ℕ) (sets : List SnapshotAt) → AreSets services old sets → AreSets services (old ++ added) sets
  sets_more services sets are = record {
    each = λ k d below. let listed = are.each k d below in record {
      recording = listed.recording;
      low = listed.low;
      high = listed.high;
      position = listed.position;
      whole = set_more services _ _ listed.whole;
    };
    rise = are.rise;
    all = λ term position set. are.all term position (set_less services term position set);
  }

pub sets_grew : (services : ℕ) (old new : List RecEntry) (sets : List SnapshotAt) → GrewByTerms old new → AreSets services old sets → AreSets services new sets
sets_grew services old new sets grew are = subst (λ (es : List RecEntry). AreSets services es sets) (sym grew.is) (sets_more old grew.added grew.none services sets are)

pub grew_none : (es : List RecEntry) → GrewByTerms es es
grew_none es = record { added = []; is = sym (append-nil es); none = tt }

pub grew_term : (es : List RecEntry) (term : ℤ) (base : ℕ) (stamp : ℤ) → GrewByTerms es (es ++ term_entry term base stamp ∷ [])
grew_term es term base stamp = record { added = term_entry term base stamp ∷ []; is = refl; none = (no_snapshot, tt) }
  where
    no_snapshot : IsTrue (is_snapshot (term_entry term base stamp)) → ⊥
    no_snapshot is = let parts = and_parts (is_valid (term_entry term base stamp)) (0 == 1) is in let two = parts.1 in absurd (cc)

pub grew_added : (es new : List RecEntry) (term : ℤ) (base : ℕ) (stamp : ℤ) → new ≡ es ++ term_entry term base stamp ∷ [] → GrewByTerms es new
grew_added es new term base stamp is = subst (λ (l : List RecEntry). GrewByTerms es l) (sym is) (grew_term es term base stamp)

-- an addition of a TERM entry, done or not
pub sets_after : (services : ℕ) (old new : List RecEntry) (sets : List SnapshotAt) (term : ℤ) (base : ℕ) (stamp : ℤ) (result : Result (Unit {0}) MemberFault) → OnOk result (new ≡ old ++ term_entry term base stamp ∷ []) → OnErr result (new ≡ old) → AreSets services old sets → AreSets services new sets
sets_after services old new sets term base stamp (Ok v) done not_done are = sets_grew services old new sets (grew_added old new term base stamp done) are
sets_after services old new sets term base stamp (Err e) done not_done are = subst (λ (l : List RecEntry). AreSets services l sets) (sym not_done) are

none_both : (xs ys : List RecEntry) → NoneSnapshot xs → NoneSnapshot ys → NoneSnapshot (xs ++ ys)
none_both [] ys first second = second
none_both (x ∷ xs) ys first second = (first.0, none_both xs ys first.1 second)

grew_more : (a b c : List RecEntry) → GrewByTerms a b → GrewByTerms b c → GrewByTerms a c
grew_more a b c first second = record {
  added = first.added ++ second.added;
  is = second.is ∙ ap (λ (l : List RecEntry). l ++ second.added) first.is ∙ append_assoc a first.added second.added;
  none = none_both first.added second.added first.none second.none;
}

pub terms_none : (kept : Kept) → HasMoreTerms kept kept
terms_none kept = record { node = refl; services = refl; log = refl; entries = grew_none kept.entries }

pub terms_more : (a b c : Kept) → HasMoreTerms a b → HasMoreTerms b c → HasMoreTerms a c
terms_more a b c first second = record {
  node = second.node ∙ first.node;
  services = second.services ∙ first.services;
  log = second.log ∙ first.log;
  entries = grew_more a.entries b.entries c.entries first.entries second.entries;
}
