-- The valid sets of snapshots, as a list and one by one.
use Rattle.std.specs.Prelude.{slice_get, int_le, int_lt, nat_le, ◌^◌, ◌==◌, ◌&&◌, ◌||◌, if◌then◌else◌}
use Rattle.std.specs.Bool.{Decides}
use Rattle.std.specs.Ordering.{int_eq}
use Rattle.std.proofs.Common.{◌≡◌, inl, inr, ⊎_elim, ℕ, zero, suc, ℤ, pos, Bool, true, false, IsTrue, List, [], ◌∷◌, length, get_or, Some, refl, sym, ap, ◌∙◌, subst, arith}
use Rattle.std.specs.Prelude.{nat_abs}
use Rattle.std.proofs.lemmas.Bool.{and_parts, and_from, or_cases, eqb-true, both_ways}
use Rattle.std.proofs.lemmas.Bool.Decides.{Decides-int_eq, Decides-and, Decides-like, Decides-by_or, Decides-below_and}
use Rattle.std.proofs.lemmas.Int.{ints}
use Rattle.std.proofs.lemmas.Option.{slice_get_within, slice_get-get_or, get_or_from_slice_get}
use Rattle.recording_log.specs.declared.entry.RecEntry.{RecEntry}
use Rattle.recording_log.specs.declared.entry.SnapshotAt.{SnapshotAt}
use Rattle.recording_log.specs.Valid.{is_snapshot, is_valid, in_range, names_snapshot}
use Rattle.recording_log.specs.Sets.{the_module, IsPart, HasPart, HasSet}
use Rattle.recording_log.specs.Listed.{EachListed, AreSets}
use Rattle.run_report.specs.Text.{set_lines}
use Rattle.cluster_tool.specs.Sets.{is_part, has_part, has_services, has_set, names_set, set_named, put_in, sets_among, sets_of}
use Rattle.cluster_tool.proofs.Ordered.{In, Sorted, sorted_put, in_put, in_old, in_only, listed_alike, rise_sorted, among_in}

abbrev no_entry : RecEntry
no_entry = record { recording = pos 0; term = pos 0; base = pos 0; position = pos 0; stamp = pos 0; service = pos 0; kind = 0 }

part_decides : (term position service : ℤ) (e : RecEntry) → Decides (is_part term position service e) (IsPart term position service e)
part_decides term position service e =
    Decides-like (is_part term position service e) (λ all. (all.0, all.1.0, all.1.1.0, all.1.1.1)) (λ all. (all.0, (all.1, (all.2, all.3))))
    (Decides-and (is_snapshot e) (int_eq e.term term && (int_eq e.position position && int_eq e.service service)) (λ is. is, λ is. is)
    (Decides-and (int_eq e.term term) (int_eq e.position position && int_eq e.service service) (Decides-int_eq e.term term)
    (Decides-and (int_eq e.position position) (int_eq e.service service) (Decides-int_eq e.position position) (Decides-int_eq e.service service))))

has_part_decides : (term position service : ℤ) (entries : List RecEntry) → Decides (has_part term position service entries) (HasPart entries term position service)
has_part_decides term position service entries =
    Decides-like (has_part term position service entries)
    (λ at. record { index = at.0; entry = get_or entries at.0 no_entry; at = slice_get-get_or entries at.0 no_entry at.1; part = at.2 no_entry })
    (λ has. (has.index, slice_get_within entries has.index has.entry has.at, λ d. subst (IsPart term position service) (sym (get_or_from_slice_get entries has.index has.entry d has.at)) has.part))
    (Decides-by_or (is_part term position service) (IsPart term position service) (has_part term position service) (part_decides term position service) refl (λ _ _. refl) entries)

set_decides : (services : ℕ) (entries : List RecEntry) (term position : ℤ) → Decides (has_set services entries term position) (HasSet services entries term position)
set_decides services entries term position =
    Decides-like (has_set services entries term position) (λ both. record { of_module = both.0; each = both.1 }) (λ set. (set.of_module, set.each))
    (Decides-and (has_part term position the_module entries) (has_services entries term position services) (has_part_decides term position the_module entries)
    (Decides-below_and (λ n. has_part term position (pos n) entries) (λ n. HasPart entries term position (pos n)) (has_services entries term position) (λ n. has_part_decides term position (pos n) entries) refl (λ _. refl) services))

-- a SNAPSHOT entry that counts has a position that isn't negative
position_named : (e : RecEntry) → IsTrue (is_snapshot e) → e.position ≡ pos (nat_abs e.position)
position_named e is =
    let p = and_parts (is_valid e) (e.kind == 1) is in
    let v = and_parts (nat_le e.kind 1 && in_range e.term && in_range e.base) (e.kind == 0 || names_snapshot e) p.0 in
    let one = eqb-true e.kind 1 p.1 in
    ⊎_elim (λ zero. let none = eqb-true e.kind 0 zero in absurd (omega (arith, one, none)))
    (λ named.
    let n = and_parts (int_le (pos 0) e.recording && int_lt e.recording (pos 1024)) (in_range e.position) named in
    let low = (and_parts (int_le (pos 0) e.position) (int_le e.position (pos (2 ^ 62))) n.1).0 in
    grind (arith, ints, low))
    (or_cases (e.kind == 0) (names_snapshot e) v.1)

module _ (services : ℕ) (entries : List RecEntry) where
  -- what an entry adds
  adds : (e : RecEntry) (es : List RecEntry) (P : List SnapshotAt → Type 0) → (names_set services entries e ≡ true → P (put_in (set_named e) (sets_among services entries es))) → (names_set services entries e ≡ false → P (sets_among services entries es)) → P (sets_among services entries (e ∷ es))
  adds e es P named passed = by (names_set services entries e) refl
    where
      by : (b : Bool) → names_set services entries e ≡ b → P (if b then put_in (set_named e) (sets_among services entries es) else sets_among services entries es)
      by true is = named is
      by false is = passed is

  sorted_among : (es : List RecEntry) → Sorted (sets_among services entries es)
  sorted_among [] = tt
  sorted_among (e ∷ es) = adds e es Sorted (λ is. sorted_put (set_named e) (sets_among services entries es) (sorted_among es)) (λ is. sorted_among es)

  -- the module's entry of a valid set is listed
  named_in : (es : List RecEntry) (i : ℕ) (e : RecEntry) → slice_get es i ≡ Some e → names_set services entries e ≡ true → In e.term (nat_abs e.position) (sets_among services entries es)
  named_in [] i e at names = absurd cc
  named_in (x ∷ es) zero e at names =
      let same : x ≡ e = cc in
      adds x es (In e.term (nat_abs e.position))
      (λ is. subst (λ (y : RecEntry). In y.term (nat_abs y.position) (put_in (set_named x) (sets_among services entries es))) same (in_put (set_named x) (sets_among services entries es)))
      (λ is. absurd (both_ways (names_set services entries e) (ap (names_set services entries) (sym same) ∙ is) names))
  named_in (x ∷ es) (suc i) e at names =
      adds x es (In e.term (nat_abs e.position))
      (λ is. in_old (set_named x) (sets_among services entries es) e.term (nat_abs e.position) (named_in es i e at names))
      (λ is. named_in es i e at names)

  set_in : (t : ℤ) (p : ℕ) → HasSet services entries t (pos p) → In t p (sets_of services entries)
  set_in t p set =
      let e = set.of_module.entry in
      let part = set.of_module.part in
      let whole : HasSet services entries e.term e.position = subst (λ u. HasSet services entries u e.position) (sym part.1) (subst (λ q. HasSet services entries t q) (sym part.2) set) in
      let names = and_from (is_snapshot e) (int_eq e.service the_module && has_set services entries e.term e.position) part.0
      (and_from (int_eq e.service the_module) (has_set services entries e.term e.position) ((Decides-int_eq e.service the_module).1 part.3) ((set_decides services entries e.term e.position).1 whole)) in
      let there = named_in entries set.of_module.index e set.of_module.at names in
      subst (λ u. In u p (sets_of services entries)) part.1 (subst (λ q. In e.term q (sets_of services entries)) (ap nat_abs part.2) there)

  -- what is listed is a valid set
  in_set : (es : List RecEntry) (t : ℤ) (p : ℕ) → In t p (sets_among services entries es) → HasSet services entries t (pos p)
  in_set [] t p = λ is. absurd is
  in_set (e ∷ es) t p = adds e es (λ l. In t p l → HasSet services entries t (pos p))
      (λ names is. ⊎_elim (λ here. named e t p names here.0 here.1) (λ there. in_set es t p there) (in_only (set_named e) (sets_among services entries es) t p is))
      (λ not_named is. in_set es t p is)
    where
      named : (x : RecEntry) (u : ℤ) (q : ℕ) → names_set services entries x ≡ true → x.term ≡ u → nat_abs x.position ≡ q → HasSet services entries u (pos q)
      named x u q names term position =
          let parts = and_parts (is_snapshot x) (int_eq x.service the_module && has_set services entries x.term x.position) names in
          let whole = (set_decides services entries x.term x.position).0 (and_parts (int_eq x.service the_module) (has_set services entries x.term x.position) parts.1).1 in
          subst (λ v. HasSet services entries v (pos q)) term (subst (λ z. HasSet services entries x.term z) (position_named x parts.0 ∙ ap pos position) whole)

  listed_set : (ss : List SnapshotAt) (t : ℤ) (p : ℕ) → EachListed services entries ss → In t p ss → HasSet services entries t (pos p)
  listed_set [] t p each is = absurd is
  listed_set (s ∷ ss) t p each (inl is) = subst (λ u. HasSet services entries u (pos p)) is.0 (subst (λ q. HasSet services entries s.term (pos q)) is.1 (each 0 s (omega arith)).whole)
  listed_set (s ∷ ss) t p each (inr is) = listed_set ss t p (λ k d below. each (suc k) d (omega arith)) is

  -- every list of the valid sets has these lines, and as many
  pub sets_listed : (ss : List SnapshotAt) → AreSets services entries ss → (set_lines ss ≡ set_lines (sets_of services entries)) × (length ss ≡ length (sets_of services entries))
  sets_listed ss are = listed_alike ss (sets_of services entries) (rise_sorted ss are.rise) (sorted_among entries)
      (λ t p is. set_in t p (listed_set ss t p are.each is))
      (λ t p is. among_in ss t p (are.all t (pos p) (in_set entries t p is)))
