-- The terms that begin in a log are in their ranges.
use Rattle.std.specs.Prelude.{All, ◌==◌, ◌&&◌, if◌then◌else◌}
use Rattle.std.specs.Int.{cast_unsigned}
use Rattle.std.proofs.Common.{◌≡◌, ℕ, suc, ◌+◌, ◌<◌, ◌≤◌, ◌^◌, ℤ, pos, negsuc, ◌≤ℤ◌, Bool, true, false, Some, None, Option, List, [], ◌∷◌, length, drop, get_or, w64, refl, sym, ◌∙◌, ap, subst, arith}
use Rattle.std.specs.Ordering.{int_eq}
use Rattle.std.proofs.lemmas.Bool.{and_parts, eqb-true, cond-true, cond-false}
use Rattle.std.proofs.lemmas.Bool.Decides.{Decides-int_eq}
use Rattle.std.proofs.lemmas.List.{drop_more, drop_all}
use Rattle.std.proofs.lemmas.Int.{ints, to_z_pos, of_z-to_z}
use Rattle.wire_prims.specs.Fields.{u16_at, i64_at}
use Rattle.cl_base.specs.declared.entry.Entry.{Entry}
use Rattle.sbe_events.specs.Laws.{Sound, sound, free_event}
use Rattle.sbe_events.specs.declared.template.Template.{Template}
use Rattle.sbe_events.specs.declared.template.Template.TheVariants as templates
use Rattle.entry_log.specs.Log.{Log}
use Rattle.log_segment.specs.declared.kept.NewTerm.{NewTerm}
use Rattle.log_segment.specs.Held.{IsEventEntry, new_term_of, put_term, new_terms}
use Rattle.member_disk.specs.Changes.{IsNewRanged, AreNewRanged, base_of}

base_fits : (z : ℤ) → pos 0 ≤ℤ z → z ≤ℤ pos (2 ^ 62) → cast_unsigned w64 z ≤ 2 ^ 62
base_fits (pos n) low high =
    let le : n ≤ 2 ^ 62 = omega (arith, ints, high) in
    let is : cast_unsigned w64 (pos n) ≡ n = ap (cast_unsigned w64) (sym (to_z_pos w64 n (omega arith))) ∙ of_z-to_z w64 n (omega arith) in
    omega (arith, is)
base_fits (negsuc n) low high = absurd (omega (arith, ints, low))

term_ranged : (t : Template) (bytes : List ℕ) (i : ℕ) → Sound t bytes → u16_at 2 bytes ≡ 24 → IsNewRanged (record { entry = i; term = i64_at 8 bytes; base = cast_unsigned w64 (i64_at 32 bytes); stamp = i64_at 24 bytes })
term_ranged templates.Term bytes i s is =
    let same : i64_at 32 bytes ≡ i64_at 16 bytes = s.strict.pass.1.1.1.0 in
    let place = s.strict.pass.1.0 in
    record {
      low = s.strict.pass.0.0;
      high = s.strict.pass.0.1;
      base = base_fits (i64_at 32 bytes) (subst (λ z. pos 0 ≤ℤ z) (sym same) place.0) (subst (λ z. z ≤ℤ pos (2 ^ 62)) (sym same) place.1);
    }
term_ranged templates.Message bytes i s is = let n = s.number in absurd (omega (arith, n, is))
term_ranged templates.Timer bytes i s is = let n = s.number in absurd (omega (arith, n, is))
term_ranged templates.Opened bytes i s is = let n = s.number in absurd (omega (arith, n, is))
term_ranged templates.Closed bytes i s is = let n = s.number in absurd (omega (arith, n, is))
term_ranged templates.Snapshot bytes i s is = let n = s.number in absurd (omega (arith, n, is))

pub new_ranged : (e : Entry) (i : ℕ) (t : NewTerm) → IsEventEntry e → new_term_of i e.bytes ≡ Some t → IsNewRanged t
new_ranged e i t event = go ((length e.bytes == 48) && (u16_at 2 e.bytes == 24)) refl
  where
    new : NewTerm
    new = record { entry = i; term = i64_at 8 e.bytes; base = cast_unsigned w64 (i64_at 32 e.bytes); stamp = i64_at 24 e.bytes }

    some_same : (a b : NewTerm) → Some a ≡ Some b → a ≡ b
    some_same a b same = cc

    go : (b : Bool) → ((length e.bytes == 48) && (u16_at 2 e.bytes == 24)) ≡ b → (if b then Some (record { entry = i; term = i64_at 8 e.bytes; base = cast_unsigned w64 (i64_at 32 e.bytes); stamp = i64_at 24 e.bytes }) else None) ≡ Some t → IsNewRanged t
    go true test same =
        let number = eqb-true (u16_at 2 e.bytes) 24 (and_parts (length e.bytes == 48) (u16_at 2 e.bytes == 24) test).1 in
        let found = sound e.bytes (free_event e.bytes event.0 event.1) in
        subst IsNewRanged (some_same _ t same) (term_ranged found.0 e.bytes i found.2 number)
    go false test same = absurd (cc)

put_ranged : (o : Option NewTerm) (ts : List NewTerm) → ((t : NewTerm) → o ≡ Some t → IsNewRanged t) → AreNewRanged ts → AreNewRanged (put_term o ts)
put_ranged None ts here rest = rest
put_ranged (Some t) ts here rest = (here t refl, rest)

pub new_terms_ranged : (i : ℕ) (log : Log) → All IsEventEntry log → AreNewRanged (new_terms i log)
new_terms_ranged i [] events = tt
new_terms_ranged i (e ∷ es) events =
    put_ranged (new_term_of i e.bytes) (new_terms (i + 1) es) (λ t is. new_ranged e i t (events 0 e (omega arith)) is) (new_terms_ranged (i + 1) es (λ k d below. events (suc k) d (omega (arith, below))))

pub base_ranged : (term : ℤ) (ts : List NewTerm) → AreNewRanged ts → base_of term ts ≤ 2 ^ 62
base_ranged term [] each = omega arith
base_ranged term (t ∷ ts) each = either (int_eq t.term term) t.base (base_of term ts) each.0.base (base_ranged term ts each.1)
  where
    either : (b : Bool) (m n : ℕ) → m ≤ 2 ^ 62 → n ≤ 2 ^ 62 → (if b then m else n) ≤ 2 ^ 62
    either true m n first second = first
    either false m n first second = second

-- how far a search for a term's base has come
module _ (term : ℤ) (ts : List NewTerm) (i : ℕ) (z : NewTerm) (within : i < length ts) (so_far : base_of term (drop i ts) ≡ base_of term ts) where
  pub base_hit : (get_or ts i z).term ≡ term → (get_or ts i z).base ≡ base_of term ts
  base_hit same =
      let hit : base_of term (get_or ts i z ∷ drop (i + 1) ts) ≡ (get_or ts i z).base = cond-true (int_eq (get_or ts i z).term term) (get_or ts i z).base (base_of term (drop (i + 1) ts)) ((Decides-int_eq (get_or ts i z).term term).1 same) in
      sym hit ∙ ap (base_of term) (sym (drop_more ts i z within)) ∙ so_far

  pub base_miss : ((get_or ts i z).term ≡ term → ⊥) → base_of term (drop (i + 1) ts) ≡ base_of term ts
  base_miss differs =
      let miss : base_of term (get_or ts i z ∷ drop (i + 1) ts) ≡ base_of term (drop (i + 1) ts) = cond-false (int_eq (get_or ts i z).term term) (get_or ts i z).base (base_of term (drop (i + 1) ts)) (none (int_eq (get_or ts i z).term term) (λ e. differs ((Decides-int_eq (get_or ts i z).term term).0 e))) in
      sym miss ∙ ap (base_of term) (sym (drop_more ts i z within)) ∙ so_far
    where
      none : (b : Bool) → (b ≡ true → ⊥) → b ≡ false
      none true not_so = absurd (not_so refl)
      none false not_so = refl

pub base_end : (term : ℤ) (ts : List NewTerm) (i : ℕ) → length ts ≤ i → base_of term (drop i ts) ≡ base_of term ts → 0 ≡ base_of term ts
base_end term ts i over so_far = ap (base_of term) (sym (drop_all i ts over)) ∙ so_far
