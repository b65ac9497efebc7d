-- The first fault of a packet with parts, in the order in which it is looked for.
use Rattle.std.proofs.Common.{◌≡◌, ℕ, ◌+◌, ◌-◌, ◌<◌, ◌≤◌, Bool, true, false, not, ◌&&◌, ◌||◌, List, length, Option, Some, None, refl, sym, ◌∙◌, ap, arith}
use Rattle.std.specs.Prelude.{nat_le, ◌==◌}
use Rattle.std.proofs.lemmas.Bool.{le-leb, eq-eqb, lt-leb}
use Rattle.wire_prims.specs.Fields.{u16_at}
use Rattle.wire_prims.specs.Header.{bad}
use Rattle.wire_prims.specs.Strict.{◌or_else◌, unless, rules_fault, strict_fault}
use Rattle.wire_prims.specs.StrictLaws.{strict_none}
use Rattle.wire_prims.specs.declared.fault.Bad.{Bad}
use Rattle.wire_prims.specs.declared.fault.BadCause.TheVariants as causes
use Rattle.wire_prims.specs.declared.fault.DecodeFault.{DecodeFault}
use Rattle.wire_prims.specs.declared.fault.DecodeFault.TheVariants as faults
use Rattle.wire_prims.specs.declared.strict.Tail.TheVariants.{Rest}
use Rattle.cluster_backup.specs.Templates.{rules_in, block}
use Rattle.cluster_backup.specs.Spelling.{IsFault, count_of, counts, front, has_parts, end_of, parts_fault, lacks_parts, counted_fault}
use Rattle.cluster_backup.specs.Laws.{in_range}
use Rattle.cluster_backup.specs.declared.part.Part.{Part}

or_nothing : (o : Option Bad) → (o or_else None) ≡ o
or_nothing None = refl
or_nothing (Some b) = refl

is_cut : (a b c p : Bool) (f g k : Bad) (r s t u : Option Bad) → ((a && b) && (c && not p)) ≡ true → (unless a f or_else unless b g or_else unless (not c || p) k or_else r or_else s or_else t or_else u) ≡ Some k
is_cut false b c p f g k r s t u e = absurd cc
is_cut true false c p f g k r s t u e = absurd cc
is_cut true true false p f g k r s t u e = absurd cc
is_cut true true true true f g k r s t u e = absurd cc
is_cut true true true false f g k r s t u e = refl

uncut : (a b c p q : Bool) (f g k m : Bad) (r s t u : Option Bad) → ((a && b) && (c && not p)) ≡ false → q ≡ true
    → (unless a f or_else unless b g or_else unless (not c || p) k or_else r or_else s or_else t or_else u) ≡ ((unless a f or_else unless b g or_else unless true k or_else r or_else s or_else unless q m) or_else t or_else u)
uncut false b c p q f g k m r s t u e h = refl
uncut true false c p q f g k m r s t u e h = refl
uncut true true false p true f g k m r s t u e h = ap (λ o. o or_else t or_else u) (sym (or_nothing (r or_else s)))
uncut true true false p false f g k m r s t u e h = absurd cc
uncut true true true true true f g k m r s t u e h = ap (λ o. o or_else t or_else u) (sym (or_nothing (r or_else s)))
uncut true true true true false f g k m r s t u e h = absurd cc
uncut true true true false q f g k m r s t u e h = absurd cc

all_there : (a b c p : Bool) → ((a && b) && (c && not p)) ≡ false → a ≡ true → b ≡ true → c ≡ true → p ≡ true
all_there a b c true e x y z = refl
all_there true true true false e x y z = absurd cc
all_there false b c false e x y z = absurd cc
all_there true false c false e x y z = absurd cc
all_there true true false false e x y z = absurd cc

module _ (k : Part) (bytes : List ℕ) where
  pub cut_fault : lacks_parts k bytes ≡ true → counted_fault k bytes ≡ Some (bad (length bytes) causes.Short)
  unfolding counted_fault
  cut_fault e =
      is_cut (u16_at 0 bytes == block k) (nat_le (front k) (length bytes)) (counts k bytes) (has_parts k bytes) (bad 0 causes.Block) (bad (length bytes) causes.Short) (bad (length bytes) causes.Short)
      (unless (u16_at 6 bytes == 0) (bad 6 causes.Value)) (rules_fault (rules_in k) 8 bytes) (parts_fault k (count_of k bytes) (front k) bytes)
      (unless (nat_le (length bytes) (end_of k bytes)) (bad (end_of k bytes) causes.Trailing)) e

  -- a byte follows the parts
  abbrev late : Option Bad
  late = unless (nat_le (length bytes) (end_of k bytes)) (bad (end_of k bytes) causes.Trailing)

  -- what is first wrong with the header and the block
  abbrev pub head_fault : Option Bad
  head_fault = strict_fault (rules_in k) (Rest (length bytes)) bytes

  abbrev each_fault : Option Bad
  each_fault = parts_fault k (count_of k bytes) (front k) bytes

  module _ (e : lacks_parts k bytes ≡ false) where
    uncut_fault : counted_fault k bytes ≡ (head_fault or_else each_fault or_else late)
    unfolding counted_fault strict_fault
    uncut_fault =
        uncut (u16_at 0 bytes == block k) (nat_le (front k) (length bytes)) (counts k bytes) (has_parts k bytes) (nat_le (length bytes - front k) (length bytes)) (bad 0 causes.Block) (bad (length bytes) causes.Short) (bad (length bytes) causes.Short) (bad (front k) causes.Value)
        (unless (u16_at 6 bytes == 0) (bad 6 causes.Value)) (rules_fault (rules_in k) 8 bytes) (parts_fault k (count_of k bytes) (front k) bytes) late e (le-leb (length bytes - front k) (length bytes) (omega arith))

    pub head_wrong : (b : Bad) → head_fault ≡ Some b → counted_fault k bytes ≡ Some b
    head_wrong b h = uncut_fault ∙ ap (λ o. o or_else each_fault or_else late) h

    pub head_right : head_fault ≡ None → counted_fault k bytes ≡ (each_fault or_else late)
    head_right h = uncut_fault ∙ ap (λ o. o or_else each_fault or_else late) h

    pub head_there : head_fault ≡ None → (front k ≤ length bytes) × (has_parts k bytes ≡ true)
    head_there h =
        let p = strict_none (rules_in k) (Rest (length bytes)) bytes h in
        let whole : front k ≤ length bytes = p.whole in
        (whole, all_there (u16_at 0 bytes == block k) (nat_le (front k) (length bytes)) (counts k bytes) (has_parts k bytes) e (eq-eqb (u16_at 0 bytes) (block k) p.block) (le-leb (front k) (length bytes) whole) (in_range k bytes p.pass))

    pub part_wrong : head_fault ≡ None → (b : Bad) → each_fault ≡ Some b → counted_fault k bytes ≡ Some b
    part_wrong h b f = head_right h ∙ ap (λ o. o or_else late) f

    pub end_wrong : head_fault ≡ None → each_fault ≡ None → end_of k bytes < length bytes → counted_fault k bytes ≡ Some (bad (end_of k bytes) causes.Trailing)
    end_wrong h f lt = head_right h ∙ ap (λ o. o or_else late) f ∙ ap (λ t. unless t (bad (end_of k bytes) causes.Trailing)) (lt-leb (length bytes) (end_of k bytes) lt)

    pub all_right : head_fault ≡ None → each_fault ≡ None → length bytes ≤ end_of k bytes → counted_fault k bytes ≡ None
    all_right h f le = head_right h ∙ ap (λ o. o or_else late) f ∙ ap (λ t. unless t (bad (end_of k bytes) causes.Trailing)) (le-leb (length bytes) (end_of k bytes) le)

-- a fault of a part is the packet's
pub fault_through : (k : Part) (bytes : List ℕ) (e : DecodeFault) → lacks_parts k bytes ≡ false → head_fault k bytes ≡ None → IsFault (parts_fault k (count_of k bytes) (front k) bytes) e → IsFault (counted_fault k bytes) e
fault_through k bytes (faults.Bad b) cut h f = part_wrong k bytes cut h b f
fault_through k bytes faults.NoMemory cut h f = tt
