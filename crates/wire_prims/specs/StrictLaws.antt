-- Bytes without a fault are spelled by what stands in them, and what is spelled so has no fault.
use Rattle.std.proofs.Common.{◌≡◌, ◌⊎◌, inl, inr, ℕ, ◌+◌, ◌-◌, ◌^◌, ◌<◌, ◌≤◌, ℤ, pos, negsuc, ◌≤ℤ◌, Bool, true, false, cond, ◌&&◌, T, List, [], ◌∷◌, ◌++◌, length, take, drop, Option, Some, None, FitsSigned, w32, w64, refl, sym, ◌∙◌, ap, subst, arith, append_assoc, add-zero, add_assoc}
use Rattle.std.specs.Prelude.{int_le, nat_le, ◌==◌}
use Rattle.std.specs.Ordering.{int_eq}
use Rattle.std.proofs.lemmas.Bool.{and_parts, and_from, or_cases, or_left, or_right, leb-true, le-leb, eqb-true, eq-eqb}
use Rattle.std.proofs.lemmas.List.{append-nil, drop_at, take_all, drop_all, length-append, length-take, length-drop}
use Rattle.std.proofs.lemmas.Int.{ints}
use Rattle.wire_prims.specs.Fields.{u16_at, u32_at, i32_at, i64_at, le16, le32, signed32, signed64, IsBytes, length-le16, length-le32, length-signed32, length-signed64, u16_at-put, u32_at-put, i32_at-put, i64_at-put, u16_at-drop, u32_at-drop, i32_at-drop, i64_at-drop}
use Rattle.wire_prims.specs.Header.{bad}
use Rattle.wire_prims.specs.declared.fault.Bad.{Bad}
use Rattle.wire_prims.specs.declared.fault.BadCause.TheVariants.{Short, Block, Value, Trailing}
use Rattle.wire_prims.specs.declared.strict.Field.{Field}
use Rattle.wire_prims.specs.declared.strict.Field.TheVariants.{I64, I32}
use Rattle.wire_prims.specs.declared.strict.Rule.{Rule}
use Rattle.wire_prims.specs.declared.strict.Rule.TheVariants.{Wide, Narrow, AnyWide, AnyNarrow, Repeat, Sender, Service}
use Rattle.wire_prims.specs.declared.strict.Tail.{Tail}
use Rattle.wire_prims.specs.declared.strict.Tail.TheVariants.{Nothing, Rest, Counted}
use Rattle.wire_prims.specs.Strict.{block_bytes, block_size, message, counted, is_service_session, ◌or_else◌, unless, rule_size, rules_size, passes, rules_fault, tail_there, tail_fault, strict_fault}

-- ---- tests

truth : (b : Bool) → b ≡ true → T b
truth b e = subst T (sym e) tt

pub true_from : (b : Bool) → T b → b ≡ true
true_from true t = refl
true_from false t = absurd t

or_none : (a b : Option Bad) → (a or_else b) ≡ None → (a ≡ None) × (b ≡ None)
or_none None b e = (refl, e)
or_none (Some x) b e = absurd cc

or_both : (a b : Option Bad) → a ≡ None → b ≡ None → (a or_else b) ≡ None
or_both None b p q = q
or_both (Some x) b p q = absurd cc

unless_none : (b : Bool) (f : Bad) → unless b f ≡ None → b ≡ true
unless_none true f e = refl
unless_none false f e = absurd cc

unless_true : (b : Bool) (f : Bad) → b ≡ true → unless b f ≡ None
unless_true true f e = refl
unless_true false f e = absurd cc

first_none : (b : Bool) (x : Option Bad) (f : Bad) → cond b x (Some f) ≡ None → (b ≡ true) × (x ≡ None)
first_none true x f e = (refl, e)
first_none false x f e = absurd cc

first_true : (b : Bool) (x : Option Bad) (f : Bad) → b ≡ true → x ≡ None → cond b x (Some f) ≡ None
first_true true x f p q = q
first_true false x f p q = absurd cc

-- ---- ranges

-- the numbers from one to another
abbrev pub Between : ℤ → ℤ → ℤ → Type 0
Between low high z = (low ≤ℤ z) × (z ≤ℤ high)

between_true : (low high z : ℤ) → (int_le low z && int_le z high) ≡ true → Between low high z
between_true low high z e =
    let parts = and_parts (int_le low z) (int_le z high) e in
    (record { le = truth (int_le low z) parts.0 }, record { le = truth (int_le z high) parts.1 })

true_between : (low high z : ℤ) → Between low high z → (int_le low z && int_le z high) ≡ true
true_between low high z h = and_from (int_le low z) (int_le z high) (true_from (int_le low z) h.0.le) (true_from (int_le z high) h.1.le)

-- the number at this place is allowed by the rule
abbrev pub Passes : Rule → ℕ → List ℕ → Type 0
Passes (Wide low high) at bytes = Between low high (i64_at at bytes)
Passes (Narrow low high) at bytes = Between low high (i32_at at bytes)
Passes AnyWide at bytes = Unit {0}
Passes AnyNarrow at bytes = Unit {0}
Passes (Repeat back) at bytes = i64_at at bytes ≡ i64_at (at - back) bytes
Passes Sender at bytes = (pos 1 ≤ℤ i64_at at bytes) ⊎ (is_service_session (i64_at at bytes) ≡ true)
Passes Service at bytes = is_service_session (i64_at at bytes) ≡ true

-- each number from this place on is allowed by its rule
abbrev pub AllPass : List Rule → ℕ → List ℕ → Type 0
AllPass [] at bytes = Unit {0}
AllPass (r ∷ rs) at bytes = Passes r at bytes × AllPass rs (at + rule_size r) bytes

int_eq_true : (a b : ℤ) → int_eq a b ≡ true → a ≡ b
int_eq_true a b e = grind (arith, ints)

true_int_eq : (a b : ℤ) → a ≡ b → int_eq a b ≡ true
true_int_eq a b e = grind (arith, ints)

passes_true : (r : Rule) (at : ℕ) (bytes : List ℕ) → passes r at bytes ≡ true → Passes r at bytes
passes_true (Wide low high) at bytes e = between_true low high (i64_at at bytes) e
passes_true (Narrow low high) at bytes e = between_true low high (i32_at at bytes) e
passes_true AnyWide at bytes e = tt
passes_true AnyNarrow at bytes e = tt
passes_true (Repeat back) at bytes e = int_eq_true (i64_at at bytes) (i64_at (at - back) bytes) e
passes_true Sender at bytes e = elim (or_cases (int_le (pos 1) (i64_at at bytes)) (is_service_session (i64_at at bytes)) e) [
  | inl client ↦ inl (record { le = truth (int_le (pos 1) (i64_at at bytes)) client })
  | inr service ↦ inr service
]
passes_true Service at bytes e = e

true_passes : (r : Rule) (at : ℕ) (bytes : List ℕ) → Passes r at bytes → passes r at bytes ≡ true
true_passes (Wide low high) at bytes h = true_between low high (i64_at at bytes) h
true_passes (Narrow low high) at bytes h = true_between low high (i32_at at bytes) h
true_passes AnyWide at bytes h = refl
true_passes AnyNarrow at bytes h = refl
true_passes (Repeat back) at bytes h = true_int_eq (i64_at at bytes) (i64_at (at - back) bytes) h
true_passes Sender at bytes (inl client) = or_left (int_le (pos 1) (i64_at at bytes)) (is_service_session (i64_at at bytes)) (true_from (int_le (pos 1) (i64_at at bytes)) client.le)
true_passes Sender at bytes (inr service) = or_right (int_le (pos 1) (i64_at at bytes)) (is_service_session (i64_at at bytes)) service
true_passes Service at bytes h = h

all_pass : (rs : List Rule) (at : ℕ) (bytes : List ℕ) → rules_fault rs at bytes ≡ None → AllPass rs at bytes
all_pass [] at bytes e = tt
all_pass (r ∷ rs) at bytes e =
    let parts = first_none (passes r at bytes) (rules_fault rs (at + rule_size r) bytes) (bad at Value) e in
    (passes_true r at bytes parts.0, all_pass rs (at + rule_size r) bytes parts.1)

pub none_fails : (rs : List Rule) (at : ℕ) (bytes : List ℕ) → AllPass rs at bytes → rules_fault rs at bytes ≡ None
none_fails [] at bytes h = refl
none_fails (r ∷ rs) at bytes h =
    first_true (passes r at bytes) (rules_fault rs (at + rule_size r) bytes) (bad at Value) (true_passes r at bytes h.0) (none_fails rs (at + rule_size r) bytes h.1)

-- ---- bytes without a fault

pub record IsStrict (rules : List Rule) (tail : Tail) (bytes : List ℕ) : Type 0 where
  pub block : u16_at 0 bytes ≡ rules_size rules
  pub whole : 8 + rules_size rules ≤ length bytes
  pub there : tail_there tail (8 + rules_size rules) bytes ≡ true
  pub version : u16_at 6 bytes ≡ 0
  pub pass : AllPass rules 8 bytes
  pub ends : tail_fault tail (8 + rules_size rules) bytes ≡ None

module _ (rules : List Rule) (tail : Tail) (bytes : List ℕ) where
  abbrev at_end : ℕ
  at_end = 8 + rules_size rules

  abbrev block_fault : Option Bad
  block_fault = unless (u16_at 0 bytes == rules_size rules) (bad 0 Block)

  abbrev whole_fault : Option Bad
  whole_fault = unless (nat_le (8 + rules_size rules) (length bytes)) (bad (length bytes) Short)

  abbrev there_fault : Option Bad
  there_fault = unless (tail_there tail at_end bytes) (bad (length bytes) Short)

  abbrev version_fault : Option Bad
  version_fault = unless (u16_at 6 bytes == 0) (bad 6 Value)

  pub strict_none : strict_fault rules tail bytes ≡ None → IsStrict rules tail bytes
  unfolding strict_fault
  strict_none e =
      let f5 = or_none (block_fault or_else whole_fault or_else there_fault or_else version_fault or_else rules_fault rules 8 bytes) (tail_fault tail at_end bytes) e in
      let f4 = or_none (block_fault or_else whole_fault or_else there_fault or_else version_fault) (rules_fault rules 8 bytes) f5.0 in
      let f3 = or_none (block_fault or_else whole_fault or_else there_fault) version_fault f4.0 in
      let f2 = or_none (block_fault or_else whole_fault) there_fault f3.0 in
      let f1 = or_none block_fault whole_fault f2.0 in
      record {
        block = eqb-true (u16_at 0 bytes) (rules_size rules) (unless_none (u16_at 0 bytes == rules_size rules) (bad 0 Block) f1.0);
        whole = leb-true (8 + rules_size rules) (length bytes) (unless_none (nat_le (8 + rules_size rules) (length bytes)) (bad (length bytes) Short) f1.1);
        there = unless_none (tail_there tail at_end bytes) (bad (length bytes) Short) f2.1;
        version = eqb-true (u16_at 6 bytes) 0 (unless_none (u16_at 6 bytes == 0) (bad 6 Value) f3.1);
        pass = all_pass rules 8 bytes f4.1;
        ends = f5.1;
      }

  pub none_strict : IsStrict rules tail bytes → strict_fault rules tail bytes ≡ None
  unfolding strict_fault
  none_strict h =
      let f0 = unless_true (u16_at 0 bytes == rules_size rules) (bad 0 Block) (eq-eqb (u16_at 0 bytes) (rules_size rules) h.block) in
      let f1 = unless_true (nat_le (8 + rules_size rules) (length bytes)) (bad (length bytes) Short) (le-leb (8 + rules_size rules) (length bytes) h.whole) in
      let f2 = unless_true (tail_there tail at_end bytes) (bad (length bytes) Short) h.there in
      let f3 = unless_true (u16_at 6 bytes == 0) (bad 6 Value) (eq-eqb (u16_at 6 bytes) 0 h.version) in
      let f4 = none_fails rules 8 bytes h.pass in
      or_both (block_fault or_else whole_fault or_else there_fault or_else version_fault or_else rules_fault rules 8 bytes) (tail_fault tail at_end bytes)
      (or_both (block_fault or_else whole_fault or_else there_fault or_else version_fault) (rules_fault rules 8 bytes)
      (or_both (block_fault or_else whole_fault or_else there_fault) version_fault (or_both (block_fault or_else whole_fault) there_fault (or_both block_fault whole_fault f0 f1) f2) f3) f4) h.ends

-- ---- what stands in a block

-- these numbers stand in the bytes, from this place on
abbrev pub Reads : ℕ → List Field → List ℕ → Type 0
Reads at [] bytes = Unit {0}
Reads at (I64 z ∷ fs) bytes = (i64_at at bytes ≡ z) × Reads (at + 8) fs bytes
Reads at (I32 z ∷ fs) bytes = (i32_at at bytes ≡ z) × Reads (at + 4) fs bytes

-- each number fits its bytes
abbrev pub AllFit : List Field → Type 0
AllFit [] = Unit {0}
AllFit (I64 z ∷ fs) = FitsSigned w64 z × AllFit fs
AllFit (I32 z ∷ fs) = FitsSigned w32 z × AllFit fs

module _ (bytes : List ℕ) (fits : IsBytes bytes) where
  step : (field block : List ℕ) (at size more : ℕ) → field ++ drop (at + size) bytes ≡ drop at bytes → block ++ drop (at + size + more) bytes ≡ drop (at + size) bytes
      → (field ++ block) ++ drop (at + (size + more)) bytes ≡ drop at bytes
  step field block at size more first next =
      append_assoc field block (drop (at + (size + more)) bytes) ∙ ap (λ k. field ++ (block ++ drop k bytes)) (sym (add_assoc at size more)) ∙ ap (λ l. field ++ l) next ∙ first

  pub block_spelled : (fs : List Field) (at : ℕ) → at + block_size fs ≤ length bytes → Reads at fs bytes → block_bytes fs ++ drop (at + block_size fs) bytes ≡ drop at bytes
  block_spelled [] at inside reads = ap (λ k. drop k bytes) (add-zero at)
  block_spelled (I64 z ∷ fs) at inside reads =
      step (signed64 z) (block_bytes fs) at 8 (block_size fs)
      (ap (λ v. signed64 v ++ drop (at + 8) bytes) (sym reads.0) ∙ i64_at-drop at bytes fits (omega arith)) (block_spelled fs (at + 8) (omega arith) reads.1)
  block_spelled (I32 z ∷ fs) at inside reads =
      step (signed32 z) (block_bytes fs) at 4 (block_size fs)
      (ap (λ v. signed32 v ++ drop (at + 4) bytes) (sym reads.0) ∙ i32_at-drop at bytes fits (omega arith)) (block_spelled fs (at + 4) (omega arith) reads.1)

pub block_put : (fs : List Field) (front rest : List ℕ) (at : ℕ) → length front ≡ at → AllFit fs → Reads at fs (front ++ (block_bytes fs ++ rest))
block_put [] front rest at len fits = tt
block_put (I64 z ∷ fs) front rest at len fits =
    let near : front ++ ((signed64 z ++ block_bytes fs) ++ rest) ≡ front ++ (signed64 z ++ (block_bytes fs ++ rest)) = ap (λ l. front ++ l) (append_assoc (signed64 z) (block_bytes fs) rest) in
    let far : front ++ (signed64 z ++ (block_bytes fs ++ rest)) ≡ (front ++ signed64 z) ++ (block_bytes fs ++ rest) = sym (append_assoc front (signed64 z) (block_bytes fs ++ rest)) in
    let next : length (front ++ signed64 z) ≡ at + 8 = omega (arith, length-append front (signed64 z), length-signed64 z) in
    (ap (i64_at at) near ∙ i64_at-put at z front (block_bytes fs ++ rest) len fits.0, subst (λ l. Reads (at + 8) fs l) (sym (near ∙ far)) (block_put fs (front ++ signed64 z) rest (at + 8) next fits.1))
block_put (I32 z ∷ fs) front rest at len fits =
    let near : front ++ ((signed32 z ++ block_bytes fs) ++ rest) ≡ front ++ (signed32 z ++ (block_bytes fs ++ rest)) = ap (λ l. front ++ l) (append_assoc (signed32 z) (block_bytes fs) rest) in
    let far : front ++ (signed32 z ++ (block_bytes fs ++ rest)) ≡ (front ++ signed32 z) ++ (block_bytes fs ++ rest) = sym (append_assoc front (signed32 z) (block_bytes fs ++ rest)) in
    let next : length (front ++ signed32 z) ≡ at + 4 = omega (arith, length-append front (signed32 z), length-signed32 z) in
    (ap (i32_at at) near ∙ i32_at-put at z front (block_bytes fs ++ rest) len fits.0, subst (λ l. Reads (at + 4) fs l) (sym (near ∙ far)) (block_put fs (front ++ signed32 z) rest (at + 4) next fits.1))

pub length-block_bytes : (fs : List Field) → length (block_bytes fs) ≡ block_size fs
length-block_bytes [] = refl
length-block_bytes (I64 z ∷ fs) = omega (arith, length-append (signed64 z) (block_bytes fs), length-signed64 z, length-block_bytes fs)
length-block_bytes (I32 z ∷ fs) = omega (arith, length-append (signed32 z) (block_bytes fs), length-signed32 z, length-block_bytes fs)

-- ---- what follows a block

-- what stands behind the block, which ends at this place
abbrev pub tail_value : Tail → ℕ → List ℕ → List ℕ
tail_value Nothing at bytes = []
tail_value (Rest limit) at bytes = drop at bytes
tail_value (Counted limit) at bytes = take (u32_at at bytes) (drop (at + 4) bytes)

abbrev pub tail_spelling : Tail → List ℕ → List ℕ
tail_spelling Nothing c = []
tail_spelling (Rest limit) c = c
tail_spelling (Counted limit) c = counted c

abbrev pub TailFits : Tail → List ℕ → Type 0
TailFits Nothing c = c ≡ []
TailFits (Rest limit) c = length c ≤ limit
TailFits (Counted limit) c = (length c ≤ limit) × (limit < 2 ^ 32)

-- a counted field ends where the bytes end
counted_ends : (limit at : ℕ) (bytes : List ℕ) → tail_fault (Counted limit) at bytes ≡ None → (u32_at at bytes ≤ limit) × (length bytes ≤ at + 4 + u32_at at bytes)
counted_ends limit at bytes e =
    let parts = or_none (unless (nat_le (u32_at at bytes) limit) (bad at Value)) (unless (nat_le (length bytes) (at + 4 + u32_at at bytes)) (bad (at + 4 + u32_at at bytes) Trailing)) e in (
      leb-true (u32_at at bytes) limit (unless_none (nat_le (u32_at at bytes) limit) (bad at Value) parts.0),
      leb-true (length bytes) (at + 4 + u32_at at bytes) (unless_none (nat_le (length bytes) (at + 4 + u32_at at bytes)) (bad (at + 4 + u32_at at bytes) Trailing) parts.1),
    )

counted_there : (limit at : ℕ) (bytes : List ℕ) → tail_there (Counted limit) at bytes ≡ true → at + 4 + u32_at at bytes ≤ length bytes
counted_there limit at bytes e =
    leb-true (at + 4 + u32_at at bytes) (length bytes) (and_parts (nat_le (at + 4) (length bytes)) (nat_le (at + 4 + u32_at at bytes) (length bytes)) e).1

pub tail_fits : (tail : Tail) (at : ℕ) (bytes : List ℕ) → tail_there tail at bytes ≡ true → tail_fault tail at bytes ≡ None → (limit : ℕ) → tail ≡ Counted limit ⊎ tail ≡ Rest limit → length (tail_value tail at bytes) ≤ limit
tail_fits tail at bytes there ends limit (inl is) =
    let a : tail_there (Counted limit) at bytes ≡ true = ap (λ t. tail_there t at bytes) (sym is) ∙ there in
    let b : tail_fault (Counted limit) at bytes ≡ None = ap (λ t. tail_fault t at bytes) (sym is) ∙ ends in
    let m = counted_ends limit at bytes b in
    subst (λ t. length (tail_value t at bytes) ≤ limit) (sym is) (omega (arith, m.0, length-take (u32_at at bytes) (drop (at + 4) bytes)))
tail_fits tail at bytes there ends limit (inr is) =
    let b : tail_fault (Rest limit) at bytes ≡ None = ap (λ t. tail_fault t at bytes) (sym is) ∙ ends in
    let m = leb-true (length bytes - at) limit (unless_none (nat_le (length bytes - at) limit) (bad at Value) b) in
    subst (λ t. length (tail_value t at bytes) ≤ limit) (sym is) (omega (arith, m, length-drop at bytes))

tail_spelled : (tail : Tail) (at : ℕ) (bytes : List ℕ) → IsBytes bytes → tail_there tail at bytes ≡ true → tail_fault tail at bytes ≡ None → tail_spelling tail (tail_value tail at bytes) ≡ drop at bytes
tail_spelled Nothing at bytes fits there ends = sym (drop_all at bytes (leb-true (length bytes) at (unless_none (nat_le (length bytes) at) (bad at Trailing) ends)))
tail_spelled (Rest limit) at bytes fits there ends = refl
tail_spelled (Counted limit) at bytes fits there ends =
    let n = u32_at at bytes in
    let is_there : at + 4 + u32_at at bytes ≤ length bytes = counted_there limit at bytes there in
    let is_end : length bytes ≤ at + 4 + u32_at at bytes = (counted_ends limit at bytes ends).1 in
    let all : take (u32_at at bytes) (drop (at + 4) bytes) ≡ drop (at + 4) bytes = take_all (u32_at at bytes) (drop (at + 4) bytes) (omega (arith, length-drop (at + 4) bytes)) in
    let size : length (take (u32_at at bytes) (drop (at + 4) bytes)) ≡ u32_at at bytes = omega (arith, length-take (u32_at at bytes) (drop (at + 4) bytes), length-drop (at + 4) bytes) in
    ap (λ k. le32 k ++ take (u32_at at bytes) (drop (at + 4) bytes)) size ∙ ap (λ l. le32 (u32_at at bytes) ++ l) all ∙ u32_at-drop at bytes fits (omega arith)

module _ (front : List ℕ) (at : ℕ) (len : length front ≡ at) where
  counted_length : (limit : ℕ) (c : List ℕ) → TailFits (Counted limit) c → u32_at at (front ++ counted c) ≡ length c
  counted_length limit c fits = u32_at-put at (length c) front c len (omega (arith, fits.0, fits.1))

  counted_size : (c : List ℕ) → length (front ++ counted c) ≡ at + 4 + length c
  counted_size c = omega (arith, length-append front (counted c), length-append (le32 (length c)) c, length-le32 (length c))

  put_there : (tail : Tail) (c : List ℕ) → TailFits tail c → tail_there tail at (front ++ tail_spelling tail c) ≡ true
  put_there Nothing c fits = refl
  put_there (Rest limit) c fits = refl
  put_there (Counted limit) c fits =
      let n = counted_length limit c fits in
      let size = counted_size c in
      and_from (nat_le (at + 4) (length (front ++ counted c))) (nat_le (at + 4 + u32_at at (front ++ counted c)) (length (front ++ counted c)))
      (le-leb (at + 4) (length (front ++ counted c)) (omega (arith, size))) (le-leb (at + 4 + u32_at at (front ++ counted c)) (length (front ++ counted c)) (omega (arith, n, size)))

  put_ends : (tail : Tail) (c : List ℕ) → TailFits tail c → tail_fault tail at (front ++ tail_spelling tail c) ≡ None
  put_ends Nothing c fits = unless_true (nat_le (length (front ++ [])) at) (bad at Trailing) (le-leb (length (front ++ [])) at (omega (arith, ap length (append-nil front), len)))
  put_ends (Rest limit) c fits = unless_true (nat_le (length (front ++ c) - at) limit) (bad at Value) (le-leb (length (front ++ c) - at) limit (omega (arith, length-append front c, fits, len)))
  put_ends (Counted limit) c fits =
      let n = counted_length limit c fits in
      let size = counted_size c in
      let b = front ++ counted c in
      or_both (unless (nat_le (u32_at at (front ++ counted c)) limit) (bad at Value))
      (unless (nat_le (length (front ++ counted c)) (at + 4 + u32_at at (front ++ counted c))) (bad (at + 4 + u32_at at (front ++ counted c)) Trailing))
      (unless_true (nat_le (u32_at at (front ++ counted c)) limit) (bad at Value) (le-leb (u32_at at (front ++ counted c)) limit (omega (arith, n, fits.0))))
      (unless_true (nat_le (length (front ++ counted c)) (at + 4 + u32_at at (front ++ counted c))) (bad (at + 4 + u32_at at (front ++ counted c)) Trailing)
      (le-leb (length (front ++ counted c)) (at + 4 + u32_at at (front ++ counted c)) (omega (arith, n, size))))

  pub tail_value-put : (tail : Tail) (c : List ℕ) → TailFits tail c → tail_value tail at (front ++ tail_spelling tail c) ≡ c
  tail_value-put Nothing c fits = sym fits
  tail_value-put (Rest limit) c fits = drop_at front c at len
  tail_value-put (Counted limit) c fits =
      let regrouped : front ++ (le32 (length c) ++ c) ≡ (front ++ le32 (length c)) ++ c = sym (append_assoc front (le32 (length c)) c) in
      let far : length (front ++ le32 (length c)) ≡ at + 4 = omega (arith, length-append front (le32 (length c)), length-le32 (length c), len) in
      let rest : drop (at + 4) (front ++ counted c) ≡ c = ap (drop (at + 4)) regrouped ∙ drop_at (front ++ le32 (length c)) c (at + 4) far in
      ap (λ k. take k (drop (at + 4) (front ++ counted c))) (counted_length limit c fits) ∙ ap (take (length c)) rest ∙ take_all (length c) c (omega arith)

-- where the bytes end, whose block ends at this place
abbrev pub EndsAt : Tail → ℕ → List ℕ → Type 0
EndsAt Nothing at bytes = length bytes ≡ at
EndsAt (Rest limit) at bytes = Unit {0}
EndsAt (Counted limit) at bytes = length bytes ≡ at + 4 + u32_at at bytes

ends_at : (tail : Tail) (at : ℕ) (bytes : List ℕ) → at ≤ length bytes → tail_there tail at bytes ≡ true → tail_fault tail at bytes ≡ None → EndsAt tail at bytes
ends_at Nothing at bytes inside there ends = omega (arith, leb-true (length bytes) at (unless_none (nat_le (length bytes) at) (bad at Trailing) ends))
ends_at (Rest limit) at bytes inside there ends = tt
ends_at (Counted limit) at bytes inside there ends = omega (arith, counted_there limit at bytes there, (counted_ends limit at bytes ends).1)

pub strict_ends : (rules : List Rule) (tail : Tail) (bytes : List ℕ) → IsStrict rules tail bytes → EndsAt tail (8 + rules_size rules) bytes
strict_ends rules tail bytes h = ends_at tail (8 + rules_size rules) bytes h.whole h.there h.ends

-- ---- whole messages

regroup : (a b c d e t : List ℕ) → (a ++ (b ++ (c ++ (d ++ e)))) ++ t ≡ a ++ (b ++ (c ++ (d ++ (e ++ t))))
regroup a b c d e t = simp append_assoc

-- bytes without a fault are spelled by what stands in them
pub spelled_by : (template : ℕ) (rules : List Rule) (tail : Tail) (fs : List Field) (bytes : List ℕ) → IsBytes bytes → u16_at 2 bytes ≡ template → u16_at 4 bytes ≡ 111
    → IsStrict rules tail bytes → block_size fs ≡ rules_size rules → Reads 8 fs bytes → message template fs ++ tail_spelling tail (tail_value tail (8 + rules_size rules) bytes) ≡ bytes
unfolding message
spelled_by template rules tail fs bytes fits is_template is_schema strict size reads =
    let t = tail_spelling tail (tail_value tail (8 + rules_size rules) bytes) in
    let whole : 8 + rules_size rules ≤ length bytes = strict.whole in
    let e8 : block_bytes fs ++ t ≡ drop 8 bytes =
    ap (λ l. block_bytes fs ++ l) (tail_spelled tail (8 + rules_size rules) bytes fits strict.there strict.ends ∙ ap (λ k. drop (8 + k) bytes) (sym size)) ∙ block_spelled bytes fits fs 8 (omega (arith, size)) reads in
    let e6 : le16 0 ++ drop 8 bytes ≡ drop 6 bytes = ap (λ k. le16 k ++ drop 8 bytes) (sym strict.version) ∙ u16_at-drop 6 bytes fits (omega arith) in
    let e4 : le16 111 ++ drop 6 bytes ≡ drop 4 bytes = ap (λ k. le16 k ++ drop 6 bytes) (sym is_schema) ∙ u16_at-drop 4 bytes fits (omega arith) in
    let e2 : le16 template ++ drop 4 bytes ≡ drop 2 bytes = ap (λ k. le16 k ++ drop 4 bytes) (sym is_template) ∙ u16_at-drop 2 bytes fits (omega arith) in
    let e0 : le16 (block_size fs) ++ drop 2 bytes ≡ bytes = ap (λ k. le16 k ++ drop 2 bytes) (size ∙ sym strict.block) ∙ u16_at-drop 0 bytes fits (omega arith) in
    regroup (le16 (block_size fs)) (le16 template) (le16 111) (le16 0) (block_bytes fs) t ∙
    ap (λ l. le16 (block_size fs) ++ (le16 template ++ (le16 111 ++ (le16 0 ++ l)))) e8 ∙
    ap (λ l. le16 (block_size fs) ++ (le16 template ++ (le16 111 ++ l))) e6 ∙
    ap (λ l. le16 (block_size fs) ++ (le16 template ++ l)) e4 ∙
    ap (λ l. le16 (block_size fs) ++ l) e2 ∙ e0

-- the numbers of a message's header and block stand in it
pub record IsHeaded (number : ℕ) (fs : List Field) (bytes : List ℕ) : Type 0 where
  pub block : u16_at 0 bytes ≡ block_size fs
  pub template : u16_at 2 bytes ≡ number
  pub schema : u16_at 4 bytes ≡ 111
  pub version : u16_at 6 bytes ≡ 0
  pub reads : Reads 8 fs bytes

pub length-message : (template : ℕ) (fs : List Field) → length (message template fs) ≡ 8 + block_size fs
unfolding message
length-message template fs =
    let a = le16 (block_size fs) in
    omega (
      arith,
      length-append (le16 (block_size fs)) (le16 template ++ (le16 111 ++ (le16 0 ++ block_bytes fs))),
      length-append (le16 template) (le16 111 ++ (le16 0 ++ block_bytes fs)),
      length-append (le16 111) (le16 0 ++ block_bytes fs),
      length-append (le16 0) (block_bytes fs),
      length-le16 (block_size fs),
      length-le16 template,
      length-le16 111,
      length-le16 0,
      length-block_bytes fs,
    )

pub is_headed : (template : ℕ) (fs : List Field) (rest : List ℕ) → template < 2 ^ 16 → block_size fs < 2 ^ 16 → AllFit fs → IsHeaded template fs (message template fs ++ rest)
unfolding message
is_headed template fs rest small short fit =
    let a = le16 (block_size fs) in let b = le16 template in let c = le16 111 in let d = le16 0 in let e = block_bytes fs in
    let r0 : (a ++ (b ++ (c ++ (d ++ e)))) ++ rest ≡ a ++ (b ++ (c ++ (d ++ (e ++ rest)))) = regroup a b c d e rest in
    let r2 : a ++ (b ++ (c ++ (d ++ (e ++ rest)))) ≡ (a ++ b) ++ (c ++ (d ++ (e ++ rest))) = sym (append_assoc a b (c ++ (d ++ (e ++ rest)))) in
    let r4 : (a ++ b) ++ (c ++ (d ++ (e ++ rest))) ≡ ((a ++ b) ++ c) ++ (d ++ (e ++ rest)) = sym (append_assoc (a ++ b) c (d ++ (e ++ rest))) in
    let r6 : ((a ++ b) ++ c) ++ (d ++ (e ++ rest)) ≡ (((a ++ b) ++ c) ++ d) ++ (e ++ rest) = sym (append_assoc ((a ++ b) ++ c) d (e ++ rest)) in
    let la : length a ≡ 2 = length-le16 (block_size fs) in
    let lab : length (a ++ b) ≡ 4 = omega (arith, length-append a b, length-le16 (block_size fs), length-le16 template) in
    let labc : length ((a ++ b) ++ c) ≡ 6 = omega (arith, lab, length-append (a ++ b) c, length-le16 111) in
    let labcd : length (((a ++ b) ++ c) ++ d) ≡ 8 = omega (arith, labc, length-append ((a ++ b) ++ c) d, length-le16 0) in
    record {
      block = ap (u16_at 0) r0 ∙ u16_at-put 0 (block_size fs) [] (b ++ (c ++ (d ++ (e ++ rest)))) refl short;
      template = ap (u16_at 2) r0 ∙ u16_at-put 2 template a (c ++ (d ++ (e ++ rest))) la small;
      schema = ap (u16_at 4) (r0 ∙ r2) ∙ u16_at-put 4 111 (a ++ b) (d ++ (e ++ rest)) lab (omega arith);
      version = ap (u16_at 6) (r0 ∙ r2 ∙ r4) ∙ u16_at-put 6 0 ((a ++ b) ++ c) (e ++ rest) labc (omega arith);
      reads = subst (λ l. Reads 8 fs l) (sym (r0 ∙ r2 ∙ r4 ∙ r6)) (block_put fs (((a ++ b) ++ c) ++ d) rest 8 labcd fit);
    }

-- what is spelled so has no fault
pub is_strict : (template : ℕ) (rules : List Rule) (tail : Tail) (fs : List Field) (c : List ℕ) → block_size fs ≡ rules_size rules → IsHeaded template fs (message template fs ++ tail_spelling tail c)
    → AllPass rules 8 (message template fs ++ tail_spelling tail c) → TailFits tail c → IsStrict rules tail (message template fs ++ tail_spelling tail c)
is_strict template rules tail fs c size headed pass fits =
    let len : length (message template fs) ≡ 8 + rules_size rules = omega (arith, length-message template fs, size) in
    record {
      block = headed.block ∙ size;
      whole = omega (arith, len, length-append (message template fs) (tail_spelling tail c));
      there = put_there (message template fs) (8 + rules_size rules) len tail c fits;
      version = headed.version;
      pass = pass;
      ends = put_ends (message template fs) (8 + rules_size rules) len tail c fits;
    }

-- ---- numbers in a range fit their bytes

fits64 : (z : ℤ) → Between (negsuc (2 ^ 63 - 1)) (pos (2 ^ 63 - 1)) z → FitsSigned w64 z
fits64 (pos n) h = record { sfits = omega (arith, ints, h.1) }
fits64 (negsuc n) h = record { sfits = omega (arith, ints, h.0) }

fits32 : (z : ℤ) → Between (negsuc (2 ^ 31 - 1)) (pos (2 ^ 31 - 1)) z → FitsSigned w32 z
fits32 (pos n) h = record { sfits = omega (arith, ints, h.1) }
fits32 (negsuc n) h = record { sfits = omega (arith, ints, h.0) }

pub between_fits64 : (low high z : ℤ) → negsuc (2 ^ 63 - 1) ≤ℤ low → high ≤ℤ pos (2 ^ 63 - 1) → Between low high z → FitsSigned w64 z
between_fits64 low high z a b h = fits64 z (omega (arith, ints, a, h.0), omega (arith, ints, b, h.1))

pub between_fits32 : (low high z : ℤ) → negsuc (2 ^ 31 - 1) ≤ℤ low → high ≤ℤ pos (2 ^ 31 - 1) → Between low high z → FitsSigned w32 z
between_fits32 low high z a b h = fits32 z (omega (arith, ints, a, h.0), omega (arith, ints, b, h.1))
