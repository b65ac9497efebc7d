-- The first fault of an event stands within its bytes.
use Rattle.std.proofs.Common.{◌≡◌, ℕ, ◌+◌, ◌-◌, ◌≤◌, Bool, true, false, cond, List, [], ◌∷◌, length, Option, Some, None, Ok, Err, refl, arith}
use Rattle.std.specs.Prelude.{nat_le, nat_lt, ◌==◌}
use Rattle.std.proofs.lemmas.Bool.{leb-true, leb-false, ltb-false}
use Rattle.wire_prims.specs.Fields.{u16_at, u32_at}
use Rattle.wire_prims.specs.Header.{bad, numbers_of}
use Rattle.wire_prims.specs.Strict.{◌or_else◌, unless, rule_size, rules_size, passes, rules_fault, tail_there, tail_fault, strict_fault}
use Rattle.wire_prims.specs.declared.fault.Bad.{Bad}
use Rattle.wire_prims.specs.declared.fault.BadCause.TheVariants as causes
use Rattle.wire_prims.specs.declared.header.Header.{Header}
use Rattle.wire_prims.specs.declared.strict.Rule.{Rule}
use Rattle.wire_prims.specs.declared.strict.Tail.{Tail}
use Rattle.wire_prims.specs.declared.strict.Tail.TheVariants.{Nothing, Rest, Counted}
use Rattle.sbe_events.specs.Templates.{template_of, rules_of, tail_of}
use Rattle.sbe_events.specs.Spelling.{first_fault, header_fault, template_fault}
use Rattle.sbe_events.specs.declared.template.Template.{Template}

abbrev pub Within : ℕ → Option Bad → Type 0
Within n None = Unit {0}
Within n (Some b) = b.place ≤ n

either : (n : ℕ) (a b : Option Bad) → Within n a → Within n b → Within n (a or_else b)
either n None b p q = q
either n (Some x) b p q = p

when : (n : ℕ) (t : Bool) (f : Bad) → (t ≡ false → f.place ≤ n) → Within n (unless t f)
when n true f h = tt
when n false f h = h refl

choice : (n : ℕ) (t : Bool) (x : Option Bad) (f : Bad) → Within n x → f.place ≤ n → Within n (cond t x (Some f))
choice n true x f p q = p
choice n false x f p q = q

rules_within : (n : ℕ) (rs : List Rule) (at : ℕ) (bytes : List ℕ) → at + rules_size rs ≤ n → Within n (rules_fault rs at bytes)
rules_within n [] at bytes h = tt
rules_within n (r ∷ rs) at bytes h = choice n (passes r at bytes) (rules_fault rs (at + rule_size r) bytes) (bad at causes.Value) (rules_within n rs (at + rule_size r) bytes (omega (arith, h))) (omega (arith, h))

tail_within : (tail : Tail) (at : ℕ) (bytes : List ℕ) → at ≤ length bytes → Within (length bytes) (tail_fault tail at bytes)
tail_within Nothing at bytes h = when (length bytes) (nat_le (length bytes) at) (bad at causes.Trailing) (λ e. h)
tail_within (Rest limit) at bytes h = when (length bytes) (nat_le (length bytes - at) limit) (bad at causes.Value) (λ e. h)
tail_within (Counted limit) at bytes h =
    either (length bytes) (unless (nat_le (u32_at at bytes) limit) (bad at causes.Value)) (unless (nat_le (length bytes) (at + 4 + u32_at at bytes)) (bad (at + 4 + u32_at at bytes) causes.Trailing))
    (when (length bytes) (nat_le (u32_at at bytes) limit) (bad at causes.Value) (λ e. h))
    (when (length bytes) (nat_le (length bytes) (at + 4 + u32_at at bytes)) (bad (at + 4 + u32_at at bytes) causes.Trailing) (λ e. omega (arith, leb-false (length bytes) (at + 4 + u32_at at bytes) e)))

in_turn : (n : ℕ) (a w : Bool) (f g : Bad) (r s t u : Option Bad) → f.place ≤ n → g.place ≤ n → (w ≡ true → Within n r × Within n s × Within n t × Within n u) → Within n (unless a f or_else unless w g or_else r or_else s or_else t or_else u)
in_turn n false w f g r s t u p q h = p
in_turn n true false f g r s t u p q h = q
in_turn n true true f g r s t u p q h =
    let k = h refl in
    either n (r or_else s or_else t) u (either n (r or_else s) t (either n r s k.0 k.1) k.2) k.3

strict_within : (rules : List Rule) (tail : Tail) (bytes : List ℕ) → 8 ≤ length bytes → Within (length bytes) (strict_fault rules tail bytes)
unfolding strict_fault
strict_within rules tail bytes long =
    in_turn (length bytes) (u16_at 0 bytes == rules_size rules) (nat_le (8 + rules_size rules) (length bytes)) (bad 0 causes.Block) (bad (length bytes) causes.Short)
    (unless (tail_there tail (8 + rules_size rules) bytes) (bad (length bytes) causes.Short)) (unless (u16_at 6 bytes == 0) (bad 6 causes.Value)) (rules_fault rules 8 bytes) (tail_fault tail (8 + rules_size rules) bytes)
    (omega arith) (omega arith)
    (λ e.
    let whole : 8 + rules_size rules ≤ length bytes = leb-true (8 + rules_size rules) (length bytes) e in (
      when (length bytes) (tail_there tail (8 + rules_size rules) bytes) (bad (length bytes) causes.Short) (λ e. omega arith),
      when (length bytes) (u16_at 6 bytes == 0) (bad 6 causes.Value) (λ e. omega (arith, long)),
      rules_within (length bytes) rules 8 bytes whole,
      tail_within tail (8 + rules_size rules) bytes whole,
    ))

template_within : (o : Option Template) (bytes : List ℕ) → 8 ≤ length bytes → Within (length bytes) (template_fault o bytes)
template_within None bytes long = omega (arith, long)
template_within (Some t) bytes long = strict_within (rules_of t) (tail_of t) bytes long

header_within : (n : ℕ) (b c : Bool) (d f : Bad) (h : Header) (bytes : List ℕ) → d.place ≤ n → (b ≡ false → f.place ≤ n) → (b ≡ false → Within n (template_fault (template_of h.template) bytes)) → Within n (header_fault (cond b (Err d) (cond c (Ok h) (Err f))) bytes)
header_within n true c d f h bytes p q r = p
header_within n false true d f h bytes p q r = r refl
header_within n false false d f h bytes p q r = q refl

pub fault_within : (bytes : List ℕ) → Within (length bytes) (first_fault bytes)
unfolding first_fault
fault_within bytes =
    header_within (length bytes) (nat_lt (length bytes) 8) (u16_at 4 bytes == 111) (bad (length bytes) causes.Short) (bad 4 causes.Schema) (numbers_of bytes) bytes (omega arith)
    (λ e. omega (arith, ltb-false (length bytes) 8 e))
    (λ e. template_within (template_of (u16_at 2 bytes)) bytes (ltb-false (length bytes) 8 e))

place_of : (n : ℕ) (o : Option Bad) (b : Bad) → o ≡ Some b → Within n o → b.place ≤ n
place_of n None b e h = absurd cc
place_of n (Some x) b e h = let same : x.place ≡ b.place = cc in omega (arith, same, h)

pub place_within : (bytes : List ℕ) (b : Bad) → first_fault bytes ≡ Some b → b.place ≤ length bytes
place_within bytes b e = place_of (length bytes) (first_fault bytes) b e (fault_within bytes)
