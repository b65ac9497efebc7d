-- A piece's first fault lies within its bytes, or at their end.
use Rattle.std.proofs.Common.{◌≡◌, ℕ, ◌+◌, ◌-◌, ◌≤◌, ◌^◌, Bool, true, false, if◌then◌else◌, List, [], ◌∷◌, length, Option, Some, None, IfSome, refl, sym, subst, arith}
use Rattle.std.specs.Prelude.{nat_le, ◌==◌}
use Rattle.std.proofs.lemmas.Bool.{leb-true, leb-false}
use Rattle.wire_prims.specs.Fields.{u16_at, u32_at}
use Rattle.wire_prims.specs.Header.{bad}
use Rattle.wire_prims.specs.Strict.{◌or_else◌, unless, rule_size, rules_size, passes, rules_fault, tail_there, tail_fault, strict_fault}
use Rattle.wire_prims.specs.declared.fault.Bad.{Bad}
use Rattle.wire_prims.specs.declared.fault.BadCause.TheVariants.{Short, Block, Value, Trailing}
use Rattle.wire_prims.specs.declared.strict.Rule.{Rule}
use Rattle.wire_prims.specs.declared.strict.Tail.{Tail}
use Rattle.wire_prims.specs.declared.strict.Tail.TheVariants.{Nothing, Rest, Counted}
use Rattle.sbe_local.specs.Pieces.{piece_fault, marker_rules, mark_of, session_rules, timer_rules, module_rules, pending_rules, state_rules, counter_rules}

-- a fault at this place or before it
abbrev pub Within : ℕ → Option Bad → Type 0
Within n None = Unit {0}
Within n (Some b) = b.place ≤ n

within_or : (n : ℕ) (a b : Option Bad) → Within n a → Within n b → Within n (a or_else b)
within_or n None b first second = second
within_or n (Some x) b first second = first

within_unless : (n : ℕ) (t : Bool) (b : Bad) → (t ≡ false → b.place ≤ n) → Within n (unless t b)
within_unless n true b so = tt
within_unless n false b so = so refl

within_if : (n : ℕ) (t : Bool) (a b : Option Bad) → (t ≡ true → Within n a) → (t ≡ false → Within n b) → Within n (if t then a else b)
within_if n true a b yes_ no_ = yes_ refl
within_if n false a b yes_ no_ = no_ refl

within_rules : (rs : List Rule) (at n : ℕ) (bytes : List ℕ) → at + rules_size rs ≤ n → Within n (rules_fault rs at bytes)
within_rules [] at n bytes le = tt
within_rules (r ∷ rs) at n bytes le =
    within_if n (passes r at bytes) (rules_fault rs (at + rule_size r) bytes) (Some (bad at Value)) (λ e. within_rules rs (at + rule_size r) n bytes (omega arith)) (λ e. omega arith)

within_tail : (tail : Tail) (at : ℕ) (bytes : List ℕ) → at ≤ length bytes → Within (length bytes) (tail_fault tail at bytes)
within_tail Nothing at bytes le = within_unless (length bytes) (nat_le (length bytes) at) (bad at Trailing) (λ e. le)
within_tail (Rest limit) at bytes le = within_unless (length bytes) (nat_le (length bytes - at) limit) (bad at Value) (λ e. le)
within_tail (Counted limit) at bytes le =
    within_or (length bytes) (unless (nat_le (u32_at at bytes) limit) (bad at Value)) (unless (nat_le (length bytes) (at + 4 + u32_at at bytes)) (bad (at + 4 + u32_at at bytes) Trailing))
    (within_unless (length bytes) (nat_le (u32_at at bytes) limit) (bad at Value) (λ e. le))
    (within_unless (length bytes) (nat_le (length bytes) (at + 4 + u32_at at bytes)) (bad (at + 4 + u32_at at bytes) Trailing) (λ e. let out = leb-false (length bytes) (at + 4 + u32_at at bytes) e in omega (arith, out)))

-- six tests, one after the other
within_six : (n : ℕ) (a b c d e f : Option Bad) → Within n a → Within n b → Within n c → Within n d → Within n e → Within n f → Within n (a or_else b or_else c or_else d or_else e or_else f)
within_six n a b c d e f wa wb wc wd we wf =
    within_or n (a or_else b or_else c or_else d or_else e) f (within_or n (a or_else b or_else c or_else d) e (within_or n (a or_else b or_else c) d (within_or n (a or_else b) c (within_or n a b wa wb) wc) wd) we) wf

-- where the second test fails, those behind it don't count
within_two : (n : ℕ) (a c d e f : Option Bad) (b : Bad) → Within n a → b.place ≤ n → Within n (a or_else Some b or_else c or_else d or_else e or_else f)
within_two n None c d e f b wa wb = wb
within_two n (Some x) c d e f b wa wb = wa

within_strict : (rules : List Rule) (tail : Tail) (bytes : List ℕ) → 8 ≤ length bytes → Within (length bytes) (strict_fault rules tail bytes)
unfolding strict_fault
within_strict rules tail bytes long = go (nat_le (8 + rules_size rules) (length bytes)) refl
  where
    first : Within (length bytes) (unless (u16_at 0 bytes == rules_size rules) (bad 0 Block))
    first = within_unless (length bytes) (u16_at 0 bytes == rules_size rules) (bad 0 Block) (λ x. omega arith)

    go : (t : Bool) → nat_le (8 + rules_size rules) (length bytes) ≡ t
        → Within (length bytes) (unless (u16_at 0 bytes == rules_size rules) (bad 0 Block) or_else unless t (bad (length bytes) Short) or_else unless (tail_there tail (8 + rules_size rules) bytes) (bad (length bytes) Short)
        or_else unless (u16_at 6 bytes == 0) (bad 6 Value) or_else rules_fault rules 8 bytes or_else tail_fault tail (8 + rules_size rules) bytes)
    go true e =
        let le = leb-true (8 + rules_size rules) (length bytes) e in
        within_six (length bytes) (unless (u16_at 0 bytes == rules_size rules) (bad 0 Block)) None (unless (tail_there tail (8 + rules_size rules) bytes) (bad (length bytes) Short)) (unless (u16_at 6 bytes == 0) (bad 6 Value)) (rules_fault rules 8 bytes) (tail_fault tail (8 + rules_size rules) bytes)
        first tt (within_unless (length bytes) (tail_there tail (8 + rules_size rules) bytes) (bad (length bytes) Short) (λ x. omega arith)) (within_unless (length bytes) (u16_at 6 bytes == 0) (bad 6 Value) (λ x. omega arith)) (within_rules rules 8 (length bytes) bytes le) (within_tail tail (8 + rules_size rules) bytes le)
    go false e = within_two (length bytes) (unless (u16_at 0 bytes == rules_size rules) (bad 0 Block)) (unless (tail_there tail (8 + rules_size rules) bytes) (bad (length bytes) Short)) (unless (u16_at 6 bytes == 0) (bad 6 Value)) (rules_fault rules 8 bytes) (tail_fault tail (8 + rules_size rules) bytes) (bad (length bytes) Short) first (omega arith)

within_piece : (template : ℕ) (bytes : List ℕ) → 8 ≤ length bytes → Within (length bytes) (piece_fault template bytes)
within_piece template bytes long =
    within_if n (template == 100) _ _ (λ e. within_strict (marker_rules (mark_of bytes)) Nothing bytes long) (λ e.
    within_if n (template == 110) _ _ (λ e. within_strict session_rules (Counted 1024) bytes long) (λ e.
    within_if n (template == 111) _ _ (λ e. within_strict timer_rules Nothing bytes long) (λ e.
    within_if n (template == 112) _ _ (λ e. within_strict module_rules Nothing bytes long) (λ e.
    within_if n (template == 113) _ _ (λ e. within_strict pending_rules (Counted 16384) bytes long) (λ e.
    within_if n (template == 114) _ _ (λ e. within_strict state_rules (Counted (2 ^ 32 - 1)) bytes long) (λ e.
    within_if n (template == 115) _ _ (λ e. within_strict counter_rules Nothing bytes long) (λ e. omega arith)))))))
  where
    n : ℕ
    n = length bytes

pub fault_within : (template : ℕ) (bytes : List ℕ) (b : Bad) → 8 ≤ length bytes → piece_fault template bytes ≡ Some b → b.place ≤ length bytes
fault_within template bytes b long is = subst (Within (length bytes)) is (within_piece template bytes long)

pub fault_some : (template : ℕ) (bytes : List ℕ) (r : Option Bad) → 8 ≤ length bytes → r ≡ piece_fault template bytes → IfSome r (λ b. b.place ≤ length bytes)
fault_some template bytes None long is = tt
fault_some template bytes (Some b) long is = fault_within template bytes b long (sym is)
