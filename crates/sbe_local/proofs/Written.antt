-- A message that is written has no fault, and its numbers stand in it.
use Rattle.std.proofs.Common.{◌≡◌, ℕ, ◌+◌, ◌*◌, ◌/◌, ◌%◌, ◌<◌, ◌≤◌, ◌^◌, ◌-◌, ℤ, pos, negsuc, Bool, true, false, cond, ◌&&◌, List, [], ◌++◌, length, Option, Some, None, FitsSigned, w64, refl, sym, ◌∙◌, ap, subst, arith}
use Rattle.std.specs.Prelude.{nat_le, nat_lt, ◌==◌}
use Rattle.std.proofs.lemmas.Bool.{cond-true, cond-false, and_parts, and_from, leb-true, le-leb, eqb-true, eq-eqb, ltb-false, le-ltb}
use Rattle.std.proofs.lemmas.List.{length-append, nil_from_length}
use Rattle.std.proofs.lemmas.Int.{ints}
use Rattle.std.proofs.lemmas.Nat.{div-mul-add, mod-mul-add}
use Rattle.wire_prims.specs.Fields.{u16_at, u32_at, u32_at-append}
use Rattle.wire_prims.specs.Header.{bad}
use Rattle.wire_prims.specs.Strict.{message, block_size, rules_size, service_session, service_of, number_of, is_service_session, strict_fault}
use Rattle.wire_prims.specs.StrictLaws.{Between, AllPass, AllFit, Reads, IsStrict, strict_none, IsHeaded, is_headed, is_strict, length-message, TailFits, tail_value, tail_value-put, tail_spelling, strict_ends, between_fits64}
use Rattle.wire_prims.specs.declared.fault.Bad.{Bad}
use Rattle.wire_prims.specs.declared.fault.BadCause.TheVariants as causes
use Rattle.wire_prims.specs.declared.strict.Field.{Field}
use Rattle.wire_prims.specs.declared.strict.Rule.{Rule}
use Rattle.wire_prims.specs.declared.strict.Tail.{Tail}
use Rattle.wire_prims.specs.declared.strict.Tail.TheVariants.{Nothing, Counted}
use Rattle.sbe_local.specs.Messages.{spelled, IsNumber, IsSession, IsMessageNumber, first_fault_by}

-- ---- the header

head_cases : (b c : Bool) (x : Option Bad) (d f : Bad) → cond b (Some d) (cond c x (Some f)) ≡ None → (b ≡ false) × (c ≡ true) × (x ≡ None)
head_cases true c x d f e = absurd cc
head_cases false true x d f e = (refl, refl, e)
head_cases false false x d f e = absurd cc

-- bytes without a fault: their header, and nothing that the template finds wrong
pub record Headed (past : ℕ → List ℕ → Option Bad) (bytes : List ℕ) : Type 0 where
  pub long : 8 ≤ length bytes
  pub schema : u16_at 4 bytes ≡ 111
  pub none : past (u16_at 2 bytes) bytes ≡ None

pub head_of : (past : ℕ → List ℕ → Option Bad) (bytes : List ℕ) → first_fault_by past bytes ≡ None → Headed past bytes
head_of past bytes e =
    let h = head_cases (nat_lt (length bytes) 8) (u16_at 4 bytes == 111) (past (u16_at 2 bytes) bytes) (bad (length bytes) causes.Short) (bad 4 causes.Schema) e in
    record { long = ltb-false (length bytes) 8 h.0; schema = eqb-true (u16_at 4 bytes) 111 h.1; none = h.2 }

pub no_fault : (past : ℕ → List ℕ → Option Bad) (n : ℕ) (bytes : List ℕ) → 8 ≤ length bytes → u16_at 4 bytes ≡ 111 → u16_at 2 bytes ≡ n → past n bytes ≡ None → first_fault_by past bytes ≡ None
no_fault past n bytes long schema is none =
    cond-false (nat_lt (length bytes) 8) (Some (bad (length bytes) causes.Short)) (cond (u16_at 4 bytes == 111) (past (u16_at 2 bytes) bytes) (Some (bad 4 causes.Schema))) (le-ltb (length bytes) 8 long)
    ∙ cond-true (u16_at 4 bytes == 111) (past (u16_at 2 bytes) bytes) (Some (bad 4 causes.Schema)) (eq-eqb (u16_at 4 bytes) 111 schema)
    ∙ ap (λ k. past k bytes) is ∙ none

-- ---- a message that is written

pub record Written (n : ℕ) (rules : List Rule) (tail : Tail) (fs : List Field) (c bytes : List ℕ) : Type 0 where
  pub long : 8 ≤ length bytes
  pub headed : IsHeaded n fs bytes
  pub strict : IsStrict rules tail bytes
  pub content : tail_value tail (8 + rules_size rules) bytes ≡ c

pub written : (n : ℕ) (rules : List Rule) (tail : Tail) (fs : List Field) (c : List ℕ) → n < 2 ^ 16 → block_size fs < 2 ^ 16 → AllFit fs → block_size fs ≡ rules_size rules → TailFits tail c
    → ((bytes : List ℕ) → Reads 8 fs bytes → AllPass rules 8 bytes) → Written n rules tail fs c (spelled n fs tail c)
written n rules tail fs c small short fit size fits pass =
    let headed = is_headed n fs (tail_spelling tail c) small short fit in
    let strict = is_strict n rules tail fs c size headed (pass (spelled n fs tail c) headed.reads) fits in
    record {
      long = omega (arith, strict.whole);
      headed = headed;
      strict = strict;
      content = tail_value-put (message n fs) (8 + rules_size rules) (omega (arith, length-message n fs, size)) tail c fits;
    }

-- ---- a spelling in front of another

no_more : (bytes rest : List ℕ) → length (bytes ++ rest) ≡ length bytes → rest ≡ []
no_more bytes rest e = nil_from_length rest (omega (arith, length-append bytes rest))

pub ends_alike : (rs ss : List Rule) (a rest : List ℕ) → rules_size rs ≡ rules_size ss → strict_fault rs Nothing a ≡ None → strict_fault ss Nothing (a ++ rest) ≡ None → rest ≡ []
ends_alike rs ss a rest same first second =
    no_more a rest (strict_ends ss Nothing (a ++ rest) (strict_none ss Nothing (a ++ rest) second) ∙ ap (λ n. 8 + n) (sym same) ∙ sym (strict_ends rs Nothing a (strict_none rs Nothing a first)))

pub ends_alike_counted : (rs : List Rule) (limit : ℕ) (a rest : List ℕ) → strict_fault rs (Counted limit) a ≡ None → strict_fault rs (Counted limit) (a ++ rest) ≡ None → rest ≡ []
ends_alike_counted rs limit a rest first second =
    let short : length a ≡ 8 + rules_size rs + 4 + u32_at (8 + rules_size rs) a = strict_ends rs (Counted limit) a (strict_none rs (Counted limit) a first) in
    let long : length (a ++ rest) ≡ 8 + rules_size rs + 4 + u32_at (8 + rules_size rs) (a ++ rest) = strict_ends rs (Counted limit) (a ++ rest) (strict_none rs (Counted limit) (a ++ rest) second) in
    let same : u32_at (8 + rules_size rs) (a ++ rest) ≡ u32_at (8 + rules_size rs) a = u32_at-append (8 + rules_size rs) a rest (omega (arith, short)) in
    no_more a rest (omega (arith, short, long, same))

-- ---- ranges

pub narrow_only : (n z : ℤ) → Between n n z → z ≡ n
narrow_only n z h = omega (arith, ints, h.0, h.1)

pub single : (n v : ℤ) → v ≡ n → Between n n v
single n v is = (omega (arith, ints, is), omega (arith, ints, is))

-- a range of the value that stands at a place
pub range_at : (low high z v : ℤ) → v ≡ z → Between low high z → Between low high v
range_at low high z v is h = subst (λ k. Between low high k) (sym is) h

pub number_fits : (z : ℤ) → IsNumber z → FitsSigned w64 z
number_fits z h = between_fits64 (pos 0) (pos (2 ^ 62)) z (omega (arith, ints)) (omega (arith, ints)) h

pub session_fits : (z : ℤ) → IsSession z → FitsSigned w64 z
session_fits z h = between_fits64 (pos 1) (pos (2 ^ 63 - 1)) z (omega (arith, ints)) (omega (arith, ints)) h

-- ---- the session of a service's message

pub service_back : (z : ℤ) → is_service_session z ≡ true → (service_of z ≤ 2) × IsMessageNumber (number_of z) × (service_session (service_of z) (number_of z) ≡ z)
service_back (pos n) e = absurd cc
service_back (negsuc n) e =
    let a = and_parts (nat_le (n / 2 ^ 48) 2) (nat_le 1 (n % 2 ^ 48) && nat_le (n % 2 ^ 48) (2 ^ 47)) e in
    let b = and_parts (nat_le 1 (n % 2 ^ 48)) (nat_le (n % 2 ^ 48) (2 ^ 47)) a.1 in
    let low : 1 ≤ n % 2 ^ 48 = leb-true 1 (n % 2 ^ 48) b.0 in
    let high : n % 2 ^ 48 ≤ 2 ^ 47 = leb-true (n % 2 ^ 48) (2 ^ 47) b.1 in
    (leb-true (n / 2 ^ 48) 2 a.0, (omega (arith, ints, low), omega (arith, ints, high)), omega (arith, ints))

service_is : (service k : ℕ) → service ≤ 2 → 1 ≤ k → k ≤ 2 ^ 47 → service_session service (pos k) ≡ negsuc (service * 2 ^ 48 + k)
service_is service k a b c = omega (arith, ints)

pub record ServiceSays (s : ℕ) (k z : ℤ) : Type 0 where
  pub names : is_service_session z ≡ true
  pub service : service_of z ≡ s
  pub number : number_of z ≡ k
  pub fits : FitsSigned w64 z

pub service_says : (s : ℕ) (number : ℤ) → s ≤ 2 → IsMessageNumber number → ServiceSays s number (service_session s number)
service_says s (negsuc k) small h = absurd (omega (arith, ints, h.0))
service_says s (pos k) small h =
    let low : 1 ≤ k = omega (arith, ints, h.0) in
    let high : k ≤ 2 ^ 47 = omega (arith, ints, h.1) in
    let whole : (s * 2 ^ 48 + k) / 2 ^ 48 ≡ s = div-mul-add s (2 ^ 48) k (omega arith) in
    let part : (s * 2 ^ 48 + k) % 2 ^ 48 ≡ k = mod-mul-add s (2 ^ 48) k (omega arith) in
    subst (λ z. ServiceSays s (pos k) z) (sym (service_is s k small low high)) (record {
      names = and_from (nat_le ((s * 2 ^ 48 + k) / 2 ^ 48) 2) (nat_le 1 ((s * 2 ^ 48 + k) % 2 ^ 48) && nat_le ((s * 2 ^ 48 + k) % 2 ^ 48) (2 ^ 47))
          (le-leb ((s * 2 ^ 48 + k) / 2 ^ 48) 2 (omega (arith, whole)))
          (and_from (nat_le 1 ((s * 2 ^ 48 + k) % 2 ^ 48)) (nat_le ((s * 2 ^ 48 + k) % 2 ^ 48) (2 ^ 47))
          (le-leb 1 ((s * 2 ^ 48 + k) % 2 ^ 48) (omega (arith, part))) (le-leb ((s * 2 ^ 48 + k) % 2 ^ 48) (2 ^ 47) (omega (arith, part))));
      service = whole;
      number = ap pos part;
      fits = record { sfits = omega arith };
    })
