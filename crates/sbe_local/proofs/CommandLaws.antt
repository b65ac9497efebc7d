-- What bytes spell as a command is spelled by them alone.
use Rattle.std.proofs.Common.{◌≡◌, ◌⊎◌, inl, inr, ℕ, ◌≤◌, ◌^◌, ℤ, pos, negsuc, List, [], ◌∷◌, ◌++◌, length, Some, None, Result, Ok, Err, refl, sym, ◌∙◌, ap, subst, arith}
use Rattle.std.specs.Prelude.{IfOk}
use Rattle.std.proofs.lemmas.Bool.{cases_eq, ne_eqb}
use Rattle.std.proofs.lemmas.Int.{ints}
use Rattle.wire_prims.specs.Fields.{u16_at, i32_at, i64_at, IsBytes, i64_at-fits, u16_at-append}
use Rattle.wire_prims.specs.Header.{bad}
use Rattle.wire_prims.specs.Strict.{service_session, service_of, number_of, is_service_session}
use Rattle.wire_prims.specs.StrictLaws.{strict_none, none_strict, spelled_by, tail_fits, between_fits32}
use Rattle.wire_prims.specs.declared.fault.BadCause.TheVariants as causes
use Rattle.wire_prims.specs.declared.fault.DecodeFault.{DecodeFault}
use Rattle.wire_prims.specs.declared.fault.DecodeFault.TheVariants as faults
use Rattle.wire_prims.specs.declared.strict.Field.TheVariants.{I64, I32}
use Rattle.wire_prims.specs.declared.strict.Rule.TheVariants.{Narrow, AnyWide}
use Rattle.wire_prims.specs.declared.strict.Tail.TheVariants.{Nothing, Rest}
use Rattle.sbe_local.specs.Messages.{spelled, number, first_fault_by, Decodes}
use Rattle.sbe_local.specs.Commands.{HasCommandSpelling, command_spelling_of, offer_rules, command_fault, first_fault_command, command_value, IsOffer}
use Rattle.sbe_local.specs.declared.command.Command.{Command}
use Rattle.sbe_local.specs.declared.command.Command.TheVariants.{CloseSession, Schedule, Cancel, Offer, Ack}
use Rattle.sbe_local.proofs.Written.{head_of, no_fault, written, ends_alike, narrow_only, single, range_at, number_fits, service_back, service_says}

-- ---- which templates there are

no_other : (n : ℕ) (bytes : List ℕ) → (n ≡ 1 → ⊥) → (n ≡ 30 → ⊥) → (n ≡ 31 → ⊥) → (n ≡ 32 → ⊥) → (n ≡ 33 → ⊥) → command_fault n bytes ≡ None → ⊥
no_other n bytes a b c d e none =
    let is : command_fault n bytes ≡ Some (bad 2 causes.Template) = rw (ne_eqb n 1 a, ne_eqb n 30 b, ne_eqb n 31 c, ne_eqb n 32 d, ne_eqb n 33 e) refl in
    cc (is, none)

pick : (P : ℕ → Type 0) → P 1 → P 30 → P 31 → P 32 → P 33 → (n : ℕ) (bytes : List ℕ) → command_fault n bytes ≡ None → P n
pick P a b c d e n bytes none = elim (cases_eq n 1) [
  | inl is ↦ subst P (sym is) a
  | inr n1 ↦ elim (cases_eq n 30) [
    | inl is ↦ subst P (sym is) b
    | inr n30 ↦ elim (cases_eq n 31) [
      | inl is ↦ subst P (sym is) c
      | inr n31 ↦ elim (cases_eq n 32) [
        | inl is ↦ subst P (sym is) d
        | inr n32 ↦ elim (cases_eq n 33) [
          | inl is ↦ subst P (sym is) e
          | inr n33 ↦ absurd (no_other n bytes n1 n30 n31 n32 n33 none)
        ]
      ]
    ]
  ]
]

-- ---- bytes without a fault are spelled by what stands in them

module _ (bytes : List ℕ) (fits : IsBytes bytes) (schema : u16_at 4 bytes ≡ 111) where
  abbrev Spells : ℕ → Type 0
  Spells n = u16_at 2 bytes ≡ n → command_fault n bytes ≡ None → HasCommandSpelling (command_value n bytes) × (command_spelling_of (command_value n bytes) ≡ bytes)

  offer_spells : Spells 1
  unfolding command_spelling_of
  offer_spells is none =
      let s = strict_none offer_rules (Rest 16384) bytes none in
      let back = service_back (i64_at 16 bytes) s.pass.1.0 in (
        (back.0, back.1, tail_fits (Rest 16384) 32 bytes s.there s.ends 16384 (inr refl)),
        spelled_by 1 offer_rules (Rest 16384) (I64 (negsuc 0) ∷ I64 (service_session (service_of (i64_at 16 bytes)) (number_of (i64_at 16 bytes))) ∷ I64 (pos 0) ∷ []) bytes fits is schema s refl
            (narrow_only (negsuc 0) (i64_at 8 bytes) s.pass.0, (sym back.2, (narrow_only (pos 0) (i64_at 24 bytes) s.pass.1.1.0, tt))),
      )

  close_spells : Spells 30
  unfolding command_spelling_of
  close_spells is none =
      (i64_at-fits 8 bytes fits, spelled_by 30 (AnyWide ∷ []) Nothing (I64 (i64_at 8 bytes) ∷ []) bytes fits is schema (strict_none (AnyWide ∷ []) Nothing bytes none) refl (refl, tt))

  schedule_spells : Spells 31
  unfolding command_spelling_of
  schedule_spells is none = (
    (i64_at-fits 8 bytes fits, i64_at-fits 16 bytes fits),
    spelled_by 31 (AnyWide ∷ AnyWide ∷ []) Nothing (I64 (i64_at 8 bytes) ∷ I64 (i64_at 16 bytes) ∷ []) bytes fits is schema (strict_none (AnyWide ∷ AnyWide ∷ []) Nothing bytes none) refl (refl, (refl, tt)),
  )

  cancel_spells : Spells 32
  unfolding command_spelling_of
  cancel_spells is none =
      (i64_at-fits 8 bytes fits, spelled_by 32 (AnyWide ∷ []) Nothing (I64 (i64_at 8 bytes) ∷ []) bytes fits is schema (strict_none (AnyWide ∷ []) Nothing bytes none) refl (refl, tt))

  ack_spells : Spells 33
  unfolding command_spelling_of
  ack_spells is none =
      let s = strict_none (number ∷ Narrow (pos 0) (pos 2) ∷ []) Nothing bytes none in (
        (s.pass.0, s.pass.1.0),
        spelled_by 33 (number ∷ Narrow (pos 0) (pos 2) ∷ []) Nothing (I64 (i64_at 8 bytes) ∷ I32 (i32_at 16 bytes) ∷ []) bytes fits is schema s refl (refl, (refl, tt)),
      )

pub command_spells : (bytes : List ℕ) → IsBytes bytes → first_fault_command bytes ≡ None
    → HasCommandSpelling (command_value (u16_at 2 bytes) bytes) × (command_spelling_of (command_value (u16_at 2 bytes) bytes) ≡ bytes)
unfolding first_fault_command
command_spells bytes fits e =
    let h = head_of command_fault bytes e in
    pick (Spells bytes fits h.schema) (offer_spells bytes fits h.schema) (close_spells bytes fits h.schema) (schedule_spells bytes fits h.schema) (cancel_spells bytes fits h.schema) (ack_spells bytes fits h.schema) (u16_at 2 bytes) bytes h.none refl h.none

-- ---- what is spelled is read again

abbrev command_number : Command → ℕ
command_number (CloseSession session) = 30
command_number (Schedule corr deadline) = 31
command_number (Cancel corr) = 32
command_number (Offer service n payload) = 1
command_number (Ack position service) = 33

pub record Again (c : Command) : Type 0 where
  pub long : 8 ≤ length (command_spelling_of c)
  pub template : u16_at 2 (command_spelling_of c) ≡ command_number c
  pub fault : first_fault_command (command_spelling_of c) ≡ None
  pub value : command_value (u16_at 2 (command_spelling_of c)) (command_spelling_of c) ≡ c

pub offer_is : (s t : ℕ) (m n : ℤ) (p q : List ℕ) → s ≡ t → m ≡ n → p ≡ q → Offer s m p ≡ Offer t n q
offer_is s t m n p q a b c = cc

pub again : (c : Command) → HasCommandSpelling c → Again c
unfolding command_spelling_of first_fault_command
again (CloseSession session) h =
    let w = written 30 (AnyWide ∷ []) Nothing (I64 session ∷ []) [] (omega arith) (omega arith) (h, tt) refl refl (λ b r. (tt, tt)) in
    record {
      long = w.long;
      template = w.headed.template;
      fault = no_fault command_fault 30 (spelled 30 (I64 session ∷ []) Nothing []) w.long w.headed.schema w.headed.template (none_strict (AnyWide ∷ []) Nothing (spelled 30 (I64 session ∷ []) Nothing []) w.strict);
      value = ap (λ n. command_value n (spelled 30 (I64 session ∷ []) Nothing [])) w.headed.template ∙ ap (λ z. CloseSession z) w.headed.reads.0;
    }
again (Schedule corr deadline) h =
    let w = written 31 (AnyWide ∷ AnyWide ∷ []) Nothing (I64 corr ∷ I64 deadline ∷ []) [] (omega arith) (omega arith) (h.0, (h.1, tt)) refl refl (λ b r. (tt, (tt, tt))) in
    record {
      long = w.long;
      template = w.headed.template;
      fault = no_fault command_fault 31 (spelled 31 (I64 corr ∷ I64 deadline ∷ []) Nothing []) w.long w.headed.schema w.headed.template (none_strict (AnyWide ∷ AnyWide ∷ []) Nothing (spelled 31 (I64 corr ∷ I64 deadline ∷ []) Nothing []) w.strict);
      value = ap (λ n. command_value n (spelled 31 (I64 corr ∷ I64 deadline ∷ []) Nothing [])) w.headed.template ∙ cc (w.headed.reads.0, w.headed.reads.1.0);
    }
again (Cancel corr) h =
    let w = written 32 (AnyWide ∷ []) Nothing (I64 corr ∷ []) [] (omega arith) (omega arith) (h, tt) refl refl (λ b r. (tt, tt)) in
    record {
      long = w.long;
      template = w.headed.template;
      fault = no_fault command_fault 32 (spelled 32 (I64 corr ∷ []) Nothing []) w.long w.headed.schema w.headed.template (none_strict (AnyWide ∷ []) Nothing (spelled 32 (I64 corr ∷ []) Nothing []) w.strict);
      value = ap (λ n. command_value n (spelled 32 (I64 corr ∷ []) Nothing [])) w.headed.template ∙ ap (λ z. Cancel z) w.headed.reads.0;
    }
again (Offer service n payload) h =
    let says = service_says service n h.0 h.1 in
    let w = written 1 offer_rules (Rest 16384) (I64 (negsuc 0) ∷ I64 (service_session service n) ∷ I64 (pos 0) ∷ []) payload (omega arith) (omega arith) (record { sfits = omega arith }, (says.fits, (record { sfits = omega arith }, tt))) refl h.2
    (λ b r. (single (negsuc 0) (i64_at 8 b) r.0, (ap is_service_session r.1.0 ∙ says.names, (single (pos 0) (i64_at 24 b) r.1.1.0, tt)))) in
    record {
      long = w.long;
      template = w.headed.template;
      fault = no_fault command_fault 1 (spelled 1 (I64 (negsuc 0) ∷ I64 (service_session service n) ∷ I64 (pos 0) ∷ []) (Rest 16384) payload) w.long w.headed.schema w.headed.template (none_strict offer_rules (Rest 16384) (spelled 1 (I64 (negsuc 0) ∷ I64 (service_session service n) ∷ I64 (pos 0) ∷ []) (Rest 16384) payload) w.strict);
      value = ap (λ k. command_value k (spelled 1 (I64 (negsuc 0) ∷ I64 (service_session service n) ∷ I64 (pos 0) ∷ []) (Rest 16384) payload)) w.headed.template
          ∙ offer_is _ service _ n _ payload (ap service_of w.headed.reads.1.0 ∙ says.service) (ap number_of w.headed.reads.1.0 ∙ says.number) w.content;
    }
again (Ack position service) h =
    let w = written 33 (number ∷ Narrow (pos 0) (pos 2) ∷ []) Nothing (I64 position ∷ I32 service ∷ []) [] (omega arith) (omega arith) (number_fits position h.0, (between_fits32 (pos 0) (pos 2) service (omega (arith, ints)) (omega (arith, ints)) h.1, tt)) refl refl
    (λ b r. (range_at (pos 0) (pos (2 ^ 62)) position (i64_at 8 b) r.0 h.0, (range_at (pos 0) (pos 2) service (i32_at 16 b) r.1.0 h.1, tt))) in
    record {
      long = w.long;
      template = w.headed.template;
      fault = no_fault command_fault 33 (spelled 33 (I64 position ∷ I32 service ∷ []) Nothing []) w.long w.headed.schema w.headed.template (none_strict (number ∷ Narrow (pos 0) (pos 2) ∷ []) Nothing (spelled 33 (I64 position ∷ I32 service ∷ []) Nothing []) w.strict);
      value = ap (λ n. command_value n (spelled 33 (I64 position ∷ I32 service ∷ []) Nothing [])) w.headed.template ∙ cc (w.headed.reads.0, w.headed.reads.1.0);
    }

-- no two commands have one spelling
pub apart : (c d : Command) → HasCommandSpelling c → HasCommandSpelling d → command_spelling_of c ≡ command_spelling_of d → c ≡ d
apart c d hc hd e = sym (again c hc).value ∙ ap (λ b. command_value (u16_at 2 b) b) e ∙ (again d hd).value

prefix_cases : (c : Command) (a rest : List ℕ) → command_fault (command_number c) a ≡ None → command_fault (command_number c) (a ++ rest) ≡ None → (rest ≡ []) ⊎ IsOffer c
prefix_cases (CloseSession session) a rest p q = inl (ends_alike (AnyWide ∷ []) (AnyWide ∷ []) a rest refl p q)
prefix_cases (Schedule corr deadline) a rest p q = inl (ends_alike (AnyWide ∷ AnyWide ∷ []) (AnyWide ∷ AnyWide ∷ []) a rest refl p q)
prefix_cases (Cancel corr) a rest p q = inl (ends_alike (AnyWide ∷ []) (AnyWide ∷ []) a rest refl p q)
prefix_cases (Offer service n payload) a rest p q = inr tt
prefix_cases (Ack position service) a rest p q = inl (ends_alike (number ∷ Narrow (pos 0) (pos 2) ∷ []) (number ∷ Narrow (pos 0) (pos 2) ∷ []) a rest refl p q)

-- no spelling but an offer's is a proper prefix of another
pub prefix_free : (c other : Command) (rest : List ℕ) → HasCommandSpelling c → HasCommandSpelling other → command_spelling_of other ≡ command_spelling_of c ++ rest → (rest ≡ []) ⊎ IsOffer c
unfolding first_fault_command
prefix_free c other rest hc ho is =
    let a = again c hc in
    let first : command_fault (command_number c) (command_spelling_of c) ≡ None = subst (λ n. command_fault n (command_spelling_of c) ≡ None) a.template (head_of command_fault (command_spelling_of c) a.fault).none in
    let none : first_fault_by command_fault (command_spelling_of c ++ rest) ≡ None = subst (λ l. first_fault_by command_fault l ≡ None) is (again other ho).fault in
    let same : u16_at 2 (command_spelling_of c ++ rest) ≡ command_number c = u16_at-append 2 (command_spelling_of c) rest (omega (arith, a.long)) ∙ a.template in
    let second : command_fault (command_number c) (command_spelling_of c ++ rest) ≡ None = subst (λ n. command_fault n (command_spelling_of c ++ rest) ≡ None) same (head_of command_fault (command_spelling_of c ++ rest) none).none in
    prefix_cases c (command_spelling_of c) rest first second

-- ---- what the decoder answers

pub found : (bytes : List ℕ) (r : Result Command DecodeFault) → IsBytes bytes → Decodes r (first_fault_command bytes) (command_value (u16_at 2 bytes) bytes)
    → IfOk r (λ c. HasCommandSpelling c × (command_spelling_of c ≡ bytes))
found bytes (Ok v) fits h = subst (λ c. HasCommandSpelling c × (command_spelling_of c ≡ bytes)) (sym h.0) (command_spells bytes fits h.1)
found bytes (Err e) fits h = tt

abbrev okay : Command → Result Command DecodeFault
okay c = Ok c

abbrev failed : DecodeFault → Result Command DecodeFault
failed e = Err e

pub only : (bytes : List ℕ) (r : Result Command DecodeFault) → Decodes r (first_fault_command bytes) (command_value (u16_at 2 bytes) bytes)
    → (c : Command) → HasCommandSpelling c → command_spelling_of c ≡ bytes → (r ≡ okay c) ⊎ (r ≡ failed faults.NoMemory)
only bytes (Ok v) h c has is = inl (ap okay (h.0 ∙ ap (λ b. command_value (u16_at 2 b) b) (sym is) ∙ (again c has).value))
only bytes (Err (faults.Bad b)) h c has is =
    let free : first_fault_command bytes ≡ None = ap first_fault_command (sym is) ∙ (again c has).fault in
    absurd (cc (free, h))
only bytes (Err faults.NoMemory) h c has is = inr refl
