-- What bytes spell as a piece is spelled by them alone.
use Rattle.std.proofs.Common.{◌≡◌, ◌⊎◌, inl, inr, ℕ, ◌-◌, ◌≤◌, ◌^◌, ℤ, pos, negsuc, Bool, true, false, cond, ◌&&◌, List, [], ◌∷◌, ◌++◌, length, Some, None, Result, Ok, Err, FitsSigned, w32, w64, refl, sym, ◌∙◌, ap, subst, arith}
use Rattle.std.specs.Prelude.{IfOk, unsigned_abs, nat_le}
use Rattle.std.specs.Ordering.{int_eq}
use Rattle.std.proofs.lemmas.Bool.{cases_eq, ne_eqb, le-leb}
use Rattle.std.proofs.lemmas.Int.{ints}
use Rattle.wire_prims.specs.Fields.{u16_at, i32_at, i64_at, IsBytes, i64_at-fits, i32_at-fits, u16_at-append}
use Rattle.wire_prims.specs.Header.{bad}
use Rattle.wire_prims.specs.Strict.{strict_fault}
use Rattle.wire_prims.specs.StrictLaws.{Between, strict_none, none_strict, spelled_by, tail_fits, between_fits32, between_fits64}
use Rattle.wire_prims.specs.declared.fault.BadCause.TheVariants as causes
use Rattle.wire_prims.specs.declared.fault.DecodeFault.{DecodeFault}
use Rattle.wire_prims.specs.declared.fault.DecodeFault.TheVariants as faults
use Rattle.wire_prims.specs.declared.strict.Field.TheVariants.{I64, I32}
use Rattle.wire_prims.specs.declared.strict.Tail.TheVariants.{Nothing, Counted}
use Rattle.sbe_local.specs.Messages.{spelled, first_fault_by, Decodes}
use Rattle.sbe_local.specs.Pieces.{IsMessageCount, HasPieceSpelling, mark_number, flag_number, piece_spelling_of, mark_of, marker_rules, session_rules, timer_rules, module_rules, pending_rules, state_rules, counter_rules, piece_fault, first_fault_piece, piece_value}
use Rattle.sbe_local.specs.declared.piece.Mark.{Mark}
use Rattle.sbe_local.specs.declared.piece.Mark.TheVariants.{Begin, End}
use Rattle.sbe_local.specs.declared.piece.Piece.{Piece}
use Rattle.sbe_local.specs.declared.piece.Piece.TheVariants.{Marker, Session, Timer, Module, Pending, ServiceState, Counter}
use Rattle.sbe_local.proofs.Written.{head_of, no_fault, written, ends_alike, ends_alike_counted, narrow_only, single, range_at, number_fits, session_fits}

-- ---- which templates there are

no_other : (n : ℕ) (bytes : List ℕ) → (n ≡ 100 → ⊥) → (n ≡ 110 → ⊥) → (n ≡ 111 → ⊥) → (n ≡ 112 → ⊥) → (n ≡ 113 → ⊥) → (n ≡ 114 → ⊥) → (n ≡ 115 → ⊥) → piece_fault n bytes ≡ None → ⊥
no_other n bytes a b c d e f g none =
    let is : piece_fault n bytes ≡ Some (bad 2 causes.Template) = rw (ne_eqb n 100 a, ne_eqb n 110 b, ne_eqb n 111 c, ne_eqb n 112 d, ne_eqb n 113 e, ne_eqb n 114 f, ne_eqb n 115 g) refl in
    cc (is, none)

pick : (P : ℕ → Type 0) → P 100 → P 110 → P 111 → P 112 → P 113 → P 114 → P 115 → (n : ℕ) (bytes : List ℕ) → piece_fault n bytes ≡ None → P n
pick P a b c d e f g n bytes none = elim (cases_eq n 100) [
  | inl is ↦ subst P (sym is) a
  | inr n100 ↦ elim (cases_eq n 110) [
    | inl is ↦ subst P (sym is) b
    | inr n110 ↦ elim (cases_eq n 111) [
      | inl is ↦ subst P (sym is) c
      | inr n111 ↦ elim (cases_eq n 112) [
        | inl is ↦ subst P (sym is) d
        | inr n112 ↦ elim (cases_eq n 113) [
          | inl is ↦ subst P (sym is) e
          | inr n113 ↦ elim (cases_eq n 114) [
            | inl is ↦ subst P (sym is) f
            | inr n114 ↦ elim (cases_eq n 115) [
              | inl is ↦ subst P (sym is) g
              | inr n115 ↦ absurd (no_other n bytes n100 n110 n111 n112 n113 n114 n115 none)
            ]
          ]
        ]
      ]
    ]
  ]
]

-- ---- small numbers

small_back : (limit : ℕ) (z : ℤ) → Between (pos 0) (pos limit) z → (unsigned_abs z ≤ limit) × (z ≡ pos (unsigned_abs z))
small_back limit (pos n) h = (omega (arith, ints, h.1), refl)
small_back limit (negsuc n) h = absurd (omega (arith, ints, h.0))

small_between : (limit n : ℕ) → n ≤ limit → Between (pos 0) (pos limit) (pos n)
small_between limit n le = (omega (arith, ints), omega (arith, ints, le))

flag_back : (n : ℕ) → n ≤ 1 → pos n ≡ flag_number (int_eq (pos n) (pos 1))
flag_back n le = elim (cases_eq n 0) [
  | inl is ↦ subst (λ k. pos k ≡ flag_number (int_eq (pos k) (pos 1))) (sym is) refl
  | inr ne ↦
      let one : n ≡ 1 = omega (arith, le, ne) in
      subst (λ k. pos k ≡ flag_number (int_eq (pos k) (pos 1))) (sym one) refl
]

flag_is : (z : ℤ) → Between (pos 0) (pos 1) z → z ≡ flag_number (int_eq z (pos 1))
flag_is z h =
    let back = small_back 1 z h in
    subst (λ k. k ≡ flag_number (int_eq k (pos 1))) (sym back.1) (flag_back (unsigned_abs z) back.0)

flag_between : (b : Bool) → Between (pos 0) (pos 1) (flag_number b)
flag_between false = small_between 1 0 (omega arith)
flag_between true = small_between 1 1 (omega arith)

flag_again : (b : Bool) (z : ℤ) → z ≡ flag_number b → int_eq z (pos 1) ≡ b
flag_again false z is = ap (λ k. int_eq k (pos 1)) is
flag_again true z is = ap (λ k. int_eq k (pos 1)) is

-- ---- marks

abbrev chosen : ℤ → Mark
chosen z = cond (int_eq z (pos 2)) End Begin

-- the mark that is asked for is the mark that is read
mark_is : (b : Bool) (z : ℤ) → z ≡ cond b (pos 2) (pos 0) → z ≡ mark_number (chosen z)
mark_is true z is = subst (λ k. k ≡ mark_number (chosen k)) (sym is) refl
mark_is false z is = subst (λ k. k ≡ mark_number (chosen k)) (sym is) refl

mark_again : (mark : Mark) (z : ℤ) → z ≡ mark_number mark → chosen z ≡ mark
mark_again Begin z is = ap chosen is
mark_again End z is = ap chosen is

asked : (mark : Mark) (b : Bool) (z : ℤ) → b ≡ true → z ≡ mark_number mark → cond (b && int_eq z (pos 2)) (pos 2) (pos 0) ≡ mark_number mark
asked Begin b z on is = ap (λ k. cond (k && int_eq z (pos 2)) (pos 2) (pos 0)) on ∙ ap (λ k. cond (int_eq k (pos 2)) (pos 2) (pos 0)) is
asked End b z on is = ap (λ k. cond (k && int_eq z (pos 2)) (pos 2) (pos 0)) on ∙ ap (λ k. cond (int_eq k (pos 2)) (pos 2) (pos 0)) is

mark_fits : (mark : Mark) → FitsSigned w32 (mark_number mark)
mark_fits Begin = record { sfits = omega arith }
mark_fits End = record { sfits = omega arith }

flag_fits : (b : Bool) → FitsSigned w32 (flag_number b)
flag_fits false = record { sfits = omega arith }
flag_fits true = record { sfits = omega arith }

small_fits : (n : ℕ) → n ≤ 2 → FitsSigned w32 (pos n)
small_fits n le = record { sfits = omega (arith, le) }

count_fits : (z : ℤ) → IsMessageCount z → FitsSigned w64 z
count_fits z h = between_fits64 (pos 0) (pos (2 ^ 47)) z (omega (arith, ints)) (omega (arith, ints)) h

-- ---- bytes without a fault are spelled by what stands in them

module _ (bytes : List ℕ) (fits : IsBytes bytes) (schema : u16_at 4 bytes ≡ 111) where
  abbrev Spells : ℕ → Type 0
  Spells n = u16_at 2 bytes ≡ n → piece_fault n bytes ≡ None → HasPieceSpelling (piece_value n bytes) × (piece_spelling_of (piece_value n bytes) ≡ bytes)

  marker_spells : Spells 100
  unfolding piece_spelling_of
  marker_spells is none =
      let s = strict_none (marker_rules (mark_of bytes)) Nothing bytes none in
      let mark = mark_is (nat_le 40 (length bytes) && int_eq (i32_at 36 bytes) (pos 2)) (i32_at 36 bytes) (narrow_only (mark_of bytes) (i32_at 36 bytes) s.pass.1.1.1.1.0) in (
        (s.pass.0, s.pass.1.0, s.pass.1.1.0),
        spelled_by 100 (marker_rules (mark_of bytes)) Nothing (I64 (i64_at 8 bytes) ∷ I64 (i64_at 16 bytes) ∷ I64 (i64_at 24 bytes) ∷ I32 (pos 0) ∷ I32 (mark_number (chosen (i32_at 36 bytes))) ∷ []) bytes fits is schema s refl
            (refl, (refl, (refl, (narrow_only (pos 0) (i32_at 32 bytes) s.pass.1.1.1.0, (mark, tt))))),
      )

  session_spells : Spells 110
  unfolding piece_spelling_of
  session_spells is none =
      let s = strict_none session_rules (Counted 1024) bytes none in (
        (s.pass.0, i64_at-fits 16 bytes fits, s.pass.1.1.0, i32_at-fits 32 bytes fits, tail_fits (Counted 1024) 40 bytes s.there s.ends 1024 (inl refl)),
        spelled_by 110 session_rules (Counted 1024) (I64 (i64_at 8 bytes) ∷ I64 (i64_at 16 bytes) ∷ I64 (i64_at 24 bytes) ∷ I32 (i32_at 32 bytes) ∷ I32 (flag_number (int_eq (i32_at 36 bytes) (pos 1))) ∷ []) bytes fits is schema s refl
            (refl, (refl, (refl, (refl, (flag_is (i32_at 36 bytes) s.pass.1.1.1.1.0, tt))))),
      )

  timer_spells : Spells 111
  unfolding piece_spelling_of
  timer_spells is none =
      let s = strict_none timer_rules Nothing bytes none in (
        (i64_at-fits 8 bytes fits, s.pass.1.0),
        spelled_by 111 timer_rules Nothing (I64 (i64_at 8 bytes) ∷ I64 (i64_at 16 bytes) ∷ []) bytes fits is schema s refl (refl, (refl, tt)),
      )

  module_spells : Spells 112
  unfolding piece_spelling_of
  module_spells is none =
      let s = strict_none module_rules Nothing bytes none in (
        (s.pass.0, s.pass.1.0, s.pass.1.1.0, s.pass.1.1.1.0),
        spelled_by 112 module_rules Nothing (I64 (i64_at 8 bytes) ∷ I64 (i64_at 16 bytes) ∷ I64 (i64_at 24 bytes) ∷ I32 (i32_at 32 bytes) ∷ []) bytes fits is schema s refl (refl, (refl, (refl, (refl, tt)))),
      )

  pending_spells : Spells 113
  unfolding piece_spelling_of
  pending_spells is none =
      let s = strict_none pending_rules (Counted 16384) bytes none in
      let service = small_back 2 (i32_at 16 bytes) s.pass.1.0 in (
        (s.pass.0, service.0, tail_fits (Counted 16384) 20 bytes s.there s.ends 16384 (inl refl)),
        spelled_by 113 pending_rules (Counted 16384) (I64 (i64_at 8 bytes) ∷ I32 (pos (unsigned_abs (i32_at 16 bytes))) ∷ []) bytes fits is schema s refl (refl, (service.1, tt)),
      )

  state_spells : Spells 114
  unfolding piece_spelling_of
  state_spells is none =
      let s = strict_none state_rules (Counted (2 ^ 32 - 1)) bytes none in (
        tail_fits (Counted (2 ^ 32 - 1)) 8 bytes s.there s.ends (2 ^ 32 - 1) (inl refl),
        spelled_by 114 state_rules (Counted (2 ^ 32 - 1)) [] bytes fits is schema s refl tt,
      )

  counter_spells : Spells 115
  unfolding piece_spelling_of
  counter_spells is none =
      let s = strict_none counter_rules Nothing bytes none in
      let service = small_back 2 (i32_at 24 bytes) s.pass.1.1.0 in (
        (s.pass.0, s.pass.1.0, service.0),
        spelled_by 115 counter_rules Nothing (I64 (i64_at 8 bytes) ∷ I64 (i64_at 16 bytes) ∷ I32 (pos (unsigned_abs (i32_at 24 bytes))) ∷ []) bytes fits is schema s refl (refl, (refl, (service.1, tt))),
      )

pub piece_spells : (bytes : List ℕ) → IsBytes bytes → first_fault_piece bytes ≡ None
    → HasPieceSpelling (piece_value (u16_at 2 bytes) bytes) × (piece_spelling_of (piece_value (u16_at 2 bytes) bytes) ≡ bytes)
unfolding first_fault_piece
piece_spells bytes fits e =
    let h = head_of piece_fault bytes e in
    pick (Spells bytes fits h.schema) (marker_spells bytes fits h.schema) (session_spells bytes fits h.schema) (timer_spells bytes fits h.schema) (module_spells bytes fits h.schema) (pending_spells bytes fits h.schema) (state_spells bytes fits h.schema) (counter_spells bytes fits h.schema) (u16_at 2 bytes) bytes h.none refl h.none

-- ---- what is spelled is read again

abbrev piece_number : Piece → ℕ
piece_number (Marker service position term mark) = 100
piece_number (Session id corr stamp stream closing channel) = 110
piece_number (Timer corr deadline) = 111
piece_number (Module next_session actions entries leader) = 112
piece_number (Pending n service payload) = 113
piece_number (ServiceState bytes) = 114
piece_number (Counter offered appended service) = 115

pub record Again (p : Piece) : Type 0 where
  pub long : 8 ≤ length (piece_spelling_of p)
  pub template : u16_at 2 (piece_spelling_of p) ≡ piece_number p
  pub fault : first_fault_piece (piece_spelling_of p) ≡ None
  pub value : piece_value (u16_at 2 (piece_spelling_of p)) (piece_spelling_of p) ≡ p

unsigned_is : (n : ℕ) (z : ℤ) → z ≡ pos n → unsigned_abs z ≡ n
unsigned_is n z is = ap unsigned_abs is

pub again : (p : Piece) → HasPieceSpelling p → Again p
unfolding piece_spelling_of first_fault_piece
again (Marker service position term mark) h =
    let w = written 100 (marker_rules (mark_number mark)) Nothing (I64 service ∷ I64 position ∷ I64 term ∷ I32 (pos 0) ∷ I32 (mark_number mark) ∷ []) [] (omega arith) (omega arith) (between_fits64 (negsuc 0) (pos 2) service (omega (arith, ints)) (omega (arith, ints)) h.0, (number_fits position h.1, (number_fits term h.2, (record { sfits = omega arith }, (mark_fits mark, tt))))) refl refl (λ b r. (range_at (negsuc 0) (pos 2) service (i64_at 8 b) r.0 h.0, (range_at (pos 0) (pos (2 ^ 62)) position (i64_at 16 b) r.1.0 h.1, (range_at (pos 0) (pos (2 ^ 62)) term (i64_at 24 b) r.1.1.0 h.2, (single (pos 0) (i32_at 32 b) r.1.1.1.0, (single (mark_number mark) (i32_at 36 b) r.1.1.1.1.0, tt)))))) in
    record {
      long = w.long;
      template = w.headed.template;
      fault = no_fault piece_fault 100 (spelled 100 (I64 service ∷ I64 position ∷ I64 term ∷ I32 (pos 0) ∷ I32 (mark_number mark) ∷ []) Nothing []) w.long w.headed.schema w.headed.template (subst (λ m. strict_fault (marker_rules m) Nothing (spelled 100 (I64 service ∷ I64 position ∷ I64 term ∷ I32 (pos 0) ∷ I32 (mark_number mark) ∷ []) Nothing []) ≡ None) (sym (asked mark (nat_le 40 (length (spelled 100 (I64 service ∷ I64 position ∷ I64 term ∷ I32 (pos 0) ∷ I32 (mark_number mark) ∷ []) Nothing []))) (i32_at 36 (spelled 100 (I64 service ∷ I64 position ∷ I64 term ∷ I32 (pos 0) ∷ I32 (mark_number mark) ∷ []) Nothing [])) (le-leb 40 (length (spelled 100 (I64 service ∷ I64 position ∷ I64 term ∷ I32 (pos 0) ∷ I32 (mark_number mark) ∷ []) Nothing [])) w.strict.whole) w.headed.reads.1.1.1.1.0)) (none_strict (marker_rules (mark_number mark)) Nothing (spelled 100 (I64 service ∷ I64 position ∷ I64 term ∷ I32 (pos 0) ∷ I32 (mark_number mark) ∷ []) Nothing []) w.strict));
      value = ap (λ k. piece_value k (spelled 100 (I64 service ∷ I64 position ∷ I64 term ∷ I32 (pos 0) ∷ I32 (mark_number mark) ∷ []) Nothing [])) w.headed.template ∙ cc (w.headed.reads.0, w.headed.reads.1.0, w.headed.reads.1.1.0, mark_again mark (i32_at 36 (spelled 100 (I64 service ∷ I64 position ∷ I64 term ∷ I32 (pos 0) ∷ I32 (mark_number mark) ∷ []) Nothing [])) w.headed.reads.1.1.1.1.0);
    }
again (Session id corr stamp stream closing channel) h =
    let w = written 110 session_rules (Counted 1024) (I64 id ∷ I64 corr ∷ I64 stamp ∷ I32 stream ∷ I32 (flag_number closing) ∷ []) channel (omega arith) (omega arith) (session_fits id h.0, (h.1, (number_fits stamp h.2, (h.3, (flag_fits closing, tt))))) refl (h.4, omega arith) (λ b r. (range_at (pos 1) (pos (2 ^ 63 - 1)) id (i64_at 8 b) r.0 h.0, (tt, (range_at (pos 0) (pos (2 ^ 62)) stamp (i64_at 24 b) r.1.1.0 h.2, (tt, (range_at (pos 0) (pos 1) (flag_number closing) (i32_at 36 b) r.1.1.1.1.0 (flag_between closing), tt)))))) in
    record {
      long = w.long;
      template = w.headed.template;
      fault = no_fault piece_fault 110 (spelled 110 (I64 id ∷ I64 corr ∷ I64 stamp ∷ I32 stream ∷ I32 (flag_number closing) ∷ []) (Counted 1024) channel) w.long w.headed.schema w.headed.template (none_strict session_rules (Counted 1024) (spelled 110 (I64 id ∷ I64 corr ∷ I64 stamp ∷ I32 stream ∷ I32 (flag_number closing) ∷ []) (Counted 1024) channel) w.strict);
      value = ap (λ k. piece_value k (spelled 110 (I64 id ∷ I64 corr ∷ I64 stamp ∷ I32 stream ∷ I32 (flag_number closing) ∷ []) (Counted 1024) channel)) w.headed.template ∙ cc (w.headed.reads.0, w.headed.reads.1.0, w.headed.reads.1.1.0, w.headed.reads.1.1.1.0, flag_again closing (i32_at 36 (spelled 110 (I64 id ∷ I64 corr ∷ I64 stamp ∷ I32 stream ∷ I32 (flag_number closing) ∷ []) (Counted 1024) channel)) w.headed.reads.1.1.1.1.0, w.content);
    }
again (Timer corr deadline) h =
    let w = written 111 timer_rules Nothing (I64 corr ∷ I64 deadline ∷ []) [] (omega arith) (omega arith) (h.0, (number_fits deadline h.1, tt)) refl refl (λ b r. (tt, (range_at (pos 0) (pos (2 ^ 62)) deadline (i64_at 16 b) r.1.0 h.1, tt))) in
    record {
      long = w.long;
      template = w.headed.template;
      fault = no_fault piece_fault 111 (spelled 111 (I64 corr ∷ I64 deadline ∷ []) Nothing []) w.long w.headed.schema w.headed.template (none_strict timer_rules Nothing (spelled 111 (I64 corr ∷ I64 deadline ∷ []) Nothing []) w.strict);
      value = ap (λ k. piece_value k (spelled 111 (I64 corr ∷ I64 deadline ∷ []) Nothing [])) w.headed.template ∙ cc (w.headed.reads.0, w.headed.reads.1.0);
    }
again (Module next_session actions entries leader) h =
    let w = written 112 module_rules Nothing (I64 next_session ∷ I64 actions ∷ I64 entries ∷ I32 leader ∷ []) [] (omega arith) (omega arith) (between_fits64 (pos 1) (pos (2 ^ 62)) next_session (omega (arith, ints)) (omega (arith, ints)) h.0, (number_fits actions h.1, (number_fits entries h.2, (between_fits32 (negsuc 0) (pos 4) leader (omega (arith, ints)) (omega (arith, ints)) h.3, tt)))) refl refl (λ b r. (range_at (pos 1) (pos (2 ^ 62)) next_session (i64_at 8 b) r.0 h.0, (range_at (pos 0) (pos (2 ^ 62)) actions (i64_at 16 b) r.1.0 h.1, (range_at (pos 0) (pos (2 ^ 62)) entries (i64_at 24 b) r.1.1.0 h.2, (range_at (negsuc 0) (pos 4) leader (i32_at 32 b) r.1.1.1.0 h.3, tt))))) in
    record {
      long = w.long;
      template = w.headed.template;
      fault = no_fault piece_fault 112 (spelled 112 (I64 next_session ∷ I64 actions ∷ I64 entries ∷ I32 leader ∷ []) Nothing []) w.long w.headed.schema w.headed.template (none_strict module_rules Nothing (spelled 112 (I64 next_session ∷ I64 actions ∷ I64 entries ∷ I32 leader ∷ []) Nothing []) w.strict);
      value = ap (λ k. piece_value k (spelled 112 (I64 next_session ∷ I64 actions ∷ I64 entries ∷ I32 leader ∷ []) Nothing [])) w.headed.template ∙ cc (w.headed.reads.0, w.headed.reads.1.0, w.headed.reads.1.1.0, w.headed.reads.1.1.1.0);
    }
again (Pending n service payload) h =
    let w = written 113 pending_rules (Counted 16384) (I64 n ∷ I32 (pos service) ∷ []) payload (omega arith) (omega arith) (between_fits64 (pos 1) (pos (2 ^ 47)) n (omega (arith, ints)) (omega (arith, ints)) h.0, (small_fits service h.1, tt)) refl (h.2, omega arith) (λ b r. (range_at (pos 1) (pos (2 ^ 47)) n (i64_at 8 b) r.0 h.0, (range_at (pos 0) (pos 2) (pos service) (i32_at 16 b) r.1.0 (small_between 2 service h.1), tt))) in
    record {
      long = w.long;
      template = w.headed.template;
      fault = no_fault piece_fault 113 (spelled 113 (I64 n ∷ I32 (pos service) ∷ []) (Counted 16384) payload) w.long w.headed.schema w.headed.template (none_strict pending_rules (Counted 16384) (spelled 113 (I64 n ∷ I32 (pos service) ∷ []) (Counted 16384) payload) w.strict);
      value = ap (λ k. piece_value k (spelled 113 (I64 n ∷ I32 (pos service) ∷ []) (Counted 16384) payload)) w.headed.template ∙ cc (w.headed.reads.0, unsigned_is service (i32_at 16 (spelled 113 (I64 n ∷ I32 (pos service) ∷ []) (Counted 16384) payload)) w.headed.reads.1.0, w.content);
    }
again (ServiceState content) h =
    let w = written 114 state_rules (Counted (2 ^ 32 - 1)) ([]) content (omega arith) (omega arith) tt refl (h, omega arith) (λ b r. tt) in
    record {
      long = w.long;
      template = w.headed.template;
      fault = no_fault piece_fault 114 (spelled 114 ([]) (Counted (2 ^ 32 - 1)) content) w.long w.headed.schema w.headed.template (none_strict state_rules (Counted (2 ^ 32 - 1)) (spelled 114 ([]) (Counted (2 ^ 32 - 1)) content) w.strict);
      value = ap (λ k. piece_value k (spelled 114 ([]) (Counted (2 ^ 32 - 1)) content)) w.headed.template ∙ ap (λ c. ServiceState c) w.content;
    }
again (Counter offered appended service) h =
    let w = written 115 counter_rules Nothing (I64 offered ∷ I64 appended ∷ I32 (pos service) ∷ []) [] (omega arith) (omega arith) (count_fits offered h.0, (count_fits appended h.1, (small_fits service h.2, tt))) refl refl (λ b r. (range_at (pos 0) (pos (2 ^ 47)) offered (i64_at 8 b) r.0 h.0, (range_at (pos 0) (pos (2 ^ 47)) appended (i64_at 16 b) r.1.0 h.1, (range_at (pos 0) (pos 2) (pos service) (i32_at 24 b) r.1.1.0 (small_between 2 service h.2), tt)))) in
    record {
      long = w.long;
      template = w.headed.template;
      fault = no_fault piece_fault 115 (spelled 115 (I64 offered ∷ I64 appended ∷ I32 (pos service) ∷ []) Nothing []) w.long w.headed.schema w.headed.template (none_strict counter_rules Nothing (spelled 115 (I64 offered ∷ I64 appended ∷ I32 (pos service) ∷ []) Nothing []) w.strict);
      value = ap (λ k. piece_value k (spelled 115 (I64 offered ∷ I64 appended ∷ I32 (pos service) ∷ []) Nothing [])) w.headed.template ∙ cc (w.headed.reads.0, w.headed.reads.1.0, unsigned_is service (i32_at 24 (spelled 115 (I64 offered ∷ I64 appended ∷ I32 (pos service) ∷ []) Nothing [])) w.headed.reads.1.1.0);
    }

-- no two pieces have one spelling
pub apart : (p q : Piece) → HasPieceSpelling p → HasPieceSpelling q → piece_spelling_of p ≡ piece_spelling_of q → p ≡ q
apart p q hp hq e = sym (again p hp).value ∙ ap (λ b. piece_value (u16_at 2 b) b) e ∙ (again q hq).value

prefix_cases : (p : Piece) (a rest : List ℕ) → piece_fault (piece_number p) a ≡ None → piece_fault (piece_number p) (a ++ rest) ≡ None → rest ≡ []
prefix_cases (Marker service position term mark) a rest p q = ends_alike (marker_rules (mark_of a)) (marker_rules (mark_of (a ++ rest))) a rest refl p q
prefix_cases (Session id corr stamp stream closing channel) a rest p q = ends_alike_counted session_rules 1024 a rest p q
prefix_cases (Timer corr deadline) a rest p q = ends_alike timer_rules timer_rules a rest refl p q
prefix_cases (Module next_session actions entries leader) a rest p q = ends_alike module_rules module_rules a rest refl p q
prefix_cases (Pending n service payload) a rest p q = ends_alike_counted pending_rules 16384 a rest p q
prefix_cases (ServiceState content) a rest p q = ends_alike_counted state_rules (2 ^ 32 - 1) a rest p q
prefix_cases (Counter offered appended service) a rest p q = ends_alike counter_rules counter_rules a rest refl p q

-- no spelling is a proper prefix of another
pub prefix_free : (p other : Piece) (rest : List ℕ) → HasPieceSpelling p → HasPieceSpelling other → piece_spelling_of other ≡ piece_spelling_of p ++ rest → rest ≡ []
unfolding first_fault_piece
prefix_free p other rest hp ho is =
    let a = again p hp in
    let first : piece_fault (piece_number p) (piece_spelling_of p) ≡ None = subst (λ n. piece_fault n (piece_spelling_of p) ≡ None) a.template (head_of piece_fault (piece_spelling_of p) a.fault).none in
    let none : first_fault_by piece_fault (piece_spelling_of p ++ rest) ≡ None = subst (λ l. first_fault_by piece_fault l ≡ None) is (again other ho).fault in
    let same : u16_at 2 (piece_spelling_of p ++ rest) ≡ piece_number p = u16_at-append 2 (piece_spelling_of p) rest (omega (arith, a.long)) ∙ a.template in
    let second : piece_fault (piece_number p) (piece_spelling_of p ++ rest) ≡ None = subst (λ n. piece_fault n (piece_spelling_of p ++ rest) ≡ None) same (head_of piece_fault (piece_spelling_of p ++ rest) none).none in
    prefix_cases p (piece_spelling_of p) rest first second

-- ---- what the decoder answers

pub found : (bytes : List ℕ) (r : Result Piece DecodeFault) → IsBytes bytes → Decodes r (first_fault_piece bytes) (piece_value (u16_at 2 bytes) bytes)
    → IfOk r (λ p. HasPieceSpelling p × (piece_spelling_of p ≡ bytes))
found bytes (Ok v) fits h = subst (λ p. HasPieceSpelling p × (piece_spelling_of p ≡ bytes)) (sym h.0) (piece_spells bytes fits h.1)
found bytes (Err e) fits h = tt

abbrev okay : Piece → Result Piece DecodeFault
okay p = Ok p

abbrev failed : DecodeFault → Result Piece DecodeFault
failed e = Err e

pub only : (bytes : List ℕ) (r : Result Piece DecodeFault) → Decodes r (first_fault_piece bytes) (piece_value (u16_at 2 bytes) bytes)
    → (p : Piece) → HasPieceSpelling p → piece_spelling_of p ≡ bytes → (r ≡ okay p) ⊎ (r ≡ failed faults.NoMemory)
only bytes (Ok v) h p has is = inl (ap okay (h.0 ∙ ap (λ b. piece_value (u16_at 2 b) b) (sym is) ∙ (again p has).value))
only bytes (Err (faults.Bad b)) h p has is =
    let free : first_fault_piece bytes ≡ None = ap first_fault_piece (sym is) ∙ (again p has).fault in
    absurd (cc (free, h))
only bytes (Err faults.NoMemory) h p has is = inr refl
