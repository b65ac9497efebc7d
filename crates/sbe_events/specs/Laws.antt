-- What bytes spell is spelled by them alone.
use Rattle.std.proofs.Common.{◌≡◌, ◌⊎◌, inl, inr, ℕ, zero, suc, ◌+◌, ◌-◌, ◌*◌, ◌/◌, ◌%◌, ◌^◌, ◌<◌, ◌≤◌, ℤ, pos, negsuc, ◌≤ℤ◌, Bool, true, false, cond, ◌&&◌, T, List, [], ◌++◌, length, drop, Option, Some, None, Ok, Err, FitsSigned, w64, refl, sym, ◌∙◌, ap, subst, arith}
use Rattle.std.specs.Prelude.{IsSome, int_le, nat_le, nat_lt, ◌==◌, unsigned_abs}
use Rattle.std.proofs.lemmas.Bool.{false≢true, cases_Bool, cond-true, cond-false, and_parts, and_from, leb-true, le-leb, eqb-true, eq-eqb, ltb-false, le-ltb}
use Rattle.std.proofs.lemmas.List.{length-append, nil_from_length}
use Rattle.std.proofs.lemmas.Int.{ints}
use Rattle.std.proofs.lemmas.Nat.{div-mul-add, mod-mul-add}
use Rattle.wire_prims.specs.Fields.{u16_at, u32_at, i32_at, i64_at, IsBytes, i64_at-fits, i32_at-fits, u16_at-append, u32_at-append}
use Rattle.wire_prims.specs.Header.{bad, numbers_of, header_of}
use Rattle.wire_prims.specs.Strict.{message, block_size, service_session, service_of, number_of as service_number_of, is_service_session, strict_fault, rules_size}
use Rattle.wire_prims.specs.StrictLaws.{Between, AllPass, AllFit, IsStrict, strict_none, none_strict, spelled_by, IsHeaded, is_headed, is_strict, length-message, TailFits, tail_fits, tail_value-put, tail_spelling, true_from, strict_ends, between_fits64, between_fits32}
use Rattle.wire_prims.specs.declared.fault.Bad.{Bad}
use Rattle.wire_prims.specs.declared.fault.BadCause.TheVariants as causes
use Rattle.wire_prims.specs.declared.header.Header.{Header}
use Rattle.wire_prims.specs.declared.strict.Tail.TheVariants.{Nothing, Rest, Counted}
use Rattle.sbe_events.specs.Templates.{number_of, template_of, rules_of, tail_of}
use Rattle.sbe_events.specs.Spelling.{IsNumber, IsClient, HasSpelling, template_for, fields_of, content_of, spelling_of, term_of, IsMessage, template_fault, header_fault, first_fault, value_of, event_from, event_of}
use Rattle.sbe_events.specs.declared.template.Template.{Template}
use Rattle.sbe_events.specs.declared.template.Template.TheVariants as templates
use Rattle.sbe_events.specs.declared.event.Event.{Event}
use Rattle.sbe_events.specs.declared.event.Event.TheVariants.{Term, Opened, Message, ServiceMessage, Timer, Closed, Snapshot}

abbrev some : Event → Option Event
some e = Some e

abbrev one : Template → Option Template
one t = Some t

some_is : (a b : Event) → some a ≡ some b → a ≡ b
some_is a b e = cc

one_template : (t u : Template) → one t ≡ one u → t ≡ u
one_template t u e = cc

-- ---- the header and the template of bytes without a fault

cond_some : {A : Type 0} (b : Bool) (y t : A) (x : Option A) → cond b (Some y) x ≡ Some t → ((b ≡ true) × (y ≡ t)) ⊎ (x ≡ Some t)
cond_some true y t x e = inl (refl, cc)
cond_some false y t x e = inr e

found : (n k : ℕ) (u t : Template) → number_of u ≡ k → ((n == k) ≡ true) × (u ≡ t) → n ≡ number_of t
found n k u t is h = eqb-true n k h.0 ∙ sym is ∙ ap number_of h.1

pub template_number : (n : ℕ) (t : Template) → template_of n ≡ Some t → n ≡ number_of t
template_number n t e =
    let c6 : Option Template = cond (n == 24) (Some templates.Term) None in
    let c5 : Option Template = cond (n == 23) (Some templates.Snapshot) c6 in
    let c4 : Option Template = cond (n == 22) (Some templates.Closed) c5 in
    let c3 : Option Template = cond (n == 21) (Some templates.Opened) c4 in
    let c2 : Option Template = cond (n == 20) (Some templates.Timer) c3 in
    elim (cond_some (n == 1) templates.Message t c2 e) [
      | inl h ↦ found n 1 templates.Message t refl h
      | inr e2 ↦ elim (cond_some (n == 20) templates.Timer t c3 e2) [
        | inl h ↦ found n 20 templates.Timer t refl h
        | inr e3 ↦ elim (cond_some (n == 21) templates.Opened t c4 e3) [
          | inl h ↦ found n 21 templates.Opened t refl h
          | inr e4 ↦ elim (cond_some (n == 22) templates.Closed t c5 e4) [
            | inl h ↦ found n 22 templates.Closed t refl h
            | inr e5 ↦ elim (cond_some (n == 23) templates.Snapshot t c6 e5) [
              | inl h ↦ found n 23 templates.Snapshot t refl h
              | inr e6 ↦ elim (cond_some (n == 24) templates.Term t None e6) [
                | inl h ↦ found n 24 templates.Term t refl h
                | inr e7 ↦ absurd cc
              ]
            ]
          ]
        ]
      ]
    ]

pub number_template : (t : Template) → template_of (number_of t) ≡ Some t
number_template templates.Message = refl
number_template templates.Timer = refl
number_template templates.Opened = refl
number_template templates.Closed = refl
number_template templates.Snapshot = refl
number_template templates.Term = refl

-- bytes without a fault: their template, and what is known of them
pub record Sound (t : Template) (bytes : List ℕ) : Type 0 where
  pub long : 8 ≤ length bytes
  pub schema : u16_at 4 bytes ≡ 111
  pub number : u16_at 2 bytes ≡ number_of t
  pub strict : IsStrict (rules_of t) (tail_of t) bytes

header_cases : (b c : Bool) (d f : Bad) (h : Header) (bytes : List ℕ) → header_fault (cond b (Err d) (cond c (Ok h) (Err f))) bytes ≡ None
    → (b ≡ false) × (c ≡ true) × (template_fault (template_of h.template) bytes ≡ None)
header_cases true c d f h bytes e = absurd cc
header_cases false true d f h bytes e = (refl, refl, e)
header_cases false false d f h bytes e = absurd cc

template_cases : (o : Option Template) (bytes : List ℕ) → template_fault o bytes ≡ None → (t : Template) × (o ≡ Some t) × (strict_fault (rules_of t) (tail_of t) bytes ≡ None)
template_cases None bytes e = absurd cc
template_cases (Some t) bytes e = (t, refl, e)

pub sound : (bytes : List ℕ) → first_fault bytes ≡ None → (t : Template) × (template_of (u16_at 2 bytes) ≡ Some t) × Sound t bytes
unfolding first_fault
sound bytes e =
    let h = header_cases (nat_lt (length bytes) 8) (u16_at 4 bytes == 111) (bad (length bytes) causes.Short) (bad 4 causes.Schema) (numbers_of bytes) bytes e in
    let t = template_cases (template_of (u16_at 2 bytes)) bytes h.2 in (
      t.0,
      t.1,
      record {
        long = ltb-false (length bytes) 8 h.0;
        schema = eqb-true (u16_at 4 bytes) 111 h.1;
        number = template_number (u16_at 2 bytes) t.0 t.1;
        strict = strict_none (rules_of t.0) (tail_of t.0) bytes t.2;
      },
    )

pub template_there : (t : Template) (bytes : List ℕ) → Sound t bytes → template_of (u16_at 2 bytes) ≡ Some t
template_there t bytes s = ap template_of s.number ∙ number_template t

pub no_fault : (t : Template) (bytes : List ℕ) → Sound t bytes → first_fault bytes ≡ None
unfolding first_fault
no_fault t bytes s =
    let inner : header_of bytes ≡ Ok (numbers_of bytes) =
    cond-false (nat_lt (length bytes) 8) (Err (bad (length bytes) causes.Short)) (cond (u16_at 4 bytes == 111) (Ok (numbers_of bytes)) (Err (bad 4 causes.Schema))) (le-ltb (length bytes) 8 s.long)
    ∙ cond-true (u16_at 4 bytes == 111) (Ok (numbers_of bytes)) (Err (bad 4 causes.Schema)) (eq-eqb (u16_at 4 bytes) 111 s.schema) in
    ap (λ h. header_fault h bytes) inner ∙ ap (λ o. template_fault o bytes) (template_there t bytes s) ∙ none_strict (rules_of t) (tail_of t) bytes s.strict

pub event_there : (t : Template) (bytes : List ℕ) → Sound t bytes → event_of bytes ≡ Some (value_of t bytes)
unfolding event_of
event_there t bytes s = ap (λ f. event_from f (template_of (u16_at 2 bytes)) bytes) (no_fault t bytes s) ∙ ap (λ o. event_from None o bytes) (template_there t bytes s)

-- the value that a template gives
abbrev IsGiven : Option Template → List ℕ → Event → Type 0
IsGiven None bytes e = ⊥
IsGiven (Some t) bytes e = value_of t bytes ≡ e

event_cases : (f : Option Bad) (o : Option Template) (bytes : List ℕ) (e : Event) → event_from f o bytes ≡ Some e → (f ≡ None) × (IsGiven o bytes e)
event_cases (Some b) o bytes e h = absurd cc
event_cases None None bytes e h = absurd cc
event_cases None (Some t) bytes e h = (refl, cc)

-- ---- what bytes without a fault spell

narrow_only : (n z : ℤ) → Between n n z → z ≡ n
narrow_only n z h = omega (arith, ints, h.0, h.1)

service_back : (z : ℤ) → is_service_session z ≡ true → (service_of z ≤ 2) × Between (pos 1) (pos (2 ^ 47)) (service_number_of z) × (service_session (service_of z) (service_number_of z) ≡ z)
service_back (pos n) e = absurd cc
service_back (negsuc n) e =
    let a = and_parts (nat_le (n / 2 ^ 48) 2) (nat_le 1 (n % 2 ^ 48) && nat_le (n % 2 ^ 48) (2 ^ 47)) e in
    let b = and_parts (nat_le 1 (n % 2 ^ 48)) (nat_le (n % 2 ^ 48) (2 ^ 47)) a.1 in
    let low : 1 ≤ n % 2 ^ 48 = leb-true 1 (n % 2 ^ 48) b.0 in
    let high : n % 2 ^ 48 ≤ 2 ^ 47 = leb-true (n % 2 ^ 48) (2 ^ 47) b.1 in
    (leb-true (n / 2 ^ 48) 2 a.0, (omega (arith, ints, low), omega (arith, ints, high)), omega (arith, ints))

client_range : (z : ℤ) → pos 1 ≤ℤ z → FitsSigned w64 z → IsClient z
client_range (pos n) low fits = (low, omega (arith, ints, fits.sfits))
client_range (negsuc n) low fits = absurd (omega (arith, ints, low))

module _ (bytes : List ℕ) (fits : IsBytes bytes) where
  -- the value is in its ranges, and the bytes are its spelling
  abbrev Spells : Event → Type 0
  Spells e = HasSpelling e × (spelling_of e ≡ bytes)

  message_spells : (b : Bool) → int_le (pos 1) (i64_at 16 bytes) ≡ b → Sound templates.Message bytes
      → Spells (cond b (Message (i64_at 8 bytes) (i64_at 16 bytes) (i64_at 24 bytes) (drop 32 bytes)) (ServiceMessage (i64_at 8 bytes) (service_of (i64_at 16 bytes)) (service_number_of (i64_at 16 bytes)) (i64_at 24 bytes) (drop 32 bytes)))
  message_spells true is s =
      let low : pos 1 ≤ℤ i64_at 16 bytes = record { le = subst T (sym is) tt } in (
        (s.strict.pass.0, client_range (i64_at 16 bytes) low (i64_at-fits 16 bytes fits), s.strict.pass.1.1.0, tail_fits (Rest 16384) 32 bytes s.strict.there s.strict.ends 16384 (inr refl)),
        spelled_by 1 (rules_of templates.Message) (Rest 16384) (fields_of (Message (i64_at 8 bytes) (i64_at 16 bytes) (i64_at 24 bytes) (drop 32 bytes))) bytes fits s.number s.schema s.strict refl (refl, (refl, (refl, tt))),
      )
  message_spells false is s =
      let service : is_service_session (i64_at 16 bytes) ≡ true = elim s.strict.pass.1.0 [ inl client ↦ absurd (subst T is client.le) | inr service ↦ service ] in
      let back = service_back (i64_at 16 bytes) service in (
        (s.strict.pass.0, back.0, back.1, s.strict.pass.1.1.0, tail_fits (Rest 16384) 32 bytes s.strict.there s.strict.ends 16384 (inr refl)),
        spelled_by 1 (rules_of templates.Message) (Rest 16384) (fields_of (ServiceMessage (i64_at 8 bytes) (service_of (i64_at 16 bytes)) (service_number_of (i64_at 16 bytes)) (i64_at 24 bytes) (drop 32 bytes))) bytes fits s.number s.schema s.strict refl
            (refl, (sym back.2, (refl, tt))),
      )

  reason_back : (z : ℤ) → Between (pos 0) (pos 2) z → (unsigned_abs z ≤ 2) × (z ≡ pos (unsigned_abs z))
  reason_back (pos n) h = (omega (arith, ints, h.1), refl)
  reason_back (negsuc n) h = absurd (omega (arith, ints, h.0))

  pub value_spells : (t : Template) → Sound t bytes → HasSpelling (value_of t bytes) × (spelling_of (value_of t bytes) ≡ bytes)
  value_spells templates.Message s = message_spells (int_le (pos 1) (i64_at 16 bytes)) refl s
  value_spells templates.Timer s = (
    (s.strict.pass.0, i64_at-fits 16 bytes fits, s.strict.pass.1.1.0),
    spelled_by 20 (rules_of templates.Timer) Nothing (fields_of (value_of templates.Timer bytes)) bytes fits s.number s.schema s.strict refl (refl, (refl, (refl, tt))),
  )
  value_spells templates.Opened s = (
    (s.strict.pass.0, i64_at-fits 16 bytes fits, s.strict.pass.1.1.0, s.strict.pass.1.1.1.0, i32_at-fits 40 bytes fits, tail_fits (Counted 1024) 44 bytes s.strict.there s.strict.ends 1024 (inl refl)),
    spelled_by 21 (rules_of templates.Opened) (Counted 1024) (fields_of (value_of templates.Opened bytes)) bytes fits s.number s.schema s.strict refl (refl, (refl, (refl, (refl, (refl, tt))))),
  )
  value_spells templates.Closed s =
      let back = reason_back (i32_at 32 bytes) s.strict.pass.1.1.1.0 in (
        (s.strict.pass.0, s.strict.pass.1.0, s.strict.pass.1.1.0, back.0),
        spelled_by 22 (rules_of templates.Closed) Nothing (fields_of (value_of templates.Closed bytes)) bytes fits s.number s.schema s.strict refl (refl, (refl, (refl, (back.1, tt)))),
      )
  value_spells templates.Snapshot s = (
    (s.strict.pass.0, s.strict.pass.1.0, s.strict.pass.1.1.0),
    spelled_by 23 (rules_of templates.Snapshot) Nothing (fields_of (value_of templates.Snapshot bytes)) bytes fits s.number s.schema s.strict refl
        (refl, (refl, (refl, (narrow_only (pos 2) (i32_at 32 bytes) s.strict.pass.1.1.1.0, tt)))),
  )
  value_spells templates.Term s = (
    (s.strict.pass.0, s.strict.pass.1.0, s.strict.pass.1.1.0, s.strict.pass.1.1.1.0, s.strict.pass.1.1.1.1.0),
    spelled_by 24 (rules_of templates.Term) Nothing (fields_of (value_of templates.Term bytes)) bytes fits s.number s.schema s.strict refl
        (refl, (refl, (refl, (refl, (refl, (narrow_only (pos 1) (i32_at 44 bytes) s.strict.pass.1.1.1.1.1.0, tt)))))),
  )

-- what bytes spell has a spelling, which is these bytes
pub decoded : (bytes : List ℕ) (e : Event) → IsBytes bytes → event_of bytes ≡ Some e → HasSpelling e × (spelling_of e ≡ bytes)
unfolding event_of
decoded bytes e fits is =
    let parts = event_cases (first_fault bytes) (template_of (u16_at 2 bytes)) bytes e is in
    let s = sound bytes parts.0 in
    let given : value_of s.0 bytes ≡ e = subst (λ o. IsGiven o bytes e) s.1 parts.1 in
    subst (λ v. HasSpelling v × (spelling_of v ≡ bytes)) given (value_spells bytes fits s.0 s.2)

-- ---- a spelling is read as the event

number_fits : (z : ℤ) → IsNumber z → FitsSigned w64 z
number_fits z h = between_fits64 (pos 0) (pos (2 ^ 62)) z (omega (arith, ints)) (omega (arith, ints)) h

client_fits : (z : ℤ) → IsClient z → FitsSigned w64 z
client_fits z h = between_fits64 (pos 1) (pos (2 ^ 63 - 1)) z (omega (arith, ints)) (omega (arith, ints)) h

-- the session of a service's message
service_is : (service k : ℕ) → service ≤ 2 → 1 ≤ k → k ≤ 2 ^ 47 → service_session service (pos k) ≡ negsuc (service * 2 ^ 48 + k)
service_is service k a b c = omega (arith, ints)

record ServiceSays (s : ℕ) (k z : ℤ) : Type 0 where
  below : int_le (pos 1) z ≡ false
  names : is_service_session z ≡ true
  service : service_of z ≡ s
  number : service_number_of z ≡ k
  fits : FitsSigned w64 z

service_says : (s : ℕ) (number : ℤ) → s ≤ 2 → Between (pos 1) (pos (2 ^ 47)) number → ServiceSays s number (service_session s number)
service_says s (negsuc k) small h = absurd (omega (arith, ints, h.0))
service_says s (pos k) small h =
    let low : 1 ≤ k = omega (arith, ints, h.0) in
    let high : k ≤ 2 ^ 47 = omega (arith, ints, h.1) in
    let whole : (s * 2 ^ 48 + k) / 2 ^ 48 ≡ s = div-mul-add s (2 ^ 48) k (omega arith) in
    let part : (s * 2 ^ 48 + k) % 2 ^ 48 ≡ k = mod-mul-add s (2 ^ 48) k (omega arith) in
    subst (λ z. ServiceSays s (pos k) z) (sym (service_is s k small low high)) (record {
      below = refl;
      names = and_from (nat_le ((s * 2 ^ 48 + k) / 2 ^ 48) 2) (nat_le 1 ((s * 2 ^ 48 + k) % 2 ^ 48) && nat_le ((s * 2 ^ 48 + k) % 2 ^ 48) (2 ^ 47))
          (le-leb ((s * 2 ^ 48 + k) / 2 ^ 48) 2 (omega (arith, whole)))
          (and_from (nat_le 1 ((s * 2 ^ 48 + k) % 2 ^ 48)) (nat_le ((s * 2 ^ 48 + k) % 2 ^ 48) (2 ^ 47))
          (le-leb 1 ((s * 2 ^ 48 + k) % 2 ^ 48) (omega (arith, part))) (le-leb ((s * 2 ^ 48 + k) % 2 ^ 48) (2 ^ 47) (omega (arith, part))));
      service = whole;
      number = ap pos part;
      fits = record { sfits = omega arith };
    })

-- the event has its template's numbers, and it is what the bytes say
record Reread (e : Event) : Type 0 where
  fit : AllFit (fields_of e)
  pass : IsHeaded (number_of (template_for e)) (fields_of e) (spelling_of e) → AllPass (rules_of (template_for e)) 8 (spelling_of e)
  content : TailFits (tail_of (template_for e)) (content_of e)
  size : block_size (fields_of e) ≡ rules_size (rules_of (template_for e))
  small : number_of (template_for e) < 2 ^ 16
  short : block_size (fields_of e) < 2 ^ 16
  value : IsHeaded (number_of (template_for e)) (fields_of e) (spelling_of e) → value_of (template_for e) (spelling_of e) ≡ e

-- a range of the value that stands at a place
at64 : (low high z v : ℤ) → v ≡ z → Between low high z → Between low high v
at64 low high z v is h = subst (λ k. Between low high k) (sym is) h

single : (n v : ℤ) → v ≡ n → Between n n v
single n v is = (omega (arith, ints, is), omega (arith, ints, is))

reread : (e : Event) → HasSpelling e → Reread e
reread (Timer term corr stamp) h = record {
  fit = (number_fits term h.0, (h.1, (number_fits stamp h.2, tt)));
  pass = λ d. (at64 (pos 0) (pos (2 ^ 62)) term (i64_at 8 (spelling_of (Timer term corr stamp))) d.reads.0 h.0, (tt, (at64 (pos 0) (pos (2 ^ 62)) stamp (i64_at 24 (spelling_of (Timer term corr stamp))) d.reads.1.1.0 h.2, tt)));
  content = refl;
  size = refl;
  small = omega arith;
  short = omega arith;
  value = λ d. cc (d.reads.0, d.reads.1.0, d.reads.1.1.0);
}
reread (Opened term corr session stamp stream channel) h = record {
  fit = (number_fits term h.0, (h.1, (client_fits session h.2, (number_fits stamp h.3, (h.4, tt)))));
  pass = λ d. (at64 (pos 0) (pos (2 ^ 62)) term (i64_at 8 (spelling_of (Opened term corr session stamp stream channel))) d.reads.0 h.0, (tt, (at64 (pos 1) (pos (2 ^ 63 - 1)) session (i64_at 24 (spelling_of (Opened term corr session stamp stream channel))) d.reads.1.1.0 h.2, (at64 (pos 0) (pos (2 ^ 62)) stamp (i64_at 32 (spelling_of (Opened term corr session stamp stream channel))) d.reads.1.1.1.0 h.3, (tt, tt)))));
  content = (h.5, omega arith);
  size = refl;
  small = omega arith;
  short = omega arith;
  value = λ d. cc (d.reads.0, d.reads.1.0, d.reads.1.1.0, d.reads.1.1.1.0, d.reads.1.1.1.1.0, tail_value-put (message 21 (fields_of (Opened term corr session stamp stream channel))) 44 (length-message 21 (fields_of (Opened term corr session stamp stream channel))) (Counted 1024) channel (h.5, omega arith));
}
reread (Message term session stamp payload) h = record {
  fit = (number_fits term h.0, (client_fits session h.1, (number_fits stamp h.2, tt)));
  pass = λ d. (at64 (pos 0) (pos (2 ^ 62)) term (i64_at 8 (spelling_of (Message term session stamp payload))) d.reads.0 h.0, (inl (at64 (pos 1) (pos (2 ^ 63 - 1)) session (i64_at 16 (spelling_of (Message term session stamp payload))) d.reads.1.0 h.1).0, (at64 (pos 0) (pos (2 ^ 62)) stamp (i64_at 24 (spelling_of (Message term session stamp payload))) d.reads.1.1.0 h.2, tt)));
  content = h.3;
  size = refl;
  small = omega arith;
  short = omega arith;
  value = λ d.
      let is : int_le (pos 1) (i64_at 16 (spelling_of (Message term session stamp payload))) ≡ true = ap (int_le (pos 1)) d.reads.1.0 ∙ true_from (int_le (pos 1) session) h.1.0.le in
      let rest : drop 32 (spelling_of (Message term session stamp payload)) ≡ payload = tail_value-put (message 1 (fields_of (Message term session stamp payload))) 32 (length-message 1 (fields_of (Message term session stamp payload))) (Rest 16384) payload h.3 in
      cond-true (int_le (pos 1) (i64_at 16 (spelling_of (Message term session stamp payload)))) (Message (i64_at 8 (spelling_of (Message term session stamp payload))) (i64_at 16 (spelling_of (Message term session stamp payload))) (i64_at 24 (spelling_of (Message term session stamp payload))) (drop 32 (spelling_of (Message term session stamp payload)))) (ServiceMessage (i64_at 8 (spelling_of (Message term session stamp payload))) (service_of (i64_at 16 (spelling_of (Message term session stamp payload)))) (service_number_of (i64_at 16 (spelling_of (Message term session stamp payload)))) (i64_at 24 (spelling_of (Message term session stamp payload))) (drop 32 (spelling_of (Message term session stamp payload)))) is ∙ cc (d.reads.0, d.reads.1.0, d.reads.1.1.0, rest);
}
reread (ServiceMessage term service number stamp payload) h = record {
  fit = (number_fits term h.0, ((service_says service number h.1 h.2).fits, (number_fits stamp h.3, tt)));
  pass = λ d. (at64 (pos 0) (pos (2 ^ 62)) term (i64_at 8 (spelling_of (ServiceMessage term service number stamp payload))) d.reads.0 h.0, (inr (ap is_service_session d.reads.1.0 ∙ (service_says service number h.1 h.2).names), (at64 (pos 0) (pos (2 ^ 62)) stamp (i64_at 24 (spelling_of (ServiceMessage term service number stamp payload))) d.reads.1.1.0 h.3, tt)));
  content = h.4;
  size = refl;
  small = omega arith;
  short = omega arith;
  value = λ d.
      let is : int_le (pos 1) (i64_at 16 (spelling_of (ServiceMessage term service number stamp payload))) ≡ false = ap (int_le (pos 1)) d.reads.1.0 ∙ (service_says service number h.1 h.2).below in
      let rest : drop 32 (spelling_of (ServiceMessage term service number stamp payload)) ≡ payload = tail_value-put (message 1 (fields_of (ServiceMessage term service number stamp payload))) 32 (length-message 1 (fields_of (ServiceMessage term service number stamp payload))) (Rest 16384) payload h.4 in
      let from : service_of (i64_at 16 (spelling_of (ServiceMessage term service number stamp payload))) ≡ service = ap service_of d.reads.1.0 ∙ (service_says service number h.1 h.2).service in
      let named : service_number_of (i64_at 16 (spelling_of (ServiceMessage term service number stamp payload))) ≡ number = ap service_number_of d.reads.1.0 ∙ (service_says service number h.1 h.2).number in
      cond-false (int_le (pos 1) (i64_at 16 (spelling_of (ServiceMessage term service number stamp payload)))) (Message (i64_at 8 (spelling_of (ServiceMessage term service number stamp payload))) (i64_at 16 (spelling_of (ServiceMessage term service number stamp payload))) (i64_at 24 (spelling_of (ServiceMessage term service number stamp payload))) (drop 32 (spelling_of (ServiceMessage term service number stamp payload)))) (ServiceMessage (i64_at 8 (spelling_of (ServiceMessage term service number stamp payload))) (service_of (i64_at 16 (spelling_of (ServiceMessage term service number stamp payload)))) (service_number_of (i64_at 16 (spelling_of (ServiceMessage term service number stamp payload)))) (i64_at 24 (spelling_of (ServiceMessage term service number stamp payload))) (drop 32 (spelling_of (ServiceMessage term service number stamp payload)))) is ∙ cc (d.reads.0, from, named, d.reads.1.1.0, rest);
}
reread (Closed term session stamp reason) h = record {
  fit = (number_fits term h.0, (client_fits session h.1, (number_fits stamp h.2, (record { sfits = omega (arith, h.3) }, tt))));
  pass = λ d. (at64 (pos 0) (pos (2 ^ 62)) term (i64_at 8 (spelling_of (Closed term session stamp reason))) d.reads.0 h.0, (at64 (pos 1) (pos (2 ^ 63 - 1)) session (i64_at 16 (spelling_of (Closed term session stamp reason))) d.reads.1.0 h.1, (at64 (pos 0) (pos (2 ^ 62)) stamp (i64_at 24 (spelling_of (Closed term session stamp reason))) d.reads.1.1.0 h.2, (at64 (pos 0) (pos 2) (pos reason) (i32_at 32 (spelling_of (Closed term session stamp reason))) d.reads.1.1.1.0 (omega (arith, ints), omega (arith, ints, h.3)), tt))));
  content = refl;
  size = refl;
  small = omega arith;
  short = omega arith;
  value = λ d. cc (d.reads.0, d.reads.1.0, d.reads.1.1.0, ap unsigned_abs d.reads.1.1.1.0);
}
reread (Snapshot term position stamp) h = record {
  fit = (number_fits term h.0, (number_fits position h.1, (number_fits stamp h.2, (record { sfits = omega arith }, tt))));
  pass = λ d. (at64 (pos 0) (pos (2 ^ 62)) term (i64_at 8 (spelling_of (Snapshot term position stamp))) d.reads.0 h.0, (at64 (pos 0) (pos (2 ^ 62)) position (i64_at 16 (spelling_of (Snapshot term position stamp))) d.reads.1.0 h.1, (at64 (pos 0) (pos (2 ^ 62)) stamp (i64_at 24 (spelling_of (Snapshot term position stamp))) d.reads.1.1.0 h.2, (single (pos 2) (i32_at 32 (spelling_of (Snapshot term position stamp))) d.reads.1.1.1.0, tt))));
  content = refl;
  size = refl;
  small = omega arith;
  short = omega arith;
  value = λ d. cc (d.reads.0, d.reads.1.0, d.reads.1.1.0, d.reads.1.1.1.0);
}
reread (Term term position stamp base leader) h = record {
  fit = (number_fits term h.0, (number_fits position h.1, (number_fits stamp h.2, (subst (λ v. FitsSigned w64 v) (sym h.3) (number_fits position h.1), (between_fits32 (pos 0) (pos 4) leader (omega (arith, ints)) (omega (arith, ints)) h.4, (record { sfits = omega arith }, tt))))));
  pass = λ d. (at64 (pos 0) (pos (2 ^ 62)) term (i64_at 8 (spelling_of (Term term position stamp base leader))) d.reads.0 h.0, (at64 (pos 0) (pos (2 ^ 62)) position (i64_at 16 (spelling_of (Term term position stamp base leader))) d.reads.1.0 h.1, (at64 (pos 0) (pos (2 ^ 62)) stamp (i64_at 24 (spelling_of (Term term position stamp base leader))) d.reads.1.1.0 h.2, ((d.reads.1.1.1.0 ∙ h.3 ∙ sym d.reads.1.0), (at64 (pos 0) (pos 4) leader (i32_at 40 (spelling_of (Term term position stamp base leader))) d.reads.1.1.1.1.0 h.4, (single (pos 1) (i32_at 44 (spelling_of (Term term position stamp base leader))) d.reads.1.1.1.1.1.0, tt))))));
  content = refl;
  size = refl;
  small = omega arith;
  short = omega arith;
  value = λ d. cc (d.reads.0, d.reads.1.0, d.reads.1.1.0, d.reads.1.1.1.0, d.reads.1.1.1.1.0, d.reads.1.1.1.1.1.0);
}

headed : (e : Event) → HasSpelling e → IsHeaded (number_of (template_for e)) (fields_of e) (spelling_of e)
headed e h =
    let r = reread e h in
    is_headed (number_of (template_for e)) (fields_of e) (tail_spelling (tail_of (template_for e)) (content_of e)) r.small r.short r.fit

pub spelling_sound : (e : Event) → HasSpelling e → Sound (template_for e) (spelling_of e)
spelling_sound e h =
    let r = reread e h in
    let d = headed e h in
    let strict : IsStrict (rules_of (template_for e)) (tail_of (template_for e)) (spelling_of e) =
    is_strict (number_of (template_for e)) (rules_of (template_for e)) (tail_of (template_for e)) (fields_of e) (content_of e) r.size d (r.pass d) r.content in
    record { long = omega (arith, strict.whole); schema = d.schema; number = d.template; strict = strict }

-- what spells an event has no fault
pub spelling_fault : (e : Event) → HasSpelling e → first_fault (spelling_of e) ≡ None
spelling_fault e h = no_fault (template_for e) (spelling_of e) (spelling_sound e h)

-- what spells an event is read as this event
pub encoded : (e : Event) → HasSpelling e → event_of (spelling_of e) ≡ Some e
encoded e h = event_there (template_for e) (spelling_of e) (spelling_sound e h) ∙ ap (λ v. Some v) ((reread e h).value (headed e h))

-- no two events have one spelling
pub apart : (a b : Event) → HasSpelling a → HasSpelling b → spelling_of a ≡ spelling_of b → a ≡ b
apart a b ha hb e = some_is a b (sym (encoded a ha) ∙ ap event_of e ∙ encoded b hb)

-- ---- a spelling in front of another

same_template : (t u : Template) → number_of t ≡ number_of u → t ≡ u
same_template t u e = one_template t u (sym (number_template t) ∙ ap template_of e ∙ number_template u)

no_more : (bytes rest : List ℕ) → length (bytes ++ rest) ≡ length bytes → rest ≡ []
no_more bytes rest e = nil_from_length rest (omega (arith, length-append bytes rest))

ends_alike : (t : Template) (bytes rest : List ℕ) → Sound t bytes → Sound t (bytes ++ rest) → (rest ≡ []) ⊎ (t ≡ templates.Message)
ends_alike templates.Message bytes rest s u = inr refl
ends_alike templates.Timer bytes rest s u = inl (no_more bytes rest (strict_ends (rules_of templates.Timer) Nothing (bytes ++ rest) u.strict ∙ sym (strict_ends (rules_of templates.Timer) Nothing bytes s.strict)))
ends_alike templates.Closed bytes rest s u = inl (no_more bytes rest (strict_ends (rules_of templates.Closed) Nothing (bytes ++ rest) u.strict ∙ sym (strict_ends (rules_of templates.Closed) Nothing bytes s.strict)))
ends_alike templates.Snapshot bytes rest s u = inl (no_more bytes rest (strict_ends (rules_of templates.Snapshot) Nothing (bytes ++ rest) u.strict ∙ sym (strict_ends (rules_of templates.Snapshot) Nothing bytes s.strict)))
ends_alike templates.Term bytes rest s u = inl (no_more bytes rest (strict_ends (rules_of templates.Term) Nothing (bytes ++ rest) u.strict ∙ sym (strict_ends (rules_of templates.Term) Nothing bytes s.strict)))
ends_alike templates.Opened bytes rest s u =
    let short : length bytes ≡ 48 + u32_at 44 bytes = strict_ends (rules_of templates.Opened) (Counted 1024) bytes s.strict in
    let long : length (bytes ++ rest) ≡ 48 + u32_at 44 (bytes ++ rest) = strict_ends (rules_of templates.Opened) (Counted 1024) (bytes ++ rest) u.strict in
    let same : u32_at 44 (bytes ++ rest) ≡ u32_at 44 bytes = u32_at-append 44 bytes rest (omega (arith, short)) in
    inl (no_more bytes rest (omega (arith, short, long, same)))

-- no spelling but a message's is a proper prefix of another
pub prefix_free : (e other : Event) (rest : List ℕ) → HasSpelling e → HasSpelling other → spelling_of other ≡ spelling_of e ++ rest → (rest ≡ []) ⊎ IsMessage e
prefix_free e other rest he ho is =
    let s = spelling_sound e he in
    let o = spelling_sound other ho in
    let u : Sound (template_for other) (spelling_of e ++ rest) = subst (λ l. Sound (template_for other) l) is o in
    let number : u16_at 2 (spelling_of e ++ rest) ≡ u16_at 2 (spelling_of e) = u16_at-append 2 (spelling_of e) rest (omega (arith, s.long)) in
    let same : template_for other ≡ template_for e = same_template (template_for other) (template_for e) (sym u.number ∙ number ∙ s.number) in
    ends_alike (template_for e) (spelling_of e) rest s (subst (λ t. Sound t (spelling_of e ++ rest)) same u)

-- ---- what the decoder goes by

pub found_sound : (bytes : List ℕ) (h : Header) (t : Template) → header_of bytes ≡ Ok h → h ≡ numbers_of bytes → template_of h.template ≡ Some t → strict_fault (rules_of t) (tail_of t) bytes ≡ None → Sound t bytes
unfolding first_fault
found_sound bytes h t is_ok is is_template none =
    let free : first_fault bytes ≡ None = ap (λ r. header_fault r bytes) is_ok ∙ ap (λ o. template_fault o bytes) is_template ∙ none in
    let s = sound bytes free in
    let same : s.0 ≡ t = one_template s.0 t (sym s.1 ∙ ap (λ (k : Header). template_of k.template) (sym is) ∙ is_template) in
    subst (λ v. Sound v bytes) same s.2

-- the term of an event stands at its place
pub term_there : (t : Template) (bytes : List ℕ) → Sound t bytes → term_of (value_of t bytes) ≡ i64_at 8 bytes
term_there templates.Message bytes s = elim (cases_Bool (int_le (pos 1) (i64_at 16 bytes))) [
  | inl is ↦ ap term_of (cond-true (int_le (pos 1) (i64_at 16 bytes)) (Message (i64_at 8 bytes) (i64_at 16 bytes) (i64_at 24 bytes) (drop 32 bytes)) (ServiceMessage (i64_at 8 bytes) (service_of (i64_at 16 bytes)) (service_number_of (i64_at 16 bytes)) (i64_at 24 bytes) (drop 32 bytes)) is)
  | inr is ↦ ap term_of (cond-false (int_le (pos 1) (i64_at 16 bytes)) (Message (i64_at 8 bytes) (i64_at 16 bytes) (i64_at 24 bytes) (drop 32 bytes)) (ServiceMessage (i64_at 8 bytes) (service_of (i64_at 16 bytes)) (service_number_of (i64_at 16 bytes)) (i64_at 24 bytes) (drop 32 bytes)) is)
]
term_there templates.Timer bytes s = refl
term_there templates.Opened bytes s = refl
term_there templates.Closed bytes s = refl
term_there templates.Snapshot bytes s = refl
term_there templates.Term bytes s = refl

pub block_there : (t : Template) (bytes : List ℕ) → Sound t bytes → 32 ≤ length bytes
block_there templates.Message bytes s = s.strict.whole
block_there templates.Timer bytes s = s.strict.whole
block_there templates.Opened bytes s = omega (arith, s.strict.whole)
block_there templates.Closed bytes s = omega (arith, s.strict.whole)
block_there templates.Snapshot bytes s = omega (arith, s.strict.whole)
block_there templates.Term bytes s = omega (arith, s.strict.whole)

-- where bytes spell an event, its term stands at place 8
pub event_term : (bytes : List ℕ) (e : Event) → event_of bytes ≡ Some e → (16 ≤ length bytes) × (term_of e ≡ i64_at 8 bytes)
unfolding event_of
event_term bytes e is =
    let parts = event_cases (first_fault bytes) (template_of (u16_at 2 bytes)) bytes e is in
    let s = sound bytes parts.0 in
    let given : value_of s.0 bytes ≡ e = subst (λ o. IsGiven o bytes e) s.1 parts.1 in
    (omega (arith, block_there s.0 bytes s.2), ap term_of (sym given) ∙ term_there s.0 bytes s.2)

-- what stands in a message's bytes, by its session
pub is_message : (bytes : List ℕ) (term session stamp : ℤ) (payload : List ℕ) → term ≡ i64_at 8 bytes → session ≡ i64_at 16 bytes → stamp ≡ i64_at 24 bytes → payload ≡ drop 32 bytes → pos 1 ≤ℤ i64_at 16 bytes
    → Message term session stamp payload ≡ value_of templates.Message bytes
is_message bytes term session stamp payload a b d p client =
    cc (
      a,
      b,
      d,
      p,
      cond-true (int_le (pos 1) (i64_at 16 bytes)) (Message (i64_at 8 bytes) (i64_at 16 bytes) (i64_at 24 bytes) (drop 32 bytes)) (ServiceMessage (i64_at 8 bytes) (service_of (i64_at 16 bytes)) (service_number_of (i64_at 16 bytes)) (i64_at 24 bytes) (drop 32 bytes))
          (true_from (int_le (pos 1) (i64_at 16 bytes)) client.le),
    )

not_client : (z : ℤ) → z ≤ℤ pos 0 → int_le (pos 1) z ≡ false
not_client (pos zero) low = refl
not_client (pos (suc n)) low = absurd (omega (arith, ints, low))
not_client (negsuc n) low = refl

pub is_service_message : (bytes : List ℕ) (term : ℤ) (service : ℕ) (number stamp : ℤ) (payload : List ℕ) → term ≡ i64_at 8 bytes → service ≡ service_of (i64_at 16 bytes) → number ≡ service_number_of (i64_at 16 bytes) → stamp ≡ i64_at 24 bytes
    → payload ≡ drop 32 bytes → i64_at 16 bytes ≤ℤ pos 0 → ServiceMessage term service number stamp payload ≡ value_of templates.Message bytes
is_service_message bytes term service number stamp payload a b k d p low =
    cc (
      a,
      b,
      k,
      d,
      p,
      cond-false (int_le (pos 1) (i64_at 16 bytes)) (Message (i64_at 8 bytes) (i64_at 16 bytes) (i64_at 24 bytes) (drop 32 bytes)) (ServiceMessage (i64_at 8 bytes) (service_of (i64_at 16 bytes)) (service_number_of (i64_at 16 bytes)) (i64_at 24 bytes) (drop 32 bytes))
          (not_client (i64_at 16 bytes) low),
    )

-- bytes that spell an event are that long
pub event_long : (bytes : List ℕ) (o : Option Event) → event_of bytes ≡ o → IsSome o → 16 ≤ length bytes
event_long bytes None is there = absurd (false≢true there)
event_long bytes (Some e) is there = (event_term bytes e is).0

-- bytes without a fault spell an event, whose term stands at place 8
pub event_free : (bytes : List ℕ) → first_fault bytes ≡ None → (e : Event) × (event_of bytes ≡ Some e) × (i64_at 8 bytes ≡ term_of e)
event_free bytes free =
    let s = sound bytes free in
    (value_of s.0 bytes, event_there s.0 bytes s.2, sym (term_there s.0 bytes s.2))

-- bytes that spell an event have no fault
pub free_event : (bytes : List ℕ) (e : Event) → event_of bytes ≡ Some e → first_fault bytes ≡ None
unfolding event_of
free_event bytes e is = (event_cases (first_fault bytes) (template_of (u16_at 2 bytes)) bytes e is).0
