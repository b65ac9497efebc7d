-- What bytes spell is spelled by them alone.
use Rattle.std.proofs.Common.{◌≡◌, ◌⊎◌, inl, inr, ℕ, zero, suc, ◌-◌, ◌^◌, ◌≤◌, ℤ, pos, negsuc, ◌≤ℤ◌, Bool, true, false, cond, not, ◌&&◌, ◌||◌, List, [], ◌++◌, length, drop, Option, Some, None, Ok, Err, FitsSigned, w32, w64, refl, sym, ◌∙◌, ap, subst, arith}
use Rattle.std.specs.Prelude.{int_le, nat_le, nat_lt, ◌==◌, unsigned_abs}
use Rattle.std.specs.Ordering.{int_eq}
use Rattle.std.proofs.lemmas.Bool.{cond-true, cond-false, and_from, and_right, or_right, leb-true, le-leb, eqb-true, eq-eqb, ltb-false, le-ltb}
use Rattle.std.proofs.lemmas.List.{append-nil, length-append, drop_all}
use Rattle.std.proofs.lemmas.Int.{ints}
use Rattle.cl_base.specs.declared.entry.Entry.{Entry}
use Rattle.wire_prims.specs.Fields.{u16_at, i32_at, i64_at, IsBytes}
use Rattle.wire_prims.specs.Header.{bad, numbers_of, header_of}
use Rattle.wire_prims.specs.Strict.{message, strict_fault, rules_fault, unless, ◌or_else◌}
use Rattle.wire_prims.specs.StrictLaws.{Between, AllPass, AllFit, IsStrict, strict_none, none_strict, spelled_by, none_fails, IsHeaded, is_headed, is_strict, length-message, between_fits64, between_fits32, true_from}
use Rattle.wire_prims.specs.declared.fault.Bad.{Bad}
use Rattle.wire_prims.specs.declared.fault.BadCause.TheVariants as causes
use Rattle.wire_prims.specs.declared.header.Header.{Header}
use Rattle.wire_prims.specs.declared.strict.Tail.TheVariants.{Nothing, Rest}
use Rattle.sbe_consensus.specs.Templates.{number_of, is_announcement, template_by, template_of, rules_of}
use Rattle.sbe_consensus.specs.BatchLaws.{length-entries_at, parts_within, parts_spelled, parts_entries, Stand, entries_stand}
use Rattle.sbe_consensus.specs.Spelling.{entries_bytes, entries_at, count_of, counts, parts_there, parts_end, events_fault, IsNumber, IsLast, IsMember, IsUnasked, IsAnswer, HasSpelling, fields_of, spelling_of, batch_fault, body_fault, template_fault, header_fault, first_fault, value_of, packet_from, packet_of}
use Rattle.sbe_consensus.specs.declared.template.Template.{Template}
use Rattle.sbe_consensus.specs.declared.template.Template.TheVariants as templates
use Rattle.sbe_consensus.specs.declared.packet.Packet.{Packet}
use Rattle.sbe_consensus.specs.declared.packet.Packet.TheVariants.{Canvass, RequestVote, Vote, NewTerm, Append, Commit, LogBatch}

cond_some : {A : Type 0} (b : Bool) (y t : A) (x : Option A) → cond b (Some y) x ≡ Some t → ((b ≡ true) × (y ≡ t)) ⊎ (x ≡ Some t)
cond_some true y t x e = inl (refl, cc)
cond_some false y t x e = inr e

found : (n k : ℕ) (u t : Template) → number_of u ≡ k → ((n == k) ≡ true) × (u ≡ t) → n ≡ number_of t
found n k u t is h = eqb-true n k h.0 ∙ sym is ∙ ap number_of h.1

new_term_number : (a : Bool) → number_of (cond a templates.Announcement templates.Answer) ≡ 53
new_term_number true = refl
new_term_number false = refl

pub template_number : (n : ℕ) (a : Bool) (t : Template) → template_by n a ≡ Some t → n ≡ number_of t
template_number n a t e =
    let c7 : Option Template = cond (n == 120) (Some templates.LogBatch) None in
    let c6 : Option Template = cond (n == 55) (Some templates.Commit) c7 in
    let c5 : Option Template = cond (n == 54) (Some templates.Append) c6 in
    let c4 : Option Template = cond (n == 53) (Some (cond a templates.Announcement templates.Answer)) c5 in
    let c3 : Option Template = cond (n == 52) (Some templates.Vote) c4 in
    let c2 : Option Template = cond (n == 51) (Some templates.RequestVote) c3 in
    elim (cond_some (n == 50) templates.Canvass t c2 e) [
      | inl h ↦ found n 50 templates.Canvass t refl h
      | inr e2 ↦ elim (cond_some (n == 51) templates.RequestVote t c3 e2) [
        | inl h ↦ found n 51 templates.RequestVote t refl h
        | inr e3 ↦ elim (cond_some (n == 52) templates.Vote t c4 e3) [
          | inl h ↦ found n 52 templates.Vote t refl h
          | inr e4 ↦ elim (cond_some (n == 53) (cond a templates.Announcement templates.Answer) t c5 e4) [
            | inl h ↦ found n 53 (cond a templates.Announcement templates.Answer) t (new_term_number a) h
            | inr e5 ↦ elim (cond_some (n == 54) templates.Append t c6 e5) [
              | inl h ↦ found n 54 templates.Append t refl h
              | inr e6 ↦ elim (cond_some (n == 55) templates.Commit t c7 e6) [
                | inl h ↦ found n 55 templates.Commit t refl h
                | inr e7 ↦ elim (cond_some (n == 120) templates.LogBatch t None e7) [
                  | inl h ↦ found n 120 templates.LogBatch t refl h
                  | inr e8 ↦ absurd cc
                ]
              ]
            ]
          ]
        ]
      ]
    ]

-- bytes without a fault: their template, and what is known of them
pub record Sound (t : Template) (bytes : List ℕ) : Type 0 where
  pub long : 8 ≤ length bytes
  pub schema : u16_at 4 bytes ≡ 111
  pub here : template_of bytes ≡ Some t
  pub free : body_fault t bytes ≡ None

header_cases : (b c : Bool) (d f : Bad) (h : Header) (bytes : List ℕ) → header_fault (cond b (Err d) (cond c (Ok h) (Err f))) bytes ≡ None
    → (b ≡ false) × (c ≡ true) × (template_fault (template_of bytes) bytes ≡ None)
header_cases true c d f h bytes e = absurd cc
header_cases false true d f h bytes e = (refl, refl, e)
header_cases false false d f h bytes e = absurd cc

template_cases : (o : Option Template) (bytes : List ℕ) → template_fault o bytes ≡ None → (t : Template) × (o ≡ Some t) × (body_fault t bytes ≡ None)
template_cases None bytes e = absurd cc
template_cases (Some t) bytes e = (t, refl, e)

pub sound : (bytes : List ℕ) → first_fault bytes ≡ None → (t : Template) × Sound t bytes
unfolding first_fault
sound bytes e =
    let h = header_cases (nat_lt (length bytes) 8) (u16_at 4 bytes == 111) (bad (length bytes) causes.Short) (bad 4 causes.Schema) (numbers_of bytes) bytes e in
    let t = template_cases (template_of bytes) bytes h.2 in
    (t.0, record { long = ltb-false (length bytes) 8 h.0; schema = eqb-true (u16_at 4 bytes) 111 h.1; here = t.1; free = t.2 })

pub no_fault : (t : Template) (bytes : List ℕ) → Sound t bytes → first_fault bytes ≡ None
unfolding first_fault
no_fault t bytes s =
    let inner : header_of bytes ≡ Ok (numbers_of bytes) =
    cond-false (nat_lt (length bytes) 8) (Err (bad (length bytes) causes.Short)) (cond (u16_at 4 bytes == 111) (Ok (numbers_of bytes)) (Err (bad 4 causes.Schema))) (le-ltb (length bytes) 8 s.long)
    ∙ cond-true (u16_at 4 bytes == 111) (Ok (numbers_of bytes)) (Err (bad 4 causes.Schema)) (eq-eqb (u16_at 4 bytes) 111 s.schema) in
    ap (λ h. header_fault h bytes) inner ∙ ap (λ o. template_fault o bytes) s.here ∙ s.free

pub packet_there : (t : Template) (bytes : List ℕ) → Sound t bytes → packet_of bytes ≡ Some (value_of t bytes)
unfolding packet_of
packet_there t bytes s = ap (λ f. packet_from f (template_of bytes) bytes) (no_fault t bytes s) ∙ ap (λ o. packet_from None o bytes) s.here

-- what was found in the bytes one after the other
pub found_sound : (bytes : List ℕ) (h : Header) (t : Template) → header_of bytes ≡ Ok h → h ≡ numbers_of bytes → template_by h.template (is_announcement bytes) ≡ Some t → body_fault t bytes ≡ None → Sound t bytes
unfolding first_fault
found_sound bytes h t is_ok is is_template none =
    let here : template_of bytes ≡ Some t = ap (λ (k : Header). template_by k.template (is_announcement bytes)) (sym is) ∙ is_template in
    let free : first_fault bytes ≡ None = ap (λ r. header_fault r bytes) is_ok ∙ ap (λ o. template_fault o bytes) here ∙ none in
    let s = sound bytes free in
    record { long = s.1.long; schema = s.1.schema; here = here; free = none }

-- ---- what bytes without a fault spell

narrow_only : (n z : ℤ) → Between n n z → z ≡ n
narrow_only n z h = omega (arith, ints, h.0, h.1)

module _ (bytes : List ℕ) (fits : IsBytes bytes) where
  pub number_there : (t : Template) → Sound t bytes → u16_at 2 bytes ≡ number_of t
  number_there t s = template_number (u16_at 2 bytes) (is_announcement bytes) t s.here

  canvass_spells : Sound templates.Canvass bytes → HasSpelling (value_of templates.Canvass bytes) × (spelling_of (value_of templates.Canvass bytes) ≡ bytes)
  canvass_spells s =
      let p = strict_none (rules_of templates.Canvass) Nothing bytes s.free in
      ((p.pass.0, p.pass.1.0, p.pass.1.1.0, p.pass.1.1.1.0), spelled_by 50 (rules_of templates.Canvass) Nothing (fields_of (value_of templates.Canvass bytes)) bytes fits (number_there templates.Canvass s) s.schema p refl (refl, (refl, (refl, (refl, tt)))))

  request_vote_spells : Sound templates.RequestVote bytes → HasSpelling (value_of templates.RequestVote bytes) × (spelling_of (value_of templates.RequestVote bytes) ≡ bytes)
  request_vote_spells s =
      let p = strict_none (rules_of templates.RequestVote) Nothing bytes s.free in
      ((p.pass.0, p.pass.1.0, p.pass.1.1.0, p.pass.1.1.1.0), spelled_by 51 (rules_of templates.RequestVote) Nothing (fields_of (value_of templates.RequestVote bytes)) bytes fits (number_there templates.RequestVote s) s.schema p refl (refl, (refl, (refl, (refl, tt)))))

  vote_spells : Sound templates.Vote bytes → HasSpelling (value_of templates.Vote bytes) × (spelling_of (value_of templates.Vote bytes) ≡ bytes)
  vote_spells s =
      let p = strict_none (rules_of templates.Vote) Nothing bytes s.free in
      ((p.pass.0, p.pass.1.0, p.pass.1.1.0, p.pass.1.1.1.0, p.pass.1.1.1.1.0, p.pass.1.1.1.1.1.0), spelled_by 52 (rules_of templates.Vote) Nothing (fields_of (value_of templates.Vote bytes)) bytes fits (number_there templates.Vote s) s.schema p refl (refl, (refl, (refl, (refl, (refl, (refl, tt)))))))

  answer_spells : Sound templates.Answer bytes → HasSpelling (value_of templates.Answer bytes) × (spelling_of (value_of templates.Answer bytes) ≡ bytes)
  answer_spells s =
      let p = strict_none (rules_of templates.Answer) Nothing bytes s.free in
      ((inr (p.pass.0, p.pass.1.0, p.pass.1.1.0, p.pass.1.1.1.0), p.pass.1.1.1.1.0, p.pass.1.1.1.1.1.0), spelled_by 53 (rules_of templates.Answer) Nothing (fields_of (value_of templates.Answer bytes)) bytes fits (number_there templates.Answer s) s.schema p refl (refl, (refl, (refl, (refl, (refl, (refl, tt)))))))

  announcement_spells : Sound templates.Announcement bytes → HasSpelling (value_of templates.Announcement bytes) × (spelling_of (value_of templates.Announcement bytes) ≡ bytes)
  announcement_spells s =
      let p = strict_none (rules_of templates.Announcement) Nothing bytes s.free in
      ((inl (narrow_only (negsuc 1) (i64_at 8 bytes) p.pass.0, narrow_only (pos 0) (i64_at 16 bytes) p.pass.1.0, narrow_only (negsuc 0) (i64_at 24 bytes) p.pass.1.1.0, narrow_only (pos 0) (i64_at 32 bytes) p.pass.1.1.1.0), p.pass.1.1.1.1.0, p.pass.1.1.1.1.1.0), spelled_by 53 (rules_of templates.Announcement) Nothing (fields_of (value_of templates.Announcement bytes)) bytes fits (number_there templates.Announcement s) s.schema p refl (refl, (refl, (refl, (refl, (refl, (refl, tt)))))))

  append_spells : Sound templates.Append bytes → HasSpelling (value_of templates.Append bytes) × (spelling_of (value_of templates.Append bytes) ≡ bytes)
  append_spells s =
      let p = strict_none (rules_of templates.Append) Nothing bytes s.free in
      ((p.pass.0, p.pass.1.0, p.pass.1.1.0), spelled_by 54 (rules_of templates.Append) Nothing (fields_of (value_of templates.Append bytes)) bytes fits (number_there templates.Append s) s.schema p refl (refl, (refl, (refl, tt))))

  commit_spells : Sound templates.Commit bytes → HasSpelling (value_of templates.Commit bytes) × (spelling_of (value_of templates.Commit bytes) ≡ bytes)
  commit_spells s =
      let p = strict_none (rules_of templates.Commit) Nothing bytes s.free in
      ((p.pass.0, p.pass.1.0, p.pass.1.1.0), spelled_by 55 (rules_of templates.Commit) Nothing (fields_of (value_of templates.Commit bytes)) bytes fits (number_there templates.Commit s) s.schema p refl (refl, (refl, (refl, tt))))

-- ---- a spelling is read as the packet

number_fits : (z : ℤ) → IsNumber z → FitsSigned w64 z
number_fits z h = between_fits64 (pos 0) (pos (2 ^ 62)) z (omega (arith, ints)) (omega (arith, ints)) h

last_fits : (z : ℤ) → IsLast z → FitsSigned w64 z
last_fits z h = between_fits64 (negsuc 0) (pos (2 ^ 62)) z (omega (arith, ints)) (omega (arith, ints)) h

only_fits64 : (n z : ℤ) → negsuc (2 ^ 63 - 1) ≤ℤ n → n ≤ℤ pos (2 ^ 63 - 1) → z ≡ n → FitsSigned w64 z
only_fits64 n z a b is = between_fits64 n n z a b (omega (arith, ints, is), omega (arith, ints, is))

small_fits : (high z : ℤ) → high ≤ℤ pos 64 → Between (pos 0) high z → FitsSigned w32 z
small_fits high z a h = between_fits32 (pos 0) high z (omega (arith, ints)) (omega (arith, ints, a)) h

-- a range of the value that stands at a place
at : (low high z v : ℤ) → v ≡ z → Between low high z → Between low high v
at low high z v is h = subst (λ k. Between low high k) (sym is) h

single : (n v : ℤ) → v ≡ n → Between n n v
single n v is = (omega (arith, ints, is), omega (arith, ints, is))

-- what the spelling of a packet is: without a fault, and read as the packet
pub record Reread (p : Packet) (t : Template) : Type 0 where
  pub sound : Sound t (spelling_of p)
  pub value : value_of t (spelling_of p) ≡ p

not_asked : (z : ℤ) → IsLast z → int_eq z (negsuc 1) ≡ false
not_asked (pos n) h = refl
not_asked (negsuc zero) h = refl
not_asked (negsuc (suc n)) h = absurd (omega (arith, ints, h.0))

canvass_reread : (log_term log_position candidate_term member : ℤ) → HasSpelling (Canvass log_term log_position candidate_term member) → Reread (Canvass log_term log_position candidate_term member) templates.Canvass
canvass_reread log_term log_position candidate_term member h =
    let fs = fields_of (Canvass log_term log_position candidate_term member) in
    let bytes = (spelling_of (Canvass log_term log_position candidate_term member)) in
    let fit : AllFit (fields_of (Canvass log_term log_position candidate_term member)) = (last_fits log_term h.0, (number_fits log_position h.1, (last_fits candidate_term h.2, (small_fits (pos 4) member (omega (arith, ints)) h.3, tt)))) in
    let d : IsHeaded 50 (fields_of (Canvass log_term log_position candidate_term member)) (spelling_of (Canvass log_term log_position candidate_term member)) = is_headed 50 (fields_of (Canvass log_term log_position candidate_term member)) [] (omega arith) (omega arith) fit in
    let pass : AllPass (rules_of templates.Canvass) 8 (spelling_of (Canvass log_term log_position candidate_term member)) = (at (negsuc 0) (pos (2 ^ 62)) log_term (i64_at 8 (spelling_of (Canvass log_term log_position candidate_term member))) d.reads.0 h.0, (at (pos 0) (pos (2 ^ 62)) log_position (i64_at 16 (spelling_of (Canvass log_term log_position candidate_term member))) d.reads.1.0 h.1, (at (negsuc 0) (pos (2 ^ 62)) candidate_term (i64_at 24 (spelling_of (Canvass log_term log_position candidate_term member))) d.reads.1.1.0 h.2, (at (pos 0) (pos 4) member (i32_at 32 (spelling_of (Canvass log_term log_position candidate_term member))) d.reads.1.1.1.0 h.3, tt)))) in
    let strict : IsStrict (rules_of templates.Canvass) Nothing (spelling_of (Canvass log_term log_position candidate_term member)) = is_strict 50 (rules_of templates.Canvass) Nothing (fields_of (Canvass log_term log_position candidate_term member)) [] refl d pass refl in
    record {
      sound = record { long = omega (arith, strict.whole); schema = d.schema; here = ap (λ k. template_by k (is_announcement (spelling_of (Canvass log_term log_position candidate_term member)))) d.template; free = none_strict (rules_of templates.Canvass) Nothing (spelling_of (Canvass log_term log_position candidate_term member)) strict };
      value = cc (d.reads.0, d.reads.1.0, d.reads.1.1.0, d.reads.1.1.1.0);
    }

request_vote_reread : (log_term log_position candidate_term candidate : ℤ) → HasSpelling (RequestVote log_term log_position candidate_term candidate) → Reread (RequestVote log_term log_position candidate_term candidate) templates.RequestVote
request_vote_reread log_term log_position candidate_term candidate h =
    let fs = fields_of (RequestVote log_term log_position candidate_term candidate) in
    let bytes = (spelling_of (RequestVote log_term log_position candidate_term candidate)) in
    let fit : AllFit (fields_of (RequestVote log_term log_position candidate_term candidate)) = (last_fits log_term h.0, (number_fits log_position h.1, (number_fits candidate_term h.2, (small_fits (pos 4) candidate (omega (arith, ints)) h.3, tt)))) in
    let d : IsHeaded 51 (fields_of (RequestVote log_term log_position candidate_term candidate)) (spelling_of (RequestVote log_term log_position candidate_term candidate)) = is_headed 51 (fields_of (RequestVote log_term log_position candidate_term candidate)) [] (omega arith) (omega arith) fit in
    let pass : AllPass (rules_of templates.RequestVote) 8 (spelling_of (RequestVote log_term log_position candidate_term candidate)) = (at (negsuc 0) (pos (2 ^ 62)) log_term (i64_at 8 (spelling_of (RequestVote log_term log_position candidate_term candidate))) d.reads.0 h.0, (at (pos 0) (pos (2 ^ 62)) log_position (i64_at 16 (spelling_of (RequestVote log_term log_position candidate_term candidate))) d.reads.1.0 h.1, (at (pos 0) (pos (2 ^ 62)) candidate_term (i64_at 24 (spelling_of (RequestVote log_term log_position candidate_term candidate))) d.reads.1.1.0 h.2, (at (pos 0) (pos 4) candidate (i32_at 32 (spelling_of (RequestVote log_term log_position candidate_term candidate))) d.reads.1.1.1.0 h.3, tt)))) in
    let strict : IsStrict (rules_of templates.RequestVote) Nothing (spelling_of (RequestVote log_term log_position candidate_term candidate)) = is_strict 51 (rules_of templates.RequestVote) Nothing (fields_of (RequestVote log_term log_position candidate_term candidate)) [] refl d pass refl in
    record {
      sound = record { long = omega (arith, strict.whole); schema = d.schema; here = ap (λ k. template_by k (is_announcement (spelling_of (RequestVote log_term log_position candidate_term candidate)))) d.template; free = none_strict (rules_of templates.RequestVote) Nothing (spelling_of (RequestVote log_term log_position candidate_term candidate)) strict };
      value = cc (d.reads.0, d.reads.1.0, d.reads.1.1.0, d.reads.1.1.1.0);
    }

vote_reread : (candidate_term log_term log_position candidate follower vote : ℤ) → HasSpelling (Vote candidate_term log_term log_position candidate follower vote) → Reread (Vote candidate_term log_term log_position candidate follower vote) templates.Vote
vote_reread candidate_term log_term log_position candidate follower vote h =
    let fs = fields_of (Vote candidate_term log_term log_position candidate follower vote) in
    let bytes = (spelling_of (Vote candidate_term log_term log_position candidate follower vote)) in
    let fit : AllFit (fields_of (Vote candidate_term log_term log_position candidate follower vote)) = (number_fits candidate_term h.0, (last_fits log_term h.1, (number_fits log_position h.2, (small_fits (pos 4) candidate (omega (arith, ints)) h.3, (small_fits (pos 4) follower (omega (arith, ints)) h.4, (small_fits (pos 1) vote (omega (arith, ints)) h.5, tt)))))) in
    let d : IsHeaded 52 (fields_of (Vote candidate_term log_term log_position candidate follower vote)) (spelling_of (Vote candidate_term log_term log_position candidate follower vote)) = is_headed 52 (fields_of (Vote candidate_term log_term log_position candidate follower vote)) [] (omega arith) (omega arith) fit in
    let pass : AllPass (rules_of templates.Vote) 8 (spelling_of (Vote candidate_term log_term log_position candidate follower vote)) = (at (pos 0) (pos (2 ^ 62)) candidate_term (i64_at 8 (spelling_of (Vote candidate_term log_term log_position candidate follower vote))) d.reads.0 h.0, (at (negsuc 0) (pos (2 ^ 62)) log_term (i64_at 16 (spelling_of (Vote candidate_term log_term log_position candidate follower vote))) d.reads.1.0 h.1, (at (pos 0) (pos (2 ^ 62)) log_position (i64_at 24 (spelling_of (Vote candidate_term log_term log_position candidate follower vote))) d.reads.1.1.0 h.2, (at (pos 0) (pos 4) candidate (i32_at 32 (spelling_of (Vote candidate_term log_term log_position candidate follower vote))) d.reads.1.1.1.0 h.3, (at (pos 0) (pos 4) follower (i32_at 36 (spelling_of (Vote candidate_term log_term log_position candidate follower vote))) d.reads.1.1.1.1.0 h.4, (at (pos 0) (pos 1) vote (i32_at 40 (spelling_of (Vote candidate_term log_term log_position candidate follower vote))) d.reads.1.1.1.1.1.0 h.5, tt)))))) in
    let strict : IsStrict (rules_of templates.Vote) Nothing (spelling_of (Vote candidate_term log_term log_position candidate follower vote)) = is_strict 52 (rules_of templates.Vote) Nothing (fields_of (Vote candidate_term log_term log_position candidate follower vote)) [] refl d pass refl in
    record {
      sound = record { long = omega (arith, strict.whole); schema = d.schema; here = ap (λ k. template_by k (is_announcement (spelling_of (Vote candidate_term log_term log_position candidate follower vote)))) d.template; free = none_strict (rules_of templates.Vote) Nothing (spelling_of (Vote candidate_term log_term log_position candidate follower vote)) strict };
      value = cc (d.reads.0, d.reads.1.0, d.reads.1.1.0, d.reads.1.1.1.0, d.reads.1.1.1.1.0, d.reads.1.1.1.1.1.0);
    }

append_reread : (term position member : ℤ) → HasSpelling (Append term position member) → Reread (Append term position member) templates.Append
append_reread term position member h =
    let fs = fields_of (Append term position member) in
    let bytes = (spelling_of (Append term position member)) in
    let fit : AllFit (fields_of (Append term position member)) = (number_fits term h.0, (number_fits position h.1, (small_fits (pos 4) member (omega (arith, ints)) h.2, tt))) in
    let d : IsHeaded 54 (fields_of (Append term position member)) (spelling_of (Append term position member)) = is_headed 54 (fields_of (Append term position member)) [] (omega arith) (omega arith) fit in
    let pass : AllPass (rules_of templates.Append) 8 (spelling_of (Append term position member)) = (at (pos 0) (pos (2 ^ 62)) term (i64_at 8 (spelling_of (Append term position member))) d.reads.0 h.0, (at (pos 0) (pos (2 ^ 62)) position (i64_at 16 (spelling_of (Append term position member))) d.reads.1.0 h.1, (at (pos 0) (pos 4) member (i32_at 24 (spelling_of (Append term position member))) d.reads.1.1.0 h.2, tt))) in
    let strict : IsStrict (rules_of templates.Append) Nothing (spelling_of (Append term position member)) = is_strict 54 (rules_of templates.Append) Nothing (fields_of (Append term position member)) [] refl d pass refl in
    record {
      sound = record { long = omega (arith, strict.whole); schema = d.schema; here = ap (λ k. template_by k (is_announcement (spelling_of (Append term position member)))) d.template; free = none_strict (rules_of templates.Append) Nothing (spelling_of (Append term position member)) strict };
      value = cc (d.reads.0, d.reads.1.0, d.reads.1.1.0);
    }

commit_reread : (term position leader : ℤ) → HasSpelling (Commit term position leader) → Reread (Commit term position leader) templates.Commit
commit_reread term position leader h =
    let fs = fields_of (Commit term position leader) in
    let bytes = (spelling_of (Commit term position leader)) in
    let fit : AllFit (fields_of (Commit term position leader)) = (number_fits term h.0, (number_fits position h.1, (small_fits (pos 4) leader (omega (arith, ints)) h.2, tt))) in
    let d : IsHeaded 55 (fields_of (Commit term position leader)) (spelling_of (Commit term position leader)) = is_headed 55 (fields_of (Commit term position leader)) [] (omega arith) (omega arith) fit in
    let pass : AllPass (rules_of templates.Commit) 8 (spelling_of (Commit term position leader)) = (at (pos 0) (pos (2 ^ 62)) term (i64_at 8 (spelling_of (Commit term position leader))) d.reads.0 h.0, (at (pos 0) (pos (2 ^ 62)) position (i64_at 16 (spelling_of (Commit term position leader))) d.reads.1.0 h.1, (at (pos 0) (pos 4) leader (i32_at 24 (spelling_of (Commit term position leader))) d.reads.1.1.0 h.2, tt))) in
    let strict : IsStrict (rules_of templates.Commit) Nothing (spelling_of (Commit term position leader)) = is_strict 55 (rules_of templates.Commit) Nothing (fields_of (Commit term position leader)) [] refl d pass refl in
    record {
      sound = record { long = omega (arith, strict.whole); schema = d.schema; here = ap (λ k. template_by k (is_announcement (spelling_of (Commit term position leader)))) d.template; free = none_strict (rules_of templates.Commit) Nothing (spelling_of (Commit term position leader)) strict };
      value = cc (d.reads.0, d.reads.1.0, d.reads.1.1.0);
    }

answer_reread : (asked_term asked_position keep_term keep_position term leader : ℤ) → IsAnswer asked_term asked_position keep_term keep_position → IsNumber term → IsMember leader → Reread (NewTerm asked_term asked_position keep_term keep_position term leader) templates.Answer
answer_reread asked_term asked_position keep_term keep_position term leader h term_in leader_in =
    let fs = fields_of (NewTerm asked_term asked_position keep_term keep_position term leader) in
    let bytes = (spelling_of (NewTerm asked_term asked_position keep_term keep_position term leader)) in
    let fit : AllFit (fields_of (NewTerm asked_term asked_position keep_term keep_position term leader)) = (last_fits asked_term h.0, (number_fits asked_position h.1, (last_fits keep_term h.2, (number_fits keep_position h.3, (number_fits term term_in, (small_fits (pos 4) leader (omega (arith, ints)) leader_in, tt)))))) in
    let d : IsHeaded 53 (fields_of (NewTerm asked_term asked_position keep_term keep_position term leader)) (spelling_of (NewTerm asked_term asked_position keep_term keep_position term leader)) = is_headed 53 (fields_of (NewTerm asked_term asked_position keep_term keep_position term leader)) [] (omega arith) (omega arith) fit in
    let pass : AllPass (rules_of templates.Answer) 8 (spelling_of (NewTerm asked_term asked_position keep_term keep_position term leader)) = (at (negsuc 0) (pos (2 ^ 62)) asked_term (i64_at 8 (spelling_of (NewTerm asked_term asked_position keep_term keep_position term leader))) d.reads.0 h.0, (at (pos 0) (pos (2 ^ 62)) asked_position (i64_at 16 (spelling_of (NewTerm asked_term asked_position keep_term keep_position term leader))) d.reads.1.0 h.1, (at (negsuc 0) (pos (2 ^ 62)) keep_term (i64_at 24 (spelling_of (NewTerm asked_term asked_position keep_term keep_position term leader))) d.reads.1.1.0 h.2, (at (pos 0) (pos (2 ^ 62)) keep_position (i64_at 32 (spelling_of (NewTerm asked_term asked_position keep_term keep_position term leader))) d.reads.1.1.1.0 h.3, (at (pos 0) (pos (2 ^ 62)) term (i64_at 40 (spelling_of (NewTerm asked_term asked_position keep_term keep_position term leader))) d.reads.1.1.1.1.0 term_in, (at (pos 0) (pos 4) leader (i32_at 48 (spelling_of (NewTerm asked_term asked_position keep_term keep_position term leader))) d.reads.1.1.1.1.1.0 leader_in, tt)))))) in
    let strict : IsStrict (rules_of templates.Answer) Nothing (spelling_of (NewTerm asked_term asked_position keep_term keep_position term leader)) = is_strict 53 (rules_of templates.Answer) Nothing (fields_of (NewTerm asked_term asked_position keep_term keep_position term leader)) [] refl d pass refl in
    record {
      sound = record { long = omega (arith, strict.whole); schema = d.schema; here = ap (λ k. template_by k (is_announcement (spelling_of (NewTerm asked_term asked_position keep_term keep_position term leader)))) d.template ∙ ap (λ a. template_by 53 a) (and_right (nat_le 16 (length (spelling_of (NewTerm asked_term asked_position keep_term keep_position term leader)))) (int_eq (i64_at 8 (spelling_of (NewTerm asked_term asked_position keep_term keep_position term leader))) (negsuc 1)) (ap (λ z. int_eq z (negsuc 1)) d.reads.0 ∙ not_asked asked_term h.0)); free = none_strict (rules_of templates.Answer) Nothing (spelling_of (NewTerm asked_term asked_position keep_term keep_position term leader)) strict };
      value = cc (d.reads.0, d.reads.1.0, d.reads.1.1.0, d.reads.1.1.1.0, d.reads.1.1.1.1.0, d.reads.1.1.1.1.1.0);
    }

announcement_reread : (asked_term asked_position keep_term keep_position term leader : ℤ) → IsUnasked asked_term asked_position keep_term keep_position → IsNumber term → IsMember leader → Reread (NewTerm asked_term asked_position keep_term keep_position term leader) templates.Announcement
announcement_reread asked_term asked_position keep_term keep_position term leader h term_in leader_in =
    let fs = fields_of (NewTerm asked_term asked_position keep_term keep_position term leader) in
    let bytes = (spelling_of (NewTerm asked_term asked_position keep_term keep_position term leader)) in
    let fit : AllFit (fields_of (NewTerm asked_term asked_position keep_term keep_position term leader)) = (only_fits64 (negsuc 1) asked_term (omega (arith, ints)) (omega (arith, ints)) h.0, (only_fits64 (pos 0) asked_position (omega (arith, ints)) (omega (arith, ints)) h.1, (only_fits64 (negsuc 0) keep_term (omega (arith, ints)) (omega (arith, ints)) h.2, (only_fits64 (pos 0) keep_position (omega (arith, ints)) (omega (arith, ints)) h.3, (number_fits term term_in, (small_fits (pos 4) leader (omega (arith, ints)) leader_in, tt)))))) in
    let d : IsHeaded 53 (fields_of (NewTerm asked_term asked_position keep_term keep_position term leader)) (spelling_of (NewTerm asked_term asked_position keep_term keep_position term leader)) = is_headed 53 (fields_of (NewTerm asked_term asked_position keep_term keep_position term leader)) [] (omega arith) (omega arith) fit in
    let pass : AllPass (rules_of templates.Announcement) 8 (spelling_of (NewTerm asked_term asked_position keep_term keep_position term leader)) = (single (negsuc 1) (i64_at 8 (spelling_of (NewTerm asked_term asked_position keep_term keep_position term leader))) (d.reads.0 ∙ h.0), (single (pos 0) (i64_at 16 (spelling_of (NewTerm asked_term asked_position keep_term keep_position term leader))) (d.reads.1.0 ∙ h.1), (single (negsuc 0) (i64_at 24 (spelling_of (NewTerm asked_term asked_position keep_term keep_position term leader))) (d.reads.1.1.0 ∙ h.2), (single (pos 0) (i64_at 32 (spelling_of (NewTerm asked_term asked_position keep_term keep_position term leader))) (d.reads.1.1.1.0 ∙ h.3), (at (pos 0) (pos (2 ^ 62)) term (i64_at 40 (spelling_of (NewTerm asked_term asked_position keep_term keep_position term leader))) d.reads.1.1.1.1.0 term_in, (at (pos 0) (pos 4) leader (i32_at 48 (spelling_of (NewTerm asked_term asked_position keep_term keep_position term leader))) d.reads.1.1.1.1.1.0 leader_in, tt)))))) in
    let strict : IsStrict (rules_of templates.Announcement) Nothing (spelling_of (NewTerm asked_term asked_position keep_term keep_position term leader)) = is_strict 53 (rules_of templates.Announcement) Nothing (fields_of (NewTerm asked_term asked_position keep_term keep_position term leader)) [] refl d pass refl in
    record {
      sound = record { long = omega (arith, strict.whole); schema = d.schema; here = ap (λ k. template_by k (is_announcement (spelling_of (NewTerm asked_term asked_position keep_term keep_position term leader)))) d.template ∙ ap (λ a. template_by 53 a) (and_from (nat_le 16 (length (spelling_of (NewTerm asked_term asked_position keep_term keep_position term leader)))) (int_eq (i64_at 8 (spelling_of (NewTerm asked_term asked_position keep_term keep_position term leader))) (negsuc 1)) (le-leb 16 (length (spelling_of (NewTerm asked_term asked_position keep_term keep_position term leader))) (omega (arith, strict.whole))) (ap (λ z. int_eq z (negsuc 1)) (d.reads.0 ∙ h.0))); free = none_strict (rules_of templates.Announcement) Nothing (spelling_of (NewTerm asked_term asked_position keep_term keep_position term leader)) strict };
      value = cc (d.reads.0, d.reads.1.0, d.reads.1.1.0, d.reads.1.1.1.0, d.reads.1.1.1.1.0, d.reads.1.1.1.1.1.0);
    }

-- ---- batches

or_none : (a b : Option Bad) → (a or_else b) ≡ None → (a ≡ None) × (b ≡ None)
or_none None b e = (refl, e)
or_none (Some x) b e = absurd cc

or_both : (a b : Option Bad) → a ≡ None → b ≡ None → (a or_else b) ≡ None
or_both None b p q = q
or_both (Some x) b p q = absurd cc

unless_none : (b : Bool) (f : Bad) → unless b f ≡ None → b ≡ true
unless_none true f e = refl
unless_none false f e = absurd cc

unless_true : (b : Bool) (f : Bad) → b ≡ true → unless b f ≡ None
unless_true true f e = refl
unless_true false f e = absurd cc

pub in_range : (z : ℤ) → Between (pos 1) (pos 64) z → (int_le (pos 1) z && int_le z (pos 64)) ≡ true
in_range z h = and_from (int_le (pos 1) z) (int_le z (pos 64)) (true_from (int_le (pos 1) z) h.0.le) (true_from (int_le z (pos 64)) h.1.le)

count_back : (z : ℤ) → Between (pos 1) (pos 64) z → (1 ≤ unsigned_abs z) × (unsigned_abs z ≤ 64) × (z ≡ pos (unsigned_abs z))
count_back (pos n) h = (omega (arith, ints, h.0), omega (arith, ints, h.1), refl)
count_back (negsuc n) h = absurd (omega (arith, ints, h.0))

-- a batch without a fault
pub record IsBatch (bytes : List ℕ) : Type 0 where
  pub strict : IsStrict (rules_of templates.LogBatch) (Rest (length bytes)) bytes
  pub parts : parts_there (count_of bytes) 32 bytes ≡ true
  pub events : events_fault (count_of bytes) 32 bytes ≡ None
  pub ends : length bytes ≡ parts_end (count_of bytes) 32 bytes

counted_parts : (c p : Bool) → (not c || p) ≡ true → c ≡ true → p ≡ true
counted_parts true p e h = e
counted_parts false p e h = absurd cc

module _ (bytes : List ℕ) where
  abbrev f0 : Option Bad
  f0 = unless (u16_at 0 bytes == 24) (bad 0 causes.Block)

  abbrev f1 : Option Bad
  f1 = unless (nat_le 32 (length bytes)) (bad (length bytes) causes.Short)

  abbrev f2 : Option Bad
  f2 = unless (not (counts bytes) || parts_there (count_of bytes) 32 bytes) (bad (length bytes) causes.Short)

  abbrev f3 : Option Bad
  f3 = unless (u16_at 6 bytes == 0) (bad 6 causes.Value)

  abbrev f4 : Option Bad
  f4 = rules_fault (rules_of templates.LogBatch) 8 bytes

  abbrev f5 : Option Bad
  f5 = events_fault (count_of bytes) 32 bytes

  abbrev f6 : Option Bad
  f6 = unless (nat_le (length bytes) (parts_end (count_of bytes) 32 bytes)) (bad (parts_end (count_of bytes) 32 bytes) causes.Trailing)

  pub is_batch : batch_fault bytes ≡ None → IsBatch bytes
  unfolding batch_fault strict_fault
  is_batch e =
      let e6 = or_none (f0 or_else f1 or_else f2 or_else f3 or_else f4 or_else f5) f6 e in
      let e5 = or_none (f0 or_else f1 or_else f2 or_else f3 or_else f4) f5 e6.0 in
      let e4 = or_none (f0 or_else f1 or_else f2 or_else f3) f4 e5.0 in
      let e3 = or_none (f0 or_else f1 or_else f2) f3 e4.0 in
      let e2 = or_none (f0 or_else f1) f2 e3.0 in
      let e1 = or_none f0 f1 e2.0 in
      let whole : 32 ≤ length bytes = leb-true 32 (length bytes) (unless_none (nat_le 32 (length bytes)) (bad (length bytes) causes.Short) e1.1) in
      let tail : nat_le (length bytes - 32) (length bytes) ≡ true = le-leb (length bytes - 32) (length bytes) (omega arith) in
      let strict : IsStrict (rules_of templates.LogBatch) (Rest (length bytes)) bytes =
      strict_none (rules_of templates.LogBatch) (Rest (length bytes)) bytes
      (or_both (f0 or_else f1 or_else unless true (bad (length bytes) causes.Short) or_else f3 or_else f4) (unless (nat_le (length bytes - 32) (length bytes)) (bad 32 causes.Value))
      (or_both (f0 or_else f1 or_else unless true (bad (length bytes) causes.Short) or_else f3) f4 (or_both (f0 or_else f1 or_else unless true (bad (length bytes) causes.Short)) f3 (or_both (f0 or_else f1) (unless true (bad (length bytes) causes.Short)) e2.0 refl) e3.1) e4.1)
      (unless_true (nat_le (length bytes - 32) (length bytes)) (bad 32 causes.Value) tail)) in
      let count : counts bytes ≡ true = in_range (i32_at 28 bytes) strict.pass.1.1.1.0 in
      let parts : parts_there (count_of bytes) 32 bytes ≡ true = counted_parts (counts bytes) (parts_there (count_of bytes) 32 bytes) (unless_none (not (counts bytes) || parts_there (count_of bytes) 32 bytes) (bad (length bytes) causes.Short) e2.1) count in
      let inside : parts_end (count_of bytes) 32 bytes ≤ length bytes = parts_within (count_of bytes) 32 bytes whole parts in
      record {
        strict = strict;
        parts = parts;
        events = e5.1;
        ends = omega (arith, inside, leb-true (length bytes) (parts_end (count_of bytes) 32 bytes) (unless_none (nat_le (length bytes) (parts_end (count_of bytes) 32 bytes)) (bad (parts_end (count_of bytes) 32 bytes) causes.Trailing) e6.1));
      }

  pub log_batch_spells : IsBytes bytes → Sound templates.LogBatch bytes → HasSpelling (value_of templates.LogBatch bytes) × (spelling_of (value_of templates.LogBatch bytes) ≡ bytes)
  log_batch_spells fits s =
      let b = is_batch s.free in
      let p = b.strict in
      let n = count_of bytes in
      let back = count_back (i32_at 28 bytes) p.pass.1.1.1.0 in
      let size : length (entries_at (count_of bytes) 32 bytes) ≡ count_of bytes = length-entries_at (count_of bytes) 32 bytes in
      let named : i32_at 28 bytes ≡ pos (length (entries_at (count_of bytes) 32 bytes)) = back.2 ∙ ap pos (sym size) in
      let whole = spelled_by 120 (rules_of templates.LogBatch) (Rest (length bytes)) (fields_of (value_of templates.LogBatch bytes)) bytes fits (number_there bytes fits templates.LogBatch s) s.schema p refl (refl, (refl, (refl, (named, tt)))) in
      let body : entries_bytes (entries_at (count_of bytes) 32 bytes) ≡ drop 32 bytes =
      sym (append-nil (entries_bytes (entries_at (count_of bytes) 32 bytes))) ∙ ap (λ l. entries_bytes (entries_at (count_of bytes) 32 bytes) ++ l) (sym (drop_all (parts_end (count_of bytes) 32 bytes) bytes (omega (arith, b.ends))))
      ∙ parts_spelled bytes fits (count_of bytes) 32 b.parts in (
        (p.pass.0, p.pass.1.0, p.pass.1.1.0, omega (arith, back.0, size), omega (arith, back.1, size), parts_entries bytes fits (count_of bytes) 32 b.parts b.events),
        ap (λ l. message 120 (fields_of (value_of templates.LogBatch bytes)) ++ l) body ∙ whole,
      )

pub value_spells : (bytes : List ℕ) → IsBytes bytes → (t : Template) → Sound t bytes → HasSpelling (value_of t bytes) × (spelling_of (value_of t bytes) ≡ bytes)
value_spells bytes fits templates.Canvass s = canvass_spells bytes fits s
value_spells bytes fits templates.RequestVote s = request_vote_spells bytes fits s
value_spells bytes fits templates.Vote s = vote_spells bytes fits s
value_spells bytes fits templates.Answer s = answer_spells bytes fits s
value_spells bytes fits templates.Announcement s = announcement_spells bytes fits s
value_spells bytes fits templates.Append s = append_spells bytes fits s
value_spells bytes fits templates.Commit s = commit_spells bytes fits s
value_spells bytes fits templates.LogBatch s = log_batch_spells bytes fits s

none_batch : (bytes : List ℕ) → u16_at 0 bytes ≡ 24 → 32 ≤ length bytes → parts_there (count_of bytes) 32 bytes ≡ true → u16_at 6 bytes ≡ 0 → AllPass (rules_of templates.LogBatch) 8 bytes
    → events_fault (count_of bytes) 32 bytes ≡ None → parts_end (count_of bytes) 32 bytes ≡ length bytes → batch_fault bytes ≡ None
unfolding batch_fault
none_batch bytes block whole parts version pass free ends =
    or_both (f0 bytes or_else f1 bytes or_else f2 bytes or_else f3 bytes or_else f4 bytes or_else f5 bytes) (f6 bytes)
    (or_both (f0 bytes or_else f1 bytes or_else f2 bytes or_else f3 bytes or_else f4 bytes) (f5 bytes)
    (or_both (f0 bytes or_else f1 bytes or_else f2 bytes or_else f3 bytes) (f4 bytes)
    (or_both (f0 bytes or_else f1 bytes or_else f2 bytes) (f3 bytes)
    (or_both (f0 bytes or_else f1 bytes) (f2 bytes)
    (or_both (f0 bytes) (f1 bytes) (unless_true (u16_at 0 bytes == 24) (bad 0 causes.Block) (eq-eqb (u16_at 0 bytes) 24 block))
    (unless_true (nat_le 32 (length bytes)) (bad (length bytes) causes.Short) (le-leb 32 (length bytes) whole)))
    (unless_true (not (counts bytes) || parts_there (count_of bytes) 32 bytes) (bad (length bytes) causes.Short) (or_right (not (counts bytes)) (parts_there (count_of bytes) 32 bytes) parts)))
    (unless_true (u16_at 6 bytes == 0) (bad 6 causes.Value) (eq-eqb (u16_at 6 bytes) 0 version)))
    (none_fails (rules_of templates.LogBatch) 8 bytes pass))
    free)
    (unless_true (nat_le (length bytes) (parts_end (count_of bytes) 32 bytes)) (bad (parts_end (count_of bytes) 32 bytes) causes.Trailing) (le-leb (length bytes) (parts_end (count_of bytes) 32 bytes) (omega (arith, ends))))

log_batch_reread : (term start_position leader : ℤ) (entries : List Entry) → HasSpelling (LogBatch term start_position leader entries) → Reread (LogBatch term start_position leader entries) templates.LogBatch
log_batch_reread term start_position leader entries h =
    let fit : AllFit (fields_of (LogBatch term start_position leader entries)) = (number_fits term h.0, (number_fits start_position h.1, (small_fits (pos 4) leader (omega (arith, ints)) h.2, (record { sfits = omega (arith, h.4) }, tt)))) in
    let d : IsHeaded 120 (fields_of (LogBatch term start_position leader entries)) (spelling_of (LogBatch term start_position leader entries)) = is_headed 120 (fields_of (LogBatch term start_position leader entries)) (entries_bytes entries) (omega arith) (omega arith) fit in
    let front : length (message 120 (fields_of (LogBatch term start_position leader entries))) ≡ 32 = length-message 120 (fields_of (LogBatch term start_position leader entries)) in
    let stand : Stand entries 32 (spelling_of (LogBatch term start_position leader entries)) = entries_stand entries (message 120 (fields_of (LogBatch term start_position leader entries))) 32 front h.5 in
    let count : count_of (spelling_of (LogBatch term start_position leader entries)) ≡ length entries = ap unsigned_abs d.reads.1.1.1.0 in
    let whole : 32 ≤ length (spelling_of (LogBatch term start_position leader entries)) = omega (arith, front, length-append (message 120 (fields_of (LogBatch term start_position leader entries))) (entries_bytes entries)) in
    let pass : AllPass (rules_of templates.LogBatch) 8 (spelling_of (LogBatch term start_position leader entries)) = (
      at (pos 0) (pos (2 ^ 62)) term (i64_at 8 (spelling_of (LogBatch term start_position leader entries))) d.reads.0 h.0,
      (
        at (pos 0) (pos (2 ^ 62)) start_position (i64_at 16 (spelling_of (LogBatch term start_position leader entries))) d.reads.1.0 h.1,
        (
          at (pos 0) (pos 4) leader (i32_at 24 (spelling_of (LogBatch term start_position leader entries))) d.reads.1.1.0 h.2,
          (at (pos 1) (pos 64) (pos (length entries)) (i32_at 28 (spelling_of (LogBatch term start_position leader entries))) d.reads.1.1.1.0 (omega (arith, ints, h.3), omega (arith, ints, h.4)), tt),
        ),
      ),
    ) in
    let free : batch_fault (spelling_of (LogBatch term start_position leader entries)) ≡ None =
    none_batch (spelling_of (LogBatch term start_position leader entries)) d.block whole (ap (λ n. parts_there n 32 (spelling_of (LogBatch term start_position leader entries))) count ∙ stand.there) d.version pass (ap (λ n. events_fault n 32 (spelling_of (LogBatch term start_position leader entries))) count ∙ stand.free)
    (ap (λ n. parts_end n 32 (spelling_of (LogBatch term start_position leader entries))) count ∙ stand.ends) in
    record {
      sound = record { long = omega (arith, whole); schema = d.schema; here = ap (λ k. template_by k (is_announcement (spelling_of (LogBatch term start_position leader entries)))) d.template; free = free };
      value = cc (d.reads.0, d.reads.1.0, d.reads.1.1.0, ap (λ n. entries_at n 32 (spelling_of (LogBatch term start_position leader entries))) count, stand.same);
    }

new_term_reread : (asked_term asked_position keep_term keep_position term leader : ℤ) → IsUnasked asked_term asked_position keep_term keep_position ⊎ IsAnswer asked_term asked_position keep_term keep_position → IsNumber term → IsMember leader
    → (t : Template) × Reread (NewTerm asked_term asked_position keep_term keep_position term leader) t
new_term_reread asked_term asked_position keep_term keep_position term leader (inl unasked) i j = (templates.Announcement, announcement_reread asked_term asked_position keep_term keep_position term leader unasked i j)
new_term_reread asked_term asked_position keep_term keep_position term leader (inr answer) i j = (templates.Answer, answer_reread asked_term asked_position keep_term keep_position term leader answer i j)

-- each packet's spelling is without a fault, and read as the packet
pub reread : (p : Packet) → HasSpelling p → (t : Template) × Reread p t
reread (Canvass log_term log_position candidate_term member) h = (templates.Canvass, canvass_reread log_term log_position candidate_term member h)
reread (RequestVote log_term log_position candidate_term candidate) h = (templates.RequestVote, request_vote_reread log_term log_position candidate_term candidate h)
reread (Vote candidate_term log_term log_position candidate follower vote) h = (templates.Vote, vote_reread candidate_term log_term log_position candidate follower vote h)
reread (Append term position member) h = (templates.Append, append_reread term position member h)
reread (Commit term position leader) h = (templates.Commit, commit_reread term position leader h)
reread (NewTerm asked_term asked_position keep_term keep_position term leader) h = new_term_reread asked_term asked_position keep_term keep_position term leader h.0 h.1 h.2
reread (LogBatch term start_position leader entries) h = (templates.LogBatch, log_batch_reread term start_position leader entries h)

-- what spells a packet has no fault
pub spelling_fault : (p : Packet) → HasSpelling p → first_fault (spelling_of p) ≡ None
spelling_fault p h = let r = reread p h in no_fault r.0 (spelling_of p) r.1.sound

-- what spells a packet is read as this packet
pub encoded : (p : Packet) → HasSpelling p → packet_of (spelling_of p) ≡ Some p
encoded p h = let r = reread p h in packet_there r.0 (spelling_of p) r.1.sound ∙ ap (λ v. Some v) r.1.value

abbrev some : Packet → Option Packet
some p = Some p

some_is : (a b : Packet) → some a ≡ some b → a ≡ b
some_is a b e = cc

-- no two packets have one spelling
pub apart : (a b : Packet) → HasSpelling a → HasSpelling b → spelling_of a ≡ spelling_of b → a ≡ b
apart a b ha hb e = some_is a b (sym (encoded a ha) ∙ ap packet_of e ∙ encoded b hb)
