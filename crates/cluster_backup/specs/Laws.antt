-- What bytes spell is spelled by them alone.
use Rattle.std.proofs.Common.{◌≡◌, ◌⊎◌, inl, inr, ℕ, ◌+◌, ◌-◌, ◌<◌, ◌≤◌, ◌^◌, ℤ, pos, negsuc, ◌≤ℤ◌, Bool, true, false, cond, not, ◌&&◌, ◌||◌, List, [], ◌∷◌, ◌++◌, length, drop, Option, Some, None, Ok, Err, FitsSigned, w32, w64, refl, sym, ◌∙◌, ap, subst, arith}
use Rattle.std.specs.Prelude.{int_le, nat_le, nat_lt, ◌==◌, unsigned_abs}
use Rattle.std.proofs.lemmas.Bool.{cond-true, cond-false, and_from, or_right, leb-true, le-leb, eqb-true, eq-eqb, ltb-false, le-ltb}
use Rattle.std.proofs.lemmas.List.{append-nil, length-append, drop_all}
use Rattle.std.proofs.lemmas.Int.{ints}
use Rattle.wire_prims.specs.Fields.{u16_at, i32_at, i64_at, i32_at-fits, i64_at-fits, IsBytes}
use Rattle.wire_prims.specs.Header.{bad, numbers_of, header_of}
use Rattle.wire_prims.specs.Strict.{message, strict_fault, rules_fault, unless, ◌or_else◌}
use Rattle.wire_prims.specs.StrictLaws.{Between, AllPass, AllFit, IsStrict, strict_none, none_strict, spelled_by, none_fails, IsHeaded, is_headed, is_strict, length-message, between_fits64, between_fits32, true_from}
use Rattle.wire_prims.specs.declared.fault.Bad.{Bad}
use Rattle.wire_prims.specs.declared.fault.BadCause.TheVariants as causes
use Rattle.wire_prims.specs.declared.header.Header.{Header}
use Rattle.wire_prims.specs.declared.strict.Tail.TheVariants.{Nothing, Rest}
use Rattle.sbe_consensus.specs.Spelling.{IsNumber, IsLast, parts_there, parts_end}
use Rattle.sbe_consensus.specs.BatchLaws.{or_none, parts_within}
use Rattle.snapshot_store.specs.Snapshots.{spelled}
use Rattle.cluster_backup.specs.Templates.{number_of, template_by, template_of, query_rules, rules_in, block, least, most}
use Rattle.cluster_backup.specs.PartLaws.{length-parts_at, parts_spelled, parts_are, Stand, parts_stand}
use Rattle.cluster_backup.specs.Spelling.{AreParts, HasSpelling, fields_of, spelling_of, parts_fault, parts_at, count_in, count_of, counts, front, has_parts, end_of, counted_fault, body_fault, template_fault, header_fault, first_fault, value_of, packet_from, packet_of}
use Rattle.cluster_backup.specs.declared.part.Part.{Part}
use Rattle.cluster_backup.specs.declared.part.Part.TheVariants as part
use Rattle.cluster_backup.specs.declared.template.Template.{Template}
use Rattle.cluster_backup.specs.declared.template.Template.TheVariants as templates
use Rattle.cluster_backup.specs.declared.packet.BackupPacket.{BackupPacket}
use Rattle.cluster_backup.specs.declared.packet.BackupPacket.TheVariants.{Query, Log, Snapshot}

cond_some : {A : Type 0} (b : Bool) (y t : A) (x : Option A) → cond b (Some y) x ≡ Some t → ((b ≡ true) × (y ≡ t)) ⊎ (x ≡ Some t)
cond_some true y t x e = inl (refl, cc)
cond_some false y t x e = inr e

found : (n k : ℕ) (u t : Template) → number_of u ≡ k → ((n == k) ≡ true) × (u ≡ t) → n ≡ number_of t
found n k u t is h = eqb-true n k h.0 ∙ sym is ∙ ap number_of h.1

pub numbered : (n : ℕ) (t : Template) → template_by n ≡ Some t → n ≡ number_of t
numbered n t e =
    let c3 : Option Template = cond (n == 58) (Some templates.Snapshot) None in
    let c2 : Option Template = cond (n == 57) (Some templates.Log) c3 in
    elim (cond_some (n == 56) templates.Query t c2 e) [
      | inl h ↦ found n 56 templates.Query t refl h
      | inr e2 ↦ elim (cond_some (n == 57) templates.Log t c3 e2) [
        | inl h ↦ found n 57 templates.Log t refl h
        | inr e3 ↦ elim (cond_some (n == 58) templates.Snapshot t None e3) [
          | inl h ↦ found n 58 templates.Snapshot t refl h
          | inr e4 ↦ absurd cc
        ]
      ]
    ]

-- bytes without a fault: their template, and what is known of them
pub record Sound (t : Template) (bytes : List ℕ) : Type 0 where
  pub long : 8 ≤ length bytes
  pub schema : u16_at 4 bytes ≡ 111
  pub here : template_of bytes ≡ Some t
  pub free : body_fault t bytes ≡ None

header_cases : (b c : Bool) (d f : Bad) (h : Header) (bytes : List ℕ) → header_fault (cond b (Err d) (cond c (Ok h) (Err f))) bytes ≡ None
    → (b ≡ false) × (c ≡ true) × (template_fault (template_of bytes) bytes ≡ None)
header_cases true c d f h bytes e = absurd cc
header_cases false true d f h bytes e = (refl, refl, e)
header_cases false false d f h bytes e = absurd cc

template_cases : (o : Option Template) (bytes : List ℕ) → template_fault o bytes ≡ None → (t : Template) × (o ≡ Some t) × (body_fault t bytes ≡ None)
template_cases None bytes e = absurd cc
template_cases (Some t) bytes e = (t, refl, e)

pub sound : (bytes : List ℕ) → first_fault bytes ≡ None → (t : Template) × Sound t bytes
unfolding first_fault
sound bytes e =
    let h = header_cases (nat_lt (length bytes) 8) (u16_at 4 bytes == 111) (bad (length bytes) causes.Short) (bad 4 causes.Schema) (numbers_of bytes) bytes e in
    let t = template_cases (template_of bytes) bytes h.2 in
    (t.0, record { long = ltb-false (length bytes) 8 h.0; schema = eqb-true (u16_at 4 bytes) 111 h.1; here = t.1; free = t.2 })

pub no_fault : (t : Template) (bytes : List ℕ) → Sound t bytes → first_fault bytes ≡ None
unfolding first_fault
no_fault t bytes s =
    let inner : header_of bytes ≡ Ok (numbers_of bytes) =
    cond-false (nat_lt (length bytes) 8) (Err (bad (length bytes) causes.Short)) (cond (u16_at 4 bytes == 111) (Ok (numbers_of bytes)) (Err (bad 4 causes.Schema))) (le-ltb (length bytes) 8 s.long)
    ∙ cond-true (u16_at 4 bytes == 111) (Ok (numbers_of bytes)) (Err (bad 4 causes.Schema)) (eq-eqb (u16_at 4 bytes) 111 s.schema) in
    ap (λ h. header_fault h bytes) inner ∙ ap (λ o. template_fault o bytes) s.here ∙ s.free

pub packet_there : (t : Template) (bytes : List ℕ) → Sound t bytes → packet_of bytes ≡ Some (value_of t bytes)
unfolding packet_of
packet_there t bytes s = ap (λ f. packet_from f (template_of bytes) bytes) (no_fault t bytes s) ∙ ap (λ o. packet_from None o bytes) s.here

-- what was found in the bytes one after the other
pub found_sound : (bytes : List ℕ) (h : Header) (t : Template) → header_of bytes ≡ Ok h → h ≡ numbers_of bytes → template_by h.template ≡ Some t → body_fault t bytes ≡ None → Sound t bytes
unfolding first_fault
found_sound bytes h t is_ok is is_template none =
    let here : template_of bytes ≡ Some t = ap (λ (k : Header). template_by k.template) (sym is) ∙ is_template in
    let free : first_fault bytes ≡ None = ap (λ r. header_fault r bytes) is_ok ∙ ap (λ o. template_fault o bytes) here ∙ none in
    let s = sound bytes free in
    record { long = s.1.long; schema = s.1.schema; here = here; free = none }

-- the fault that was found past the header
pub fault_past : (bytes : List ℕ) (h : Header) (o : Option Template) → header_of bytes ≡ Ok h → h ≡ numbers_of bytes → template_by h.template ≡ o → first_fault bytes ≡ template_fault o bytes
unfolding first_fault
fault_past bytes h o is_ok is is_template =
    let here : template_of bytes ≡ o = ap (λ (k : Header). template_by k.template) (sym is) ∙ is_template in
    ap (λ r. header_fault r bytes) is_ok ∙ ap (λ o. template_fault o bytes) here

-- ---- packets with parts

or_both : (a b : Option Bad) → a ≡ None → b ≡ None → (a or_else b) ≡ None
or_both None b p q = q
or_both (Some x) b p q = absurd cc

unless_none : (b : Bool) (f : Bad) → unless b f ≡ None → b ≡ true
unless_none true f e = refl
unless_none false f e = absurd cc

unless_true : (b : Bool) (f : Bad) → b ≡ true → unless b f ≡ None
unless_true true f e = refl
unless_true false f e = absurd cc

counted_parts : (c p : Bool) → (not c || p) ≡ true → c ≡ true → p ≡ true
counted_parts true p e h = e
counted_parts false p e h = absurd cc

-- the count of a block that its rules allow
pub count_between : (k : Part) (bytes : List ℕ) → AllPass (rules_in k) 8 bytes → Between (least k) (most k) (count_in k bytes)
count_between part.Event bytes p = p.1.0
count_between part.Piece bytes p = p.1.1.1.1.1.0

pub in_range : (k : Part) (bytes : List ℕ) → AllPass (rules_in k) 8 bytes → counts k bytes ≡ true
in_range k bytes p =
    let h = count_between k bytes p in
    and_from (int_le (least k) (count_in k bytes)) (int_le (count_in k bytes) (most k)) (true_from (int_le (least k) (count_in k bytes)) h.0.le) (true_from (int_le (count_in k bytes) (most k)) h.1.le)

least_low : (k : Part) → pos 0 ≤ℤ least k
least_low part.Event = omega (arith, ints)
least_low part.Piece = omega (arith, ints)

positive : (z : ℤ) → pos 0 ≤ℤ z → z ≡ pos (unsigned_abs z)
positive (pos n) h = refl
positive (negsuc n) h = absurd (omega (arith, ints, h))

-- a packet with parts that has no fault
pub record IsCounted (k : Part) (bytes : List ℕ) : Type 0 where
  pub strict : IsStrict (rules_in k) (Rest (length bytes)) bytes
  pub there : has_parts k bytes ≡ true
  pub parts : parts_fault k (count_of k bytes) (front k) bytes ≡ None
  pub ends : length bytes ≡ end_of k bytes
  pub count : count_in k bytes ≡ pos (count_of k bytes)

module _ (k : Part) (bytes : List ℕ) where
  abbrev f0 : Option Bad
  f0 = unless (u16_at 0 bytes == block k) (bad 0 causes.Block)

  abbrev f1 : Option Bad
  f1 = unless (nat_le (front k) (length bytes)) (bad (length bytes) causes.Short)

  abbrev f2 : Option Bad
  f2 = unless (not (counts k bytes) || has_parts k bytes) (bad (length bytes) causes.Short)

  abbrev f3 : Option Bad
  f3 = unless (u16_at 6 bytes == 0) (bad 6 causes.Value)

  abbrev f4 : Option Bad
  f4 = rules_fault (rules_in k) 8 bytes

  abbrev f5 : Option Bad
  f5 = parts_fault k (count_of k bytes) (front k) bytes

  abbrev f6 : Option Bad
  f6 = unless (nat_le (length bytes) (end_of k bytes)) (bad (end_of k bytes) causes.Trailing)

  pub is_counted : counted_fault k bytes ≡ None → IsCounted k bytes
  unfolding counted_fault strict_fault
  is_counted e =
      let e6 = or_none (f0 or_else f1 or_else f2 or_else f3 or_else f4 or_else f5) f6 e in
      let e5 = or_none (f0 or_else f1 or_else f2 or_else f3 or_else f4) f5 e6.0 in
      let e4 = or_none (f0 or_else f1 or_else f2 or_else f3) f4 e5.0 in
      let e3 = or_none (f0 or_else f1 or_else f2) f3 e4.0 in
      let e2 = or_none (f0 or_else f1) f2 e3.0 in
      let e1 = or_none f0 f1 e2.0 in
      let whole : front k ≤ length bytes = leb-true (front k) (length bytes) (unless_none (nat_le (front k) (length bytes)) (bad (length bytes) causes.Short) e1.1) in
      let tail : nat_le (length bytes - front k) (length bytes) ≡ true = le-leb (length bytes - front k) (length bytes) (omega arith) in
      let strict : IsStrict (rules_in k) (Rest (length bytes)) bytes =
      strict_none (rules_in k) (Rest (length bytes)) bytes
      (or_both (f0 or_else f1 or_else unless true (bad (length bytes) causes.Short) or_else f3 or_else f4) (unless (nat_le (length bytes - front k) (length bytes)) (bad (front k) causes.Value))
      (or_both (f0 or_else f1 or_else unless true (bad (length bytes) causes.Short) or_else f3) f4 (or_both (f0 or_else f1 or_else unless true (bad (length bytes) causes.Short)) f3 (or_both (f0 or_else f1) (unless true (bad (length bytes) causes.Short)) e2.0 refl) e3.1) e4.1)
      (unless_true (nat_le (length bytes - front k) (length bytes)) (bad (front k) causes.Value) tail)) in
      let count : counts k bytes ≡ true = in_range k bytes strict.pass in
      let there : has_parts k bytes ≡ true = counted_parts (counts k bytes) (has_parts k bytes) (unless_none (not (counts k bytes) || has_parts k bytes) (bad (length bytes) causes.Short) e2.1) count in
      let inside : end_of k bytes ≤ length bytes = parts_within (count_of k bytes) (front k) bytes whole there in
      let low : pos 0 ≤ℤ count_in k bytes = omega (arith, ints, least_low k, (count_between k bytes strict.pass).0) in
      record {
        strict = strict;
        there = there;
        parts = e5.1;
        ends = omega (arith, inside, leb-true (length bytes) (end_of k bytes) (unless_none (nat_le (length bytes) (end_of k bytes)) (bad (end_of k bytes) causes.Trailing) e6.1));
        count = positive (count_in k bytes) low;
      }

  pub none_counted : u16_at 0 bytes ≡ block k → front k ≤ length bytes → has_parts k bytes ≡ true → u16_at 6 bytes ≡ 0 → AllPass (rules_in k) 8 bytes
      → parts_fault k (count_of k bytes) (front k) bytes ≡ None → end_of k bytes ≡ length bytes → counted_fault k bytes ≡ None
  unfolding counted_fault
  none_counted is_block whole there version pass free ends =
      or_both (f0 or_else f1 or_else f2 or_else f3 or_else f4 or_else f5) f6
      (or_both (f0 or_else f1 or_else f2 or_else f3 or_else f4) f5
      (or_both (f0 or_else f1 or_else f2 or_else f3) f4
      (or_both (f0 or_else f1 or_else f2) f3
      (or_both (f0 or_else f1) f2
      (or_both f0 f1 (unless_true (u16_at 0 bytes == block k) (bad 0 causes.Block) (eq-eqb (u16_at 0 bytes) (block k) is_block))
      (unless_true (nat_le (front k) (length bytes)) (bad (length bytes) causes.Short) (le-leb (front k) (length bytes) whole)))
      (unless_true (not (counts k bytes) || has_parts k bytes) (bad (length bytes) causes.Short) (or_right (not (counts k bytes)) (has_parts k bytes) there)))
      (unless_true (u16_at 6 bytes == 0) (bad 6 causes.Value) (eq-eqb (u16_at 6 bytes) 0 version)))
      (none_fails (rules_in k) 8 bytes pass))
      free)
      (unless_true (nat_le (length bytes) (end_of k bytes)) (bad (end_of k bytes) causes.Trailing) (le-leb (length bytes) (end_of k bytes) (omega (arith, ends))))

  -- the parts that bytes without a fault have are spelled by what follows the block
  pub content_spelled : IsBytes bytes → IsCounted k bytes → spelled (parts_at (count_of k bytes) (front k) bytes) ≡ drop (front k) bytes
  content_spelled fits c =
      sym (append-nil (spelled (parts_at (count_of k bytes) (front k) bytes))) ∙ ap (λ l. spelled (parts_at (count_of k bytes) (front k) bytes) ++ l) (sym (drop_all (end_of k bytes) bytes (omega (arith, c.ends))))
      ∙ parts_spelled bytes fits (count_of k bytes) (front k) c.there

-- ---- what bytes without a fault spell

module _ (bytes : List ℕ) (fits : IsBytes bytes) where
  number_there : (t : Template) → Sound t bytes → u16_at 2 bytes ≡ number_of t
  number_there t s = numbered (u16_at 2 bytes) t s.here

  query_spells : Sound templates.Query bytes → HasSpelling (value_of templates.Query bytes) × (spelling_of (value_of templates.Query bytes) ≡ bytes)
  query_spells s =
      let p = strict_none query_rules Nothing bytes s.free in
      ((p.pass.0, p.pass.1.0), spelled_by 56 query_rules Nothing (fields_of (value_of templates.Query bytes)) bytes fits (number_there templates.Query s) s.schema p refl (refl, (refl, tt)))

  log_spells : Sound templates.Log bytes → HasSpelling (value_of templates.Log bytes) × (spelling_of (value_of templates.Log bytes) ≡ bytes)
  log_spells s =
      let c = is_counted part.Event bytes s.free in
      let p = c.strict in
      let size : length (parts_at (count_of part.Event bytes) 20 bytes) ≡ count_of part.Event bytes = length-parts_at (count_of part.Event bytes) 20 bytes in
      let range = count_between part.Event bytes p.pass in
      let named : i32_at 16 bytes ≡ pos (length (parts_at (count_of part.Event bytes) 20 bytes)) = c.count ∙ ap pos (sym size) in
      let whole = spelled_by 57 (rules_in part.Event) (Rest (length bytes)) (fields_of (value_of templates.Log bytes)) bytes fits (number_there templates.Log s) s.schema p refl (refl, (named, tt)) in (
        (p.pass.0, omega (arith, ints, range.0, c.count, size), omega (arith, ints, range.1, c.count, size), parts_are bytes fits part.Event (count_of part.Event bytes) 20 c.there c.parts),
        ap (λ l. message 57 (fields_of (value_of templates.Log bytes)) ++ l) (content_spelled part.Event bytes fits c) ∙ whole,
      )

  snapshot_spells : Sound templates.Snapshot bytes → HasSpelling (value_of templates.Snapshot bytes) × (spelling_of (value_of templates.Snapshot bytes) ≡ bytes)
  snapshot_spells s =
      let c = is_counted part.Piece bytes s.free in
      let p = c.strict in
      let size : length (parts_at (count_of part.Piece bytes) 48 bytes) ≡ count_of part.Piece bytes = length-parts_at (count_of part.Piece bytes) 48 bytes in
      let range = count_between part.Piece bytes p.pass in
      let named : i32_at 44 bytes ≡ pos (length (parts_at (count_of part.Piece bytes) 48 bytes)) = c.count ∙ ap pos (sym size) in
      let whole = spelled_by 58 (rules_in part.Piece) (Rest (length bytes)) (fields_of (value_of templates.Snapshot bytes)) bytes fits (number_there templates.Snapshot s) s.schema p refl (refl, (refl, (refl, (refl, (refl, (named, tt)))))) in (
        (i64_at-fits 8 bytes fits, p.pass.1.0, p.pass.1.1.0, p.pass.1.1.1.0, i32_at-fits 40 bytes fits, omega (arith, ints, range.1, c.count, size), parts_are bytes fits part.Piece (count_of part.Piece bytes) 48 c.there c.parts),
        ap (λ l. message 58 (fields_of (value_of templates.Snapshot bytes)) ++ l) (content_spelled part.Piece bytes fits c) ∙ whole,
      )

pub value_spells : (bytes : List ℕ) → IsBytes bytes → (t : Template) → Sound t bytes → HasSpelling (value_of t bytes) × (spelling_of (value_of t bytes) ≡ bytes)
value_spells bytes fits templates.Query s = query_spells bytes fits s
value_spells bytes fits templates.Log s = log_spells bytes fits s
value_spells bytes fits templates.Snapshot s = snapshot_spells bytes fits s

-- ---- a spelling is read as the packet

pub number_fits : (z : ℤ) → IsNumber z → FitsSigned w64 z
number_fits z h = between_fits64 (pos 0) (pos (2 ^ 62)) z (omega (arith, ints)) (omega (arith, ints)) h

last_fits : (z : ℤ) → IsLast z → FitsSigned w64 z
last_fits z h = between_fits64 (negsuc 0) (pos (2 ^ 62)) z (omega (arith, ints)) (omega (arith, ints)) h

-- a range of the value that stands at a place
at : (low high z v : ℤ) → v ≡ z → Between low high z → Between low high v
at low high z v is h = subst (λ k. Between low high k) (sym is) h

-- what the spelling of a packet is: without a fault, and read as the packet
pub record Reread (p : BackupPacket) (t : Template) : Type 0 where
  pub sound : Sound t (spelling_of p)
  pub value : value_of t (spelling_of p) ≡ p

query_reread : (entries position : ℤ) → HasSpelling (Query entries position) → Reread (Query entries position) templates.Query
query_reread entries position h =
    let all = spelling_of (Query entries position) in
    let fs = fields_of (Query entries position) in
    let d : IsHeaded 56 (fields_of (Query entries position)) (spelling_of (Query entries position)) = is_headed 56 (fields_of (Query entries position)) [] (omega arith) (omega arith) (number_fits entries h.0, (last_fits position h.1, tt)) in
    let pass : AllPass query_rules 8 (spelling_of (Query entries position)) = (at (pos 0) (pos (2 ^ 62)) entries (i64_at 8 (spelling_of (Query entries position))) d.reads.0 h.0, (at (negsuc 0) (pos (2 ^ 62)) position (i64_at 16 (spelling_of (Query entries position))) d.reads.1.0 h.1, tt)) in
    let strict : IsStrict query_rules Nothing (spelling_of (Query entries position)) = is_strict 56 query_rules Nothing (fields_of (Query entries position)) [] refl d pass refl in
    record {
      sound = record { long = omega (arith, strict.whole); schema = d.schema; here = ap template_by d.template; free = none_strict query_rules Nothing (spelling_of (Query entries position)) strict };
      value = cc (d.reads.0, d.reads.1.0);
    }

log_reread : (start : ℤ) (events : List (List ℕ)) → HasSpelling (Log start events) → Reread (Log start events) templates.Log
log_reread start events h =
    let all = spelling_of (Log start events) in
    let d : IsHeaded 57 (fields_of (Log start events)) (spelling_of (Log start events)) = is_headed 57 (fields_of (Log start events)) (spelled events) (omega arith) (omega arith) (number_fits start h.0, (record { sfits = omega (arith, h.2) }, tt)) in
    let begin : length (message 57 (fields_of (Log start events))) ≡ 20 = length-message 57 (fields_of (Log start events)) in
    let stand : Stand part.Event events 20 (spelling_of (Log start events)) = parts_stand part.Event events (message 57 (fields_of (Log start events))) 20 begin h.3 in
    let count : count_of part.Event (spelling_of (Log start events)) ≡ length events = ap unsigned_abs d.reads.1.0 in
    let whole : 20 ≤ length (spelling_of (Log start events)) = omega (arith, begin, length-append (message 57 (fields_of (Log start events))) (spelled events)) in
    let pass : AllPass (rules_in part.Event) 8 (spelling_of (Log start events)) = (at (pos 0) (pos (2 ^ 62)) start (i64_at 8 (spelling_of (Log start events))) d.reads.0 h.0, (at (pos 1) (pos 64) (pos (length events)) (i32_at 16 (spelling_of (Log start events))) d.reads.1.0 (omega (arith, ints, h.1), omega (arith, ints, h.2)), tt)) in
    let free : counted_fault part.Event (spelling_of (Log start events)) ≡ None =
    none_counted part.Event (spelling_of (Log start events)) d.block whole (ap (λ n. parts_there n 20 (spelling_of (Log start events))) count ∙ stand.there) d.version pass (ap (λ n. parts_fault part.Event n 20 (spelling_of (Log start events))) count ∙ stand.free)
    (ap (λ n. parts_end n 20 (spelling_of (Log start events))) count ∙ stand.ends) in
    record {
      sound = record { long = omega (arith, whole); schema = d.schema; here = ap template_by d.template; free = free };
      value = cc (d.reads.0, ap (λ n. parts_at n 20 (spelling_of (Log start events))) count, stand.same);
    }

snapshot_reread : (recording term position stamp service : ℤ) (pieces : List (List ℕ)) → HasSpelling (Snapshot recording term position stamp service pieces) → Reread (Snapshot recording term position stamp service pieces) templates.Snapshot
snapshot_reread recording term position stamp service pieces h =
    let fs = fields_of (Snapshot recording term position stamp service pieces) in
    let all = spelling_of (Snapshot recording term position stamp service pieces) in
    let fit : AllFit (fields_of (Snapshot recording term position stamp service pieces)) = (h.0, (number_fits term h.1, (number_fits position h.2, (number_fits stamp h.3, (h.4, (record { sfits = omega (arith, h.5) }, tt)))))) in
    let d : IsHeaded 58 (fields_of (Snapshot recording term position stamp service pieces)) (spelling_of (Snapshot recording term position stamp service pieces)) = is_headed 58 (fields_of (Snapshot recording term position stamp service pieces)) (spelled pieces) (omega arith) (omega arith) fit in
    let begin : length (message 58 (fields_of (Snapshot recording term position stamp service pieces))) ≡ 48 = length-message 58 (fields_of (Snapshot recording term position stamp service pieces)) in
    let stand : Stand part.Piece pieces 48 (spelling_of (Snapshot recording term position stamp service pieces)) = parts_stand part.Piece pieces (message 58 (fields_of (Snapshot recording term position stamp service pieces))) 48 begin h.6 in
    let count : count_of part.Piece (spelling_of (Snapshot recording term position stamp service pieces)) ≡ length pieces = ap unsigned_abs d.reads.1.1.1.1.1.0 in
    let whole : 48 ≤ length (spelling_of (Snapshot recording term position stamp service pieces)) = omega (arith, begin, length-append (message 58 (fields_of (Snapshot recording term position stamp service pieces))) (spelled pieces)) in
    let pass : AllPass (rules_in part.Piece) 8 (spelling_of (Snapshot recording term position stamp service pieces)) = (
      tt,
      (
        at (pos 0) (pos (2 ^ 62)) term (i64_at 16 (spelling_of (Snapshot recording term position stamp service pieces))) d.reads.1.0 h.1,
        (
          at (pos 0) (pos (2 ^ 62)) position (i64_at 24 (spelling_of (Snapshot recording term position stamp service pieces))) d.reads.1.1.0 h.2,
          (
            at (pos 0) (pos (2 ^ 62)) stamp (i64_at 32 (spelling_of (Snapshot recording term position stamp service pieces))) d.reads.1.1.1.0 h.3,
            (tt, (at (pos 0) (pos (2 ^ 31 - 1)) (pos (length pieces)) (i32_at 44 (spelling_of (Snapshot recording term position stamp service pieces))) d.reads.1.1.1.1.1.0 (omega (arith, ints), omega (arith, ints, h.5)), tt)),
          ),
        ),
      ),
    ) in
    let free : counted_fault part.Piece (spelling_of (Snapshot recording term position stamp service pieces)) ≡ None =
    none_counted part.Piece (spelling_of (Snapshot recording term position stamp service pieces)) d.block whole (ap (λ n. parts_there n 48 (spelling_of (Snapshot recording term position stamp service pieces))) count ∙ stand.there) d.version pass
    (ap (λ n. parts_fault part.Piece n 48 (spelling_of (Snapshot recording term position stamp service pieces))) count ∙ stand.free) (ap (λ n. parts_end n 48 (spelling_of (Snapshot recording term position stamp service pieces))) count ∙ stand.ends) in
    record {
      sound = record { long = omega (arith, whole); schema = d.schema; here = ap template_by d.template; free = free };
      value = cc (d.reads.0, d.reads.1.0, d.reads.1.1.0, d.reads.1.1.1.0, d.reads.1.1.1.1.0, ap (λ n. parts_at n 48 (spelling_of (Snapshot recording term position stamp service pieces))) count, stand.same);
    }

-- each packet's spelling is without a fault, and read as the packet
pub reread : (p : BackupPacket) → HasSpelling p → (t : Template) × Reread p t
reread (Query entries position) h = (templates.Query, query_reread entries position h)
reread (Log start events) h = (templates.Log, log_reread start events h)
reread (Snapshot recording term position stamp service pieces) h = (templates.Snapshot, snapshot_reread recording term position stamp service pieces h)

-- what spells a packet has no fault
pub spelling_fault : (p : BackupPacket) → HasSpelling p → first_fault (spelling_of p) ≡ None
spelling_fault p h = let r = reread p h in no_fault r.0 (spelling_of p) r.1.sound

-- what spells a packet is read as this packet
pub encoded : (p : BackupPacket) → HasSpelling p → packet_of (spelling_of p) ≡ Some p
encoded p h = let r = reread p h in packet_there r.0 (spelling_of p) r.1.sound ∙ ap (λ v. Some v) r.1.value

some_is : (a b : BackupPacket) → Some a ≡ Some b → a ≡ b
some_is a b e = cc

-- no two packets have one spelling
pub apart : (a b : BackupPacket) → HasSpelling a → HasSpelling b → spelling_of a ≡ spelling_of b → a ≡ b
apart a b ha hb e = some_is a b (sym (encoded a ha) ∙ ap packet_of e ∙ encoded b hb)

-- ---- where there is a fault

-- a fault of the header is the first
pub fault_of_header : (bytes : List ℕ) (b : Bad) → header_of bytes ≡ Err b → first_fault bytes ≡ Some b
unfolding first_fault
fault_of_header bytes b is = ap (λ h. header_fault h bytes) is

-- bytes with a fault spell no packet
pub fault_none : (bytes : List ℕ) (b : Bad) → first_fault bytes ≡ Some b → packet_of bytes ≡ None
unfolding packet_of
fault_none bytes b e = ap (λ f. packet_from f (template_of bytes) bytes) e

-- the header and the block of what spells a packet are there
pub query_long : (bytes : List ℕ) → Sound templates.Query bytes → 24 ≤ length bytes
query_long bytes s = (strict_none query_rules Nothing bytes s.free).whole

pub counted_long : (k : Part) (bytes : List ℕ) → counted_fault k bytes ≡ None → front k ≤ length bytes
counted_long k bytes e = (is_counted k bytes e).strict.whole
