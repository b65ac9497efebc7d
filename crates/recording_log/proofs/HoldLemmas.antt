-- What keeps a file holding its entries, and how one more comes in.
use Rattle.std.specs.Prelude.{if◌then◌else◌}
use Rattle.std.proofs.Common.{◌≡◌, ◌≢◌, ◌⊎◌, inl, inr, ℕ, ◌+◌, ◌-◌, ◌*◌, ◌<◌, ◌≤◌, ◌==◌, List, [], ◌∷◌, ◌++◌, length, drop, get_or, replicate, refl, sym, ◌∙◌, ap, subst, arith, length-append}
use Rattle.std.proofs.lemmas.Bool.{cases_eq, cases_lt, cond-true, cond-false, eq-eqb, ne_eqb}
use Rattle.std.proofs.lemmas.List.{get_or-drop, get_or_append_left, get_or-append_right}
use Rattle.cl_base.specs.Disk.{overwritten}
use Rattle.cl_base.specs.Images.{length-overwritten, overwritten_other}
use Rattle.cl_base.specs.Torn.{Torn}
use Rattle.recording_log.specs.declared.entry.RecEntry.{RecEntry}
use Rattle.recording_log.specs.Entries.{entry_of, entry_at, gate_at, open_gate, Begins, Holds}
use Rattle.recording_log.specs.Steps.{staged, added, IsAddition, IsReady}
use Rattle.recording_log.proofs.BlockLemmas.{entry_same}
use Rattle.cl_base.specs.Places.{overwritten_inside, get_or-written_one, torn_overwritten}

pub at_same : (i : ℕ) (c e : List ℕ) → ((k : ℕ) → k < 48 → get_or c (64 * i + k) 0 ≡ get_or e (64 * i + k) 0) → entry_at i c ≡ entry_at i e
at_same i c e same = entry_same (drop (64 * i) c) (drop (64 * i) e) (λ k below. get_or-drop (64 * i) c k 0 ∙ same k below ∙ sym (get_or-drop (64 * i) e k 0))

pub at_block : (i : ℕ) (c block : List ℕ) → ((k : ℕ) → k < 48 → get_or c (64 * i + k) 0 ≡ get_or block k 0) → entry_at i c ≡ entry_of block
at_block i c block same = entry_same (drop (64 * i) c) block (λ k below. get_or-drop (64 * i) c k 0 ∙ same k below)

module _ (entries : List RecEntry) (e c : List ℕ) where
  -- the bytes of the entries are the same
  pub begins_same : Begins entries e → length e ≤ length c → ((i : ℕ) → i < 64 * length entries → get_or c i 0 ≡ get_or e i 0) → Begins entries c
  begins_same begins longer same = record {
    fits = omega (arith, begins.fits);
    opened = λ i below. same (64 * i + 63) (omega arith) ∙ begins.opened i below;
    each = λ i d below. begins.each i d below ∙ sym (at_same i c e (λ k less. same (64 * i + k) (omega arith)));
  }

  pub holds_same : Holds entries e → length e ≤ length c → ((i : ℕ) → i < 64 * length entries → get_or c i 0 ≡ get_or e i 0) → gate_at (length entries) c ≢ open_gate → Holds entries c
  holds_same holds longer same closed = record {
    begins = begins_same holds.begins longer same;
    room = omega (arith, holds.room);
    closed = closed;
  }

  -- a write behind the entries that spares their closed gate
  pub torn_holds : (at n : ℕ) → 64 * length entries ≤ at → 64 * length entries + 63 < at ⊎ at + n ≤ 64 * length entries + 63 → Torn at n e c → Holds entries e → Holds entries c
  torn_holds at n behind spares torn holds =
      let room = holds.room in
      holds_same holds torn.no_shorter (λ i below. torn.same i (omega arith) (inl (omega arith)))
      (λ is. holds.closed (sym (torn.same (64 * length entries + 63) (omega arith) spares) ∙ is))

-- the gate of an entry that is ready
module _ (entries : List RecEntry) (entry : RecEntry) (e c : List ℕ) (ready : IsReady entries entry e) (torn : Torn (64 * length entries + 63) 1 e c) where
  abbrev n : ℕ
  n = length entries

  same : (i : ℕ) → i < 64 * n + 63 → get_or c i 0 ≡ get_or e i 0
  same i below = let room = ready.room in torn.same i (omega arith) (inl below)

  stays_out : gate_at n c ≢ open_gate → Holds entries c
  stays_out closed = holds_same entries e c ready.holds torn.no_shorter (λ i below. same i (omega arith)) closed

  comes_in : gate_at n c ≡ open_gate → Holds (entries ++ entry ∷ []) c
  comes_in is =
      let begins = ready.holds.begins in
      let room = ready.room in
      let longer = torn.no_shorter in
      let more : length (entries ++ entry ∷ []) ≡ n + 1 = length-append entries (entry ∷ []) in
      record {
        begins = record {
          fits = omega (arith, more);
          opened = λ i below. elim (cases_lt i n) [
            | inl old ↦ same (64 * i + 63) (omega arith) ∙ begins.opened i old
            | inr last ↦ let at_end : i ≡ n = omega (arith, more) in ap (λ k. gate_at k c) at_end ∙ is
          ];
          each = λ i d below. elim (cases_lt i n) [
            | inl old ↦ get_or_append_left entries (entry ∷ []) d i old ∙ begins.each i d old ∙ sym (at_same i c e (λ k less. same (64 * i + k) (omega arith)))
            | inr last ↦
                let at_end : i ≡ n = omega (arith, more) in
                let first : i - n ≡ 0 = omega arith in
                get_or-append_right entries (entry ∷ []) n i d refl last ∙ ap (λ k. get_or (entry ∷ []) k d) first
                ∙ sym ready.here ∙ sym (at_same n c e (λ k less. same (64 * n + k) (omega arith))) ∙ ap (λ k. entry_at k c) (sym at_end)
          ];
        };
        room = omega (arith, more);
        closed = λ opened.
            let next : 64 * length (entries ++ entry ∷ []) + 63 ≡ 64 * (n + 1) + 63 = omega (arith, more) in
            ready.closed (sym (torn.same (64 * (n + 1) + 63) (omega arith) (inr (omega arith))) ∙ ap (λ k. get_or c k 0) (sym next) ∙ opened);
      }

  pub gate_flips : Holds (if (get_or c (64 * length entries + 63) 0 == 90) then entries ++ entry ∷ [] else entries) c
  gate_flips = elim (cases_eq (gate_at n c) 90) [
    | inl is ↦ subst (λ l. Holds l c) (sym (cond-true (gate_at n c == 90) (entries ++ entry ∷ []) entries (eq-eqb (gate_at n c) 90 is))) (comes_in is)
    | inr ne ↦ subst (λ l. Holds l c) (sym (cond-false (gate_at n c == 90) (entries ++ entry ∷ []) entries (ne_eqb (gate_at n c) 90 ne))) (stays_out ne)
  ]

pub gate_flips_at : (entries : List RecEntry) (entry : RecEntry) (at : ℕ) → at ≡ 64 * length entries → (e c : List ℕ) → IsReady entries entry e → Torn (at + 63) 1 e c
    → Holds (if (get_or c (at + 63) 0 == 90) then entries ++ entry ∷ [] else entries) c
gate_flips_at entries entry at is e c ready =
    let place : 64 * length entries + 63 ≡ at + 63 = omega arith in
    let P : ℕ → Type 0 = λ p. Torn p 1 e c → Holds (if (get_or c p 0 == 90) then entries ++ entry ∷ [] else entries) c in
    subst P place (gate_flips entries entry e c ready)

-- what is staged is ready
module _ (at : ℕ) (block : List ℕ) (entries : List RecEntry) (entry : RecEntry) (is : IsAddition at block entries entry) (reads : List ℕ) (holds : Holds entries reads) where
  abbrev one : List ℕ
  one = overwritten at block reads

  abbrev zeros : List ℕ
  zeros = replicate 64 0

  len_one : length one ≡ length reads
  len_one = let room = holds.room in omega (arith, is.place, is.size, length-overwritten at block reads (omega (arith, is.place)))

  len_two : (length reads ≤ length (staged at block reads)) × (at + 128 ≤ length (staged at block reads))
  len_two =
      let room = holds.room in
      let len = length-overwritten (at + 64) zeros one (omega (arith, len_one, is.place)) in
      (omega (arith, len, len_one), omega (arith, len, len_one))

  one_holds : Holds entries one
  one_holds = torn_holds entries reads one at 63 (omega (arith, is.place)) (inr (omega (arith, is.place)))
      (subst (λ n. Torn at n reads one) is.size (torn_overwritten at block reads (let room = holds.room in omega (arith, is.place)))) holds

  pub staged_holds : Holds entries (staged at block reads)
  staged_holds = torn_holds entries one (staged at block reads) (at + 64) 64 (omega (arith, is.place)) (inl (omega (arith, is.place)))
      (torn_overwritten (at + 64) zeros one (let room = holds.room in omega (arith, len_one, is.place))) one_holds

  pub staged_ready : IsReady entries entry (staged at block reads)
  staged_ready =
      let room = holds.room in
      let place = is.place in
      let size = is.size in
      record {
        holds = staged_holds;
        here = at_block (length entries) (staged at block reads) block (λ k below.
            overwritten_other (at + 64) zeros one (64 * length entries + k) (omega (arith, len_one)) (inl (omega arith))
            ∙ overwritten_inside at block reads (64 * length entries + k) k (omega arith) (omega arith) (omega arith)) ∙ is.spells;
        room = omega (arith, len_two);
        closed = λ opened.
            let zero_there : get_or (staged at block reads) (64 * (length entries + 1) + 63) 0 ≡ 0 =
            overwritten_inside (at + 64) zeros one (64 * (length entries + 1) + 63) 63 (omega (arith, len_one)) (omega arith) (omega arith) in
            absurd (let clash : 0 ≡ 90 = sym zero_there ∙ opened in omega (arith, clash));
      }

  -- and with the gate opened it has come in
  pub added_holds : Holds (entries ++ entry ∷ []) (added at block reads)
  added_holds =
      let room = holds.room in
      let place = is.place in
      let two = staged at block reads in
      let torn = torn_overwritten (at + 63) (90 ∷ []) two (omega (arith, len_two)) in
      let same_place : at + 63 ≡ 64 * length entries + 63 = omega arith in
      let flips = gate_flips entries entry two (added at block reads) staged_ready (subst (λ p. Torn p 1 two (added at block reads)) same_place torn) in
      let byte : get_or (added at block reads) (64 * length entries + 63) 0 ≡ 90 = ap (λ p. get_or (added at block reads) p 0) (sym same_place) ∙ get_or-written_one (at + 63) 90 two (omega (arith, len_two)) in
      subst (λ l. Holds l (added at block reads)) (cond-true (get_or (added at block reads) (64 * length entries + 63) 0 == 90) (entries ++ entry ∷ []) entries (eq-eqb _ 90 byte)) flips
