-- The entries of a file, one after another.
use Rattle.std.proofs.Common.{◌≡◌, inl, inr, ℕ, ◌+◌, ◌-◌, ◌*◌, ◌<◌, ◌≤◌, Some, None, List, [], ◌∷◌, ◌++◌, length, take, drop, get_or, if◌then◌else◌, Bool, true, false, refl, sym, ◌∙◌, ap, subst, arith, length-append}
use Rattle.std.proofs.lemmas.Bool.{cases_lt}
use Rattle.std.proofs.lemmas.List.{get_or-drop, get_or-take, get_or_append_left, get_or-append_right}
use Rattle.cl_base.specs.Disk.{DiskState, IsImage, IsImageOf, LeavesOnly}
use Rattle.cl_base.specs.Torn.{run_after, weaker}
use Rattle.recording_log.specs.declared.entry.RecEntry.{RecEntry}
use Rattle.recording_log.specs.Entries.{entry_of, entry_at, gate_at, Begins, Holds, IsWrongAt, IsNext, IsShortAt}
use Rattle.recording_log.specs.Valid.{is_term, term_of, terms_of}
use Rattle.recording_log.proofs.BlockLemmas.{entry_same}

-- what was read of a file
module _ (block file : List ℕ) (at n : ℕ) (enough : 64 ≤ n) (is : take n block ≡ take n (drop at file)) where
  front : (k : ℕ) → k < 64 → get_or block k 0 ≡ get_or (drop at file) k 0
  front k below = sym (get_or-take n block k 0 (omega arith)) ∙ ap (λ l. get_or l k 0) is ∙ get_or-take n (drop at file) k 0 (omega arith)

  pub gate_read : get_or block 63 0 ≡ get_or file (at + 63) 0
  gate_read = front 63 (omega arith) ∙ get_or-drop at file 63 0

  pub entry_read : entry_of block ≡ entry_of (drop at file)
  entry_read = entry_same block (drop at file) (λ k below. front k (omega arith))

pub begins_none : (bytes : List ℕ) → Begins [] bytes
begins_none bytes = record { fits = omega arith; opened = λ i below. absurd (omega arith); each = λ i d below. absurd (omega arith) }

module _ (entries : List RecEntry) (bytes : List ℕ) (begins : Begins entries bytes) (i : ℕ) (count : length entries ≡ i) where
  pub begins_more : (e : RecEntry) → IsNext (64 * i) bytes (Some e) → Begins (entries ++ e ∷ []) bytes
  begins_more e next =
      let more : length (entries ++ e ∷ []) ≡ i + 1 = omega (arith, length-append entries (e ∷ []), count) in
      record {
        fits = omega (arith, more, next.0);
        opened = λ j below. elim (cases_lt j i) [
          | inl old ↦ begins.opened j (omega (arith, count))
          | inr last ↦ let at_end : j ≡ i = omega (arith, more) in ap (λ k. gate_at k bytes) at_end ∙ next.1.0
        ];
        each = λ j d below. elim (cases_lt j i) [
          | inl old ↦ let within : j < length entries = omega (arith, count) in get_or_append_left entries (e ∷ []) d j within ∙ begins.each j d within
          | inr last ↦
              let at_end : j ≡ i = omega (arith, more) in
              let first : j - i ≡ 0 = omega arith in
              get_or-append_right entries (e ∷ []) i j d count last ∙ ap (λ k. get_or (e ∷ []) k d) first ∙ next.1.1 ∙ ap (λ k. entry_at k bytes) (sym at_end)
        ];
      }

  pub holds_at_end : IsNext (64 * i) bytes None → Holds entries bytes
  holds_at_end next = record {
    begins = begins;
    room = omega (arith, count, next.0);
    closed = λ opened. next.1 (ap (λ k. gate_at k bytes) (sym count) ∙ opened);
  }

  pub wrong_at_end : (place : ℕ) → IsShortAt (64 * i) bytes place → IsWrongAt bytes place
  wrong_at_end place short = record { count = i; opened = λ j below. begins.opened j (omega (arith, count)); short = omega (arith, short.0); at_end = short.1 }

pub terms_more : (es : List RecEntry) (e : RecEntry) → terms_of (es ++ e ∷ []) ≡ terms_of es ++ terms_of (e ∷ [])
terms_more [] e = refl
terms_more (x ∷ es) e = go (is_term x) (terms_more es e)
  where
    go : (b : Bool) → terms_of (es ++ e ∷ []) ≡ terms_of es ++ terms_of (e ∷ []) → (if b then term_of x ∷ terms_of (es ++ e ∷ []) else terms_of (es ++ e ∷ [])) ≡ (if b then term_of x ∷ terms_of es else terms_of es) ++ terms_of (e ∷ [])
    go true rest = λ t. term_of x ∷ rest t
    go false rest = rest

-- one look more
pub look_more : {D : Type 0} (state : D → DiskState) (moment : D → ℕ) (left_since : D → ℕ → (ℕ → List ℕ) → Type 0) (d0 d1 d2 : D)
    → LeavesOnly moment left_since d0 d1 (IsImageOf (state d0).files) → ((g : ℕ) → (state d1).files g ≡ (state d0).files g) → LeavesOnly moment left_since d1 d2 (IsImageOf (state d1).files)
    → LeavesOnly moment left_since d0 d2 (IsImageOf (state d0).files)
look_more state moment left_since d0 d1 d2 first same second =
    run_after moment left_since d0 d1 d2 (IsImageOf (state d0).files) first
    (weaker moment left_since d1 d2 (IsImageOf (state d1).files) (IsImageOf (state d0).files) (λ c image g. subst (λ s. IsImage s (c g)) (same g) (image g)) second)
