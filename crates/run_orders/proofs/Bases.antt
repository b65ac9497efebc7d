-- Where the terms of snapshots begin, as the log grows and in its first entries.
use Rattle.std.proofs.Common.{◌≡◌, inl, inr, ℕ, suc, ◌+◌, ℤ, pos, Bool, true, false, List, [], ◌∷◌, ◌++◌, length, take, drop, refl, sym, ap, ◌∙◌, subst, arith, take-append-drop, if◌then◌else◌}
use Rattle.std.specs.Prelude.{Contains}
use Rattle.std.specs.Ordering.{int_eq}
use Rattle.std.proofs.lemmas.Bool.Decides.{Decides-int_eq}
use Rattle.std.proofs.lemmas.List.Elements.{Contains-append_left}
use Rattle.agreement.proofs.Snaps2.{cons-cases}
use Rattle.entry_log.specs.Durable.{SnapshotEntry}
use Rattle.entry_log.specs.Log.{Log}
use Rattle.log_segment.specs.Held.{new_term_of, new_terms, put_term}
use Rattle.log_segment.specs.declared.kept.NewTerm.{NewTerm}
use Rattle.member_disk.specs.Changes.{base_of}
use Rattle.recording_log.specs.declared.entry.RecEntry.{RecEntry}
use Rattle.service_phases.specs.Pairs.{Each, Each2}
use Rattle.cl_base.specs.Disk.{FileState}
use Rattle.std.specs.Prelude.{Option, Some, None}
use Rattle.run_orders.specs.Kept.{Begins, HasBase, IsStored}

-- ---- the terms that begin in a log

put-append : (o : Option NewTerm) (a b : List NewTerm) → put_term o (a ++ b) ≡ put_term o a ++ b
put-append None a b = refl
put-append (Some t) a b = refl

pub terms-append : (i : ℕ) (xs ys : Log) → new_terms i (xs ++ ys) ≡ new_terms i xs ++ new_terms (i + length xs) ys
terms-append i [] ys = ap (λ (k : ℕ). new_terms k ys) (omega arith)
terms-append i (x ∷ xs) ys =
    ap (put_term (new_term_of i x.bytes)) (terms-append (i + 1) xs ys ∙ ap (λ (k : ℕ). new_terms (i + 1) xs ++ new_terms k ys) (omega arith))
    ∙ put-append (new_term_of i x.bytes) (new_terms (i + 1) xs) (new_terms (i + suc (length xs)) ys)

-- a term that is among the first has its place there
base-append : (term : ℤ) (as' bs : List NewTerm) (t : NewTerm) → Contains as' t → t.term ≡ term → base_of term (as' ++ bs) ≡ base_of term as'
base-append term [] bs t has is = absurd (let low = has.1 in omega (arith, low))
base-append term (a ∷ as') bs t has is = by (λ more. base-append term as' bs t more is) (int_eq a.term term) refl
  where
    clash : int_eq a.term term ≡ true → int_eq a.term term ≡ false → ⊥
    clash same other = cc

    later : int_eq a.term term ≡ false → Contains as' t
    later apart = elim (cons-cases a t as' has) [ inl same ↦ absurd (clash ((Decides-int_eq a.term term).1 (ap (λ (x : NewTerm). x.term) same ∙ is)) apart) | inr more ↦ more ]

    by : (Contains as' t → base_of term (as' ++ bs) ≡ base_of term as') → (b : Bool) → int_eq a.term term ≡ b → (if b then a.base else base_of term (as' ++ bs)) ≡ (if b then a.base else base_of term as')
    by again true e = refl
    by again false e = again (later e)

-- ---- of one entry

pub begins-more : (term : ℤ) (log more : Log) → Begins term log → Begins term (log ++ more)
begins-more term log more z =
    (z.0, subst (λ (ts : List NewTerm). Contains ts z.0) (sym (terms-append 0 log more)) (Contains-append_left (new_terms 0 log) (new_terms (0 + length log) more) z.0 z.1), z.2)

base-front : (term : ℤ) (log more : Log) → Begins term log → base_of term (new_terms 0 (log ++ more)) ≡ base_of term (new_terms 0 log)
base-front term log more z = ap (base_of term) (terms-append 0 log more) ∙ base-append term (new_terms 0 log) (new_terms (0 + length log) more) z.0 z.1 z.2

pub has-more : (log more : Log) (e : RecEntry) → HasBase log e → HasBase (log ++ more) e
has-more log more e is = record { begins = begins-more e.term log more is.begins; base = is.base ∙ sym (ap pos (base-front e.term log more is.begins)) }

pub has-front : (log : Log) (n : ℕ) (e : RecEntry) → HasBase log e → Begins e.term (take n log) → HasBase (take n log) e
has-front log n e is begins = record {
  begins = begins;
  base = is.base ∙ ap (λ (l : Log). pos (base_of e.term (new_terms 0 l))) (sym (take-append-drop n log)) ∙ ap pos (base-front e.term (take n log) (drop n log) begins);
}

-- ---- of all of them

pub all-more : (log more : Log) (es : List RecEntry) → Each (HasBase log) es → Each (HasBase (log ++ more)) es
all-more log more [] each = tt
all-more log more (e ∷ es) each = (has-more log more e each.0, all-more log more es each.1)

-- the terms of these snapshots begin among the first entries
pub all-front : (files : ℕ → FileState) (log : Log) (n : ℕ) (es : List RecEntry) (ss : List SnapshotEntry) → Each2 (IsStored files) es ss → Each (λ (s : SnapshotEntry). Begins s.term (take n log)) ss → Each (HasBase log) es → Each (HasBase (take n log)) es
all-front files log n [] ss stored begin each = tt
all-front files log n (e ∷ es) [] stored begin each = absurd stored
all-front files log n (e ∷ es) (s ∷ ss) stored begin each =
    (has-front log n e each.0 (subst (λ (t : ℤ). Begins t (take n log)) (sym stored.0.term) begin.0), all-front files log n es ss stored.1 begin.1 each.1)
