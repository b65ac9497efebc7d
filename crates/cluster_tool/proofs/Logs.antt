-- Two logs, entry by entry, and the terms that begin in one.
use Rattle.std.proofs.Common.{◌≡◌, ℕ, pos, ◌+◌, ◌<◌, min, Bool, true, false, List, [], ◌∷◌, length, get_or, take, drop, Option, Some, None, refl, sym, ap, ◌∙◌, arith, add-one, length-append, length-drop}
use Rattle.std.proofs.lemmas.Bool.{cond-true, cond-false, lt-ltb, le-ltb}
use Rattle.wire_prims.specs.Fields.{u16_at}
use Rattle.std.specs.Prelude.{is_some, nat_lt, if◌then◌else◌, ◌==◌, ◌&&◌}
use Rattle.std.proofs.lemmas.List.{take_more}
use Rattle.std.proofs.Math.Seq.{drop-cons}
use Rattle.cl_base.specs.declared.entry.Entry.{Entry}
use Rattle.entry_log.specs.Log.{Log}
use Rattle.log_segment.specs.Held.{new_term_of, put_term, new_terms}
use Rattle.log_segment.specs.declared.kept.NewTerm.{NewTerm}
use Rattle.log_segment.proofs.TermLemmas.{new_terms_more}
use Rattle.cluster_tool.specs.declared.compare.Outcome.{Outcome}
use Rattle.cluster_tool.specs.declared.compare.Outcome.TheVariants as outcome
use Rattle.cluster_tool.specs.declared.compare.Comparison.{Comparison}
use Rattle.cluster_tool.specs.Text.{begun}
use Rattle.cluster_tool.specs.Compared.{differing, differ_or, longer, compared_from}

-- any entry
pub no_entry : Entry
no_entry = record { term = pos 0; bytes = [] }

-- the entries behind an index
here : {X : Type 0} (xs : List X) (i : ℕ) (d : X) → i < length xs → drop i xs ≡ get_or xs i d ∷ drop (i + 1) xs
here xs i d below = drop-cons xs i d below ∙ ap (λ k. get_or xs i d ∷ drop k xs) (sym (add-one i))

at_both : (i : ℕ) (xs ys : Log) (d : Entry) → i < length xs → i < length ys
    → compared_from i (drop i xs) (drop i ys) ≡ differ_or (differing (get_or xs i d) (get_or ys i d) i) (compared_from (i + 1) (drop (i + 1) xs) (drop (i + 1) ys))
at_both i xs ys d one two =
    ap (λ (zs : Log). compared_from i zs (drop i ys)) (here xs i d one)
    ∙ ap (λ (zs : Log). compared_from i (get_or xs i d ∷ drop (i + 1) xs) zs) (here ys i d two)
    ∙ ap (λ k. differ_or (differing (get_or xs i d) (get_or ys i d) i) (compared_from k (drop (i + 1) xs) (drop (i + 1) ys))) (sym (add-one i))

-- where two entries are the same it goes on behind them
pub goes_on : (i : ℕ) (xs ys : Log) (d : Entry) → i < length xs → i < length ys → None ≡ differing (get_or xs i d) (get_or ys i d) i
    → compared_from i (drop i xs) (drop i ys) ≡ compared_from (i + 1) (drop (i + 1) xs) (drop (i + 1) ys)
goes_on i xs ys d one two same = at_both i xs ys d one two ∙ ap (λ o. differ_or o (compared_from (i + 1) (drop (i + 1) xs) (drop (i + 1) ys))) (sym same)

-- where they differ that is all
pub stops_at : (i : ℕ) (xs ys : Log) (d : Entry) (c : Comparison) → i < length xs → i < length ys → Some c ≡ differing (get_or xs i d) (get_or ys i d) i
    → compared_from i (drop i xs) (drop i ys) ≡ c
stops_at i xs ys d c one two found = at_both i xs ys d one two ∙ ap (λ o. differ_or o (compared_from (i + 1) (drop (i + 1) xs) (drop (i + 1) ys))) (sym found)

longer_first : (m n : ℕ) → n < m → longer m n ≡ outcome.FirstLonger
longer_first m n less = cond-true (nat_lt n m) _ _ (lt-ltb n m less)

longer_second : (m n : ℕ) → m < n → longer m n ≡ outcome.SecondLonger
longer_second m n less = cond-false (nat_lt n m) _ _ (le-ltb n m (omega arith)) ∙ cond-true (nat_lt m n) _ _ (lt-ltb m n less)

longer_none : (m n : ℕ) → m ≡ n → longer m n ≡ outcome.Equal
longer_none m n same = cond-false (nat_lt n m) _ _ (le-ltb n m (omega arith)) ∙ cond-false (nat_lt m n) _ _ (le-ltb m n (omega arith))

abbrev behind : ℕ → ℕ → ℕ → Comparison
behind i first second = record { common = i; outcome = longer first second }

abbrev so : ℕ → Outcome → Comparison
so i o = record { common = i; outcome = o }

over : (i : ℕ) (xs ys : Log) (m n : ℕ) → m ≡ i + length xs → n ≡ i + length ys → i ≡ min m n → compared_from i xs ys ≡ behind i m n
over i [] [] m n one two least = ap (so i) (sym (longer_none m n (omega arith)))
over i [] (y ∷ ys) m n one two least = ap (so i) (sym (longer_second m n (omega arith)))
over i (x ∷ xs) [] m n one two least = ap (so i) (sym (longer_first m n (omega arith)))
over i (x ∷ xs) (y ∷ ys) m n one two least = absurd (omega arith)

-- where one has no more, the other may be longer
pub ends_at : (i : ℕ) (xs ys : Log) → i ≡ min (length xs) (length ys) → compared_from i (drop i xs) (drop i ys) ≡ record { common = i; outcome = longer (length xs) (length ys) }
ends_at i xs ys least = over i (drop i xs) (drop i ys) (length xs) (length ys) (omega (arith, length-drop i xs)) (omega (arith, length-drop i ys)) least

-- ---- terms

length_put : (o : Option NewTerm) → length (put_term o []) ≡ (if is_some o then 1 else 0)
length_put None = refl
length_put (Some t) = refl

begins : (b : Bool) (s t : NewTerm) → is_some (if b then Some s else None) ≡ is_some (if b then Some t else None)
begins true s t = refl
begins false s t = refl

-- whether an entry begins a term doesn't depend on its index
begins_there : (i j : ℕ) (bytes : List ℕ) → is_some (new_term_of i bytes) ≡ is_some (new_term_of j bytes)
begins_there i j bytes = begins ((length bytes == 48) && (u16_at 2 bytes == 24)) _ _

-- one entry more
pub count_more : (i : ℕ) (log : Log) (d : Entry) (n : ℕ) → i < length log → n ≡ begun (get_or log i d).bytes
    → length (new_terms 0 (take (i + 1) log)) ≡ length (new_terms 0 (take i log)) + n
count_more i log d n below is =
    let e = get_or log i d in
    let k = 0 + length (take i log) in
    ap (λ (l : Log). length (new_terms 0 l)) (take_more log i d below)
    ∙ ap length (new_terms_more 0 (take i log) e)
    ∙ length-append (new_terms 0 (take i log)) (put_term (new_term_of k e.bytes) [])
    ∙ ap (λ m. length (new_terms 0 (take i log)) + m) (length_put (new_term_of k e.bytes) ∙ ap (λ (c : Bool). if c then 1 else 0) (begins_there k 0 e.bytes) ∙ sym is)
