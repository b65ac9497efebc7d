-- What a shape tells is what the log tells.
use Rattle.std.proofs.Common.{◌≡◌, ℕ, zero, suc, ◌+◌, min, Bool, true, false, ◌&&◌, [], ◌∷◌, ◌++◌, length, take, refl, sym, ap, ◌∙◌, arith, ℤ, negsuc, if◌then◌else◌}
use Rattle.std.specs.Prelude.{int_le, nat_le, nat_lt, nat_eq}
use Rattle.std.proofs.lemmas.Bool.Decides.{nat_tests}
use Rattle.std.proofs.lemmas.List.{take-map, take_all, length-map, append-nil}
use Rattle.cl_base.specs.declared.entry.Entry.{Entry}
use Rattle.entry_log.specs.Log.{Log, end_after, place, last, same_term}
use Rattle.entry_log.specs.Shape.{Shape, entry_shape, shape_of, end_of, last_term_of, ends_by_from, terms_to, end_from-shape_of, last_term_from-shape_of}
use Rattle.log_replication.specs.Replication.{upto, kept, kept_from, past}
use Rattle.election.specs.declared.member.Election.{Election}
use Rattle.consensus_core.specs.declared.rest.Rest.{Rest}
use Rattle.consensus_core.specs.declared.row.Row.{Row}
use Rattle.consensus_core.specs.declared.change.Change.{Change}
use Rattle.election.specs.declared.member.State.TheVariants.{FollowerReady}
use Rattle.consensus_core.specs.declared.change.Change.TheVariants as changes
use Rattle.consensus_core.specs.declared.plan.Plan.TheVariants as plans
use Rattle.consensus_core.specs.declared.plan.Word.TheVariants as words
use Rattle.consensus_core.specs.Rows.{outcome, kept_count, cut_to, new_entries, appends}
use Rattle.consensus_core.specs.Member.{changed_log}
use Rattle.consensus_core.specs.OverLog.{Outcome, over, entries_to_from, entries_to, SameName, SameAnswer, SameCut, SameBatch, SameCount}

pub same_name_law : SameName
same_name_law log = λ i. record { term = last_term_from-shape_of (negsuc 0) log i; place = end_from-shape_of 0 log i }

terms_to-shape : (u : ℤ) (log : Log) → terms_to u (shape_of log) ≡ shape_of (upto u log)
terms_to-shape u [] = refl
terms_to-shape u (x ∷ xs) = at (int_le x.term u) (terms_to-shape u xs)
  where
    at : (b : Bool) → terms_to u (shape_of xs) ≡ shape_of (upto u xs) → (if b then entry_shape x ∷ terms_to u (shape_of xs) else []) ≡ shape_of (if b then x ∷ upto u xs else [])
    at true e = ap (λ (l : Shape). entry_shape x ∷ l) e
    at false e = refl

pub same_answer_law : SameAnswer
same_answer_law log f = (ap last_term_of (terms_to-shape f log) ∙ last_term_from-shape_of (negsuc 0) (upto f log), ap end_of (terms_to-shape f log) ∙ end_from-shape_of 0 (upto f log))

pub ends_by-shape : (p at : ℕ) (log : Log) → ends_by_from p at (shape_of log) ≡ entries_to_from p at log
ends_by-shape p at [] = refl
ends_by-shape p at (x ∷ xs) = ap (λ n. if nat_le (end_after p (length x.bytes)) at then 1 + n else 0) (ends_by-shape (end_after p (length x.bytes)) at xs)

pub take-shape : (n : ℕ) (log : Log) → take n (shape_of log) ≡ shape_of (take n log)
take-shape n log = take-map entry_shape n log

pub same_count_law : SameCount
same_count_law log at =
    let count = ends_by-shape 0 at log in (
      count,
      ap (λ n. nat_eq (end_of (take n (shape_of log))) at) count ∙ ap (λ p. nat_eq p at) (ap end_of (take-shape (entries_to at log) log) ∙ end_from-shape_of 0 (take (entries_to at log) log)),
    )

none : (n : ℕ) → take {A = Entry} n [] ≡ []
none zero = refl
none (suc n) = refl

pub kept_take : (p : ℕ) (u : ℤ) (e : ℕ) (log : Log) → take (min (length (terms_to u (shape_of log))) (ends_by_from p e (shape_of log))) log ≡ kept_from p u e log
kept_take p u e [] = none (min 0 0)
kept_take p u e (x ∷ xs) = at (int_le x.term u) (nat_le (end_after p (length x.bytes)) e) (kept_take (end_after p (length x.bytes)) u e xs)
  where
    at : (a b : Bool) → take (min (length (terms_to u (shape_of xs))) (ends_by_from (end_after p (length x.bytes)) e (shape_of xs))) xs ≡ kept_from (end_after p (length x.bytes)) u e xs
        → take (min (length (if a then entry_shape x ∷ terms_to u (shape_of xs) else [])) (if b then 1 + ends_by_from (end_after p (length x.bytes)) e (shape_of xs) else 0)) (x ∷ xs)
        ≡ (if a && b then x ∷ kept_from (end_after p (length x.bytes)) u e xs else [])
    at true true h =
        let n = length (terms_to u (shape_of xs)) in
        let m = ends_by_from (end_after p (length x.bytes)) e (shape_of xs) in
        let one : min (suc n) (1 + m) ≡ suc (min n m) = omega arith in
        ap (λ k. take k (x ∷ xs)) one ∙ ap (λ (l : Log). x ∷ l) h
    at true false h = let z : min (suc (length (terms_to u (shape_of xs)))) 0 ≡ 0 = omega arith in ap (λ k. take k (x ∷ xs)) z
    at false true h = let z : min 0 (1 + ends_by_from (end_after p (length x.bytes)) e (shape_of xs)) ≡ 0 = omega arith in ap (λ k. take k (x ∷ xs)) z
    at false false h = let z : min 0 0 ≡ 0 = omega arith in ap (λ k. take k (x ∷ xs)) z

choice : {X : Type 0} (P : X → Type 0) (b : Bool) (x y : X) → (b ≡ true → P x) → (b ≡ false → P y) → P (if b then x else y)
choice P true x y f g = f refl
choice P false x y f g = g refl

pub cut_log : (n : ℕ) (log : Log) → changed_log (cut_to n (shape_of log)) log ≡ take n log
cut_log n log =
    choice (λ c. changed_log c log ≡ take n log) (nat_lt n (length (shape_of log))) (changes.Cut n) changes.Nothing (λ h. refl)
    (λ h. let count : length (shape_of log) ≡ length log = length-map log entry_shape in sym (take_all n log (grind (arith, nat_tests, h, count))))

appended : (b : Bool) (es log : Log) → changed_log (if b then appends es else changes.Nothing) log ≡ (if b then log ++ es else log)
appended true [] log = sym (append-nil log)
appended true (x ∷ xs) log = refl
appended false es log = refl

pub same_batch_law : SameBatch
same_batch_law e r log from start entries now =
    let after : changed_log (new_entries (end_of (shape_of log)) start entries) log ≡ (if nat_le start (place log) then log ++ past start (place log) entries else log) =
    ap (λ p. changed_log (new_entries p start entries) log) (end_from-shape_of 0 log) ∙ appended (nat_le start (place log)) (past start (place log) entries) log in
    λ i. record { values = record { election = record e { deadline = now + 1000 }; rest = r }; log = after i; plan = plans.One from words.Report }

abbrev cut_made : Election → Rest → ℕ → ℕ → Bool → Log → Outcome
cut_made e r from now b left =
    if b
    then record { values = record { election = record e { deadline = now + 1000; state = FollowerReady }; rest = r }; log = left; plan = plans.One from words.Report }
    else record { values = record { election = record e { deadline = now + 1000 }; rest = r }; log = left; plan = plans.One from words.Canvass }

abbrev cut_row : Election → Rest → ℕ → ℕ → Bool → Change → Row
cut_row e r from now b c =
    if b
    then outcome (record e { deadline = now + 1000; state = FollowerReady }) r c (plans.One from words.Report)
    else outcome (record e { deadline = now + 1000 }) r c (plans.One from words.Canvass)

over_cut : (e : Election) (r : Rest) (from now : ℕ) (b : Bool) (c : Change) (log : Log) → over log (cut_row e r from now b c) ≡ cut_made e r from now b (changed_log c log)
over_cut e r from now true c log = refl
over_cut e r from now false c log = refl

pub same_cut_law : SameCut
same_cut_law e r log from keep now =
    let n = kept_count keep.term keep.place (shape_of log) in
    let left : take n log ≡ kept keep.term keep.place log = kept_take 0 keep.term keep.place log in
    let term : last_term_of (take n (shape_of log)) ≡ last (kept keep.term keep.place log) =
    ap last_term_of (take-shape n log) ∙ last_term_from-shape_of (negsuc 0) (take n log) ∙ ap last left in
    over_cut e r from now (same_term (last_term_of (take n (shape_of log))) keep.term) (cut_to n (shape_of log)) log
    ∙ (λ i. cut_made e r from now (same_term (term i) keep.term) ((cut_log n log ∙ left) i))
