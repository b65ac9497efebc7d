-- Prefixes by their place, and what a quorum of reports commits.
use Rattle.std.proofs.Common.{◌≡◌, ◌⊎◌, inl, inr, ℕ, zero, suc, ◌+◌, ◌<◌, ◌≤◌, Bool, true, false, ◌&&◌, List, [], ◌∷◌, ◌++◌, length, take, refl, sym, ap, ◌∙◌, subst, arith, None, Option, max, one-add, length-append}
use Rattle.std.specs.Prelude.{slice_index_or, if◌then◌else◌, nat_le, nat_lt, nat_eq, unwrap_or, fold, filter, count_by}
use Rattle.std.proofs.lemmas.Bool.Decides.{nat_tests}
use Rattle.std.proofs.lemmas.List.Sums.{sum_by-cons}
use Rattle.cl_base.specs.declared.entry.Entry.{Entry}
use Rattle.entry_log.specs.Log.{Log, end_after, place, place_from}
use Rattle.entry_log.specs.Quorum.{is_quorum}
use Rattle.entry_log.specs.Log.{IsWritten}
use Rattle.entry_log.specs.Places.{place_from-up, end_after-past}
use Rattle.log_replication.specs.Prefixes.{Leads, IsWritten-front}
use Rattle.consensus_core.specs.OverLog.{entries_to, entries_to_from}
use Rattle.consensus_core.specs.Reign.{reports}
use Rattle.log_replication.specs.Commits.{quorum_position}
use Rattle.world.specs.Safe.{count_below}
use Rattle.log_replication.specs.Commits.{commit_after as place_commit}

pub entries_to-short : (p at : ℕ) (log : Log) → entries_to_from p at log ≤ length log
entries_to-short p at [] = omega arith
entries_to-short p at (x ∷ xs) = at_test (nat_le (end_after p (length x.bytes)) at) (entries_to-short (end_after p (length x.bytes)) at xs)
  where
    at_test : (b : Bool) → entries_to_from (end_after p (length x.bytes)) at xs ≤ length xs → (if b then 1 + entries_to_from (end_after p (length x.bytes)) at xs else 0) ≤ suc (length xs)
    at_test true h = omega (arith, h)
    at_test false h = omega arith

-- the entries that end at most at a place end at most there
pub entries_to-place : (p at : ℕ) (log : Log) → p ≤ at → place_from p (take (entries_to_from p at log) log) ≤ at
entries_to-place p at [] h = h
entries_to-place p at (x ∷ xs) h = at_test (nat_le (end_after p (length x.bytes)) at) refl (entries_to-place (end_after p (length x.bytes)) at xs)
  where
    at_test : (b : Bool) → nat_le (end_after p (length x.bytes)) at ≡ b → (end_after p (length x.bytes) ≤ at → place_from (end_after p (length x.bytes)) (take (entries_to_from (end_after p (length x.bytes)) at xs) xs) ≤ at)
        → place_from p (take (if b then 1 + entries_to_from (end_after p (length x.bytes)) at xs else 0) (x ∷ xs)) ≤ at
    at_test true e r = rw one-add (r (grind (arith, nat_tests, e)))
    at_test false e r = h

-- and hold each prefix that ends at most there
pub entries_to-holds : (p at : ℕ) (xs log : Log) → IsWritten log → Leads xs log → place_from p xs ≤ at → Leads xs (take (entries_to_from p at log) log)
entries_to-holds p at [] log w a h = tt
entries_to-holds p at (x ∷ xs) [] w a h = absurd a
entries_to-holds p at (x ∷ xs) (y ∷ ys) w a h =
    let q = end_after p (length y.bytes) in
    let h' : place_from q xs ≤ at = subst (λ (z : Entry). place_from (end_after p (length z.bytes)) xs ≤ at) a.0 h in
    let f = place_from-up q xs (IsWritten-front xs ys a.1 w.2) in
    let ok : nat_le q at ≡ true = grind (arith, nat_tests, f, h') in
    rw (ok, one-add) (a.0, entries_to-holds q at xs ys w.2 a.1 h')

pub take-leads : (k : ℕ) (log : Log) → Leads (take k log) log
take-leads zero log = tt
take-leads (suc k) [] = tt
take-leads (suc k) (x ∷ xs) = (refl, take-leads k xs)

pub max-either : (P : ℕ → Type 0) (a b : ℕ) → P a → P b → P (max a b)
max-either P a b x y = elim (either a b) [ inl e ↦ subst P (sym e) x | inr e ↦ subst P (sym e) y ]
  where
    either : (a b : ℕ) → (max a b ≡ a) ⊎ (max a b ≡ b)
    either a b = grind arith

-- the greatest of the numbers that pass, from a least one on, is that one or passes
abbrev IsLeastOr : (ℕ → Bool) → ℕ → ℕ → Type 0
IsLeastOr test least r = (r ≡ least) ⊎ (test r ≡ true)

fold-max : (test : ℕ → Bool) (least : ℕ) (rs : List ℕ) → IsLeastOr test least (fold max least (filter test rs))
fold-max test least [] = inl refl
fold-max test least (r ∷ rs) = at test least r rs (test r) refl (fold-max test (max least r) rs) (fold-max test least rs)
  where
    at : (test : ℕ → Bool) (least r : ℕ) (rs : List ℕ) (b : Bool) → test r ≡ b → IsLeastOr test (max least r) (fold max (max least r) (filter test rs)) → IsLeastOr test least (fold max least (filter test rs))
        → IsLeastOr test least (fold max least (if b then r ∷ filter test rs else filter test rs))
    at test least r rs true e h k = elim h [
      | inl same ↦ max-either (λ z. fold max (max least r) (filter test rs) ≡ z → IsLeastOr test least (fold max (max least r) (filter test rs))) least r (λ s. inl s) (λ s. inr (ap test s ∙ e)) same
      | inr pass ↦ inr pass
    ]
    at test least r rs false e h k = k

-- where the quorum position is above 0, a quorum of the reports reach it
pub quorum_position-reached : (rs : List ℕ) → 0 < quorum_position rs → is_quorum (length rs) (count_by (nat_le (quorum_position rs)) rs) ≡ true
quorum_position-reached rs h = elim (fold-max (λ q. is_quorum (length rs) (count_by (nat_le q) rs)) 0 rs) [ inl z ↦ absurd (omega (arith, h, z)) | inr pass ↦ pass ]

-- what the member k reported
abbrev pub report : ℕ → ℕ → List (Option ℕ) → ℕ → ℕ
report id own acked k = if nat_eq k id then own else unwrap_or (slice_index_or acked k None) 0

pub length-reports : (n id own : ℕ) (acked : List (Option ℕ)) → length (reports n id own acked) ≡ n
length-reports zero id own acked = refl
length-reports (suc n) id own acked =
    let h = length-reports n id own acked in
    let a = length-append (reports n id own acked) (report id own acked n ∷ []) in
    omega (arith, h, a)

count-last : (test : ℕ → Bool) (xs : List ℕ) (x : ℕ) → count_by test (xs ++ x ∷ []) ≡ count_by test xs + (if test x then 1 else 0)
count-last test [] x = sum_by-cons (λ r. if test r then 1 else 0) x [] ∙ at (test x)
  where
    at : (b : Bool) → (if b then 1 else 0) + 0 ≡ 0 + (if b then 1 else 0)
    at true = omega arith
    at false = omega arith
count-last test (y ∷ ys) x =
    sum_by-cons (λ r. if test r then 1 else 0) y (ys ++ x ∷ [])
    ∙ (let h = count-last test ys x in let d = sum_by-cons (λ r. if test r then 1 else 0) y ys in omega (arith, h, d))

pub count-reports : (n id own q : ℕ) (acked : List (Option ℕ)) → count_by (nat_le q) (reports n id own acked) ≡ count_below n (λ k. nat_le q (report id own acked k))
count-reports zero id own q acked = refl
count-reports (suc n) id own q acked =
    count-last (nat_le q) (reports n id own acked) (report id own acked n)
    ∙ ap (λ c. c + (if nat_le q (report id own acked n) then 1 else 0)) (count-reports n id own q acked)

-- the entries that end at most at the place of the log's first k entries are these
pub entries_to-take : (p k : ℕ) (log : Log) → IsWritten log → k ≤ length log → entries_to_from p (place_from p (take k log)) log ≡ k
entries_to-take p zero [] w h = refl
entries_to-take p zero (x ∷ xs) w h =
    let later : nat_le (end_after p (length x.bytes)) p ≡ false = (let a = end_after-past p (length x.bytes) w.0 in grind (arith, nat_tests, a)) in
    rw later refl
entries_to-take p (suc k) [] w h = absurd (omega (arith, h))
entries_to-take p (suc k) (x ∷ xs) w h =
    let q = end_after p (length x.bytes) in
    let up = place_from-up q (take k xs) (IsWritten-front (take k xs) xs (take-leads k xs) w.2) in
    let ends : nat_le q (place_from q (take k xs)) ≡ true = grind (arith, nat_tests, up) in
    let more = entries_to-take q k xs w.2 (omega (arith, h)) in
    rw ends (omega (arith, more))

entries_to-up : (p a b : ℕ) (log : Log) → a ≤ b → entries_to_from p a log ≤ entries_to_from p b log
entries_to-up p a b [] h = omega arith
entries_to-up p a b (x ∷ xs) h = at (nat_le (end_after p (length x.bytes)) a) (nat_le (end_after p (length x.bytes)) b) refl refl (entries_to-up (end_after p (length x.bytes)) a b xs h)
  where
    at : (c d : Bool) → nat_le (end_after p (length x.bytes)) a ≡ c → nat_le (end_after p (length x.bytes)) b ≡ d
        → entries_to_from (end_after p (length x.bytes)) a xs ≤ entries_to_from (end_after p (length x.bytes)) b xs
        → (if c then 1 + entries_to_from (end_after p (length x.bytes)) a xs else 0) ≤ (if d then 1 + entries_to_from (end_after p (length x.bytes)) b xs else 0)
    at true true e f k = omega (arith, k)
    at false true e f k = omega arith
    at false false e f k = omega arith
    at true false e f k = absurd (grind (arith, nat_tests, e, f, h))

-- a commit that rises by places is one that rises by entries
pub rises-by_place : (log : Log) (commit own_end q : ℕ) → IsWritten log → commit ≤ length log
    → (if nat_le own_end q then max commit (entries_to q log) else commit) ≡ entries_to (place_commit (place (take commit log)) own_end q) log
rises-by_place log commit own_end q w h = at (nat_le own_end q) (nat_lt (place (take commit log)) q) refl
  where
    same : entries_to (place (take commit log)) log ≡ commit
    same = entries_to-take 0 commit log w h

    at : (b d : Bool) → nat_lt (place (take commit log)) q ≡ d → (if b then max commit (entries_to q log) else commit) ≡ entries_to (if b && d then q else place (take commit log)) log
    at false d e = sym same
    at true true e = (let a = entries_to-up 0 (place (take commit log)) q log (grind (arith, nat_tests, e)) in let c = same in grind (arith, a, c))
    at true false e = (let a = entries_to-up 0 q (place (take commit log)) log (grind (arith, nat_tests, e)) in let c = same in let m = max-is commit (entries_to q log) (omega (arith, a, c)) in m ∙ sym c)
      where
        max-is : (a b : ℕ) → b ≤ a → max a b ≡ a
        max-is a b h = grind (arith, h)
