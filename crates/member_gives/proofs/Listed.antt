-- What is printed of a log, of which a front is printed.
use Rattle.std.proofs.Common.{◌≡◌, ℕ, zero, suc, ◌+◌, ◌-◌, ◌<◌, ◌≤◌, Bool, true, false, List, [], ◌∷◌, ◌++◌, length, take, drop, refl, sym, ap, ◌∙◌, subst, arith, if◌then◌else◌}
use Rattle.std.specs.Prelude.{nat_le, nat_lt}
use Rattle.std.proofs.lemmas.Bool.Decides.{nat_tests}
use Rattle.std.proofs.lemmas.List.{append-nil, drop-drop}
use Rattle.cl_base.specs.declared.entry.Entry.{Entry}
use Rattle.entry_log.specs.Log.{Log}
use Rattle.log_replication.specs.Prefixes.{Leads, Leads-trans}
use Rattle.agreement.proofs.Commits.{take-leads}
use Rattle.service_runs.specs.Hosts.{longer}
use Rattle.service_runs.proofs.Lists.{take-length, take-short}
use Rattle.run_outside.specs.Gives.{newly}

front-is : (xs ys : Log) → Leads xs ys → xs ≡ take (length xs) ys
front-is [] ys p = refl
front-is (x ∷ xs) [] p = absurd p
front-is (x ∷ xs) (y ∷ ys) p = ap (λ (z : Entry). z ∷ xs) p.0 ∙ ap (λ (l : Log). y ∷ l) (front-is xs ys p.1)

take-none : (k : ℕ) → take {A = Entry} k [] ≡ []
take-none zero = refl
take-none (suc k) = refl

take-more : (n k : ℕ) (log : Log) → take n log ++ take k (drop n log) ≡ take (n + k) log
take-more zero k log = ap (λ (j : ℕ). take j log) (none k)
  where
    none : (k : ℕ) → k ≡ 0 + k
    none k = omega arith
take-more (suc n) k [] = take-none k ∙ sym (take-none (suc n + k))
take-more (suc n) k (x ∷ xs) = ap (λ (l : Log). x ∷ l) (take-more n k xs) ∙ ap (λ (j : ℕ). take j (x ∷ xs)) (more n k)
  where
    more : (n k : ℕ) → suc (n + k) ≡ suc n + k
    more n k = omega arith

-- where the entries that aren't printed are ahead, the log is printed up to its commit
further : (p log : Log) (applied commit : ℕ) → applied ≤ length p → length p ≤ commit → Leads p (take commit log) → p ++ newly applied (drop applied log) commit (length p) ≡ take commit log
further p log applied commit low short lead =
    let n = length p in
    let k = commit - n in
    let le : nat_le applied n ≡ true = grind (arith, nat_tests, low) in
    let given : newly applied (drop applied log) commit n ≡ take k (drop n log) =
    ap (λ (b : Bool). if b then take k (drop (n - applied) (drop applied log)) else []) le
    ∙ ap (take k) (drop-drop (n - applied) applied log ∙ ap (λ (j : ℕ). drop j log) (omega (arith, low))) in
    let front : p ≡ take n log = front-is p log (Leads-trans p (take commit log) log lead (take-leads commit log)) in
    ap (λ (l : Log). p ++ l) given
    ∙ ap (λ (l : Log). l ++ take k (drop n log)) front
    ∙ take-more n k log
    ∙ ap (λ (j : ℕ). take j log) (omega (arith, short))

-- where all that is committed is printed, nothing more is
nothing : (p ahead : Log) (applied commit : ℕ) → commit ≤ length p → p ++ newly applied ahead commit (length p) ≡ p
nothing p ahead applied commit all =
    let n = length p in
    let none : commit - n ≡ 0 = omega (arith, all) in
    ap (λ (k : ℕ). p ++ (if nat_le applied n then take k (drop (n - applied) ahead) else [])) none ∙ ap (λ (l : Log). p ++ l) (both (nat_le applied n)) ∙ append-nil p
  where
    both : (b : Bool) → (if b then take 0 (drop (length p - applied) ahead) else []) ≡ []
    both true = refl
    both false = refl

pub prints-on : (p log : Log) (applied commit : ℕ) → applied ≤ length p → commit ≤ length log → Leads p (longer p (take commit log)) → p ++ newly applied (drop applied log) commit (length p) ≡ longer p (take commit log)
prints-on p log applied commit low within lead = at (nat_lt (length p) (length (take commit log))) refl
  where
    at : (b : Bool) → nat_lt (length p) (length (take commit log)) ≡ b → p ++ newly applied (drop applied log) commit (length p) ≡ longer p (take commit log)
    at true b =
        let e : longer p (take commit log) ≡ take commit log = ap (λ (c : Bool). if c then take commit log else p) b in
        let lt : length p < length (take commit log) = grind (arith, nat_tests, b) in
        let top = take-short commit log in
        further p log applied commit low (omega (arith, lt, top)) (subst (Leads p) e lead) ∙ sym e
    at false b =
        let e : longer p (take commit log) ≡ p = ap (λ (c : Bool). if c then take commit log else p) b in
        let ge : length (take commit log) ≤ length p = grind (arith, nat_tests, b) in
        let len = take-length commit log within in
        nothing p (drop applied log) applied commit (omega (arith, ge, len)) ∙ sym e
