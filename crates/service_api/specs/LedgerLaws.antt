-- What is true of every ledger.
use Rattle.std.proofs.Common.{◌≡◌, ℕ, ◌+◌, ◌-◌, ◌^◌, ◌<◌, ◌≤◌, ◌==◌, min, true, false, List, [], ◌∷◌, ◌++◌, length, append-nil, Ok, refl, sym, ◌∙◌, ap, arith}
use Rattle.std.specs.Prelude.{nat_lt}
use Rattle.std.proofs.lemmas.Bool.{cond_both, ltb-true}
use Rattle.std.proofs.lemmas.List.{length-append}
use Rattle.wire_prims.specs.Fields.{le64, u64_at, length-le64, u64_at-put}
use Rattle.sbe_events.specs.declared.event.Event.{Event}
use Rattle.sbe_events.specs.declared.event.Event.TheVariants as events
use Rattle.service_api.specs.declared.output.Output.{Output}
use Rattle.service_api.specs.Ledger.{Books, added, audited, entered, spelled_books, restored_books, IsKept}

pub books_take_16 : (b : Books) → length (spelled_books b) ≡ 16
books_take_16 b = omega (arith, length-append (le64 b.total) (le64 b.audits), length-le64 b.total, length-le64 b.audits)

pub books_kept : (b : Books) (e : Event) → IsKept b → IsKept (entered b e).0
books_kept b (events.Message term session stamp payload) kept =
    cond_both (length payload == 8) (added b session (u64_at 0 payload)) (b, []) (λ (r : Books × List Output). IsKept r.0)
    (λ _. cond_both (nat_lt (b.total + u64_at 0 payload) (2 ^ 64)) _ _ (λ (r : Books × List Output). IsKept r.0) (λ fits. (ltb-true _ _ fits, kept.1)) (λ _. kept))
    (λ _. kept)
books_kept b (events.ServiceMessage term service number stamp payload) kept =
    cond_both (length payload == 8) (audited b, []) (b, []) (λ (r : Books × List Output). IsKept r.0) (λ _. (kept.0, omega arith)) (λ _. kept)
books_kept b _ kept = kept

-- records restore the books
pub books_restored : (b : Books) → IsKept b → restored_books (spelled_books b) ≡ Ok b
books_restored b kept =
    let total : u64_at 0 (spelled_books b) ≡ b.total = u64_at-put 0 b.total [] (le64 b.audits) refl kept.0 in
    let tail : spelled_books b ≡ le64 b.total ++ (le64 b.audits ++ []) = ap (λ l. le64 b.total ++ l) (sym (append-nil (le64 b.audits))) in
    let audits : u64_at 8 (spelled_books b) ≡ b.audits = ap (u64_at 8) tail ∙ u64_at-put 8 b.audits (le64 b.total) [] (length-le64 b.total) kept.1 in
    rw (books_take_16 b) (λ i. Ok (record { total = total i; audits = audits i }))
