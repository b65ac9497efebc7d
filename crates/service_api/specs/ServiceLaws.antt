-- A service over stretches of entries, one behind the other.
use Rattle.std.proofs.Common.{◌≡◌, ℕ, suc, ◌+◌, List, [], ◌∷◌, ◌++◌, length, append_assoc, None, Some, refl, sym, ◌∙◌, ap, arith}
use Rattle.cl_base.specs.declared.entry.Entry.{Entry}
use Rattle.wire_prims.specs.declared.fault.Bad.{Bad}
use Rattle.sbe_events.specs.Spelling.{event_of, first_fault}
use Rattle.service_api.specs.declared.output.Output.{Output}
use Rattle.service_api.specs.declared.shipped.Shipped.{Shipped}
use Rattle.service_api.specs.Service.{at_entry, state_from, numbered, outbox_from}

further : (i n : ℕ) → i + 1 + n ≡ i + suc n
further i n = omega arith

-- the state after both
pub state_twice : (s : Shipped) (i : ℕ) (xs ys : List Entry) → state_from s i (xs ++ ys) ≡ state_from (state_from s i xs) (i + length xs) ys
state_twice s i [] ys = ap (λ k. state_from s k ys) (omega arith)
state_twice s i (x ∷ xs) ys = state_twice (at_entry s i x).0 (i + 1) xs ys ∙ ap (λ k. state_from (state_from s i (x ∷ xs)) k ys) (further i (length xs))

-- what comes out of both
pub outbox_twice : (s : Shipped) (i : ℕ) (xs ys : List Entry) → outbox_from s i (xs ++ ys) ≡ outbox_from s i xs ++ outbox_from (state_from s i xs) (i + length xs) ys
outbox_twice s i [] ys = ap (λ k. outbox_from s k ys) (omega arith)
outbox_twice s i (x ∷ xs) ys =
    ap (λ l. numbered i (at_entry s i x).1 ++ l)
    (outbox_twice (at_entry s i x).0 (i + 1) xs ys
    ∙ ap (λ k. outbox_from (at_entry s i x).0 (i + 1) xs ++ outbox_from (state_from s i (x ∷ xs)) k ys) (further i (length xs)))
    ∙ sym (append_assoc (numbered i (at_entry s i x).1) (outbox_from (at_entry s i x).0 (i + 1) xs) (outbox_from (state_from s i (x ∷ xs)) (i + length (x ∷ xs)) ys))

-- bytes with a fault are no event
pub no_event : (bytes : List ℕ) (b : Bad) → first_fault bytes ≡ Some b → event_of bytes ≡ None
unfolding event_of
no_event bytes b fault = rw fault refl
