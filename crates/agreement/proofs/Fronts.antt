-- A front of a log: what is settled of it, its length and its place.
use Rattle.std.proofs.Common.{◌≡◌, ◌≢◌, inl, inr, ℕ, zero, suc, ◌<◌, ◌≤◌, [], ◌∷◌, ◌++◌, length, take, refl, sym, subst, arith, ℤ}
use Rattle.std.proofs.lemmas.Bool.{cases_lt}
use Rattle.cl_base.specs.declared.entry.Entry.{Entry}
use Rattle.entry_log.specs.Log.{Log, last_from, place}
use Rattle.entry_log.specs.Log.{IsWritten}
use Rattle.entry_log.specs.Places.{place_from-none}
use Rattle.log_replication.specs.Prefixes.{Leads, is_prefix}
use Rattle.world.specs.World.{World}
use Rattle.agreement.specs.View.{IsSettled, view_of}
use Rattle.agreement.proofs.Opens.{prefix-trans}

-- a prefix of what is settled is settled
pub settled-front : (w : World) (c : ℤ) (xs ys : Log) → Leads xs ys → IsSettled (view_of w) c ys → IsSettled (view_of w) c xs
settled-front w c [] ys p s = inl refl
settled-front w c (x ∷ xs) ys p (inl e) = absurd (subst (Leads (x ∷ xs)) e p)
settled-front w c (x ∷ xs) ys p (inr s) = inr (s.0, s.1, s.2, s.3, prefix-trans (x ∷ xs) ys s.1 (is_prefix (x ∷ xs) ys p) s.4)

pub take-front : (k : ℕ) (xs ys : Log) → Leads xs ys → k ≤ length xs → take k ys ≡ take k xs
take-front zero xs ys p h = refl
take-front (suc k) [] ys p h = absurd (omega (arith, h))
take-front (suc k) (x ∷ xs) [] p h = absurd p
take-front (suc k) (x ∷ xs) (y ∷ ys) p h = (λ i. sym p.0 i ∷ take-front k xs ys p.1 (omega (arith, h)) i)

pub length-up : (xs ys : Log) → Leads xs ys → length xs ≤ length ys
length-up [] ys p = omega arith
length-up (x ∷ xs) [] p = absurd p
length-up (x ∷ xs) (y ∷ ys) p = (let h = length-up xs ys p.1 in omega (arith, h))

pub place-some : (xs : Log) → IsWritten xs → xs ≢ [] → 0 < place xs
place-some xs w h = elim (cases_lt 0 (place xs)) [ inl a ↦ a | inr b ↦ absurd (h (place_from-none 0 xs w b)) ]

pub last-snoc : (u : ℤ) (xs : Log) (x : Entry) → last_from u (xs ++ x ∷ []) ≡ x.term
last-snoc u [] x = refl
last-snoc u (y ∷ ys) x = last-snoc y.term ys x

pub Leads-append-front : (xs ys zs : Log) → Leads ys zs → Leads (xs ++ ys) (xs ++ zs)
Leads-append-front [] ys zs p = p
Leads-append-front (x ∷ xs) ys zs p = (refl, Leads-append-front xs ys zs p)
