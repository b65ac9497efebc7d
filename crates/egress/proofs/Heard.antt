-- What a client learns from the message that bytes read as, or from bytes that read as none.
use Rattle.std.proofs.Common.{◌≡◌, ℕ, List, Option, Some, None, refl, sym, ap, ◌∙◌, drop, unsigned_abs}
use Rattle.wire_prims.specs.Fields.{u16_at, i32_at, i64_at}
use Rattle.wire_prims.specs.declared.fault.Bad.{Bad}
use Rattle.sbe_client.specs.Reading.{ReadsEgress, block_end, first_fault_egress}
use Rattle.sbe_client.specs.declared.egress.Egress.{Egress}
use Rattle.sbe_client.specs.declared.egress.Egress.TheVariants as egress
use Rattle.egress.specs.declared.known.Known.{Known}
use Rattle.egress.specs.Streams.{told, told_unless, by_template, value_of, learns}

-- what bytes read as is what stands in them
read_is : (bytes : List ℕ) (m : Egress) → ReadsEgress bytes m → value_of bytes ≡ m
read_is bytes (egress.Message term session stamp payload) r =
    let a = r.1 in let b = r.2 in let c = r.3 in let d = r.4 in
    let here : egress.Message (i64_at 8 bytes) (i64_at 16 bytes) (i64_at 24 bytes) (drop (block_end bytes) bytes) ≡ egress.Message term session stamp payload = cc in
    ap (λ t. by_template t bytes) r.0.template_is ∙ here
read_is bytes (egress.SessionEvent session corr term leader code) r =
    let a = r.1 in let b = r.2 in let c = r.3 in let d = r.4 in
    let e : unsigned_abs (i32_at 36 bytes) ≡ code = ap unsigned_abs (sym r.5) in
    let here : egress.SessionEvent (i64_at 8 bytes) (i64_at 16 bytes) (i64_at 24 bytes) (i32_at 32 bytes) (unsigned_abs (i32_at 36 bytes)) ≡ egress.SessionEvent session corr term leader code = cc in
    ap (λ t. by_template t bytes) r.0.template_is ∙ here
read_is bytes (egress.NewLeader term session leader) r =
    let a = r.1 in let b = r.2 in let c = r.3 in
    let here : egress.NewLeader (i64_at 8 bytes) (i64_at 16 bytes) (i32_at 24 bytes) ≡ egress.NewLeader term session leader = cc in
    ap (λ t. by_template t bytes) r.0.template_is ∙ here

-- bytes that have no fault and read as a message
pub learns_read : (k : Known) (bytes : List ℕ) (m : Egress) → first_fault_egress bytes ≡ None → ReadsEgress bytes m → learns k bytes ≡ told k m
unfolding learns
learns_read k bytes m e r = ap (λ o. told_unless o k (value_of bytes)) e ∙ ap (told k) (read_is bytes m r)

-- bytes that have a fault
pub learns_none : (k : Known) (bytes : List ℕ) (bad : Bad) → first_fault_egress bytes ≡ Some bad → learns k bytes ≡ k
unfolding learns
learns_none k bytes bad e = ap (λ o. told_unless o k (value_of bytes)) e

by_fault : (k : Known) (m : Egress) (o : Option Bad) → told k m ≡ k → told_unless o k m ≡ k
by_fault k m None e = e
by_fault k m (Some bad) e = refl

-- a service's message tells nothing
pub learns_message : (k : Known) (bytes : List ℕ) → u16_at 2 bytes ≡ 1 → learns k bytes ≡ k
unfolding learns
learns_message k bytes e = by_fault k (value_of bytes) (first_fault_egress bytes) (ap (λ t. told k (by_template t bytes)) e)

-- no fault is the first
pub no_fault : (o : Option Bad) → ((bad : Bad) → o ≡ Some bad → ⊥) → o ≡ None
no_fault None h = refl
no_fault (Some bad) h = absurd (h bad refl)
