-- Entries are taken one after the other.
use Rattle.std.proofs.Common.{◌≡◌, ℕ, zero, suc, ◌+◌, List, [], ◌∷◌, ◌++◌, take, refl, ap, sym, ◌∙◌, arith, add-one, add-zero, append_assoc}
use Rattle.std.proofs.lemmas.List.{append-nil}
use Rattle.std.specs.Prelude.{slice_get}
use Rattle.commit_counter.specs.declared.role.Role.{Role}
use Rattle.sbe_events.specs.declared.event.Event.{Event}
use Rattle.module_state.specs.Module.{Module}
use Rattle.owed_egress.specs.Taken.{Outboxes, module_at, module_with, module_over, sent_at, sent_with, sent_over}

further : (i n : ℕ) → (i + 1) + n ≡ i + suc n
further i n = omega arith

over_suc : (bs : Outboxes) (i n : ℕ) (m : Module) (es : List Event) → module_over bs i m (take (suc n) es) ≡ module_with bs (i + n) (module_over bs i m (take n es)) (slice_get es n)
over_suc bs i zero m [] = refl
over_suc bs i (suc n) m [] = refl
over_suc bs i zero m (e ∷ es) = ap (λ k. module_at bs k m e) (sym (add-zero i))
over_suc bs i (suc n) m (e ∷ es) =
    over_suc bs (i + 1) n (module_at bs i m e) es ∙ ap (λ k. module_with bs k (module_over bs (i + 1) (module_at bs i m e) (take n es)) (slice_get es n)) (further i n)

-- over one entry more
pub over_next : (bs : Outboxes) (i n : ℕ) (m : Module) (es : List Event) → module_over bs i m (take (n + 1) es) ≡ module_with bs (i + n) (module_over bs i m (take n es)) (slice_get es n)
over_next bs i n m es = ap (λ k. module_over bs i m (take k es)) (add-one n) ∙ over_suc bs i n m es

sent_suc : (role : Role) (bs : Outboxes) (i n : ℕ) (m : Module) (es : List Event)
    → sent_over role bs i m (take (suc n) es) ≡ sent_over role bs i m (take n es) ++ sent_with role bs (i + n) (module_over bs i m (take n es)) (slice_get es n)
sent_suc role bs i zero m [] = refl
sent_suc role bs i (suc n) m [] = refl
sent_suc role bs i zero m (e ∷ es) = append-nil (sent_at role bs i m e) ∙ ap (λ k. sent_at role bs k m e) (sym (add-zero i))
sent_suc role bs i (suc n) m (e ∷ es) =
    ap (λ l. sent_at role bs i m e ++ l) (sent_suc role bs (i + 1) n (module_at bs i m e) es)
    ∙ ap (λ k. sent_at role bs i m e ++ (sent_over role bs (i + 1) (module_at bs i m e) (take n es) ++ sent_with role bs k (module_over bs (i + 1) (module_at bs i m e) (take n es)) (slice_get es n))) (further i n)
    ∙ sym (append_assoc (sent_at role bs i m e) (sent_over role bs (i + 1) (module_at bs i m e) (take n es)) (sent_with role bs (i + suc n) (module_over bs (i + 1) (module_at bs i m e) (take n es)) (slice_get es n)))

pub sent_next : (role : Role) (bs : Outboxes) (i n : ℕ) (m : Module) (es : List Event)
    → sent_over role bs i m (take (n + 1) es) ≡ sent_over role bs i m (take n es) ++ sent_with role bs (i + n) (module_over bs i m (take n es)) (slice_get es n)
sent_next role bs i n m es = ap (λ k. sent_over role bs i m (take k es)) (add-one n) ∙ sent_suc role bs i n m es
