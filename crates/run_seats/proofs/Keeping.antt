-- What the services of a run that ends consumed, one after the other.
use Rattle.std.proofs.Common.{◌≡◌, inl, inr, ℕ, ◌+◌, ◌<◌, false, List, [], ◌∷◌, ◌++◌, length, map, take, get_or, sym, ap, ◌∙◌, append_assoc, add-one, arith}
use Rattle.std.specs.Prelude.{slice_get}
use Rattle.std.proofs.Math.Seq.{take-suc}
use Rattle.std.proofs.lemmas.List.{get_or-map, length-map, map-append}
use Rattle.std.proofs.lemmas.Option.{slice_get_cases}
use Rattle.service_container.specs.Held.{Held}
use Rattle.consensus_agent.specs.Consumed.{inputs_of}
use Rattle.member_rows.specs.Places.{run_ended}
use Rattle.run_orders.specs.Stands.{EndedSeen, UpSeen}
use Rattle.run_seats.specs.Seats.{ended_seen}
use Rattle.run_seats.specs.declared.ended.ServiceRun.{ServiceRun}

abbrev ended_in : ℕ → Held → EndedSeen
ended_in base c = record { from = base; inputs = c.inputs }

next_of : (base n : ℕ) (cs : List Held) (c : Held) → n < length cs → get_or cs n c ≡ c → take (n + 1) (map (ended_in base) cs) ≡ take n (map (ended_in base) cs) ++ ended_in base c ∷ []
next_of base n cs c lt got =
    let long : n < length (map (ended_in base) cs) = omega (arith, length-map cs (ended_in base)) in
    let e : get_or (map (ended_in base) cs) n (ended_in base c) ≡ ended_in base c = get_or-map (ended_in base) cs n c (ended_in base c) lt ∙ ap (ended_in base) got in
    rw add-one (take-suc (map (ended_in base) cs) n (ended_in base c) long ∙ ap (λ x. take n (map (ended_in base) cs) ++ x ∷ []) e)

-- one service more
pub kept_more : {D : Type 0} (u : UpSeen D) (n : ℕ) (xs ys : List ServiceRun) (r : ServiceRun) (old : List EndedSeen) → ys ≡ xs ++ r ∷ [] → n < length u.lending.kept → map ended_seen xs ≡ old ++ take n (run_ended u false) → r.from ≡ u.base → r.inputs ≡ inputs_of (slice_get u.lending.kept n)
    → map ended_seen ys ≡ old ++ take (n + 1) (run_ended u false)
kept_more u n xs ys r old push lt have from inputs =
    elim ((slice_get_cases u.lending.kept n).1) as (λ _. map ended_seen ys ≡ old ++ take (n + 1) (run_ended u false)) [
      | inl some ↦
          let c = some.0 in
          let seen : ended_seen r ≡ ended_in u.base c = λ i. record { from = from i; inputs = (inputs ∙ ap inputs_of some.2) i } in
          ap (map ended_seen) push ∙ map-append ended_seen xs (r ∷ []) ∙ ap (λ l. l ++ ended_seen r ∷ []) have ∙ append_assoc old (take n (run_ended u false)) (ended_seen r ∷ [])
          ∙ ap (λ l. old ++ l) (ap (λ e. take n (run_ended u false) ++ e ∷ []) seen ∙ sym (next_of u.base n u.lending.kept c lt some.3))
      | inr none ↦ absurd (let low = none.0 in omega arith)
    ]
