use Rattle.std.proofs.Common.{rules, arith, ap, ◌∙◌, sym, ◌≡◌, ◌+◌, ◌≤◌, ◌||◌, ℕ, ℤ, w64, Bool, true, false, Ok, Err, Option, Some, None, length, subst, is_some, refl, if◌then◌else◌}
use Rattle.std.specs.Prelude.{nat_lt}
use Rattle.std.proofs.lemmas.Bool.{ltb-true}
use Rattle.std.proofs.lemmas.Int.{to_z-of_z}
use Rattle.service_api.specs.Ticker.{Ids, IsTable, session_of, has_room}
use Rattle.service_api.specs.TickerLaws.{fit_insert}
use Rattle.service_api.proofs.ticker.Ticker.put.Goals as goal
use Rattle.service_api.proofs.ticker.Ticker.put.Goals.{in-Ok, in-Err}

few : (n m : ℕ) (old : Option ℤ) → (nat_lt n 4096 || is_some old) ≡ true → n ≤ 4096 → m ≡ n + (if is_some old then 0 else 1) → m ≤ 4096
few n m (Some x) room le is = omega arith
few n m None room le is = let lt = ltb-true n 4096 (some room) in omega arith
  where
    some : (nat_lt n 4096 || false) ≡ true → nat_lt n 4096 ≡ true
    some e = elim (nat_lt n 4096) as (λ b. (b || false) ≡ true → b ≡ true) [ true ↦ λ h. refl | false ↦ λ h. h ] e

pub invariant_of-self : goal.invariant_of-self
invariant_of-self c =
    let id = to_z-of_z w64 c.args.id c.ranges.id in
    let session = to_z-of_z w64 c.args.session c.ranges.session in
    elim c.match-insert.branch [
      | in-Ok w ↦ record {
        rising = w.in-Ok.ensures.ordered;
        few = few _ _ w.in-Ok.field-0
            (ap (λ o. nat_lt (length c.self.inside.ids.entries) 4096 || is_some o) (w.in-Ok.ensures.old ∙ ap (session_of c.self.inside.ids.entries) id) ∙ ap (λ (ids : Ids). has_room ids c.args.id) c.self.view_is ∙ c.requires)
            c.self.invariant.few w.in-Ok.ensures.len;
        fit = rw (w.in-Ok.ensures.entries, id, session) (fit_insert _ _ _ c.self.invariant.fit c.ranges.id c.ranges.session);
      }
      | in-Err w ↦ rw (w.in-Err.ensures.err) c.self.invariant
    ]
