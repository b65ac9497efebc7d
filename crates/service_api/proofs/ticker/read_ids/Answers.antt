use Rattle.std.proofs.Common.{rules, arith, refl, sym, ap, subst, ◌∙◌, ◌≡◌, ◌+◌, ◌*◌, ◌<◌, ℕ, zero, suc, ℤ, List, length, w64, FitsSigned, false, true, Option, Some, Result, Ok, Err, OnOk}
use Rattle.std.specs.Result.{is_err}
use Rattle.std.specs.Ordering.{int_cmp}
use Rattle.std.specs.BTreeMap.{insert_entry}
use Rattle.std.specs.Map.{keys_of}
use Rattle.std.specs.List.Sorted.{IsStrictlySortedBy}
use Rattle.std.proofs.lemmas.Int.{to_z-of_z}
use Rattle.wire_prims.specs.declared.fault.Bad.{Bad}
use Rattle.service_api.specs.Ticker.{Ids, pair_at, rises}
use Rattle.service_api.specs.TickerLaws.{HasRead, read_none, read_more}
use Rattle.service_api.proofs.ticker.read_ids.Goals as goal

at_ok : {A B : Type 0} (r : Result A B) (P : Type 0) → is_err r ≡ false → OnOk r P → P
at_ok (Ok x) P isnt p = p
at_ok (Err e) P isnt p = cc

one_more : (said : Result Ids Bad) (count i n : ℕ) (last : Option ℤ) (bytes : List ℕ) (es kept : Ids) (k v : ℤ) → count ≡ i + n → i < count → HasRead said n (4 + 16 * i) last bytes es → length es ≡ i
    → pair_at (4 + 16 * i) last bytes ≡ Ok (k, v) → rises last k ≡ true → FitsSigned w64 k → FitsSigned w64 v → kept ≡ insert_entry int_cmp es k v → IsStrictlySortedBy int_cmp (keys_of kept)
    → (x : ℕ) × (count ≡ i + 1 + x) × HasRead said x (4 + 16 * (i + 1)) (Some k) bytes kept × (length kept ≡ i + 1)
one_more said count i zero last bytes es kept k v is lt h len pair rising fk fv inserted sorted = absurd (omega arith)
one_more said count i (suc m) last bytes es kept k v is lt h len pair rising fk fv inserted sorted =
    let r = read_more said m (4 + 16 * i) last bytes es kept k v h pair rising fk fv inserted sorted in
    let at : 4 + 16 * i + 16 ≡ 4 + 16 * (i + 1) = omega arith in
    (m, omega arith, subst (λ a. HasRead said m a (Some k) bytes kept) at r.0, r.1 ∙ ap (λ n. n + 1) len)

pub loop-i-init : goal.loop-i-init
loop-i-init c = rw c.new-ids.ensures.empty (c.args.count, omega arith, read_none c.args.count c.args.bytes.now, refl)

pub loop-i-preserved : goal.loop-i-preserved
loop-i-preserved c =
    let h = c.loop-i.invariant in
    let id : FitsSigned w64 c.in_ok-id.id = search rules in
    let session : FitsSigned w64 c.in_ok-id.session = search rules in
    let inserted = at_ok c.insert.result _ (sym c.is_err.ensures.value ∙ c.if-is_err.false) c.insert.ensures.entries in
    rw (to_z-of_z w64 c.in_ok-id.id id)
    (one_more _ _ _ h.0 _ _ _ _ _ c.in_ok-id.session h.1 c.loop-i-test.true h.2 h.3 c.in_ok-id.ensures.pair c.in_ok-id.ensures.rises id session (simp to_z-of_z at inserted) c.insert.ensures.ordered)
