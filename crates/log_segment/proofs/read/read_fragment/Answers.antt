-- What the window shows is put behind.
use Rattle.std.proofs.Common.{◌≡◌, ℕ, ◌+◌, ◌-◌, ◌≤◌, List, ◌++◌, length, take, drop, sym, ◌∙◌, ap, arith, length-append, length-take, length-drop}
use Rattle.std.proofs.lemmas.List.{ext_get_or, get_or-take, get_or-drop, get_or_append_left}
use Rattle.log_segment.proofs.read.read_fragment.Goals as goal

take_front : (k n : ℕ) (w rest : List ℕ) → k ≡ n → 32 + n ≤ length w → take k (drop 32 (w ++ rest)) ≡ take n (drop 32 w)
take_front k n w rest is fits =
    ext_get_or 0 (take k (drop 32 (w ++ rest))) (take n (drop 32 w)) (omega (arith, length-take k (drop 32 (w ++ rest)), length-take n (drop 32 w), length-drop 32 (w ++ rest), length-drop 32 w, length-append w rest))
    (λ i within.
    let len = length-take k (drop 32 (w ++ rest)) in
    get_or-take k (drop 32 (w ++ rest)) i 0 (omega arith) ∙ get_or-drop 32 (w ++ rest) i 0 ∙ get_or_append_left w rest 0 (32 + i) (omega arith) ∙ sym (get_or-drop 32 w i 0) ∙ sym (get_or-take n (drop 32 w) i 0 (omega arith)))

pub returns-in-Ok-extend_from_slice-clause-gives : goal.returns-in-Ok-extend_from_slice-clause-gives
returns-in-Ok-extend_from_slice-clause-gives g c told =
    let w = c.read_into.new.window in
    let n = c.args.carried in
    let size = c.read_into.ensures.size in
    let fits : 32 + n ≤ length w = omega (arith, size) in
    let part_is : c.part.result.now ≡ take n (drop 32 w) = c.part.ensures ∙ take_front (32 + n - 32) n w _ (omega arith) fits in
    record {
      body = take n (drop 32 w);
      size = omega (arith, length-take n (drop 32 w), length-drop 32 w, fits);
      put = c.in-Ok-extend_from_slice.ensures.items ∙ ap (λ l. c.args.out.now.items ++ l) part_is;
      stands = c.in-Ok.ensures.gives told;
    }

pub returns-in-Ok-extend_from_slice-clause-size : goal.returns-in-Ok-extend_from_slice-clause-size
returns-in-Ok-extend_from_slice-clause-size g c =
    let w = c.read_into.new.window in
    let n = c.args.carried in
    let size = c.read_into.ensures.size in
    let fits : 32 + n ≤ length w = omega (arith, size) in
    let part_is : c.part.result.now ≡ take n (drop 32 w) = c.part.ensures ∙ take_front (32 + n - 32) n w _ (omega arith) fits in
    ap length c.in-Ok-extend_from_slice.ensures.items ∙ length-append c.args.out.now.items c.part.result.now ∙ ap (λ k. length c.args.out.now.items + k) (ap length part_is ∙ omega (arith, length-take n (drop 32 w), length-drop 32 w, fits))
