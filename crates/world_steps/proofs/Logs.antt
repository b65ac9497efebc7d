-- Logs that are indexed entry by entry.
use Rattle.std.proofs.Common.{◌≡◌, ◌≤◌, ◌<◌, ◌+◌, ◌^◌, ℕ, suc, ℤ, negsuc, ◌≤ℤ◌, List, [], ◌∷◌, ◌++◌, length, drop, refl, sym, ap, ◌∙◌, subst, arith, get_or}
use Rattle.std.proofs.Math.Seq.{drop-cons}
use Rattle.cl_base.specs.declared.entry.Entry.{Entry}
use Rattle.entry_log.specs.Log.{Log, end_after, place}
use Rattle.entry_log.specs.Places.{place_from-append}
use Rattle.entry_log.specs.Shape.{Shape, entry_shape, shape_of, end_of, end_from, last_term_of, last_term_from, TermsRiseFrom, end_from-shape_of}
use Rattle.entry_log.specs.PlaceLaws.{end_from-up}
use Rattle.consensus_core.proofs.Measured.{event_short}
use Rattle.world_steps.specs.Fit.{CanIndex}

pub drop_here : {A : Type 0} (xs : List A) (i : ℕ) (x : A) → i < length xs → x ≡ get_or xs i x → drop i xs ≡ x ∷ drop (i + 1) xs
drop_here {A} xs i x h e =
    let next : suc i ≡ i + 1 = omega arith in
    subst (λ (k : ℕ). drop i xs ≡ x ∷ drop k xs) next (drop-cons xs i x h ∙ ap (λ (y : A). y ∷ drop (suc i) xs) (sym e))

end-append : (p : ℕ) (xs ys : Shape) → end_from p (xs ++ ys) ≡ end_from (end_from p xs) ys
end-append p [] ys = refl
end-append p (x ∷ xs) ys = end-append (end_after p x.len) xs ys

last-append : (t : ℤ) (xs ys : Shape) → last_term_from t (xs ++ ys) ≡ last_term_from (last_term_from t xs) ys
last-append t [] ys = refl
last-append t (x ∷ xs) ys = last-append x.term xs ys

pub end_is_place : (log : Log) → end_of (shape_of log) ≡ place log
end_is_place log = end_from-shape_of 0 log

-- where a log ends with one entry more
pub place_with : (log : Log) (x : Entry) → place (log ++ x ∷ []) ≡ end_after (place log) (length x.bytes)
place_with log x = place_from-append 0 log (x ∷ [])

-- the next entry may be pushed
pub record CanPush (xs : Shape) (x : Entry) (rest : Log) : Type 0 where
  pub place : end_of xs ≤ 2 ^ 62
  pub term : last_term_of xs ≤ℤ x.term
  pub len : length x.bytes ≤ 32768
  pub more : CanIndex (xs ++ entry_shape x ∷ []) rest

pub can-next : (xs : Shape) (x : Entry) (rest : Log) → CanIndex xs (x ∷ rest) → CanPush xs x rest
can-next xs x rest c =
    let end : end_of (xs ++ entry_shape x ∷ []) ≡ end_after (end_of xs) (length x.bytes) = end-append 0 xs (entry_shape x ∷ []) in
    let last : last_term_of (xs ++ entry_shape x ∷ []) ≡ x.term = last-append (negsuc 0) xs (entry_shape x ∷ []) in
    let up = end_from-up (end_of xs) (shape_of (x ∷ rest)) in
    let room = c.room in
    record {
      place = omega (arith, up, room);
      term = c.rises.0;
      len = event_short x.bytes c.entries.0.event.0 c.entries.0.event.1;
      more = record {
        room = subst (λ (p : ℕ). end_from p (shape_of rest) ≤ 16777216) (sym end) c.room;
        rises = subst (λ (t : ℤ). TermsRiseFrom t (shape_of rest)) (sym last) c.rises.1;
        entries = c.entries.1;
      };
    }

pub shift : (xs : Shape) (x : Entry) (rest : Log) → (xs ++ entry_shape x ∷ []) ++ shape_of rest ≡ xs ++ shape_of (x ∷ rest)
shift [] x rest = refl
shift (y ∷ ys) x rest = ap (λ (zs : Shape). y ∷ zs) (shift ys x rest)
