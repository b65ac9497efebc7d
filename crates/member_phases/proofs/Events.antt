-- Logs of entries and their events, and their fronts.
use Rattle.std.proofs.Common.{◌≡◌, ℕ, zero, suc, ◌+◌, ◌<◌, ◌≤◌, List, [], ◌∷◌, ◌++◌, length, take, drop, Option, Some, refl, sym, ap, ◌∙◌, arith, zero-add}
use Rattle.std.specs.Prelude.{slice_get}
use Rattle.std.specs.List.{AllByRecursion}
use Rattle.std.proofs.lemmas.List.{length-map, take-map}
use Rattle.entry_log.specs.Log.{Log}
use Rattle.sbe_events.specs.declared.event.Event.{Event}
use Rattle.sbe_events.specs.Spelling.{HasSpelling}
use Rattle.service_api.specs.declared.shipped.Kind.{Kind}
use Rattle.module_state.specs.Entries.{IsSpellable, IsWellFormedOn, events_in}
use Rattle.module_state.specs.Places.{entry_of, log_of}
use Rattle.module_state.proofs.EntryLaws.{events_in_back}

-- ---- any list

module _ {X : Type 0} where
  abbrev pub some_of : X → Option X
  some_of x = Some x

  pub some-is : (x y : X) → some_of x ≡ some_of y → x ≡ y
  some-is x y is = cc

  -- a front with one more
  pub front-more : (xs : List X) (k : ℕ) (x : X) → slice_get xs k ≡ some_of x → take (suc k) xs ≡ take k xs ++ x ∷ []
  front-more [] k x is = absurd (cc)
  front-more (y ∷ xs) zero x is = ap (λ z. z ∷ []) (some-is y x is)
  front-more (y ∷ xs) (suc k) x is = ap (λ l. y ∷ l) (front-more xs k x is)

  -- what stands past the first ones
  pub get-past : (xs : List X) (f n : ℕ) → slice_get (drop f xs) n ≡ slice_get xs (f + n)
  get-past xs zero n = ap (slice_get xs) (sym (zero-add n))
  get-past [] (suc f) n = refl
  get-past (x ∷ xs) (suc f) n = get-past xs f n ∙ ap (slice_get (x ∷ xs)) (later f n)
    where
      later : (f n : ℕ) → suc (f + n) ≡ suc f + n
      later f n = omega arith

  -- and in a front
  pub get-front : (xs : List X) (k n : ℕ) → k < n → slice_get (take n xs) k ≡ slice_get xs k
  get-front xs k zero less = absurd (omega (arith, less))
  get-front [] k (suc n) less = refl
  get-front (x ∷ xs) zero (suc n) less = refl
  get-front (x ∷ xs) (suc k) (suc n) less = get-front xs k n (omega (arith, less))

  pub there : (xs : List X) (k : ℕ) → k < length xs → (x : X) × (slice_get xs k ≡ some_of x)
  there [] k less = absurd (omega (arith, less))
  there (x ∷ xs) zero less = (x, refl)
  there (x ∷ xs) (suc k) less = there xs k (omega (arith, less))

  pub front-long : (xs : List X) (k : ℕ) → k ≤ length xs → length (take k xs) ≡ k
  front-long xs zero few = refl
  front-long [] (suc k) few = absurd (omega (arith, few))
  front-long (x ∷ xs) (suc k) few = ap suc (front-long xs k (omega (arith, few)))

  pub all-front : (P : X → Type 0) (xs : List X) (k : ℕ) → AllByRecursion P xs → AllByRecursion P (take k xs)
  all-front P xs zero all = tt
  all-front P [] (suc k) all = tt
  all-front P (x ∷ xs) (suc k) all = (all.0, all-front P xs k all.1)

  pub all-rest : (P : X → Type 0) (xs : List X) (k : ℕ) → AllByRecursion P xs → AllByRecursion P (drop k xs)
  all-rest P xs zero all = all
  all-rest P [] (suc k) all = tt
  all-rest P (x ∷ xs) (suc k) all = all-rest P xs k all.1

drop-log : (k : ℕ) (es : List Event) → drop k (log_of es) ≡ log_of (drop k es)
drop-log zero es = refl
drop-log (suc k) [] = refl
drop-log (suc k) (e ∷ es) = drop-log k es

get-log : (es : List Event) (k : ℕ) (e : Event) → slice_get es k ≡ some_of e → slice_get (log_of es) k ≡ some_of (entry_of e)
get-log [] k e is = absurd (cc)
get-log (f ∷ es) zero e is = ap (λ x. some_of (entry_of x)) (some-is f e is)
get-log (f ∷ es) (suc k) e is = get-log es k e is

pub all-spelled : (es : List Event) → AllByRecursion IsSpellable es → AllByRecursion HasSpelling es
all-spelled [] all = tt
all-spelled (e ∷ es) all = (all.0.0, all-spelled es all.1)

-- ---- a well-formed log

module _ (kinds : List Kind) (log : Log) (formed : IsWellFormedOn kinds log) where
  abbrev pub es : List Event
  es = events_in log

  pub log-long : length es ≡ length log
  log-long = sym (length-map es entry_of) ∙ ap (λ (l : Log). length l) (sym formed.are)

  pub front-log : (k : ℕ) → take k log ≡ log_of (take k es)
  front-log k = ap (take k) formed.are ∙ take-map entry_of k es

  pub front-events : (k : ℕ) → events_in (take k log) ≡ take k es
  front-events k = ap events_in (front-log k) ∙ events_in_back (take k es) (all-front IsSpellable es k formed.spellable)

  pub rest-events : (k : ℕ) → events_in (drop k log) ≡ drop k es
  rest-events k = ap (λ (l : Log). events_in (drop k l)) formed.are ∙ ap events_in (drop-log k es) ∙ events_in_back (drop k es) (all-rest IsSpellable es k formed.spellable)

  pub entry-there : (k : ℕ) (e : Event) → slice_get es k ≡ some_of e → slice_get log k ≡ some_of (entry_of e)
  entry-there k e is = ap (λ (l : Log). slice_get l k) formed.are ∙ get-log es k e is
