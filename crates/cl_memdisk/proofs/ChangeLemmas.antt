-- Changes taken back.
use Rattle.std.proofs.Common.{◌≡◌, ℕ, ◌≤◌, List, [], ◌∷◌, ◌++◌, length, map, refl, sym, ◌∙◌, ap, subst, arith}
use Rattle.std.proofs.lemmas.List.{map-append}
use Rattle.cl_base.specs.Images.{IsSound}
use Rattle.cl_memdisk.specs.Changes.{taken_back, before_all, range_of, shown, InPlace, AllInPlace, OneMore}
use Rattle.cl_memdisk.specs.declared.change.Change.{Change}

pub before_all-push : (changes : List Change) (c : Change) (bytes : List ℕ) → before_all (changes ++ c ∷ []) bytes ≡ before_all changes (taken_back c bytes)
before_all-push [] c bytes = refl
before_all-push (x ∷ changes) c bytes = ap (taken_back x) (before_all-push changes c bytes)

pub in_place-push : (room : ℕ) (changes : List Change) (c : Change) (bytes : List ℕ) → InPlace room c bytes → AllInPlace room changes (taken_back c bytes) → AllInPlace room (changes ++ c ∷ []) bytes
in_place-push room [] c bytes this earlier = (this, tt)
in_place-push room (x ∷ changes) c bytes this earlier =
    (subst (λ (l : List ℕ). InPlace room x l) (sym (before_all-push changes c bytes)) earlier.0, in_place-push room changes c bytes this earlier.1)

pub in_place-pop : (room : ℕ) (changes : List Change) (c : Change) (bytes : List ℕ) → AllInPlace room (changes ++ c ∷ []) bytes → InPlace room c bytes × AllInPlace room changes (taken_back c bytes)
in_place-pop room [] c bytes all = (all.0, tt)
in_place-pop room (x ∷ changes) c bytes all =
    let earlier = in_place-pop room changes c bytes all.1 in
    (earlier.0, (subst (λ (l : List ℕ). InPlace room x l) (before_all-push changes c bytes) all.0, earlier.1))

pub in_place-room : (room more : ℕ) (changes : List Change) (bytes : List ℕ) → room ≤ more → AllInPlace room changes bytes → AllInPlace more changes bytes
in_place-room room more [] bytes le all = tt
in_place-room room more (c ∷ later) bytes le all = ((all.0.0, (omega (arith, le, all.0.1.0), all.0.1.1)), in_place-room room more later bytes le all.1)

-- one change more
module _ (room at end : ℕ) (old_bytes new_bytes : List ℕ) (old_changes new_changes : List Change) (is_more : OneMore room at end old_bytes new_bytes old_changes new_changes) where
  pub same_synced : before_all new_changes new_bytes ≡ before_all old_changes old_bytes
  same_synced = ap (λ l. before_all l new_bytes) is_more.pushed ∙ before_all-push old_changes is_more.last new_bytes ∙ ap (before_all old_changes) is_more.back

  pub all_in_place : AllInPlace room old_changes old_bytes → AllInPlace room new_changes new_bytes
  all_in_place all = subst (λ (l : List Change). AllInPlace room l new_bytes) (sym is_more.pushed)
      (in_place-push room old_changes is_more.last new_bytes is_more.in_place (subst (λ (l : List ℕ). AllInPlace room old_changes l) (sym is_more.back) all))

  pub range_more : map range_of new_changes ≡ map range_of old_changes ++ (at, end) ∷ []
  range_more = ap (λ l. map range_of l) is_more.pushed ∙ map-append range_of old_changes (is_more.last ∷ []) ∙ (λ i. map range_of old_changes ++ (is_more.from i, is_more.end_is i) ∷ [])

  -- what a file shows then
  pub shown_more : (least most : ℕ) → shown (record { bytes = new_bytes; changes = new_changes; least = least; most = most })
      ≡ record { reads = new_bytes; synced = before_all old_changes old_bytes; ranges = map range_of old_changes ++ (at, end) ∷ []; least = least; most = most }
  shown_more least most i = record { reads = new_bytes; synced = same_synced i; ranges = range_more i; least = least; most = most }

-- a vector that may have got more room, with the same bytes and changes
module _ (bytes new_bytes : List ℕ) (changes new_changes : List Change) (same_bytes : new_bytes ≡ bytes) (same_changes : new_changes ≡ changes) where
  pub still_sound : (least most : ℕ) → IsSound (shown (record { bytes = bytes; changes = changes; least = least; most = most })) → IsSound (shown (record { bytes = new_bytes; changes = new_changes; least = least; most = most }))
  still_sound least most ok = subst IsSound (λ i. shown (record { bytes = sym same_bytes i; changes = sym same_changes i; least = least; most = most })) ok

  pub still_length : length (before_all changes bytes) ≡ length (before_all new_changes new_bytes)
  still_length i = length (before_all (sym same_changes i) (sym same_bytes i))

  pub still_in_place : (room more : ℕ) → room ≤ more → AllInPlace room changes bytes → AllInPlace more new_changes new_bytes
  still_in_place room more le all = subst (λ (l : List Change). AllInPlace more l new_bytes) (sym same_changes) (subst (λ (l : List ℕ). AllInPlace more changes l) (sym same_bytes) (in_place-room room more changes bytes le all))
