-- The sessions under the keys of pairs: what one of them finds, and what a change of a slot makes of them.
use Rattle.std.proofs.Common.{◌≡◌, ◌≢◌, ℕ, suc, ℤ, pos, ◌+ℤ◌, ◌<ℤ◌, Bool, true, false, cond, not, List, [], ◌∷◌, ◌++◌, map, length, Option, None, Some, refl, sym, ap, ◌∙◌, subst, inl, inr, min, ◌-◌, set, get_or, count_by, zero, ◌&&◌, ◌^◌, arith, ◌<◌, ◌≤◌}
use Rattle.std.specs.Prelude.{find, is_some, IfSome, int_lt, IsSome}
use Rattle.std.specs.List.{AllByRecursion}
use Rattle.std.specs.Option.{IsSomeAnd}
use Rattle.std.specs.Ordering.{int_eq}
use Rattle.std.proofs.lemmas.Bool.{cases_eq, cond_both}
use Rattle.std.proofs.lemmas.Bool.Decides.{Decides-int_eq}
use Rattle.std.proofs.lemmas.Int.{ints}
use Rattle.std.proofs.lemmas.List.Sums.{sum_by-cons}
use Rattle.slab.specs.Slab.{Slab, get, Updates, with_value}
use Rattle.slab.proofs.SlabLemmas.{Updates-with_value}
use Rattle.session_manager.specs.declared.session.Session.{Session}
use Rattle.session_manager.specs.Sessions.{SessionTable, is_of, at_id, others, opened, is_next, session_at}
use Rattle.session_manager.specs.Kept.{Pairs, PairsRise, HasOwn, IsKept, key_in, put_first, under, seen_of}
use Rattle.session_manager.proofs.OrderLaws.{differs, agrees, without_id}

-- ---- one session for each pair

-- a pair whose key has a session, spelled out
pub own_is : (slab : Slab Session) (p : ℤ × ℕ) → HasOwn slab p → (s : Session) × ((get slab p.1 ≡ Some s) × (s.id ≡ p.0))
own_is slab p h = at (get slab p.1) refl h
  where
    at : (o : Option Session) → get slab p.1 ≡ o → IsSomeAnd o (λ s. s.id ≡ p.0) → (s : Session) × ((get slab p.1 ≡ Some s) × (s.id ≡ p.0))
    at None e h = absurd h
    at (Some s) e h = (s, (e, h))

own_from : (slab : Slab Session) (p : ℤ × ℕ) (s : Session) → get slab p.1 ≡ Some s → s.id ≡ p.0 → HasOwn slab p
own_from slab p s e f = subst (λ (o : Option Session). IsSomeAnd o (λ s. s.id ≡ p.0)) (sym e) f

pub under_one : (slab : Slab Session) (p : ℤ × ℕ) (rest : Pairs) (s : Session) → get slab p.1 ≡ Some s → under slab (p ∷ rest) ≡ s ∷ under slab rest
under_one slab p rest s e = ap (λ o. put_first o (under slab rest)) e

pub under-append : (slab : Slab Session) (xs ys : Pairs) → under slab (xs ++ ys) ≡ under slab xs ++ under slab ys
under-append slab [] ys = refl
under-append slab (p ∷ xs) ys = ap (put_first (get slab p.1)) (under-append slab xs ys) ∙ at (get slab p.1)
  where
    at : (o : Option Session) → put_first o (under slab xs ++ under slab ys) ≡ put_first o (under slab xs) ++ under slab ys
    at None = refl
    at (Some s) = refl

pub under-length : (slab : Slab Session) (l : Pairs) → AllByRecursion (HasOwn slab) l → length (under slab l) ≡ length l
under-length slab [] h = refl
under-length slab (p ∷ l) h = let o = own_is slab p h.0 in ap (λ (x : List Session). length x) (under_one slab p l o.0 o.1.0) ∙ ap suc (under-length slab l h.1)

-- ---- no pair has the id

is_not : (id : ℤ) (s : Session) (x : ℤ) → s.id ≡ x → x ≢ id → is_of id s ≡ false
is_not id s x e n = differs s.id id (λ f. n (sym e ∙ f))

is_so : (id : ℤ) (s : Session) (x : ℤ) → s.id ≡ x → x ≡ id → is_of id s ≡ true
is_so id s x e f = agrees s.id id (e ∙ f)

find_none : (id : ℤ) (slab : Slab Session) (l : Pairs) → AllByRecursion (HasOwn slab) l → AllByRecursion (λ (p : ℤ × ℕ). p.0 ≢ id) l → find (is_of id) (under slab l) ≡ None
find_none id slab [] h n = refl
find_none id slab (p ∷ l) h n =
    let o = own_is slab p h.0 in
    ap (find (is_of id)) (under_one slab p l o.0 o.1.0) ∙ ap (λ b. cond b (Some o.0) (find (is_of id) (under slab l))) (is_not id o.0 p.0 o.1.1 n.0) ∙ find_none id slab l h.1 n.1

map_none : (id : ℤ) (f : Session → Session) (slab : Slab Session) (l : Pairs) → AllByRecursion (HasOwn slab) l → AllByRecursion (λ (p : ℤ × ℕ). p.0 ≢ id) l → map (at_id id f) (under slab l) ≡ under slab l
map_none id f slab [] h n = refl
map_none id f slab (p ∷ l) h n =
    let o = own_is slab p h.0 in
    let one : under slab (p ∷ l) ≡ o.0 ∷ under slab l = under_one slab p l o.0 o.1.0 in
    ap (map (at_id id f)) one ∙ ap (λ b. cond b (f o.0) o.0 ∷ map (at_id id f) (under slab l)) (is_not id o.0 p.0 o.1.1 n.0) ∙ ap (λ (x : List Session). o.0 ∷ x) (map_none id f slab l h.1 n.1) ∙ sym one

others_none : (id : ℤ) (slab : Slab Session) (l : Pairs) → AllByRecursion (HasOwn slab) l → AllByRecursion (λ (p : ℤ × ℕ). p.0 ≢ id) l → others id (under slab l) ≡ under slab l
others_none id slab [] h n = refl
others_none id slab (p ∷ l) h n =
    let o = own_is slab p h.0 in
    let one : under slab (p ∷ l) ≡ o.0 ∷ under slab l = under_one slab p l o.0 o.1.0 in
    ap (others id) one ∙ ap (λ b. cond (not b) (o.0 ∷ others id (under slab l)) (others id (under slab l))) (is_not id o.0 p.0 o.1.1 n.0) ∙ ap (λ (x : List Session). o.0 ∷ x) (others_none id slab l h.1 n.1) ∙ sym one

pub none_key : (id : ℤ) (l : Pairs) → key_in id l ≡ None → AllByRecursion (λ (p : ℤ × ℕ). p.0 ≢ id) l
none_key id [] e = tt
none_key id (p ∷ l) e = at (int_eq p.0 id) refl e (none_key id l)
  where
    at : (b : Bool) → int_eq p.0 id ≡ b → cond b (Some p.1) (key_in id l) ≡ None → (key_in id l ≡ None → AllByRecursion (λ (p : ℤ × ℕ). p.0 ≢ id) l) → AllByRecursion (λ (p : ℤ × ℕ). p.0 ≢ id) (p ∷ l)
    at true x y more = absurd cc
    at false x y more = ((λ z. let t : int_eq p.0 id ≡ true = agrees p.0 id z in absurd cc), more y)

above_other : (x : ℤ) (l : Pairs) → AllByRecursion (λ (q : ℤ × ℕ). x <ℤ q.0) l → AllByRecursion (λ (q : ℤ × ℕ). q.0 ≢ x) l
above_other x [] h = tt
above_other x (q ∷ l) h = (lower x q.0 h.0, above_other x l h.1)
  where
    lower : (x y : ℤ) → x <ℤ y → y ≢ x
    lower x y h e = absurd (omega (arith, ints))

-- ---- the key of an id

-- the session under the key beside an id
pub key_own : (id : ℤ) (key : ℕ) (slab : Slab Session) (l : Pairs) → AllByRecursion (HasOwn slab) l → key_in id l ≡ Some key → (s : Session) × ((get slab key ≡ Some s) × (s.id ≡ id))
key_own id key slab [] h e = absurd cc
key_own id key slab (p ∷ l) h e = at (int_eq p.0 id) refl e (key_own id key slab l h.1)
  where
    some_same : (a b : ℕ) → Some a ≡ Some b → a ≡ b
    some_same a b e = cc

    at : (b : Bool) → int_eq p.0 id ≡ b → cond b (Some p.1) (key_in id l) ≡ Some key → (key_in id l ≡ Some key → (s : Session) × ((get slab key ≡ Some s) × (s.id ≡ id))) → (s : Session) × ((get slab key ≡ Some s) × (s.id ≡ id))
    at true x y more =
        let o = own_is slab p h.0 in
        (o.0, (ap (get slab) (sym (some_same p.1 key y)) ∙ o.1.0, o.1.1 ∙ (Decides-int_eq p.0 id).0 x))
    at false x y more = more y

-- what is found under it is what a search of the list finds
pub key_find : (id : ℤ) (key : ℕ) (slab : Slab Session) (l : Pairs) → AllByRecursion (HasOwn slab) l → key_in id l ≡ Some key → get slab key ≡ find (is_of id) (under slab l)
key_find id key slab [] h e = absurd cc
key_find id key slab (p ∷ l) h e = at (int_eq p.0 id) refl e (key_find id key slab l h.1)
  where
    some_same : (a b : ℕ) → Some a ≡ Some b → a ≡ b
    some_same a b e = cc

    at : (b : Bool) → int_eq p.0 id ≡ b → cond b (Some p.1) (key_in id l) ≡ Some key → (key_in id l ≡ Some key → get slab key ≡ find (is_of id) (under slab l)) → get slab key ≡ find (is_of id) (under slab (p ∷ l))
    at true x y more =
        let o = own_is slab p h.0 in
        ap (get slab) (sym (some_same p.1 key y)) ∙ o.1.0
        ∙ sym (ap (find (is_of id)) (under_one slab p l o.0 o.1.0) ∙ ap (λ b. cond b (Some o.0) (find (is_of id) (under slab l))) (is_so id o.0 p.0 o.1.1 ((Decides-int_eq p.0 id).0 x)))
    at false x y more =
        let o = own_is slab p h.0 in
        let no : p.0 ≢ id = λ z. let t : int_eq p.0 id ≡ true = agrees p.0 id z in absurd cc in
        more y ∙ sym (ap (find (is_of id)) (under_one slab p l o.0 o.1.0) ∙ ap (λ b. cond b (Some o.0) (find (is_of id) (under slab l))) (is_not id o.0 p.0 o.1.1 no))

pub find_is : (id : ℤ) (slab : Slab Session) (l : Pairs) → AllByRecursion (HasOwn slab) l → key_in id l ≡ None → find (is_of id) (under slab l) ≡ None
find_is id slab l h e = find_none id slab l h (none_key id l e)

-- ---- a slot changes

-- the key of another id is another key
other_key : (id : ℤ) (key : ℕ) (s : Session) (slab : Slab Session) (p : ℤ × ℕ) → HasOwn slab p → get slab key ≡ Some s → s.id ≡ id → p.0 ≢ id → p.1 ≢ key
other_key id key s slab p h e f n k =
    let o = own_is slab p h in
    let same : o.0 ≡ s = some_same o.0 s (sym o.1.0 ∙ ap (get slab) k ∙ e) in
    n (sym o.1.1 ∙ ap (λ (x : Session). x.id) same ∙ f)
  where
    some_same : (a b : Session) → Some a ≡ Some b → a ≡ b
    some_same a b e = cc

-- pairs of other ids keep their sessions
kept_under : (id : ℤ) (key : ℕ) (s : Session) (slot : Option Session) (slab new : Slab Session) (l : Pairs) → Updates slab new key slot → get slab key ≡ Some s → s.id ≡ id → AllByRecursion (HasOwn slab) l → AllByRecursion (λ (p : ℤ × ℕ). p.0 ≢ id) l → under new l ≡ under slab l
kept_under id key s slot slab new [] u e f h n = refl
kept_under id key s slot slab new (p ∷ l) u e f h n =
    ap (λ o. put_first o (under new l)) (u.others p.1 (other_key id key s slab p h.0 e f n.0)) ∙ ap (put_first (get slab p.1)) (kept_under id key s slot slab new l u e f h.1 n.1)

kept_own : (id : ℤ) (key : ℕ) (s : Session) (slot : Option Session) (slab new : Slab Session) (l : Pairs) → Updates slab new key slot → get slab key ≡ Some s → s.id ≡ id → AllByRecursion (HasOwn slab) l → AllByRecursion (λ (p : ℤ × ℕ). p.0 ≢ id) l → AllByRecursion (HasOwn new) l
kept_own id key s slot slab new [] u e f h n = tt
kept_own id key s slot slab new (p ∷ l) u e f h n =
    (subst (λ (o : Option Session). IsSomeAnd o (λ s. s.id ≡ p.0)) (sym (u.others p.1 (other_key id key s slab p h.0 e f n.0))) h.0, kept_own id key s slot slab new l u e f h.1 n.1)

-- the session under the key of an id changes, and keeps its id: the list has the change at the id
pub changed_under : (id : ℤ) (key : ℕ) (s : Session) (f : Session → Session) (slab new : Slab Session) (l : Pairs) → Updates slab new key (Some (f s)) → get slab key ≡ Some s → s.id ≡ id
    → AllByRecursion (HasOwn slab) l → PairsRise l → key_in id l ≡ Some key → under new l ≡ map (at_id id f) (under slab l)
changed_under id key s f slab new [] u e g h r k = absurd cc
changed_under id key s f slab new (p ∷ l) u e g h r k = at (int_eq p.0 id) refl k (changed_under id key s f slab new l u e g h.1 r.1)
  where
    some_same : (a b : ℕ) → Some a ≡ Some b → a ≡ b
    some_same a b e = cc

    session_same : (a b : Session) → Some a ≡ Some b → a ≡ b
    session_same a b e = cc

    at : (b : Bool) → int_eq p.0 id ≡ b → cond b (Some p.1) (key_in id l) ≡ Some key → (key_in id l ≡ Some key → under new l ≡ map (at_id id f) (under slab l)) → under new (p ∷ l) ≡ map (at_id id f) (under slab (p ∷ l))
    at true x y more =
        let same : p.0 ≡ id = (Decides-int_eq p.0 id).0 x in
        let here : p.1 ≡ key = some_same p.1 key y in
        let gone : AllByRecursion (λ (q : ℤ × ℕ). q.0 ≢ id) l = subst (λ z. AllByRecursion (λ (q : ℤ × ℕ). q.0 ≢ z) l) same (above_other p.0 l r.0) in
        under_one new p l (f s) (ap (get new) here ∙ u.changed) ∙ ap (λ (z : List Session). f s ∷ z) (kept_under id key s (Some (f s)) slab new l u e g h.1 gone ∙ sym (map_none id f slab l h.1 gone))
        ∙ sym (ap (map (at_id id f)) (under_one slab p l s (ap (get slab) here ∙ e)) ∙ ap (λ b. cond b (f s) s ∷ map (at_id id f) (under slab l)) (agrees s.id id g))
    at false x y more =
        let no : p.0 ≢ id = λ z. let t : int_eq p.0 id ≡ true = agrees p.0 id z in absurd cc in
        let o = own_is slab p h.0 in
        ap (λ v. put_first v (under new l)) (u.others p.1 (other_key id key s slab p h.0 e g no) ∙ o.1.0) ∙ ap (λ (z : List Session). o.0 ∷ z) (more y)
        ∙ sym (ap (map (at_id id f)) (under_one slab p l o.0 o.1.0) ∙ ap (λ b. cond b (f o.0) o.0 ∷ map (at_id id f) (under slab l)) (is_not id o.0 p.0 o.1.1 no))

pub changed_own : (id : ℤ) (key : ℕ) (s t : Session) (slab new : Slab Session) (l : Pairs) → Updates slab new key (Some t) → get slab key ≡ Some s → s.id ≡ id → t.id ≡ id → AllByRecursion (HasOwn slab) l → AllByRecursion (HasOwn new) l
changed_own id key s t slab new [] u e g k h = tt
changed_own id key s t slab new (p ∷ l) u e g k h = (at (int_eq p.0 id) refl, changed_own id key s t slab new l u e g k h.1)
  where
    session_same : (a b : Session) → Some a ≡ Some b → a ≡ b
    session_same a b e = cc

    at : (b : Bool) → int_eq p.0 id ≡ b → HasOwn new p
    at true x =
        let same : p.0 ≡ id = (Decides-int_eq p.0 id).0 x in
        elim (cases_eq p.1 key) [
          | inl here ↦ own_from new p t (ap (get new) here ∙ u.changed) (k ∙ sym same)
          | inr other ↦ subst (λ (o : Option Session). IsSomeAnd o (λ s. s.id ≡ p.0)) (sym (u.others p.1 other)) h.0
        ]
    at false x = subst (λ (o : Option Session). IsSomeAnd o (λ s. s.id ≡ p.0)) (sym (u.others p.1 (other_key id key s slab p h.0 e g (λ z. let t : int_eq p.0 id ≡ true = agrees p.0 id z in absurd cc)))) h.0

-- the session under the key of an id goes, and its pair: the others are left
pub removed_under : (id : ℤ) (key : ℕ) (s : Session) (slab new : Slab Session) (l : Pairs) → Updates slab new key None → get slab key ≡ Some s → s.id ≡ id
    → AllByRecursion (HasOwn slab) l → under new (without_id id l) ≡ others id (under slab l)
removed_under id key s slab new [] u e g h = refl
removed_under id key s slab new (p ∷ l) u e g h = at (int_eq p.0 id) refl (removed_under id key s slab new l u e g h.1)
  where
    at : (b : Bool) → int_eq p.0 id ≡ b → under new (without_id id l) ≡ others id (under slab l) → under new (cond (not b) (p ∷ without_id id l) (without_id id l)) ≡ others id (under slab (p ∷ l))
    at true x more =
        let o = own_is slab p h.0 in
        more ∙ sym (ap (others id) (under_one slab p l o.0 o.1.0) ∙ ap (λ b. cond (not b) (o.0 ∷ others id (under slab l)) (others id (under slab l))) (is_so id o.0 p.0 o.1.1 ((Decides-int_eq p.0 id).0 x)))
    at false x more =
        let no : p.0 ≢ id = λ z. let t : int_eq p.0 id ≡ true = agrees p.0 id z in absurd cc in
        let o = own_is slab p h.0 in
        ap (λ v. put_first v (under new (without_id id l))) (u.others p.1 (other_key id key s slab p h.0 e g no) ∙ o.1.0) ∙ ap (λ (z : List Session). o.0 ∷ z) more
        ∙ sym (ap (others id) (under_one slab p l o.0 o.1.0) ∙ ap (λ b. cond (not b) (o.0 ∷ others id (under slab l)) (others id (under slab l))) (is_not id o.0 p.0 o.1.1 no))

removed_own : (id : ℤ) (key : ℕ) (s : Session) (slab new : Slab Session) (l : Pairs) → Updates slab new key None → get slab key ≡ Some s → s.id ≡ id → AllByRecursion (HasOwn slab) l → AllByRecursion (HasOwn new) (without_id id l)
removed_own id key s slab new [] u e g h = tt
removed_own id key s slab new (p ∷ l) u e g h = at (int_eq p.0 id) refl (removed_own id key s slab new l u e g h.1)
  where
    at : (b : Bool) → int_eq p.0 id ≡ b → AllByRecursion (HasOwn new) (without_id id l) → AllByRecursion (HasOwn new) (cond (not b) (p ∷ without_id id l) (without_id id l))
    at true x more = more
    at false x more =
        let no : p.0 ≢ id = λ z. let t : int_eq p.0 id ≡ true = agrees p.0 id z in absurd cc in
        (subst (λ (o : Option Session). IsSomeAnd o (λ s. s.id ≡ p.0)) (sym (u.others p.1 (other_key id key s slab p h.0 e g no))) h.0, more)

all_without : (P : ℤ × ℕ → Type 0) (id : ℤ) (l : Pairs) → AllByRecursion P l → AllByRecursion P (without_id id l)
all_without P id [] h = tt
all_without P id (p ∷ l) h = cond_both (not (int_eq p.0 id)) (p ∷ without_id id l) (without_id id l) (AllByRecursion P) (λ _. (h.0, all_without P id l h.1)) (λ _. all_without P id l h.1)

rise_without : (id : ℤ) (l : Pairs) → PairsRise l → PairsRise (without_id id l)
rise_without id [] h = tt
rise_without id (p ∷ l) h = cond_both (not (int_eq p.0 id)) (p ∷ without_id id l) (without_id id l) PairsRise (λ _. (all_without (λ (q : ℤ × ℕ). p.0 <ℤ q.0) id l h.0, rise_without id l h.1)) (λ _. rise_without id l h.1)

-- ---- what the calls keep

pub removed_kept : (id : ℤ) (key : ℕ) (slab new : Slab Session) (l : Pairs) (next : ℤ) → IsKept slab l next → key_in id l ≡ Some key → Updates slab new key None → IsKept new (without_id id l) next
removed_kept id key slab new l next h k u =
    let o = key_own id key slab l h.own k in
    record {
      own = removed_own id key o.0 slab new l u o.1.0 o.1.1 h.own;
      rise = rise_without id l h.rise;
      below = all_without (λ (p : ℤ × ℕ). p.0 <ℤ next) id l h.below;
    }

pub removed_list : (id : ℤ) (key : ℕ) (slab new : Slab Session) (l : Pairs) (next : ℤ) → IsKept slab l next → key_in id l ≡ Some key → Updates slab new key None → under new (without_id id l) ≡ others id (under slab l)
removed_list id key slab new l next h k u = let o = key_own id key slab l h.own k in removed_under id key o.0 slab new l u o.1.0 o.1.1 h.own

-- where no pair has the id nothing changes
pub others_is : (id : ℤ) (slab : Slab Session) (l : Pairs) → AllByRecursion (HasOwn slab) l → AllByRecursion (λ (p : ℤ × ℕ). p.0 ≢ id) l → others id (under slab l) ≡ under slab l
others_is id slab l h n = others_none id slab l h n

pub map_is : (id : ℤ) (f : Session → Session) (slab : Slab Session) (l : Pairs) → AllByRecursion (HasOwn slab) l → key_in id l ≡ None → map (at_id id f) (under slab l) ≡ under slab l
map_is id f slab l h e = map_none id f slab l h (none_key id l e)

-- a change of a session that is there
written : (key : ℕ) (s : Session) (f : Session → Session) (slab new : Slab Session) → get slab key ≡ Some s → IfSome (get slab key) (λ s. new ≡ with_value slab key (f s)) → new ≡ with_value slab key (f s)
written key s f slab new e h = let g : IfSome (Some s) (λ s. new ≡ with_value slab key (f s)) = subst (λ (o : Option Session). IfSome o (λ s. new ≡ with_value slab key (f s))) e h in g

updated : (key : ℕ) (s : Session) (f : Session → Session) (slab new : Slab Session) → get slab key ≡ Some s → IfSome (get slab key) (λ s. new ≡ with_value slab key (f s)) → Updates slab new key (Some (f s))
updated key s f slab new e h =
    subst (λ (n : Slab Session). Updates slab n key (Some (f s))) (sym (written key s f slab new e h)) (Updates-with_value slab key (f s) (subst (λ (o : Option Session). IsSome o) (sym e) refl))

pub changed_kept : (id : ℤ) (key : ℕ) (f : Session → Session) (slab new : Slab Session) (l : Pairs) (next : ℤ) → ((s : Session) → (f s).id ≡ s.id) → IsKept slab l next → key_in id l ≡ Some key
    → IfSome (get slab key) (λ s. new ≡ with_value slab key (f s)) → IsKept new l next
changed_kept id key f slab new l next keeps h k w =
    let o = key_own id key slab l h.own k in
    record {
      own = changed_own id key o.0 (f o.0) slab new l (updated key o.0 f slab new o.1.0 w) o.1.0 o.1.1 (keeps o.0 ∙ o.1.1) h.own;
      rise = h.rise;
      below = h.below;
    }

pub changed_list : (id : ℤ) (key : ℕ) (f : Session → Session) (slab new : Slab Session) (l : Pairs) (next : ℤ) → IsKept slab l next → key_in id l ≡ Some key
    → IfSome (get slab key) (λ s. new ≡ with_value slab key (f s)) → under new l ≡ map (at_id id f) (under slab l)
changed_list id key f slab new l next h k w =
    let o = key_own id key slab l h.own k in changed_under id key o.0 f slab new l (updated key o.0 f slab new o.1.0 w) o.1.0 o.1.1 h.own h.rise k

count_set : (slots : List (Option Session)) (key : ℕ) (s t : Session) → get_or slots key None ≡ Some s → count_by is_some (set slots key (Some t)) ≡ count_by is_some slots
count_set [] key s t e = absurd cc
count_set (x ∷ slots) zero s t e = omega (arith, sum_by-cons (λ (o : Option Session). cond (is_some o) 1 0) x slots, sum_by-cons (λ (o : Option Session). cond (is_some o) 1 0) (Some t) slots, ap {B = ℕ} (λ (o : Option Session). cond (is_some o) 1 0) e)
count_set (x ∷ slots) (suc key) s t e = omega (arith, sum_by-cons (λ (o : Option Session). cond (is_some o) 1 0) x slots, sum_by-cons (λ (o : Option Session). cond (is_some o) 1 0) x (set slots key (Some t)), count_set slots key s t e)

pub changed_rooms : (id : ℤ) (key room : ℕ) (f : Session → Session) (slab new : Slab Session) (l : Pairs) (next : ℤ) → IsKept slab l next → key_in id l ≡ Some key
    → IfSome (get slab key) (λ s. new ≡ with_value slab key (f s)) → (seen_of new l room next).rooms ≡ (seen_of slab l room next).rooms
changed_rooms id key room f slab new l next h k w =
    let o = key_own id key slab l h.own k in
    let is : new ≡ with_value slab key (f o.0) = written key o.0 f slab new o.1.0 w in
    ap (λ (n : Slab Session). (seen_of n l room next).rooms) is ∙ ap (λ n. min (slab.capacity - n) (room - length l)) (count_set slab.slots key o.0 (f o.0) o.1.0)

-- ---- a new session

vacant_other : (key : ℕ) (slab : Slab Session) (p : ℤ × ℕ) → HasOwn slab p → get slab key ≡ None → p.1 ≢ key
vacant_other key slab p h e k = let o = own_is slab p h in let gone : get slab p.1 ≡ None = ap (get slab) k ∙ e in let found = o.1.0 in absurd cc

vacant_under : (key : ℕ) (slot : Option Session) (slab new : Slab Session) (l : Pairs) → Updates slab new key slot → get slab key ≡ None → AllByRecursion (HasOwn slab) l → under new l ≡ under slab l
vacant_under key slot slab new [] u e h = refl
vacant_under key slot slab new (p ∷ l) u e h = ap (λ o. put_first o (under new l)) (u.others p.1 (vacant_other key slab p h.0 e)) ∙ ap (put_first (get slab p.1)) (vacant_under key slot slab new l u e h.1)

pub vacant_own : (key : ℕ) (s : Session) (slab new : Slab Session) (l : Pairs) → Updates slab new key (Some s) → get slab key ≡ None → AllByRecursion (HasOwn slab) l → AllByRecursion (HasOwn new) (l ++ (s.id, key) ∷ [])
vacant_own key s slab new [] u e h = (own_from new (s.id, key) s u.changed refl, tt)
vacant_own key s slab new (p ∷ l) u e h = (subst (λ (o : Option Session). IsSomeAnd o (λ s. s.id ≡ p.0)) (sym (u.others p.1 (vacant_other key slab p h.0 e))) h.0, vacant_own key s slab new l u e h.1)

pub all_push : (P : ℤ × ℕ → Type 0) (l : Pairs) (p : ℤ × ℕ) → AllByRecursion P l → P p → AllByRecursion P (l ++ p ∷ [])
all_push P [] p h k = (k, tt)
all_push P (q ∷ l) p h k = (h.0, all_push P l p h.1 k)

pub rise_push : (l : Pairs) (p : ℤ × ℕ) → PairsRise l → AllByRecursion (λ (q : ℤ × ℕ). q.0 <ℤ p.0) l → PairsRise (l ++ p ∷ [])
rise_push [] p h b = (tt, tt)
rise_push (q ∷ l) p h b = (all_push (λ (r : ℤ × ℕ). q.0 <ℤ r.0) l p h.0 b.0, rise_push l p h.1 b.1)

all_below_more : (n : ℤ) (l : Pairs) → AllByRecursion (λ (q : ℤ × ℕ). q.0 <ℤ n) l → AllByRecursion (λ (q : ℤ × ℕ). q.0 <ℤ (n +ℤ pos 1)) l
all_below_more n [] h = tt
all_below_more n (q ∷ l) h = (more q.0 n h.0, all_below_more n l h.1)
  where
    more : (x y : ℤ) → x <ℤ y → x <ℤ (y +ℤ pos 1)
    more x y h = omega (arith, ints)

pub opened_kept : (key : ℕ) (s : Session) (slab new : Slab Session) (l : Pairs) (next : ℤ) → IsKept slab l next → s.id ≡ next → Updates slab new key (Some s) → get slab key ≡ None → IsKept new (l ++ (s.id, key) ∷ []) (next +ℤ pos 1)
opened_kept key s slab new l next h i u e = record {
  own = vacant_own key s slab new l u e h.own;
  rise = rise_push l (s.id, key) h.rise (subst (λ n. AllByRecursion (λ (q : ℤ × ℕ). q.0 <ℤ n) l) (sym i) h.below);
  below = all_push (λ (q : ℤ × ℕ). q.0 <ℤ (next +ℤ pos 1)) l (s.id, key) (all_below_more next l h.below) (subst (λ n. n <ℤ (next +ℤ pos 1)) (sym i) (above next));
}
  where
    above : (n : ℤ) → n <ℤ (n +ℤ pos 1)
    above n = omega (arith, ints)

pub opened_list : (key : ℕ) (s : Session) (slab new : Slab Session) (l : Pairs) → AllByRecursion (HasOwn slab) l → Updates slab new key (Some s) → get slab key ≡ None → under new (l ++ (s.id, key) ∷ []) ≡ under slab l ++ s ∷ []
opened_list key s slab new l h u e = under-append new l ((s.id, key) ∷ []) ∙ ap (λ (x : List Session). x ++ under new ((s.id, key) ∷ [])) (vacant_under key (Some s) slab new l u e h) ∙ ap (λ (x : List Session). under slab l ++ x) (under_one new (s.id, key) [] s u.changed)

pub opened_is : (m : SessionTable) (s : Session) → s.id ≡ m.next_id → int_lt m.next_id (pos (2 ^ 62)) ≡ true → opened m s ≡ record { listed = m.listed ++ s ∷ []; next_id = m.next_id +ℤ pos 1 }
opened_is m s e low =
    let next : is_next m s.id ≡ true = ap (λ b. b && int_lt m.next_id (pos (2 ^ 62))) (agrees s.id m.next_id e) ∙ low in
    ap (λ b. cond b (record { listed = m.listed ++ s ∷ []; next_id = m.next_id +ℤ pos 1 }) m) next

pub told_some : (id : ℤ) (key : ℕ) (slab : Slab Session) (l : Pairs) → AllByRecursion (HasOwn slab) l → key_in id l ≡ Some key → true ≡ is_some (find (is_of id) (under slab l))
told_some id key slab l h k = sym (ap is_some (sym (key_find id key slab l h k) ∙ (key_own id key slab l h k).1.0))

pub told_none : (id : ℤ) (slab : Slab Session) (l : Pairs) → AllByRecursion (HasOwn slab) l → key_in id l ≡ None → false ≡ is_some (find (is_of id) (under slab l))
told_none id slab l h k = sym (ap is_some (find_is id slab l h k))

-- ---- the sessions by their places

pub at_is : (slab : Slab Session) (l : Pairs) (i : ℕ) (d : ℤ × ℕ) → AllByRecursion (HasOwn slab) l → i < length l → get slab (get_or l i d).1 ≡ session_at (under slab l) i
at_is slab [] i d h b = absurd (omega arith)
at_is slab (p ∷ l) zero d h b = let o = own_is slab p h.0 in o.1.0 ∙ sym (ap (λ (x : List Session). session_at x 0) (under_one slab p l o.0 o.1.0))
at_is slab (p ∷ l) (suc i) d h b =
    let o = own_is slab p h.0 in
    at_is slab l i d h.1 (omega arith) ∙ sym (ap (λ (x : List Session). session_at x (suc i)) (under_one slab p l o.0 o.1.0))

pub at_past : (l : List Session) (i : ℕ) → length l ≤ i → session_at l i ≡ None
at_past [] i h = refl
at_past (s ∷ l) zero h = absurd (omega arith)
at_past (s ∷ l) (suc i) h = at_past l i (omega arith)
