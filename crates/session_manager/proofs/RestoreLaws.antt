-- Sessions put behind the others, as a snapshot or another table has them.
use Rattle.std.proofs.Common.{◌≡◌, ℕ, zero, suc, ◌+◌, add-one, ◌<◌, ◌≤◌, ℤ, ◌<ℤ◌, List, [], ◌∷◌, ◌++◌, length, take, None, Some, refl, sym, ap, subst, arith}
use Rattle.std.specs.List.{AllByRecursion}
use Rattle.slab.specs.Slab.{Slab, get, Updates}
use Rattle.session_manager.specs.declared.session.Session.{Session}
use Rattle.session_manager.specs.Sessions.{IsOrdered, IdsRise, session_at}
use Rattle.session_manager.specs.Kept.{Pairs, PairsRise, HasOwn, IsKept, under}
use Rattle.session_manager.proofs.KeptLaws.{own_is, under_one, vacant_own, all_push, rise_push}

-- what is true of the ids of the sessions is true of the ids of the pairs, and the other way round
of_pairs : (P : ℤ → Type 0) (slab : Slab Session) (l : Pairs) → AllByRecursion (HasOwn slab) l → AllByRecursion (λ (s : Session). P s.id) (under slab l) → AllByRecursion (λ (p : ℤ × ℕ). P p.0) l
of_pairs P slab [] h a = tt
of_pairs P slab (p ∷ l) h a =
    let o = own_is slab p h.0 in
    let b : AllByRecursion (λ (s : Session). P s.id) (o.0 ∷ under slab l) = subst (AllByRecursion (λ (s : Session). P s.id)) (under_one slab p l o.0 o.1.0) a in
    (subst P o.1.1 b.0, of_pairs P slab l h.1 b.1)

of_sessions : (P : ℤ → Type 0) (slab : Slab Session) (l : Pairs) → AllByRecursion (HasOwn slab) l → AllByRecursion (λ (p : ℤ × ℕ). P p.0) l → AllByRecursion (λ (s : Session). P s.id) (under slab l)
of_sessions P slab [] h a = tt
of_sessions P slab (p ∷ l) h a =
    let o = own_is slab p h.0 in
    subst (AllByRecursion (λ (s : Session). P s.id)) (sym (under_one slab p l o.0 o.1.0)) (subst P (sym o.1.1) a.0, of_sessions P slab l h.1 a.1)

rise_under : (slab : Slab Session) (l : Pairs) → AllByRecursion (HasOwn slab) l → PairsRise l → IdsRise (under slab l)
rise_under slab [] h r = tt
rise_under slab (p ∷ l) h r =
    let o = own_is slab p h.0 in
    subst IdsRise (sym (under_one slab p l o.0 o.1.0)) (subst (λ z. AllByRecursion (λ (s : Session). z <ℤ s.id) (under slab l)) (sym o.1.1) (of_sessions (λ x. p.0 <ℤ x) slab l h.1 r.0), rise_under slab l h.1 r.1)

-- what is kept is an ordered table
pub kept_ordered : (slab : Slab Session) (l : Pairs) (next : ℤ) → IsKept slab l next → IsOrdered (record { listed = under slab l; next_id = next })
kept_ordered slab l next h = record {
  below = of_sessions (λ x. x <ℤ next) slab l h.own h.below;
  rise = rise_under slab l h.own h.rise;
}

pub restored_kept : (key : ℕ) (s : Session) (slab new : Slab Session) (l : Pairs) (next : ℤ) → IsKept slab l next → AllByRecursion (λ (r : Session). r.id <ℤ s.id) (under slab l) → s.id <ℤ next
    → Updates slab new key (Some s) → get slab key ≡ None → IsKept new (l ++ (s.id, key) ∷ []) next
restored_kept key s slab new l next h above below u e = record {
  own = vacant_own key s slab new l u e h.own;
  rise = rise_push l (s.id, key) h.rise (of_pairs (λ x. x <ℤ s.id) slab l h.own above);
  below = all_push (λ (q : ℤ × ℕ). q.0 <ℤ next) l (s.id, key) h.below below;
}

-- ---- a table that is copied session by session

-- the sessions before a place are below the one there
pub above_front : (l : List Session) (i : ℕ) (s : Session) → IdsRise l → session_at l i ≡ Some s → AllByRecursion (λ (r : Session). r.id <ℤ s.id) (take i l)
above_front [] i s r e = absurd cc
above_front (x ∷ l) zero s r e = tt
above_front (x ∷ l) (suc i) s r e = (at l i s r.0 e, above_front l i s r.1 e)
  where
    some_same : (a b : Session) → Some a ≡ Some b → a ≡ b
    some_same a b e = cc

    at : (l : List Session) (i : ℕ) (s : Session) → AllByRecursion (λ (r : Session). x.id <ℤ r.id) l → session_at l i ≡ Some s → x.id <ℤ s.id
    at [] i s h e = absurd cc
    at (y ∷ l) zero s h e = subst (λ (z : Session). x.id <ℤ z.id) (some_same y s e) h.0
    at (y ∷ l) (suc i) s h e = at l i s h.1 e

pub all_at : (P : Session → Type 0) (l : List Session) (i : ℕ) (s : Session) → AllByRecursion P l → session_at l i ≡ Some s → P s
all_at P [] i s h e = absurd cc
all_at P (x ∷ l) zero s h e = subst P (some_same x s e) h.0
  where
    some_same : (a b : Session) → Some a ≡ Some b → a ≡ b
    some_same a b e = cc
all_at P (x ∷ l) (suc i) s h e = all_at P l i s h.1 e

front_next : (l : List Session) (i : ℕ) (s : Session) → session_at l i ≡ Some s → take (suc i) l ≡ take i l ++ s ∷ []
front_next [] i s e = absurd cc
front_next (x ∷ l) zero s e = ap (λ (y : Session). y ∷ []) (some_same x s e)
  where
    some_same : (a b : Session) → Some a ≡ Some b → a ≡ b
    some_same a b e = cc
front_next (x ∷ l) (suc i) s e = ap (λ (t : List Session). x ∷ t) (front_next l i s e)

pub front_more : (l : List Session) (i : ℕ) (s : Session) → session_at l i ≡ Some s → take i l ++ s ∷ [] ≡ take (i + 1) l
front_more l i s e = rw add-one (sym (front_next l i s e))

pub is_there : (l : List Session) (i : ℕ) → i < length l → session_at l i ≡ None → ⊥
is_there [] i h e = absurd (omega arith)
is_there (x ∷ l) zero h e = absurd cc
is_there (x ∷ l) (suc i) h e = is_there l i (omega arith) e

pub front_all : (l : List Session) (i : ℕ) → length l ≤ i → take i l ≡ l
front_all [] zero h = refl
front_all [] (suc i) h = refl
front_all (x ∷ l) zero h = absurd (omega arith)
front_all (x ∷ l) (suc i) h = ap (λ (t : List Session). x ∷ t) (front_all l i (omega arith))
