-- What is open was open before, and every later reign began with it.
use Rattle.std.proofs.Common.{◌≡◌, ◌≢◌, ◌⊎◌, inl, inr, ℕ, true, [], ◌∷◌, refl, sym, ap, ◌∙◌, subst, arith, ℤ, pos, negsuc, ◌≤ℤ◌, ◌<ℤ◌}
use Rattle.std.specs.Prelude.{Contains}
use Rattle.std.proofs.lemmas.Int.{ints}
use Rattle.std.proofs.lemmas.Bool.{cases_eq}
use Rattle.entry_log.specs.Log.{Log, last, last_from, place, IsPrefixOf}
use Rattle.entry_log.specs.Quorum.{is_quorum}
use Rattle.std.proofs.lemmas.List.{append-nil}
use Rattle.entry_log.specs.Log.{IsWritten, Rises}
use Rattle.log_replication.specs.Prefixes.{Leads, leads, is_prefix, Leads-trans, Leads-either, IsWritten-front, Leads-by_place, last-up, Rises-front}
use Rattle.world.specs.World.{Raise, Reign}
use Rattle.world.specs.Safe.{count_below}
use Rattle.world.proofs.Quorum.{shared}
use Rattle.world.proofs.Better.{better-not}
use Rattle.agreement.specs.View.{View, Holds, IsOpen, IsGrounded, IsAgreed, IsMove}

pub prefix-trans : (xs ys zs : Log) → IsPrefixOf xs ys → IsPrefixOf ys zs → IsPrefixOf xs zs
prefix-trans xs ys zs p q = is_prefix xs zs (Leads-trans xs ys zs (leads xs ys p) (leads ys zs q))

-- the last term of a log with entries is a term
last-some : (t : ℤ) (log : Log) → IsWritten log → log ≢ [] → pos 0 ≤ℤ last_from t log
last-some t [] w h = absurd (h refl)
last-some t (x ∷ []) w h = w.1
last-some t (x ∷ y ∷ ys) w h = last-some x.term (y ∷ ys) w.2 (λ e. absurd (cc))

pub not-none : (xs ys : Log) → xs ≢ [] → IsPrefixOf xs ys → ys ≢ []
not-none [] ys h p e = h refl
not-none (x ∷ xs) ys h p e = absurd (subst (Leads (x ∷ xs)) e (leads (x ∷ xs) ys p))

-- a candidate term of a member only rises
rises : (m : ℕ) (v w : View) (k : ℕ) → IsMove m v w → v.candidate k ≤ℤ w.candidate k
rises m v w k o = elim (cases_eq k m) [
  | inl e ↦ subst (λ z. v.candidate z ≤ℤ w.candidate z) (sym e) o.rises
  | inr ne ↦ let e = o.candidates k ne in omega (arith, ints, e)
]

-- what a member holds now it held, or its candidate term was no greater
held_before : (m : ℕ) (v w : View) (k : ℕ) (t : ℤ) (xs : Log) → IsMove m v w → Holds w k t xs ⊎ (w.candidate k ≤ℤ t) → Holds v k t xs ⊎ (v.candidate k ≤ℤ t)
held_before m v w k t xs o (inl h) = elim (o.holdings _ h.1) [
  | inl old ↦ inl (h.0, old, h.2)
  | inr new ↦ inr (let e : t ≡ w.candidate k = new.1 ∙ ap w.candidate (sym new.0) in let r = rises m v w k o in omega (arith, ints, e, r))
]
held_before m v w k t xs o (inr le) = inr (let r = rises m v w k o in omega (arith, ints, r, le))

pub open_before : (m : ℕ) (v w : View) (t : ℤ) (xs : Log) → IsMove m v w → IsOpen w t xs → IsOpen v t xs
open_before m v w t xs o p =
    let q = p.2 in
    (p.0, p.1, (q.0, subst (λ n. is_quorum n (count_below n q.0) ≡ true) o.members q.1, λ k yes. held_before m v w k t xs o (q.2 k yes)))

-- a new holding is of a term that no raise is above
no_late_raise : (m : ℕ) (v w : View) (r : Raise) (t : ℤ) → IsMove m v w → IsGrounded v → Contains w.raises r → (r.voter ≡ m) → t ≡ w.candidate m → t <ℤ r.term → ⊥
no_late_raise m v w r t o g has is e lt = elim (o.raises r has) [
  | inl old ↦ let b : r.term ≤ℤ v.candidate m = subst (λ z. r.term ≤ℤ v.candidate z) is (g.below r old) in let u = o.rises in omega (arith, ints, b, u, e, lt)
  | inr new ↦ let b = new.2 in omega (arith, ints, b, e, lt)
]

logs-stay : (m : ℕ) (v w : View) → IsMove m v w → IsAgreed v → (t : ℤ) (xs : Log) (k : ℕ) → IsOpen w t xs → Holds w k t xs → IsPrefixOf xs (w.log k)
logs-stay m v w o a t xs k p h =
    let p' = open_before m v w t xs o p in
    elim (o.holdings _ h.1) [
      | inl old ↦ elim (cases_eq k m) [
        | inl e ↦ subst (λ z. IsPrefixOf xs (w.log z)) (sym e) (o.keeps t xs p' (subst (λ z. Holds v z t xs) e (h.0, old, h.2)))
        | inr ne ↦ subst (IsPrefixOf xs) (sym (o.logs k ne)) (a.logs t xs k p' (h.0, old, h.2))
      ]
      | inr new ↦ subst (λ z. IsPrefixOf xs (w.log z)) (sym new.0) (subst (IsPrefixOf xs) new.2 h.2)
    ]

votes-stay : (m : ℕ) (v w : View) → IsMove m v w → IsGrounded v → IsAgreed v → (t : ℤ) (xs : Log) (r : Raise) → IsOpen w t xs → Holds w r.voter t xs → Contains w.raises r → t <ℤ r.term → IsPrefixOf xs r.log
votes-stay m v w o g a t xs r p h has lt =
    let p' = open_before m v w t xs o p in
    elim (o.holdings _ h.1) [
      | inr new ↦ absurd (no_late_raise m v w r t o g has new.0 new.1 lt)
      | inl old ↦ elim (o.raises r has) [
        | inl before ↦ a.votes t xs r p' (h.0, old, h.2) before lt
        | inr mine ↦ subst (IsPrefixOf xs) (sym mine.3) (a.logs t xs m p' (subst (λ z. Holds v z t xs) mine.0 (h.0, old, h.2)))
      ]
    ]

-- a reign whose voter held it begins with it
module _ (m : ℕ) (v w : View) (o : IsMove m v w) (gv : IsGrounded v) (gw : IsGrounded w) (a : IsAgreed v) (t : ℤ) (xs : Log) (p : IsOpen w t xs) where
  by_later : (r : Reign) → Contains w.reigns r → t <ℤ r.term → t <ℤ last r.first → r.first ≢ [] → IsPrefixOf xs r.first
  by_later r has lt later some =
      let at : IsPrefixOf r.first (w.reign (last r.first)) = gw.first_anchored r has r.first ([], append-nil r.first) some in
      let other = gw.reigned (last r.first) (not-none r.first (w.reign (last r.first)) some at) in
      let r2 = other.0 in
      let early : r2.term <ℤ r.term = (let b = gw.before r has in let e = other.2 in omega (arith, ints, b, e)) in
      let begins : IsPrefixOf xs r2.first ⊎ IsPrefixOf xs r.first = elim (o.one_more r2 r other.1 has) [
        | inl old ↦ inl (a.firsts t xs (open_before m v w t xs o p) r2 old (let e = other.2 in omega (arith, ints, later, e)))
        | inr more ↦ elim more [
          | inl old ↦ inr (a.firsts t xs (open_before m v w t xs o p) r old lt)
          | inr same ↦ absurd (let e = ap (λ (x : Reign). x.term) same in omega (arith, ints, e, early))
        ]
      ] in
      elim begins [
        | inr done ↦ done
        | inl first2 ↦
            let at2 : IsPrefixOf r2.first (w.reign (last r.first)) = subst (λ z. IsPrefixOf r2.first (w.reign z)) other.2 (gw.first r2 other.1) in
            elim (Leads-either r2.first r.first (w.reign (last r.first)) (leads r2.first (w.reign (last r.first)) at2) (leads r.first (w.reign (last r.first)) at)) [
              | inl front ↦ prefix-trans xs r2.first r.first first2 (is_prefix r2.first r.first front)
              | inr back ↦ absurd (
                  let up = last-up (negsuc 0) r.first r2.first (Rises-front (negsuc 0) r2.first (w.reign (last r.first)) (leads r2.first (w.reign (last r.first)) at2) (gw.rises (last r.first))) back in
                  let b = gw.before r2 other.1 in let e = other.2 in omega (arith, ints, up, b, e))
            ]
      ]

  by_vote : (r : Reign) → Contains w.reigns r → t <ℤ r.term → IsPrefixOf xs r.first
  by_vote r has lt =
      let e = gw.elected r has in
      let q = p.2 in
      let both = shared w.members q.0 e.0 q.1 e.1 in
      let k = both.0 in
      let vote = e.2 k both.2 in
      let log = vote.0 in
      let held : Holds w k t xs = elim (q.2 k both.1) [ inl h ↦ h | inr le ↦ absurd (let b = gw.below _ vote.1 in omega (arith, ints, b, le, lt)) ] in
      let front : IsPrefixOf xs log = votes-stay m v w o gv a t xs _ p held vote.1 lt in
      let some : log ≢ [] = not-none xs log p.1 front in
      let at : IsPrefixOf log (w.reign (last log)) = gw.raise_anchored _ vote.1 log ([], append-nil log) some in
      let at' = leads log (w.reign (last log)) at in
      let wl : IsWritten log = IsWritten-front log (w.reign (last log)) at' (gw.written (last log)) in
      let rl : Rises log = Rises-front (negsuc 0) log (w.reign (last log)) at' (gw.rises (last log)) in
      let least : t ≤ℤ last log = subst (λ z. z ≤ℤ last log) p.0 (last-up (negsuc 0) xs log rl (leads xs log front)) in
      let term : pos 0 ≤ℤ last log = last-some (negsuc 0) log wl some in
      elim (better-not (last log) (place log) (last r.first) (place r.first) vote.2) [
        | inl less ↦ by_later r has lt (omega (arith, ints, less, least)) (λ none. let z = ap last none in absurd (omega (arith, ints, less, term, z)))
        | inr same ↦
            let some' : r.first ≢ [] = λ none. (let z = ap last none in let y = same.0 in absurd (omega (arith, ints, y, term, z))) in
            let mine : IsPrefixOf r.first (w.reign (last log)) = subst (λ z. IsPrefixOf r.first (w.reign z)) (sym same.0) (gw.first_anchored r has r.first ([], append-nil r.first) some') in
            prefix-trans xs log r.first front (is_prefix log r.first (Leads-by_place 0 log r.first (w.reign (last log)) (gw.written (last log)) at' (leads r.first (w.reign (last log)) mine) same.1))
      ]

pub stays : (m : ℕ) (v w : View) → IsMove m v w → IsGrounded v → IsGrounded w → IsAgreed v → IsAgreed w
stays m v w o gv gw a = record {
  firsts = λ t xs p r has lt. by_vote m v w o gv gw a t xs p r has lt;
  logs = logs-stay m v w o a;
  votes = votes-stay m v w o gv a;
}
