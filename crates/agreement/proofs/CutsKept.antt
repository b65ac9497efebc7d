-- What a follower keeps when its log is cut: what is open, committed or settled of it.
use Rattle.std.proofs.Common.{◌≡◌, ◌≢◌, ◌⊎◌, inl, inr, ℕ, ◌<◌, ◌≤◌, true, ◌&&◌, [], length, refl, sym, ap, ◌∙◌, subst, arith, ℤ, negsuc, ◌≤ℤ◌, ◌<ℤ◌}
use Rattle.std.specs.Prelude.{nat_eq, int_le}
use Rattle.std.proofs.lemmas.Int.{ints}
use Rattle.std.proofs.lemmas.Bool.Decides.{nat_tests}
use Rattle.entry_log.specs.declared.name.LogName.{LogName}
use Rattle.entry_log.specs.Log.{Log, name_of, last, place, IsPrefixOf}
use Rattle.log_replication.specs.Replication.{kept, answer_term, answer_end, upto}
use Rattle.entry_log.specs.Log.{IsWritten, Rises}
use Rattle.log_replication.specs.Prefixes.{Leads, leads, is_prefix, Leads-self, Leads-trans, Leads-either, IsWritten-front, Rises-front, last-up}
use Rattle.log_replication.specs.Cuts.{common-kept, upto-front, upto-holds, Within-last, kept_from-holds}
use Rattle.world.specs.World.{World, member}
use Rattle.consensus_core.specs.Member.{Member}
use Rattle.consensus_core.specs.Rows.{same_name}
use Rattle.world.proofs.Kept.{Inv}
use Rattle.world.proofs.Quorum.{shared}
use Rattle.world.proofs.Rows.{and_true}
use Rattle.agreement.specs.View.{Holds, IsOpen, IsCommitted, IsSettled, view_of}
use Rattle.agreement.proofs.Opens.{prefix-trans, not-none}
use Rattle.agreement.proofs.Second.{reign_of, Fits}
use Rattle.agreement.proofs.Writes.{from_anchor}

pub same_name-is : (a b : LogName) → same_name a b ≡ true → a ≡ b
same_name-is a b h =
    let p = and_true (int_le a.term b.term) (int_le b.term a.term && nat_eq a.place b.place) h in
    let q = and_true (int_le b.term a.term) (nat_eq a.place b.place) p.1 in
    let t : a.term ≡ b.term = (let x = p.0 in let y = q.0 in grind (arith, ints)) in
    let z : a.place ≡ b.place = (let y = q.1 in grind (arith, nat_tests)) in
    (λ j. record { term = t j; place = z j })

module _ (n : ℕ) (w : World) (m : ℕ) (i : Inv n w) (l : m < length w.members) (up : (member w m).up ≡ true) (f : Fits n w) where
  abbrev x0 : Member
  x0 = member w m

  abbrev log : Log
  log = x0.durable.log

  fl : IsWritten log × Rises log
  fl = from_anchor n w m i l up f log refl

  -- what was open and held by this member stands in what it keeps
  pub open-kept : (a : Log) (t : ℤ) (asked keep : LogName) → asked ≡ name_of log → t ≡ x0.durable.candidate
      → IsPrefixOf a (reign_of w t) → last a ≡ t → a ≢ [] → keep.term ≡ answer_term a asked.term → keep.place ≡ answer_end a asked.term → (asked.term ≡ t → asked.place ≤ keep.place)
      → (u : ℤ) (xs : Log) → IsOpen (view_of w) u xs → Holds (view_of w) m u xs → Leads xs (kept keep.term keep.place log)
  open-kept a t asked keep is_asked is_cand front last_t some ut et ep u xs p h =
      let g = f.grounded in
      let in_log : Leads xs log = leads xs log (f.agreed.logs u xs m p h) in
      let fa = leads a (reign_of w t) front in
      let wa : IsWritten a = IsWritten-front a (reign_of w t) fa (g.written t) in
      let ra : Rises a = Rises-front (negsuc 0) a (reign_of w t) fa (g.rises t) in
      let asked_t : asked.term ≡ last log = ap (λ (z : LogName). z.term) is_asked in
      let asked_p : asked.place ≡ place log = ap (λ (z : LogName). z.place) is_asked in
      let u_log : u ≤ℤ last log = subst (λ z. z ≤ℤ last log) p.0 (last-up (negsuc 0) xs log fl.1 in_log) in
      let log_t : last log ≤ℤ t = (let b = f.low m in omega (arith, ints, b, is_cand)) in
      elim (below-or (last log) t log_t) [
        | inl same ↦
            let whole : a_upto ≡ a_upto = refl in
            let in_u : Leads a (upto t a) = upto-holds t a a (Leads-self a) (Within-last (negsuc 0) t a ra (omega (arith, ints, last_t))) in
            let high : t ≤ℤ keep.term = (let z : t ≤ℤ last (upto t a) = subst (λ y. y ≤ℤ last (upto t a)) last_t (last-up (negsuc 0) a (upto t a) (Rises-front (negsuc 0) (upto t a) a (upto-front t a) ra) in_u) in
            let y : keep.term ≡ last (upto t a) = ut ∙ ap (λ k. last (upto k a)) (asked_t ∙ same) in omega (arith, ints, z, y)) in
            let all : Leads log (kept keep.term keep.place log) = kept_from-holds 0 keep.term keep.place log log fl.0 (Leads-self log) (Within-last (negsuc 0) keep.term log fl.1 (omega (arith, ints, same, high)))
            (let z = ep (asked_t ∙ same) in omega (arith, z, asked_p)) in
            Leads-trans xs log (kept keep.term keep.place log) in_log all
        | inr less ↦
            let reign = g.reigned t (not-none a (reign_of w t) some front) in
            let first = (reign.0).first in
            let begins' : IsPrefixOf xs first = f.agreed.firsts u xs p reign.0 reign.1 (let z = reign.2 in omega (arith, ints, u_log, less, z)) in
            let ff : Leads first (reign_of w t) = subst (λ z. Leads first (reign_of w z)) reign.2 (leads first (reign_of w (reign.0).term) (g.first reign.0 reign.1)) in
            let in_a : Leads xs a = elim (Leads-either first a (reign_of w t) ff fa) [
              | inl q ↦ Leads-trans xs first a (leads xs first begins') q
              | inr q ↦ absurd (let z = last-up (negsuc 0) a first (Rises-front (negsuc 0) first (reign_of w t) ff (g.rises t)) q in let y = g.before reign.0 reign.1 in let x = reign.2 in omega (arith, ints, z, y, x, last_t))
            ] in
            subst (λ (z : ℤ × ℕ). Leads xs (kept z.0 z.1 log)) (λ j. (sym (ut ∙ ap (answer_term a) asked_t) j, sym (et ∙ ap (answer_end a) asked_t) j)) (common-kept log a xs fl.0 fl.1 ra wa in_log in_a)
      ]
    where
      a_upto : Log
      a_upto = upto t a

      below-or : (a b : ℤ) → a ≤ℤ b → (a ≡ b) ⊎ (a <ℤ b)
      below-or a b h = grind (arith, ints)

  -- a cut keeps what the log has in common with a list committed in a term at most the member's
  pub committed-kept : (a : Log) (t : ℤ) (asked keep : LogName) → asked ≡ name_of log → t ≡ x0.durable.candidate
      → IsPrefixOf a (reign_of w t) → last a ≡ t → a ≢ [] → keep.term ≡ answer_term a asked.term → keep.place ≡ answer_end a asked.term → (asked.term ≡ t → asked.place ≤ keep.place)
      → (u : ℤ) (xs ys : Log) → u ≤ℤ t → IsCommitted (view_of w) u ys → Leads xs ys → Leads xs log → Leads xs (kept keep.term keep.place log)
  committed-kept a t asked keep is_asked is_cand front last_t some ut et ep u xs ys high done in_ys in_log =
      let g = f.grounded in
      let fa = leads a (reign_of w t) front in
      let wa : IsWritten a = IsWritten-front a (reign_of w t) fa (g.written t) in
      let ra : Rises a = Rises-front (negsuc 0) a (reign_of w t) fa (g.rises t) in
      let asked_t : asked.term ≡ last log = ap (λ (z : LogName). z.term) is_asked in
      let asked_p : asked.place ≡ place log = ap (λ (z : LogName). z.place) is_asked in
      let log_t : last log ≤ℤ t = (let b = f.low m in omega (arith, ints, b, is_cand)) in
      let reign = g.reigned t (not-none a (reign_of w t) some front) in
      let first = (reign.0).first in
      let ff : Leads first (reign_of w t) = subst (λ z. Leads first (reign_of w z)) reign.2 (leads first (reign_of w (reign.0).term) (g.first reign.0 reign.1)) in
      let first_a : Leads first a = elim (Leads-either first a (reign_of w t) ff fa) [
        | inl q ↦ q
        | inr q ↦ absurd (let z = last-up (negsuc 0) a first (Rises-front (negsuc 0) first (reign_of w t) ff (g.rises t)) q in let y = g.before reign.0 reign.1 in let x = reign.2 in omega (arith, ints, z, y, x, last_t))
      ] in
      let by_common : Leads xs a → Leads xs (kept keep.term keep.place log) = λ in_a.
      subst (λ (z : ℤ × ℕ). Leads xs (kept z.0 z.1 log)) (λ j. (sym (ut ∙ ap (answer_term a) asked_t) j, sym (et ∙ ap (answer_end a) asked_t) j)) (common-kept log a xs fl.0 fl.1 ra wa in_log in_a) in
      elim (below-or u t high) [
        | inr less ↦ by_common (Leads-trans xs first a (Leads-trans xs ys first in_ys (leads ys first (f.agreed.firsts u ys (done.0, done.1, ((done.2).0, (done.2).1, λ k h. inl ((done.2).2 k h))) reign.0 reign.1 (let z = reign.2 in omega (arith, ints, less, z))))) first_a)
        | inl same ↦ elim (below-or (last log) t log_t) [
          | inr less ↦
              let held = (done.2).2 (shared (length w.members) (done.2).0 (done.2).0 (done.2).1 (done.2).1).0 (shared (length w.members) (done.2).0 (done.2).0 (done.2).1 (done.2).1).1 in
              let at_reign : IsPrefixOf ys (reign_of w u) = prefix-trans ys held.0 (reign_of w u) held.2 (g.held _ held.1) in
              let x_reign : IsPrefixOf xs (reign_of w (reign.0).term) = subst (λ z. IsPrefixOf xs (reign_of w z)) (same ∙ sym reign.2) (prefix-trans xs ys (reign_of w u) (is_prefix xs ys in_ys) at_reign) in
              let low : last xs <ℤ (reign.0).term = (let z = last-up (negsuc 0) xs log fl.1 in_log in let y = reign.2 in omega (arith, ints, z, y, less)) in
              by_common (Leads-trans xs first a (leads xs first (f.parts reign.0 reign.1 xs x_reign low)) first_a)
          | inl whole ↦
              let in_u : Leads a (upto t a) = upto-holds t a a (Leads-self a) (Within-last (negsuc 0) t a ra (omega (arith, ints, last_t))) in
              let up_term : t ≤ℤ keep.term = (let z : t ≤ℤ last (upto t a) = subst (λ y. y ≤ℤ last (upto t a)) last_t (last-up (negsuc 0) a (upto t a) (Rises-front (negsuc 0) (upto t a) a (upto-front t a) ra) in_u) in
              let y : keep.term ≡ last (upto t a) = ut ∙ ap (λ k. last (upto k a)) (asked_t ∙ whole) in omega (arith, ints, z, y)) in
              Leads-trans xs log (kept keep.term keep.place log) in_log
              (kept_from-holds 0 keep.term keep.place log log fl.0 (Leads-self log) (Within-last (negsuc 0) keep.term log fl.1 (omega (arith, ints, whole, up_term))) (let z = ep (asked_t ∙ whole) in omega (arith, z, asked_p)))
        ]
      ]
    where
      below-or : (a b : ℤ) → a ≤ℤ b → (a ≡ b) ⊎ (a <ℤ b)
      below-or a b h = grind (arith, ints)

  -- and what of it is settled
  pub settled-kept : (a : Log) (t : ℤ) (asked keep : LogName) → asked ≡ name_of log → t ≡ x0.durable.candidate
      → IsPrefixOf a (reign_of w t) → last a ≡ t → a ≢ [] → keep.term ≡ answer_term a asked.term → keep.place ≡ answer_end a asked.term → (asked.term ≡ t → asked.place ≤ keep.place)
      → (xs : Log) → IsSettled (view_of w) x0.durable.candidate xs → Leads xs log → Leads xs (kept keep.term keep.place log)
  settled-kept a t asked keep is_asked is_cand front last_t some ut et ep xs (inl none) p = subst (λ z. Leads z (kept keep.term keep.place log)) (sym none) tt
  settled-kept a t asked keep is_asked is_cand front last_t some ut et ep xs (inr s) p =
      committed-kept a t asked keep is_asked is_cand front last_t some ut et ep s.0 xs s.1 (let h = s.2 in omega (arith, ints, h, is_cand)) s.3 (leads xs s.1 s.4) p
