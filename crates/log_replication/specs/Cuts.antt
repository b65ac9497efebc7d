-- What a cut keeps, and what a batch adds.
use Rattle.std.proofs.Common.{◌≡◌, ◌≢◌, ℕ, ◌≤◌, Bool, true, false, ◌&&◌, [], ◌∷◌, ◌++◌, length, refl, sym, ap, ◌∙◌, subst, arith, ℤ, negsuc, ◌≤ℤ◌, if◌then◌else◌}
use Rattle.std.specs.Prelude.{⊤, int_le, nat_le}
use Rattle.std.proofs.lemmas.Int.{ints}
use Rattle.std.proofs.lemmas.List.{append-nil}
use Rattle.std.proofs.lemmas.Bool.Decides.{nat_tests}
use Rattle.cl_base.specs.declared.entry.Entry.{Entry}
use Rattle.entry_log.specs.Log.{Log, end_after, place, place_from, last, last_from, IsPrefixOf, IsWritten, RisesFrom, Rises}
use Rattle.log_replication.specs.Replication.{IsAnchored, upto, kept, kept_from, past, answer_term, answer_end}
use Rattle.entry_log.specs.Places.{end_after-past, place_from-up}
use Rattle.log_replication.specs.Prefixes.{Leads, leads, is_prefix, Leads-trans, Leads-append, IsWritten-front, Leads-by_place, place-up, last_from-up, Rises-front}

choice : {X : Type 0} (P : X → Type 0) (b : Bool) (x y : X) → (b ≡ true → P x) → (b ≡ false → P y) → P (if b then x else y)
choice P true x y f g = f refl
choice P false x y f g = g refl

both : (a b : Bool) → (a && b) ≡ true → (a ≡ true) × (b ≡ true)
both true b e = (refl, e)
both false b e = cc

pub upto-front : (u : ℤ) (log : Log) → Leads (upto u log) log
upto-front u [] = tt
upto-front u (x ∷ xs) = choice (λ l. Leads l (x ∷ xs)) (int_le x.term u) _ _ (λ h. (refl, upto-front u xs)) (λ h. tt)

-- each term of a log is at most u
abbrev pub Within : ℤ → Log → Type 0
Within u [] = ⊤
Within u (x ∷ xs) = (x.term ≤ℤ u) × Within u xs

-- a log that doesn't fall is within its last term, and within more
pub Within-last : (t u : ℤ) (xs : Log) → RisesFrom t xs → last_from t xs ≤ℤ u → Within u xs
Within-last t u [] r h = tt
Within-last t u (x ∷ xs) r h = (let a = last_from-up x.term xs r.1 in omega (arith, ints, a, h), Within-last x.term u xs r.1 h)

pub Within-front : (u : ℤ) (xs ys : Log) → Leads xs ys → Within u ys → Within u xs
Within-front u [] ys p w = tt
Within-front u (x ∷ xs) [] p w = absurd p
Within-front u (x ∷ xs) (y ∷ ys) p w = (subst (λ (z : Entry). z.term ≤ℤ u) (sym p.0) w.0, Within-front u xs ys p.1 w.1)

-- a prefix within u stands in the longest one
pub upto-holds : (u : ℤ) (xs ys : Log) → Leads xs ys → Within u xs → Leads xs (upto u ys)
upto-holds u [] ys p w = tt
upto-holds u (x ∷ xs) [] p w = absurd p
upto-holds u (x ∷ xs) (y ∷ ys) p w =
    choice (Leads (x ∷ xs)) (int_le y.term u) _ _ (λ h. (p.0, upto-holds u xs ys p.1 w.1))
    (λ h. absurd (let a : y.term ≤ℤ u = subst (λ (z : Entry). z.term ≤ℤ u) p.0 w.0 in grind (arith, ints, a, h)))

pub kept_from-front : (p : ℕ) (u : ℤ) (e : ℕ) (log : Log) → Leads (kept_from p u e log) log
kept_from-front p u e [] = tt
kept_from-front p u e (x ∷ xs) =
    choice (λ l. Leads l (x ∷ xs)) (int_le x.term u && nat_le (end_after p (length x.bytes)) e) _ _
    (λ h. (refl, kept_from-front (end_after p (length x.bytes)) u e xs)) (λ h. tt)

pub kept_from-within : (p : ℕ) (u : ℤ) (e : ℕ) (log : Log) → Within u (kept_from p u e log)
kept_from-within p u e [] = tt
kept_from-within p u e (x ∷ xs) =
    choice (Within u) (int_le x.term u && nat_le (end_after p (length x.bytes)) e) _ _
    (λ h. (let t = (both (int_le x.term u) (nat_le (end_after p (length x.bytes)) e) h).0 in grind (arith, ints, t), kept_from-within (end_after p (length x.bytes)) u e xs)) (λ h. tt)

kept_from-place : (p : ℕ) (u : ℤ) (e : ℕ) (log : Log) → p ≤ e → place_from p (kept_from p u e log) ≤ e
kept_from-place p u e [] h = h
kept_from-place p u e (x ∷ xs) h =
    choice (λ l. place_from p l ≤ e) (int_le x.term u && nat_le (end_after p (length x.bytes)) e) _ _
    (λ b. kept_from-place (end_after p (length x.bytes)) u e xs (let c = (both (int_le x.term u) (nat_le (end_after p (length x.bytes)) e) b).1 in grind (arith, nat_tests, c))) (λ b. h)

-- a prefix within u that ends at most at e is kept
pub kept_from-holds : (p : ℕ) (u : ℤ) (e : ℕ) (xs ys : Log) → IsWritten ys → Leads xs ys → Within u xs → place_from p xs ≤ e → Leads xs (kept_from p u e ys)
kept_from-holds p u e [] ys wr a w h = tt
kept_from-holds p u e (x ∷ xs) [] wr a w h = absurd a
kept_from-holds p u e (x ∷ xs) (y ∷ ys) wr a w h =
    let q = end_after p (length y.bytes) in
    let h' : place_from q xs ≤ e = subst (λ (z : Entry). place_from (end_after p (length z.bytes)) xs ≤ e) a.0 h in
    let t : y.term ≤ℤ u = subst (λ (z : Entry). z.term ≤ℤ u) a.0 w.0 in
    let f = place_from-up q xs (IsWritten-front xs ys a.1 wr.2) in
    let ok : (int_le y.term u && nat_le q e) ≡ true = join (int_le y.term u) (nat_le q e) (grind (arith, ints, t)) (grind (arith, nat_tests, f, h')) in
    rw ok (a.0, kept_from-holds q u e xs ys wr.2 a.1 w.1 h')
  where
    join : (a b : Bool) → a ≡ true → b ≡ true → (a && b) ≡ true
    join a b p q = ap (λ z. z && b) p ∙ q

-- what a log has in common with the leader's is kept
pub common-kept : (own leader xs : Log) → IsWritten own → Rises own → Rises leader → IsWritten leader → Leads xs own → Leads xs leader → Leads xs (kept (answer_term leader (last own)) (answer_end leader (last own)) own)
common-kept own leader xs wo ro rl wl a b =
    let f = last own in
    let low : Within f xs = Within-front f xs own a (Within-last (negsuc 0) f own ro (omega (arith, ints))) in
    let u = upto f leader in
    let in_u : Leads xs u = upto-holds f xs leader b low in
    let ru : Rises u = Rises-front (negsuc 0) u leader (upto-front f leader) rl in
    let wu : IsWritten u = IsWritten-front u leader (upto-front f leader) wl in
    kept_from-holds 0 (last u) (place u) xs own wo a
    (Within-front (last u) xs u in_u (Within-last (negsuc 0) (last u) u ru (omega (arith, ints))))
    (place-up 0 xs u wu in_u)

cons-some : (x : Entry) (xs : Log) → x ∷ xs ≢ []
cons-some x xs e = cc

-- a written log within no term is empty
none-within : (xs : Log) → IsWritten xs → Within (negsuc 0) xs → xs ≡ []
none-within [] w h = refl
none-within (x ∷ xs) w h = absurd (let a = w.1 in let b = h.0 in omega (arith, ints, a, b))

-- where the last term kept is the answer's, what is kept is the leader's
pub matched-kept : (reign : ℤ → Log) (own u : Log) → IsWritten own → IsWritten u → ((t : ℤ) → IsWritten (reign t)) → IsAnchored reign own → IsAnchored reign u
    → last (kept (last u) (place u) own) ≡ last u → Leads (kept (last u) (place u) own) u
matched-kept reign own [] wo wu wr ao au same =
    let k = kept (negsuc 0) 0 own in
    let none : k ≡ [] = none-within k (IsWritten-front k own (kept_from-front 0 (negsuc 0) 0 own) wo) (kept_from-within 0 (negsuc 0) 0 own) in
    subst (λ l. Leads l []) (sym none) tt
matched-kept reign own (y ∷ ys) wo wu wr ao au same =
    let u = y ∷ ys in
    at (kept (last u) (place u) own) refl
  where
    at : (k : Log) → kept (last (y ∷ ys)) (place (y ∷ ys)) own ≡ k → Leads (kept (last (y ∷ ys)) (place (y ∷ ys)) own) (y ∷ ys)
    at [] e = subst (λ l. Leads l (y ∷ ys)) (sym e) tt
    at (x ∷ xs) e =
        let u = y ∷ ys in
        let k = kept (last u) (place u) own in
        let of_own : Leads (x ∷ xs) own = subst (λ l. Leads l own) e (kept_from-front 0 (last u) (place u) own) in
        let ends : place (x ∷ xs) ≤ place u = subst (λ l. place l ≤ place u) e (kept_from-place 0 (last u) (place u) own (place_from-up 0 u wu)) in
        let t : last (x ∷ xs) ≡ last u = ap last (sym e) ∙ same in
        let mine : Leads (x ∷ xs) (reign (last u)) = subst (λ z. Leads (x ∷ xs) (reign z)) t (leads (x ∷ xs) (reign (last (x ∷ xs))) (ao (x ∷ xs) (is_prefix (x ∷ xs) own of_own) (cons-some x xs))) in
        let theirs : Leads u (reign (last u)) = leads u (reign (last u)) (au u ([], append-nil u) (cons-some y ys)) in
        subst (λ l. Leads l u) (sym e) (Leads-by_place 0 (x ∷ xs) u (reign (last u)) (wr (last u)) mine theirs ends)

-- the entries of a piece that end past a prefix of the same log go on from that prefix
pub past-goes_on : (p : ℕ) (own piece log : Log) → IsWritten log → Leads own log → Leads piece log → Leads (own ++ past p (place_from p own) piece) log
past-goes_on p [] [] log w a b = tt
past-goes_on p (x ∷ xs) [] log w a b = subst (λ l. Leads l log) (sym (append-nil (x ∷ xs))) a
past-goes_on p own (y ∷ ys) [] w a b = absurd b
past-goes_on p [] (y ∷ ys) (z ∷ zs) w a b =
    choice (λ l. Leads l (z ∷ zs)) (nat_le (end_after p (length y.bytes)) p) _ _
    (λ h. absurd (let f = end_after-past p (length y.bytes) (IsWritten-front (y ∷ ys) (z ∷ zs) b w).0 in grind (arith, nat_tests, f, h)))
    (λ h. b)
past-goes_on p (x ∷ xs) (y ∷ ys) (z ∷ zs) w a b =
    let same : x ≡ y = a.0 ∙ sym b.0 in
    let q = end_after p (length x.bytes) in
    let ends : nat_le (end_after p (length y.bytes)) (place_from q xs) ≡ true =
    subst (λ (v : Entry). nat_le (end_after p (length v.bytes)) (place_from q xs) ≡ true) same
    (let f = place_from-up q xs (IsWritten-front xs zs a.1 w.2) in grind (arith, nat_tests, f)) in
    rw ends (a.0, subst (λ (v : Entry). Leads (xs ++ past (end_after p (length v.bytes)) (place_from q xs) ys) zs) same (past-goes_on q xs ys zs w.2 a.1 b.1))

-- a piece at a prefix before, added to a longer prefix
pub piece-added : (p : ℕ) (before piece own log : Log) → IsWritten log → Leads (before ++ piece) log → Leads own log → place_from p before ≤ place_from p own
    → Leads (own ++ past (place_from p before) (place_from p own) piece) log
piece-added p [] piece own log w a b h = past-goes_on p own piece log w b a
piece-added p (x ∷ xs) piece own [] w a b h = absurd a
piece-added p (x ∷ xs) piece [] (z ∷ zs) w a b h =
    absurd (let wx = IsWritten-front (x ∷ xs) (z ∷ zs) (Leads-trans (x ∷ xs) ((x ∷ xs) ++ piece) (z ∷ zs) (Leads-append (x ∷ xs) piece) a) w in
    let f = end_after-past p (length x.bytes) wx.0 in let g = place_from-up (end_after p (length x.bytes)) xs wx.2 in omega (arith, f, g, h))
piece-added p (x ∷ xs) piece (y ∷ ys) (z ∷ zs) w a b h =
    let same : x ≡ y = a.0 ∙ sym b.0 in (
      b.0,
      subst (λ (v : Entry). Leads (ys ++ past (place_from (end_after p (length x.bytes)) xs) (place_from (end_after p (length v.bytes)) ys) piece) zs) same
          (piece-added (end_after p (length x.bytes)) xs piece ys zs w.2 a.1 b.1 (subst (λ (v : Entry). place_from (end_after p (length x.bytes)) xs ≤ place_from (end_after p (length v.bytes)) ys) (sym same) h)),
    )

-- THE LAWS. Of the log that a follower cuts at an answer of its leader, all that the two logs have in common is kept.
pub keeps_common : (own leader xs : Log) → IsWritten own → Rises own → Rises leader → IsWritten leader → IsPrefixOf xs own → IsPrefixOf xs leader
    → IsPrefixOf xs (kept (answer_term leader (last own)) (answer_end leader (last own)) own)
keeps_common own leader xs wo ro rl wl a b =
    is_prefix xs (kept (answer_term leader (last own)) (answer_end leader (last own)) own) (common-kept own leader xs wo ro rl wl (leads xs own a) (leads xs leader b))

-- Where its last term is then the answer's, nothing else is kept.
pub keeps_matched : (reign : ℤ → Log) (own leader : Log) → IsWritten own → Rises leader → IsWritten leader → ((t : ℤ) → IsWritten (reign t)) → IsAnchored reign own → IsAnchored reign leader
    → last (kept (answer_term leader (last own)) (answer_end leader (last own)) own) ≡ answer_term leader (last own)
    → IsPrefixOf (kept (answer_term leader (last own)) (answer_end leader (last own)) own) leader
keeps_matched reign own leader wo rl wl wr ao al same =
    let u = upto (last own) leader in
    let front = upto-front (last own) leader in
    let k = kept (answer_term leader (last own)) (answer_end leader (last own)) own in
    is_prefix k leader (Leads-trans k u leader
    (matched-kept reign own u wo (IsWritten-front u leader front wl) wr ao (λ xs p some. al xs (is_prefix xs leader (Leads-trans xs u leader (leads xs u p) front)) some) same) front)

-- A piece of a reign that begins within a prefix of it makes a prefix of it.
pub appends_piece : (reign before piece own : Log) → IsWritten reign → IsPrefixOf (before ++ piece) reign → IsPrefixOf own reign → place before ≤ place own
    → IsPrefixOf (own ++ past (place before) (place own) piece) reign
appends_piece reign before piece own w a b h =
    is_prefix (own ++ past (place before) (place own) piece) reign (piece-added 0 before piece own reign w (leads (before ++ piece) reign a) (leads own reign b) h)
