-- Each call of the network leaves on each link what was kept there, but for a packet that is sent on it.
use Rattle.std.proofs.Common.{◌≡◌, ◌≢◌, ℕ, zero, suc, ◌+◌, ◌-◌, ◌*◌, ◌<◌, ◌≤◌, Bool, true, false, cond, ◌&&◌, eqb, leb, ltb, List, [], ◌∷◌, ◌++◌, length, drop, replicate, Option, Some, None, refl, sym, ap, ◌∙◌, subst, arith, append_assoc, append-nil, length-append, length-drop}
use Rattle.std.specs.List.{slice_get}
use Rattle.std.proofs.lemmas.Bool.{and_parts}
use Rattle.std.proofs.lemmas.Bool.Decides.{nat_tests}
use Rattle.std.proofs.lemmas.List.{drop-append-le, length-set, length-replicate}
use Rattle.std.proofs.lemmas.Nat.{same_from_place, mul-add-lt}
use Rattle.network.specs.Net.{NetSeen, Way, open_link, with_cut, kept_more, kth_latest, latest_on, link_place, changed, quiet_net, sent_again}
use Rattle.network.specs.Sends.{Act, Sends, Takes, Cuts, Heals, Loses, Replays, acted, after_all, sends_on, sent_between, latest, kept_at, kept_on, again_on, IsAmong, AreAmong}

-- ---- the latest of a list, and one more

drop_zero : (xs : List (List ℕ)) → drop 0 xs ≡ xs
drop_zero [] = refl
drop_zero (x ∷ xs) = refl

drop_one : (k : ℕ) (xs : List (List ℕ)) → drop 1 (drop k xs) ≡ drop (suc k) xs
drop_one zero [] = refl
drop_one zero (x ∷ xs) = refl
drop_one (suc k) [] = refl
drop_one (suc k) (x ∷ xs) = drop_one k xs

abbrev more : List ℕ → List (List ℕ) → List (List ℕ)
more b xs = cond (leb 256 (length xs)) (drop 1 xs) xs ++ b ∷ []

many : (n : ℕ) → leb 256 n ≡ true → 256 ≤ n
many n e = grind (arith, nat_tests)

few : (n : ℕ) → leb 256 n ≡ false → n < 256
few n e = grind (arith, nat_tests)

latest_more : (b : List ℕ) (xs : List (List ℕ)) → more b (latest xs) ≡ latest (xs ++ b ∷ [])
latest_more b xs = by (leb 256 (length xs)) refl
  where
    longer : length (xs ++ b ∷ []) ≡ length xs + 1
    longer = length-append xs (b ∷ [])

    by : (t : Bool) → leb 256 (length xs) ≡ t → more b (latest xs) ≡ latest (xs ++ b ∷ [])
    by true e =
        let long = many (length xs) e in
        let size : length (latest xs) ≡ 256 = omega (arith, length-drop (length xs - 256) xs) in
        let next : length (xs ++ b ∷ []) - 256 ≡ suc (length xs - 256) = omega (arith, longer) in
        ap (λ k. cond (leb 256 k) (drop 1 (latest xs)) (latest xs) ++ b ∷ []) size
        ∙ ap (λ ys. ys ++ b ∷ []) (drop_one (length xs - 256) xs)
        ∙ sym (drop-append-le (suc (length xs - 256)) xs (b ∷ []) (omega arith))
        ∙ sym (ap (λ k. drop k (xs ++ b ∷ [])) next)
    by false e =
        let short = few (length xs) e in
        let none : length xs - 256 ≡ 0 = omega arith in
        let still : length (xs ++ b ∷ []) - 256 ≡ 0 = omega (arith, longer) in
        let all : latest xs ≡ xs = ap (λ k. drop k xs) none ∙ drop_zero xs in
        ap (more b) all
        ∙ ap (λ t. cond t (drop 1 xs) xs ++ b ∷ []) e
        ∙ sym (ap (λ k. drop k (xs ++ b ∷ [])) still ∙ drop_zero (xs ++ b ∷ []))

slice_drop : (m : ℕ) (xs : List (List ℕ)) (j : ℕ) → slice_get (drop m xs) j ≡ slice_get xs (m + j)
slice_drop zero xs j = let same : j ≡ 0 + j = omega arith in ap (λ ys. slice_get ys j) (drop_zero xs) ∙ ap (λ i. slice_get xs i) same
slice_drop (suc m) [] j = refl
slice_drop (suc m) (x ∷ xs) j = let same : suc (m + j) ≡ suc m + j = omega arith in slice_drop m xs j ∙ ap (λ i. slice_get (x ∷ xs) i) same

within : (k n : ℕ) → leb k n ≡ true → k ≤ n
within k n e = grind (arith, nat_tests)

past : (k n : ℕ) → leb k n ≡ false → n < k
past k n e = grind (arith, nat_tests)

is_within : (k n : ℕ) → k ≤ n → leb k n ≡ true
is_within k n h = grind (arith, nat_tests)

is_past : (k n : ℕ) → n < k → leb k n ≡ false
is_past k n h = grind (arith, nat_tests)

-- the k-th latest of the latest 256 is that of the whole list, k being at most 256
kth_of_latest : (k : ℕ) (xs : List (List ℕ)) → k ≤ 256 → kth_latest k (latest xs) ≡ kth_latest k xs
kth_of_latest k xs most = by (leb k (length xs)) refl
  where
    size : length (latest xs) ≡ length xs - (length xs - 256)
    size = length-drop (length xs - 256) xs

    by : (t : Bool) → leb k (length xs) ≡ t → kth_latest k (latest xs) ≡ kth_latest k xs
    by true e =
        let few = within k (length xs) e in
        let here : leb k (length (latest xs)) ≡ true = is_within k (length (latest xs)) (omega (arith, size)) in
        let place : (length xs - 256) + (length (latest xs) - k) ≡ length xs - k = omega (arith, size) in
        ap (λ t. cond (ltb 0 k && t) (slice_get (latest xs) (length (latest xs) - k)) None) here
        ∙ ap (λ o. cond (ltb 0 k && true) o None) (slice_drop (length xs - 256) xs (length (latest xs) - k) ∙ ap (λ i. slice_get xs i) place)
        ∙ sym (ap (λ t. cond (ltb 0 k && t) (slice_get xs (length xs - k)) None) e)
    by false e =
        let none = past k (length xs) e in
        let here : leb k (length (latest xs)) ≡ false = is_past k (length (latest xs)) (omega (arith, size)) in
        ap (λ t. cond (ltb 0 k && t) (slice_get (latest xs) (length (latest xs) - k)) None) here
        ∙ nothing (ltb 0 k) (slice_get (latest xs) (length (latest xs) - k)) (slice_get xs (length xs - k))
        ∙ sym (ap (λ t. cond (ltb 0 k && t) (slice_get xs (length xs - k)) None) e)
      where
        nothing : (t : Bool) (o p : Option (List ℕ)) → cond (t && false) o None ≡ cond (t && false) p None
        nothing true o p = refl
        nothing false o p = refl

latest_at : (k : ℕ) (ws : List Way) (i : ℕ) → i < length ws → latest_on k (slice_get ws i) ≡ kth_latest k (kept_at ws i)
latest_at k [] i h = absurd (omega arith)
latest_at k (w ∷ ws) zero h = refl
latest_at k (w ∷ ws) (suc i) h = latest_at k ws i (omega arith)

-- ---- a change of one link

changed_cons : (f : Way → Way) (o : Option Way) (i : ℕ) (w : Way) (ws : List Way) → changed f o (suc i) (w ∷ ws) ≡ w ∷ changed f o i ws
changed_cons f None i w ws = refl
changed_cons f (Some v) i w ws = refl

length-changed : (f : Way → Way) (o : Option Way) (i : ℕ) (ws : List Way) → length (changed f o i ws) ≡ length ws
length-changed f None i ws = refl
length-changed f (Some w) i ws = length-set ws i (f w)

at_same : (b : List ℕ) (ws : List Way) (i : ℕ) → i < length ws → kept_at (changed (kept_more b) (slice_get ws i) i ws) i ≡ more b (kept_at ws i)
at_same b [] i h = absurd (omega arith)
at_same b (w ∷ ws) zero h = refl
at_same b (w ∷ ws) (suc i) h = ap (λ l. kept_at l (suc i)) (changed_cons (kept_more b) (slice_get ws i) i w ws) ∙ at_same b ws i (omega arith)

at_other : (f : Way → Way) (ws : List Way) (i j : ℕ) → i ≢ j → kept_at (changed f (slice_get ws i) i ws) j ≡ kept_at ws j
at_other f [] i j h = refl
at_other f (w ∷ ws) zero zero h = absurd (h refl)
at_other f (w ∷ ws) zero (suc j) h = refl
at_other f (w ∷ ws) (suc i) zero h = ap (λ l. kept_at l zero) (changed_cons f (slice_get ws i) i w ws)
at_other f (w ∷ ws) (suc i) (suc j) h = ap (λ l. kept_at l (suc j)) (changed_cons f (slice_get ws i) i w ws) ∙ at_other f ws i j (λ e. h (ap suc e))

at_cut : (c : Bool) (ws : List Way) (i j : ℕ) → kept_at (changed (with_cut c) (slice_get ws i) i ws) j ≡ kept_at ws j
at_cut c [] i j = refl
at_cut c (w ∷ ws) zero zero = refl
at_cut c (w ∷ ws) zero (suc j) = refl
at_cut c (w ∷ ws) (suc i) zero = ap (λ l. kept_at l zero) (changed_cons (with_cut c) (slice_get ws i) i w ws)
at_cut c (w ∷ ws) (suc i) (suc j) = ap (λ l. kept_at l (suc j)) (changed_cons (with_cut c) (slice_get ws i) i w ws) ∙ at_cut c ws i j

nothing_kept : (n i : ℕ) → kept_at (replicate n open_link) i ≡ []
nothing_kept zero i = refl
nothing_kept (suc n) zero = refl
nothing_kept (suc n) (suc i) = nothing_kept n i

again_links : (a b : ℕ) (o : Option (List ℕ)) (n : NetSeen) → (sent_again a b o n).links ≡ n.links
again_links a b None n = refl
again_links a b (Some bytes) n = refl

again_members : (a b : ℕ) (o : Option (List ℕ)) (n : NetSeen) → (sent_again a b o n).members ≡ n.members
again_members a b None n = refl
again_members a b (Some bytes) n = refl

-- ---- every call

record Holds (members a b : ℕ) (n : NetSeen) (xs : List (List ℕ)) : Type 0 where
  count : n.members ≡ members
  size : length n.links ≡ members * members
  kept : kept_at n.links (link_place members a b) ≡ latest xs

equal_from : (x y : ℕ) → eqb x y ≡ true → x ≡ y
equal_from x y e = grind (arith, nat_tests)

equal_to : (x y : ℕ) → x ≡ y → eqb x y ≡ true
equal_to x y e = grind (arith, nat_tests)

-- the links after a packet was sent from c to d, in a network of so many members
abbrev links_sent : ℕ → ℕ → ℕ → List ℕ → List Way → List Way
links_sent members c d bytes ws = changed (kept_more bytes) (slice_get ws (link_place members c d)) (link_place members c d) ws

-- of a sent packet, in one case and in the other
sent_here : (members a b : ℕ) (bytes : List ℕ) (ws : List Way) → a < members → b < members → length ws ≡ members * members → kept_at (links_sent members a b bytes ws) (link_place members a b) ≡ more bytes (kept_at ws (link_place members a b))
sent_here members a b bytes ws a_in b_in size =
    let inside = mul-add-lt a members b members a_in b_in in
    at_same bytes ws (link_place members a b) (omega (arith, size, inside))

apart : (members a b c d : ℕ) → b < members → d < members → (eqb c a && eqb d b) ≡ false → link_place members c d ≢ link_place members a b
apart members a b c d b_in d_in e same =
    let parts = same_from_place c d a b members d_in b_in same in
    let both : (eqb c a && eqb d b) ≡ true = rw (equal_to c a parts.0, equal_to d b parts.1) refl in
    cc

sent_kept : (members a b c d : ℕ) (bytes : List ℕ) (ws : List Way) (xs : List (List ℕ)) → c < members → d < members → a < members → b < members → length ws ≡ members * members → kept_at ws (link_place members a b) ≡ latest xs
    → (t : Bool) → (eqb c a && eqb d b) ≡ t → kept_at (links_sent members c d bytes ws) (link_place members a b) ≡ latest (xs ++ cond t (bytes ∷ []) [])
sent_kept members a b c d bytes ws xs c_in d_in a_in b_in size kept true e =
    let parts = and_parts (eqb c a) (eqb d b) e in
    ap (λ x. kept_at (links_sent members x d bytes ws) (link_place members a b)) (equal_from c a parts.0)
    ∙ ap (λ y. kept_at (links_sent members a y bytes ws) (link_place members a b)) (equal_from d b parts.1)
    ∙ sent_here members a b bytes ws a_in b_in size
    ∙ ap (more bytes) kept
    ∙ latest_more bytes xs
sent_kept members a b c d bytes ws xs c_in d_in a_in b_in size kept false e =
    at_other (kept_more bytes) ws (link_place members c d) (link_place members a b) (apart members a b c d b_in d_in e) ∙ kept ∙ ap latest (sym (append-nil xs))

-- a call that changes what no link keeps
steady : (members a b : ℕ) (n m : NetSeen) (xs : List (List ℕ)) → Holds members a b n xs → m.members ≡ n.members → length m.links ≡ length n.links → kept_at m.links (link_place members a b) ≡ kept_at n.links (link_place members a b) → Holds members a b m (xs ++ [])
steady members a b n m xs h count size kept = record {
  count = count ∙ h.count;
  size = size ∙ h.size;
  kept = kept ∙ h.kept ∙ ap latest (sym (append-nil xs));
}

cuts : (members a b c d : ℕ) (t : Bool) (n : NetSeen) (xs : List (List ℕ)) → Holds members a b n xs → Holds members a b (record n { links = changed (with_cut t) (slice_get n.links (link_place n.members c d)) (link_place n.members c d) n.links }) (xs ++ [])
cuts members a b c d t n xs h =
    steady members a b n (record n { links = changed (with_cut t) (slice_get n.links (link_place n.members c d)) (link_place n.members c d) n.links }) xs h refl
    (length-changed (with_cut t) (slice_get n.links (link_place n.members c d)) (link_place n.members c d) n.links)
    (at_cut t n.links (link_place n.members c d) (link_place members a b))

step : (members a b : ℕ) (n : NetSeen) (act : Act) (xs : List (List ℕ)) → a < members → b < members → IsAmong members act → Holds members a b n xs → Holds members a b (acted n act) (xs ++ sends_on a b act)
step members a b n (Sends c o) xs a_in b_in among h = record {
  count = h.count;
  size = length-changed (kept_more o.bytes) (slice_get n.links (link_place n.members c o.to)) (link_place n.members c o.to) n.links ∙ h.size;
  kept =
      ap (λ k. kept_at (links_sent k c o.to o.bytes n.links) (link_place members a b)) h.count
      ∙ sent_kept members a b c o.to o.bytes n.links xs among.0 among.1 a_in b_in h.size h.kept (eqb c a && eqb o.to b) refl;
}
step members a b n Takes xs a_in b_in among h = steady members a b n (acted n Takes) xs h refl refl refl
step members a b n (Cuts c d) xs a_in b_in among h = cuts members a b c d true n xs h
step members a b n (Heals c d) xs a_in b_in among h = cuts members a b c d false n xs h
step members a b n (Loses c d) xs a_in b_in among h = steady members a b n (acted n (Loses c d)) xs h refl refl refl
step members a b n (Replays c d k) xs a_in b_in among h =
    let found = latest_on k (slice_get n.links (link_place n.members c d)) in
    steady members a b n (acted n (Replays c d k)) xs h (again_members c d found n) (ap (λ (ws : List Way). length ws) (again_links c d found n)) (ap (λ ws. kept_at ws (link_place members a b)) (again_links c d found n))

steps : (members a b : ℕ) (acts : List Act) (n : NetSeen) (xs : List (List ℕ)) → a < members → b < members → AreAmong members acts → Holds members a b n xs → Holds members a b (after_all n acts) (xs ++ sent_between a b acts)
steps members a b [] n xs a_in b_in among h = subst (λ ys. Holds members a b n ys) (sym (append-nil xs)) h
steps members a b (act ∷ acts) n xs a_in b_in among h =
    subst (λ ys. Holds members a b (after_all (acted n act) acts) ys) (append_assoc xs (sends_on a b act) (sent_between a b acts))
    (steps members a b acts (acted n act) (xs ++ sends_on a b act) a_in b_in among.1 (step members a b n act xs a_in b_in among.0 h))

held : (members a b : ℕ) (acts : List Act) → a < members → b < members → AreAmong members acts → Holds members a b (after_all (quiet_net members) acts) (sent_between a b acts)
held members a b acts a_in b_in among =
    let start : Holds members a b (quiet_net members) [] = record {
      count = refl;
      size = length-replicate (members * members) open_link;
      kept = nothing_kept (members * members) (link_place members a b);
    } in
    steps members a b acts (quiet_net members) [] a_in b_in among start

pub keeps_latest : (members a b : ℕ) (acts : List Act) → a < members → b < members → AreAmong members acts → kept_on (after_all (quiet_net members) acts) a b ≡ latest (sent_between a b acts)
keeps_latest members a b acts a_in b_in among =
    let end = held members a b acts a_in b_in among in
    ap (λ k. kept_at (after_all (quiet_net members) acts).links (link_place k a b)) end.count ∙ end.kept

pub sends_again : (members a b : ℕ) (acts : List Act) (k : ℕ) → a < members → b < members → AreAmong members acts → k ≤ 256 → again_on k (after_all (quiet_net members) acts) a b ≡ kth_latest k (sent_between a b acts)
sends_again members a b acts k a_in b_in among most =
    let end = held members a b acts a_in b_in among in
    let ws = (after_all (quiet_net members) acts).links in
    let inside = mul-add-lt a members b members a_in b_in in
    ap (λ m. latest_on k (slice_get ws (link_place m a b))) end.count
    ∙ latest_at k ws (link_place members a b) (omega (arith, end.size, inside))
    ∙ ap (kth_latest k) end.kept
    ∙ kth_of_latest k (sent_between a b acts) most
