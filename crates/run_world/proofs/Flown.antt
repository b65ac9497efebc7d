-- What is in flight was sent, whatever the network does.
use Rattle.std.proofs.Common.{◌≡◌, ◌≢◌, inl, inr, ℕ, zero, suc, ◌-◌, ◌<◌, Bool, true, false, ◌&&◌, List, [], ◌∷◌, ◌++◌, length, drop, replicate, refl, sym, ap, ◌∙◌, subst, arith, Option, Some, None}
use Rattle.std.specs.Prelude.{⊤, Contains, filter, cond, nat_lt, nat_le, slice_get, if◌then◌else◌}
use Rattle.std.proofs.lemmas.Bool.{cases_eq}
use Rattle.std.proofs.lemmas.Nat.{same_from_place}
use Rattle.std.specs.List.{AllByRecursion}
use Rattle.sbe_consensus.specs.declared.packet.Outgoing.{Outgoing}
use Rattle.consensus_core.specs.Member.{Sent, spelled_packet}
use Rattle.network.specs.Net.{Flight, NetSeen, Way, sent, taken, coming, first_of, with_link_cut, lost_between, without, open_front, is_lost, in_round, left_behind, since_round, round_without, link_place, changed, kept_more, with_cut, open_link, latest_on, latest_of, replayed, sent_again}
use Rattle.network.specs.Sends.{kept_at}
use Rattle.world.proofs.Effects.{if-cases}
use Rattle.world.specs.World.{World}
use Rattle.run_world.specs.RunWorld.{all_sent}
use Rattle.run_world.specs.Lawful.{WasSent, BytesOf, RoundWasSent, IsFlown}

abbrev pub Flew : World → Flight → Type 0
Flew w ps = AllByRecursion (WasSent w) ps

-- ---- lists

flew-append : (w : World) (ps qs : Flight) → Flew w ps → Flew w qs → Flew w (ps ++ qs)
flew-append w [] qs a b = b
flew-append w (p ∷ ps) qs a b = (a.0, flew-append w ps qs a.1 b)

flew-more : (v w : World) → ((s : Sent) → Contains v.sent s → Contains w.sent s) → (ps : Flight) → Flew v ps → Flew w ps
flew-more v w f [] a = tt
flew-more v w f (p ∷ ps) a = ((a.0.0, f a.0.0 a.0.1, a.0.2), flew-more v w f ps a.1)

round-more : (v w : World) → ((s : Sent) → Contains v.sent s → Contains w.sent s) → (ps : Option Flight) → RoundWasSent v ps → RoundWasSent w ps
round-more v w f None a = tt
round-more v w f (Some ps) a = flew-more v w f ps a

flew-filter : (w : World) (test : ℕ × Outgoing → Bool) (ps : Flight) → Flew w ps → Flew w (filter test ps)
flew-filter w test [] a = tt
flew-filter w test (p ∷ ps) a = at (test p) (flew-filter w test ps a.1)
  where
    at : (b : Bool) → Flew w (filter test ps) → Flew w (cond b (p ∷ filter test ps) (filter test ps))
    at true z = (a.0, z)
    at false z = z

flew-open : (w : World) (members : ℕ) (links : List Way) (ps : Flight) → Flew w ps → Flew w (open_front members links ps)
flew-open w members links [] a = tt
flew-open w members links (p ∷ ps) a = at (is_lost members links p) (flew-open w members links ps a.1)
  where
    at : (b : Bool) → Flew w (open_front members links ps) → Flew w (if b then open_front members links ps else p ∷ ps)
    at true z = z
    at false z = a

-- ---- what the links keep

abbrev All : {X : Type 0} → (X → Type 0) → List X → Type 0
All P xs = AllByRecursion P xs

all-more : {X : Type 0} (P Q : X → Type 0) → ((x : X) → P x → Q x) → (xs : List X) → All P xs → All Q xs
all-more P Q f [] a = tt
all-more P Q f (x ∷ xs) a = (f x a.0, all-more P Q f xs a.1)

all-append : {X : Type 0} (P : X → Type 0) (xs ys : List X) → All P xs → All P ys → All P (xs ++ ys)
all-append P [] ys a b = b
all-append P (x ∷ xs) ys a b = (a.0, all-append P xs ys a.1 b)

all-drop : {X : Type 0} (P : X → Type 0) (xs : List X) → All P xs → All P (drop 1 xs)
all-drop P [] a = tt
all-drop P (x ∷ xs) a = all-drop0 P xs a.1
  where
    all-drop0 : {X : Type 0} (P : X → Type 0) (ys : List X) → All P ys → All P (drop 0 ys)
    all-drop0 P [] b = tt
    all-drop0 P (y ∷ ys) b = b

all-get : {X : Type 0} (P : X → Type 0) (xs : List X) (k : ℕ) (x : X) → All P xs → slice_get xs k ≡ Some x → P x
all-get P [] k x a e = absurd (cc)
all-get P (y ∷ ys) zero x a e = subst P (some-same y x e) a.0
  where
    some-same : {X : Type 0} (a b : X) → Some a ≡ Some b → a ≡ b
    some-same a b z = cc
all-get P (y ∷ ys) (suc k) x a e = all-get P ys k x a.1 e

-- a link that changes, behind another
behind : (f : Way → Way) (w : Way) (ws : List Way) (j : ℕ) (o : Option Way) → changed f o (suc j) (w ∷ ws) ≡ w ∷ changed f o j ws
behind f w ws j None = refl
behind f w ws j (Some v) = refl

other-link : (f : Way → Way) (ws : List Way) (j i : ℕ) → i ≢ j → kept_at (changed f (slice_get ws j) j ws) i ≡ kept_at ws i
other-link f [] j i ne = refl
other-link f (w ∷ ws) zero zero ne = absurd (ne refl)
other-link f (w ∷ ws) zero (suc i) ne = refl
other-link f (w ∷ ws) (suc j) zero ne = ap (λ (vs : List Way). kept_at vs 0) (behind f w ws j (slice_get ws j))
other-link f (w ∷ ws) (suc j) (suc i) ne = ap (λ (vs : List Way). kept_at vs (suc i)) (behind f w ws j (slice_get ws j)) ∙ other-link f ws j i (λ e. ne (ap suc e))

same-link : (P : List ℕ → Type 0) (f : Way → Way) (ws : List Way) (j : ℕ) → ((v : Way) → All P v.kept → All P (f v).kept) → All P (kept_at ws j) → All P (kept_at (changed f (slice_get ws j) j ws) j)
same-link P f [] j keeps a = a
same-link P f (w ∷ ws) zero keeps a = keeps w a
same-link P f (w ∷ ws) (suc j) keeps a = subst (λ (vs : List Way). All P (kept_at vs (suc j))) (sym (behind f w ws j (slice_get ws j))) (same-link P f ws j keeps a)

kept-of : (ws : List Way) (i : ℕ) (v : Way) → slice_get ws i ≡ Some v → kept_at ws i ≡ v.kept
kept-of [] i v e = absurd (cc)
kept-of (w ∷ ws) zero v e = ap (λ (z : Way). z.kept) (some-same w v e)
  where
    some-same : (a b : Way) → Some a ≡ Some b → a ≡ b
    some-same a b z = cc
kept-of (w ∷ ws) (suc i) v e = kept-of ws i v e

pub none-kept : (P : List ℕ → Type 0) (k i : ℕ) → All P (kept_at (replicate k open_link) i)
none-kept P zero i = tt
none-kept P (suc k) zero = tt
none-kept P (suc k) (suc i) = none-kept P k i

more-kept : (P : List ℕ → Type 0) (bytes : List ℕ) (v : Way) → P bytes → All P v.kept → All P (kept_more bytes v).kept
more-kept P bytes v p a = all-append P (if nat_le 256 (length v.kept) then drop 1 v.kept else v.kept) (bytes ∷ []) (if-cases (All P) (nat_le 256 (length v.kept)) _ _ (λ b. all-drop P v.kept a) (λ b. a)) (p, tt)

-- ---- what the network does

pub flown-more : (v w : World) (n : NetSeen) → length w.members ≡ length v.members → ((s : Sent) → Contains v.sent s → Contains w.sent s) → IsFlown v n → IsFlown w n
flown-more v w n size f h = record {
  count = h.count ∙ sym size;
  round = round-more v w f n.round h.round;
  later = flew-more v w f n.later h.later;
  kept = λ a b l. all-more (BytesOf v b) (BytesOf w b) (λ bytes z. (z.0, f z.0 z.1, z.2)) (kept_at n.links (link_place n.members a b)) (h.kept a b l);
}

sent-kept : (w : World) (from : ℕ) (s : Sent) (n : NetSeen) → s.to < n.members → Contains w.sent s → IsFlown w n → (a b : ℕ) → b < n.members → All (BytesOf w b) (kept_at (sent from (spelled_packet s) n).links (link_place n.members a b))
sent-kept w from s n to has h a b l = elim (cases_eq (link_place n.members a b) (link_place n.members from s.to)) [
  | inl same ↦ (let parts = same_from_place a b from s.to n.members l to same in
      subst (λ (i : ℕ). All (BytesOf w b) (kept_at (sent from (spelled_packet s) n).links i)) (sym same)
      (same-link (BytesOf w b) (kept_more (spelled_packet s).bytes) n.links (link_place n.members from s.to) (λ v all. more-kept (BytesOf w b) (spelled_packet s).bytes v (s, has, ap (λ (t : ℕ). record { to = t; bytes = (spelled_packet s).bytes }) parts.1) all)
      (subst (λ (i : ℕ). All (BytesOf w b) (kept_at n.links i)) same (h.kept a b l))))
  | inr other ↦ subst (All (BytesOf w b)) (sym (other-link (kept_more (spelled_packet s).bytes) n.links (link_place n.members from s.to) (link_place n.members a b) other)) (h.kept a b l)
]

flown-sent : (w : World) (from : ℕ) (s : Sent) (n : NetSeen) → s.to < length w.members → Contains w.sent s → IsFlown w n → IsFlown w (sent from (spelled_packet s) n)
flown-sent w from s n to has h = record {
  count = h.count;
  round = h.round;
  later = flew-append w n.later ((from, spelled_packet s) ∷ []) h.later ((s, has, refl), tt);
  kept = let count = h.count in sent-kept w from s n (omega (arith, to, count)) has h;
}

pub flown-all : (w : World) (from : ℕ) (ss : List Sent) (n : NetSeen) → All (λ (s : Sent). Contains w.sent s) ss → ((s : Sent) → Contains w.sent s → s.to < length w.members) → IsFlown w n → IsFlown w (all_sent from ss n)
flown-all w from [] n has to h = h
flown-all w from (s ∷ ss) n has to h = flown-all w from ss (sent from (spelled_packet s) n) has.1 to (flown-sent w from s n (to s has.0) has.0 h)

in-round : (w : World) (round : Option Flight) (later : Flight) → RoundWasSent w round → Flew w later → Flew w (in_round round later)
in-round w None later a b = b
in-round w (Some ps) later a b = a

flew-coming : (w : World) (n : NetSeen) → IsFlown w n → Flew w (coming n)
flew-coming w n h = flew-open w n.members n.links (in_round n.round n.later) (in-round w n.round n.later h.round h.later)

left : (w : World) (ps : Flight) → Flew w ps → RoundWasSent w (left_behind ps)
left w [] a = tt
left w (p ∷ ps) a = a.1

since : (w : World) (round : Option Flight) (later : Flight) → Flew w later → Flew w (since_round round later)
since w None later b = tt
since w (Some ps) later b = b

pub flown-taken : (w : World) (n : NetSeen) → IsFlown w n → IsFlown w (taken n)
flown-taken w n h = record { count = h.count; round = left w (coming n) (flew-coming w n h); later = since w n.round n.later h.later; kept = h.kept }

-- what the network hands on was sent
pub coming-sent : (w : World) (n : NetSeen) (p : ℕ × Outgoing) → IsFlown w n → first_of (coming n) ≡ Some p → WasSent w p
coming-sent w n p h e = at (coming n) (flew-coming w n h) e
  where
    some-same : (a b : ℕ × Outgoing) → Some a ≡ Some b → a ≡ b
    some-same a b z = cc

    at : (ps : Flight) → Flew w ps → first_of ps ≡ Some p → WasSent w p
    at [] a z = absurd (cc)
    at (q ∷ ps) a z = subst (WasSent w) (some-same q p z) a.0

pub flown-cut : (w : World) (c : Bool) (from to : ℕ) (n : NetSeen) → IsFlown w n → IsFlown w (with_link_cut c from to n)
flown-cut w c from to n h = record {
  count = h.count;
  round = h.round;
  later = h.later;
  kept = λ a b l. elim (cases_eq (link_place n.members a b) (link_place n.members from to)) [
    | inl same ↦ subst (λ (i : ℕ). All (BytesOf w b) (kept_at (with_link_cut c from to n).links i)) (sym same)
        (same-link (BytesOf w b) (with_cut c) n.links (link_place n.members from to) (λ v all. all) (subst (λ (i : ℕ). All (BytesOf w b) (kept_at n.links i)) same (h.kept a b l)))
    | inr other ↦ subst (All (BytesOf w b)) (sym (other-link (with_cut c) n.links (link_place n.members from to) (link_place n.members a b) other)) (h.kept a b l)
  ];
}

lost-round : (w : World) (from to : ℕ) (round : Option Flight) → RoundWasSent w round → RoundWasSent w (round_without from to round)
lost-round w from to None a = tt
lost-round w from to (Some ps) a = flew-filter w _ ps a

pub flown-lost : (w : World) (from to : ℕ) (n : NetSeen) → IsFlown w n → IsFlown w (lost_between from to n)
flown-lost w from to n h = record { count = h.count; round = lost-round w from to n.round h.round; later = flew-filter w _ n.later h.later; kept = h.kept }

-- what is sent again was sent
again-was : (w : World) (b k : ℕ) (ws : List Way) (i : ℕ) (bytes : List ℕ) → All (BytesOf w b) (kept_at ws i) → latest_on k (slice_get ws i) ≡ Some bytes → BytesOf w b bytes
again-was w b k ws i bytes all e = at (slice_get ws i) refl e
  where
    of-way : (v : Way) → slice_get ws i ≡ Some v → latest_of k v ≡ Some bytes → BytesOf w b bytes
    of-way v found z =
        if-cases (λ (o : Option (List ℕ)). o ≡ Some bytes → BytesOf w b bytes) (nat_lt 0 k && nat_le k (length v.kept)) (slice_get v.kept (length v.kept - k)) None
        (λ t y. all-get (BytesOf w b) v.kept (length v.kept - k) bytes (subst (All (BytesOf w b)) (kept-of ws i v found) all) y) (λ t y. absurd (cc)) z

    at : (o : Option Way) → slice_get ws i ≡ o → latest_on k o ≡ Some bytes → BytesOf w b bytes
    at None found z = absurd (cc)
    at (Some v) found z = of-way v found z

pub flown-again : (w : World) (from to k : ℕ) (n : NetSeen) → to < length w.members → IsFlown w n → IsFlown w (replayed from to k n)
flown-again w from to k n l h = at (latest_on k (slice_get n.links (link_place n.members from to))) refl
  where
    inside : to < n.members
    inside = let count = h.count in omega (arith, l, count)

    at : (o : Option (List ℕ)) → latest_on k (slice_get n.links (link_place n.members from to)) ≡ o → IsFlown w (sent_again from to o n)
    at None e = h
    at (Some bytes) e = record {
      count = h.count;
      round = h.round;
      later = flew-append w n.later ((from, record { to = to; bytes = bytes }) ∷ []) h.later (again-was w to k n.links (link_place n.members from to) bytes (h.kept from to inside) e, tt);
      kept = h.kept;
    }
