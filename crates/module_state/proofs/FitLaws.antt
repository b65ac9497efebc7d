-- What is read of pieces that have spellings fits the module.
use Rattle.std.proofs.Common.{◌≡◌, ℕ, zero, suc, ◌+◌, ◌-◌, ◌<◌, ◌≤◌, ◌==◌, ◌^◌, ℤ, pos, negsuc, ◌&&◌, List, [], ◌∷◌, ◌++◌, length, drop, get_or, Option, Some, Ok, Err, refl, sym, ap, ◌∙◌, subst, arith}
use Rattle.std.specs.Prelude.{int_lt, int_le, nat_lt, unsigned_abs}
use Rattle.std.specs.List.{AllByRecursion}
use Rattle.std.specs.Ordering.{int_eq}
use Rattle.std.proofs.lemmas.Bool.{cond_both}
use Rattle.std.proofs.lemmas.Int.{ints}
use Rattle.std.proofs.lemmas.List.{drop_more}
use Rattle.wire_prims.specs.StrictLaws.{Between}
use Rattle.sbe_local.specs.Pieces.{HasPieceSpelling}
use Rattle.sbe_local.specs.declared.piece.Piece.{Piece}
use Rattle.sbe_local.specs.declared.piece.Piece.TheVariants as pieces
use Rattle.timer_service.specs.Timers.{TimerTable}
use Rattle.pending_messages.specs.Pending.{PendingTable, offers_of}
use Rattle.module_state.specs.Ranges.{CountsFit, OffersFit, SessionFits, TimerFits}
use Rattle.module_state.specs.Recorded.{Got, Head, IsCount, and_then, count_of, before_all, with_more, is_above, take_head, take_counters, take_waiting, take_pending, take_sessions, take_timers}
use Rattle.module_state.proofs.ReadLaws.{with_front, front_more}

-- what was read is so, and the pieces behind it have spellings
abbrev pub GotFits : {X : Type 0} → (X → Type 0) → Got X → Type 0
GotFits P (Ok r) = P r.0 × AllByRecursion HasPieceSpelling r.1
GotFits P (Err e) = Unit {0}

before_fits : {X : Type 0} (P Q : List X → Type 0) (x : X) → ((l : List X) → P l → Q (x ∷ l)) → (g : Got (List X)) → GotFits P g → GotFits Q (before_all x g)
before_fits P Q x f (Ok r) h = (f r.0 h.0, h.1)
before_fits P Q x f (Err e) h = tt

-- ---- Module

pub record HeadFits (h : Head) : Type 0 where
  pub next : Between (pos 1) (pos (2 ^ 62)) h.next_id
  pub counts : CountsFit h.counts

number_abs : (z : ℤ) → Between (pos 0) (pos (2 ^ 62)) z → unsigned_abs z ≤ 2 ^ 62
number_abs (pos n) h = omega (arith, ints, h.0, h.1)
number_abs (negsuc n) h = absurd (omega (arith, ints, h.0))

pub head_fits : (ps : List Piece) → AllByRecursion HasPieceSpelling ps → GotFits HeadFits (take_head ps)
head_fits [] h = tt
head_fits (pieces.Module next_session actions entries leader ∷ ps) h =
    (record { next = h.0.0; counts = record { actions = number_abs actions h.0.1; entries = number_abs entries h.0.2; leader = h.0.3 } }, h.1)
head_fits (pieces.Marker service position term mark ∷ ps) h = tt
head_fits (pieces.Session id corr stamp stream closing channel ∷ ps) h = tt
head_fits (pieces.Timer corr deadline ∷ ps) h = tt
head_fits (pieces.Pending number service payload ∷ ps) h = tt
head_fits (pieces.ServiceState bytes ∷ ps) h = tt
head_fits (pieces.Counter offered appended service ∷ ps) h = tt

-- ---- Counters

-- so many counts, none above 2^47
pub record CountsAre (n : ℕ) (cs : List (ℕ × ℕ)) : Type 0 where
  pub number : length cs ≡ n
  pub each : AllByRecursion IsCount cs

count_fits : (offered appended : ℤ) → Between (pos 0) (pos (2 ^ 47)) offered → Between (pos 0) (pos (2 ^ 47)) appended → IsCount (count_of offered appended)
count_fits (pos m) (pos n) h k = omega (arith, ints, h.1, k.1)
count_fits (pos m) (negsuc n) h k = absurd (omega (arith, ints, k.0))
count_fits (negsuc m) a h k = absurd (omega (arith, ints, h.0))

pub counters_fit : (n v : ℕ) (ps : List Piece) → AllByRecursion HasPieceSpelling ps → GotFits (CountsAre n) (take_counters n v ps)
counters_fit zero v ps h = (record { number = refl; each = tt }, h)
counters_fit (suc n) v [] h = tt
counters_fit (suc n) v (pieces.Counter offered appended service ∷ ps) h =
    cond_both (service == v && int_le appended offered) (before_all (count_of offered appended) (take_counters n (suc v) ps)) (Err (pieces.Counter offered appended service ∷ ps)) (GotFits (CountsAre (suc n)))
    (λ _. before_fits (CountsAre n) (CountsAre (suc n)) (count_of offered appended) (λ l k. record { number = ap suc k.number; each = (count_fits offered appended h.0.0 h.0.1, k.each) }) (take_counters n (suc v) ps) (counters_fit n (suc v) ps h.1))
    (λ _. tt)
counters_fit (suc n) v (pieces.Marker service position term mark ∷ ps) h = tt
counters_fit (suc n) v (pieces.Session id corr stamp stream closing channel ∷ ps) h = tt
counters_fit (suc n) v (pieces.Timer corr deadline ∷ ps) h = tt
counters_fit (suc n) v (pieces.Module next_session actions entries leader ∷ ps) h = tt
counters_fit (suc n) v (pieces.Pending number service payload ∷ ps) h = tt
counters_fit (suc n) v (pieces.ServiceState bytes ∷ ps) h = tt

-- ---- Pendings

-- so many payloads, none above the limit
pub record PayloadsAre (n : ℕ) (ws : List (List ℕ)) : Type 0 where
  pub number : length ws ≡ n
  pub each : AllByRecursion (λ (p : List ℕ). length p ≤ 16384) ws

pub waiting_fits : (n v k : ℕ) (ps : List Piece) → AllByRecursion HasPieceSpelling ps → GotFits (PayloadsAre n) (take_waiting n v k ps)
waiting_fits zero v k ps h = (record { number = refl; each = tt }, h)
waiting_fits (suc n) v k [] h = tt
waiting_fits (suc n) v k (pieces.Pending number service payload ∷ ps) h =
    cond_both (service == v && int_eq number (pos (k + 1))) (before_all payload (take_waiting n v (k + 1) ps)) (Err (pieces.Pending number service payload ∷ ps)) (GotFits (PayloadsAre (suc n)))
    (λ _. before_fits (PayloadsAre n) (PayloadsAre (suc n)) payload (λ l j. record { number = ap suc j.number; each = (h.0.2, j.each) }) (take_waiting n v (k + 1) ps) (waiting_fits n v (k + 1) ps h.1))
    (λ _. tt)
waiting_fits (suc n) v k (pieces.Marker service position term mark ∷ ps) h = tt
waiting_fits (suc n) v k (pieces.Session id corr stamp stream closing channel ∷ ps) h = tt
waiting_fits (suc n) v k (pieces.Timer corr deadline ∷ ps) h = tt
waiting_fits (suc n) v k (pieces.Module next_session actions entries leader ∷ ps) h = tt
waiting_fits (suc n) v k (pieces.ServiceState bytes ∷ ps) h = tt
waiting_fits (suc n) v k (pieces.Counter offered appended service ∷ ps) h = tt

-- so many payloads, whatever the pieces are
abbrev LengthIs : ℕ → Got (List (List ℕ)) → Type 0
LengthIs n (Ok r) = length r.0 ≡ n
LengthIs n (Err e) = Unit {0}

before_length : (n : ℕ) (x : List ℕ) (g : Got (List (List ℕ))) → LengthIs n g → LengthIs (suc n) (before_all x g)
before_length n x (Ok r) h = ap suc h
before_length n x (Err e) h = tt

waiting_length : (n v k : ℕ) (ps : List Piece) → LengthIs n (take_waiting n v k ps)
waiting_length zero v k ps = refl
waiting_length (suc n) v k [] = tt
waiting_length (suc n) v k (pieces.Pending number service payload ∷ ps) =
    cond_both (service == v && int_eq number (pos (k + 1))) (before_all payload (take_waiting n v (k + 1) ps)) (Err (pieces.Pending number service payload ∷ ps)) (LengthIs (suc n))
    (λ _. before_length n payload (take_waiting n v (k + 1) ps) (waiting_length n v (k + 1) ps)) (λ _. tt)
waiting_length (suc n) v k (pieces.Marker service position term mark ∷ ps) = tt
waiting_length (suc n) v k (pieces.Session id corr stamp stream closing channel ∷ ps) = tt
waiting_length (suc n) v k (pieces.Timer corr deadline ∷ ps) = tt
waiting_length (suc n) v k (pieces.Module next_session actions entries leader ∷ ps) = tt
waiting_length (suc n) v k (pieces.ServiceState bytes ∷ ps) = tt
waiting_length (suc n) v k (pieces.Counter offered appended service ∷ ps) = tt

pub length_read : (n v k : ℕ) (ps new : List Piece) (ws : List (List ℕ)) → take_waiting n v k ps ≡ Ok (ws, new) → length ws ≡ n
length_read n v k ps new ws e = subst (LengthIs n) e (waiting_length n v k ps)

pub count_at : (cs : List (ℕ × ℕ)) (i : ℕ) (d : ℕ × ℕ) → AllByRecursion IsCount cs → i < length cs → IsCount (get_or cs i d)
count_at [] i d h b = absurd (omega arith)
count_at (c ∷ cs) zero d h b = h.0
count_at (c ∷ cs) (suc i) d h b = count_at cs i d h.1 (omega arith)

-- the messages of one more service were read
pub pending_go : (v w i : ℕ) (cs : List (ℕ × ℕ)) (d : ℕ × ℕ) (ps new : List Piece) (ws : List (List ℕ)) (xs ys : PendingTable) (whole : Got PendingTable) → i < length cs → w ≡ suc v
    → take_waiting (get_or cs i d).1 v (get_or cs i d).0 ps ≡ Ok (ws, new) → ys ≡ xs ++ offers_of (get_or cs i d).0 ws ∷ []
    → with_front xs (take_pending v (drop i cs) ps) ≡ whole → with_front ys (take_pending w (drop (i + 1) cs) new) ≡ whole
pending_go v w i cs d ps new ws xs ys whole b j read pushed before =
    let c : ℕ × ℕ = get_or cs i d in
    let F : List (List ℕ) → List Piece → Got PendingTable = λ ws rest. before_all (record { appended = c.0; waiting = ws }) (take_pending (suc v) (drop (i + 1) cs) rest) in
    ap (λ (u : ℕ). with_front ys (take_pending u (drop (i + 1) cs) new)) j
    ∙ front_more xs ys (offers_of c.0 ws) (take_pending v (drop i cs) ps) (take_pending (suc v) (drop (i + 1) cs) new) whole
    (ap (λ (l : List (ℕ × ℕ)). take_pending v l ps) (drop_more cs i d b) ∙ ap (λ (r : Got (List (List ℕ))). and_then r F) read) pushed before

-- the messages of one service weren't
pub pending_stop : (v i : ℕ) (cs : List (ℕ × ℕ)) (d : ℕ × ℕ) (ps new : List Piece) (xs : PendingTable) (whole : Got PendingTable) → i < length cs
    → take_waiting (get_or cs i d).1 v (get_or cs i d).0 ps ≡ Err new → with_front xs (take_pending v (drop i cs) ps) ≡ whole → whole ≡ Err new
pending_stop v i cs d ps new xs whole b read before =
    let c : ℕ × ℕ = get_or cs i d in
    let F : List (List ℕ) → List Piece → Got PendingTable = λ ws rest. before_all (record { appended = c.0; waiting = ws }) (take_pending (suc v) (drop (i + 1) cs) rest) in
    sym before ∙ ap (with_front xs) (ap (λ (l : List (ℕ × ℕ)). take_pending v l ps) (drop_more cs i d b) ∙ ap (λ (r : Got (List (List ℕ))). and_then r F) read)

-- so many services, and their offers fit
pub record OffersAre (n : ℕ) (os : PendingTable) : Type 0 where
  pub number : length os ≡ n
  pub each : AllByRecursion OffersFit os

then_fits : (n : ℕ) (P : List (List ℕ) → Type 0) (g : Got (List (List ℕ))) (f : List (List ℕ) → List Piece → Got PendingTable) → GotFits P g → ((ws : List (List ℕ)) (rest : List Piece) → P ws → AllByRecursion HasPieceSpelling rest → GotFits (OffersAre n) (f ws rest))
    → GotFits (OffersAre n) (and_then g f)
then_fits n P (Ok r) f h k = k r.0 r.1 h.0 h.1
then_fits n P (Err e) f h k = tt

pub pending_fits : (v : ℕ) (cs : List (ℕ × ℕ)) (ps : List Piece) → AllByRecursion IsCount cs → AllByRecursion HasPieceSpelling ps → GotFits (OffersAre (length cs)) (take_pending v cs ps)
pending_fits v [] ps c h = (record { number = refl; each = tt }, h)
pending_fits v (d ∷ cs) ps c h =
    then_fits (suc (length cs)) (PayloadsAre d.1) (take_waiting d.1 v d.0 ps) (λ ws rest. before_all (record { appended = d.0; waiting = ws }) (take_pending (suc v) cs rest)) (waiting_fits d.1 v d.0 ps h)
    (λ ws rest p k. before_fits (OffersAre (length cs)) (OffersAre (suc (length cs))) (record { appended = d.0; waiting = ws }) (λ l o. record { number = ap suc o.number; each = (record { offered = fits d ws c.0 p.number; each = p.each }, o.each) }) (take_pending (suc v) cs rest) (pending_fits (suc v) cs rest c.1 k))
  where
    fits : (d : ℕ × ℕ) (ws : List (List ℕ)) → IsCount d → length ws ≡ d.1 → d.0 + length ws ≤ 2 ^ 47
    fits d ws h e = omega (arith, h, e)

-- ---- Sessions and Timers

-- what was taken is so, and the pieces behind it have spellings
abbrev pub TakenAre : {X : Type 0} → (X → Type 0) → List X × List Piece → Type 0
TakenAre P r = AllByRecursion P r.0 × AllByRecursion HasPieceSpelling r.1

pub sessions_are : (next : ℤ) (last : Option ℤ) (n : ℕ) (ps : List Piece) → AllByRecursion HasPieceSpelling ps → TakenAre SessionFits (take_sessions next last n ps)
sessions_are next last n [] h = (tt, tt)
sessions_are next last n (pieces.Session id corr stamp stream closing channel ∷ ps) h =
    let more = sessions_are next (Some id) (n - 1) ps h.1 in
    cond_both (is_above last id && (int_lt id next && nat_lt 0 n)) (with_more (record { id = id; corr = corr; stamp = stamp; stream = stream; closing = closing; channel = channel }) (take_sessions next (Some id) (n - 1) ps))
    ([], pieces.Session id corr stamp stream closing channel ∷ ps) (TakenAre SessionFits)
    (λ _. ((record { id = h.0.0; corr = h.0.1; stamp = h.0.2; stream = h.0.3; channel = h.0.4 }, more.0), more.1)) (λ _. (tt, h))
sessions_are next last n (pieces.Marker service position term mark ∷ ps) h = (tt, h)
sessions_are next last n (pieces.Timer corr deadline ∷ ps) h = (tt, h)
sessions_are next last n (pieces.Module next_session actions entries leader ∷ ps) h = (tt, h)
sessions_are next last n (pieces.Pending number service payload ∷ ps) h = (tt, h)
sessions_are next last n (pieces.ServiceState bytes ∷ ps) h = (tt, h)
sessions_are next last n (pieces.Counter offered appended service ∷ ps) h = (tt, h)

pub timers_are : (last : Option ℤ) (n : ℕ) (ps : List Piece) → AllByRecursion HasPieceSpelling ps → TakenAre TimerFits (take_timers last n ps)
timers_are last n [] h = (tt, tt)
timers_are last n (pieces.Timer corr deadline ∷ ps) h =
    let more = timers_are (Some corr) (n - 1) ps h.1 in
    let none : TimerTable × List Piece = ([], pieces.Timer corr deadline ∷ ps) in
    cond_both (is_above last corr && nat_lt 0 n) (with_more {X = ℤ × ℤ} (corr, deadline) (take_timers (Some corr) (n - 1) ps)) none (TakenAre TimerFits)
    (λ _. ((record { name = h.0.0; deadline = h.0.1 }, more.0), more.1)) (λ _. (tt, h))
timers_are last n (pieces.Marker service position term mark ∷ ps) h = (tt, h)
timers_are last n (pieces.Session id corr stamp stream closing channel ∷ ps) h = (tt, h)
timers_are last n (pieces.Module next_session actions entries leader ∷ ps) h = (tt, h)
timers_are last n (pieces.Pending number service payload ∷ ps) h = (tt, h)
timers_are last n (pieces.ServiceState bytes ∷ ps) h = (tt, h)
timers_are last n (pieces.Counter offered appended service ∷ ps) h = (tt, h)
