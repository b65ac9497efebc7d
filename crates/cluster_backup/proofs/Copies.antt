-- What a backup has after a list of packets, one packet at a time.
use Rattle.std.proofs.Common.{◌≡◌, ◌⊎◌, inl, inr, ⊎_elim, ℕ, zero, suc, ◌+◌, ◌-◌, ◌<◌, ◌≤◌, ℤ, pos, ◌≤ℤ◌, Bool, true, false, ◌&&◌, IsTrue, List, [], ◌∷◌, ◌++◌, length, drop, Some, refl, sym, ◌∙◌, ap, subst, append_assoc, arith}
use Rattle.std.specs.Prelude.{slice_get, unsigned_abs, ◌==◌, Result, Ok, Err, IfOk, OnErr}
use Rattle.std.specs.Ordering.{int_eq}
use Rattle.std.proofs.lemmas.Bool.{false≢true, and_parts, and_from, eqb-true, eq-eqb, cond-true, cond-false}
use Rattle.std.proofs.lemmas.Int.{ints}
use Rattle.std.proofs.lemmas.List.{append-nil, length-append, drop_at}
use Rattle.cl_base.specs.declared.entry.Entry.{Entry}
use Rattle.entry_log.specs.Log.{Log, IsPrefixOf, Rises, RisesFrom, last, last_from, place, place_from}
use Rattle.entry_log.specs.Places.{place_from-append, place_from_grows}
use Rattle.recording_log.specs.declared.entry.RecEntry.{RecEntry}
use Rattle.recording_log.specs.Listed.{IsThere}
use Rattle.recording_log.specs.Valid.{is_snapshot}
use Rattle.member_disk.specs.Kept.{Kept}
use Rattle.member_disk.specs.Changes.{HasMoreTerms, IsAppended, IsPut, entry_for}
use Rattle.member_disk.specs.Parts.{put_part}
use Rattle.member_disk.specs.CutWell.{snapshots_of}
use Rattle.member_disk.proofs.CutWells.{snapshots_stay}
use Rattle.member_disk.specs.declared.durable.SnapshotHead.{SnapshotHead}
use Rattle.cluster_backup.specs.Spelling.{packet_of}
use Rattle.cluster_backup.specs.Taking.{entries_of, past, Fits, Grows, CanPut, Puts, EntriesBring, SnapshotBrings, Brings, head_of}
use Rattle.cluster_backup.specs.Copying.{IsLike, Makes, Took, TookAll, all_behind, FitInTurn, GrewByBatches, IsPieceOf, ArePiecesOf, EndWithin}
use Rattle.cluster_backup.specs.declared.packet.BackupPacket.{BackupPacket}
use Rattle.cluster_backup.specs.declared.packet.BackupPacket.TheVariants.{Query, Log as LogPacket, Snapshot}
use Rattle.cluster_backup.specs.declared.answer.Taken.{Taken}
use Rattle.cluster_backup.specs.declared.answer.BackupFault.{BackupFault}
use Rattle.cluster_backup.specs.declared.answer.Taken.TheVariants.{Grown, Part, Nothing, Bad}

-- ---- whether an entry is there

same_entry : RecEntry → RecEntry → Bool
same_entry a b = int_eq a.recording b.recording && (int_eq a.term b.term && (int_eq a.base b.base && (int_eq a.position b.position && (int_eq a.stamp b.stamp && (int_eq a.service b.service && (a.kind == b.kind))))))

int_same : (a b : ℤ) → int_eq a b ≡ true → a ≡ b
int_same a b e = grind (arith, ints)

int_again : (a : ℤ) → int_eq a a ≡ true
int_again a = grind (arith, ints)

abbrev made : ℤ → ℤ → ℤ → ℤ → ℤ → ℤ → ℕ → RecEntry
made recording term base position stamp service kind = record { recording = recording; term = term; base = base; position = position; stamp = stamp; service = service; kind = kind }

entry_same : (a b : RecEntry) → same_entry a b ≡ true → a ≡ b
unfolding same_entry
entry_same a b e =
    let p0 = and_parts (int_eq a.recording b.recording) (int_eq a.term b.term && (int_eq a.base b.base && (int_eq a.position b.position && (int_eq a.stamp b.stamp && (int_eq a.service b.service && (a.kind == b.kind)))))) e in
    let p1 = and_parts (int_eq a.term b.term) (int_eq a.base b.base && (int_eq a.position b.position && (int_eq a.stamp b.stamp && (int_eq a.service b.service && (a.kind == b.kind))))) p0.1 in
    let p2 = and_parts (int_eq a.base b.base) (int_eq a.position b.position && (int_eq a.stamp b.stamp && (int_eq a.service b.service && (a.kind == b.kind)))) p1.1 in
    let p3 = and_parts (int_eq a.position b.position) (int_eq a.stamp b.stamp && (int_eq a.service b.service && (a.kind == b.kind))) p2.1 in
    let p4 = and_parts (int_eq a.stamp b.stamp) (int_eq a.service b.service && (a.kind == b.kind)) p3.1 in
    let p5 = and_parts (int_eq a.service b.service) (a.kind == b.kind) p4.1 in
    fields a b (int_same a.recording b.recording p0.0) (int_same a.term b.term p1.0) (int_same a.base b.base p2.0) (int_same a.position b.position p3.0) (int_same a.stamp b.stamp p4.0) (int_same a.service b.service p5.0) (eqb-true a.kind b.kind p5.1)
  where
    fields : (a b : RecEntry) → a.recording ≡ b.recording → a.term ≡ b.term → a.base ≡ b.base → a.position ≡ b.position → a.stamp ≡ b.stamp → a.service ≡ b.service → a.kind ≡ b.kind → a ≡ b
    fields a b r t c p s v k =
        ap (λ x. made x a.term a.base a.position a.stamp a.service a.kind) r ∙ ap (λ x. made b.recording x a.base a.position a.stamp a.service a.kind) t ∙ ap (λ x. made b.recording b.term x a.position a.stamp a.service a.kind) c
        ∙ ap (λ x. made b.recording b.term b.base x a.stamp a.service a.kind) p ∙ ap (λ x. made b.recording b.term b.base b.position x a.service a.kind) s ∙ ap (λ x. made b.recording b.term b.base b.position b.stamp x a.kind) v ∙ ap (λ x. made b.recording b.term b.base b.position b.stamp b.service x) k

entry_again : (a : RecEntry) → same_entry a a ≡ true
unfolding same_entry
entry_again a =
    and_from (int_eq a.recording a.recording) _ (int_again a.recording) (and_from (int_eq a.term a.term) _ (int_again a.term) (and_from (int_eq a.base a.base) _ (int_again a.base) (and_from (int_eq a.position a.position) _ (int_again a.position)
    (and_from (int_eq a.stamp a.stamp) _ (int_again a.stamp) (and_from (int_eq a.service a.service) (a.kind == a.kind) (int_again a.service) (eq-eqb a.kind a.kind refl))))))

some_same : (a b : RecEntry) → Some a ≡ Some b → a ≡ b
some_same a b same = cc

pub is_there : (e : RecEntry) (es : List RecEntry) → IsThere e es ⊎ (IsThere e es → ⊥)
is_there e [] = inr (λ there. absurd (cc (there.1)))
is_there e (x ∷ xs) = go (same_entry x e) refl (is_there e xs)
  where
    behind : (same_entry x e ≡ false) → (IsThere e xs → ⊥) → (i : ℕ) → slice_get (x ∷ xs) i ≡ Some e → ⊥
    behind other none zero at = false≢true (sym other ∙ subst (λ k. same_entry k e ≡ true) (sym (some_same x e at)) (entry_again e))
    behind other none (suc i) at = none (i, at)

    go : (b : Bool) → same_entry x e ≡ b → IsThere e xs ⊎ (IsThere e xs → ⊥) → IsThere e (x ∷ xs) ⊎ (IsThere e (x ∷ xs) → ⊥)
    go true is rest = inl (0, ap (λ k. Some k) (entry_same x e is))
    go false is (inl there) = inl (suc there.0, there.1)
    go false is (inr none) = inr (λ there. behind is none there.0 there.1)

-- ---- the SNAPSHOT entries that count

in_snapshots : (es : List RecEntry) (i : ℕ) (e : RecEntry) → slice_get es i ≡ Some e → is_snapshot e ≡ true → (j : ℕ) × (slice_get (snapshots_of es) j ≡ Some e)
in_snapshots [] i e at counts = absurd (cc)
in_snapshots (x ∷ xs) zero e at counts =
    let same : x ≡ e = some_same x e at in
    (0, ap (λ (l : List RecEntry). slice_get l 0) (cond-true (is_snapshot x) (x ∷ snapshots_of xs) (snapshots_of xs) (ap is_snapshot same ∙ counts)) ∙ at)
in_snapshots (x ∷ xs) (suc i) e at counts = go (is_snapshot x) refl (in_snapshots xs i e at counts)
  where
    go : (b : Bool) → is_snapshot x ≡ b → (j : ℕ) × (slice_get (snapshots_of xs) j ≡ Some e) → (j : ℕ) × (slice_get (snapshots_of (x ∷ xs)) j ≡ Some e)
    go true is there = (suc there.0, ap (λ (l : List RecEntry). slice_get l (suc there.0)) (cond-true (is_snapshot x) (x ∷ snapshots_of xs) (snapshots_of xs) is) ∙ there.1)
    go false is there = (there.0, ap (λ (l : List RecEntry). slice_get l there.0) (cond-false (is_snapshot x) (x ∷ snapshots_of xs) (snapshots_of xs) is) ∙ there.1)

from_snapshots : (es : List RecEntry) (j : ℕ) (e : RecEntry) → slice_get (snapshots_of es) j ≡ Some e → (i : ℕ) × (slice_get es i ≡ Some e)
from_snapshots [] j e at = absurd (cc)
from_snapshots (x ∷ xs) j e at = go (is_snapshot x) refl (λ k. from_snapshots xs k e)
  where
    front : (k : ℕ) → slice_get (x ∷ snapshots_of xs) k ≡ Some e → ((k : ℕ) → slice_get (snapshots_of xs) k ≡ Some e → (i : ℕ) × (slice_get xs i ≡ Some e)) → (i : ℕ) × (slice_get (x ∷ xs) i ≡ Some e)
    front zero is rest = (0, is)
    front (suc k) is rest = let there = rest k is in (suc there.0, there.1)

    go : (b : Bool) → is_snapshot x ≡ b → ((k : ℕ) → slice_get (snapshots_of xs) k ≡ Some e → (i : ℕ) × (slice_get xs i ≡ Some e)) → (i : ℕ) × (slice_get (x ∷ xs) i ≡ Some e)
    go true is rest = front j (sym (ap (λ (l : List RecEntry). slice_get l j) (cond-true (is_snapshot x) (x ∷ snapshots_of xs) (snapshots_of xs) is)) ∙ at) rest
    go false is rest = let there = rest j (sym (ap (λ (l : List RecEntry). slice_get l j) (cond-false (is_snapshot x) (x ∷ snapshots_of xs) (snapshots_of xs) is)) ∙ at) in (suc there.0, there.1)

like_within : (old new : Kept) → IsLike old new → EndWithin old → EndWithin new
like_within old new like h i e at counts =
    let there = in_snapshots new.entries i e at counts in
    let before = from_snapshots old.entries there.0 e (sym (ap (λ (l : List RecEntry). slice_get l there.0) like.snapshots) ∙ there.1) in
    let low = h before.0 e before.1 counts in
    let same = ap place like.log in
    omega (arith, ints, low, same)

-- ---- what one packet makes

get_split : (xs ys : List RecEntry) (i : ℕ) (d : RecEntry) → slice_get (xs ++ ys) i ≡ Some d → (slice_get xs i ≡ Some d) ⊎ ((j : ℕ) × (slice_get ys j ≡ Some d))
get_split [] ys i d is = inr (i, is)
get_split (x ∷ xs) ys zero d is = inl is
get_split (x ∷ xs) ys (suc i) d is = get_split xs ys i d is

only_one : (x e : RecEntry) (j : ℕ) → slice_get (x ∷ []) j ≡ Some e → e ≡ x
only_one x e zero at = sym (some_same x e at)
only_one x e (suc j) at = absurd (cc)

place_up : (xs ys : Log) → place xs ≤ place (xs ++ ys)
place_up xs ys = omega (arith, place_from-append 0 xs ys, place_from_grows (place xs) ys)

-- entries behind the log
longer : (old : Kept) (batch : Log) → EndWithin old → EndWithin (record old { log = old.log ++ batch })
longer old batch h i e at counts = let low = h i e at counts in let up = place_up old.log batch in omega (arith, ints, low, up)

-- a snapshot within the log
put_within : (old : Kept) (head : SnapshotHead) → head.position ≤ place old.log → EndWithin old → EndWithin (put_part old head).makes
put_within old head low h i e at counts = ⊎_elim
    (λ there. h i e there counts)
    (λ there. let is = only_one (entry_for old head) e there.0 there.1 in let same = ap (λ (k : RecEntry). k.position) is in omega (arith, ints, same, low))
    (get_split old.entries (entry_for old head ∷ []) i e at)

-- it stayed, or a batch that fits was put behind it
pub record LogStep (old new : Log) : Type 0 where
  pub batch : Log
  pub is : new ≡ old ++ batch
  pub fits : (batch ≡ []) ⊎ Fits (place old) (last old) batch

stays : (old new : Log) → new ≡ old → LogStep old new
stays old new same = record { batch = []; is = same ∙ sym (append-nil old); fits = inl refl }

makes_log : (old after : Kept) (p : BackupPacket) → Makes old p after → LogStep old.log after.log
makes_log old after (Query entries position) h = absurd h
makes_log old after (LogPacket start events) h = record { batch = past (length old.log) start events; is = ap (λ (k : Kept). k.log) h.1; fits = inr h.0.fits }
makes_log old after (Snapshot recording term position stamp service pieces) h = stays old.log after.log (ap (λ (k : Kept). k.log) h.1)

makes_node : (old after : Kept) (p : BackupPacket) → Makes old p after → after.node ≡ old.node
makes_node old after (Query entries position) h = absurd h
makes_node old after (LogPacket start events) h = ap (λ (k : Kept). k.node) h.1
makes_node old after (Snapshot recording term position stamp service pieces) h = ap (λ (k : Kept). k.node) h.1

makes_within : (old after : Kept) (p : BackupPacket) → Makes old p after → EndWithin old → EndWithin after
makes_within old after (Query entries position) h within = absurd h
makes_within old after (LogPacket start events) h within = subst EndWithin (sym h.1) (longer old (past (length old.log) start events) within)
makes_within old after (Snapshot recording term position stamp service pieces) h within = subst EndWithin (sym h.1) (put_within old (head_of recording term position stamp service) h.0.1.within within)

-- ---- one packet, taken or cut off

took_log : (bytes : List ℕ) (old new : Kept) → Took bytes old new → LogStep old.log new.log
took_log bytes old new (inl like) = stays old.log new.log like.log
took_log bytes old new (inr h) = subst (λ (l : Log). LogStep old.log l) (sym h.2.log) (makes_log old h.0 h.1.0 h.1.2)

took_node : (bytes : List ℕ) (old new : Kept) → Took bytes old new → new.node ≡ old.node
took_node bytes old new (inl like) = like.node
took_node bytes old new (inr h) = h.2.node ∙ makes_node old h.0 h.1.0 h.1.2

took_within : (bytes : List ℕ) (old new : Kept) → Took bytes old new → EndWithin old → EndWithin new
took_within bytes old new (inl like) within = like_within old new like within
took_within bytes old new (inr h) within = like_within h.0 new h.2 (makes_within old h.0 h.1.0 h.1.2 within)

-- ---- what a call answers, as a packet that was taken

pub like_same : (kept : Kept) → IsLike kept kept
like_same kept = record { node = refl; log = refl; snapshots = refl }

pub terms_like : (old new : Kept) → HasMoreTerms old new → IsLike old new
terms_like old new more = record { node = more.node; log = more.log; snapshots = snapshots_stay old.entries new.entries more.entries }

same_like : (old new : Kept) → new ≡ old → IsLike old new
same_like old new is = subst (IsLike old) (sym is) (like_same old)

put_took : (bytes : List ℕ) (old new : Kept) (p : BackupPacket) (head : SnapshotHead) → packet_of bytes ≡ Some p → Makes old p (put_part old head).makes → IsPut head old new → Took bytes old new
put_took bytes old new p head is makes put = ⊎_elim
    (λ there. inl (same_like old new (put.again there)))
    (λ none. inr ((put_part old head).makes, (p, is, makes), same_like (put_part old head).makes new (put.first none)))
    (is_there (entry_for old head) old.entries)

pub brings_took : (bytes : List ℕ) (old new : Kept) (p : BackupPacket) (answer : Taken) → packet_of bytes ≡ Some p → Brings old p answer new → Took bytes old new
brings_took bytes old new (Query entries position) answer is h = inl (same_like old new h.1)
brings_took bytes old new (LogPacket start events) (Grown count) is h =
    let after : Kept = record old { log = old.log ++ past (length old.log) start events } in
    inr (after, (LogPacket start events, is, (h.0, refl)), record { node = h.2.node; log = h.2.log; snapshots = snapshots_stay old.entries new.entries h.2.entries })
brings_took bytes old new (LogPacket start events) Part is h = absurd h
brings_took bytes old new (LogPacket start events) Nothing is h = inl (same_like old new h.1)
brings_took bytes old new (LogPacket start events) (Bad b) is h = absurd h
brings_took bytes old new (Snapshot recording term position stamp service pieces) (Grown count) is h = absurd h
brings_took bytes old new (Snapshot recording term position stamp service pieces) Part is h = put_took bytes old new (Snapshot recording term position stamp service pieces) (head_of recording term position stamp service) is (h.0, refl) h.1
brings_took bytes old new (Snapshot recording term position stamp service pieces) Nothing is h = inl (same_like old new h.1)
brings_took bytes old new (Snapshot recording term position stamp service pieces) (Bad b) is h = absurd h

-- whatever a call answers
pub result_took : (bytes : List ℕ) (old new : Kept) (p : BackupPacket) (r : Result Taken BackupFault) → packet_of bytes ≡ Some p → IfOk r (λ taken. Brings old p taken new) → OnErr r (HasMoreTerms old new) → Took bytes old new
result_took bytes old new p (Ok taken) is brings more = brings_took bytes old new p taken is brings
result_took bytes old new p (Err e) is brings more = inl (terms_like old new more)

-- ---- lists of packets

pub grows_all : (bs : List (List ℕ)) (old new : Kept) → TookAll bs old new → GrewByBatches old.log new.log
grows_all [] old new h = record { batches = []; fit = tt; is = ap (λ (k : Kept). k.log) h }
grows_all (b ∷ bs) old new h = go (took_log b old h.0 h.1) (grows_all bs h.0 new h.2)
  where
    go : LogStep old.log h.0.log → GrewByBatches h.0.log new.log → GrewByBatches old.log new.log
    go s g = ⊎_elim
        (λ none. let same : h.0.log ≡ old.log = s.is ∙ ap (λ l. old.log ++ l) none ∙ append-nil old.log in subst (λ l. GrewByBatches l new.log) same g)
        (λ fits. record {
          batches = s.batch ∷ g.batches;
          fit = (fits, subst (λ l. FitInTurn l g.batches) s.is g.fit);
          is = g.is ∙ ap (λ l. all_behind l g.batches) s.is;
        })
        s.fits

rises-append : (t : ℤ) (xs ys : Log) → RisesFrom t xs → RisesFrom (last_from t xs) ys → RisesFrom t (xs ++ ys)
rises-append t [] ys a b = b
rises-append t (x ∷ xs) ys a b = (a.0, rises-append x.term xs ys a.1 b)

rises_step : (old new : Log) → LogStep old new → Rises old → Rises new
rises_step old new s h = ⊎_elim
    (λ none. subst Rises (sym (s.is ∙ ap (λ l. old ++ l) none ∙ append-nil old)) h)
    (λ fits. subst Rises (sym s.is) (rises-append _ old s.batch h fits.rises))
    s.fits

pub rises_all : (bs : List (List ℕ)) (old new : Kept) → TookAll bs old new → Rises old.log → Rises new.log
rises_all [] old new h r = subst (λ (k : Kept). Rises k.log) (sym h) r
rises_all (b ∷ bs) old new h r = rises_all bs h.0 new h.2 (rises_step old.log h.0.log (took_log b old h.0 h.1) r)

pub within_all : (bs : List (List ℕ)) (old new : Kept) → TookAll bs old new → EndWithin old → EndWithin new
within_all [] old new h w = subst EndWithin (sym h) w
within_all (b ∷ bs) old new h w = within_all bs h.0 new h.2 (took_within b old h.0 h.1 w)

pub node_all : (bs : List (List ℕ)) (old new : Kept) → TookAll bs old new → new.node ≡ old.node
node_all [] old new h = ap (λ (k : Kept). k.node) h
node_all (b ∷ bs) old new h = node_all bs h.0 new h.2 ∙ took_node b old h.0 h.1

-- ---- pieces of one log

entries-drop : (n : ℕ) (bs : List (List ℕ)) → entries_of (drop n bs) ≡ drop n (entries_of bs)
entries-drop zero bs = refl
entries-drop (suc n) [] = refl
entries-drop (suc n) (b ∷ bs) = entries-drop n bs

drop-front : (n : ℕ) (xs ys : Log) → n ≤ length xs → drop n (xs ++ ys) ≡ drop n xs ++ ys
drop-front zero xs ys h = refl
drop-front (suc n) [] ys h = absurd (omega (arith, h))
drop-front (suc n) (x ∷ xs) ys h = drop-front n xs ys (omega (arith, h))

drop-behind : (n : ℕ) (xs ys : Log) → drop (length xs + n) (xs ++ ys) ≡ drop n ys
drop-behind n [] ys = let none : 0 + n ≡ n = omega arith in ap (λ k. drop k ys) none
drop-behind n (x ∷ xs) ys = let more : suc (length xs) + n ≡ suc (length xs + n) = omega arith in ap (λ k. drop k (x ∷ (xs ++ ys))) more ∙ drop-behind n xs ys

some_left : (n : ℕ) (xs : Log) → 0 < length (drop n xs) → n ≤ length xs
some_left zero xs h = omega arith
some_left (suc n) [] h = absurd (omega (arith, h))
some_left (suc n) (x ∷ xs) h = omega (arith, some_left n xs h)

-- the entries of a piece past a front of the log, put behind that front, make a longer front
front_grows : (log whole : Log) (start : ℤ) (events : List (List ℕ)) → IsPieceOf whole start events → IsPrefixOf log whole → unsigned_abs start ≤ length log → 0 < length (past (length log) start events) → IsPrefixOf (log ++ past (length log) start events) whole
front_grows log whole start events piece prefix reaches some =
    let n = length log - unsigned_abs start in
    let es = entries_of events in
    let split : past (length log) start events ≡ drop n es = entries-drop n events in
    let fits : n ≤ length es = some_left n es (subst (λ l. 0 < length l) split some) in
    let count : length log ≡ length piece.before + n = omega (arith, piece.from, reaches) in
    let rest : prefix.0 ≡ drop n es ++ piece.behind =
    sym (drop_at log prefix.0 (length log) refl) ∙ ap (drop (length log)) (prefix.1 ∙ piece.is) ∙ ap (λ k. drop k (piece.before ++ (es ++ piece.behind))) count ∙ drop-behind n piece.before (es ++ piece.behind) ∙ drop-front n es piece.behind fits in
    (piece.behind, append_assoc log (past (length log) start events) piece.behind ∙ ap (λ l. log ++ (l ++ piece.behind)) split ∙ ap (λ l. log ++ l) (sym rest) ∙ prefix.1)

makes_front : (old after : Kept) (p : BackupPacket) (whole : Log) → Makes old p after → ((start : ℤ) (events : List (List ℕ)) → p ≡ LogPacket start events → IsPieceOf whole start events) → IsPrefixOf old.log whole → IsPrefixOf after.log whole
makes_front old after (Query entries position) whole h piece prefix = absurd h
makes_front old after (LogPacket start events) whole h piece prefix =
    subst (λ (k : Kept). IsPrefixOf k.log whole) (sym h.1) (front_grows old.log whole start events (piece start events refl) prefix h.0.reaches h.0.fits.batch.some)
makes_front old after (Snapshot recording term position stamp service pieces) whole h piece prefix = subst (λ (k : Kept). IsPrefixOf k.log whole) (sym h.1) prefix

took_front : (bytes : List ℕ) (old new : Kept) (whole : Log) → Took bytes old new → ((start : ℤ) (events : List (List ℕ)) → packet_of bytes ≡ Some (LogPacket start events) → IsPieceOf whole start events) → IsPrefixOf old.log whole → IsPrefixOf new.log whole
took_front bytes old new whole (inl like) piece prefix = subst (λ l. IsPrefixOf l whole) (sym like.log) prefix
took_front bytes old new whole (inr h) piece prefix =
    subst (λ l. IsPrefixOf l whole) (sym h.2.log) (makes_front old h.0 h.1.0 whole h.1.2 (λ start events is. piece start events (h.1.1 ∙ ap (λ p. Some p) is)) prefix)

pub front_all : (bs : List (List ℕ)) (old new : Kept) (whole : Log) → TookAll bs old new → ArePiecesOf whole bs → IsPrefixOf old.log whole → IsPrefixOf new.log whole
front_all [] old new whole h pieces prefix = subst (λ (k : Kept). IsPrefixOf k.log whole) (sym h) prefix
front_all (b ∷ bs) old new whole h pieces prefix = front_all bs h.0 new whole h.2 pieces.1 (took_front b old h.0 whole h.1 pieces.0 prefix)
