-- What is read of the piece in front, and what the definitions take of the pieces.
use Rattle.std.proofs.Common.{◌≡◌, ℕ, suc, ◌+◌, ◌-◌, ◌<◌, ◌==◌, ◌^◌, ℤ, pos, ◌<ℤ◌, ◌≤ℤ◌, Bool, true, false, cond, ◌&&◌, List, [], ◌∷◌, ◌++◌, length, append_assoc, append-nil, Option, Some, None, Ok, Err, refl, sym, ap, ◌∙◌, subst, arith}
use Rattle.std.specs.Prelude.{is_some, ◌||◌, int_lt, int_le, nat_lt}
use Rattle.std.specs.List.{AllByRecursion}
use Rattle.std.specs.BTreeMap.{insert_entry}
use Rattle.std.specs.Ordering.{int_cmp, int_eq, match_ordering}
use Rattle.std.specs.declared.cmp.Ordering.TheVariants.{Greater}
use Rattle.std.proofs.lemmas.Bool.{lt-ltb}
use Rattle.std.proofs.lemmas.Int.{ints}
use Rattle.sbe_local.specs.Pieces.{HasPieceSpelling}
use Rattle.sbe_local.specs.declared.piece.Piece.{Piece}
use Rattle.sbe_local.specs.declared.piece.Piece.TheVariants as pieces
use Rattle.session_manager.specs.declared.session.Session.{Session}
use Rattle.timer_service.specs.Timers.{TimerTable, deadline_of, is_made, armed}
use Rattle.module_state.specs.Recorded.{Got, count_of, before_all, with_more, is_above, take_head, take_counters, take_waiting, take_sessions, take_timers}
use Rattle.module_state.specs.Reading.{Reads, first_piece, pieces_behind, left_by, head_in, count_in, message_in, session_in, timer_in}

-- ---- a list that is read piece by piece

-- what was read before stands in front
abbrev pub with_front : {X : Type 0} → List X → Got (List X) → Got (List X)
with_front xs (Ok r) = Ok (xs ++ r.0, r.1)
with_front xs (Err e) = Err e

pub front_none : {X : Type 0} (g : Got (List X)) → with_front [] g ≡ g
front_none (Ok r) = refl
front_none (Err e) = refl

front_before : {X : Type 0} (xs : List X) (x : X) (g : Got (List X)) → with_front xs (before_all x g) ≡ with_front (xs ++ x ∷ []) g
front_before {X} xs x (Ok r) = ap (λ (l : List X). Ok (l, r.1)) (sym (append_assoc xs (x ∷ []) r.0))
front_before xs x (Err e) = refl

some_same : {X : Type 0} (a b : X) → Some a ≡ Some b → a ≡ b
some_same a b e = cc

-- one more was read
pub front_more : {X : Type 0} (xs new : List X) (x : X) (g h whole : Got (List X)) → g ≡ before_all x h → new ≡ xs ++ x ∷ [] → with_front xs g ≡ whole → with_front new h ≡ whole
front_more {X} xs new x g h whole step pushed before = ap (λ (l : List X). with_front l h) pushed ∙ sym (front_before xs x h) ∙ ap (with_front xs) (sym step) ∙ before

-- ---- the first piece

pub head_reads : (ps : List Piece) → Reads (head_in (first_piece ps)) (left_by (head_in (first_piece ps)) ps) (take_head ps)
head_reads [] = refl
head_reads (pieces.Marker service position term mark ∷ ps) = refl
head_reads (pieces.Session id corr stamp stream closing channel ∷ ps) = refl
head_reads (pieces.Timer corr deadline ∷ ps) = refl
head_reads (pieces.Module next_session actions entries leader ∷ ps) = refl
head_reads (pieces.Pending number service payload ∷ ps) = refl
head_reads (pieces.ServiceState bytes ∷ ps) = refl
head_reads (pieces.Counter offered appended service ∷ ps) = refl

-- ---- Counters

pub count_some : (n v : ℕ) (ps : List Piece) (c : ℕ × ℕ) → count_in v (first_piece ps) ≡ Some c → take_counters (suc n) v ps ≡ before_all c (take_counters n (suc v) (pieces_behind ps))
count_some n v [] c e = absurd cc
count_some n v (pieces.Counter offered appended service ∷ ps) c e = at (service == v && int_le appended offered) e
  where
    at : (b : Bool) → cond b (Some (count_of offered appended)) None ≡ Some c → cond b (before_all (count_of offered appended) (take_counters n (suc v) ps)) (Err (pieces.Counter offered appended service ∷ ps)) ≡ before_all c (take_counters n (suc v) ps)
    at true e = ap (λ (x : ℕ × ℕ). before_all x (take_counters n (suc v) ps)) (some_same (count_of offered appended) c e)
    at false e = absurd cc
count_some n v (pieces.Marker service position term mark ∷ ps) c e = absurd cc
count_some n v (pieces.Session id corr stamp stream closing channel ∷ ps) c e = absurd cc
count_some n v (pieces.Timer corr deadline ∷ ps) c e = absurd cc
count_some n v (pieces.Module next_session actions entries leader ∷ ps) c e = absurd cc
count_some n v (pieces.Pending number service payload ∷ ps) c e = absurd cc
count_some n v (pieces.ServiceState bytes ∷ ps) c e = absurd cc

pub count_none : (n v : ℕ) (ps : List Piece) → count_in v (first_piece ps) ≡ None → take_counters (suc n) v ps ≡ Err ps
count_none n v [] e = refl
count_none n v (pieces.Counter offered appended service ∷ ps) e = at (service == v && int_le appended offered) e
  where
    at : (b : Bool) → cond b (Some (count_of offered appended)) None ≡ None → cond b (before_all (count_of offered appended) (take_counters n (suc v) ps)) (Err (pieces.Counter offered appended service ∷ ps)) ≡ Err (pieces.Counter offered appended service ∷ ps)
    at true e = absurd cc
    at false e = refl
count_none n v (pieces.Marker service position term mark ∷ ps) e = refl
count_none n v (pieces.Session id corr stamp stream closing channel ∷ ps) e = refl
count_none n v (pieces.Timer corr deadline ∷ ps) e = refl
count_none n v (pieces.Module next_session actions entries leader ∷ ps) e = refl
count_none n v (pieces.Pending number service payload ∷ ps) e = refl
count_none n v (pieces.ServiceState bytes ∷ ps) e = refl

-- ---- Pendings

pub message_some : (n v k : ℕ) (ps : List Piece) (w : List ℕ) → message_in v (k + 1) (first_piece ps) ≡ Some w → take_waiting (suc n) v k ps ≡ before_all w (take_waiting n v (k + 1) (pieces_behind ps))
message_some n v k [] w e = absurd cc
message_some n v k (pieces.Pending number service payload ∷ ps) w e = at (service == v && int_eq number (pos (k + 1))) e
  where
    at : (b : Bool) → cond b (Some payload) None ≡ Some w → cond b (before_all payload (take_waiting n v (k + 1) ps)) (Err (pieces.Pending number service payload ∷ ps)) ≡ before_all w (take_waiting n v (k + 1) ps)
    at true e = ap (λ (x : List ℕ). before_all x (take_waiting n v (k + 1) ps)) (some_same payload w e)
    at false e = absurd cc
message_some n v k (pieces.Marker service position term mark ∷ ps) w e = absurd cc
message_some n v k (pieces.Session id corr stamp stream closing channel ∷ ps) w e = absurd cc
message_some n v k (pieces.Timer corr deadline ∷ ps) w e = absurd cc
message_some n v k (pieces.Module next_session actions entries leader ∷ ps) w e = absurd cc
message_some n v k (pieces.ServiceState bytes ∷ ps) w e = absurd cc
message_some n v k (pieces.Counter offered appended service ∷ ps) w e = absurd cc

pub message_none : (n v k : ℕ) (ps : List Piece) → message_in v (k + 1) (first_piece ps) ≡ None → take_waiting (suc n) v k ps ≡ Err ps
message_none n v k [] e = refl
message_none n v k (pieces.Pending number service payload ∷ ps) e = at (service == v && int_eq number (pos (k + 1))) e
  where
    at : (b : Bool) → cond b (Some payload) None ≡ None → cond b (before_all payload (take_waiting n v (k + 1) ps)) (Err (pieces.Pending number service payload ∷ ps)) ≡ Err (pieces.Pending number service payload ∷ ps)
    at true e = absurd cc
    at false e = refl
message_none n v k (pieces.Marker service position term mark ∷ ps) e = refl
message_none n v k (pieces.Session id corr stamp stream closing channel ∷ ps) e = refl
message_none n v k (pieces.Timer corr deadline ∷ ps) e = refl
message_none n v k (pieces.Module next_session actions entries leader ∷ ps) e = refl
message_none n v k (pieces.ServiceState bytes ∷ ps) e = refl
message_none n v k (pieces.Counter offered appended service ∷ ps) e = refl

-- ---- lists that end where the next piece is another

-- what was taken before stands in front
abbrev pub prefixed : {X : Type 0} → List X → List X × List Piece → List X × List Piece
prefixed xs r = (xs ++ r.0, r.1)

prefixed_more : {X : Type 0} (xs new : List X) (x : X) (r : List X × List Piece) → new ≡ xs ++ x ∷ [] → prefixed xs (with_more x r) ≡ prefixed new r
prefixed_more {X} xs new x r pushed = ap (λ (l : List X). (l, r.1)) (sym (append_assoc xs (x ∷ []) r.0) ∙ ap (λ (l : List X). l ++ r.0) (sym pushed))

-- one more was taken
pub taken_more : {X : Type 0} (xs new : List X) (x : X) (r s whole : List X × List Piece) → r ≡ with_more x s → new ≡ xs ++ x ∷ [] → prefixed xs r ≡ whole → prefixed new s ≡ whole
taken_more xs new x r s whole step pushed before = sym (prefixed_more xs new x s pushed) ∙ ap (prefixed xs) (sym step) ∙ before

-- ---- Sessions

pub session_some : (next : ℤ) (last : Option ℤ) (m n : ℕ) (ps : List Piece) (s : Session) → m ≡ n + 1 → session_in next last (first_piece ps) ≡ Some s → take_sessions next last m ps ≡ with_more s (take_sessions next (Some s.id) n (pieces_behind ps))
session_some next last m n [] s i e = absurd cc
session_some next last m n (pieces.Session id corr stamp stream closing channel ∷ ps) s i e = at (is_above last id) (int_lt id next) (nat_lt 0 m) (lt-ltb 0 m (omega arith)) (m - 1) (omega arith) e
  where
    this : Session
    this = record { id = id; corr = corr; stamp = stamp; stream = stream; closing = closing; channel = channel }

    at : (a b t : Bool) → t ≡ true → (k : ℕ) → k ≡ n → cond (a && b) (Some this) None ≡ Some s
        → cond {A = List Session × List Piece} (a && (b && t)) (with_more this (take_sessions next (Some id) k ps)) ([], pieces.Session id corr stamp stream closing channel ∷ ps) ≡ with_more s (take_sessions next (Some s.id) n ps)
    at true true true f k g e = ap (λ (j : ℕ). with_more this (take_sessions next (Some id) j ps)) g ∙ ap (λ (x : Session). with_more x (take_sessions next (Some x.id) n ps)) (some_same this s e)
    at true true false f k g e = absurd cc
    at true false t f k g e = absurd cc
    at false b t f k g e = absurd cc
session_some next last m n (pieces.Marker service position term mark ∷ ps) s i e = absurd cc
session_some next last m n (pieces.Timer corr deadline ∷ ps) s i e = absurd cc
session_some next last m n (pieces.Module next_session actions entries leader ∷ ps) s i e = absurd cc
session_some next last m n (pieces.Pending number service payload ∷ ps) s i e = absurd cc
session_some next last m n (pieces.ServiceState bytes ∷ ps) s i e = absurd cc
session_some next last m n (pieces.Counter offered appended service ∷ ps) s i e = absurd cc

pub session_none : (next : ℤ) (last : Option ℤ) (n : ℕ) (ps : List Piece) → session_in next last (first_piece ps) ≡ None → take_sessions next last n ps ≡ ([], ps)
session_none next last n [] e = refl
session_none next last n (pieces.Session id corr stamp stream closing channel ∷ ps) e = at (is_above last id) (int_lt id next) e
  where
    this : Session
    this = record { id = id; corr = corr; stamp = stamp; stream = stream; closing = closing; channel = channel }

    at : (a b : Bool) → cond (a && b) (Some this) None ≡ None → cond (a && (b && nat_lt 0 n)) (with_more this (take_sessions next (Some id) (n - 1) ps)) ([], pieces.Session id corr stamp stream closing channel ∷ ps) ≡ ([], pieces.Session id corr stamp stream closing channel ∷ ps)
    at true true e = absurd cc
    at true false e = refl
    at false b e = refl
session_none next last n (pieces.Marker service position term mark ∷ ps) e = refl
session_none next last n (pieces.Timer corr deadline ∷ ps) e = refl
session_none next last n (pieces.Module next_session actions entries leader ∷ ps) e = refl
session_none next last n (pieces.Pending number service payload ∷ ps) e = refl
session_none next last n (pieces.ServiceState bytes ∷ ps) e = refl
session_none next last n (pieces.Counter offered appended service ∷ ps) e = refl

pub no_more_sessions : (next : ℤ) (last : Option ℤ) (ps : List Piece) → take_sessions next last 0 ps ≡ ([], ps)
no_more_sessions next last [] = refl
no_more_sessions next last (pieces.Session id corr stamp stream closing channel ∷ ps) = at (is_above last id) (int_lt id next)
  where
    at : (a b : Bool) → cond (a && (b && false)) (with_more (record { id = id; corr = corr; stamp = stamp; stream = stream; closing = closing; channel = channel }) (take_sessions next (Some id) 0 ps)) ([], pieces.Session id corr stamp stream closing channel ∷ ps) ≡ ([], pieces.Session id corr stamp stream closing channel ∷ ps)
    at true true = refl
    at true false = refl
    at false b = refl
no_more_sessions next last (pieces.Marker service position term mark ∷ ps) = refl
no_more_sessions next last (pieces.Timer corr deadline ∷ ps) = refl
no_more_sessions next last (pieces.Module next_session actions entries leader ∷ ps) = refl
no_more_sessions next last (pieces.Pending number service payload ∷ ps) = refl
no_more_sessions next last (pieces.ServiceState bytes ∷ ps) = refl
no_more_sessions next last (pieces.Counter offered appended service ∷ ps) = refl

-- the ids that were taken are at most the last
abbrev pub UpTo : Option ℤ → List Session → Type 0
UpTo None l = l ≡ []
UpTo (Some x) l = AllByRecursion (λ (r : Session). r.id ≤ℤ x) l

session_tests : (next : ℤ) (last : Option ℤ) (ps : List Piece) (s : Session) → session_in next last (first_piece ps) ≡ Some s → (is_above last s.id ≡ true) × (int_lt s.id next ≡ true)
session_tests next last [] s e = absurd cc
session_tests next last (pieces.Session id corr stamp stream closing channel ∷ ps) s e = at (is_above last id) refl (int_lt id next) refl e
  where
    this : Session
    this = record { id = id; corr = corr; stamp = stamp; stream = stream; closing = closing; channel = channel }

    at : (a : Bool) → is_above last id ≡ a → (b : Bool) → int_lt id next ≡ b → cond (a && b) (Some this) None ≡ Some s → (is_above last s.id ≡ true) × (int_lt s.id next ≡ true)
    at true x true y e = let same : this ≡ s = some_same this s e in (subst (λ (r : Session). is_above last r.id ≡ true) same x, subst (λ (r : Session). int_lt r.id next ≡ true) same y)
    at true x false y e = absurd cc
    at false x b y e = absurd cc
session_tests next last (pieces.Marker service position term mark ∷ ps) s e = absurd cc
session_tests next last (pieces.Timer corr deadline ∷ ps) s e = absurd cc
session_tests next last (pieces.Module next_session actions entries leader ∷ ps) s e = absurd cc
session_tests next last (pieces.Pending number service payload ∷ ps) s e = absurd cc
session_tests next last (pieces.ServiceState bytes ∷ ps) s e = absurd cc
session_tests next last (pieces.Counter offered appended service ∷ ps) s e = absurd cc

all_above : (x y : ℤ) (l : List Session) → int_lt x y ≡ true → AllByRecursion (λ (r : Session). r.id ≤ℤ x) l → AllByRecursion (λ (r : Session). r.id <ℤ y) l
all_above x y [] t h = tt
all_above x y (s ∷ l) t h = (lower s.id x y t h.0, all_above x y l t h.1)
  where
    lower : (a x y : ℤ) → int_lt x y ≡ true → a ≤ℤ x → a <ℤ y
    lower a x y t h = grind (arith, ints, t, h)

pub session_above : (next : ℤ) (last : Option ℤ) (ps : List Piece) (s : Session) (l : List Session) → session_in next last (first_piece ps) ≡ Some s → UpTo last l → AllByRecursion (λ (r : Session). r.id <ℤ s.id) l
session_above next None ps s l e u = subst (AllByRecursion (λ (r : Session). r.id <ℤ s.id)) (sym u) tt
session_above next (Some x) ps s l e u = all_above x s.id l (session_tests next (Some x) ps s e).0 u

pub session_below : (next : ℤ) (last : Option ℤ) (ps : List Piece) (s : Session) → session_in next last (first_piece ps) ≡ Some s → s.id <ℤ next
session_below next last ps s e = let t = (session_tests next last ps s e).1 in grind (arith, ints, t)

all_up_to : (x : ℤ) (l : List Session) (s : Session) → s.id ≡ x → AllByRecursion (λ (r : Session). r.id <ℤ x) l → AllByRecursion (λ (r : Session). r.id ≤ℤ x) (l ++ s ∷ [])
all_up_to x [] s e h = (omega (arith, ints, e), tt)
all_up_to x (r ∷ l) s e h = (omega (arith, ints, h.0), all_up_to x l s e h.1)

pub up_to_more : (l new : List Session) (s : Session) → new ≡ l ++ s ∷ [] → AllByRecursion (λ (r : Session). r.id <ℤ s.id) l → UpTo (Some s.id) new
up_to_more l new s pushed h = subst (AllByRecursion (λ (r : Session). r.id ≤ℤ s.id)) (sym pushed) (all_up_to s.id l s refl h)

-- ---- Timers

pub timer_some : (last : Option ℤ) (m n : ℕ) (ps : List Piece) (a : ℤ × ℤ) → m ≡ n + 1 → timer_in last (first_piece ps) ≡ Some a → take_timers last m ps ≡ with_more a (take_timers (Some a.0) n (pieces_behind ps))
timer_some last m n [] a i e = absurd cc
timer_some last m n (pieces.Timer corr deadline ∷ ps) a i e = at (is_above last corr) (nat_lt 0 m) (lt-ltb 0 m (omega arith)) (m - 1) (omega arith) e
  where
    at : (b t : Bool) → t ≡ true → (k : ℕ) → k ≡ n → cond {A = Option (ℤ × ℤ)} b (Some (corr, deadline)) None ≡ Some a
        → cond {A = TimerTable × List Piece} (b && t) (with_more (corr, deadline) (take_timers (Some corr) k ps)) ([], pieces.Timer corr deadline ∷ ps) ≡ with_more a (take_timers (Some a.0) n ps)
    at true true f k g e = ap (λ (j : ℕ). with_more {X = ℤ × ℤ} (corr, deadline) (take_timers (Some corr) j ps)) g ∙ ap (λ (x : ℤ × ℤ). with_more x (take_timers (Some x.0) n ps)) (some_same (corr, deadline) a e)
    at true false f k g e = absurd cc
    at false t f k g e = absurd cc
timer_some last m n (pieces.Marker service position term mark ∷ ps) a i e = absurd cc
timer_some last m n (pieces.Session id corr stamp stream closing channel ∷ ps) a i e = absurd cc
timer_some last m n (pieces.Module next_session actions entries leader ∷ ps) a i e = absurd cc
timer_some last m n (pieces.Pending number service payload ∷ ps) a i e = absurd cc
timer_some last m n (pieces.ServiceState bytes ∷ ps) a i e = absurd cc
timer_some last m n (pieces.Counter offered appended service ∷ ps) a i e = absurd cc

pub timer_none : (last : Option ℤ) (n : ℕ) (ps : List Piece) → timer_in last (first_piece ps) ≡ None → take_timers last n ps ≡ ([], ps)
timer_none last n [] e = refl
timer_none last n (pieces.Timer corr deadline ∷ ps) e = at (is_above last corr) e
  where
    at : (b : Bool) → cond {A = Option (ℤ × ℤ)} b (Some (corr, deadline)) None ≡ None → cond {A = TimerTable × List Piece} (b && nat_lt 0 n) (with_more (corr, deadline) (take_timers (Some corr) (n - 1) ps)) ([], pieces.Timer corr deadline ∷ ps) ≡ ([], pieces.Timer corr deadline ∷ ps)
    at true e = absurd cc
    at false e = refl
timer_none last n (pieces.Marker service position term mark ∷ ps) e = refl
timer_none last n (pieces.Session id corr stamp stream closing channel ∷ ps) e = refl
timer_none last n (pieces.Module next_session actions entries leader ∷ ps) e = refl
timer_none last n (pieces.Pending number service payload ∷ ps) e = refl
timer_none last n (pieces.ServiceState bytes ∷ ps) e = refl
timer_none last n (pieces.Counter offered appended service ∷ ps) e = refl

pub no_more_timers : (last : Option ℤ) (ps : List Piece) → take_timers last 0 ps ≡ ([], ps)
no_more_timers last [] = refl
no_more_timers last (pieces.Timer corr deadline ∷ ps) = at (is_above last corr)
  where
    at : (b : Bool) → cond {A = TimerTable × List Piece} (b && false) (with_more (corr, deadline) (take_timers (Some corr) 0 ps)) ([], pieces.Timer corr deadline ∷ ps) ≡ ([], pieces.Timer corr deadline ∷ ps)
    at true = refl
    at false = refl
no_more_timers last (pieces.Marker service position term mark ∷ ps) = refl
no_more_timers last (pieces.Session id corr stamp stream closing channel ∷ ps) = refl
no_more_timers last (pieces.Module next_session actions entries leader ∷ ps) = refl
no_more_timers last (pieces.Pending number service payload ∷ ps) = refl
no_more_timers last (pieces.ServiceState bytes ∷ ps) = refl
no_more_timers last (pieces.Counter offered appended service ∷ ps) = refl

-- ---- loops over them

-- the next piece is no Counter of the service
pub counters_stop : (m n v : ℕ) (ps new : List Piece) (xs : List (ℕ × ℕ)) (whole : Got (List (ℕ × ℕ))) → m ≡ suc n → count_in v (first_piece ps) ≡ None → new ≡ ps → with_front xs (take_counters m v ps) ≡ whole → whole ≡ Err new
counters_stop m n v ps new xs whole i e left before = sym before ∙ ap (with_front xs) (ap (λ (k : ℕ). take_counters k v ps) i ∙ count_none n v ps e) ∙ ap (λ (l : List Piece). Err l) (sym left)

-- it is one
pub counters_go : (m n v w : ℕ) (ps new : List Piece) (xs ys : List (ℕ × ℕ)) (x : ℕ × ℕ) (whole : Got (List (ℕ × ℕ))) → m ≡ suc n → w ≡ suc v → count_in v (first_piece ps) ≡ Some x → new ≡ pieces_behind ps → ys ≡ xs ++ x ∷ []
    → with_front xs (take_counters m v ps) ≡ whole → with_front ys (take_counters n w new) ≡ whole
counters_go m n v w ps new xs ys x whole i j e left pushed before =
    ap (with_front ys) (ap (λ (u : ℕ). take_counters n u new) j ∙ ap (λ (l : List Piece). take_counters n (suc v) l) left)
    ∙ front_more xs ys x (take_counters m v ps) (take_counters n (suc v) (pieces_behind ps)) whole (ap (λ (k : ℕ). take_counters k v ps) i ∙ count_some n v ps x e) pushed before

pub waiting_stop : (m n v k : ℕ) (ps new : List Piece) (xs : List (List ℕ)) (whole : Got (List (List ℕ))) → m ≡ suc n → message_in v (k + 1) (first_piece ps) ≡ None → new ≡ ps → with_front xs (take_waiting m v k ps) ≡ whole → whole ≡ Err new
waiting_stop m n v k ps new xs whole i e left before = sym before ∙ ap (with_front xs) (ap (λ (j : ℕ). take_waiting j v k ps) i ∙ message_none n v k ps e) ∙ ap (λ (l : List Piece). Err l) (sym left)

pub waiting_go : (m n v k h : ℕ) (ps new : List Piece) (xs ys : List (List ℕ)) (x : List ℕ) (whole : Got (List (List ℕ))) → m ≡ suc n → h ≡ k + 1 → message_in v (k + 1) (first_piece ps) ≡ Some x → new ≡ pieces_behind ps → ys ≡ xs ++ x ∷ []
    → with_front xs (take_waiting m v k ps) ≡ whole → with_front ys (take_waiting n v h new) ≡ whole
waiting_go m n v k h ps new xs ys x whole i j e left pushed before =
    ap (with_front ys) (ap (λ (u : ℕ). take_waiting n v u new) j ∙ ap (λ (l : List Piece). take_waiting n v (k + 1) l) left)
    ∙ front_more xs ys x (take_waiting m v k ps) (take_waiting n v (k + 1) (pieces_behind ps)) whole (ap (λ (u : ℕ). take_waiting u v k ps) i ∙ message_some n v k ps x e) pushed before

-- all were read
pub front_done : {X : Type 0} (xs : List X) (ps : List Piece) (g whole : Got (List X)) → g ≡ Ok ([], ps) → with_front xs g ≡ whole → whole ≡ Ok (xs, ps)
front_done {X} xs ps g whole e before = sym before ∙ ap (with_front xs) e ∙ ap (λ (l : List X). Ok (l, ps)) (append-nil xs)

pub prefix_done : {X : Type 0} (xs : List X) (ps : List Piece) (g whole : List X × List Piece) → g ≡ ([], ps) → prefixed xs g ≡ whole → whole ≡ (xs, ps)
prefix_done {X} xs ps g whole e before = sym before ∙ ap (prefixed xs) e ∙ ap (λ (l : List X). (l, ps)) (append-nil xs)

-- ---- Timers that are armed one by one

-- the names that were taken are at most the last
abbrev pub NamesUpTo : Option ℤ → TimerTable → Type 0
NamesUpTo None l = l ≡ []
NamesUpTo (Some x) l = AllByRecursion (λ (a : ℤ × ℤ). a.0 ≤ℤ x) l

timer_tests : (last : Option ℤ) (ps : List Piece) (a : ℤ × ℤ) → timer_in last (first_piece ps) ≡ Some a → AllByRecursion HasPieceSpelling ps → (is_above last a.0 ≡ true) × ((pos 0 ≤ℤ a.1) × (a.1 ≤ℤ pos (2 ^ 62)))
timer_tests last [] a e h = absurd cc
timer_tests last (pieces.Timer corr deadline ∷ ps) a e h = at (is_above last corr) refl e
  where
    at : (b : Bool) → is_above last corr ≡ b → cond {A = Option (ℤ × ℤ)} b (Some (corr, deadline)) None ≡ Some a → (is_above last a.0 ≡ true) × ((pos 0 ≤ℤ a.1) × (a.1 ≤ℤ pos (2 ^ 62)))
    at true x e =
        let same : ◌≡◌ {A = ℤ × ℤ} (corr, deadline) a = some_same (corr, deadline) a e in
        (subst (λ (r : ℤ × ℤ). is_above last r.0 ≡ true) same x, subst (λ (r : ℤ × ℤ). (pos 0 ≤ℤ r.1) × (r.1 ≤ℤ pos (2 ^ 62))) same h.0.1)
    at false x e = absurd cc
timer_tests last (pieces.Marker service position term mark ∷ ps) a e h = absurd cc
timer_tests last (pieces.Session id corr stamp stream closing channel ∷ ps) a e h = absurd cc
timer_tests last (pieces.Module next_session actions entries leader ∷ ps) a e h = absurd cc
timer_tests last (pieces.Pending number service payload ∷ ps) a e h = absurd cc
timer_tests last (pieces.ServiceState bytes ∷ ps) a e h = absurd cc
timer_tests last (pieces.Counter offered appended service ∷ ps) a e h = absurd cc

names_below : (x y : ℤ) (l : TimerTable) → int_lt x y ≡ true → AllByRecursion (λ (a : ℤ × ℤ). a.0 ≤ℤ x) l → AllByRecursion (λ (a : ℤ × ℤ). a.0 <ℤ y) l
names_below x y [] t h = tt
names_below x y (a ∷ l) t h = (lower a.0 x y t h.0, names_below x y l t h.1)
  where
    lower : (a x y : ℤ) → int_lt x y ≡ true → a ≤ℤ x → a <ℤ y
    lower a x y t h = grind (arith, ints, t, h)

timer_above : (last : Option ℤ) (k : ℤ) (l : TimerTable) → is_above last k ≡ true → NamesUpTo last l → AllByRecursion (λ (a : ℤ × ℤ). a.0 <ℤ k) l
timer_above None k l t u = subst (AllByRecursion (λ (a : ℤ × ℤ). a.0 <ℤ k)) (sym u) tt
timer_above (Some x) k l t u = names_below x k l t u

insert_last : (k d : ℤ) (l : TimerTable) → AllByRecursion (λ (a : ℤ × ℤ). a.0 <ℤ k) l → insert_entry int_cmp l k d ≡ l ++ (k, d) ∷ []
insert_last k d [] h = refl
insert_last k d (a ∷ l) h = ap (λ o. match_ordering o ((k, d) ∷ a ∷ l) ((a.0, d) ∷ l) (a ∷ insert_entry int_cmp l k d)) (greater k a.0 h.0) ∙ ap (λ (x : TimerTable). a ∷ x) (insert_last k d l h.1)
  where
    greater : (x y : ℤ) → y <ℤ x → int_cmp x y ≡ Greater
    greater x y h = grind (arith, ints, h)

made_so : (k d : ℤ) (l : TimerTable) → pos 0 ≤ℤ d → d ≤ℤ pos (2 ^ 62) → length l < 4096 → is_made l k d ≡ true
made_so k d l low high few = at (int_le (pos 0) d) (int_le d (pos (2 ^ 62))) (nat_lt (length l) 4096) (is_some (deadline_of l k)) (grind (arith, ints)) (grind (arith, ints)) (lt-ltb (length l) 4096 few)
  where
    at : (a b c e : Bool) → a ≡ true → b ≡ true → c ≡ true → ((a && b) && (c || e)) ≡ true
    at true true true e x y z = refl
    at true true false e x y z = absurd cc
    at true false c e x y z = absurd cc
    at false b c e x y z = absurd cc

names_more : (k d : ℤ) (l : TimerTable) → AllByRecursion (λ (a : ℤ × ℤ). a.0 <ℤ k) l → AllByRecursion (λ (a : ℤ × ℤ). a.0 ≤ℤ k) (l ++ (k, d) ∷ [])
names_more k d [] h = (omega (arith, ints), tt)
names_more k d (a ∷ l) h = (omega (arith, ints, h.0), names_more k d l h.1)

-- a timer that comes next is armed behind the others
pub timer_armed : (last : Option ℤ) (ps : List Piece) (a : ℤ × ℤ) (l new : TimerTable) → timer_in last (first_piece ps) ≡ Some a → AllByRecursion HasPieceSpelling ps → NamesUpTo last l → length l < 4096 → new ≡ armed l a.0 a.1
    → new ≡ l ++ a ∷ []
timer_armed last ps a l new e h u few is =
    let t = timer_tests last ps a e h in
    is ∙ ap (λ b. cond b (insert_entry int_cmp l a.0 a.1) l) (made_so a.0 a.1 l t.1.0 t.1.1 few) ∙ insert_last a.0 a.1 l (timer_above last a.0 l t.0 u)

pub names_up_to : (last : Option ℤ) (ps : List Piece) (a : ℤ × ℤ) (l new : TimerTable) → timer_in last (first_piece ps) ≡ Some a → AllByRecursion HasPieceSpelling ps → NamesUpTo last l → new ≡ l ++ a ∷ [] → NamesUpTo (Some a.0) new
names_up_to last ps a l new e h u is = subst (AllByRecursion (λ (b : ℤ × ℤ). b.0 ≤ℤ a.0)) (sym is) (names_more a.0 a.1 l (timer_above last a.0 l (timer_tests last ps a e h).0 u))

pub behind_spelled : (ps : List Piece) → AllByRecursion HasPieceSpelling ps → AllByRecursion HasPieceSpelling (pieces_behind ps)
behind_spelled [] h = tt
behind_spelled (p ∷ ps) h = h.1

pub last_length : {X : Type 0} (x : X) (l : List X) → length (l ++ x ∷ []) ≡ length l + 1
last_length x [] = refl
last_length x (y ∷ l) = omega (arith, last_length x l)
