-- Lists that are added to session by session, service by service and record by record.
use Rattle.std.proofs.Common.{◌≡◌, ℕ, zero, suc, ◌+◌, ◌-◌, ◌<◌, ◌≤◌, ◌^◌, ℤ, List, [], ◌∷◌, ◌++◌, length, drop, map, filter, get_or, Bool, true, false, not, cond, pos, append_assoc, add-one, Option, refl, sym, ap, ◌∙◌, arith}
use Rattle.std.specs.Prelude.{IfSome}
use Rattle.std.specs.List.{AllByRecursion}
use Rattle.std.proofs.lemmas.List.{drop_more}
use Rattle.sbe_events.specs.declared.event.Event.{Event}
use Rattle.sbe_events.specs.declared.event.Event.TheVariants as events
use Rattle.timer_service.specs.Timers.{TimerTable}
use Rattle.sbe_local.specs.Pieces.{piece_spelling_of}
use Rattle.session_manager.specs.declared.session.Session.{Session}
use Rattle.session_manager.specs.Sessions.{SessionTable, session_at}
use Rattle.pending_messages.specs.Pending.{ServiceOffers, PendingTable, offers_at}
use Rattle.module_state.specs.Due.{close_due_to, closes_due, is_quiet, rings_of}
use Rattle.module_state.specs.Recorded.{session_pieces}
use Rattle.module_state.specs.Restored.{session_record, bytes_before, capped}

-- what is left to add begins with what was added
pub step_more : {Y : Type 0} (found new one left rest whole : List Y) → left ≡ one ++ rest → new ≡ found ++ one → found ++ left ≡ whole → new ++ rest ≡ whole
step_more {Y} found new one left rest whole split pushed before = ap (λ (x : List Y). x ++ rest) pushed ∙ append_assoc found one rest ∙ ap (λ (x : List Y). found ++ x) (sym split) ∙ before

closes_at : (consumed : SessionTable) (alive : List (ℤ × ℕ)) (term : ℤ) (now since : ℕ) (ss : List Session) (i : ℕ) → i < length ss
    → closes_due consumed alive term now since (drop i ss) ≡ close_due_to consumed alive term now since (session_at ss i) ++ closes_due consumed alive term now since (drop (suc i) ss)
closes_at consumed alive term now since [] i b = absurd (omega arith)
closes_at consumed alive term now since (s ∷ ss) zero b = refl
closes_at consumed alive term now since (s ∷ ss) (suc i) b = closes_at consumed alive term now since ss i (omega arith)

pub closes_more : (consumed : SessionTable) (alive : List (ℤ × ℕ)) (term : ℤ) (now since : ℕ) (ss : List Session) (i : ℕ) (o : Option Session) (found new whole : List Event) → i < length ss → o ≡ session_at ss i
    → new ≡ found ++ close_due_to consumed alive term now since o → found ++ closes_due consumed alive term now since (drop i ss) ≡ whole → new ++ closes_due consumed alive term now since (drop (i + 1) ss) ≡ whole
closes_more consumed alive term now since ss i o found new whole b at pushed before =
    rw add-one
    (step_more found new (close_due_to consumed alive term now since (session_at ss i)) (closes_due consumed alive term now since (drop i ss)) (closes_due consumed alive term now since (drop (suc i) ss)) whole
    (closes_at consumed alive term now since ss i b) (pushed ∙ ap (λ (x : Option Session). found ++ close_due_to consumed alive term now since x) at) before)

records_at : (ss : List Session) (i : ℕ) → i < length ss → map piece_spelling_of (session_pieces (drop i ss)) ≡ session_record (session_at ss i) ++ map piece_spelling_of (session_pieces (drop (suc i) ss))
records_at [] i b = absurd (omega arith)
records_at (s ∷ ss) zero b = refl
records_at (s ∷ ss) (suc i) b = records_at ss i (omega arith)

pub records_more : (ss : List Session) (i : ℕ) (o : Option Session) (found new whole : List (List ℕ)) → i < length ss → o ≡ session_at ss i
    → new ≡ found ++ session_record o → found ++ map piece_spelling_of (session_pieces (drop i ss)) ≡ whole → new ++ map piece_spelling_of (session_pieces (drop (i + 1) ss)) ≡ whole
records_more ss i o found new whole b at pushed before =
    rw add-one
    (step_more found new (session_record (session_at ss i)) (map piece_spelling_of (session_pieces (drop i ss))) (map piece_spelling_of (session_pieces (drop (suc i) ss))) whole
    (records_at ss i b) (pushed ∙ ap (λ (x : Option Session). found ++ session_record x) at) before)

-- what is true of each session is true of the one at a place
pub session_if : (P : Session → Type 0) (l : List Session) (i : ℕ) → AllByRecursion P l → IfSome (session_at l i) P
session_if P [] i h = tt
session_if P (s ∷ l) zero h = h.0
session_if P (s ∷ l) (suc i) h = session_if P l i h.1

-- and the same of the offers of a service
pub offers_all : (P : ServiceOffers → Type 0) (v : ℕ) (l : PendingTable) → AllByRecursion P l → v < length l → P (offers_at v l)
offers_all P v [] h b = absurd (omega arith)
offers_all P zero (o ∷ l) h b = h.0
offers_all P (suc v) (o ∷ l) h b = offers_all P v l h.1 (omega arith)

-- ---- bytes of records

bytes_cons : (left : ℕ) (r : List ℕ) (rs : List (List ℕ)) → 0 < left → bytes_before left (r ∷ rs) ≡ 4 + length r + bytes_before (left - 1) rs
bytes_cons zero r rs h = absurd (omega arith)
bytes_cons (suc n) r rs h = ap (λ (k : ℕ). 4 + length r + bytes_before k rs) (omega arith)

pub bytes_more : (left sum new : ℕ) (rs : List (List ℕ)) (i : ℕ) (r : List ℕ) (whole : ℕ) → i < length rs → r ≡ get_or rs i r → 0 < left → sum ≤ 2 ^ 64 - 1 → new ≡ capped (capped (sum + 4) + length r)
    → capped (sum + bytes_before left (drop i rs)) ≡ whole → (new ≤ 2 ^ 64 - 1) × (capped (new + bytes_before (left - 1) (drop (i + 1) rs)) ≡ whole)
bytes_more left sum new rs i r whole b at h low is before =
    let step : bytes_before left (drop i rs) ≡ 4 + length r + bytes_before (left - 1) (drop (i + 1) rs) = ap (bytes_before left) (drop_more rs i r b ∙ ap (λ (x : List ℕ). x ∷ drop (i + 1) rs) (sym at)) ∙ bytes_cons left r (drop (i + 1) rs) h in
    (omega (arith, is), omega (arith, is, step) ∙ before)

pub bytes_none : (sum : ℕ) (rs : List (List ℕ)) (whole : ℕ) → sum ≤ 2 ^ 64 - 1 → capped (sum + bytes_before 0 rs) ≡ whole → sum ≡ whole
bytes_none sum rs whole low before = omega arith ∙ before

pub bytes_end : (left sum : ℕ) (whole : ℕ) → sum ≤ 2 ^ 64 - 1 → capped (sum + bytes_before left []) ≡ whole → sum ≡ whole
bytes_end zero sum whole low before = omega arith ∙ before
bytes_end (suc n) sum whole low before = omega arith ∙ before

-- ---- timers that rang

pub not_no : (b : Bool) → not b ≡ false → b ≡ true
not_no true e = refl
not_no false e = absurd cc

pub not_yes : (b : Bool) → not b ≡ true → b ≡ false
not_yes true e = absurd cc
not_yes false e = refl

pub rings_yes : (term : ℤ) (now : ℕ) (ahead : List Event) (items : TimerTable) (i : ℕ) (a : ℤ × ℤ) (found new whole : List Event) → i < length items → get_or items i a ≡ a → is_quiet ahead a ≡ true → new ≡ found ++ events.Timer term a.0 (pos now) ∷ []
    → found ++ rings_of term now (filter (is_quiet ahead) (drop i items)) ≡ whole → new ++ rings_of term now (filter (is_quiet ahead) (drop (i + 1) items)) ≡ whole
rings_yes term now ahead items i a found new whole b at quiet pushed before =
    step_more found new (events.Timer term a.0 (pos now) ∷ []) (rings_of term now (filter (is_quiet ahead) (drop i items))) (rings_of term now (filter (is_quiet ahead) (drop (i + 1) items))) whole
    (ap (λ (l : TimerTable). rings_of term now (filter (is_quiet ahead) l)) (drop_more items i a b ∙ ap (λ (x : ℤ × ℤ). x ∷ drop (i + 1) items) at)
    ∙ ap (λ t. rings_of term now (cond t (a ∷ filter (is_quiet ahead) (drop (i + 1) items)) (filter (is_quiet ahead) (drop (i + 1) items)))) quiet) pushed before

pub rings_no : (term : ℤ) (now : ℕ) (ahead : List Event) (items : TimerTable) (i : ℕ) (a : ℤ × ℤ) (found whole : List Event) → i < length items → get_or items i a ≡ a → is_quiet ahead a ≡ false
    → found ++ rings_of term now (filter (is_quiet ahead) (drop i items)) ≡ whole → found ++ rings_of term now (filter (is_quiet ahead) (drop (i + 1) items)) ≡ whole
rings_no term now ahead items i a found whole b at loud before =
    ap (λ (l : List Event). found ++ l)
    (sym (ap (λ (l : TimerTable). rings_of term now (filter (is_quiet ahead) l)) (drop_more items i a b ∙ ap (λ (x : ℤ × ℤ). x ∷ drop (i + 1) items) at)
    ∙ ap (λ t. rings_of term now (cond t (a ∷ filter (is_quiet ahead) (drop (i + 1) items)) (filter (is_quiet ahead) (drop (i + 1) items)))) loud)) ∙ before
