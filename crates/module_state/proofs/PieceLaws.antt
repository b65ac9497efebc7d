-- The state of pieces, read part by part.
use Rattle.std.proofs.Common.{◌≡◌, ℕ, ◌≤◌, ◌==◌, ℤ, pos, ◌^◌, Bool, true, false, List, [], ◌∷◌, length, Option, None, Some, Ok, Err, refl, sym, ap, subst, ◌∙◌, arith}
use Rattle.std.specs.List.{AllByRecursion}
use Rattle.std.proofs.lemmas.Bool.{eq-eqb, eqb-true}
use Rattle.wire_prims.specs.StrictLaws.{Between}
use Rattle.sbe_local.specs.declared.piece.Piece.{Piece}
use Rattle.sbe_local.specs.Pieces.{HasPieceSpelling}
use Rattle.session_manager.specs.declared.session.Session.{Session}
use Rattle.session_manager.specs.Sessions.{SessionTable}
use Rattle.timer_service.specs.Timers.{TimerTable}
use Rattle.pending_messages.specs.Pending.{PendingTable}
use Rattle.module_state.specs.Module.{Module}
use Rattle.module_state.specs.Ranges.{SessionFits, TimerFits, IsSound}
use Rattle.module_state.specs.Recorded.{Got, Head, IsCount, and_then, take_head, take_counters, take_pending, take_sessions, take_timers, at_end, module_with, with_tables, finished, module_from_pieces}
use Rattle.module_state.specs.Reading.{Reads, first_piece, pieces_behind, left_by, head_in}
use Rattle.module_state.proofs.ReadLaws.{head_reads}
use Rattle.module_state.proofs.FitLaws.{GotFits, HeadFits, CountsAre, OffersAre, TakenAre, head_fits, counters_fit, pending_fits, sessions_are, timers_are}
use Rattle.module_state.proofs.SoundLaws.{made_of}

pub head_ok : (ps new : List Piece) (head : Head) → head_in (first_piece ps) ≡ Some head → new ≡ pieces_behind ps → take_head ps ≡ Ok (head, new)
head_ok ps new head e left = subst (λ (o : Option Head). Reads o (left_by o ps) (take_head ps)) e (head_reads ps) ∙ ap (λ (l : List Piece). Ok (head, l)) (sym left)

pub head_no : (ps new : List Piece) → head_in (first_piece ps) ≡ None → new ≡ ps → take_head ps ≡ Err new
head_no ps new e left = subst (λ (o : Option Head). Reads o (left_by o ps) (take_head ps)) e (head_reads ps) ∙ ap (λ (l : List Piece). Err l) (sym left)

-- all parts were read
pub all_read : (services : ℕ) (ps p1 p2 p3 p4 p5 : List Piece) (head : Head) (counts : List (ℕ × ℕ)) (pending : PendingTable) (sessions : SessionTable) (timers : TimerTable)
    → take_head ps ≡ Ok (head, p1) → take_counters services 0 p1 ≡ Ok (counts, p2) → take_pending 0 counts p2 ≡ Ok (pending, p3) → take_sessions head.next_id None 1024 p3 ≡ (sessions.listed, p4) → sessions.next_id ≡ head.next_id
    → take_timers None 4096 p4 ≡ (timers, p5) → module_from_pieces services ps ≡ at_end (made_of sessions timers pending head.counts) p5
all_read services ps p1 p2 p3 p4 p5 head counts pending sessions timers e1 e2 e3 e4 next e5 =
    let third : Head → PendingTable → List Piece → Got (Head × PendingTable) = λ head pending rest3. Ok ((head, pending), rest3) in
    let second : Head → List (ℕ × ℕ) → List Piece → Got (Head × PendingTable) = λ head counts rest2. and_then (take_pending 0 counts rest2) (third head) in
    let first : Head → List Piece → Got (Head × PendingTable) = λ head rest. and_then (take_counters services 0 rest) (second head) in
    ap (λ (g : Got Head). finished (and_then g first)) e1
    ∙ ap (λ (g : Got (List (ℕ × ℕ))). finished (and_then g (second head))) e2
    ∙ ap (λ (g : Got PendingTable). finished (and_then g (third head))) e3
    ∙ ap (with_tables head pending) e4
    ∙ ap (module_with head pending (sessions.listed, p4)) e5
    ∙ ap (λ (n : ℤ). at_end (made_of (record { listed = sessions.listed; next_id = n }) timers pending head.counts) p5) (sym next)

pub head_stops : (services : ℕ) (ps new : List Piece) → take_head ps ≡ Err new → module_from_pieces services ps ≡ Err new
head_stops services ps new e =
    let third : Head → PendingTable → List Piece → Got (Head × PendingTable) = λ head pending rest3. Ok ((head, pending), rest3) in
    let second : Head → List (ℕ × ℕ) → List Piece → Got (Head × PendingTable) = λ head counts rest2. and_then (take_pending 0 counts rest2) (third head) in
    let first : Head → List Piece → Got (Head × PendingTable) = λ head rest. and_then (take_counters services 0 rest) (second head) in
    ap (λ (g : Got Head). finished (and_then g first)) e

pub counters_stop : (services : ℕ) (ps p1 new : List Piece) (head : Head) → take_head ps ≡ Ok (head, p1) → take_counters services 0 p1 ≡ Err new → module_from_pieces services ps ≡ Err new
counters_stop services ps p1 new head e1 e2 =
    let third : Head → PendingTable → List Piece → Got (Head × PendingTable) = λ head pending rest3. Ok ((head, pending), rest3) in
    let second : Head → List (ℕ × ℕ) → List Piece → Got (Head × PendingTable) = λ head counts rest2. and_then (take_pending 0 counts rest2) (third head) in
    let first : Head → List Piece → Got (Head × PendingTable) = λ head rest. and_then (take_counters services 0 rest) (second head) in
    ap (λ (g : Got Head). finished (and_then g first)) e1 ∙ ap (λ (g : Got (List (ℕ × ℕ))). finished (and_then g (second head))) e2

pub pending_stops : (services : ℕ) (ps p1 p2 new : List Piece) (head : Head) (counts : List (ℕ × ℕ)) → take_head ps ≡ Ok (head, p1) → take_counters services 0 p1 ≡ Ok (counts, p2) → take_pending 0 counts p2 ≡ Err new → module_from_pieces services ps ≡ Err new
pending_stops services ps p1 p2 new head counts e1 e2 e3 =
    let third : Head → PendingTable → List Piece → Got (Head × PendingTable) = λ head pending rest3. Ok ((head, pending), rest3) in
    let second : Head → List (ℕ × ℕ) → List Piece → Got (Head × PendingTable) = λ head counts rest2. and_then (take_pending 0 counts rest2) (third head) in
    let first : Head → List Piece → Got (Head × PendingTable) = λ head rest. and_then (take_counters services 0 rest) (second head) in
    ap (λ (g : Got Head). finished (and_then g first)) e1 ∙ ap (λ (g : Got (List (ℕ × ℕ))). finished (and_then g (second head))) e2 ∙ ap (λ (g : Got PendingTable). finished (and_then g (third head))) e3

-- ---- what was read fits

pub after_head : (ps p1 : List Piece) (head : Head) → AllByRecursion HasPieceSpelling ps → take_head ps ≡ Ok (head, p1) → HeadFits head × AllByRecursion HasPieceSpelling p1
after_head ps p1 head h e = subst (GotFits HeadFits) e (head_fits ps h)

pub after_counters : (services : ℕ) (p1 p2 : List Piece) (counts : List (ℕ × ℕ)) → AllByRecursion HasPieceSpelling p1 → take_counters services 0 p1 ≡ Ok (counts, p2) → CountsAre services counts × AllByRecursion HasPieceSpelling p2
after_counters services p1 p2 counts h e = subst (GotFits (CountsAre services)) e (counters_fit services 0 p1 h)

pub after_pending : (p2 p3 : List Piece) (counts : List (ℕ × ℕ)) (pending : PendingTable) → AllByRecursion IsCount counts → AllByRecursion HasPieceSpelling p2 → take_pending 0 counts p2 ≡ Ok (pending, p3) → OffersAre (length counts) pending × AllByRecursion HasPieceSpelling p3
after_pending p2 p3 counts pending c h e = subst (GotFits (OffersAre (length counts))) e (pending_fits 0 counts p2 c h)

pub after_sessions : (next : ℤ) (p3 p4 : List Piece) (listed : List Session) → AllByRecursion HasPieceSpelling p3 → take_sessions next None 1024 p3 ≡ (listed, p4) → AllByRecursion SessionFits listed × AllByRecursion HasPieceSpelling p4
after_sessions next p3 p4 listed h e = subst (TakenAre SessionFits) e (sessions_are next None 1024 p3 h)

pub after_timers : (p4 p5 : List Piece) (timers : TimerTable) → AllByRecursion HasPieceSpelling p4 → take_timers None 4096 p4 ≡ (timers, p5) → AllByRecursion TimerFits timers × AllByRecursion HasPieceSpelling p5
after_timers p4 p5 timers h e = subst (TakenAre TimerFits) e (timers_are None 4096 p4 h)

pub all_sound : (services : ℕ) (ps p1 p2 p3 p4 p5 : List Piece) (head : Head) (counts : List (ℕ × ℕ)) (pending : PendingTable) (sessions : SessionTable) (timers : TimerTable)
    → services ≤ 3 → AllByRecursion HasPieceSpelling ps
    → take_head ps ≡ Ok (head, p1) → take_counters services 0 p1 ≡ Ok (counts, p2) → take_pending 0 counts p2 ≡ Ok (pending, p3) → take_sessions head.next_id None 1024 p3 ≡ (sessions.listed, p4) → sessions.next_id ≡ head.next_id
    → take_timers None 4096 p4 ≡ (timers, p5) → IsSound (made_of sessions timers pending head.counts)
all_sound services ps p1 p2 p3 p4 p5 head counts pending sessions timers few h e1 e2 e3 e4 next e5 =
    let a = after_head ps p1 head h e1 in
    let b = after_counters services p1 p2 counts a.1 e2 in
    let c = after_pending p2 p3 counts pending b.0.each b.1 e3 in
    let d = after_sessions head.next_id p3 p4 sessions.listed c.1 e4 in
    let t = after_timers p4 p5 timers d.1 e5 in
    record {
      fits = record {
        sessions = record { next = subst (λ n. Between (pos 1) (pos (2 ^ 62)) n) (sym next) a.0.next; each = d.0 };
        timers = t.0;
        pending = c.0.each;
        counts = a.0.counts;
      };
      few = omega (arith, c.0.number, b.0.number);
    }

-- ---- the end of the pieces

pub none_left : (l : List Piece) (n : ℕ) (b : Bool) → n ≡ length l → b ≡ (n == 0) → b ≡ true → l ≡ []
none_left [] n b e f g = refl
none_left (p ∷ l) n b e f g = let zero_is : n ≡ 0 = eqb-true n 0 (sym f ∙ g) in absurd (omega (arith, e, zero_is))

pub some_left : (m : Module) (l : List Piece) (n : ℕ) (b : Bool) → n ≡ length l → b ≡ (n == 0) → b ≡ false → at_end m l ≡ Err l
some_left m [] n b e f g = let zero_is : (n == 0) ≡ true = eq-eqb n 0 e in absurd cc
some_left m (p ∷ l) n b e f g = refl
