use Rattle.std.proofs.Common.{ℕ, List, length, FitsSigned, w64, option_map, rules, ap, sym, subst, ◌∙◌, arith}
use Rattle.std.specs.List.{AllByRecursion}
use Rattle.std.proofs.lemmas.Int.{to_z-of_z}
use Rattle.module_state.specs.Recorded.{take_counters, take_pending, IsCount, at_end}
use Rattle.module_state.specs.Reading.{Reads, left_by}
use Rattle.module_state.proofs.SoundLaws.{made_of}
use Rattle.module_state.proofs.PieceLaws.{head_ok, all_read, after_head, after_counters, after_pending, after_sessions, all_sound, none_left, some_left}
use Rattle.module_state.proofs.state.ModuleState.of_pieces.Goals as goal

pub take_pending-requires-clause-few : goal.take_pending-requires-clause-few
take_pending-requires-clause-few c =
    let e1 = head_ok c.args.pieces.now.items c.take_head.new.pieces.items c.in-Some.head (sym c.take_head.ensures.head ∙ c.in-Some.is) (c.take_head.ensures.left ∙ ap (λ r. left_by r c.args.pieces.now.items) c.in-Some.is) in
    let e2 = subst (λ o. Reads (option_map (λ v. v.items) o) c.take_counters.new.pieces.items (take_counters c.args.services 0 c.take_head.new.pieces.items)) c.in-Some-2.is c.in_ok-counts.ensures in
    let h1 = after_head c.args.pieces.now.items c.take_head.new.pieces.items c.in-Some.head c.requires.spelled e1 in
    let h2 = after_counters c.args.services c.take_head.new.pieces.items c.take_counters.new.pieces.items c.in-Some-2.counts.items h1.1 e2 in
    omega (arith, ap (λ (l : List (ℕ × ℕ)). length l) c.as_slice.ensures.value, h2.0.number, c.requires.few)

pub take_pending-requires-clause-counts : goal.take_pending-requires-clause-counts
take_pending-requires-clause-counts c =
    let e1 = head_ok c.args.pieces.now.items c.take_head.new.pieces.items c.in-Some.head (sym c.take_head.ensures.head ∙ c.in-Some.is) (c.take_head.ensures.left ∙ ap (λ r. left_by r c.args.pieces.now.items) c.in-Some.is) in
    let e2 = subst (λ o. Reads (option_map (λ v. v.items) o) c.take_counters.new.pieces.items (take_counters c.args.services 0 c.take_head.new.pieces.items)) c.in-Some-2.is c.in_ok-counts.ensures in
    let h1 = after_head c.args.pieces.now.items c.take_head.new.pieces.items c.in-Some.head c.requires.spelled e1 in
    let h2 = after_counters c.args.services c.take_head.new.pieces.items c.take_counters.new.pieces.items c.in-Some-2.counts.items h1.1 e2 in
    subst (AllByRecursion IsCount) (sym c.as_slice.ensures.value) h2.0.each

pub take_timers-requires : goal.take_timers-requires
take_timers-requires c =
    let f : FitsSigned w64 c.in-Some.head.next_id = search rules in
    let e1 = head_ok c.args.pieces.now.items c.take_head.new.pieces.items c.in-Some.head (sym c.take_head.ensures.head ∙ c.in-Some.is) (c.take_head.ensures.left ∙ ap (λ r. left_by r c.args.pieces.now.items) c.in-Some.is) in
    let e2 = subst (λ o. Reads (option_map (λ v. v.items) o) c.take_counters.new.pieces.items (take_counters c.args.services 0 c.take_head.new.pieces.items)) c.in-Some-2.is c.in_ok-counts.ensures in
    let h1 = after_head c.args.pieces.now.items c.take_head.new.pieces.items c.in-Some.head c.requires.spelled e1 in
    let h2 = after_counters c.args.services c.take_head.new.pieces.items c.take_counters.new.pieces.items c.in-Some-2.counts.items h1.1 e2 in
    let value = c.as_slice.ensures.value in
    let e3 = subst (λ o. Reads o c.take_pending.new.pieces.items (take_pending 0 c.as_slice.result.now c.take_counters.new.pieces.items)) c.in-Some-3.is c.in_ok-pending.ensures in
    let h3 = after_pending c.take_counters.new.pieces.items c.take_pending.new.pieces.items c.as_slice.result.now c.in-Some-3.pending (subst (AllByRecursion IsCount) (sym value) h2.0.each) h2.1 e3 in
    let e4 = simp to_z-of_z at c.in_ok-sessions.ensures.taken in
    (after_sessions c.in-Some.head.next_id c.take_pending.new.pieces.items c.take_sessions.new.pieces.items c.in_ok-sessions.sessions.table.listed h3.1 e4).1

pub returns-then-not-is_empty : goal.returns-then-not-is_empty
returns-then-not-is_empty c =
    let f : FitsSigned w64 c.in-Some.head.next_id = search rules in
    let e1 = head_ok c.args.pieces.now.items c.take_head.new.pieces.items c.in-Some.head (sym c.take_head.ensures.head ∙ c.in-Some.is) (c.take_head.ensures.left ∙ ap (λ r. left_by r c.args.pieces.now.items) c.in-Some.is) in
    let e2 = subst (λ o. Reads (option_map (λ v. v.items) o) c.take_counters.new.pieces.items (take_counters c.args.services 0 c.take_head.new.pieces.items)) c.in-Some-2.is c.in_ok-counts.ensures in
    let e3 = subst (λ o. Reads o c.take_pending.new.pieces.items (take_pending 0 c.as_slice.result.now c.take_counters.new.pieces.items)) c.in-Some-3.is c.in_ok-pending.ensures in
    let e3b = ap (λ (l : List (ℕ × ℕ)). take_pending 0 l c.take_counters.new.pieces.items) (sym c.as_slice.ensures.value) ∙ e3 in
    let e4 = simp to_z-of_z at c.in_ok-sessions.ensures.taken in
    let next = simp to_z-of_z at c.in_ok-sessions.ensures.next in
    all_read c.args.services c.args.pieces.now.items c.take_head.new.pieces.items c.take_counters.new.pieces.items c.take_pending.new.pieces.items c.take_sessions.new.pieces.items c.take_timers.new.pieces.items c.in-Some.head c.in-Some-2.counts.items c.in-Some-3.pending c.in_ok-sessions.sessions.table c.in_ok-timers.timers
    e1 e2 e3b e4 next c.in_ok-timers.ensures
    ∙ some_left (made_of c.in_ok-sessions.sessions.table c.in_ok-timers.timers c.in-Some-3.pending c.in-Some.head.counts) c.take_timers.new.pieces.items c.take_timers.new.pieces.len c.is_empty.result c.take_timers.new.pieces.ok.0 c.is_empty.ensures c.if-not-is_empty.true

pub invariant_of-result : goal.invariant_of-result
invariant_of-result c =
    let f : FitsSigned w64 c.in-Some.head.next_id = search rules in
    let e1 = head_ok c.args.pieces.now.items c.take_head.new.pieces.items c.in-Some.head (sym c.take_head.ensures.head ∙ c.in-Some.is) (c.take_head.ensures.left ∙ ap (λ r. left_by r c.args.pieces.now.items) c.in-Some.is) in
    let e2 = subst (λ o. Reads (option_map (λ v. v.items) o) c.take_counters.new.pieces.items (take_counters c.args.services 0 c.take_head.new.pieces.items)) c.in-Some-2.is c.in_ok-counts.ensures in
    let e3 = subst (λ o. Reads o c.take_pending.new.pieces.items (take_pending 0 c.as_slice.result.now c.take_counters.new.pieces.items)) c.in-Some-3.is c.in_ok-pending.ensures in
    let e3b = ap (λ (l : List (ℕ × ℕ)). take_pending 0 l c.take_counters.new.pieces.items) (sym c.as_slice.ensures.value) ∙ e3 in
    let e4 = simp to_z-of_z at c.in_ok-sessions.ensures.taken in
    let next = simp to_z-of_z at c.in_ok-sessions.ensures.next in
    all_sound c.args.services c.args.pieces.now.items c.take_head.new.pieces.items c.take_counters.new.pieces.items c.take_pending.new.pieces.items c.take_sessions.new.pieces.items c.take_timers.new.pieces.items c.in-Some.head c.in-Some-2.counts.items c.in-Some-3.pending c.in_ok-sessions.sessions.table c.in_ok-timers.timers
    c.requires.few c.requires.spelled e1 e2 e3b e4 next c.in_ok-timers.ensures

pub returns : goal.returns
returns c =
    let f : FitsSigned w64 c.in-Some.head.next_id = search rules in
    let e1 = head_ok c.args.pieces.now.items c.take_head.new.pieces.items c.in-Some.head (sym c.take_head.ensures.head ∙ c.in-Some.is) (c.take_head.ensures.left ∙ ap (λ r. left_by r c.args.pieces.now.items) c.in-Some.is) in
    let e2 = subst (λ o. Reads (option_map (λ v. v.items) o) c.take_counters.new.pieces.items (take_counters c.args.services 0 c.take_head.new.pieces.items)) c.in-Some-2.is c.in_ok-counts.ensures in
    let e3 = subst (λ o. Reads o c.take_pending.new.pieces.items (take_pending 0 c.as_slice.result.now c.take_counters.new.pieces.items)) c.in-Some-3.is c.in_ok-pending.ensures in
    let e3b = ap (λ (l : List (ℕ × ℕ)). take_pending 0 l c.take_counters.new.pieces.items) (sym c.as_slice.ensures.value) ∙ e3 in
    let e4 = simp to_z-of_z at c.in_ok-sessions.ensures.taken in
    let next = simp to_z-of_z at c.in_ok-sessions.ensures.next in
    let none = none_left c.take_timers.new.pieces.items c.take_timers.new.pieces.len c.is_empty.result c.take_timers.new.pieces.ok.0 c.is_empty.ensures c.if-not-is_empty.false in (
      all_read c.args.services c.args.pieces.now.items c.take_head.new.pieces.items c.take_counters.new.pieces.items c.take_pending.new.pieces.items c.take_sessions.new.pieces.items c.take_timers.new.pieces.items c.in-Some.head c.in-Some-2.counts.items c.in-Some-3.pending c.in_ok-sessions.sessions.table c.in_ok-timers.timers
          e1 e2 e3b e4 next c.in_ok-timers.ensures
          ∙ ap (at_end (made_of c.in_ok-sessions.sessions.table c.in_ok-timers.timers c.in-Some-3.pending c.in-Some.head.counts)) none,
      none,
    )
