-- The small run, computed.
use Rattle.std.proofs.Common.{◌≡◌, pos, Bool, true, ◌&&◌, List, [], ◌∷◌, length, drop, refl, sym, ap, ◌∙◌, subst, if◌then◌else◌}
use Rattle.std.specs.Ordering.{int_eq}
use Rattle.wire_prims.specs.Strict.{message}
use Rattle.wire_prims.specs.Fields.{le16, le32, le64, signed32, signed64}
use Rattle.entry_log.specs.Log.{Log, place, end_after}
use Rattle.sbe_events.specs.declared.event.Event.{Event}
use Rattle.sbe_events.specs.Spelling.{term_of}
use Rattle.module_state.specs.Module.{tentative}
use Rattle.module_state.specs.Services.{module_of}
use Rattle.module_state.specs.Places.{entry_of, log_of, stamp_of}
use Rattle.module_state.specs.Entries.{events_in}
use Rattle.module_state.specs.Worked.{ledger}
use Rattle.module_state.proofs.EntryLaws.{events_in_back}
use Rattle.world.specs.World.{acts}
use Rattle.world.specs.World.{member, Client}
use Rattle.consensus_core.specs.Member.{Whole}
use Rattle.service_runs.specs.Hosts.{Rows}
use Rattle.service_runs.specs.Example.{example}
use Rattle.one_log.specs.Led.{goes_on, ahead_of, admits, has_room, is_asked, turn}
use Rattle.one_log.specs.Example.{term, term-fits, opened, leading, opens}

log-is : (member leading.hosted.world 0).durable.log ≡ log_of (term ∷ [])
unfolding acts end_after message le16 le32 le64 signed32 signed64
log-is = refl

nothing-applied : leading.consumed 0 ≡ []
unfolding acts end_after message le16 le32 le64 signed32 signed64
nothing-applied = refl

ahead-is : ahead_of leading 0 ≡ term ∷ []
ahead-is = ap (λ (c : Log). events_in (drop (length c) (member leading.hosted.world 0).durable.log)) nothing-applied ∙ ap events_in log-is ∙ events_in_back (term ∷ []) (term-fits, tt)

abbrev test : Log → List Event → Bool
test c ahead =
    int_eq (stamp_of opened) (pos leading.hosted.world.now)
    && (int_eq (term_of opened) (member leading.hosted.world 0).values.election.term
    && (admits (tentative (module_of ledger (events_in c)) ahead) (place (member leading.hosted.world 0).durable.log) opened && has_room (member leading.hosted.world 0).durable.log (entry_of opened ∷ [])))

passes : test [] (term ∷ []) ≡ true
unfolding acts end_after message le16 le32 le64 signed32 signed64
passes = refl

pub is-asked : is_asked ledger leading 0 opened ≡ true
is-asked = ap (λ (c : Log). test c (ahead_of leading 0)) nothing-applied ∙ ap (test []) ahead-is ∙ passes

pub one-more : length (member (turn ledger example leading opens).hosted.world 0).durable.log ≡ 2
unfolding acts end_after message le16 le32 le64 signed32 signed64
one-more = subst (λ (b : Bool). length (member (if b then goes_on example leading (Rows (Client 0 opened Whole)) else leading).hosted.world 0).durable.log ≡ 2) (sym is-asked) refl
