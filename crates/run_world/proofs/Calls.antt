-- The calls of a member whose phase lets them through.
use Rattle.std.proofs.Common.{◌≡◌, ℕ, ◌<◌, ◌≤◌, Bool, true, List, length, refl, sym, subst, Option, Some, None}
use Rattle.std.specs.Prelude.{Contains}
use Rattle.sbe_events.specs.declared.event.Event.{Event}
use Rattle.sbe_consensus.specs.Laws.{encoded}
use Rattle.sbe_consensus.specs.Spelling.{packet_of}
use Rattle.sbe_consensus.specs.declared.packet.Packet.{Packet}
use Rattle.sbe_consensus.specs.declared.packet.Outgoing.{Outgoing}
use Rattle.service_api.specs.declared.shipped.Kind.{Kind}
use Rattle.module_state.specs.Entries.{IsSpellable}
use Rattle.consensus_core.specs.Member.{Sent, spelled_packet, row_of_packet, row_of_duty, row_of_client}
use Rattle.network.specs.Net.{NetSeen, taken, coming, first_of}
use Rattle.world.specs.World.{World}
use Rattle.world.proofs.Effects.{if-cases}
use Rattle.one_log.specs.Led.{turns, led}
use Rattle.one_log.specs.Ruled.{rules_of}
use Rattle.run_world.specs.Seat.{Fate, lets_calls}
use Rattle.run_world.specs.RunWorld.{RunWorld, seat, row_at, is_free as may_act, with_net, takes_packet, handed, may_ask, due_at}
use Rattle.run_world.specs.Lawful.{IsFlown, WasSent, Shows, Lawful}
use Rattle.run_world.proofs.Flown.{flown-taken, coming-sent}
use Rattle.run_world.proofs.Queues.{calls-ready}
use Rattle.run_world.proofs.Rows.{free-parts, duty-lifts, ask-lifts, packet-lifts}

pub duty-call : (n : ℕ) (kinds : List Kind) (w : RunWorld) (m : ℕ) (f : Fate) → n ≤ 5 → length kinds ≤ 3 → Lawful n kinds w → m < length w.seats → (seat w m).member.up ≡ true → lets_calls (seat w m).phase ≡ true
    → Lawful n kinds (row_at m (row_of_duty (seat w m).member (due_at kinds (seat w m) w.now) w.now) f w)
duty-call n kinds w m f five three lawful l up lets = let z = calls-ready n kinds w m five three lawful l up lets in duty-lifts n kinds w m f five three z.again l up z.lets

pub ask-call : (n : ℕ) (kinds : List Kind) (w : RunWorld) (m : ℕ) (e : Event) (fits : IsSpellable e) (f : Fate) → n ≤ 5 → length kinds ≤ 3 → Lawful n kinds w → m < length w.seats → (seat w m).member.up ≡ true → lets_calls (seat w m).phase ≡ true
    → may_ask kinds (seat w m) w.now e ≡ true → Lawful n kinds (row_at m (row_of_client (seat w m).member e) f w)
ask-call n kinds w m e fits f five three lawful l up lets may = let z = calls-ready n kinds w m five three lawful l up lets in ask-lifts n kinds w m e fits f five three z.again l up z.lets may

packet-call : (n : ℕ) (kinds : List Kind) (w : RunWorld) (s : Sent) (f : Fate) → n ≤ 5 → length kinds ≤ 3 → (lawful : Lawful n kinds w) → Contains (turns kinds (rules_of kinds) (led n) lawful.taken).hosted.world.sent s
    → s.to < length w.seats → (seat w s.to).member.up ≡ true → lets_calls (seat w s.to).phase ≡ true → Lawful n kinds (row_at s.to (row_of_packet (seat w s.to).member s.packet w.now) f w)
packet-call n kinds w s f five three lawful has l up lets =
    let z = calls-ready n kinds w s.to five three lawful l up lets in
    packet-lifts n kinds w s f five three z.again (subst (λ (u : World). Contains u.sent s) (sym z.world) has) l up z.lets

-- ---- what the network does

pub net-lifts : (n : ℕ) (kinds : List Kind) (w : RunWorld) (net : NetSeen) (lawful : Lawful n kinds w) → (IsFlown (turns kinds (rules_of kinds) (led n) lawful.taken).hosted.world w.net → IsFlown (turns kinds (rules_of kinds) (led n) lawful.taken).hosted.world net)
    → Lawful n kinds (with_net net w)
net-lifts n kinds w net lawful f =
    let s = lawful.shows in
    record { taken = lawful.taken; shows = record { now = s.now; members = s.members; hosts = s.hosts; outputs = s.outputs; printed = s.printed; flown = f s.flown; spelled = s.spelled } }

takes-lifts : (n : ℕ) (kinds : List Kind) (w : RunWorld) (p : ℕ × Outgoing) (f : Fate) → n ≤ 5 → length kinds ≤ 3 → (lawful : Lawful n kinds w) → WasSent (turns kinds (rules_of kinds) (led n) lawful.taken).hosted.world p
    → Lawful n kinds (handed (Some p) f w)
takes-lifts n kinds w p f five three lawful sent =
    let s = sent.0 in
    let has = sent.1 in
    let read : packet_of (spelled_packet s).bytes ≡ Some s.packet = encoded s.packet (lawful.shows.spelled.sent s has) in
    subst (λ (o : Outgoing). Lawful n kinds (takes_packet o.to (packet_of o.bytes) f w)) (sym sent.2)
    (subst (λ (q : Option Packet). Lawful n kinds (takes_packet s.to q f w)) (sym read)
    (if-cases (Lawful n kinds) (may_act w s.to) _ _ (λ b. let q = free-parts w s.to b in packet-call n kinds w s f five three lawful has q.0 q.1 q.2) (λ b. lawful)))

pub hands-lift : (n : ℕ) (kinds : List Kind) (w : RunWorld) (f : Fate) → n ≤ 5 → length kinds ≤ 3 → Lawful n kinds w → Lawful n kinds (handed (first_of (coming w.net)) f (with_net (taken w.net) w))
unfolding net-lifts
hands-lift n kinds w f five three lawful = at (first_of (coming w.net)) refl
  where
    next : Lawful n kinds (with_net (taken w.net) w)
    next = net-lifts n kinds w (taken w.net) lawful (flown-taken (turns kinds (rules_of kinds) (led n) lawful.taken).hosted.world w.net)

    at : (o : Option (ℕ × Outgoing)) → first_of (coming w.net) ≡ o → Lawful n kinds (handed o f (with_net (taken w.net) w))
    at None e = next
    at (Some p) e = takes-lifts n kinds (with_net (taken w.net) w) p f five three next (coming-sent (turns kinds (rules_of kinds) (led n) lawful.taken).hosted.world w.net p lawful.shows.flown e)
