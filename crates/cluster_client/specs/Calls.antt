-- What each call makes of a client, and what it answers.
use Rattle.std.specs.Prelude.{ℕ, ℤ, pos, ◌+◌, ◌^◌, min, Bool, ◌&&◌, ◌==◌, nat_lt, nat_le, int_lt, if◌then◌else◌, List, [], Option, Some, None, unwrap_or}
use Rattle.std.specs.Ordering.{int_eq}
use Rattle.sbe_client.specs.Spelling.{ingress_spelling_of}
use Rattle.sbe_client.specs.declared.ingress.Ingress.TheVariants as ingress
use Rattle.sbe_client.specs.declared.egress.Egress.{Egress}
use Rattle.sbe_client.specs.declared.egress.Egress.TheVariants as egress
use Rattle.cluster_client.specs.declared.answers.ToMember.{ToMember}
use Rattle.cluster_client.specs.declared.answers.Took.{Took}
use Rattle.cluster_client.specs.declared.answers.Took.TheVariants.{Handed, Ignored}
use Rattle.cluster_client.specs.declared.answers.OfferFault.{OfferFault}
use Rattle.cluster_client.specs.declared.answers.OfferFault.TheVariants.{NotOpen, TooLarge}
use Rattle.cluster_client.specs.declared.state.State.{State}
use Rattle.cluster_client.specs.declared.state.State.TheVariants.{Unconnected, Connecting, Open, Closed}
use Rattle.cluster_client.specs.Seen.{ClientSeen, member_after, member_named}

-- ---- a step

-- it sent nothing for at least 1,000 ms
abbrev pub is_quiet : ℕ → ClientSeen → Bool
is_quiet now c = nat_le (c.sent + 1000) now

-- it asked this member: the connect's number is one more than the last one's, up to 2^62
abbrev pub asked : ℕ → ℕ → ClientSeen → ClientSeen
asked member now c = record c { corr = min (c.corr + 1) (2 ^ 62); next = member; sent = now; state = Connecting }

-- the connect that a client sent which asked: no channel
abbrev pub connect_of : ClientSeen → ToMember
connect_of c = record { member = c.next; bytes = ingress_spelling_of (ingress.Connect (pos c.corr) c.stream []) }

-- a sign of life of a session to its leader
abbrev pub keep_alive : ℤ → ℤ → ℕ → ToMember
keep_alive session term leader = record { member = leader; bytes = ingress_spelling_of (ingress.KeepAlive term session) }

-- what a client is after a step: it asks its next member, or the one behind where none answered in time; a quiet session
-- shows that it lives
abbrev pub stepped_in : State → ℕ → ClientSeen → ClientSeen
stepped_in Unconnected now c = asked c.next now c
stepped_in Connecting now c = if is_quiet now c then asked (member_after c) now c else c
stepped_in (Open session term leader) now c = if is_quiet now c then record c { sent = now } else c
stepped_in Closed now c = c

abbrev pub stepped : ℕ → ClientSeen → ClientSeen
stepped now c = stepped_in c.state now c

-- what it sends in that step
abbrev pub step_sends_in : State → ℕ → ClientSeen → Option ToMember
step_sends_in Unconnected now c = Some (connect_of (asked c.next now c))
step_sends_in Connecting now c = if is_quiet now c then Some (connect_of (asked (member_after c) now c)) else None
step_sends_in (Open session term leader) now c = if is_quiet now c then Some (keep_alive session term leader) else None
step_sends_in Closed now c = None

abbrev pub step_sends : ℕ → ClientSeen → Option ToMember
step_sends now c = step_sends_in c.state now c

-- ---- a record of the cluster

-- an OK to its connect opens the session that it names, a redirect leads to the leader or to the member behind; nothing
-- else is an answer to a client that asked
abbrev pub answered_by : ℤ → ℤ → ℤ → ℕ → ClientSeen → ClientSeen
answered_by session term leader code c =
    if code == 0 then record c { state = Open session term (unwrap_or (member_named c.members leader) 0) }
    else (if code == 2 then record c { next = unwrap_or (member_named c.members leader) (member_after c); state = Unconnected } else c)

abbrev pub answered : Egress → ClientSeen → ClientSeen
answered (egress.SessionEvent session corr term leader code) c = if int_eq corr (pos c.corr) then answered_by session term leader code c else c
answered (egress.Message term session stamp payload) c = c
answered (egress.NewLeader term session leader) c = c

-- an open session is ended by its close, and led on by a new leader of a greater term
abbrev pub told : ℕ → ℤ → ℤ → ℕ → Egress → State
told members session term leader (egress.SessionEvent s corr t l code) = if int_eq s session && code == 4 then Closed else Open session term leader
told members session term leader (egress.NewLeader t s l) = if int_eq s session && int_lt term t then Open session t (unwrap_or (member_named members l) 0) else Open session term leader
told members session term leader (egress.Message t s stamp payload) = Open session term leader

-- what a client is after a record
abbrev pub heard_in : State → Egress → ClientSeen → ClientSeen
heard_in Unconnected m c = c
heard_in Connecting m c = answered m c
heard_in (Open session term leader) m c = record c { state = told c.members session term leader m }
heard_in Closed m c = c

abbrev pub heard : Egress → ClientSeen → ClientSeen
heard m c = heard_in c.state m c

-- a message is for the user of this session exactly where it is the session's, and of this term
abbrev pub took_open : ℤ → ℤ → Egress → Took
took_open session term (egress.Message t s stamp payload) = if int_eq s session && int_eq t term then Handed t payload else Ignored
took_open session term (egress.SessionEvent s corr t l code) = Ignored
took_open session term (egress.NewLeader t s l) = Ignored

-- what a client takes from a record
abbrev pub took_in : State → Egress → Took
took_in (Open session term leader) m = took_open session term m
took_in Unconnected m = Ignored
took_in Connecting m = Ignored
took_in Closed m = Ignored

abbrev pub took : Egress → ClientSeen → Took
took m c = took_in c.state m

-- ---- an offer

-- why a payload of so many bytes is refused
abbrev pub refusal_in : State → ℕ → Option OfferFault
refusal_in (Open session term leader) len = if nat_lt 16384 len then Some (TooLarge len) else None
refusal_in Unconnected len = Some NotOpen
refusal_in Connecting len = Some NotOpen
refusal_in Closed len = Some NotOpen

abbrev pub refusal : ℕ → ClientSeen → Option OfferFault
refusal len c = refusal_in c.state len

-- the message that an offer sends to the leader; a client without a session sends none
abbrev pub offer_sends_in : State → List ℕ → Option ToMember
offer_sends_in (Open session term leader) payload = Some (record { member = leader; bytes = ingress_spelling_of (ingress.Message term session payload) })
offer_sends_in Unconnected payload = None
offer_sends_in Connecting payload = None
offer_sends_in Closed payload = None

abbrev pub offer_sends : List ℕ → ClientSeen → Option ToMember
offer_sends payload c = offer_sends_in c.state payload

-- what a client is after an offer that was not refused
abbrev pub offered : ℕ → ClientSeen → ClientSeen
offered now c = record c { sent = now }
