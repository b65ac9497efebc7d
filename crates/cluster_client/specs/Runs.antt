-- A client over a list of calls.
use Rattle.std.specs.Prelude.{◌≡◌, ℕ, not, ◌&&◌, List, [], ◌∷◌, length, Option, Some, None, Result, Ok, Err}
use Rattle.std.specs.List.{cons_option}
use Rattle.wire_prims.specs.declared.fault.Bad.{Bad}
use Rattle.wire_prims.specs.declared.fault.DecodeFault.{DecodeFault}
use Rattle.sbe_client.specs.Reading.{ReadsEgress, first_fault_egress}
use Rattle.sbe_client.specs.declared.egress.Egress.{Egress}
use Rattle.cluster_client.specs.declared.answers.Took.{Took}
use Rattle.cluster_client.specs.declared.answers.Took.TheVariants.{Handed, Ignored}
use Rattle.cluster_client.specs.declared.answers.OfferFault.{OfferFault}
use Rattle.cluster_client.specs.declared.runs.Got.{Got}
use Rattle.cluster_client.specs.declared.runs.Call.{Call}
use Rattle.cluster_client.specs.declared.runs.Call.TheVariants as call
use Rattle.cluster_client.specs.Seen.{ClientSeen, is_open}
use Rattle.cluster_client.specs.Calls.{stepped, heard, took, refusal, offered}
use Rattle.cluster_client.specs.Handed.{Given}

-- what a call comes to: a step, a record that reads as a message, bytes that read as none, or an offer
pub data Event : Type 0 where
  Steps : (now : ℕ) → Event
  Hears : (message : Egress) → Event
  Hears_nothing : Event
  Offers : (now : ℕ) (payload : List ℕ) → Event

-- the call comes to that
abbrev pub ComesTo : Call → Event → Type 0
ComesTo (call.Step now) (Steps at) = at ≡ now
ComesTo (call.Egress bytes now) (Hears message) = ReadsEgress bytes message
ComesTo (call.Egress bytes now) Hears_nothing = (bad : Bad) × (first_fault_egress bytes ≡ Some bad)
ComesTo (call.Offer payload now) (Offers at bytes) = (at ≡ now) × (bytes ≡ payload)
-- no call comes to something else
ComesTo (call.Step now) (Hears message) = ⊥
ComesTo (call.Step now) Hears_nothing = ⊥
ComesTo (call.Step now) (Offers at bytes) = ⊥
ComesTo (call.Egress bytes now) (Steps at) = ⊥
ComesTo (call.Egress bytes now) (Offers at payload) = ⊥
ComesTo (call.Offer payload now) (Steps at) = ⊥
ComesTo (call.Offer payload now) (Hears message) = ⊥
ComesTo (call.Offer payload now) Hears_nothing = ⊥

-- each call comes to its event
abbrev pub AllComeTo : List Call → List Event → Type 0
AllComeTo [] [] = Unit {0}
AllComeTo (c ∷ calls) (e ∷ events) = ComesTo c e × AllComeTo calls events
AllComeTo [] (e ∷ events) = ⊥
AllComeTo (c ∷ calls) [] = ⊥

-- a refused offer changes nothing
abbrev pub offered_unless : Option OfferFault → ℕ → ClientSeen → ClientSeen
offered_unless None now c = offered now c
offered_unless (Some fault) now c = c

-- what a client is after an event
abbrev pub after : Event → ClientSeen → ClientSeen
after (Steps now) c = stepped now c
after (Hears message) c = heard message c
after Hears_nothing c = c
after (Offers now payload) c = offered_unless (refusal (length payload) c) now c

-- what its user gets
abbrev pub got_of : Took → Option Got
got_of (Handed term payload) = Some (record { term = term; payload = payload })
got_of Ignored = None

-- by a client's answer to a record; bytes that are no message give nothing
abbrev pub got_by_answer : Result Took DecodeFault → Option Got
got_by_answer (Ok answer) = got_of answer
got_by_answer (Err fault) = None

-- and by an event
abbrev pub got_by : Event → ClientSeen → Option Got
got_by (Hears message) c = got_of (took message c)
got_by (Steps now) c = None
got_by Hears_nothing c = None
got_by (Offers now payload) c = None

-- all that its user gets over events
abbrev pub all_got : ClientSeen → List Event → List Got
all_got c [] = []
all_got c (e ∷ events) = cons_option (got_by e c) (all_got (after e c) events)

-- the record of an event, before others; it opened the client's session where the client had none before it and has one after
abbrev pub given_by : Event → ClientSeen → List Given → List Given
given_by (Hears message) c records = record { message = message; opens = not (is_open c) && is_open (heard message c) } ∷ records
given_by (Steps now) c records = records
given_by Hears_nothing c records = records
given_by (Offers now payload) c records = records

-- the records that a client was given
abbrev pub given : ClientSeen → List Event → List Given
given c [] = []
given c (e ∷ events) = given_by e c (given (after e c) events)
