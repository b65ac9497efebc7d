-- What a joined client is handed by what it is given.
use Rattle.std.proofs.Common.{◌≡◌, ◌≢◌, ◌↔◌, ℕ, ℤ, suc, ◌+◌, ◌<◌, ◌≤◌, List, [], ◌∷◌, ◌++◌, length, get_or, drop, Option, Some, None, Result, Ok, Err, OnOk, OnErr, MatchResult, refl, sym, ap, ◌∙◌, subst, arith, add-one, append_assoc, unsigned_abs}
use Rattle.std.specs.Prelude.{fold}
use Rattle.std.specs.List.{cons_option}
use Rattle.std.proofs.Math.Seq.{drop-cons}
use Rattle.std.proofs.lemmas.List.{append-nil, drop_all}
use Rattle.wire_prims.specs.Fields.{i32_at, i64_at}
use Rattle.wire_prims.specs.declared.fault.Bad.{Bad}
use Rattle.wire_prims.specs.declared.fault.DecodeFault.{DecodeFault}
use Rattle.wire_prims.specs.declared.fault.DecodeFault.TheVariants.{NoMemory, Bad as Faulty}
use Rattle.sbe_client.specs.Reading.{ReadsEgress, block_end, first_fault_egress}
use Rattle.sbe_client.specs.declared.egress.Egress.{Egress}
use Rattle.sbe_client.specs.declared.egress.Egress.TheVariants as egress
use Rattle.egress.specs.Streams.{by_template, value_of}
use Rattle.egress.specs.declared.sent.Sent.{Sent}
use Rattle.cluster_client.specs.declared.answers.Took.{Took}
use Rattle.cluster_client.specs.declared.runs.Got.{Got}
use Rattle.cluster_client.specs.declared.runs.Call.TheVariants as call
use Rattle.cluster_client.specs.Seen.{ClientSeen, new_client}
use Rattle.cluster_client.specs.declared.answers.OfferFault.{OfferFault}
use Rattle.cluster_client.specs.Calls.{heard, took, stepped, refusal, offered}
use Rattle.cluster_client.specs.Handed.{handed}
use Rattle.cluster_client.specs.Runs.{Event, Steps, Hears, Hears_nothing, Offers, ComesTo, after, offered_unless, got_of, got_by, got_by_answer, all_got, given}
use Rattle.cluster_client.proofs.Handing.{new_gets}
use Rattle.cluster_client.proofs.Listed.{give_comes}
use Rattle.joined_clients.specs.Joined.{JoinedSeen, joins, stream_of, meets, event_unless, event_of, takes, takes_next, hears, offers, keeps}

-- what bytes read as is what stands in them
read_is : (bytes : List ℕ) (m : Egress) → ReadsEgress bytes m → value_of bytes ≡ m
read_is bytes (egress.Message term session stamp payload) r =
    let a = r.1 in let b = r.2 in let c = r.3 in let d = r.4 in
    let here : egress.Message (i64_at 8 bytes) (i64_at 16 bytes) (i64_at 24 bytes) (drop (block_end bytes) bytes) ≡ egress.Message term session stamp payload = cc in
    ap (λ t. by_template t bytes) r.0.template_is ∙ here
read_is bytes (egress.SessionEvent session corr term leader code) r =
    let a = r.1 in let b = r.2 in let c = r.3 in let d = r.4 in
    let e : unsigned_abs (i32_at 36 bytes) ≡ code = ap unsigned_abs (sym r.5) in
    let here : egress.SessionEvent (i64_at 8 bytes) (i64_at 16 bytes) (i64_at 24 bytes) (i32_at 32 bytes) (unsigned_abs (i32_at 36 bytes)) ≡ egress.SessionEvent session corr term leader code = cc in
    ap (λ t. by_template t bytes) r.0.template_is ∙ here
read_is bytes (egress.NewLeader term session leader) r =
    let a = r.1 in let b = r.2 in let c = r.3 in
    let here : egress.NewLeader (i64_at 8 bytes) (i64_at 16 bytes) (i32_at 24 bytes) ≡ egress.NewLeader term session leader = cc in
    ap (λ t. by_template t bytes) r.0.template_is ∙ here

read_comes : (bytes : List ℕ) (now : ℕ) (m : Egress) (o : Option Bad) → o ≡ first_fault_egress bytes → ReadsEgress bytes m → ((bad : Bad) → first_fault_egress bytes ≡ Some bad → ⊥) → ComesTo (call.Egress bytes now) (event_unless o (value_of bytes))
read_comes bytes now m None e r free = subst (λ (x : Egress). ReadsEgress bytes x) (sym (read_is bytes m r)) r
read_comes bytes now m (Some bad) e r free = absurd (free bad (sym e))

-- what bytes are to a client
abbrev pub read_event : List ℕ → Event
read_event bytes = event_unless (first_fault_egress bytes) (value_of bytes)

-- bytes that were taken: what is handed out, and what the client is
pub taken : (bytes : List ℕ) (now : ℕ) (old new : ClientSeen) (t : Took)
    → ((m : Egress) → ReadsEgress bytes m → MatchResult (let a : Result Took DecodeFault = Ok t in a) (λ t. (t ≡ took m old) × (new ≡ heard m old)) (λ fault. fault ≡ NoMemory))
    → ((bad : Bad) → (let a : Result Took DecodeFault = Ok t in a ≡ Err (Faulty bad)) ↔ (first_fault_egress bytes ≡ Some bad))
    → ((m : Egress) × ReadsEgress bytes m)
    → (got_of t ≡ got_by (read_event bytes) old) × (new ≡ after (read_event bytes) old)
taken bytes now old new t reads bad read =
    give_comes bytes now old new (Ok t) reads bad tt (λ e. cc) (read_event bytes) (read_comes bytes now read.0 (first_fault_egress bytes) refl read.1 (λ b e. let f = (bad b).1 e in cc))

-- bytes that are no message
pub passed : (bytes : List ℕ) (old new : ClientSeen) (b : Bad) → first_fault_egress bytes ≡ Some b → new ≡ old → (None ≡ got_by (read_event bytes) old) × (new ≡ after (read_event bytes) old)
passed bytes old new b fault same = by (first_fault_egress bytes) fault
  where
    by : (o : Option Bad) → o ≡ Some b → (None ≡ got_by (event_unless o (value_of bytes)) old) × (new ≡ after (event_unless o (value_of bytes)) old)
    by None e = let no : ⊥ = cc in absurd no
    by (Some x) e = (refl, same)

-- the same joined client, but for its client and what it was handed
abbrev pub made : JoinedSeen → ClientSeen → List Got → JoinedSeen
made j c handed = record { number = j.number; client = c; given = j.given; handed = handed }

-- what an event hands out is kept
pub kept : (j : JoinedSeen) (e : Event) (new : ClientSeen) (got : Option Got) → got ≡ got_by e j.client → new ≡ after e j.client → keeps got (made j new j.handed) ≡ meets j e
kept j e new got h c = ap (λ (o : Option Got). made j new (j.handed ++ cons_option o [])) h ∙ ap (λ (x : ClientSeen). made j x (j.handed ++ cons_option (got_by e j.client) [])) c

-- an event that hands something out
pub hands_one : (j : JoinedSeen) (e : Event) (new : ClientSeen) (got : Got) → Some got ≡ got_by e j.client → new ≡ after e j.client → made j new (j.handed ++ got ∷ []) ≡ meets j e
hands_one j e new got h c =
    ap (λ (o : Option Got). made j new (j.handed ++ cons_option o [])) h ∙ ap (λ (x : ClientSeen). made j x (j.handed ++ cons_option (got_by e j.client) [])) c

-- one that doesn't
pub hands_none : (j : JoinedSeen) (e : Event) (new : ClientSeen) → None ≡ got_by e j.client → new ≡ after e j.client → made j new j.handed ≡ meets j e
hands_none j e new h c =
    ap (made j new) (sym (append-nil j.handed)) ∙ ap (λ (o : Option Got). made j new (j.handed ++ cons_option o [])) h
    ∙ ap (λ (x : ClientSeen). made j x (j.handed ++ cons_option (got_by e j.client) [])) c

not_refused : {T : Type 0} (o : Option OfferFault) (t : T) (now : ℕ) (c new : ClientSeen) → ((f : OfferFault) → o ≡ Some f → (let r : Result T OfferFault = Ok t in r) ≡ Err f) → new ≡ offered now c → new ≡ offered_unless o now c
not_refused None t now c new h e = e
not_refused (Some f) t now c new h e = absurd (let x = h f refl in cc)

-- an offer that was sent
pub offers_made : {T : Type 0} (j : JoinedSeen) (payload : List ℕ) (now : ℕ) (new : ClientSeen) (r : Result T OfferFault)
    → ((f : OfferFault) → refusal (length payload) j.client ≡ Some f → r ≡ Err f) → OnOk r (new ≡ offered now j.client) → OnOk r (made j new j.handed ≡ offers payload now j)
offers_made j payload now new (Ok t) h e = hands_none j (Offers now payload) new refl (not_refused (refusal (length payload) j.client) t now j.client new h e)
offers_made j payload now new (Err f) h e = tt

-- a step that was made
pub steps_made : {T E : Type 0} (j : JoinedSeen) (now : ℕ) (new : ClientSeen) (r : Result T E) → OnOk r (new ≡ stepped now j.client) → OnOk r (made j new j.handed ≡ meets j (Steps now))
steps_made j now new (Ok t) e = hands_none j (Steps now) new refl e
steps_made j now new (Err f) e = tt

-- one record of those that are left
pub next_taken : (j : JoinedSeen) (stream : List Sent) (d : Sent) → j.given < length stream → fold takes_next j (drop j.given stream) ≡ fold takes_next (takes_next j (get_or stream j.given d)) (drop (j.given + 1) stream)
next_taken j stream d within =
    let e : suc j.given ≡ j.given + 1 = omega arith in
    ap (fold takes_next j) (drop-cons stream j.given d within) ∙ ap (λ k. fold takes_next (takes_next j (get_or stream j.given d)) (drop k stream)) e

-- what is left makes of it what all does
pub heard_one : (j old : JoinedSeen) (stream : List Sent) (d : Sent) → j.given < length stream → hears stream j ≡ hears stream old → hears stream (takes_next j (get_or stream j.given d)) ≡ hears stream old
heard_one j old stream d within e = sym (next_taken j stream d within) ∙ e

-- nothing is left
pub all_heard : (j old : JoinedSeen) (stream : List Sent) → length stream ≤ j.given → hears stream j ≡ hears stream old → j ≡ hears stream old
all_heard j old stream past e = ap (fold takes_next j) (sym (drop_all j.given stream past)) ∙ e

-- what is handed over events is what is got by them
between : (xs : List Got) (o : Option Got) (ys : List Got) → (xs ++ cons_option o []) ++ ys ≡ xs ++ cons_option o ys
between xs None ys = ap (λ l. l ++ ys) (append-nil xs)
between xs (Some x) ys = append_assoc xs (x ∷ []) ys

all_handed : (j : JoinedSeen) (events : List Event) → (fold meets j events).handed ≡ j.handed ++ all_got j.client events
all_handed j [] = sym (append-nil j.handed)
all_handed j (e ∷ events) = all_handed (meets j e) events ∙ between j.handed (got_by e j.client) (all_got (after e j.client) events)

pub handed_is : (number members : ℕ) (events : List Event) → (fold meets (joins number members) events).handed ≡ handed (given (new_client (stream_of number) members) events)
handed_is number members events = all_handed (joins number members) events ∙ new_gets (stream_of number) members events
