-- What was sent to clients, by stream, and what a client learns from it.
use Rattle.std.specs.Prelude.{ℕ, ℤ, negsuc, ◌<ℤ◌, int_lt, unsigned_abs, ◌==◌, if◌then◌else◌, List, [], ◌∷◌, ◌++◌, fold, Option, Some, None, ⊤, take, drop}
use Rattle.std.specs.List.{AllByRecursion}
use Rattle.std.specs.Ordering.{int_eq}
use Rattle.wire_prims.specs.Fields.{u16_at, i32_at, i64_at}
use Rattle.wire_prims.specs.declared.fault.Bad.{Bad}
use Rattle.sbe_client.specs.Reading.{block_end, first_fault_egress}
use Rattle.sbe_client.specs.Spelling.{egress_spelling_of}
use Rattle.sbe_client.specs.declared.egress.Egress.{Egress}
use Rattle.sbe_client.specs.declared.egress.Egress.TheVariants as egress
use Rattle.egress.specs.declared.known.Known.{Known}
use Rattle.egress.specs.declared.sent.Sent.{Sent}

-- an answer to a connect of this number that opens no session
abbrev pub answer : ℤ → ℤ → ℤ → ℕ → List ℕ
answer corr term leader code = egress_spelling_of (egress.SessionEvent (negsuc 0) corr term leader code)

abbrev pub none_known : Known
none_known = record { session = negsuc 0; term = negsuc 0 }

-- an OK tells the session and the term, a new leader of that session the term
abbrev pub told : Known → Egress → Known
told k (egress.SessionEvent session corr term leader code) = if code == 0 then record { session = session; term = term } else k
told k (egress.NewLeader term session leader) = if int_eq session k.session then record { session = k.session; term = term } else k
told k (egress.Message term session stamp payload) = k

-- what stands in bytes of this template
abbrev pub by_template : ℕ → List ℕ → Egress
by_template t bytes =
    if t == 1 then egress.Message (i64_at 8 bytes) (i64_at 16 bytes) (i64_at 24 bytes) (drop (block_end bytes) bytes)
    else (if t == 2 then egress.SessionEvent (i64_at 8 bytes) (i64_at 16 bytes) (i64_at 24 bytes) (i32_at 32 bytes) (unsigned_abs (i32_at 36 bytes))
    else egress.NewLeader (i64_at 8 bytes) (i64_at 16 bytes) (i32_at 24 bytes))

-- what bytes that have no fault read as
abbrev pub value_of : List ℕ → Egress
value_of bytes = by_template (u16_at 2 bytes) bytes

abbrev pub told_unless : Option Bad → Known → Egress → Known
told_unless (Some bad) k m = k
told_unless None k m = told k m

-- what a client knows after bytes were sent to it; bytes that are no message tell nothing
unfoldable pub learns : Known → List ℕ → Known
learns k bytes = told_unless (first_fault_egress bytes) k (value_of bytes)

-- what a client knows by its list
abbrev pub known_by : List Sent → Known
known_by sent = fold (λ k (s : Sent). learns k s.bytes) none_known sent

-- a stream, and what was sent on it in order
pub record StreamSeen : Type 0 where
  pub stream : ℤ
  pub sent : List Sent

abbrev pub empty_stream : ℤ → StreamSeen
empty_stream k = record { stream = k; sent = [] }

abbrev pub with_record : Sent → StreamSeen → StreamSeen
with_record s b = record b { sent = b.sent ++ s ∷ [] }

-- by rising stream
abbrev pub StreamsRise : List StreamSeen → Type 0
StreamsRise [] = ⊤
StreamsRise (b ∷ bs) = AllByRecursion (λ (c : StreamSeen). b.stream <ℤ c.stream) bs × StreamsRise bs

-- a stream's place: those before it are lower, those from it on are greater
abbrev pub IsBetween : ℤ → ℕ → List StreamSeen → Type 0
IsBetween k i bs = AllByRecursion (λ (b : StreamSeen). b.stream <ℤ k) (take i bs) × AllByRecursion (λ (b : StreamSeen). k <ℤ b.stream) (drop i bs)

-- what was sent on a stream
abbrev pub sent_on : ℤ → List StreamSeen → List Sent
sent_on k [] = []
sent_on k (b ∷ bs) = if int_eq b.stream k then b.sent else sent_on k bs

-- a record stands behind those of its stream, which has its place among the streams
abbrev pub sent_more : Sent → List StreamSeen → List StreamSeen
sent_more s [] = with_record s (empty_stream s.stream) ∷ []
sent_more s (b ∷ bs) =
    if int_lt s.stream b.stream then with_record s (empty_stream s.stream) ∷ b ∷ bs
    else (if int_eq b.stream s.stream then with_record s b ∷ bs else b ∷ sent_more s bs)
