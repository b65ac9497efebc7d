-- The text of a log's events.
use Rattle.std.specs.Prelude.{ℕ, ℤ, List, [], ◌++◌, codes, Option, Some, None}
use Rattle.std.specs.Fmt.{decimal, signed_decimal}
use Rattle.sbe_events.specs.Spelling.{event_of}
use Rattle.sbe_events.specs.declared.event.Event.{Event}
use Rattle.sbe_events.specs.declared.event.Event.TheVariants as event
use Rattle.line_text.specs.Pieces.{hex_text, value}

-- the leader of a new term, the place at which the term begins, and the stamp
abbrev pub term_text : ℤ → ℤ → ℤ → List ℕ
term_text leader base stamp = value (codes "term leader ") leader ++ value (codes " base ") base ++ value (codes " ts ") stamp

-- an opened session, where its client listens, and the number of its connect
abbrev pub open_front : ℤ → ℤ → ℤ → List ℕ
open_front session stream corr = value (codes "open ") session ++ value (codes " stream ") stream ++ value (codes " corr ") corr

abbrev pub open_text : ℤ → ℤ → ℤ → ℤ → List ℕ → List ℕ
open_text session stream corr stamp channel = open_front session stream corr ++ value (codes " ts ") stamp ++ codes " channel " ++ hex_text channel

abbrev pub message_text : ℤ → ℤ → List ℕ → List ℕ
message_text session stamp payload = codes "message " ++ signed_decimal session ++ codes " ts " ++ signed_decimal stamp ++ codes " " ++ hex_text payload

-- the service that offered it, and its number
abbrev pub service_text : ℕ → ℤ → ℤ → List ℕ → List ℕ
service_text service number stamp payload =
    codes "service " ++ decimal service ++ codes " " ++ signed_decimal number ++ codes " ts " ++ signed_decimal stamp ++ codes " " ++ hex_text payload

abbrev pub timer_text : ℤ → ℤ → List ℕ
timer_text corr stamp = codes "timer " ++ signed_decimal corr ++ codes " ts " ++ signed_decimal stamp

abbrev pub close_text : ℤ → ℕ → ℤ → List ℕ
close_text session reason stamp = codes "close " ++ signed_decimal session ++ codes " reason " ++ decimal reason ++ codes " ts " ++ signed_decimal stamp

abbrev pub snapshot_text : ℤ → List ℕ
snapshot_text stamp = codes "snapshot ts " ++ signed_decimal stamp

abbrev pub event_text : Event → List ℕ
event_text (event.Term term position stamp base leader) = term_text leader base stamp
event_text (event.Opened term corr session stamp stream channel) = open_text session stream corr stamp channel
event_text (event.Message term session stamp payload) = message_text session stamp payload
event_text (event.ServiceMessage term service number stamp payload) = service_text service number stamp payload
event_text (event.Timer term corr stamp) = timer_text corr stamp
event_text (event.Closed term session stamp reason) = close_text session reason stamp
event_text (event.Snapshot term position stamp) = snapshot_text stamp

abbrev pub found_text : Option Event → List ℕ
found_text None = []
found_text (Some e) = event_text e

-- the event that bytes spell
abbrev pub bytes_text : List ℕ → List ℕ
bytes_text bytes = found_text (event_of bytes)
