-- The one spelling of each event, and what is first wrong with bytes that spell none.
use Rattle.std.specs.Prelude.{◌≡◌, ℕ, ◌^◌, ◌-◌, ◌≤◌, ℤ, pos, int_le, unsigned_abs, if◌then◌else◌, List, [], ◌∷◌, ◌++◌, length, take, drop, Option, Some, None, Result, Ok, Err, FitsSigned}
use Rattle.std.specs.Int.{w32, w64}
use Rattle.wire_prims.specs.Fields.{u16_at, u32_at, i32_at, i64_at}
use Rattle.wire_prims.specs.Header.{bad, header_of}
use Rattle.wire_prims.specs.Strict.{message, service_session, service_of, number_of as service_number_of, strict_fault}
use Rattle.wire_prims.specs.StrictLaws.{Between, tail_spelling}
use Rattle.wire_prims.specs.declared.fault.Bad.{Bad}
use Rattle.wire_prims.specs.declared.fault.BadCause.TheVariants as causes
use Rattle.wire_prims.specs.declared.header.Header.{Header}
use Rattle.wire_prims.specs.declared.strict.Field.{Field}
use Rattle.wire_prims.specs.declared.strict.Field.TheVariants.{I64, I32}
use Rattle.sbe_events.specs.Templates.{number_of, template_of, rules_of, tail_of}
use Rattle.sbe_events.specs.declared.template.Template.{Template}
use Rattle.sbe_events.specs.declared.template.Template.TheVariants as templates
use Rattle.sbe_events.specs.declared.event.Event.{Event}
use Rattle.sbe_events.specs.declared.event.Event.TheVariants.{Term, Opened, Message, ServiceMessage, Timer, Closed, Snapshot}

-- ---- which events have a spelling

-- a term, a position or a stamp
abbrev pub IsNumber : ℤ → Type 0
IsNumber z = Between (pos 0) (pos (2 ^ 62)) z

-- a client's session
abbrev pub IsClient : ℤ → Type 0
IsClient z = Between (pos 1) (pos (2 ^ 63 - 1)) z

-- the fields of an event are in their ranges
abbrev pub HasSpelling : Event → Type 0
HasSpelling (Term term position stamp base leader) = IsNumber term × IsNumber position × IsNumber stamp × (base ≡ position) × Between (pos 0) (pos 4) leader
HasSpelling (Opened term corr session stamp stream channel) = IsNumber term × FitsSigned w64 corr × IsClient session × IsNumber stamp × FitsSigned w32 stream × (length channel ≤ 1024)
HasSpelling (Message term session stamp payload) = IsNumber term × IsClient session × IsNumber stamp × (length payload ≤ 16384)
HasSpelling (ServiceMessage term service number stamp payload) = IsNumber term × (service ≤ 2) × Between (pos 1) (pos (2 ^ 47)) number × IsNumber stamp × (length payload ≤ 16384)
HasSpelling (Timer term corr stamp) = IsNumber term × FitsSigned w64 corr × IsNumber stamp
HasSpelling (Closed term session stamp reason) = IsNumber term × IsClient session × IsNumber stamp × (reason ≤ 2)
HasSpelling (Snapshot term position stamp) = IsNumber term × IsNumber position × IsNumber stamp

-- ---- the spelling

abbrev pub template_for : Event → Template
template_for (Term term position stamp base leader) = templates.Term
template_for (Opened term corr session stamp stream channel) = templates.Opened
template_for (Message term session stamp payload) = templates.Message
template_for (ServiceMessage term service number stamp payload) = templates.Message
template_for (Timer term corr stamp) = templates.Timer
template_for (Closed term session stamp reason) = templates.Closed
template_for (Snapshot term position stamp) = templates.Snapshot

-- the numbers of the block, in rising place
abbrev pub fields_of : Event → List Field
fields_of (Term term position stamp base leader) = I64 term ∷ I64 position ∷ I64 stamp ∷ I64 base ∷ I32 leader ∷ I32 (pos 1) ∷ []
fields_of (Opened term corr session stamp stream channel) = I64 term ∷ I64 corr ∷ I64 session ∷ I64 stamp ∷ I32 stream ∷ []
fields_of (Message term session stamp payload) = I64 term ∷ I64 session ∷ I64 stamp ∷ []
fields_of (ServiceMessage term service number stamp payload) = I64 term ∷ I64 (service_session service number) ∷ I64 stamp ∷ []
fields_of (Timer term corr stamp) = I64 term ∷ I64 corr ∷ I64 stamp ∷ []
fields_of (Closed term session stamp reason) = I64 term ∷ I64 session ∷ I64 stamp ∷ I32 (pos reason) ∷ []
fields_of (Snapshot term position stamp) = I64 term ∷ I64 position ∷ I64 stamp ∷ I32 (pos 2) ∷ []

-- the bytes that an event has besides its numbers
abbrev pub content_of : Event → List ℕ
content_of (Term term position stamp base leader) = []
content_of (Opened term corr session stamp stream channel) = channel
content_of (Message term session stamp payload) = payload
content_of (ServiceMessage term service number stamp payload) = payload
content_of (Timer term corr stamp) = []
content_of (Closed term session stamp reason) = []
content_of (Snapshot term position stamp) = []

-- the header and the block, and behind it nothing, the payload, or the channel with its length
abbrev pub spelling_of : Event → List ℕ
spelling_of e = message (number_of (template_for e)) (fields_of e) ++ tail_spelling (tail_of (template_for e)) (content_of e)

-- an event's term
abbrev pub term_of : Event → ℤ
term_of (Term term position stamp base leader) = term
term_of (Opened term corr session stamp stream channel) = term
term_of (Message term session stamp payload) = term
term_of (ServiceMessage term service number stamp payload) = term
term_of (Timer term corr stamp) = term
term_of (Closed term session stamp reason) = term
term_of (Snapshot term position stamp) = term

-- when an event came, in ms
abbrev pub stamp_of : Event → ℤ
stamp_of (Term term position stamp base leader) = stamp
stamp_of (Opened term corr session stamp stream channel) = stamp
stamp_of (Message term session stamp payload) = stamp
stamp_of (ServiceMessage term service number stamp payload) = stamp
stamp_of (Timer term corr stamp) = stamp
stamp_of (Closed term session stamp reason) = stamp
stamp_of (Snapshot term position stamp) = stamp

-- the number behind an event's term: its place, the name that a client or a service gave, or its sender
abbrev pub subject_of : Event → ℤ
subject_of (Term term position stamp base leader) = position
subject_of (Opened term corr session stamp stream channel) = corr
subject_of (Message term session stamp payload) = session
subject_of (ServiceMessage term service number stamp payload) = service_session service number
subject_of (Timer term corr stamp) = corr
subject_of (Closed term session stamp reason) = session
subject_of (Snapshot term position stamp) = position

-- the event is a client's message or a service's
abbrev pub IsMessage : Event → Type 0
IsMessage e = template_for e ≡ templates.Message

-- ---- the first fault

abbrev pub template_fault : Option Template → List ℕ → Option Bad
template_fault None bytes = Some (bad 2 causes.Template)
template_fault (Some t) bytes = strict_fault (rules_of t) (tail_of t) bytes

abbrev pub header_fault : Result Header Bad → List ℕ → Option Bad
header_fault (Err b) bytes = Some b
header_fault (Ok h) bytes = template_fault (template_of h.template) bytes

-- what is first wrong with the bytes: the header, the template, and then what its rules say
unfoldable pub first_fault : List ℕ → Option Bad
first_fault bytes = header_fault (header_of bytes) bytes

-- ---- the reading

-- what stands in the bytes, which have no fault
abbrev pub value_of : Template → List ℕ → Event
value_of templates.Term bytes = Term (i64_at 8 bytes) (i64_at 16 bytes) (i64_at 24 bytes) (i64_at 32 bytes) (i32_at 40 bytes)
value_of templates.Opened bytes = Opened (i64_at 8 bytes) (i64_at 16 bytes) (i64_at 24 bytes) (i64_at 32 bytes) (i32_at 40 bytes) (take (u32_at 44 bytes) (drop 48 bytes))
value_of templates.Message bytes =
    if int_le (pos 1) (i64_at 16 bytes) then Message (i64_at 8 bytes) (i64_at 16 bytes) (i64_at 24 bytes) (drop 32 bytes)
    else ServiceMessage (i64_at 8 bytes) (service_of (i64_at 16 bytes)) (service_number_of (i64_at 16 bytes)) (i64_at 24 bytes) (drop 32 bytes)
value_of templates.Timer bytes = Timer (i64_at 8 bytes) (i64_at 16 bytes) (i64_at 24 bytes)
value_of templates.Closed bytes = Closed (i64_at 8 bytes) (i64_at 16 bytes) (i64_at 24 bytes) (unsigned_abs (i32_at 32 bytes))
value_of templates.Snapshot bytes = Snapshot (i64_at 8 bytes) (i64_at 16 bytes) (i64_at 24 bytes)

abbrev pub event_from : Option Bad → Option Template → List ℕ → Option Event
event_from (Some b) t bytes = None
event_from None None bytes = None
event_from None (Some t) bytes = Some (value_of t bytes)

-- the event that the bytes spell, None where they spell none
unfoldable pub event_of : List ℕ → Option Event
event_of bytes = event_from (first_fault bytes) (template_of (u16_at 2 bytes)) bytes
