-- What the user of a client is to be handed of the records that the client was given.
use Rattle.std.specs.Prelude.{◌≡◌, ℕ, ℤ, pos, Bool, false, not, ◌&&◌, ◌==◌, if◌then◌else◌, List, [], ◌∷◌, ◌++◌, map, fold, take_while, Option, Some, None}
use Rattle.std.specs.Int.{int_max}
use Rattle.std.specs.List.{cons_option, filter_map}
use Rattle.std.specs.Ordering.{int_eq}
use Rattle.sbe_client.specs.declared.egress.Egress.{Egress}
use Rattle.sbe_client.specs.declared.egress.Egress.TheVariants.{SessionEvent, Message, NewLeader}
use Rattle.cluster_client.specs.declared.runs.Got.{Got}

-- a record that a client was given, and whether it is the OK by which the client opened its session
pub record Given : Type 0 where
  pub message : Egress
  pub opens : Bool

-- an OK to the connect of this number
abbrev pub IsOkTo : ℕ → Egress → Type 0
IsOkTo connect (SessionEvent session corr term leader code) = (corr ≡ pos connect) × (code ≡ 0)
IsOkTo connect (Message term session stamp payload) = ⊥
IsOkTo connect (NewLeader term session leader) = ⊥

-- the term that a new leader tells this session
abbrev pub term_told : ℤ → Egress → Option ℤ
term_told session (NewLeader term s leader) = if int_eq s session then Some term else None
term_told session (Message term s stamp payload) = None
term_told session (SessionEvent s corr term leader code) = None

-- the greatest of the term with which a session opened and of those that these records tell it
abbrev pub greatest_term : ℤ → ℤ → List Egress → ℤ
greatest_term session opened records = fold int_max opened (filter_map (term_told session) records)

-- a message to this session, in this term
abbrev pub message_to : ℤ → ℤ → Egress → Option Got
message_to session term (Message t s stamp payload) = if int_eq s session && int_eq t term then Some (record { term = t; payload = payload }) else None
message_to session term (SessionEvent s corr t leader code) = None
message_to session term (NewLeader t s leader) = None

-- the messages among records, each of the greatest term that the session knew before it: `before` are the records from its
-- opening up to here
abbrev pub messages_after : ℤ → ℤ → List Egress → List Egress → List Got
messages_after session opened before [] = []
messages_after session opened before (m ∷ records) =
    cons_option (message_to session (greatest_term session opened before) m) (messages_after session opened (before ++ m ∷ []) records)

-- a session's end
abbrev pub is_closed_by : ℤ → Egress → Bool
is_closed_by session (SessionEvent s corr term leader code) = int_eq s session && code == 4
is_closed_by session (Message term s stamp payload) = false
is_closed_by session (NewLeader term s leader) = false

abbrev pub before_closed : ℤ → List Egress → List Egress
before_closed session records = take_while (λ m. not (is_closed_by session m)) records

-- what is handed of the records behind an OK
abbrev pub handed_after : Egress → List Egress → List Got
handed_after (SessionEvent session corr term leader code) records = messages_after session term [] (before_closed session records)
handed_after (Message term session stamp payload) records = []
handed_after (NewLeader term session leader) records = []

-- what is handed of a client's records: nothing where none opened its session; else, behind the one that did and before the
-- session's end, its messages of the greatest term that it knew
abbrev pub handed : List Given → List Got
handed [] = []
handed (g ∷ records) = if g.opens then handed_after g.message (map (λ (r : Given). r.message) records) else handed records
