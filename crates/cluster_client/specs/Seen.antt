-- A client as its user sees it.
use Rattle.std.specs.Prelude.{ℕ, ℤ, pos, negsuc, ◌+◌, ◌%◌, ◌^◌, ◌<◌, ◌≤◌, Bool, true, false, nat_lt, if◌then◌else◌, Option, Some, None, ⊤}
use Rattle.cluster_client.specs.declared.state.State.{State}
use Rattle.cluster_client.specs.declared.state.State.TheVariants.{Unconnected, Connecting, Open, Closed}

-- the stream on which it listens, the number of members, the number of its last connect, the member that it asks next or
-- asked last, when it last sent something (ms), and how far it is
pub record ClientSeen : Type 0 where
  pub stream : ℤ
  pub members : ℕ
  pub corr : ℕ
  pub next : ℕ
  pub sent : ℕ
  pub state : State

-- a client of a stream that did nothing yet
abbrev pub new_client : ℤ → ℕ → ClientSeen
new_client stream members = record { stream = stream; members = members; corr = 0; next = 0; sent = 0; state = Unconnected }

-- the leader of an open session is one of so many members
abbrev pub IsLedByMember : ℕ → State → Type 0
IsLedByMember members (Open session term leader) = leader < members
IsLedByMember members Unconnected = ⊤
IsLedByMember members Connecting = ⊤
IsLedByMember members Closed = ⊤

-- what is true of every client
pub record IsSound (c : ClientSeen) : Type 0 where
  pub some_member : 1 ≤ c.members
  pub few_members : c.members ≤ 5
  pub counted : c.corr ≤ 2 ^ 62
  pub next_is_member : c.next < c.members
  pub led_by_member : IsLedByMember c.members c.state

-- the member behind the one that was asked, round the cluster
abbrev pub member_after : ClientSeen → ℕ
member_after c = (c.next + 1) % c.members

-- the member of this number, where it is one of so many
abbrev pub member_named : ℕ → ℤ → Option ℕ
member_named members (pos n) = if nat_lt n members then Some n else None
member_named members (negsuc n) = None

abbrev pub is_open_state : State → Bool
is_open_state (Open session term leader) = true
is_open_state Unconnected = false
is_open_state Connecting = false
is_open_state Closed = false

abbrev pub is_open : ClientSeen → Bool
is_open c = is_open_state c.state
