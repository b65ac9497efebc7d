-- How messages are read leniently: what bytes read as which message, and what is wrong with those that read as none.
use Rattle.std.specs.Prelude.{◌≡◌, ℕ, zero, suc, ℤ, pos, negsuc, ◌+◌, ◌≤◌, Bool, true, false, not, ◌&&◌, ◌||◌, nat_lt, nat_le, ◌==◌, if◌then◌else◌, List, [], ◌∷◌, ◌++◌, length, take, drop, Option, Some, None}
use Rattle.wire_prims.specs.Fields.{u16_at, u32_at, i32_at, i64_at}
use Rattle.wire_prims.specs.Header.{bad}
use Rattle.wire_prims.specs.declared.fault.Bad.{Bad}
use Rattle.wire_prims.specs.declared.fault.BadCause.TheVariants.{Short, Schema, Template, Block, Value}
use Rattle.sbe_client.specs.declared.check.Direction.{Direction}
use Rattle.sbe_client.specs.declared.check.Direction.TheVariants.{ToCluster, ToClient}
use Rattle.sbe_client.specs.declared.ingress.Ingress.{Ingress}
use Rattle.sbe_client.specs.declared.ingress.Ingress.TheVariants as ingress
use Rattle.sbe_client.specs.declared.egress.Egress.{Egress}
use Rattle.sbe_client.specs.declared.egress.Egress.TheVariants as egress

-- ---- the parts of a message

-- the place behind the block, whose length the header names
abbrev pub block_end : List ℕ → ℕ
block_end bytes = 8 + u16_at 0 bytes

-- the variable field at a place: four bytes of length, and that many bytes
abbrev pub variable_at : ℕ → List ℕ → List ℕ
variable_at at bytes = take (u32_at at bytes) (drop (at + 4) bytes)

-- the place behind it
abbrev pub variable_end : ℕ → List ℕ → ℕ
variable_end at bytes = at + 4 + u32_at at bytes

-- it is there, all of it
pub record HasVariable (at : ℕ) (bytes : List ℕ) : Type 0 where
  pub length_there : at + 4 ≤ length bytes
  pub all_there : variable_end at bytes ≤ length bytes

-- a message of this template and with a block of at least so many bytes: header and block are there
pub record Opens (template least : ℕ) (bytes : List ℕ) : Type 0 where
  pub header_there : 8 ≤ length bytes
  pub schema : u16_at 4 bytes ≡ 111
  pub template_is : u16_at 2 bytes ≡ template
  pub long_enough : least ≤ u16_at 0 bytes
  pub block_there : block_end bytes ≤ length bytes

-- ---- what bytes read as: the version, a surplus of the block and what follows the last field are not looked at

abbrev pub ReadsIngress : List ℕ → Ingress → Type 0
ReadsIngress bytes (ingress.Message term session payload) = Opens 1 24 bytes × (term ≡ i64_at 8 bytes) × (session ≡ i64_at 16 bytes) × (payload ≡ drop (block_end bytes) bytes)
ReadsIngress bytes (ingress.Connect corr stream channel) = Opens 3 16 bytes × (corr ≡ i64_at 8 bytes) × (stream ≡ i32_at 16 bytes) × HasVariable (block_end bytes) bytes × (channel ≡ variable_at (block_end bytes) bytes) × HasVariable (variable_end (block_end bytes) bytes) bytes
ReadsIngress bytes (ingress.Close term session) = Opens 4 16 bytes × (term ≡ i64_at 8 bytes) × (session ≡ i64_at 16 bytes)
ReadsIngress bytes (ingress.KeepAlive term session) = Opens 5 16 bytes × (term ≡ i64_at 8 bytes) × (session ≡ i64_at 16 bytes)

abbrev pub ReadsEgress : List ℕ → Egress → Type 0
ReadsEgress bytes (egress.Message term session stamp payload) = Opens 1 24 bytes × (term ≡ i64_at 8 bytes) × (session ≡ i64_at 16 bytes) × (stamp ≡ i64_at 24 bytes) × (payload ≡ drop (block_end bytes) bytes)
ReadsEgress bytes (egress.SessionEvent session corr term leader code) = Opens 2 32 bytes × (session ≡ i64_at 8 bytes) × (corr ≡ i64_at 16 bytes) × (term ≡ i64_at 24 bytes) × (leader ≡ i32_at 32 bytes) × (pos code ≡ i32_at 36 bytes) × (code ≤ 4) × HasVariable (block_end bytes) bytes
ReadsEgress bytes (egress.NewLeader term session leader) = Opens 6 20 bytes × (term ≡ i64_at 8 bytes) × (session ≡ i64_at 16 bytes) × (leader ≡ i32_at 24 bytes) × HasVariable (block_end bytes) bytes

-- ---- the first fault

-- which templates go which way
abbrev pub allows : Direction → ℕ → Bool
allows ToCluster t = t == 1 || t == 3 || t == 4 || t == 5
allows ToClient t = t == 1 || t == 2 || t == 6

-- the least length of a template's block
abbrev pub least_block : ℕ → ℕ
least_block t = if t == 1 then 24 else (if t == 2 then 32 else (if t == 6 then 20 else 16))

-- how many variable fields follow the block
abbrev pub variables_of : ℕ → ℕ
variables_of t = if t == 3 then 2 else (if t == 2 || t == 6 then 1 else 0)

-- so many variable fields follow, all of each
abbrev pub has_variables : ℕ → ℕ → List ℕ → Bool
has_variables zero at bytes = true
has_variables (suc n) at bytes = nat_le (at + 4) (length bytes) && nat_le (variable_end at bytes) (length bytes) && has_variables n (variable_end at bytes) bytes

-- a session event's code
abbrev pub is_code : ℤ → Bool
is_code (pos n) = nat_le n 4
is_code (negsuc n) = false

-- the fault of the first check that fails
abbrev pub first_of : List (Bool × Bad) → Option Bad
first_of [] = None
first_of (check ∷ others) = if check.0 then Some check.1 else first_of others

-- what is looked at in every message, in this order: where the test holds, that is the fault
abbrev pub checks : Direction → List ℕ → List (Bool × Bad)
checks way bytes =
    (nat_lt (length bytes) 8, bad (length bytes) Short)
    ∷ (not (u16_at 4 bytes == 111), bad 4 Schema)
    ∷ (not (allows way (u16_at 2 bytes)), bad 2 Template)
    ∷ (nat_lt (u16_at 0 bytes) (least_block (u16_at 2 bytes)), bad 0 Block)
    ∷ (nat_lt (length bytes) (block_end bytes), bad (length bytes) Short)
    ∷ (not (has_variables (variables_of (u16_at 2 bytes)) (block_end bytes) bytes), bad (length bytes) Short)
    ∷ []

unfoldable pub first_fault_ingress : List ℕ → Option Bad
first_fault_ingress bytes = first_of (checks ToCluster bytes)

-- last, a session event's code
unfoldable pub first_fault_egress : List ℕ → Option Bad
first_fault_egress bytes = first_of (checks ToClient bytes ++ (u16_at 2 bytes == 2 && not (is_code (i32_at 36 bytes)), bad 36 Value) ∷ [])

-- ---- what the readers of values may rely on

-- a message of this way is there, all of it
pub record IsWhole (way : Direction) (bytes : List ℕ) : Type 0 where
  pub opens : Opens (u16_at 2 bytes) (least_block (u16_at 2 bytes)) bytes
  pub allowed : allows way (u16_at 2 bytes) ≡ true
  pub variables : has_variables (variables_of (u16_at 2 bytes)) (block_end bytes) bytes ≡ true
