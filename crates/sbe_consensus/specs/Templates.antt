-- Which packets there are, and which numbers their blocks have.
use Rattle.std.specs.Prelude.{ℕ, ◌^◌, ℤ, pos, negsuc, Bool, ◌&&◌, nat_le, ◌==◌, if◌then◌else◌, List, [], ◌∷◌, length, Option, Some, None}
use Rattle.std.specs.Ordering.{int_eq}
use Rattle.wire_prims.specs.Fields.{u16_at, i64_at}
use Rattle.wire_prims.specs.declared.strict.Rule.{Rule}
use Rattle.wire_prims.specs.declared.strict.Rule.TheVariants.{Wide, Narrow}
use Rattle.sbe_consensus.specs.declared.template.Template.{Template}
use Rattle.sbe_consensus.specs.declared.template.Template.TheVariants.{Canvass, RequestVote, Vote, Answer, Announcement, Append, Commit, LogBatch}

abbrev pub number_of : Template → ℕ
number_of Canvass = 50
number_of RequestVote = 51
number_of Vote = 52
number_of Answer = 53
number_of Announcement = 53
number_of Append = 54
number_of Commit = 55
number_of LogBatch = 120

-- a new term is an announcement where its asked term is -2
abbrev pub is_announcement : List ℕ → Bool
is_announcement bytes = nat_le 16 (length bytes) && int_eq (i64_at 8 bytes) (negsuc 1)

abbrev pub template_by : ℕ → Bool → Option Template
template_by n announces =
    if n == 50 then Some Canvass else
    (if n == 51 then Some RequestVote else
    (if n == 52 then Some Vote else
    (if n == 53 then Some (if announces then Announcement else Answer) else
    (if n == 54 then Some Append else
    (if n == 55 then Some Commit else
    (if n == 120 then Some LogBatch else None))))))

-- the template of bytes
abbrev pub template_of : List ℕ → Option Template
template_of bytes = template_by (u16_at 2 bytes) (is_announcement bytes)

-- a term, or a position in bytes
abbrev pub number : Rule
number = Wide (pos 0) (pos (2 ^ 62))

-- the term of a log's last entry, -1 where it has none
abbrev pub last : Rule
last = Wide (negsuc 0) (pos (2 ^ 62))

abbrev pub only : ℤ → Rule
only z = Wide z z

abbrev pub member : Rule
member = Narrow (pos 0) (pos 4)

-- the numbers of the block, in rising place
abbrev pub rules_of : Template → List Rule
-- log term, log position, candidate term, member
rules_of Canvass = last ∷ number ∷ last ∷ member ∷ []
-- log term, log position, candidate term, candidate
rules_of RequestVote = last ∷ number ∷ number ∷ member ∷ []
-- candidate term, log term, log position, candidate, follower, vote
rules_of Vote = number ∷ last ∷ number ∷ member ∷ member ∷ Narrow (pos 0) (pos 1) ∷ []
-- asked term, asked position, keep term, keep position, term, leader
rules_of Answer = last ∷ number ∷ last ∷ number ∷ number ∷ member ∷ []
-- asked term, asked position, keep term, keep position, term, leader
rules_of Announcement = only (negsuc 1) ∷ only (pos 0) ∷ only (negsuc 0) ∷ only (pos 0) ∷ number ∷ member ∷ []
-- term, position, member
rules_of Append = number ∷ number ∷ member ∷ []
-- term, position, leader
rules_of Commit = number ∷ number ∷ member ∷ []
-- term, start position, leader, count
rules_of LogBatch = number ∷ number ∷ member ∷ Narrow (pos 1) (pos 64) ∷ []
