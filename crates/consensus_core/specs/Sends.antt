-- What a row sends, over the log as it is once the row's change is on the disk.
use Rattle.std.specs.Prelude.{⊤, ◌≤◌, ℕ, zero, suc, pos, negsuc, Bool, ◌&&◌, not, List, [], ◌∷◌, ◌++◌, length, take, drop, slice_index_or, nat_eq, nat_lt, is_none, if◌then◌else◌, Option, Some, None}
use Rattle.cl_base.specs.declared.entry.Entry.{Entry}
use Rattle.entry_log.specs.Shape.{Shape, end_of, last_term_of, ends_by, terms_to}
use Rattle.entry_log.specs.Batches.{is_batch}
use Rattle.sbe_consensus.specs.Spelling.{HasSpelling, AreEntries, spelling_of}
use Rattle.sbe_consensus.specs.declared.packet.Outgoing.{Outgoing}
use Rattle.sbe_consensus.specs.declared.packet.Packet.{Packet}
use Rattle.sbe_consensus.specs.declared.packet.Packet.TheVariants as P
use Rattle.consensus_core.specs.declared.plan.Plan.{Plan}
use Rattle.consensus_core.specs.declared.plan.Plan.TheVariants as plans
use Rattle.consensus_core.specs.declared.plan.Word.{Word}
use Rattle.consensus_core.specs.declared.plan.Word.TheVariants as words
use Rattle.consensus_core.specs.declared.sends.Send.{Send}
use Rattle.consensus_core.specs.declared.sends.Send.TheVariants.{Says, Hands}
use Rattle.consensus_core.specs.declared.values.Values.{Values}
use Rattle.consensus_core.specs.Reign.{greatest}

-- the packet of a word, of a member with these values whose log has this shape
abbrev pub packet_of : Word → Values → Shape → Packet
packet_of words.Canvass v xs = P.Canvass (last_term_of xs) (pos (end_of xs)) v.election.candidate (pos v.election.id)
packet_of words.RequestVote v xs = P.RequestVote (last_term_of xs) (pos (end_of xs)) v.election.candidate (pos v.election.id)
packet_of (words.Vote asker term granted) v xs = P.Vote term (last_term_of xs) (pos (end_of xs)) (pos asker) (pos v.election.id) (pos (if granted then 1 else 0))
packet_of words.Announcement v xs = P.NewTerm (negsuc 1) (pos 0) (negsuc 0) (pos 0) v.election.term (pos v.election.id)
-- P13: the greatest term at most that of the log asked for, and where it ends
packet_of (words.Answer asked) v xs = P.NewTerm asked.term (pos asked.place) (last_term_of (terms_to asked.term xs)) (pos (end_of (terms_to asked.term xs))) v.election.term (pos v.election.id)
packet_of words.Report v xs = P.Append v.election.term (pos (end_of xs)) (pos v.election.id)
packet_of words.Commit v xs = P.Commit v.election.term (pos (end_of (take v.rest.commit xs))) (pos v.election.id)

-- to each of the others below n, rising
abbrev pub to_others : ℕ → ℕ → Word → List Send
to_others zero m w = []
to_others (suc n) m w = to_others n m w ++ (if nat_eq n m then [] else Says n w ∷ [])

-- how many entries from the entry `from` on are the longest batch
abbrev pub batch_count : ℕ → Shape → ℕ
batch_count from xs = greatest (λ k. is_batch (end_of (take from xs)) (take k (drop from xs))) (length (drop from xs))

-- P15 (iv): to a member with a report below the place, the batch from there
abbrev pub batch_to : ℕ → ℕ → Shape → Option ℕ → List Send
batch_to k m xs None = []
batch_to k m xs (Some p) = if nat_lt p (end_of xs) && not (nat_eq k m) then Hands k p (ends_by p xs) (batch_count (ends_by p xs) xs) ∷ [] else []

-- to each member below n, rising
abbrev pub batches : ℕ → ℕ → List (Option ℕ) → Shape → List Send
batches zero m acked xs = []
batches (suc n) m acked xs = batches n m acked xs ++ batch_to n m xs (slice_index_or acked n None)

-- P15 (v): the announcement to a member without a report
abbrev pub announcement_to : ℕ → ℕ → Option ℕ → List Send
announcement_to k m acked = if is_none acked && not (nat_eq k m) then Says k words.Announcement ∷ [] else []

-- to each member below n, rising
abbrev pub announcements : ℕ → ℕ → List (Option ℕ) → List Send
announcements zero m acked = []
announcements (suc n) m acked = announcements n m acked ++ announcement_to n m (slice_index_or acked n None)

-- P15 (iv) and (v)
abbrev pub beats : Values → Shape → Bool → Bool → List Send
beats v xs commit announce =
    batches v.election.members v.election.id v.rest.acked xs
    ++ ((if commit then to_others v.election.members v.election.id words.Commit else []) ++ (if announce then announcements v.election.members v.election.id v.rest.acked else []))

-- what is sent, of a member with these values whose log now has this shape
abbrev pub sends_of : Plan → Values → Shape → List Send
sends_of plans.Silence v xs = []
sends_of (plans.All word) v xs = to_others v.election.members v.election.id word
sends_of (plans.One to word) v xs = Says to word ∷ []
sends_of (plans.Beat commit announce) v xs = beats v xs commit announce

-- the first entry and the number of entries of each LogBatch
abbrev pub ranges : List Send → List (ℕ × ℕ)
ranges [] = []
ranges (Says to w ∷ ss) = ranges ss
ranges (Hands to start from count ∷ ss) = (from, count) ∷ ranges ss

-- the packets spelled, those of LogBatches with the entries of their ranges, which stand one range after the other
abbrev pub spelled : List Send → Values → Shape → List Entry → List Outgoing
spelled [] v xs es = []
spelled (Says to w ∷ ss) v xs es = record { to = to; bytes = spelling_of (packet_of w v xs) } ∷ spelled ss v xs es
spelled (Hands to start from count ∷ ss) v xs es =
    record { to = to; bytes = spelling_of (P.LogBatch v.election.term (pos start) (pos v.election.id) (take count es)) } ∷ spelled ss v xs (drop count es)

-- a LogBatch with these entries
abbrev pub batch_of : Values → ℕ → List Entry → Packet
batch_of v start es = P.LogBatch v.election.term (pos start) (pos v.election.id) es

-- each packet has a spelling, and the entries of each LogBatch are there
abbrev pub CanSpell : List Send → Values → Shape → List Entry → Type 0
CanSpell [] v xs es = ⊤
CanSpell (Says to w ∷ ss) v xs es = HasSpelling (packet_of w v xs) × CanSpell ss v xs es
CanSpell (Hands to start from count ∷ ss) v xs es = (count ≤ length es) × HasSpelling (batch_of v start (take count es)) × CanSpell ss v xs (drop count es)

-- the entries of the LogBatches' ranges, one range after the other, each an event of its entry's term
abbrev pub AreWanted : List Send → List Entry → Type 0
AreWanted [] es = ⊤
AreWanted (Says to w ∷ ss) es = AreWanted ss es
AreWanted (Hands to start from count ∷ ss) es = (count ≤ length es) × AreEntries (take count es) × AreWanted ss (drop count es)
