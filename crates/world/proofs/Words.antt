-- Rows with the same values, change and packets give the same worlds; what is said over a log's shape is what is said over the log.
use Rattle.std.proofs.Common.{◌≡◌, ℕ, zero, suc, ◌+◌, Bool, true, false, not, ◌&&◌, List, [], ◌∷◌, ◌++◌, length, map, take, drop, Option, Some, None, refl, sym, ap, ◌∙◌, arith, ℤ, pos, if◌then◌else◌}
use Rattle.std.specs.Prelude.{slice_index_or, nat_le, nat_lt, nat_eq, is_none}
use Rattle.std.proofs.lemmas.List.{append-nil, map-append}
use Rattle.entry_log.specs.Log.{Log, name_of, place, end_after}
use Rattle.entry_log.specs.Shape.{shape_of, end_of, ends_by, end_from-shape_of}
use Rattle.entry_log.specs.declared.name.LogName.{LogName}
use Rattle.log_replication.specs.Replication.{past, answer_term, answer_end}
use Rattle.election.specs.declared.member.Election.{Election}
use Rattle.election.specs.Rows.{row}
use Rattle.sbe_consensus.specs.declared.packet.Packet.TheVariants as P
use Rattle.consensus_core.specs.declared.change.Change.{Change}
use Rattle.consensus_core.specs.declared.change.Change.TheVariants as changes
use Rattle.consensus_core.specs.declared.plan.Plan.{Plan}
use Rattle.consensus_core.specs.declared.plan.Plan.TheVariants as plans
use Rattle.consensus_core.specs.declared.plan.Word.{Word}
use Rattle.consensus_core.specs.declared.plan.Word.TheVariants as words
use Rattle.consensus_core.specs.declared.rest.Rest.{Rest}
use Rattle.consensus_core.specs.declared.row.Row.{Row}
use Rattle.consensus_core.specs.declared.sends.Send.{Send}
use Rattle.consensus_core.specs.declared.sends.Send.TheVariants.{Says, Hands}
use Rattle.consensus_core.specs.declared.values.Values.{Values}
use Rattle.consensus_core.specs.Rows as rows
use Rattle.consensus_core.specs.Sends as sends
use Rattle.consensus_core.specs.OverLog.{entries_to, entries_to_from}
use Rattle.consensus_core.specs.Member.{Sent, Cut, Whole, Before, After, stopped, said, speaks, changed_log}
use Rattle.consensus_core.specs.Member as member
use Rattle.consensus_core.proofs.OverLog.{same_name_law, same_answer_law, same_count_law, take-shape}
use Rattle.world.specs.World as world
use Rattle.world.specs.World.{World, put, reigns_of}
use Rattle.world.specs.Said.{Said, CanvassOf, RequestOf, VoteOf, AnnounceOf, AnswerOf, ReportOf, CommitOf, BatchOf}
use Rattle.world.proofs.LogRows as logs
use Rattle.world.proofs.LogRows.{Outcome, Nothing, sent_of, packet_in, others, to_others, one_to, only, batch_to, batches, announcements, changed, raises_of, acts}

-- both give the same worlds, whatever stop cuts the row
abbrev pub Is : World → ℕ → Row → Outcome → Type 0
Is w m row o = (cut : Cut) → world.acts w m row cut ≡ acts w m (world.member w m) o cut

-- rows with these values whose changes and packets come to the same
pub is_same : (w : World) (m : ℕ) (e : Election) (r : Rest) (c : Change) (p : Plan) (d : logs.Change) (ps : List Sent)
    → member.changed c (world.member w m).durable ≡ changed (world.member w m).durable d
    → world.raises_of m (world.member w m).durable.log c ≡ raises_of m (world.member w m).durable.log d
    → speaks p (record { election = e; rest = r }) (changed_log c (world.member w m).durable.log) ≡ ps
    → Is w m (record { values = record { election = e; rest = r }; change = c; plan = p }) (record { election = e; rest = r; change = d; packets = ps })
unfolding world.acts acts
is_same w m e r c p d ps dc rc pc Whole = λ j. put w m (record { up = true; values = record { election = e; rest = r }; durable = dc j }) (rc j) (pc j) (reigns_of m (world.member w m).values.election e (world.member w m).durable.log)
is_same w m e r c p d ps dc rc pc Before = refl
is_same w m e r c p d ps dc rc pc After = λ j. put w m (stopped (dc j)) (rc j) [] []

-- with no change of the disk
pub still : (w : World) (m : ℕ) (e : Election) (r : Rest) (p : Plan) (ps : List Sent) → speaks p (record { election = e; rest = r }) (world.member w m).durable.log ≡ ps
    → Is w m (rows.outcome e r changes.Nothing p) (record { election = e; rest = r; change = Nothing; packets = ps })
still w m e r p ps pc = is_same w m e r changes.Nothing p Nothing ps refl refl pc

pub silent : (w : World) (m : ℕ) (e : Election) (r : Rest) → Is w m (rows.only e r) (only e r)
silent w m e r = still w m e r plans.Silence [] refl

pub if_both : (w : World) (m : ℕ) (b : Bool) (r r' : Row) (o o' : Outcome) → (b ≡ true → Is w m r o) → (b ≡ false → Is w m r' o') → Is w m (if b then r else r') (if b then o else o')
if_both w m true r r' o o' f g = f refl
if_both w m false r r' o o' f g = g refl

-- ---- what is said

said_append : (xs ys : List Send) (v : Values) (log : Log) → said (xs ++ ys) v log ≡ said xs v log ++ said ys v log
said_append [] ys v log = refl
said_append (Says to w ∷ xs) ys v log = ap (λ (l : List Sent). record { to = to; packet = sends.packet_of w v (shape_of log) } ∷ l) (said_append xs ys v log)
said_append (Hands to start from count ∷ xs) ys v log = ap (λ (l : List Sent). record { to = to; packet = sends.batch_of v start (take count (drop from log)) } ∷ l) (said_append xs ys v log)

-- a word's packet is that of what is said
abbrev pub Speaks : Word → Values → Log → ℕ → Said → Type 0
Speaks word v log to s = sends.packet_of word v (shape_of log) ≡ packet_in v.election.id to s

pub canvass_says : (v : Values) (log : Log) (to : ℕ) → Speaks words.Canvass v log to (CanvassOf (name_of log) v.election.candidate)
canvass_says v log to = let n = same_name_law log in λ j. P.Canvass (n j).term (pos (n j).place) v.election.candidate (pos v.election.id)

pub request_says : (v : Values) (log : Log) (to : ℕ) → Speaks words.RequestVote v log to (RequestOf v.election.candidate (name_of log))
request_says v log to = let n = same_name_law log in λ j. P.RequestVote (n j).term (pos (n j).place) v.election.candidate (pos v.election.id)

pub vote_says : (v : Values) (log : Log) (to : ℕ) (t : ℤ) (granted : Bool) → Speaks (words.Vote to t granted) v log to (VoteOf t granted (name_of log))
vote_says v log to t granted = let n = same_name_law log in λ j. P.Vote t (n j).term (pos (n j).place) (pos to) (pos v.election.id) (pos (if granted then 1 else 0))

pub answer_says : (v : Values) (log : Log) (to : ℕ) (asked : LogName) → Speaks (words.Answer asked) v log to (AnswerOf v.election.term asked (record { term = answer_term log asked.term; place = answer_end log asked.term }))
answer_says v log to asked = let a = same_answer_law log asked.term in λ j. P.NewTerm asked.term (pos asked.place) (a.0 j) (pos (a.1 j)) v.election.term (pos v.election.id)

pub report_says : (v : Values) (log : Log) (to : ℕ) → Speaks words.Report v log to (ReportOf v.election.term (place log))
report_says v log to = λ j. P.Append v.election.term (pos (end_from-shape_of 0 log j)) (pos v.election.id)

commit_says : (v : Values) (log : Log) (to : ℕ) → Speaks words.Commit v log to (CommitOf v.election.term (place (take v.rest.commit log)))
commit_says v log to =
    let e : end_of (take v.rest.commit (shape_of log)) ≡ place (take v.rest.commit log) = ap end_of (take-shape v.rest.commit log) ∙ end_from-shape_of 0 (take v.rest.commit log) in
    λ j. P.Commit v.election.term (pos (e j)) (pos v.election.id)

-- one packet
pub one_says : (word : Word) (v : Values) (log : Log) (to : ℕ) (s : Said) → Speaks word v log to s → speaks (plans.One to word) v log ≡ one_to v.election to s
one_says word v log to s e = λ j. record { to = to; packet = e j } ∷ []

-- the same to all others
pub all_says : (n : ℕ) (word : Word) (v : Values) (log : Log) (s : Said) → ((to : ℕ) → Speaks word v log to s) → said (sends.to_others n v.election.id word) v log ≡ to_others n v.election.id s
all_says zero word v log s h = refl
all_says (suc n) word v log s h = said_append (sends.to_others n v.election.id word) (if nat_eq n v.election.id then [] else Says n word ∷ []) v log ∙ at (nat_eq n v.election.id) (all_says n word v log s h)
  where
    at : (b : Bool) → said (sends.to_others n v.election.id word) v log ≡ to_others n v.election.id s
        → said (sends.to_others n v.election.id word) v log ++ said (if b then [] else Says n word ∷ []) v log ≡ map (λ k. sent_of v.election.id k s) (if b then others n v.election.id else others n v.election.id ++ n ∷ [])
    at true e = append-nil (said (sends.to_others n v.election.id word) v log) ∙ e
    at false e = (λ j. e j ++ record { to = n; packet = h n j } ∷ []) ∙ sym (map-append (λ k. sent_of v.election.id k s) (others n v.election.id) (n ∷ []))

-- the entries behind those that end at most at a place
drop_past : (q p : ℕ) (log : Log) → drop (entries_to_from q p log) log ≡ past q p log
drop_past q p [] = refl
drop_past q p (x ∷ xs) = at (nat_le (end_after q (length x.bytes)) p) (drop_past (end_after q (length x.bytes)) p xs)
  where
    at : (b : Bool) → drop (entries_to_from (end_after q (length x.bytes)) p xs) xs ≡ past (end_after q (length x.bytes)) p xs
        → drop (if b then 1 + entries_to_from (end_after q (length x.bytes)) p xs else 0) (x ∷ xs) ≡ (if b then past (end_after q (length x.bytes)) p xs else x ∷ xs)
    at true e =
        let n = entries_to_from (end_after q (length x.bytes)) p xs in
        let one : 1 + n ≡ suc n = omega arith in
        ap (λ k. drop k (x ∷ xs)) one ∙ e
    at false e = refl

batch_says : (k : ℕ) (v : Values) (log : Log) (acked : Option ℕ) → said (sends.batch_to k v.election.id (shape_of log) acked) v log ≡ batch_to v.election log k acked
batch_says k v log None = refl
batch_says k v log (Some p) =
    (λ j. said (if nat_lt p (end_from-shape_of 0 log j) && not (nat_eq k v.election.id) then Hands k p (ends_by p (shape_of log)) (sends.batch_count (ends_by p (shape_of log)) (shape_of log)) ∷ [] else []) v log)
    ∙ at (nat_lt p (place log) && not (nat_eq k v.election.id))
  where
    at : (b : Bool) → said (if b then Hands k p (ends_by p (shape_of log)) (sends.batch_count (ends_by p (shape_of log)) (shape_of log)) ∷ [] else []) v log
        ≡ (if b then one_to v.election k (BatchOf v.election.term p (take (sends.batch_count (entries_to p log) (shape_of log)) (past 0 p log))) else [])
    at true =
        let c : ends_by p (shape_of log) ≡ entries_to p log = (same_count_law log p).0 in
        let head : Log → List Sent = λ (l : Log). record { to = k; packet = P.LogBatch v.election.term (pos p) (pos v.election.id) l } ∷ [] in
        ap (λ n. head (take (sends.batch_count n (shape_of log)) (drop n log))) c
        ∙ ap (λ (l : Log). head (take (sends.batch_count (entries_to p log) (shape_of log)) l)) (drop_past 0 p log)
    at false = refl

batches_say : (n : ℕ) (v : Values) (log : Log) → said (sends.batches n v.election.id v.rest.acked (shape_of log)) v log ≡ batches n v.election v.rest.acked log
batches_say zero v log = refl
batches_say (suc n) v log =
    said_append (sends.batches n v.election.id v.rest.acked (shape_of log)) (sends.batch_to n v.election.id (shape_of log) (slice_index_or v.rest.acked n None)) v log
    ∙ (λ j. batches_say n v log j ++ batch_says n v log (slice_index_or v.rest.acked n None) j)

announcements_say : (n : ℕ) (v : Values) (log : Log) → said (sends.announcements n v.election.id v.rest.acked) v log ≡ announcements n v.election v.rest.acked
announcements_say zero v log = refl
announcements_say (suc n) v log =
    said_append (sends.announcements n v.election.id v.rest.acked) (sends.announcement_to n v.election.id (slice_index_or v.rest.acked n None)) v log
    ∙ (λ j. announcements_say n v log j ++ at (is_none (slice_index_or v.rest.acked n None) && not (nat_eq n v.election.id)) j)
  where
    at : (b : Bool) → said (if b then Says n words.Announcement ∷ [] else []) v log ≡ (if b then one_to v.election n (AnnounceOf v.election.term) else [])
    at true = refl
    at false = refl

choose_says : (b : Bool) (ss : List Send) (v : Values) (log : Log) (ps : List Sent) → said ss v log ≡ ps → said (if b then ss else []) v log ≡ (if b then ps else [])
choose_says true ss v log ps e = e
choose_says false ss v log ps e = refl

-- all that a leader says in a turn
pub beat_says : (v : Values) (log : Log) (commit announce : Bool) → speaks (plans.Beat commit announce) v log
    ≡ batches v.election.members v.election v.rest.acked log ++ ((if commit then to_others v.election.members v.election.id (CommitOf v.election.term (place (take v.rest.commit log))) else []) ++ (if announce then announcements v.election.members v.election v.rest.acked else []))
beat_says v log commit announce =
    let n = v.election.members in
    let bs = sends.batches n v.election.id v.rest.acked (shape_of log) in
    let cs : List Send = if commit then sends.to_others n v.election.id words.Commit else [] in
    let as' : List Send = if announce then sends.announcements n v.election.id v.rest.acked else [] in
    said_append bs (cs ++ as') v log
    ∙ ap (λ (l : List Sent). said bs v log ++ l) (said_append cs as' v log)
    ∙ (λ j. batches_say n v log j
    ++ (choose_says commit (sends.to_others n v.election.id words.Commit) v log (to_others n v.election.id (CommitOf v.election.term (place (take v.rest.commit log)))) (all_says n words.Commit v log (CommitOf v.election.term (place (take v.rest.commit log))) (commit_says v log)) j
    ++ choose_says announce (sends.announcements n v.election.id v.rest.acked) v log (announcements n v.election v.rest.acked) (announcements_say n v log) j))
