-- What the code notes of a member that changed is what the world notes.
use Rattle.std.proofs.Common.{◌≡◌, ℕ, ◌<◌, Bool, true, false, List, [], ◌∷◌, ◌++◌, length, set, Some, None, refl, ap, ◌∙◌, if◌then◌else◌, get_or-set_same}
use Rattle.entry_log.specs.Durable.{fresh}
use Rattle.entry_log.specs.Log.{Log}
use Rattle.consensus_core.specs.Member.{Member, Sent, Cut, Whole, Before, After, stopped, after, sent_by}
use Rattle.consensus_core.specs.declared.row.Row.{Row}
use Rattle.world.specs.World.{World, Raise, Reign, Written, Holding, member, put, acts, reigns_at, holds_at, first_logs, written_by, held_by, raises_by, reigns_by}
use Rattle.world_steps.specs.Members.{reign_term, held_term, reigns_from}
use Rattle.world_steps.specs.Steps.{written_in, held_in, noting}

written-same : (old : Member) (log : Log) → written_in (reign_term old) log ≡ written_by old log
written-same old log = at (reigns_at old.values.election.state)
  where
    one : List Written
    one = record { term = old.values.election.term; log = log } ∷ []

    at : (b : Bool) → written_in (if b then Some old.values.election.term else None) log ≡ (if b then one else [])
    at true = refl
    at false = refl

held-same : (m : ℕ) (x : Member) → held_in m (held_term x) x.durable.log ≡ held_by m x
held-same m x = at (holds_at x.values.election.state)
  where
    one : List Holding
    one = record { member = m; term = x.values.election.term; log = x.durable.log } ∷ []

    at : (b : Bool) → held_in m (if b then Some x.values.election.term else None) x.durable.log ≡ (if b then one else [])
    at true = refl
    at false = refl

-- with this member in its place
abbrev pub with_member : World → ℕ → Member → World
with_member w m x = record { now = w.now; members = set w.members m x; sent = w.sent; raises = w.raises; reigns = w.reigns; written = w.written; holdings = w.holdings }

pub noting-put : (w : World) (m : ℕ) (x : Member) (rs : List Raise) (ps : List Sent) (gs : List Reign) → m < length w.members → noting (with_member w m x) m (reign_term (member w m)) rs ps gs ≡ put w m x rs ps gs
noting-put w m x rs ps gs l =
    let here : member (with_member w m x) m ≡ x = get_or-set_same w.members m x (stopped fresh) l in
    let of : List Written → List Holding → World = λ ws hs.
    record {
      now = w.now;
      members = set w.members m x;
      sent = w.sent ++ ps;
      raises = w.raises ++ rs;
      reigns = w.reigns ++ gs;
      written = first_logs gs ++ (ws ++ w.written);
      holdings = w.holdings ++ hs;
    } in
    ap (λ (y : Member). of (written_in (reign_term (member w m)) y.durable.log) (held_in m (held_term y) y.durable.log)) here
    ∙ ap (λ (ws : List Written). of ws (held_in m (held_term x) x.durable.log)) (written-same (member w m) x.durable.log)
    ∙ ap (λ (hs : List Holding). of (written_by (member w m) x.durable.log) hs) (held-same m x)

after-same : (row : Row) (cut : Cut) (x : Member) → after row cut (stopped x.durable) ≡ after row cut x
after-same row Whole x = refl
after-same row Before x = refl
after-same row After x = refl

sent-same : (row : Row) (cut : Cut) (x : Member) → sent_by row cut (stopped x.durable) ≡ sent_by row cut x
sent-same row Whole x = refl
sent-same row Before x = refl
sent-same row After x = refl

reigns-same : (m : ℕ) (row : Row) (cut : Cut) (x : Member) → reigns_from m x.values.election.state row x.durable.log cut ≡ reigns_by m x row cut
reigns-same m row Whole x = refl
reigns-same m row Before x = refl
reigns-same m row After x = refl

pub noting-acts : (w : World) (m : ℕ) (row : Row) (cut : Cut) → m < length w.members
    → noting (with_member w m (after row cut (stopped (member w m).durable))) m (reign_term (member w m)) (raises_by m (member w m).durable.log row.change cut) (sent_by row cut (stopped (member w m).durable)) (reigns_from m (member w m).values.election.state row (member w m).durable.log cut)
    ≡ acts w m row cut
unfolding acts
noting-acts w m row cut l =
    let x = member w m in
    let rs = raises_by m x.durable.log row.change cut in
    noting-put w m (after row cut (stopped x.durable)) rs (sent_by row cut (stopped x.durable)) (reigns_from m x.values.election.state row x.durable.log cut) l
    ∙ ap (λ (y : Member). put w m y rs (sent_by row cut (stopped x.durable)) (reigns_from m x.values.election.state row x.durable.log cut)) (after-same row cut x)
    ∙ ap (λ (ps : List Sent). put w m (after row cut x) rs ps (reigns_from m x.values.election.state row x.durable.log cut)) (sent-same row cut x)
    ∙ ap (λ (gs : List Reign). put w m (after row cut x) rs (sent_by row cut x) gs) (reigns-same m row cut x)
