-- What a phase has of a log, from its beginning to its end.
use Rattle.std.proofs.Common.{◌≡◌, ℕ, ◌≤◌, List, [], ◌∷◌, ◌++◌, map, length, drop, sym, ap, ◌∙◌, subst, arith, length-append}
use Rattle.cl_base.specs.declared.entry.Entry.{Entry}
use Rattle.commit_counter.specs.Ends.{Fed, taken_to}
use Rattle.service_container.specs.Held.{Held, consumed_to}
use Rattle.service_container.specs.declared.container.Served.{Served}
use Rattle.service_phases.specs.Pairs.{Each, Each2}
use Rattle.service_phases.specs.Feeds.{FeedsFrom, FeedHolds, FeedEnds, Finishes}
use Rattle.service_phases.specs.Phases.{Began, BeginsAt, Closed, HasAll, IsAt, IsWithin, Lending, RanFor, containers, forgetting, keeping}
use Rattle.service_phases.specs.Stages.{Begins, IsIdle, Stage}
use Rattle.service_phases.proofs.FedLog.{begins, ends, holds}
use Rattle.consensus_core.specs.Fit.{Held as CoreHeld}
use Rattle.member_module.specs.Held.{Held as ModuleHeld}
use Rattle.run_phases.specs.Logs.{FeedsLog, FromToEnd}
use Rattle.run_phases.proofs.Lists.{each_after, each_map, each_weaker, each2_right, each2_then, each2_weaker, each2_with, same_length, written}
use Rattle.run_phases.proofs.Stages.{left}

-- a place that is committed and in the log
pub record Reaches (log : List Entry) (commit : ℕ) (c : Held) : Type 0 where
  pub due : consumed_to c ≤ commit
  pub reach : consumed_to c ≤ length log

begin_one : (log : List Entry) (commit : ℕ) (c : Held) (f : Fed) → Reaches log commit c × BeginsAt c f → FeedsFrom log commit f f
begin_one log commit c f h = begins log commit c f h.1 h.0.due h.0.reach

each_both : {A : Type 0} (R : A → A → Type 0) (xs : List A) → Each (λ x. R x x) xs → Each2 R xs xs
each_both R [] h = tt
each_both R (x ∷ xs) h = (h.0, each_both R xs h.1)

-- feeds that begin at such places
pub all_begin : (log : List Entry) (commit : ℕ) (cs : List Held) (fs : List Fed) → Each (Reaches log commit) cs → Each2 BeginsAt cs fs → Each2 (FeedsFrom log commit) fs fs
all_begin log commit cs fs h b =
    each_both (FeedsFrom log commit) fs
    (each_after (λ c f. Reaches log commit c × BeginsAt c f) (λ f. FeedsFrom log commit f f) (begin_one log commit) cs fs (each2_with (Reaches log commit) BeginsAt cs fs h b))

-- ---- a phase begins

idle_reaches : (log : List Entry) (first commit : ℕ) → first ≤ commit → first ≤ length log → (c : Held) → IsAt first c → Reaches log commit (forgetting c)
idle_reaches log first commit low reach c h = record { due = (let p = h.place in omega arith); reach = (let p = h.place in omega arith) }

pub forgot_within : (log : List Entry) (commit : ℕ) (cs : List Held) → Each (IsWithin log commit) cs → Each (IsWithin log commit) (map forgetting cs)
forgot_within log commit cs h = each_map forgetting (IsWithin log commit) cs (each_weaker (IsWithin log commit) (λ c. IsWithin log commit (forgetting c)) (λ c w. record { inputs = w.inputs; due = w.due }) cs h)

-- what a phase has of a log, by what it lent and how its feeds began
logged : (log : List Entry) (commit : ℕ) (cs : List Held) (bs feeds : List Fed) (t : Stage) → t.commit ≡ commit → t.lending ≡ record { kept = []; lent = cs; begun = bs } → Each (IsWithin log commit) cs → Each2 (FeedsFrom log commit) bs feeds → FeedsLog log t feeds
logged log commit cs bs feeds t at lending within fed =
    let L : ℕ × Lending → Type 0 = λ z. Each (IsWithin log z.0) z.1.lent in
    let F : ℕ × Lending → Type 0 = λ z. Each2 (FeedsFrom log z.0) z.1.begun feeds in
    record { lent = subst L (λ i. (sym at i, sym lending i)) within; fed = subst F (λ i. (sym at i, sym lending i)) fed }

pub begun_log : (log : List Entry) (s t : Stage) (feeds : List Fed) (jobs : List Served) → IsIdle s → Begins s t feeds jobs → s.first ≤ length log → Each (IsWithin log s.commit) s.lending.kept → FeedsLog log t feeds
begun_log log s t feeds jobs idle h reach within =
    let cs : List Held = map forgetting s.lending.kept in
    logged log s.commit cs feeds feeds t h.commit h.began.lending
    (forgot_within log s.commit s.lending.kept within)
    (all_begin log s.commit cs feeds
    (each_map forgetting (Reaches log s.commit) s.lending.kept (each_weaker (IsAt s.first) (λ c. Reaches log s.commit (forgetting c)) (idle_reaches log s.first s.commit idle.place reach) s.lending.kept idle.kept))
    h.began.begins)

-- ---- its feeds come to their end

pub all_ends : (log : List Entry) (commit : ℕ) (bs gs : List Fed) → Each2 (FromToEnd log commit) bs gs → Each2 (FeedEnds log commit) bs gs
all_ends log commit bs gs h = each2_weaker (FromToEnd log commit) (FeedEnds log commit) (λ b g k. ends log commit b k.0 g (holds log commit b k.0 k.1) k.2) bs gs h

pub all_finish : (log : List Entry) (commit : ℕ) (bs fs gs : List Fed) → Each2 (FeedsFrom log commit) bs fs → Each2 Finishes fs gs → Each2 (FromToEnd log commit) bs gs
all_finish log commit bs fs gs h k = each2_then (FeedsFrom log commit) Finishes (FromToEnd log commit) (λ b f g x y. (f, x, y)) bs fs gs h k

-- the same of what a slice leaves
pub finish_left : (log : List Entry) (commit : ℕ) (bs fs gs : List Fed) → Each2 (FeedsFrom log commit) bs fs → Each2 Finishes fs gs → Each2 (FromToEnd log commit) bs (left fs gs)
finish_left log commit bs fs gs h k = subst (Each2 (FromToEnd log commit) bs) (sym (written fs gs (same_length Finishes fs gs k))) (all_finish log commit bs fs gs h k)

pub holds_finish : (log : List Entry) (commit : ℕ) (bs fs gs : List Fed) → Each2 (FeedHolds log commit) bs fs → Each2 Finishes fs gs → Each2 (FeedEnds log commit) bs gs
holds_finish log commit bs fs gs h k = each2_then (FeedHolds log commit) Finishes (FeedEnds log commit) (λ b f g x y. ends log commit b f g x y) bs fs gs h k

pub all_hold : (log : List Entry) (commit : ℕ) (bs fs : List Fed) → Each2 (FeedsFrom log commit) bs fs → Each2 (FeedHolds log commit) bs fs
all_hold log commit bs fs h = each2_weaker (FeedsFrom log commit) (FeedHolds log commit) (λ b f k. holds log commit b f k) bs fs h

-- ---- further images

abbrev Went : List Entry → ℕ → Fed → Served → Type 0
Went log commit b s = (g : Fed) × FromToEnd log commit b g × Closed g s

abbrev CameFrom : List Entry → ℕ → Served → Type 0
CameFrom log commit s = (b : Fed) × Went log commit b s

came_to : (log : List Entry) (commit : ℕ) (c : Held) (s : Served) → RanFor c s × CameFrom log commit s → Reaches log commit s.container
came_to log commit c s h =
    let r = h.0 in let g : Fed = h.1.1.0 in let f : Fed = h.1.1.1.0 in let from = h.1.1.1.1 in let end = h.1.1.1.2 in let closed = h.1.1.2 in
    let held = r.consumes.1 in let polls = r.consumes.2 in
    let more : List Entry = r.consumes.0 in
    let polled = ap length (polls.list ∙ ap (λ x. x ++ more) r.list) in
    let long = ap length held.inputs ∙ length-append c.inputs more in
    let to : consumed_to s.container ≡ taken_to s.poller = omega (arith, polled, long, held.base, polls.start, r.start) in
    let at : g.commit ≡ f.commit = ap (λ (z : Fed). z.commit) end in
    record { due = omega (arith, to, closed.within, at, from.due); reach = omega (arith, to, closed.within, at, from.pushed, from.reach) }

pub next_log : (log : List Entry) (s t : Stage) (fed : List Fed) (served : List Served) (feeds : List Fed) (jobs : List Served) → t.commit ≡ s.commit → Began (keeping served) t.lending feeds jobs
    → Each2 RanFor s.lending.lent served → Each2 Closed fed served → Each2 (FromToEnd log s.commit) s.lending.begun fed → Each (IsWithin log s.commit) (containers served) → FeedsLog log t feeds
next_log log s t fed served feeds jobs commit began ran closed from within =
    let went : Each2 (Went log s.commit) s.lending.begun served = each2_then (FromToEnd log s.commit) Closed (Went log s.commit) (λ b g u x y. (g, x, y)) s.lending.begun fed served from closed in
    let came : Each (CameFrom log s.commit) served = each_after (Went log s.commit) (CameFrom log s.commit) (λ b u w. (b, w)) s.lending.begun served went in
    let all : Each (λ (u : Served). Reaches log s.commit u.container) served =
    each_after (λ c u. RanFor c u × CameFrom log s.commit u) (λ (u : Served). Reaches log s.commit u.container) (came_to log s.commit) s.lending.lent served
    (each2_right (CameFrom log s.commit) RanFor s.lending.lent served came ran) in
    logged log s.commit (containers served) feeds feeds t commit began.lending within
    (all_begin log s.commit (containers served) feeds (each_map (λ (u : Served). u.container) (Reaches log s.commit) served all) began.begins)

-- ---- a phase's containers come back

abbrev pub commit_in : CoreHeld → ℕ
commit_in c = c.values.rest.commit

-- the containers that came back, by what ending the phase tells
pub back_within : (log : List Entry) (s : Stage) (commit : ℕ) (feeds ends : List Fed) (served : List Served) (ds : List Held) → s.commit ≡ commit → ds ≡ containers served → FeedsLog log s feeds
    → (Each2 (FeedsFrom log s.commit) s.lending.begun feeds → Each2 (FromToEnd log s.commit) s.lending.begun ends)
    → (Each (IsWithin log s.commit) s.lending.lent → Each2 (FeedEnds log s.commit) s.lending.begun ends → Each (IsWithin log s.commit) (containers served))
    → Each (IsWithin log commit) ds
back_within log s commit feeds ends served ds at is has fed told =
    let F : ℕ × List Held → Type 0 = λ z. Each (IsWithin log z.0) z.1 in
    subst F (λ i. (at i, sym is i)) (told has.lent (all_ends log s.commit s.lending.begun ends (fed has.fed)))

pub back_all : (log : List Entry) (s : Stage) (commit : ℕ) (feeds ends : List Fed) (served : List Served) (ds : List Held) → s.commit ≡ commit → ds ≡ containers served → FeedsLog log s feeds
    → (Each2 (FeedsFrom log s.commit) s.lending.begun feeds → Each2 (FromToEnd log s.commit) s.lending.begun ends)
    → (Each (IsWithin log s.commit) s.lending.lent → Each2 (FeedEnds log s.commit) s.lending.begun ends → Each (HasAll log s.commit) (containers served))
    → Each (HasAll log commit) ds
back_all log s commit feeds ends served ds at is has fed told =
    let F : ℕ × List Held → Type 0 = λ z. Each (HasAll log z.0) z.1 in
    subst F (λ i. (at i, sym is i)) (told has.lent (all_ends log s.commit s.lending.begun ends (fed has.fed)))

pub all_to_within : (log : List Entry) (commit : ℕ) (ds : List Held) → Each (HasAll log commit) ds → Each (IsWithin log commit) ds
all_to_within log commit ds h = each_weaker (HasAll log commit) (IsWithin log commit) (λ d k. k.within) ds h

-- the entries ahead of a module that is the same
pub ahead_same : (log : List Entry) (a b : ModuleHeld) → a ≡ b → b.ahead.entries ≡ drop b.consumed log → a.ahead.entries ≡ drop a.consumed log
ahead_same log a b same is = subst (λ (m : ModuleHeld). m.ahead.entries ≡ drop m.consumed log) (sym same) is

-- ---- nothing is due

pub due_all : (log : List Entry) (first commit : ℕ) (cs : List Held) → first ≡ commit → Each (IsAt first) cs → Each (IsWithin log commit) cs → Each (HasAll log commit) cs
due_all log first commit [] same at w = tt
due_all log first commit (c ∷ cs) same at w = (record { within = w.0; all = at.0.place ∙ same; whole = at.0.whole }, due_all log first commit cs same at.1 w.1)

-- ---- no phase runs any more

pub gone_log : (log : List Entry) (t : Stage) (feeds : List Fed) → t.lending.lent ≡ [] → t.lending.begun ≡ [] → feeds ≡ [] → FeedsLog log t feeds
gone_log log t feeds lent begun none =
    let F : List Fed × List Fed → Type 0 = λ z. Each2 (FeedsFrom log t.commit) z.0 z.1 in
    record { lent = subst (Each (IsWithin log t.commit)) (sym lent) tt; fed = subst F (λ i. (sym begun i, sym none i)) tt }

pub each_append : {A : Type 0} (P : A → Type 0) (xs ys : List A) → Each P xs → Each P ys → Each P (xs ++ ys)
each_append P [] ys h k = k
each_append P (x ∷ xs) ys h k = (h.0, each_append P xs ys h.1 k)
