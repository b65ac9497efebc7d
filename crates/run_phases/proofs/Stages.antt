-- A phase from its beginning to its end.
use Rattle.std.proofs.Common.{◌≡◌, ℕ, ◌≤◌, ◌<◌, ◌^◌, true, false, List, [], ◌∷◌, ◌++◌, length, take, drop, sym, ap, ◌∙◌, subst, arith, length-append}
use Rattle.commit_counter.specs.Ends.{Fed, Polled, taken_to}
use Rattle.service_container.specs.Held.{Held, consumed_to, Consumes}
use Rattle.service_container.specs.declared.container.Served.{Served}
use Rattle.service_phases.specs.Pairs.{Each, Each2}
use Rattle.service_phases.specs.Feeds.{IsFed, FedOn, FedToEnd, Finishes}
use Rattle.service_phases.specs.Phases.{Lending, Began, BeginsAt, PollerOf, IsAt, IsReady, MayServe, forgetting, Ran, RanFor, OneImage, Closed, HasEndedWell, containers, keeping}
use Rattle.service_phases.specs.Stages.{Stage, IsIdle, Begins, IsFeeding, IsLent, StartsAt, PollsFor, Runs, HasRun, forgot}
use Rattle.run_phases.proofs.Lists.{same_length, written, each_weaker, each_after, each2_weaker, each2_then, each2_both, each2_with, each2_right, each_map}

-- a container that may be lent for images from its place on, within the commit
pub record Stands (first commit : ℕ) (c : Held) : Type 0 where
  pub lent : IsLent first c
  pub due : consumed_to c ≤ commit

fed_at_begin : (first commit : ℕ) (c : Held) (f : Fed) → Stands first commit c × BeginsAt c f → IsFed first commit f
fed_at_begin first commit c f h =
    let s = h.0 in let b = h.1 in record {
      start = (let p = s.lent.place in let a = b.start in omega arith);
      running = b.running;
      pushed = (let a = b.start in let k = b.commit in let l = ap length b.list in omega arith);
      due = (let k = b.commit in let d = s.due in omega arith);
    }

-- images that begin for such containers
pub began_runs : (a : Lending) (t : Stage) (feeds : List Fed) (jobs : List Served) → Began a t.lending feeds jobs → Each (Stands t.first t.commit) a.kept → t.commit < 2 ^ 62 → t.over ≡ false
    → Runs t feeds jobs × IsFeeding t feeds × (t.lending.kept ≡ [])
began_runs a t feeds jobs began stands bound over =
    let lent : t.lending.lent ≡ a.kept = ap (λ (l : Lending). l.lent) began.lending in
    let L : List Held → Type 0 = Each (IsLent t.first) in
    let S : List Held → Type 0 = λ l. Each2 StartsAt l feeds in
    let C : List Held → Type 0 = λ l. Each2 (λ (c : Held) (s : Served). s.container ≡ c) l jobs in (
      record {
        lent = subst L (sym lent) (each_weaker (Stands t.first t.commit) (IsLent t.first) (λ c s. s.lent) a.kept stands);
        starts = subst S (sym lent) (each2_weaker BeginsAt StartsAt (λ c f b. b.start) a.kept feeds began.begins);
        pollers =
            each2_weaker (λ f s. PollerOf f s.poller) (λ f s. PollsFor f s.poller)
            (λ f s p. record { name = ap (λ (q : Polled). q.name) p; start = ap (λ (q : Polled). q.start) p; list = ap (λ (q : Polled). q.list) p })
            feeds jobs began.pollers;
        containers = subst C (sym lent) began.containers;
      },
      record {
        fed = each_after (λ c f. Stands t.first t.commit c × BeginsAt c f) (IsFed t.first t.commit) (fed_at_begin t.first t.commit) a.kept feeds (each2_with (Stands t.first t.commit) BeginsAt a.kept feeds stands began.begins);
        over = λ o. absurd (let e : true ≡ false = sym o ∙ over in cc);
        bound = bound;
      },
      ap (λ (l : Lending). l.kept) began.lending,
    )

idle_stands : (first commit : ℕ) → first ≤ commit → commit < 2 ^ 62 → (c : Held) → IsAt first c → Stands first commit (forgetting c)
idle_stands first commit place bound c h = record {
  lent = record { place = (let p = h.place in omega arith); ready = ((let p = h.place in omega arith), h.whole) };
  due = (let p = h.place in omega arith);
}

-- a phase that began
pub begins_runs : (s t : Stage) (feeds : List Fed) (jobs : List Served) → IsIdle s → Begins s t feeds jobs → Runs t feeds jobs × IsFeeding t feeds × (t.lending.kept ≡ [])
begins_runs s t feeds jobs idle h =
    let place : t.first ≤ t.commit = let a = idle.place in let b = h.first in let c = h.commit in omega arith in
    let bound : t.commit < 2 ^ 62 = let a = idle.bound in let c = h.commit in omega arith in
    let at : Each (IsAt t.first) s.lending.kept = subst (λ n. Each (IsAt n) s.lending.kept) (sym h.first) idle.kept in
    began_runs (forgot s.lending) t feeds jobs h.began
    (each_map forgetting (Stands t.first t.commit) s.lending.kept (each_weaker (IsAt t.first) (λ c. Stands t.first t.commit (forgetting c)) (idle_stands t.first t.commit place bound) s.lending.kept at))
    bound h.over

-- a job may be served
ready_job : (first : ℕ) (c : Held) (s : Served) → IsLent first c × ((f : Fed) × StartsAt c f × PollsFor f s.poller) × (s.container ≡ c) → MayServe s
ready_job first c s h =
    let l = h.0 in let f = h.1.0 in let starts = h.1.1 in let polls = h.1.2 in let same = h.2 in
    let P : Held → Type 0 = λ d. (taken_to s.poller ≡ consumed_to d) × IsReady d in
    subst P (sym same) ((let a = polls.start in let b = ap length polls.list in let d : f.start ≡ consumed_to c = starts in omega arith), l.ready)

abbrev Leads : Held → Served → Type 0
Leads c s = (f : Fed) × StartsAt c f × PollsFor f s.poller

leads : (s : Stage) (feeds : List Fed) (jobs : List Served) → Runs s feeds jobs → Each2 Leads s.lending.lent jobs
leads s feeds jobs h = each2_then StartsAt (λ f t. PollsFor f t.poller) Leads (λ c f t a b. (f, a, b)) s.lending.lent feeds jobs h.starts h.pollers

abbrev pub Same : Held → Served → Type 0
Same c s = s.container ≡ c

pub may_serve : (s : Stage) (feeds : List Fed) (jobs : List Served) → Runs s feeds jobs → Each MayServe jobs
may_serve s feeds jobs h =
    each_after (λ c t. IsLent s.first c × (Leads c t × Same c t)) MayServe (λ c t k. ready_job s.first c t (k.0, k.1.0, k.1.1)) s.lending.lent jobs
    (each2_with (IsLent s.first) (λ c t. Leads c t × Same c t) s.lending.lent jobs h.lent (each2_both Leads Same s.lending.lent jobs (leads s feeds jobs h) h.containers))

ran_one : (c : Held) (s t : Served) → Leads c s × Same c s → Ran s t → RanFor c t
ran_one c s t h r =
    let f : Fed = h.0.0 in let starts = h.0.1 in let polls = h.0.2 in
    let F : Held → Type 0 = λ d. Consumes d s.poller t.container t.poller in
    record { poller = s.poller; start = polls.start ∙ starts; list = polls.list; consumes = subst F h.1 r.0; end = r.1 }

-- a feed at its end
abbrev pub EndOf : Fed → Fed → Type 0
EndOf f g = (g.name ≡ f.name) × (g.ended ≡ true)

name_on : (f g : Fed) (s t : Served) → EndOf f g → PollsFor f s.poller → Ran s t → OneImage g t
name_on f g s t e p r = r.0.2.name ∙ p.name ∙ sym e.0

pub finish_ends : (feeds ends : List Fed) → Each2 Finishes feeds ends → Each2 EndOf feeds ends
finish_ends feeds ends h = each2_weaker Finishes EndOf (λ f g k. (ap (λ (z : Fed). z.name) k, ap (λ (z : Fed). z.ended) k)) feeds ends h

pub fed_ends : (commit : ℕ) (feeds ends : List Fed) → Each2 (FedToEnd commit) feeds ends → Each2 EndOf feeds ends
fed_ends commit feeds ends h =
    each2_weaker (FedToEnd commit) EndOf (λ f g k. (ap (λ (z : Fed). z.name) k.2 ∙ ap (λ (z : Fed). z.name) k.1.feed, ap (λ (z : Fed). z.ended) k.2)) feeds ends h

each2_beside : {A B C D : Type 0} (R : A → B → Type 0) (S : A → C → Type 0) (T : C → D → Type 0) (U : B → D → Type 0) → ((a : A) (b : B) (c : C) (d : D) → R a b → S a c → T c d → U b d)
    → (ws : List A) (bs : List B) (cs : List C) (ds : List D) → Each2 R ws bs → Each2 S ws cs → Each2 T cs ds → Each2 U bs ds
each2_beside R S T U f [] [] [] [] h k l = tt
each2_beside R S T U f [] [] [] (d ∷ ds) h k l = absurd l
each2_beside R S T U f [] [] (c ∷ cs) ds h k l = absurd k
each2_beside R S T U f [] (b ∷ bs) cs ds h k l = absurd h
each2_beside R S T U f (a ∷ ws) [] cs ds h k l = absurd h
each2_beside R S T U f (a ∷ ws) (b ∷ bs) [] ds h k l = absurd k
each2_beside R S T U f (a ∷ ws) (b ∷ bs) (c ∷ cs) [] h k l = absurd l
each2_beside R S T U f (a ∷ ws) (b ∷ bs) (c ∷ cs) (d ∷ ds) h k l = (f a b c d h.0 k.0 l.0, each2_beside R S T U f ws bs cs ds h.1 k.1 l.1)

-- the jobs of a phase ran, and its feeds came to their end
pub has_run : (s : Stage) (feeds ends : List Fed) (jobs served : List Served) → Runs s feeds jobs → Each2 EndOf feeds ends → Each2 Ran jobs served → HasRun s ends served
has_run s feeds ends jobs served h e r = record {
  ran = each2_then (λ c t. Leads c t × Same c t) Ran RanFor ran_one s.lending.lent jobs served (each2_both Leads Same s.lending.lent jobs (leads s feeds jobs h) h.containers) r;
  images = each2_beside EndOf (λ f t. PollsFor f t.poller) Ran OneImage name_on feeds ends jobs served e h.pollers r;
  finished = each_after EndOf (λ g. g.ended ≡ true) (λ f g k. k.1) feeds ends e;
}

-- what a slice of a list leaves
abbrev pub left : {A : Type 0} → List A → List A → List A
left xs ys = take (length xs) (ys ++ drop (length ys) xs)

-- the jobs that were lent came back
pub run_back : (s : Stage) (feeds ends : List Fed) (lent jobs served : List Served) → Runs s feeds jobs → Each2 (FedToEnd s.commit) feeds ends → lent ≡ jobs → Each2 Ran lent served → HasRun s ends served
run_back s feeds ends lent jobs served h e same r = has_run s feeds ends jobs served h (fed_ends s.commit feeds ends e) (subst (λ l. Each2 Ran l served) same r)

-- feeds that were fed on and then finished
pub fed_to_end : (commit : ℕ) (feeds mids ends : List Fed) → Each2 (FedOn commit) feeds mids → Each2 Finishes mids ends → Each2 (FedToEnd commit) feeds (left mids ends)
fed_to_end commit feeds mids ends h k =
    subst (Each2 (FedToEnd commit) feeds) (sym (written mids ends (same_length Finishes mids ends k))) (each2_then (FedOn commit) Finishes (FedToEnd commit) (λ f m g x y. (m, x, y)) feeds mids ends h k)

-- what feeds published to the end is within the commit
pub ends_due : (commit : ℕ) (feeds ends : List Fed) → Each2 (FedToEnd commit) feeds ends → Each (λ g. g.commit ≤ commit) ends
ends_due commit feeds ends h = each_after (FedToEnd commit) (λ g. g.commit ≤ commit) (λ f g k. (let a = k.1.due in let e = ap (λ (z : Fed). z.commit) k.2 in omega arith)) feeds ends h

pub ends_bound : (commit : ℕ) (feeds ends : List Fed) → commit < 2 ^ 62 → Each2 (FedToEnd commit) feeds ends → Each (λ g. g.commit < 2 ^ 62) ends
ends_bound commit feeds ends bound h = each_weaker (λ g. g.commit ≤ commit) (λ g. g.commit < 2 ^ 62) (λ g d. (omega arith)) ends (ends_due commit feeds ends h)

-- a job whose image was closed within the commit, and whose container ended
abbrev Ending : ℕ → Served → Type 0
Ending commit u = ((f : Fed) × (f.commit ≤ commit) × Closed f u) × HasEndedWell u

-- a container that came back stands where its image was published to
stands_after : (first commit : ℕ) → commit < 2 ^ 62 → (c : Held) (s : Served) → IsLent first c × RanFor c s × ((f : Fed) × (f.commit ≤ commit) × Closed f s) × HasEndedWell s → Stands first commit s.container
stands_after first commit bound c s h =
    let l = h.0 in let r = h.1 in let f : Fed = h.2.0 in let due = h.2.1 in let closed = h.2.2 in let ends = r.end h.3 in
    let held = r.consumes.1 in let polls = r.consumes.2 in
    let more = r.consumes.0 in
    let polled = ap length (polls.list ∙ ap (λ x. x ++ more) r.list) in
    let long = ap length held.inputs ∙ length-append c.inputs more in
    let to : consumed_to s.container ≡ taken_to s.poller = omega (arith, polled, long, held.base, polls.start, r.start) in
    let on : consumed_to c ≤ consumed_to s.container = omega (arith, long, held.base) in
    record {
      lent = record { place = omega (arith, l.place, on); ready = (omega (arith, to, closed.within, due, bound), ends.0) };
      due = omega (arith, to, closed.within, due);
    }

pub goes_on_runs : (s t : Stage) (fed : List Fed) (served : List Served) (feeds : List Fed) (jobs : List Served) → t.first ≡ s.first → t.commit ≡ s.commit → t.over ≡ false
    → Each2 Closed fed served → Began (keeping served) t.lending feeds jobs → Each (IsLent s.first) s.lending.lent
    → HasRun s fed served → Each HasEndedWell served → Each (λ f. f.commit ≤ s.commit) fed → s.commit < 2 ^ 62
    → Runs t feeds jobs × IsFeeding t feeds × (t.lending.kept ≡ [])
goes_on_runs s t fed served feeds jobs first commit over close began lent run ended due bound =
    let closed : Each2 (λ f u. (f.commit ≤ s.commit) × Closed f u) fed served = each2_with (λ f. f.commit ≤ s.commit) Closed fed served due close in
    let ends : Each (Ending s.commit) served =
    each_after (λ f u. ((f.commit ≤ s.commit) × Closed f u) × HasEndedWell u) (Ending s.commit) (λ f u k. ((f, k.0.0, k.0.1), k.1)) fed served
    (each2_right HasEndedWell (λ f u. (f.commit ≤ s.commit) × Closed f u) fed served ended closed) in
    let all = each2_with (IsLent s.first) (λ c u. RanFor c u × Ending s.commit u) s.lending.lent served lent
    (each2_right (Ending s.commit) RanFor s.lending.lent served ends run.ran) in
    let stand : Each (Stands s.first s.commit) (containers served) =
    each_map (λ (u : Served). u.container) (Stands s.first s.commit) served
    (each_after (λ c u. IsLent s.first c × (RanFor c u × Ending s.commit u)) (λ u. Stands s.first s.commit u.container) (λ c u k. stands_after s.first s.commit bound c u (k.0, k.1.0, k.1.1.0, k.1.1.1)) s.lending.lent served all) in
    let F : (ℕ × ℕ) → Type 0 = λ z. Each (Stands z.0 z.1) (containers served) in
    began_runs (keeping served) t feeds jobs began (subst F (λ i. (sym first i, sym commit i)) stand) (omega (arith, commit, bound)) over
