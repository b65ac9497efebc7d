-- What a phase's end keeps: each service consumed the log from its base on, within the commit.
use Rattle.std.proofs.Common.{◌≡◌, ℕ, ◌+◌, ◌-◌, ◌^◌, ◌<◌, ◌≤◌, refl, List, [], ◌∷◌, ◌++◌, map, length, take, drop, true, sym, ap, ◌∙◌, arith, length-append}
use Rattle.std.proofs.lemmas.Grind.{common_steps}
use Rattle.std.proofs.lemmas.List.{drop-drop, take-take}
use Rattle.std.proofs.Math.Seq.{take-add}
use Rattle.cl_base.specs.declared.entry.Entry.{Entry}
use Rattle.commit_counter.specs.Ends.{Fed, taken_to}
use Rattle.service_container.specs.Held.{Held, consumed_to}
use Rattle.service_container.specs.declared.container.Served.{Served}
use Rattle.service_phases.specs.Feeds.{FeedEnds, HasCommit}
use Rattle.service_phases.specs.Phases.{BeginsAt, RanFor, Closed, MayClose, OneImage, IsAt, IsReady, IsWithin, HasAll, HasEndedWell}
use Rattle.service_phases.specs.Pairs.{Each, Each2}
use Rattle.service_phases.proofs.Lists.{each2_then, each_after, each2_both, each2_with, each2_right, each_map}

abbrev LeadsTo : List Entry → ℕ → Held → Fed → Type 0
LeadsTo log commit c f = (b : Fed) × BeginsAt c b × FeedEnds log commit b f

abbrev Whole : List Entry → ℕ → Held → Served → Type 0
Whole log commit c s = (f : Fed) × LeadsTo log commit c f × Closed f s

-- a front of a list is what it takes
front_of : {A : Type 0} (more rest xs : List A) → xs ≡ more ++ rest → more ≡ take (length more) xs
front_of more rest xs e = grind (arith, common_steps)

-- the front of a list whose front up to k is that of another is a front of that other
front_through : {A : Type 0} (n k : ℕ) (more xs ys : List A) → n ≡ length more → n ≤ k → more ≡ take n xs → take k xs ≡ take k ys → more ≡ take n ys
front_through n k more xs ys long room front same = front ∙ sym (take-take n k xs room) ∙ ap (take n) same ∙ take-take n k ys room

within : (log : List Entry) (commit : ℕ) (c : Held) (s : Served) → IsWithin log commit c × RanFor c s × Whole log commit c s → IsWithin log commit s.container
within log commit c s h =
    let w = h.0 in let r = h.1 in let t = h.2 in
    let more : List Entry = r.consumes.0 in let held = r.consumes.1 in let polls = r.consumes.2 in
    let f : Fed = t.0 in let b : Fed = t.1.0 in let begins = t.1.1 in let ends = t.1.2.0 in let closed = t.2 in
    let n : ℕ = length c.inputs in
    let base : s.container.base ≡ c.base = held.base in
    let inputs : s.container.inputs ≡ c.inputs ++ more = held.inputs in
    let polled : s.poller.list ≡ more = polls.list ∙ ap (λ l. l ++ more) r.list in
    let at : b.start ≡ consumed_to c = begins.start in
    let to : taken_to s.poller ≡ b.start + length more = omega (arith, polls.start, r.start, at, ap length polled) in
    let room : length more ≤ f.commit - b.start = omega (arith, to, closed.within, ends.begun) in
    let fed : f.list ≡ more ++ closed.taken.0 = closed.taken.1 ∙ ap (λ l. l ++ closed.taken.0) polled in
    let here : more ≡ take (length more) (drop b.start log) = front_through (length more) (f.commit - b.start) more f.list (drop b.start log) (λ i. length more) room (front_of more closed.taken.0 f.list fed) ends.list in
    let long : length s.container.inputs ≡ n + length more = ap length inputs ∙ length-append c.inputs more in
    let on : drop b.start log ≡ drop n (drop c.base log) = ap (λ k. drop k log) at ∙ sym (drop-drop n c.base log) in
    record {
      inputs =
          inputs ∙ (λ i. w.inputs i ++ here i) ∙ ap (λ l. take n (drop c.base log) ++ take (length more) l) on
          ∙ sym (take-add n (length more) (drop c.base log)) ∙ (λ i. take (sym long i) (drop (sym base i) log));
      due = omega (arith, base, long, to, at, closed.within, ends.due);
    }

pub ends_within : (log : List Entry) (commit : ℕ) (cs : List Held) (bs fs : List Fed) (ss : List Served)
    → Each (IsWithin log commit) cs → Each2 BeginsAt cs bs → Each2 (FeedEnds log commit) bs fs → Each2 RanFor cs ss → Each2 Closed fs ss → Each (IsWithin log commit) (map (λ s. s.container) ss)
ends_within log commit cs bs fs ss w b f r k =
    let leads = each2_then BeginsAt (FeedEnds log commit) (LeadsTo log commit) (λ c x y h i. (x, h, i)) cs bs fs b f in
    let whole = each2_then (LeadsTo log commit) Closed (Whole log commit) (λ c x y h i. (x, h, i)) cs fs ss leads k in
    let all = each2_with (IsWithin log commit) (λ c s. RanFor c s × Whole log commit c s) cs ss w (each2_both RanFor (Whole log commit) cs ss r whole) in
    each_map (λ s. s.container) (IsWithin log commit) ss (each_after (λ c s. IsWithin log commit c × (RanFor c s × Whole log commit c s)) (λ s. IsWithin log commit s.container) (λ c s h. within log commit c s (h.0, h.1.0, h.1.1)) cs ss all)

pub may_close : (fs : List Fed) (ss : List Served) → Each (λ f. f.ended ≡ true) fs → Each2 OneImage fs ss → Each2 MayClose fs ss
may_close [] [] h k = tt
may_close [] (s ∷ ss) h k = absurd k
may_close (f ∷ fs) [] h k = absurd k
may_close (f ∷ fs) (s ∷ ss) h k = ((sym k.0, h.0), may_close fs ss h.1 k.1)

abbrev Done : ℕ → Fed → Served → Type 0
Done commit f s = Closed f s × HasEndedWell s

abbrev Ended : ℕ → Served → Type 0
Ended commit s = (f : Fed) × HasCommit commit f × Done commit f s

abbrev All : List Entry → ℕ → Held → Served → Type 0
All log commit c s = (f : Fed) × (LeadsTo log commit c f × HasCommit commit f) × Done commit f s

whole : (log : List Entry) (commit : ℕ) (c : Held) (s : Served) → IsWithin log commit c × RanFor c s × All log commit c s → HasAll log commit s.container
whole log commit c s h =
    let r = h.1 in let t = h.2 in let polls = r.consumes.2 in let held = r.consumes.1 in
    let ends = r.end t.2.1 in
    let to : taken_to s.poller ≡ commit = t.2.0.whole ends.1 ∙ t.1.1 in
    let more : List Entry = r.consumes.0 in
    let polled : s.poller.list ≡ more = polls.list ∙ ap (λ l. l ++ more) r.list in
    let base : s.container.base ≡ c.base = held.base in
    let inputs : s.container.inputs ≡ c.inputs ++ more = held.inputs in
    let long : length s.container.inputs ≡ length c.inputs + length more = ap length inputs ∙ length-append c.inputs more in
    record {
      within = within log commit c s (h.0, r, (t.0, t.1.0, t.2.0));
      all = omega (arith, to, polls.start, r.start, ap length polled, base, long);
      whole = ends.0;
    }

pub ends_whole : (log : List Entry) (commit : ℕ) (cs : List Held) (bs fs : List Fed) (ss : List Served)
    → Each (IsWithin log commit) cs → Each2 BeginsAt cs bs → Each2 (FeedEnds log commit) bs fs → Each2 RanFor cs ss → Each2 Closed fs ss → Each (HasCommit commit) fs → Each HasEndedWell ss → Each (HasAll log commit) (map (λ s. s.container) ss)
ends_whole log commit cs bs fs ss w b f r k has end =
    let leads = each2_right (HasCommit commit) (LeadsTo log commit) cs fs has (each2_then BeginsAt (FeedEnds log commit) (LeadsTo log commit) (λ c x y h i. (x, h, i)) cs bs fs b f) in
    let done = each2_right HasEndedWell Closed fs ss end k in
    let all = each2_then (λ c f. LeadsTo log commit c f × HasCommit commit f) (Done commit) (All log commit) (λ c x y h i. (x, h, i)) cs fs ss leads done in
    let every = each2_with (IsWithin log commit) (λ c s. RanFor c s × All log commit c s) cs ss w (each2_both RanFor (All log commit) cs ss r all) in
    each_map (λ s. s.container) (HasAll log commit) ss (each_after (λ c s. IsWithin log commit c × (RanFor c s × All log commit c s)) (λ s. HasAll log commit s.container) (λ c s h. whole log commit c s (h.0, h.1.0, h.1.1)) cs ss every)

at_end : (commit : ℕ) (c : Held) (s : Served) → RanFor c s × Ended commit s → IsAt commit s.container
at_end commit c s h =
    let r = h.0 in let t = h.1 in let polls = r.consumes.2 in let held = r.consumes.1 in
    let more : List Entry = r.consumes.0 in
    let ends = r.end t.2.1 in
    let to : taken_to s.poller ≡ commit = t.2.0.whole ends.1 ∙ t.1 in
    let polled : s.poller.list ≡ more = polls.list ∙ ap (λ l. l ++ more) r.list in
    let long : length s.container.inputs ≡ length c.inputs + length more = ap length held.inputs ∙ length-append c.inputs more in
    record {
      place = omega (arith, to, polls.start, r.start, ap length polled, held.base, long);
      whole = ends.0;
    }

pub ends_at : (commit : ℕ) (cs : List Held) (fs : List Fed) (ss : List Served) → Each2 RanFor cs ss → Each2 Closed fs ss → Each (HasCommit commit) fs → Each HasEndedWell ss → Each (IsAt commit) (map (λ s. s.container) ss)
ends_at commit cs fs ss r k has end =
    let done = each2_right HasEndedWell Closed fs ss end k in
    let ended : Each (Ended commit) ss = each_after (λ f s. HasCommit commit f × Done commit f s) (Ended commit) (λ f s h. (f, h.0, h.1)) fs ss (each2_with (HasCommit commit) (Done commit) fs ss has done) in
    let every = each2_right (Ended commit) RanFor cs ss ended r in
    each_map (λ s. s.container) (IsAt commit) ss (each_after (λ c s. RanFor c s × Ended commit s) (λ s. IsAt commit s.container) (at_end commit) cs ss every)

ready_end : (c : Held) (s : Served) → RanFor c s × ((f : Fed) × (f.commit < 2 ^ 62) × Done f.commit f s) → IsReady s.container
ready_end c s h =
    let f : Fed = h.1.0 in
    let at = at_end f.commit c s (h.0, (f, refl, h.1.2)) in
    ((let p = at.place in let b = h.1.1 in omega arith), at.whole)

pub ends_ready : (cs : List Held) (fs : List Fed) (ss : List Served) → Each2 RanFor cs ss → Each2 Closed fs ss → Each (λ f. f.commit < 2 ^ 62) fs → Each HasEndedWell ss → Each IsReady (map (λ s. s.container) ss)
ends_ready cs fs ss r k bound end =
    let done = each2_right HasEndedWell Closed fs ss end k in
    let ended : Each (λ s. (f : Fed) × (f.commit < 2 ^ 62) × Done f.commit f s) ss =
    each_after (λ f s. (f.commit < 2 ^ 62) × (Closed f s × HasEndedWell s)) (λ s. (f : Fed) × (f.commit < 2 ^ 62) × Done f.commit f s) (λ f s h. (f, h.0, h.1)) fs ss
    (each2_with (λ f. f.commit < 2 ^ 62) (λ f s. Closed f s × HasEndedWell s) fs ss bound done) in
    let every = each2_right (λ s. (f : Fed) × (f.commit < 2 ^ 62) × Done f.commit f s) RanFor cs ss ended r in
    each_map (λ s. s.container) IsReady ss (each_after (λ c s. RanFor c s × ((f : Fed) × (f.commit < 2 ^ 62) × Done f.commit f s)) (λ s. IsReady s.container) ready_end cs ss every)
