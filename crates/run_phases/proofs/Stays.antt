-- What a phase has of a log stays, as the log grows and as it is cut above the commit.
use Rattle.std.proofs.Common.{◌≡◌, inl, inr, ℕ, ◌≤◌, List, ◌++◌, length, take, drop, sym, ap, ◌∙◌, subst, arith}
use Rattle.std.proofs.lemmas.Bool.{cases_lt}
use Rattle.std.proofs.lemmas.List.{drop-append-le, length-drop, length-take, nil_from_length, take-append-le}
use Rattle.cl_base.specs.declared.entry.Entry.{Entry}
use Rattle.commit_counter.specs.Ends.{Fed}
use Rattle.service_container.specs.Held.{Held}
use Rattle.service_phases.specs.Pairs.{Each, Each2}
use Rattle.service_phases.specs.Feeds.{FeedHolds, FeedsFrom}
use Rattle.service_phases.specs.Phases.{IsWithin, Lending}
use Rattle.service_phases.specs.Stages.{Stage}
use Rattle.service_phases.proofs.FedLog.{grows, stays, stays_within}
use Rattle.run_phases.specs.Logs.{FeedsLog, HoldsLog}
use Rattle.run_phases.proofs.Fronts.{all_hold}
use Rattle.run_phases.proofs.Lists.{each_weaker, each2_weaker}

-- a front of a list stays one of the list with more behind it
front_grows : (xs log more : List Entry) (n : ℕ) → xs ≡ take (length xs) (drop n log) → xs ≡ take (length xs) (drop n (log ++ more))
front_grows xs log more n is =
    let many = ap length is in
    let taken = length-take (length xs) (drop n log) in
    let left = length-drop n log in
    elim (cases_lt 0 (length xs)) as (λ _. xs ≡ take (length xs) (drop n (log ++ more))) [
      | inl some ↦ is ∙ sym (take-append-le (length xs) (drop n log) more (omega arith)) ∙ ap (take (length xs)) (sym (drop-append-le n log more (omega arith)))
      | inr none ↦ let zero_long : length xs ≡ 0 = omega arith in nil_from_length xs zero_long ∙ sym (ap (λ k. take k (drop n (log ++ more))) zero_long)
    ]

within_grows : (log more : List Entry) (commit next : ℕ) → commit ≤ next → (c : Held) → IsWithin log commit c → IsWithin (log ++ more) next c
within_grows log more commit next low c h = record { inputs = front_grows c.inputs log more c.base h.inputs; due = (let d = h.due in omega arith) }

pub grows_log : (log more : List Entry) (s t : Stage) (feeds : List Fed) → t.lending ≡ s.lending → s.commit ≤ t.commit → FeedsLog log s feeds → FeedsLog (log ++ more) t feeds
grows_log log more s t feeds lending low h =
    let L : Lending → Type 0 = λ l. Each (IsWithin (log ++ more) t.commit) l.lent in
    let F : Lending → Type 0 = λ l. Each2 (FeedsFrom (log ++ more) t.commit) l.begun feeds in
    record {
      lent = subst L (sym lending) (each_weaker (IsWithin log s.commit) (IsWithin (log ++ more) t.commit) (within_grows log more s.commit t.commit low) s.lending.lent h.lent);
      fed = subst F (sym lending) (each2_weaker (FeedsFrom log s.commit) (FeedsFrom (log ++ more) t.commit) (λ b f k. grows log more s.commit t.commit b f low k) s.lending.begun feeds h.fed);
    }

pub holds_log : (log : List Entry) (s : Stage) (feeds : List Fed) → FeedsLog log s feeds → HoldsLog log s feeds
holds_log log s feeds h = record { lent = h.lent; fed = all_hold log s.commit s.lending.begun feeds h.fed }

holds_on : (log next : List Entry) (commit later : ℕ) → commit ≤ later → take commit next ≡ take commit log → (b f : Fed) → FeedHolds log commit b f → FeedHolds next later b f
holds_on log next commit later low same b f h =
    let k = stays log next commit b f same h in
    record { image = k.image; list = k.list; begun = k.begun; pushed = k.pushed; due = (let d = k.due in omega arith) }

pub cut_log : (log next : List Entry) (s t : Stage) (feeds : List Fed) → t.lending ≡ s.lending → s.commit ≤ t.commit → take s.commit next ≡ take s.commit log → HoldsLog log s feeds → HoldsLog next t feeds
cut_log log next s t feeds lending low same h =
    let L : Lending → Type 0 = λ l. Each (IsWithin next t.commit) l.lent in
    let F : Lending → Type 0 = λ l. Each2 (FeedHolds next t.commit) l.begun feeds in
    record {
      lent = subst L (sym lending) (each_weaker (IsWithin log s.commit) (IsWithin next t.commit) (λ c w. stays_within log next s.commit t.commit c low same w) s.lending.lent h.lent);
      fed = subst F (sym lending) (each2_weaker (FeedHolds log s.commit) (FeedHolds next t.commit) (holds_on log next s.commit t.commit low same) s.lending.begun feeds h.fed);
    }
