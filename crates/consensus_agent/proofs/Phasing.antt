-- Lists of feeds and of containers through a phase.
use Rattle.std.proofs.Common.{◌≡◌, ℕ, ◌^◌, ◌<◌, ◌≤◌, min, max, Bool, false, add-zero, List, [], ◌∷◌, ◌++◌, length, map, ap, sym, refl, ◌∙◌, subst, arith}
use Rattle.cl_base.specs.declared.entry.Entry.{Entry}
use Rattle.commit_counter.specs.Ends.{Fed, fed_to}
use Rattle.service_container.specs.Held.{Held, begun, consumed_to}
use Rattle.service_api.specs.declared.shipped.Shipped.{Shipped}
use Rattle.service_phases.specs.Pairs.{Each, Each2}
use Rattle.service_phases.specs.Feeds.{FedOn, IsFed, Publishes, TakesMore}
use Rattle.service_phases.specs.Phases.{IsAt, IsReady, Lending, containers, forgetting}
use Rattle.service_phases.specs.Stages.{IsIdle}
use Rattle.service_container.specs.declared.container.Served.{Served}
use Rattle.consensus_core.specs.Fit.{Held as CoreHeld}

abbrev start_of : Fed → ℕ
start_of f = f.start

abbrev ended_of : Fed → Bool
ended_of f = f.ended

abbrev list_of : Fed → List Entry
list_of f = f.list

abbrev many_of : Fed → ℕ
many_of f = length f.list

abbrev commit_of : Fed → ℕ
commit_of f = f.commit

abbrev published : ℕ → Fed → Fed
published n f = record f { commit = n }

-- one feed, fed and then published to
one_fed : (first commit : ℕ) (es : List Entry) (f g h : Fed) → IsFed first commit f → TakesMore first es f g → Publishes commit g h → IsFed first commit h × FedOn commit f h
one_fed first commit es f g h was takes publishes =
    let start : h.start ≡ f.start = ap start_of publishes ∙ ap start_of takes.feed in
    let ended : h.ended ≡ f.ended = ap ended_of publishes ∙ ap ended_of takes.feed in
    let list : length h.list ≡ length g.list = ap many_of publishes in
    let before : g.commit ≡ f.commit = ap commit_of takes.feed in
    let place : g.start ≡ f.start = ap start_of takes.feed in
    let commit_is : h.commit ≡ max g.commit (min (fed_to g) commit) = ap commit_of publishes in
    let longer = takes.longer in
    let same : h.list ≡ g.list = ap list_of publishes in
    let feed : h ≡ record f { list = h.list; commit = h.commit } =
    publishes ∙ ap (published (max g.commit (min (fed_to g) commit))) takes.feed ∙ (λ i. record f { list = sym same i; commit = sym commit_is i }) in
    let reach = was.pushed in
    let due = was.due in
    let low = was.start in (
      record { start = omega arith; running = ended ∙ was.running; pushed = omega arith; due = omega arith },
      record { feed = feed; pushed = omega arith; due = omega arith; rises = omega arith },
    )

pub all_fed : (first commit : ℕ) (es : List Entry) (fs gs hs : List Fed) → Each (IsFed first commit) fs → Each2 (TakesMore first es) fs gs → Each2 (Publishes commit) gs hs → Each (IsFed first commit) hs × Each2 (FedOn commit) fs hs
all_fed first commit es [] [] [] a t p = (tt, tt)
all_fed first commit es (f ∷ fs) (g ∷ gs) (h ∷ hs) a t p =
    let one = one_fed first commit es f g h a.0 t.0 p.0 in
    let rest = all_fed first commit es fs gs hs a.1 t.1 p.1 in
    ((one.0, rest.0), (one.1, rest.1))
all_fed first commit es [] [] (h ∷ hs) a t p = absurd p
all_fed first commit es [] (g ∷ gs) hs a t p = absurd t
all_fed first commit es (f ∷ fs) [] hs a t p = absurd t
all_fed first commit es (f ∷ fs) (g ∷ gs) [] a t p = absurd p

pub all_reached : (first commit : ℕ) (fs : List Fed) → Each (IsFed first commit) fs → Each (λ f. first ≤ fed_to f) fs
all_reached first commit [] a = tt
all_reached first commit (f ∷ fs) a = (let low = a.0.start in omega arith, all_reached first commit fs a.1)

pub all_running : (first commit : ℕ) (es : List Entry) (fs gs : List Fed) → Each (IsFed first commit) fs → Each2 (TakesMore first es) fs gs → Each (λ f. f.ended ≡ false) gs
all_running first commit es [] [] a t = tt
all_running first commit es (f ∷ fs) (g ∷ gs) a t = (ap ended_of t.0.feed ∙ a.0.running, all_running first commit es fs gs a.1 t.1)
all_running first commit es [] (g ∷ gs) a t = absurd t
all_running first commit es (f ∷ fs) [] a t = absurd t

pub all_ready : (first : ℕ) (cs : List Held) → first < 2 ^ 62 → Each (IsAt first) cs → Each IsReady (map forgetting cs)
all_ready first [] b a = tt
all_ready first (c ∷ cs) b a = ((let place = a.0.place in omega arith, a.0.whole), all_ready first cs b a.1)

pub each_push : (n : ℕ) (cs : List Held) (c : Held) → Each (IsAt n) cs → IsAt n c → Each (IsAt n) (cs ++ c ∷ [])
each_push n [] c a h = (h, tt)
each_push n (x ∷ cs) c a h = (a.0, each_push n cs c a.1 h)

abbrev whole_of : Held → Bool
whole_of c = c.whole

-- a container that begins at an entry
pub begun_at : (n s : ℕ) (c : Held) (t : Shipped) → c ≡ begun s n t → IsAt n c
begun_at n s c t is = record { place = ap consumed_to is ∙ add-zero n; whole = ap whole_of is }

-- nothing was fed
pub all_same : (first commit : ℕ) (fs : List Fed) → Each (IsFed first commit) fs → Each2 (FedOn commit) fs fs
all_same first commit [] a = tt
all_same first commit (f ∷ fs) a = (record { feed = refl; pushed = a.0.pushed; due = a.0.due; rises = omega arith }, all_same first commit fs a.1)

abbrev with_kept : List Held → Lending
with_kept k = record { kept = k; lent = []; begun = [] }

abbrev lent_of : Lending → List Held
lent_of l = l.lent

abbrev pub commit_in : CoreHeld → ℕ
commit_in c = c.values.rest.commit

-- the containers that came back, at the commit
pub came_back : (a : List Held) (lending : Lending) (jobs : List Served) → a ≡ [] → lending ≡ record { kept = a ++ containers jobs; lent = []; begun = [] } → lending ≡ record { kept = containers jobs; lent = []; begun = [] }
came_back a lending jobs none is = is ∙ ap (λ (k : List Held). with_kept (k ++ containers jobs)) none

-- no phase runs, and the module stands where the services do
pub idle_at : (lending : Lending) (first commit n : ℕ) (over : Bool) (jobs : List Served)
    → lending ≡ record { kept = containers jobs; lent = []; begun = [] } → first ≡ n → commit ≡ n → n < 2 ^ 62 → Each (IsAt n) (containers jobs)
    → IsIdle (record { lending = lending; first = first; commit = commit; over = over })
idle_at lending first commit n over jobs kept there committed bound all = record {
  kept = subst (λ k. Each (IsAt k) lending.kept) (sym there) (subst (λ (l : Lending). Each (IsAt n) l.kept) (sym kept) all);
  lent = ap lent_of kept;
  place = omega arith;
  bound = omega arith;
}
