-- A row of a member prints on from what is printed.
use Rattle.std.proofs.Common.{◌≡◌, ◌≢◌, ℕ, ◌<◌, ◌≤◌, Bool, true, false, ◌&&◌, List, [], ◌∷◌, length, set, Option, Some, None, refl, sym, ap, ◌∙◌, subst, arith, ℤ, if◌then◌else◌, length-set, get_or-set_same, get_or-set_other}
use Rattle.std.specs.Prelude.{Contains, slice_get, slice_index_or}
use Rattle.std.specs.List.{AllByRecursion}
use Rattle.std.proofs.lemmas.Int.{ints}
use Rattle.std.proofs.lemmas.Option.{slice_get-get_or}
use Rattle.entry_log.specs.Durable.{fresh}
use Rattle.entry_log.specs.Log.{Log, same_term}
use Rattle.log_replication.specs.Prefixes.{Leads}
use Rattle.sbe_events.specs.Spelling.{term_of}
use Rattle.sbe_events.specs.declared.event.Event.{Event}
use Rattle.service_api.specs.declared.shipped.Kind.{Kind}
use Rattle.consensus_core.specs.declared.row.Row.{Row}
use Rattle.consensus_core.specs.Member.{Member, Sent, Cut, after, row_of_duty, row_of_packet, stopped}
use Rattle.world.specs.World.{World, Step, Duty, Delivers, acts, are_of, comes, is_running, member, step}
use Rattle.agreement.proofs.Moves.{step-moves}
use Rattle.agreement.proofs.Runs2.{step-fits}
use Rattle.service_runs.specs.Hosts.{Hosted, longer, printed_by}
use Rattle.service_runs.proofs.Held.{Held, prints, settled-moves}
use Rattle.one_log.specs.Led.{led, turns}
use Rattle.one_log.specs.Ruled.{rules_of}
use Rattle.one_log.proofs.Good.{all_weaker}
use Rattle.one_log.proofs.Offered.{IsDue, due-bytes}
use Rattle.run_world.specs.Lawful.{Shows}
use Rattle.run_world.specs.RunWorld.{RunWorld, ahead_events, applied_events, committed, due_at, seat}
use Rattle.run_world.proofs.Printed.{prints-one}
use Rattle.run_world.proofs.Rows.{both, runs-there}
use Rattle.run_world.proofs.Shown.{AllPrinted, commit-within, count-shown, member-shown}

-- ---- the world of steps

acts-members : (w : World) (m : ℕ) (row : Row) (cut : Cut) → (acts w m row cut).members ≡ set w.members m (after row cut (member w m))
unfolding acts
acts-members w m row cut = refl

-- what is printed after a row of the member m, which some step makes
step-grows : (n : ℕ) (kinds : List Kind) (h : Hosted) (m : ℕ) (row : Row) (cut : Cut) (s : Step) → Held n (rules_of kinds) h → m < length h.world.members → step h.world s ≡ acts h.world m row cut
    → Leads h.printed (longer h.printed (committed (after row cut (member h.world m))))
step-grows n kinds h m row cut s held l is =
    let v = step h.world s in
    let members : v.members ≡ set h.world.members m (after row cut (member h.world m)) = ap (λ (u : World). u.members) is ∙ acts-members h.world m row cut in
    let here : member v m ≡ after row cut (member h.world m) = ap (λ (xs : List Member). slice_index_or xs m (stopped fresh)) members ∙ get_or-set_same h.world.members m (after row cut (member h.world m)) (stopped fresh) l in
    let there : (j : ℕ) → j ≢ m → member v j ≡ member h.world j =
    λ j other. ap (λ (xs : List Member). slice_index_or xs j (stopped fresh)) members ∙ get_or-set_other h.world.members m j (after row cut (member h.world m)) (stopped fresh) other in
    let all : AllPrinted h = λ j. commit-within n (rules_of kinds) h j held in
    let size : length v.members ≡ length h.world.members = ap length members ∙ length-set h.world.members m (after row cut (member h.world m)) in
    let one : printed_by (length v.members) v h.printed ≡ longer h.printed (committed (member v m)) =
    prints-one v m (length v.members) h.printed (omega (arith, l, size)) (λ j other. subst (λ (x : Member). length (committed x) ≤ length h.printed) (sym (there j other)) (all j)) in
    let grows : Leads h.printed (printed_by (length v.members) v h.printed) =
    (prints n v (length v.members) h.printed (step-fits n h.world s held.inv held.fits)
    (held.printed.0, settled-moves h.world v held.printed.0 held.printed.0 h.printed (step-moves n h.world s held.inv held.fits) (omega (arith, ints)) held.printed.1)).1 in
    subst (Leads h.printed) (one ∙ ap (λ (x : Member). longer h.printed (committed x)) here) grows

-- in the world of a run
shown-grows : (n : ℕ) (kinds : List Kind) (h : Hosted) (w : RunWorld) (m : ℕ) (row : Row) (cut : Cut) (s : Step) → Held n (rules_of kinds) h → Shows h w → m < length w.seats → step h.world s ≡ acts h.world m row cut
    → Leads w.printed (longer w.printed (committed (after row cut (seat w m).member)))
shown-grows n kinds h w m row cut s held shows l is =
    let count = count-shown h w shows in
    subst (λ (p : Log). Leads p (longer p (committed (after row cut (seat w m).member)))) shows.printed
    (subst (λ (x : Member). Leads h.printed (longer h.printed (committed (after row cut x)))) (member-shown h w m shows)
    (step-grows n kinds h m row cut s held (omega (arith, l, count)) is))

-- ---- a duty

are-of : (t : ℤ) (es : List Event) → AllByRecursion (λ (e : Event). term_of e ≡ t) es → are_of t es ≡ true
are-of t [] all = refl
are-of t (e ∷ es) all = both (same_term (term_of e) t) (are_of t es) (same (term_of e) t all.0) (are-of t es all.1)
  where
    same : (a b : ℤ) → a ≡ b → same_term a b ≡ true
    same a b e = grind (arith, ints, e)

pub duty-grows : (n : ℕ) (kinds : List Kind) (h : Hosted) (w : RunWorld) (m : ℕ) (cut : Cut) → Held n (rules_of kinds) h → Shows h w → m < length w.seats → (seat w m).member.up ≡ true
    → Leads w.printed (longer w.printed (committed (after (row_of_duty (seat w m).member (due_at kinds (seat w m) w.now) w.now) cut (seat w m).member)))
duty-grows n kinds h w m cut held shows l up =
    let p = seat w m in
    let es : List Event = due_at kinds p w.now in
    let t = p.member.values.election.term in
    let ex = member-shown h w m shows in
    let bytes = due-bytes kinds (applied_events p) (ahead_events p) p.alive t w.now p.since in
    let of : are_of (member h.world m).values.election.term es ≡ true =
    ap (λ (x : Member). are_of x.values.election.term es) ex ∙ are-of t es (all_weaker (IsDue t w.now) (λ (e : Event). term_of e ≡ t) (λ e z. z.1) es bytes) in
    let guard : (is_running h.world m && are_of (member h.world m).values.election.term es) ≡ true = both (is_running h.world m) (are_of (member h.world m).values.election.term es) (runs-there h w m shows l up) of in
    let is : step h.world (Duty m es cut) ≡ acts h.world m (row_of_duty p.member es w.now) cut =
    ap (λ (b : Bool). if b then acts h.world m (row_of_duty (member h.world m) es h.world.now) cut else h.world) guard
    ∙ ap (λ (x : Member). acts h.world m (row_of_duty x es h.world.now) cut) ex
    ∙ ap (λ (now : ℕ). acts h.world m (row_of_duty p.member es now) cut) shows.now in
    shown-grows n kinds h w m (row_of_duty p.member es w.now) cut (Duty m es cut) held shows l is

-- ---- a packet

pub packet-grows : (n : ℕ) (kinds : List Kind) (h : Hosted) (w : RunWorld) (s : Sent) (cut : Cut) → Held n (rules_of kinds) h → Shows h w → Contains h.world.sent s → s.to < length w.seats → (seat w s.to).member.up ≡ true
    → Leads w.printed (longer w.printed (committed (after (row_of_packet (seat w s.to).member s.packet w.now) cut (seat w s.to).member)))
packet-grows n kinds h w s cut held shows has l up =
    let m = s.to in
    let p = seat w m in
    let ex = member-shown h w m shows in
    let at : slice_get h.world.sent has.0 ≡ Some s = slice_get-get_or h.world.sent has.0 s has.1 ∙ ap (λ (z : Sent). Some z) has.2 in
    let is : step h.world (Delivers has.0 cut) ≡ acts h.world m (row_of_packet p.member s.packet w.now) cut =
    ap (λ (o : Option Sent). comes h.world o cut) at
    ∙ ap (λ (b : Bool). if b then acts h.world m (row_of_packet (member h.world m) s.packet h.world.now) cut else h.world) (runs-there h w m shows l up)
    ∙ ap (λ (x : Member). acts h.world m (row_of_packet x s.packet h.world.now) cut) ex
    ∙ ap (λ (now : ℕ). acts h.world m (row_of_packet p.member s.packet now) cut) shows.now in
    shown-grows n kinds h w m (row_of_packet p.member s.packet w.now) cut (Delivers has.0 cut) held shows l is
