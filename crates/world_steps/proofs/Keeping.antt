-- What each step keeps: that no service consumed anything, and that all numbers are in their ranges.
use Rattle.std.proofs.Common.{◌≡◌, ◌≢◌, inl, inr, ℕ, ◌<◌, ◌≤◌, Bool, true, false, List, [], length, set, take, Option, refl, sym, ap, ◌∙◌, subst, arith, ℤ, get_or-set_same, get_or-set_other}
use Rattle.std.specs.Prelude.{nat_lt, not, slice_index_or}
use Rattle.std.proofs.lemmas.Int.{ints}
use Rattle.std.proofs.lemmas.Bool.{cases_eq}
use Rattle.std.proofs.lemmas.Bool.Decides.{nat_tests}
use Rattle.entry_log.specs.Durable.{Durable, fresh, first_commit, latest_set, entries_of_set}
use Rattle.entry_log.specs.Log.{Log}
use Rattle.entry_log.specs.Shape.{shape_of}
use Rattle.election.specs.Rows.{begins}
use Rattle.consensus_core.specs.Fit.{IsFit, IsTerm}
use Rattle.consensus_core.specs.Member.{Member, Cut, Whole, Before, After, stopped, after, changed, starts, stops}
use Rattle.consensus_core.specs.declared.change.Change.{Change}
use Rattle.consensus_core.specs.declared.change.Change.TheVariants as changes
use Rattle.consensus_core.specs.declared.row.Row.{Row}
use Rattle.world.specs.World.{World, Passes, Starts, Stops, member, acts, becomes, step, is_running, is_stopped}
use Rattle.world.proofs.Effects.{if-cases}
use Rattle.world.proofs.Rows.{and_true}
use Rattle.service_runs.specs.Hosts.{Rules, Host, Hosted, Idle, follow, marked, noted}
use Rattle.one_log.specs.Led.{Led, consumes, further}
use Rattle.run_world.specs.Lawful.{IsSpelled}
use Rattle.run_world.proofs.Spelled.{put-spelled}
use Rattle.world_steps.specs.Steps.{IsQuiet}
use Rattle.world_steps.proofs.Turned.{noted_led}

-- a member that starts has no commit, and no snapshot is put
pub record IsFresh (w v : World) : Type 0 where
  pub commit : (m : ℕ) → (member w m).up ≡ false → (member v m).up ≡ true → (member v m).values.rest.commit ≡ 0
  pub bare : (m : ℕ) → (member v m).durable.snapshots ≡ []

-- ---- the services

follow-idle : (r : Rules) (x y : Member) (h : Host) → h.stage ≡ Idle → (follow r x y h).stage ≡ Idle
follow-idle r x y h idle =
    if-cases (λ (z : Host). z.stage ≡ Idle) y.up _ _
    (λ a. if-cases (λ (z : Host). z.stage ≡ Idle) x.up _ _ (λ b. ap (marked x y) idle) (λ b. refl))
    (λ a. if-cases (λ (z : Host). z.stage ≡ Idle) x.up _ _ (λ b. refl) (λ b. idle))

follow-applied : (r : Rules) (x y : Member) (h : Host) → h.applied ≡ 0 → (x.up ≡ false → y.up ≡ true → y.values.rest.commit ≡ 0) → (follow r x y h).applied ≡ 0
follow-applied r x y h none commit =
    if-cases (λ (z : Host). z.applied ≡ 0) y.up _ _
    (λ a. if-cases (λ (z : Host). z.applied ≡ 0) x.up _ _ (λ b. none) (λ b. commit b a))
    (λ a. if-cases (λ (z : Host). z.applied ≡ 0) x.up _ _ (λ b. refl) (λ b. none))

further-none : (xs log : Log) (k : ℕ) → xs ≡ [] → k ≡ 0 → further xs k log ≡ []
further-none xs log k e z = ap (λ (ys : Log). further ys k log) e ∙ ap (λ (n : ℕ). further [] n log) z

consumes-none : (l : Led) (v : Hosted) (m : ℕ) → l.consumed m ≡ [] → (v.hosts m).applied ≡ 0 → consumes l v m ≡ []
consumes-none l v m none zero =
    if-cases (λ (z : Log). z ≡ []) (member v.world m).up _ _
    (λ a. if-cases (λ (z : Log). z ≡ []) (member l.hosted.world m).up _ _
    (λ b. further-none (l.consumed m) (member v.world m).durable.log (v.hosts m).applied none zero)
    (λ b. ap (λ (k : ℕ). take k (member v.world m).durable.log) zero))
    (λ a. refl)

pub quiet-noted : (r : Rules) (l : Led) (v : World) → IsQuiet l → IsFresh l.hosted.world v → IsQuiet (noted_led r l v)
quiet-noted r l v q f =
    let applied : (m : ℕ) → (follow r (member l.hosted.world m) (member v m) (l.hosted.hosts m)).applied ≡ 0 =
    λ m. follow-applied r (member l.hosted.world m) (member v m) (l.hosted.hosts m) (q.applied m) (f.commit m) in
    record {
      idle = λ m. follow-idle r (member l.hosted.world m) (member v m) (l.hosted.hosts m) (q.idle m);
      applied = applied;
      consumed = λ m. consumes-none l (noted r l.hosted v) m (q.consumed m) (applied m);
      bare = f.bare;
    }

-- ---- changes of one member

-- what is so of the members as they were and of the one that changed is so of each
each-after : (w v : World) (m : ℕ) (y : Member) (Q : Member → Type 0) → v.members ≡ set w.members m y → m < length w.members → ((k : ℕ) → k ≢ m → Q (member w k)) → Q y → (k : ℕ) → Q (member v k)
each-after w v m y Q e l theirs mine k =
    subst (λ (xs : List Member). Q (slice_index_or xs k (stopped fresh))) (sym e) (elim (cases_eq k m) [
      | inl same ↦ subst (λ (j : ℕ). Q (slice_index_or (set w.members m y) j (stopped fresh))) (sym same) (subst Q (sym (get_or-set_same w.members m y (stopped fresh) l)) mine)
      | inr other ↦ subst Q (sym (get_or-set_other w.members m k y (stopped fresh) other)) (theirs k other)
    ])

-- of each member's start
changes-at : (w v : World) (m : ℕ) (y : Member) (Q : ℕ → Member → Type 0) → v.members ≡ set w.members m y → m < length w.members → ((k : ℕ) → k ≢ m → Q k (member w k)) → Q m y → (k : ℕ) → Q k (member v k)
changes-at w v m y Q e l theirs mine k =
    subst (λ (xs : List Member). Q k (slice_index_or xs k (stopped fresh))) (sym e) (elim (cases_eq k m) [
      | inl same ↦ subst (λ (j : ℕ). Q j (slice_index_or (set w.members m y) j (stopped fresh))) (sym same) (subst (Q m) (sym (get_or-set_same w.members m y (stopped fresh) l)) mine)
      | inr other ↦ subst (Q k) (sym (get_or-set_other w.members m k y (stopped fresh) other)) (theirs k other)
    ])

-- it commits nothing as it starts
abbrev pub StartsBare : World → ℕ → Member → Type 0
StartsBare w k y = (member w k).up ≡ false → y.up ≡ true → y.values.rest.commit ≡ 0

off-on : (b : Bool) → b ≡ false → b ≡ true → ⊥
off-on true e f = absurd (cc)
off-on false e f = absurd (cc)

pub fresh-change : (w v : World) (m : ℕ) (y : Member) → v.members ≡ set w.members m y → m < length w.members → ((k : ℕ) → (member w k).durable.snapshots ≡ []) → y.durable.snapshots ≡ [] → StartsBare w m y → IsFresh w v
fresh-change w v m y e l bare mine commit = record {
  commit = changes-at w v m y (StartsBare w) e l (λ k other down up. absurd (off-on (member w k).up down up)) commit;
  bare = each-after w v m y (λ (x : Member). x.durable.snapshots ≡ []) e l (λ k other. bare k) mine;
}

pub fresh-same : (w v : World) → v.members ≡ w.members → ((k : ℕ) → (member w k).durable.snapshots ≡ []) → IsFresh w v
fresh-same w v e bare = record {
  commit = λ m down up. absurd (off-on (member w m).up down (ap (λ (xs : List Member). (slice_index_or xs m (stopped fresh)).up) (sym e) ∙ up));
  bare = λ m. ap (λ (xs : List Member). (slice_index_or xs m (stopped fresh)).durable.snapshots) e ∙ bare m;
}

changed-bare : (c : Change) (d : Durable) → d.snapshots ≡ [] → (changed c d).snapshots ≡ []
changed-bare changes.Nothing d e = e
changed-bare (changes.Raise term voted) d e = e
changed-bare (changes.Append entries) d e = e
changed-bare (changes.Cut n) d e = e

after-bare : (row : Row) (cut : Cut) (x : Member) → x.durable.snapshots ≡ [] → (after row cut x).durable.snapshots ≡ []
after-bare row Whole x e = changed-bare row.change x.durable e
after-bare row Before x e = e
after-bare row After x e = changed-bare row.change x.durable e

pub acts-members : (w : World) (m : ℕ) (row : Row) (cut : Cut) → (acts w m row cut).members ≡ set w.members m (after row cut (member w m))
unfolding acts
acts-members w m row cut = refl

pub fresh-row : (w : World) (m : ℕ) (row : Row) (cut : Cut) → m < length w.members → (member w m).up ≡ true → ((k : ℕ) → (member w k).durable.snapshots ≡ []) → IsFresh w (acts w m row cut)
fresh-row w m row cut l up bare =
    fresh-change w (acts w m row cut) m (after row cut (member w m)) (acts-members w m row cut) l bare (after-bare row cut (member w m) (bare m)) (λ down on. absurd (off-on (member w m).up down up))

-- ---- starts and stops

no-commit : (services : ℕ) (d : Durable) → d.snapshots ≡ [] → first_commit services d ≡ 0
no-commit services d e = ap (λ (ss : List _). entries_of_set (latest_set services ss) (shape_of d.log)) e

begins-fit : (id members : ℕ) (candidate : ℤ) (voted : Option ℕ) → id < members → members ≤ 5 → IsTerm candidate → IsFit (begins id members candidate voted)
begins-fit id members candidate voted l five t = record {
  members = five;
  id = l;
  candidate = t;
  term = record { low = omega (arith, ints); high = omega (arith, ints) };
  balloting = λ b. absurd (cc);
  reigning = λ b. absurd (cc);
}

stopped-parts : (w : World) (m : ℕ) → is_stopped w m ≡ true → (m < length w.members) × ((member w m).up ≡ false)
stopped-parts w m h = let p = and_true (nat_lt m (length w.members)) (not (member w m).up) h in ((let q = p.0 in grind (arith, nat_tests, q)), off (member w m).up p.1)
  where
    off : (b : Bool) → not b ≡ true → b ≡ false
    off true e = absurd (cc)
    off false e = refl

-- a step that keeps all this
pub record Keeps (w v : World) : Type 0 where
  pub fresh : IsFresh w v
  pub spelled : IsSpelled v

pub start-keeps : (w : World) (m services : ℕ) → length w.members ≤ 5 → ((k : ℕ) → (member w k).durable.snapshots ≡ []) → IsSpelled w → Keeps w (step w (Starts m services))
start-keeps w m services five bare spelled =
    if-cases (Keeps w) (is_stopped w m) _ _
    (λ b.
    let p = stopped-parts w m b in
    let y = starts m (length w.members) services (member w m).durable in
    record {
      fresh = fresh-change w (becomes w m y) m y refl p.0 bare (bare m) (λ down up. no-commit services (member w m).durable (bare m));
      spelled = put-spelled w m y [] [] [] p.0 (λ up. begins-fit m (length w.members) (member w m).durable.candidate (member w m).durable.voted p.0 five (spelled.kept m)) (λ up. tt) (spelled.kept m) tt tt spelled;
    })
    (λ b. record { fresh = fresh-same w w refl bare; spelled = spelled })

pub stop-keeps : (w : World) (m : ℕ) → ((k : ℕ) → (member w k).durable.snapshots ≡ []) → IsSpelled w → Keeps w (step w (Stops m))
stop-keeps w m bare spelled =
    if-cases (Keeps w) (is_running w m) _ _
    (λ b.
    let p = and_true (nat_lt m (length w.members)) (member w m).up b in
    let l : m < length w.members = (let q = p.0 in grind (arith, nat_tests, q)) in
    let y = stops (member w m) in
    record {
      fresh = fresh-change w (becomes w m y) m y refl l bare (bare m) (λ down up. absurd (cc));
      spelled = put-spelled w m y [] [] [] l (λ up. absurd (cc)) (λ up. absurd (cc)) (spelled.kept m) tt tt spelled;
    })
    (λ b. record { fresh = fresh-same w w refl bare; spelled = spelled })

pub pass-keeps : (w : World) (now : ℕ) → ((k : ℕ) → (member w k).durable.snapshots ≡ []) → IsSpelled w → Keeps w (step w (Passes now))
pass-keeps w now bare i = record {
  fresh = fresh-same w (step w (Passes now)) refl bare;
  spelled = record { fit = i.fit; leads = i.leads; kept = i.kept; sent = i.sent; to = i.to };
}
