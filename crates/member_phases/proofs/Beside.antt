-- A phase that goes on, beside the calls of its member.
use Rattle.std.proofs.Common.{◌≡◌, ◌⊎◌, inl, inr, ℕ, ◌≤◌, Bool, true, false, ◌&&◌, ◌||◌, List, [], ◌++◌, length, map, take, refl, sym, ap, ◌∙◌, subst, arith, if◌then◌else◌}
use Rattle.std.specs.Prelude.{not}
use Rattle.std.proofs.lemmas.List.{append-nil, take-append-le}
use Rattle.cl_base.specs.Disk.{DiskState}
use Rattle.commit_counter.specs.Ends.{Fed}
use Rattle.entry_log.specs.Log.{Log}
use Rattle.sbe_consensus.specs.declared.packet.Outgoing.{Outgoing}
use Rattle.service_api.specs.declared.shipped.Kind.{Kind}
use Rattle.service_phases.specs.Feeds.{FeedHolds, FeedsFrom}
use Rattle.service_phases.specs.Pairs.{Each, Each2}
use Rattle.service_phases.specs.Phases.{IsWithin, Lending}
use Rattle.service_phases.specs.Stages.{IsLent}
use Rattle.service_phases.proofs.FedLog.{grows, stays, stays_within}
use Rattle.consensus_core.specs.declared.change.Change.{Change}
use Rattle.consensus_core.specs.declared.change.Change.TheVariants as changes
use Rattle.consensus_core.specs.declared.row.Row.{Row}
use Rattle.consensus_core.specs.declared.values.Values.{Values}
use Rattle.consensus_core.specs.Member.{After, Before, Cut, Member, Run, Whole, after, changed, changed_log, is_ready, stopped}
use Rattle.consensus_agent.specs.Sound.{ends_phase, is_cut}
use Rattle.run_phases.specs.Logs.{FeedsLog}
use Rattle.run_phases.proofs.Lists.{each2_weaker, each_weaker}
use Rattle.run_world.specs.Seat.{Fate, Seat, acted, becomes, halted, reigns_from, went_on}
use Rattle.run_orders.specs.Stands.{EndedSeen, IsEnded, IsSeat, IsUp, UpSeen, parts_of}
use Rattle.member_rows.specs.Calls.{RowDone}
use Rattle.member_rows.specs.Places.{run_ended, stopped_seat}
use Rattle.member_rows.proofs.Handed.{Ready}
use Rattle.member_rows.proofs.Logs.{front_same, keeps_of}
use Rattle.member_phases.specs.Calls.{commit_of, stage_of}
use Rattle.member_phases.specs.Frees.{HaveOutputs, PhaseRuns, StaysBeside, with_consumed}
use Rattle.member_phases.proofs.Owed.{each-append}
use Rattle.member_phases.proofs.Rested.{parts-more}

-- ---- what was fed and published

holds-on : (log next : Log) (commit later : ℕ) → commit ≤ later → take commit next ≡ take commit log → (b f : Fed) → FeedHolds log commit b f → FeedHolds next later b f
holds-on log next commit later low same b f h =
    let k = stays log next commit b f same h in
    record { image = k.image; list = k.list; begun = k.begun; pushed = k.pushed; due = (let d = k.due in omega (arith, d, low)) }

module _ {D : Type 0} (kinds : List Kind) (u v : UpSeen D) (feeds : List Fed) (s t : Seat) (runs : PhaseRuns kinds u feeds s) (d : StaysBeside u v s t) where
  abbrev old : Log
  old = s.member.durable.log

  abbrev new : Log
  new = t.member.durable.log

  lent-on : Each (IsWithin new (commit_of v)) v.lending.lent
  lent-on = subst (λ (l : Lending). Each (IsWithin new (commit_of v)) l.lent) (sym d.lending)
      (each_weaker (IsWithin old (commit_of u)) (IsWithin new (commit_of v)) (λ c is. stays_within old new (commit_of u) (commit_of v) c d.rises d.front is) u.lending.lent runs.holds.lent)

  fed-on : v.over ≡ false → FeedsLog new (stage_of v) feeds
  fed-on on =
      let z = d.grows on in
      let was = runs.fed z.0 in
      record {
        lent = lent-on;
        fed = subst (λ (l : Lending). Each2 (FeedsFrom new (commit_of v)) l.begun feeds) (sym d.lending)
            (each2_weaker (FeedsFrom old (commit_of u)) (FeedsFrom new (commit_of v)) (λ b f is. subst (λ (l : Log). FeedsFrom l (commit_of v) b f) (sym z.1.1) (grows old z.1.0 (commit_of u) (commit_of v) b f d.rises is)) u.lending.begun feeds was.fed);
      }

  pub goes-beside : PhaseRuns kinds v feeds t
  goes-beside = record {
    lent = subst (λ (l : Lending). Each (IsLent v.module_held.consumed) l.lent) (sym d.lending) (subst (λ (k : ℕ). Each (IsLent k) u.lending.lent) (sym d.consumed) runs.lent);
    kept = ap (λ (l : Lending). l.kept) d.lending ∙ runs.kept;
    out = subst (λ (l : Lending). HaveOutputs kinds t.applied l.lent t.run.inputs) (sym d.lending) (subst (λ (k : ℕ). HaveOutputs kinds k u.lending.lent t.run.inputs) (sym d.applied) (subst (λ (r : Run). HaveOutputs kinds s.applied u.lending.lent r.inputs) (sym d.run) runs.out));
    fed = fed-on;
    holds = record {
      lent = lent-on;
      fed = subst (λ (l : Lending). Each2 (FeedHolds new (commit_of v)) l.begun feeds) (sym d.lending)
          (each2_weaker (FeedHolds old (commit_of u)) (FeedHolds new (commit_of v)) (holds-on old new (commit_of u) (commit_of v) d.rises d.front) u.lending.begun feeds runs.holds.fed);
    };
  }

-- ---- a call that put entries behind the log, if any

pub more-beside : {D : Type 0} (u v : UpSeen D) (s t : Seat) (more : Log) → v.lending ≡ u.lending → v.module_held.consumed ≡ u.module_held.consumed → t.applied ≡ s.applied → t.run ≡ s.run → commit_of u ≤ commit_of v → commit_of u ≤ length s.member.durable.log
    → t.member.durable.log ≡ s.member.durable.log ++ more → v.over ≡ u.over → StaysBeside u v s t
more-beside {D} u v s t more lending consumed applied run rises low log over = record {
  lending = lending;
  consumed = consumed;
  applied = applied;
  run = run;
  rises = rises;
  front = ap (take (commit_of u)) log ∙ take-append-le (commit_of u) s.member.durable.log more low;
  grows = λ on. (sym over ∙ on, (more, log));
}

-- ---- a row of the member

log-after : (c : Change) (log : Log) → is_cut c ≡ false → (more : Log) × (changed_log c log ≡ log ++ more)
log-after changes.Nothing log same = ([], sym (append-nil log))
log-after (changes.Raise term voted) log same = ([], sym (append-nil log))
log-after (changes.Append entries) log same = (entries, refl)
log-after (changes.Cut n) log same = absurd (cc)

change-log : (c : Change) (x : Member) → (changed c x.durable).log ≡ changed_log c x.durable.log
change-log changes.Nothing x = refl
change-log (changes.Raise term voted) x = refl
change-log (changes.Append entries) x = refl
change-log (changes.Cut n) x = refl

neither : (a b : Bool) → (a || b) ≡ false → (a ≡ false) × (b ≡ false)
neither true b e = absurd (cc)
neither false b e = (refl, e)

module _ {D : Type 0} (state : D → DiskState) (is_told is_honest : D → Bool) (kinds : List Kind) (row : Row) (now : ℕ) (u v : UpSeen D) (s : Seat) (out : List Outgoing) (up : IsUp state kinds u true s) (ready : Ready row s.member) (low : s.member.values.rest.commit ≤ length s.member.durable.log) (d : RowDone state is_told is_honest row now u v out) where
  same : commit_of u ≡ s.member.values.rest.commit
  same = ap (λ (x : Values). x.rest.commit) up.values

  front : take (commit_of u) (changed row.change s.member.durable).log ≡ take (commit_of u) s.member.durable.log
  front =
      let r = ready.fits.rises in
      let a = same in
      ap (take (commit_of u)) (change-log row.change s.member)
      ∙ front_same row.change (commit_of u) s.member.durable.log (keeps_of row.change s.member.values row.values s.member.durable.log (commit_of u) ready.fits.can (omega (arith, r, a))) (omega (arith, low, a))

  more : v.over ≡ false → (u.over ≡ false) × ((es : Log) × ((changed row.change s.member.durable).log ≡ s.member.durable.log ++ es))
  more on =
      let z = neither u.over (ends_phase (is_ready u.core.values.election.state) row.change row.values.election.state) (sym d.taken.phase ∙ on) in
      let y = neither (is_cut row.change) (is_ready row.values.election.state && not (is_ready u.core.values.election.state)) z.1 in
      let l = log-after row.change s.member.durable.log y.0 in
      (z.0, (l.0, change-log row.change s.member ∙ l.1))

  -- whichever reign's keep-alives it has
  stays-so : (t : Seat) (f : Fate) → t.applied ≡ s.applied → t.run ≡ s.run → StaysBeside u v s (went_on (after row Whole s.member) f t)
  stays-so t f applied run = record {
    lending = d.rest.services;
    consumed = d.taken.taken.consumed;
    applied = applied;
    run = run;
    rises = (let r = ready.fits.rises in let a = same in let b = ap (λ (x : Values). x.rest.commit) d.ran.values in omega (arith, r, a, b));
    front = front;
    grows = more;
  }

  by-reign : (b : Bool) (f : Fate) → StaysBeside u v s (went_on (after row Whole s.member) f (if b then record s { alive = []; since = now } else s))
  by-reign true f = stays-so (record s { alive = []; since = now }) f refl refl
  by-reign false f = stays-so s f refl refl

  pub row-beside : (f : Fate) → f.cut ≡ Whole → StaysBeside u v s (acted row now f s)
  row-beside f whole =
      subst (λ (c : Cut). StaysBeside u v s (becomes (after row c s.member) f (reigns_from now row s))) (sym whole)
      (by-reign (is_ready row.values.election.state && not (is_ready s.member.values.election.state)) f)

-- ---- a row, or a look, that a fault ended, and then its phase was dropped

module _ {D : Type 0} (state : D → DiskState) (kinds : List Kind) (x v : UpSeen D) (ended : List EndedSeen) (disk : D) (inputs : List Log) where
  pub dropped-halted : (y : Member) (own : ℕ) (s : Seat) → IsSeat state kinds (stopped_seat ended x true disk) (halted y own s) → Each2 IsEnded ended (parts_of s.ended) → Each2 IsEnded (run_ended v false) (map (λ (xs : Log). (s.run.first, xs)) inputs)
      → IsSeat state kinds (stopped_seat ended v false disk) (halted y own (with_consumed inputs s))
  dropped-halted y own s is was now = record {
    home = record {
      kept = is.home.kept;
      mountable = is.home.mountable;
      settled = is.home.settled;
      reads = is.home.reads;
      durable = is.home.durable;
      member = is.home.member;
      run = refl;
      applied = refl;
      phase = refl;
      alive = refl;
      since = refl;
    };
    faults = is.faults;
    ended =
        subst (Each2 IsEnded (ended ++ run_ended v false)) (sym (parts-more s.ended (with_consumed inputs s).run))
        (each-append IsEnded ended (run_ended v false) (parts_of s.ended) (map (λ (xs : Log). (s.run.first, xs)) inputs) was now);
  }

  module _ (row : Row) (now : ℕ) (s : Seat) (was : Each2 IsEnded ended (parts_of s.ended)) (own : Each2 IsEnded (run_ended v false) (map (λ (xs : Log). (s.run.first, xs)) inputs)) where
    abbrev begins : Bool
    begins = is_ready row.values.election.state && not (is_ready s.member.values.election.state)

    by-case : (b : Bool) (y : Member) (k : ℕ) → IsSeat state kinds (stopped_seat ended x true disk) (halted y k (if b then record s { alive = []; since = now } else s))
        → IsSeat state kinds (stopped_seat ended v false disk) (halted y k (if b then record (with_consumed inputs s) { alive = []; since = now } else with_consumed inputs s))
    by-case true y k is = dropped-halted y k (record s { alive = []; since = now }) is was own
    by-case false y k is = dropped-halted y k s is was own

    pub dropped-acted : (f : Fate) → (f.cut ≡ Before) ⊎ (f.cut ≡ After) → IsSeat state kinds (stopped_seat ended x true disk) (acted row now f s) → IsSeat state kinds (stopped_seat ended v false disk) (acted row now f (with_consumed inputs s))
    dropped-acted f (inl e) is =
        subst (λ (c : Cut). IsSeat state kinds (stopped_seat ended v false disk) (becomes (after row c s.member) f (reigns_from now row (with_consumed inputs s)))) (sym e)
        (by-case begins (stopped s.member.durable) f.own (subst (λ (c : Cut). IsSeat state kinds (stopped_seat ended x true disk) (becomes (after row c s.member) f (reigns_from now row s))) e is))
    dropped-acted f (inr e) is =
        subst (λ (c : Cut). IsSeat state kinds (stopped_seat ended v false disk) (becomes (after row c s.member) f (reigns_from now row (with_consumed inputs s)))) (sym e)
        (by-case begins (stopped (changed row.change s.member.durable)) f.own (subst (λ (c : Cut). IsSeat state kinds (stopped_seat ended x true disk) (becomes (after row c s.member) f (reigns_from now row s))) e is))
