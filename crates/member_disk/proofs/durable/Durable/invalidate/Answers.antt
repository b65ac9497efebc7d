use Rattle.std.specs.Prelude.{vec_capacity, IsFalse}
use Rattle.std.proofs.Common.{◌≤◌, ◌+◌, ◌↔◌, Bool, List, length, Result, Ok, Err, sym, ◌∙◌, ap, subst, arith}
use Rattle.recording_log.specs.declared.entry.RecEntry.{RecEntry}
use Rattle.recording_log.specs.Sets.{HasNoSet, IsLatest, struck}
use Rattle.member_disk.specs.Kept.{Kept, ReadsAs, EachStands}
use Rattle.member_disk.proofs.Looking.{on_ok}
use Rattle.member_disk.proofs.Standing.{after_entries}
use Rattle.cl_base.specs.Runs.{DiskLaws}
use Rattle.cl_base.specs.Every.{EveryImage}
use Rattle.cl_base.specs.declared.fault.MemberFault.{MemberFault}
use Rattle.cl_base.specs.declared.fault.MemberFault.TheVariants.{NoMemory}
use Rattle.recording_log.specs.Entries.{Holds}
use Rattle.log_segment.specs.Held.{new_terms}
use Rattle.member_disk.specs.Struck.{IsStruck, with_struck}
use Rattle.member_disk.specs.CutWell.{no_file}
use Rattle.member_disk.proofs.Compose.{every_of}
use Rattle.member_disk.proofs.Strikes.{strike_made, not_struck}
use Rattle.member_disk.proofs.Sparing.{spares_none, spares_file, front_file}
use Rattle.member_disk.proofs.CutWells.{strike_cut_well, strike_terms}
use Rattle.member_disk.proofs.durable.Durable.invalidate.Given as given
use Rattle.member_disk.proofs.durable.Durable.invalidate.Goals as goal

abbrev laws_of : (g : given.Over) → DiskLaws g.row.D.Denot
laws_of g = record {
  state = g.D.Disk.state;
  is_honest = g.D.Disk.is_honest;
  tells = g.D.Disk.tells;
  moment = g.D.Disk.moment;
  left_since = g.D.Disk.left_since;
  reads = g.met.D.Disk.reads_is_image;
  synced = g.met.D.Disk.synced_is_image;
  honest_tells = g.met.D.Disk.honest_tells;
  only_now = g.met.D.Disk.only_now;
}

pub list_sets-requires : goal.list_sets-requires
list_sets-requires g c =
    let count = c.in-Ok.ensures.count in
    let room = on_ok c.reserve_sets.result (length c.self.inside.recording + 0 ≤ vec_capacity c.reserve_sets.new.sets) (sym c.is_err.ensures.value ∙ c.if-is_err.false) c.reserve_sets.ensures.room in
    omega (arith, room, count)

pub returns-in-Ok-clause-found : goal.returns-in-Ok-clause-found
returns-in-Ok-clause-found g c = subst (λ (k : Kept). IsFalse c.in-Ok.found ↔ HasNoSet k.services k.entries) c.self.view_is c.in-Ok.ensures.found

pub returns-in-Ok-clause-nothing : goal.returns-in-Ok-clause-nothing
returns-in-Ok-clause-nothing g c none =
    let there = subst (λ (k : Kept). HasNoSet k.services k.entries) (sym c.self.view_is) none in
    let same = (c.invalidate_latest.ensures.nothing there).0 in
    ap (λ (es : List RecEntry). let k : Kept = record { node = c.self.inside.node; entries = es; log = c.self.inside.log; services = c.self.inside.services } in k) same ∙ c.self.view_is

pub returns-in-Ok-clause-untouched : goal.returns-in-Ok-clause-untouched
returns-in-Ok-clause-untouched g c none =
    let there = subst (λ (k : Kept). HasNoSet k.services k.entries) (sym c.self.view_is) none in
    (c.invalidate_latest.ensures.nothing there).1

pub returns-in-Err-clause-untouched : goal.returns-in-Err-clause-untouched
returns-in-Err-clause-untouched g c none =
    let there = subst (λ (k : Kept). HasNoSet k.services k.entries) (sym c.self.view_is) none in
    (c.invalidate_latest.ensures.nothing there).1

pub returns-in-Ok-clause-stands : goal.returns-in-Ok-clause-stands
returns-in-Ok-clause-stands g c told =
    let mine : Kept = record { node = c.self.inside.node; entries = c.self.inside.recording; log = c.self.inside.log; services = c.self.inside.services } in
    let f0 = (g.D.Disk.state c.args.disk.now).files in
    let f1 = (g.D.Disk.state c.invalidate_latest.new.disk).files in
    let reads = subst (λ (k : Kept). ReadsAs k f0) (sym c.self.view_is) (c.requires.stands told) in
    after_entries mine f0 f1 reads c.invalidate_latest.new.self (c.invalidate_latest.ensures.others told) (c.in-Ok.ensures.mounted told)

pub returns-in-Ok-clause-struck : goal.returns-in-Ok-clause-struck
returns-in-Ok-clause-struck g c honest all i e latest =
    let mine : Kept = record { node = c.self.inside.node; entries = c.self.inside.recording; log = c.self.inside.log; services = c.self.inside.services } in
    let d0 = c.args.disk.now in
    let d1 = c.invalidate_latest.new.disk in
    let f0 = (g.D.Disk.state d0).files in
    let f1 = (g.D.Disk.state d1).files in
    let result : Result Bool MemberFault = Ok c.in-Ok.found in
    let here = subst (λ (k : Kept). EachStands k f0) (sym c.self.view_is) all in
    let there = subst (λ (k : Kept). IsLatest k.services k.entries i e) (sym c.self.view_is) latest in
    subst (λ (k : Kept). IsStruck g.D.Disk.state g.D.Disk.moment g.D.Disk.left_since k (with_struck k i e) d0 d1 result) c.self.view_is
    (strike_made (laws_of g) Bool mine (struck i e mine.entries) d0 d1 result honest here (c.invalidate_latest.ensures.others (g.met.D.Disk.honest_tells d0 honest)) (λ every. subst (λ (es : List RecEntry). EveryImage 1 (Holds es) f0 f1) (c.in-Ok.ensures.ok i e there) (c.in-Ok.ensures.done honest every))
    (λ every. c.invalidate_latest.ensures.each honest every i e there) (λ every. c.invalidate_latest.ensures.cut_well honest every i e there) (λ every. c.in-Ok.ensures.fuse honest every i e there))

pub returns-in-Ok-clause-spares : goal.returns-in-Ok-clause-spares
returns-in-Ok-clause-spares g c honest all i e latest =
    let mine : Kept = record { node = c.self.inside.node; entries = c.self.inside.recording; log = c.self.inside.log; services = c.self.inside.services } in
    let d0 = c.args.disk.now in
    let here = subst (λ (k : Kept). EachStands k (g.D.Disk.state d0).files) (sym c.self.view_is) all in
    let latest_here = subst (λ (k : Kept). IsLatest k.services k.entries i e) (sym c.self.view_is) latest in
    let there = every_of (laws_of g) 1 (Holds mine.entries) mine d0 honest here (λ x is. is.entries) in
    spares_file (laws_of g) no_file 1 _ d0 c.invalidate_latest.new.disk (front_file no_file 1 (omega arith)) (c.invalidate_latest.ensures.others (g.met.D.Disk.honest_tells d0 honest)) (c.invalidate_latest.ensures.cut_well honest there i e latest_here)

pub returns-in-Err-clause-struck : goal.returns-in-Err-clause-struck
returns-in-Err-clause-struck g c honest all i e latest =
    let mine : Kept = record { node = c.self.inside.node; entries = c.self.inside.recording; log = c.self.inside.log; services = c.self.inside.services } in
    let d0 = c.args.disk.now in
    let d1 = c.invalidate_latest.new.disk in
    let f0 = (g.D.Disk.state d0).files in
    let f1 = (g.D.Disk.state d1).files in
    let result : Result Bool MemberFault = Err c.in-Err.fault in
    let here = subst (λ (k : Kept). EachStands k f0) (sym c.self.view_is) all in
    let there = subst (λ (k : Kept). IsLatest k.services k.entries i e) (sym c.self.view_is) latest in
    subst (λ (k : Kept). IsStruck g.D.Disk.state g.D.Disk.moment g.D.Disk.left_since k (with_struck k i e) d0 d1 result) c.self.view_is
    (strike_made (laws_of g) Bool mine (struck i e mine.entries) d0 d1 result honest here (c.invalidate_latest.ensures.others (g.met.D.Disk.honest_tells d0 honest)) (λ every. tt)
    (λ every. c.invalidate_latest.ensures.each honest every i e there) (λ every. c.invalidate_latest.ensures.cut_well honest every i e there) (λ every. c.in-Err.ensures.fuse honest every i e there))

pub returns-in-Err-clause-spares : goal.returns-in-Err-clause-spares
returns-in-Err-clause-spares g c honest all i e latest =
    let mine : Kept = record { node = c.self.inside.node; entries = c.self.inside.recording; log = c.self.inside.log; services = c.self.inside.services } in
    let d0 = c.args.disk.now in
    let here = subst (λ (k : Kept). EachStands k (g.D.Disk.state d0).files) (sym c.self.view_is) all in
    let latest_here = subst (λ (k : Kept). IsLatest k.services k.entries i e) (sym c.self.view_is) latest in
    let there = every_of (laws_of g) 1 (Holds mine.entries) mine d0 honest here (λ x is. is.entries) in
    spares_file (laws_of g) no_file 1 _ d0 c.invalidate_latest.new.disk (front_file no_file 1 (omega arith)) (c.invalidate_latest.ensures.others (g.met.D.Disk.honest_tells d0 honest)) (c.invalidate_latest.ensures.cut_well honest there i e latest_here)

pub returns-then-is_err-clause-struck : goal.returns-then-is_err-clause-struck
returns-then-is_err-clause-struck g c honest all i e latest = not_struck (laws_of g) Bool c.args.self.now (with_struck c.args.self.now i e) c.args.disk.now NoMemory honest all (λ is. absurd (cc))

pub returns-then-is_err-clause-spares : goal.returns-then-is_err-clause-spares
returns-then-is_err-clause-spares g c honest all i e latest = spares_none (laws_of g) no_file c.args.disk.now honest

pub returns-in-Ok-clause-cut_well : goal.returns-in-Ok-clause-cut_well
returns-in-Ok-clause-cut_well g c honest all terms i e latest =
    let kept = c.args.self.now in
    strike_cut_well g.D.Disk.state g.D.Disk.moment g.D.Disk.left_since Bool no_file kept (with_struck kept i e) c.args.disk.now c.invalidate_latest.new.disk (Ok c.in-Ok.found) terms (strike_terms kept.services kept.entries i e (new_terms 0 kept.log) latest terms)
    (returns-in-Ok-clause-struck g c honest all i e latest) (returns-in-Ok-clause-spares g c honest all i e latest)

pub returns-in-Err-clause-cut_well : goal.returns-in-Err-clause-cut_well
returns-in-Err-clause-cut_well g c honest all terms i e latest =
    let kept = c.args.self.now in
    strike_cut_well g.D.Disk.state g.D.Disk.moment g.D.Disk.left_since Bool no_file kept (with_struck kept i e) c.args.disk.now c.invalidate_latest.new.disk (Err c.in-Err.fault) terms (strike_terms kept.services kept.entries i e (new_terms 0 kept.log) latest terms)
    (returns-in-Err-clause-struck g c honest all i e latest) (returns-in-Err-clause-spares g c honest all i e latest)

pub returns-then-is_err-clause-cut_well : goal.returns-then-is_err-clause-cut_well
returns-then-is_err-clause-cut_well g c honest all terms i e latest =
    let kept = c.args.self.now in
    strike_cut_well g.D.Disk.state g.D.Disk.moment g.D.Disk.left_since Bool no_file kept (with_struck kept i e) c.args.disk.now c.args.disk.now (Err NoMemory) terms (strike_terms kept.services kept.entries i e (new_terms 0 kept.log) latest terms)
    (returns-then-is_err-clause-struck g c honest all i e latest) (returns-then-is_err-clause-spares g c honest all i e latest)
