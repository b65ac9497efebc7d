-- Each exit of an invalidation.
use Rattle.std.proofs.Common.{◌≡◌, ℕ, ◌+◌, ◌*◌, ◌<◌, [], ◌∷◌, List, length, slice_get, get_or, Some, refl, sym, ◌∙◌, subst, ap, arith, length-set}
use Rattle.std.proofs.lemmas.Option.{slice_get_read, slice_get-get_or}
use Rattle.cl_base.specs.Disk.{FileState, overwritten}
use Rattle.recording_log.specs.declared.entry.RecEntry.{RecEntry}
use Rattle.recording_log.specs.Entries.{Holds}
use Rattle.recording_log.specs.Sets.{HasNoSet, IsLatest, IsStrike, struck, struck_kind}
use Rattle.cl_base.specs.EveryRun.{every_settled}
use Rattle.cl_base.specs.Fuse.{fuse_of_member}
use Rattle.recording_log.specs.Steps.{StrikeLeft}
use Rattle.recording_log.specs.Parts.{Tells, TellsWith, part_of}
use Rattle.recording_log.proofs.PartLemmas.{with_struck}
use Rattle.recording_log.proofs.SetLemmas.{zero_entry, latest_once}
use Rattle.recording_log.proofs.StrikeLemmas.{with_kind, snapshot_kind, no_term, terms_set, once_struck, struck_holds}
use Rattle.recording_log.proofs.log.RecordingLog.invalidate_latest.Goals as goal

-- a strike at the place of the latest set's entry, however it was found
strike_of : (services : ℕ) (entries : List RecEntry) (i j : ℕ) (e d : RecEntry) → IsLatest services entries i e → IsLatest services entries j d → IsStrike (64 * i + 47) j d entries
strike_of services entries i j e d mine other =
    let once = latest_once services entries i j e d mine other in
    record { place = omega (arith, once); there = other.at; snapshot = snapshot_kind d other.part.0 }

pub returns-in-None-clause-found : goal.returns-in-None-clause-found
returns-in-None-clause-found g c =
    let none = subst (HasNoSet c.args.services) (c.deref.ensures.value ∙ c.self.view_is) c.in-None.ensures.latest in
    (λ is. none, λ set. refl)

pub returns-in-None-clause-ok : goal.returns-in-None-clause-ok
returns-in-None-clause-ok g c i e latest =
    let none = subst (HasNoSet c.args.services) (c.deref.ensures.value ∙ c.self.view_is) c.in-None.ensures.latest in
    absurd (none e.term e.position latest.whole)

pub returns-in-None-clause-cut_well : goal.returns-in-None-clause-cut_well
returns-in-None-clause-cut_well g c honest every i e latest =
    let none = subst (HasNoSet c.args.services) (c.deref.ensures.value ∙ c.self.view_is) c.in-None.ensures.latest in
    absurd (none e.term e.position latest.whole)

pub returns-in-None-clause-fuse : goal.returns-in-None-clause-fuse
returns-in-None-clause-fuse g c honest every i e latest =
    let none = subst (HasNoSet c.args.services) (c.deref.ensures.value ∙ c.self.view_is) c.in-None.ensures.latest in
    absurd (none e.term e.position latest.whole)

pub invariant_of-self : goal.invariant_of-self
invariant_of-self g c =
    let items = c.self.inside.entries.items in
    let now = c.args.self.now in
    let m : RecEntry = c.index_mut.result.now in
    let within : c.in-Some.i < length items = omega (arith, c.in-Some.ensures.within, ap length c.deref.ensures.value) in
    let there : slice_get items c.in-Some.i ≡ Some m = slice_get_read items (length items) c.in-Some.i m refl within c.index_mut.ensures.value in
    let mine : IsLatest c.args.services now c.in-Some.i m = subst (λ l. IsLatest c.args.services l c.in-Some.i m) (c.deref.ensures.value ∙ c.self.view_is)
    (c.in-Some.ensures.latest m (subst (λ l. slice_get l c.in-Some.i ≡ Some m) (sym c.deref.ensures.value) there)) in
    let one = snapshot_kind m mine.part.0 in
    let v = with_kind struck_kind m in (
      omega (arith, length-set items c.in-Some.i v, c.self.invariant.0),
      c.self.invariant.1 ∙ sym (terms_set items c.in-Some.i m v there (no_term m (omega (arith, one))) (no_term v (omega arith))),
      subst (Tells c.let_go.new.self) c.deref-in-Ok.ensures.value c.let_go.ensures,
    )

pub let_go-requires : goal.let_go-requires
let_go-requires g c =
    let items = c.self.inside.entries.items in
    let i = c.in-Some.i in
    let m : RecEntry = c.index_mut.result.now in
    let read : RecEntry = c.index-entry.result.now in
    let within : i < length items = omega (arith, c.in-Some.ensures.within, ap length c.deref.ensures.value) in
    let there : slice_get items i ≡ Some m = slice_get_read items (length items) i m refl within c.index_mut.ensures.value in
    let once : slice_get items i ≡ Some read = slice_get_read items (length items) i read refl within c.index-entry.ensures in
    let same : m ≡ read = cc in
    subst (TellsWith (part_of read) c.self.inside.parts) (sym c.deref-in-Ok.ensures.value)
    (subst (λ (d : RecEntry). TellsWith (part_of d) c.self.inside.parts (struck i m items)) same (with_struck c.self.inside.parts items i m there c.self.invariant.2))

pub returns-in-Ok-clause-found : goal.returns-in-Ok-clause-found
returns-in-Ok-clause-found g c =
    let items = c.self.inside.entries.items in
    let now = c.args.self.now in
    let m : RecEntry = c.index_mut.result.now in
    let within : c.in-Some.i < length items = omega (arith, c.in-Some.ensures.within, ap length c.deref.ensures.value) in
    let there : slice_get items c.in-Some.i ≡ Some m = slice_get_read items (length items) c.in-Some.i m refl within c.index_mut.ensures.value in
    let mine : IsLatest c.args.services now c.in-Some.i m = subst (λ l. IsLatest c.args.services l c.in-Some.i m) (c.deref.ensures.value ∙ c.self.view_is)
    (c.in-Some.ensures.latest m (subst (λ l. slice_get l c.in-Some.i ≡ Some m) (sym c.deref.ensures.value) there)) in
    (λ is. absurd (cc), λ none. absurd (none m.term m.position mine.whole))

pub returns-in-Ok-clause-nothing : goal.returns-in-Ok-clause-nothing
returns-in-Ok-clause-nothing g c none =
    let items = c.self.inside.entries.items in
    let now = c.args.self.now in
    let m : RecEntry = c.index_mut.result.now in
    let within : c.in-Some.i < length items = omega (arith, c.in-Some.ensures.within, ap length c.deref.ensures.value) in
    let there : slice_get items c.in-Some.i ≡ Some m = slice_get_read items (length items) c.in-Some.i m refl within c.index_mut.ensures.value in
    let mine : IsLatest c.args.services now c.in-Some.i m = subst (λ l. IsLatest c.args.services l c.in-Some.i m) (c.deref.ensures.value ∙ c.self.view_is)
    (c.in-Some.ensures.latest m (subst (λ l. slice_get l c.in-Some.i ≡ Some m) (sym c.deref.ensures.value) there)) in
    absurd (none m.term m.position mine.whole)

pub returns-in-Ok-clause-ok : goal.returns-in-Ok-clause-ok
returns-in-Ok-clause-ok g c j d latest =
    let items = c.self.inside.entries.items in
    let now = c.args.self.now in
    let m : RecEntry = c.index_mut.result.now in
    let within : c.in-Some.i < length items = omega (arith, c.in-Some.ensures.within, ap length c.deref.ensures.value) in
    let there : slice_get items c.in-Some.i ≡ Some m = slice_get_read items (length items) c.in-Some.i m refl within c.index_mut.ensures.value in
    let mine : IsLatest c.args.services now c.in-Some.i m = subst (λ l. IsLatest c.args.services l c.in-Some.i m) (c.deref.ensures.value ∙ c.self.view_is)
    (c.in-Some.ensures.latest m (subst (λ l. slice_get l c.in-Some.i ≡ Some m) (sym c.deref.ensures.value) there)) in
    ap (struck c.in-Some.i m) c.self.view_is ∙ once_struck c.args.services now c.in-Some.i j m d mine latest

pub returns-in-Ok-clause-mounted : goal.returns-in-Ok-clause-mounted
returns-in-Ok-clause-mounted g c told =
    let items = c.self.inside.entries.items in
    let now = c.args.self.now in
    let m : RecEntry = c.index_mut.result.now in
    let within : c.in-Some.i < length items = omega (arith, c.in-Some.ensures.within, ap length c.deref.ensures.value) in
    let there : slice_get items c.in-Some.i ≡ Some m = slice_get_read items (length items) c.in-Some.i m refl within c.index_mut.ensures.value in
    let mine : IsLatest c.args.services now c.in-Some.i m = subst (λ l. IsLatest c.args.services l c.in-Some.i m) (c.deref.ensures.value ∙ c.self.view_is)
    (c.in-Some.ensures.latest m (subst (λ l. slice_get l c.in-Some.i ≡ Some m) (sym c.deref.ensures.value) there)) in
    let reads = ((g.D.Disk.state c.args.disk.now).files 1).reads in
    let bytes = overwritten (64 * c.in-Some.i + 47) (128 ∷ []) reads in
    let has = struck_holds now c.in-Some.i m mine.at (snapshot_kind m mine.part.0) (64 * c.in-Some.i + 47) refl reads (c.requires told) in
    let ch = c.in-Ok.ensures.done told in
    subst (λ l. Holds (struck c.in-Some.i m l) ((g.D.Disk.state c.strike.new.disk).files 1).reads) (sym c.self.view_is) (subst (Holds (struck c.in-Some.i m now)) (sym (ap (λ (s : FileState). s.reads) ch.changed)) has)

pub returns-in-Ok-clause-done : goal.returns-in-Ok-clause-done
returns-in-Ok-clause-done g c honest every =
    let items = c.self.inside.entries.items in
    let now = c.args.self.now in
    let m : RecEntry = c.index_mut.result.now in
    let within : c.in-Some.i < length items = omega (arith, c.in-Some.ensures.within, ap length c.deref.ensures.value) in
    let there : slice_get items c.in-Some.i ≡ Some m = slice_get_read items (length items) c.in-Some.i m refl within c.index_mut.ensures.value in
    let mine : IsLatest c.args.services now c.in-Some.i m = subst (λ l. IsLatest c.args.services l c.in-Some.i m) (c.deref.ensures.value ∙ c.self.view_is)
    (c.in-Some.ensures.latest m (subst (λ l. slice_get l c.in-Some.i ≡ Some m) (sym c.deref.ensures.value) there)) in
    let f0 = (g.D.Disk.state c.args.disk.now).files in
    let reads = (f0 1).reads in
    let bytes = overwritten (64 * c.in-Some.i + 47) (128 ∷ []) reads in
    let has = struck_holds now c.in-Some.i m mine.at (snapshot_kind m mine.part.0) (64 * c.in-Some.i + 47) refl reads (every.this reads (g.met.D.Disk.reads_is_image c.args.disk.now 1 honest)) in
    let ch = c.in-Ok.ensures.done (g.met.D.Disk.honest_tells c.args.disk.now honest) in
    every_settled 1 (Holds (struck c.in-Some.i m items)) f0 bytes (g.D.Disk.state c.strike.new.disk).files ch.changed ch.others (subst (λ l. Holds (struck c.in-Some.i m l) bytes) (sym c.self.view_is) has)

pub returns-in-Ok-clause-each : goal.returns-in-Ok-clause-each
returns-in-Ok-clause-each g c honest every j d latest =
    let items = c.self.inside.entries.items in
    let now = c.args.self.now in
    let m : RecEntry = c.index_mut.result.now in
    let within : c.in-Some.i < length items = omega (arith, c.in-Some.ensures.within, ap length c.deref.ensures.value) in
    let there : slice_get items c.in-Some.i ≡ Some m = slice_get_read items (length items) c.in-Some.i m refl within c.index_mut.ensures.value in
    let mine : IsLatest c.args.services now c.in-Some.i m = subst (λ l. IsLatest c.args.services l c.in-Some.i m) (c.deref.ensures.value ∙ c.self.view_is)
    (c.in-Some.ensures.latest m (subst (λ l. slice_get l c.in-Some.i ≡ Some m) (sym c.deref.ensures.value) there)) in
    c.strike.ensures.each honest now j d (strike_of c.args.services now c.in-Some.i j m d mine latest) every

pub returns-in-Ok-clause-cut_well : goal.returns-in-Ok-clause-cut_well
returns-in-Ok-clause-cut_well g c honest every j d latest =
    let items = c.self.inside.entries.items in
    let now = c.args.self.now in
    let m : RecEntry = c.index_mut.result.now in
    let within : c.in-Some.i < length items = omega (arith, c.in-Some.ensures.within, ap length c.deref.ensures.value) in
    let there : slice_get items c.in-Some.i ≡ Some m = slice_get_read items (length items) c.in-Some.i m refl within c.index_mut.ensures.value in
    let mine : IsLatest c.args.services now c.in-Some.i m = subst (λ l. IsLatest c.args.services l c.in-Some.i m) (c.deref.ensures.value ∙ c.self.view_is)
    (c.in-Some.ensures.latest m (subst (λ l. slice_get l c.in-Some.i ≡ Some m) (sym c.deref.ensures.value) there)) in
    c.strike.ensures.cut_well honest now j d (strike_of c.args.services now c.in-Some.i j m d mine latest) every

pub returns-in-Ok-clause-fuse : goal.returns-in-Ok-clause-fuse
returns-in-Ok-clause-fuse g c honest every j d latest =
    let items = c.self.inside.entries.items in
    let now = c.args.self.now in
    let m : RecEntry = c.index_mut.result.now in
    let within : c.in-Some.i < length items = omega (arith, c.in-Some.ensures.within, ap length c.deref.ensures.value) in
    let there : slice_get items c.in-Some.i ≡ Some m = slice_get_read items (length items) c.in-Some.i m refl within c.index_mut.ensures.value in
    let mine : IsLatest c.args.services now c.in-Some.i m = subst (λ l. IsLatest c.args.services l c.in-Some.i m) (c.deref.ensures.value ∙ c.self.view_is)
    (c.in-Some.ensures.latest m (subst (λ l. slice_get l c.in-Some.i ≡ Some m) (sym c.deref.ensures.value) there)) in
    c.in-Ok.ensures.fuse honest now j d (strike_of c.args.services now c.in-Some.i j m d mine latest) every

pub returns-in-Err-clause-nothing : goal.returns-in-Err-clause-nothing
returns-in-Err-clause-nothing g c none =
    let found = c.deref.result.now in
    let now = c.args.self.now in
    let m : RecEntry = get_or found c.in-Some.i zero_entry in
    let mine : IsLatest c.args.services now c.in-Some.i m = subst (λ l. IsLatest c.args.services l c.in-Some.i m) (c.deref.ensures.value ∙ c.self.view_is)
    (c.in-Some.ensures.latest m (slice_get-get_or found c.in-Some.i zero_entry c.in-Some.ensures.within)) in
    absurd (none m.term m.position mine.whole)

pub returns-in-Err-clause-each : goal.returns-in-Err-clause-each
returns-in-Err-clause-each g c honest every j d latest =
    let found = c.deref.result.now in
    let now = c.args.self.now in
    let m : RecEntry = get_or found c.in-Some.i zero_entry in
    let mine : IsLatest c.args.services now c.in-Some.i m = subst (λ l. IsLatest c.args.services l c.in-Some.i m) (c.deref.ensures.value ∙ c.self.view_is)
    (c.in-Some.ensures.latest m (slice_get-get_or found c.in-Some.i zero_entry c.in-Some.ensures.within)) in
    c.strike.ensures.each honest now j d (strike_of c.args.services now c.in-Some.i j m d mine latest) every

pub returns-in-Err-clause-cut_well : goal.returns-in-Err-clause-cut_well
returns-in-Err-clause-cut_well g c honest every j d latest =
    let found = c.deref.result.now in
    let now = c.args.self.now in
    let m : RecEntry = get_or found c.in-Some.i zero_entry in
    let mine : IsLatest c.args.services now c.in-Some.i m = subst (λ l. IsLatest c.args.services l c.in-Some.i m) (c.deref.ensures.value ∙ c.self.view_is)
    (c.in-Some.ensures.latest m (slice_get-get_or found c.in-Some.i zero_entry c.in-Some.ensures.within)) in
    c.strike.ensures.cut_well honest now j d (strike_of c.args.services now c.in-Some.i j m d mine latest) every

pub returns-in-Err-clause-fuse : goal.returns-in-Err-clause-fuse
returns-in-Err-clause-fuse g c honest every j d latest =
    let found = c.deref.result.now in
    let now = c.args.self.now in
    let m : RecEntry = get_or found c.in-Some.i zero_entry in
    let mine : IsLatest c.args.services now c.in-Some.i m = subst (λ l. IsLatest c.args.services l c.in-Some.i m) (c.deref.ensures.value ∙ c.self.view_is)
    (c.in-Some.ensures.latest m (slice_get-get_or found c.in-Some.i zero_entry c.in-Some.ensures.within)) in
    fuse_of_member (Unit {0}) (Unit {0}) 2 (StrikeLeft now (struck j d now)) (g.D.Disk.state c.args.disk.now) (g.D.Disk.state c.strike.new.disk) c.in-Err.trouble c.from.result c.from.ensures
    (c.in-Err.ensures.fuse honest now j d (strike_of c.args.services now c.in-Some.i j m d mine latest) every)
