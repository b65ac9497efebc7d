-- What the index names.
use Rattle.std.proofs.Common.{◌≡◌, ◌∙◌, List, length, slice_get, get_or, Some, refl, sym, ap, subst}
use Rattle.std.proofs.lemmas.Option.{slice_get_read}
use Rattle.recording_log.specs.declared.entry.RecEntry.{RecEntry}
use Rattle.recording_log.specs.Sets.{HasNoSet, IsLatest}
use Rattle.recording_log.proofs.log.RecordingLog.latest_snapshot.Goals as goal

pub returns-in-None : goal.returns-in-None
returns-in-None c = subst (HasNoSet c.args.services) (c.deref.ensures.value ∙ c.self.view_is) c.in-None.ensures.latest

pub returns-in-Some : goal.returns-in-Some
returns-in-Some c =
    let e : RecEntry = c.index.result.now in
    let at : slice_get c.deref.result.now c.in-Some.i ≡ Some e = slice_get_read c.deref.result.now (length c.deref.result.now) c.in-Some.i e refl c.in-Some.ensures.within (c.index.ensures ∙ ap (λ (l : List RecEntry). get_or l c.in-Some.i e) (sym c.deref.ensures.value)) in
    record {
      index = c.in-Some.i;
      entry = e;
      latest = subst (λ l. IsLatest c.args.services l c.in-Some.i e) (c.deref.ensures.value ∙ c.self.view_is) (c.in-Some.ensures.latest e at);
      recording = c.as_snapshot.ensures.recording;
      term = c.as_snapshot.ensures.term;
      position = c.as_snapshot.ensures.position;
    }
