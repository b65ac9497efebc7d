use Rattle.std.proofs.Common.{◌≡◌, refl, ◌++◌, ◌∷◌, [], true, length, ap, sym, subst, ◌∙◌, rules}
use Rattle.entry_log.specs.Shape.{Shape, shape_of}
use Rattle.member_module.specs.Held.{Held as ModuleHeld}
use Rattle.consensus_core.specs.declared.change.Change.TheVariants as changes
use Rattle.consensus_core.specs.Reign.{entry_of}
use Rattle.consensus_core.specs.Standing.{CanFollow}
use Rattle.consensus_agent.specs.Rows.{IsKept}
use Rattle.consensus_agent.proofs.Running.{values_in}
use Rattle.consensus_agent.proofs.Disking.{went_none}
use Rattle.consensus_agent.proofs.Entries.{length_shape}
use Rattle.consensus_agent.proofs.Orders.{done_one, has_more, went_one}
use Rattle.consensus_agent.proofs.Views.{may_append, appended, appended_sound, entry_is}
use Rattle.consensus_agent.proofs.agent.Agent.append_one.Goals as goal

pub append-requires-clause-follows : goal.append-requires-clause-follows
append-requires-clause-follows g c =
    let admissible : c.is_admissible.result ≡ true = search rules in
    let term : c.entry_with-entry.result.term ≡ c.args.self.now.core.values.election.term = search rules in
    subst (CanFollow (shape_of c.args.self.now.disk.kept.log)) (sym c.from_ref.ensures.value)
    (may_append c.args.self.now.core.values c.args.self.now.disk.kept c.args.self.now.disk.whole c.args.self.now.«module» c.args.event c.entry_with-entry.result (c.args.self.now.sound c.requires.whole) c.requires.room (c.is_admissible.ensures admissible)
    term
    (c.entry_with-entry.ensures.bytes ∙ c.in_ok-bytes.ensures.spelled))

pub invariant_of-self-2 : goal.invariant_of-self-2
invariant_of-self-2 g c =
    let term : c.entry_with-entry.result.term ≡ c.args.self.now.core.values.election.term = search rules in
    record {
      bounded = c.args.self.now.bounded;
      sound = λ _. appended_sound c.args.self.now.core.values c.on_append.new.self.values c.args.self.now.disk.kept c.append.new.disk.kept c.args.self.now.disk.whole c.append.new.disk.whole c.args.self.now.«module» c.put.new.self c.args.event c.entry_with-entry.result
          (c.args.self.now.sound c.requires.whole)
          c.requires.room
          term
          (c.entry_with-entry.ensures.bytes ∙ c.in_ok-bytes.ensures.spelled)
          (ap values_in c.on_append.ensures)
          (subst (λ es. IsKept c.args.self.now.disk.kept.node (c.args.self.now.disk.kept.log ++ es) c.append.new.disk.kept) c.from_ref.ensures.value c.in_ok-append.ensures.made)
          c.in_ok-append.ensures.whole
          (ap (λ (m : ModuleHeld). m.consumed) c.put.ensures.rest ∙ ap (λ (m : ModuleHeld). m.consumed) c.in_ok-expect.ensures.ok)
          (c.put.ensures.entries ∙ ap (λ es. es ++ c.entry_with-entry.result ∷ []) c.expect.ensures.entries);
    }

pub returns-clause-appended : goal.returns-clause-appended
returns-clause-appended g c =
    let admissible : c.is_admissible.result ≡ true = search rules in
    let term : c.entry_with-entry.result.term ≡ c.args.self.now.core.values.election.term = search rules in
    appended c.entries-index.result c.args.self.now.core.values c.args.self.now.disk.kept c.append.new.disk.kept c.args.event c.entry_with-entry.result c.requires.room
    (c.is_admissible.ensures admissible)
    (c.entries-index.ensures.count ∙ ap (λ (xs : Shape). length xs) c.index.ensures.index ∙ length_shape c.args.self.now.disk.kept.log)
    term
    (c.entry_with-entry.ensures.bytes ∙ c.in_ok-bytes.ensures.spelled)
    (subst (λ es. IsKept c.args.self.now.disk.kept.node (c.args.self.now.disk.kept.log ++ es) c.append.new.disk.kept) c.from_ref.ensures.value c.in_ok-append.ensures.made)

pub returns-clause-more : goal.returns-clause-more
returns-clause-more g c =
    let term : c.entry_with-entry.result.term ≡ c.args.self.now.core.values.election.term = search rules in
    has_more c.args.event c.entry_with-entry.result c.args.self.now.«module» c.expect.new.self c.put.new.self
    (entry_is c.args.event c.entry_with-entry.result (term ∙ sym c.requires.room.term) (c.entry_with-entry.ensures.bytes ∙ c.in_ok-bytes.ensures.spelled))
    c.in_ok-expect.ensures.ok
    c.expect.ensures.entries
    c.expect.ensures.events
    c.put.ensures.rest
    c.put.ensures.entries
    c.put.ensures.events

pub returns-in_err-append-clause-went : goal.returns-in_err-append-clause-went
returns-in_err-append-clause-went g c =
    let term : c.entry_with-entry.result.term ≡ c.args.self.now.core.values.election.term = search rules in
    went_one g.D.Disk.state g.D.Disk.tells g.D.Disk.is_honest c.args.event c.entry_with-entry.result c.from_ref.result.now c.args.self.now.disk c.append.new.disk c.from_ref.ensures.value
    (entry_is c.args.event c.entry_with-entry.result (term ∙ sym c.requires.room.term) (c.entry_with-entry.ensures.bytes ∙ c.in_ok-bytes.ensures.spelled))
    c.append.ensures.went

pub returns-clause-went : goal.returns-clause-went
returns-clause-went g c =
    let term : c.entry_with-entry.result.term ≡ c.args.self.now.core.values.election.term = search rules in
    went_one g.D.Disk.state g.D.Disk.tells g.D.Disk.is_honest c.args.event c.entry_with-entry.result c.from_ref.result.now c.args.self.now.disk c.append.new.disk c.from_ref.ensures.value
    (entry_is c.args.event c.entry_with-entry.result (term ∙ sym c.requires.room.term) (c.entry_with-entry.ensures.bytes ∙ c.in_ok-bytes.ensures.spelled))
    c.append.ensures.went

pub returns-clause-done : goal.returns-clause-done
returns-clause-done g c =
    let term : c.entry_with-entry.result.term ≡ c.args.self.now.core.values.election.term = search rules in
    done_one g.D.Disk.state g.D.Disk.tells g.D.Disk.is_honest c.args.event c.entry_with-entry.result c.from_ref.result.now c.args.self.now.disk c.append.new.disk c.from_ref.ensures.value
    (entry_is c.args.event c.entry_with-entry.result (term ∙ sym c.requires.room.term) (c.entry_with-entry.ensures.bytes ∙ c.in_ok-bytes.ensures.spelled))
    c.in_ok-append.ensures.done

pub returns-then-not-is_admissible-clause-went : goal.returns-then-not-is_admissible-clause-went
returns-then-not-is_admissible-clause-went g c = went_none g.D.Disk.state g.D.Disk.tells g.D.Disk.is_honest (changes.Append (entry_of c.args.event ∷ [])) c.args.self.now.disk c.args.self.now.disk refl

pub returns-in_err-bytes-clause-went : goal.returns-in_err-bytes-clause-went
returns-in_err-bytes-clause-went g c = went_none g.D.Disk.state g.D.Disk.tells g.D.Disk.is_honest (changes.Append (entry_of c.args.event ∷ [])) c.args.self.now.disk c.args.self.now.disk refl

pub returns-in_err-expect-clause-went : goal.returns-in_err-expect-clause-went
returns-in_err-expect-clause-went g c = went_none g.D.Disk.state g.D.Disk.tells g.D.Disk.is_honest (changes.Append (entry_of c.args.event ∷ [])) c.args.self.now.disk c.args.self.now.disk refl
