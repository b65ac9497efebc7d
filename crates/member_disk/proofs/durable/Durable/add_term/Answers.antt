use Rattle.std.specs.Prelude.{OnOk, slice_get}
use Rattle.std.proofs.Common.{◌≡◌, true, false, Some, List, ◌++◌, [], ◌∷◌, Result, Ok, rules, sym, ap, subst, arith}
use Rattle.recording_log.specs.Valid.{term_entry, terms_of}
use Rattle.member_disk.proofs.Grown.{sets_after}
use Rattle.member_disk.proofs.Terms.{term_added_ok}
use Rattle.cl_base.specs.Runs.{DiskLaws}
use Rattle.std.specs.Int.{w64, cast_signed, cast_unsigned}
use Rattle.std.proofs.lemmas.Option.{slice_get_within}
use Rattle.cl_base.specs.Every.{takes}
use Rattle.cl_base.specs.declared.fault.MemberFault.{MemberFault}
use Rattle.recording_log.specs.declared.entry.RecEntry.{RecEntry}
use Rattle.recording_log.specs.declared.entry.TermAt.{TermAt}
use Rattle.log_segment.specs.declared.kept.NewTerm.{NewTerm}
use Rattle.recording_log.specs.Entries.{Holds}
use Rattle.recording_log.specs.Steps.{is_open}
use Rattle.member_disk.specs.Kept.{Kept, EachStands}
use Rattle.member_disk.specs.Changes.{has_term, term_at}
use Rattle.member_disk.specs.Parts.{Part, IsMade, made, wanted_parts}
use Rattle.member_disk.specs.CutWell.{no_file}
use Rattle.member_disk.proofs.Compose.{on_ok, every_of}
use Rattle.member_disk.proofs.Files.{addition_made}
use Rattle.member_disk.proofs.Lists.{made_none}
use Rattle.member_disk.proofs.TermParts.{index_has, has_not, wanted_none, wanted_one, wanted_makes}
use Rattle.member_disk.proofs.Sparing.{spares_none, spares_file, front_file}
use Rattle.member_disk.proofs.durable.Durable.add_term.Given as given
use Rattle.member_disk.proofs.durable.Durable.add_term.Goals as goal

abbrev laws_of : (g : given.Over) → DiskLaws g.row.D.Denot
laws_of g = record {
  state = g.D.Disk.state;
  is_honest = g.D.Disk.is_honest;
  tells = g.D.Disk.tells;
  moment = g.D.Disk.moment;
  left_since = g.D.Disk.left_since;
  reads = g.met.D.Disk.reads_is_image;
  synced = g.met.D.Disk.synced_is_image;
  honest_tells = g.met.D.Disk.honest_tells;
  only_now = g.met.D.Disk.only_now;
}

-- the term as it is looked for
abbrev looked : NewTerm → TermAt
looked t = record { term = cast_signed w64 (cast_unsigned w64 t.term); base = t.base; stamp = cast_signed w64 (cast_unsigned w64 t.stamp) }

pub invariant_of-self : goal.invariant_of-self
invariant_of-self g c = sets_after c.self.inside.services c.self.inside.recording c.add_term.new.self c.self.inside.sets.items _ _ _ c.add_term.result c.add_term.ensures.ok c.add_term.ensures.err c.self.invariant

pub returns-in-None-clause-there : goal.returns-in-None-clause-there
returns-in-None-clause-there g c =
    let done : OnOk c.add_term.result (c.add_term.new.self ≡ c.self.inside.recording ++ term_entry c.args.new.term c.args.new.base c.args.new.stamp ∷ []) = search rules in
    term_added_ok c.self.inside.recording c.add_term.new.self c.args.new c.add_term.result c.requires.range done

pub returns-in-Some-clause-makes : goal.returns-in-Some-clause-makes
returns-in-Some-clause-makes g c =
    let t = c.args.new in
    let as_term : looked c.args.new ≡ term_at c.args.new = search rules in
    let has : has_term (terms_of c.args.self.now.entries) (term_at t) ≡ true = subst (λ (k : Kept). has_term (terms_of k.entries) (term_at t) ≡ true) c.self.view_is (index_has (terms_of c.self.inside.recording) (term_at t) c.in-Some.field-0 (subst (λ (x : TermAt). slice_get (terms_of c.self.inside.recording) c.in-Some.field-0 ≡ Some x) as_term c.in-Some.ensures.1)) in
    sym (ap (λ (ps : List Part). made ps c.args.self.now) (wanted_none c.args.self.now t has))

pub returns-in-Some-clause-made : goal.returns-in-Some-clause-made
returns-in-Some-clause-made g c honest all =
    let t = c.args.new in
    let as_term : looked c.args.new ≡ term_at c.args.new = search rules in
    let has : has_term (terms_of c.args.self.now.entries) (term_at t) ≡ true = subst (λ (k : Kept). has_term (terms_of k.entries) (term_at t) ≡ true) c.self.view_is (index_has (terms_of c.self.inside.recording) (term_at t) c.in-Some.field-0 (subst (λ (x : TermAt). slice_get (terms_of c.self.inside.recording) c.in-Some.field-0 ≡ Some x) as_term c.in-Some.ensures.1)) in
    let d0 = c.args.disk.now in
    let kept = c.args.self.now in
    let result : Result (Unit {0}) MemberFault = Ok tt in
    subst (λ (ps : List Part). IsMade g.D.Disk.state g.D.Disk.moment g.D.Disk.left_since ps kept d0 d0 result) (sym (wanted_none kept t has)) (made_none (laws_of g) (Unit {0}) tt kept d0 honest all)

pub returns-in-Some-clause-spares : goal.returns-in-Some-clause-spares
returns-in-Some-clause-spares g c honest all = spares_none (laws_of g) no_file c.args.disk.now honest

pub returns-in-None-clause-makes : goal.returns-in-None-clause-makes
returns-in-None-clause-makes g c =
    let mine : Kept = record { node = c.self.inside.node; entries = c.self.inside.recording; log = c.self.inside.log; services = c.self.inside.services } in
    let t = c.args.new in
    let as_term : looked c.args.new ≡ term_at c.args.new = search rules in
    let out : has_term (terms_of mine.entries) (term_at t) ≡ false = has_not (terms_of mine.entries) (term_at t) (λ k at. c.in-None.ensures k (omega arith) (slice_get_within (terms_of mine.entries) k (term_at t) at) (subst (λ (x : TermAt). slice_get (terms_of mine.entries) k ≡ Some x) (sym as_term) at)) in
    let after : Kept = record mine { entries = c.add_term.new.self } in
    let done : OnOk c.add_term.result (c.add_term.new.self ≡ c.self.inside.recording ++ term_entry c.args.new.term c.args.new.base c.args.new.stamp ∷ []) = search rules in
    subst (λ (k : Kept). OnOk c.add_term.result (after ≡ made (wanted_parts k (Some t)) k)) c.self.view_is
    (on_ok (Unit {0}) MemberFault _ _ c.add_term.result (λ is. wanted_makes mine t after (ap (λ (es : List RecEntry). let k : Kept = record mine { entries = es } in k) is) out) done)

pub returns-in-None-clause-made : goal.returns-in-None-clause-made
returns-in-None-clause-made g c honest all =
    let mine : Kept = record { node = c.self.inside.node; entries = c.self.inside.recording; log = c.self.inside.log; services = c.self.inside.services } in
    let t = c.args.new in
    let as_term : looked c.args.new ≡ term_at c.args.new = search rules in
    let out : has_term (terms_of mine.entries) (term_at t) ≡ false = has_not (terms_of mine.entries) (term_at t) (λ k at. c.in-None.ensures k (omega arith) (slice_get_within (terms_of mine.entries) k (term_at t) at) (subst (λ (x : TermAt). slice_get (terms_of mine.entries) k ≡ Some x) (sym as_term) at)) in
    let entry : RecEntry = term_entry (cast_signed w64 (cast_unsigned w64 t.term)) t.base (cast_signed w64 (cast_unsigned w64 t.stamp)) in
    let same : term_entry (cast_signed w64 (cast_unsigned w64 c.args.new.term)) c.args.new.base (cast_signed w64 (cast_unsigned w64 c.args.new.stamp)) ≡ term_entry c.args.new.term c.args.new.base c.args.new.stamp = search rules in
    let d0 = c.args.disk.now in
    let d1 = c.add_term.new.disk in
    let result = c.add_term.result in
    let here = subst (λ (k : Kept). EachStands k (g.D.Disk.state d0).files) (sym c.self.view_is) all in
    subst (λ (k : Kept). IsMade g.D.Disk.state g.D.Disk.moment g.D.Disk.left_since (wanted_parts k (Some t)) k d0 d1 result) c.self.view_is
    (subst (λ (ps : List Part). IsMade g.D.Disk.state g.D.Disk.moment g.D.Disk.left_since ps mine d0 d1 result) (sym (wanted_one mine t out))
    (subst (λ (e : RecEntry). IsMade g.D.Disk.state g.D.Disk.moment g.D.Disk.left_since (record { calls = 5; last = takes is_open; makes = record mine { entries = mine.entries ++ e ∷ [] } } ∷ []) mine d0 d1 result) same
    (addition_made (laws_of g) (Unit {0}) mine d0 d1 result honest here entry (c.add_term.ensures.others (g.met.D.Disk.honest_tells d0 honest)) (c.add_term.ensures.done honest) (c.add_term.ensures.each honest) (c.add_term.ensures.cut_well honest) (c.add_term.ensures.fuse honest))))

pub returns-in-None-clause-spares : goal.returns-in-None-clause-spares
returns-in-None-clause-spares g c honest all =
    let mine : Kept = record { node = c.self.inside.node; entries = c.self.inside.recording; log = c.self.inside.log; services = c.self.inside.services } in
    let d0 = c.args.disk.now in
    let here = subst (λ (k : Kept). EachStands k (g.D.Disk.state d0).files) (sym c.self.view_is) all in
    let there = every_of (laws_of g) 1 (Holds mine.entries) mine d0 honest here (λ x is. is.entries) in
    spares_file (laws_of g) no_file 1 _ d0 c.add_term.new.disk (front_file no_file 1 (omega arith)) (c.add_term.ensures.others (g.met.D.Disk.honest_tells d0 honest)) (c.add_term.ensures.cut_well honest there)
