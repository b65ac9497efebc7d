-- Where another entry is the part, and where none is.
use Rattle.std.proofs.Common.{◌≡◌, true, false, sym, ◌∙◌, subst, rules, arith, to_z, of_z, w32}
use Rattle.std.proofs.lemmas.Int.{to_z-of_z}
use Rattle.std.specs.BTreeSet.{Updates}
use Rattle.recording_log.specs.declared.parts.Part.{Part}
use Rattle.recording_log.specs.Sets.{HasPart}
use Rattle.recording_log.specs.Parts.{part_cmp}
use Rattle.recording_log.proofs.PartLemmas.{tells_kept, tells_gone}
use Rattle.recording_log.proofs.parts.Parts.let_go.Goals as goal

pub returns-then-not-is_among : goal.returns-then-not-is_among
returns-then-not-is_among c =
    let same : to_z w32 (of_z w32 c.args.entry.service) ≡ c.args.entry.service = grind (arith, to_z-of_z) in
    let out : c.is_among.result ≡ false = search rules in
    let updates = subst (λ (k : Part). Updates part_cmp c.args.self.now.parts c.remove.new.self k false) c.part_of.ensures c.remove.ensures.updates in
    tells_gone c.args.self.now c.args.entries.now c.args.entry c.requires (record { parts = c.remove.new.self })
    (λ have.
    let is : c.is_among.result ≡ true = c.is_among.ensures.1 (subst (HasPart c.args.entries.now c.args.entry.term c.args.entry.position) (sym same) have) in
    let clash : true ≡ false = sym is ∙ out in absurd (cc))
    updates

pub returns-else-not-is_among : goal.returns-else-not-is_among
returns-else-not-is_among c =
    let same : to_z w32 (of_z w32 c.args.entry.service) ≡ c.args.entry.service = grind (arith, to_z-of_z) in
    let is : c.is_among.result ≡ true = search rules in
    tells_kept c.args.self.now c.args.entries.now c.args.entry c.requires (subst (HasPart c.args.entries.now c.args.entry.term c.args.entry.position) same (c.is_among.ensures.0 is))
