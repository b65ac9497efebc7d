-- What the set has.
use Rattle.std.proofs.Common.{◌≡◌, sym, ◌∙◌, ap, arith, to_z, of_z, w32, w64}
use Rattle.std.proofs.lemmas.Int.{to_z-of_z}
use Rattle.recording_log.specs.declared.parts.Part.{Part}
use Rattle.recording_log.specs.Parts.{has}
use Rattle.recording_log.proofs.parts.Parts.has.Goals as goal

pub returns : goal.returns
returns c entries tells =
    let position : to_z w64 (of_z w64 c.args.of.position) ≡ c.args.of.position = grind (arith, to_z-of_z) in
    let term : to_z w64 (of_z w64 c.args.of.term) ≡ c.args.of.term = grind (arith, to_z-of_z) in
    let service : to_z w32 (of_z w32 c.args.service) ≡ c.args.service = grind (arith, to_z-of_z) in
    let part : Part = record { position = c.args.of.position; term = c.args.of.term; service = c.args.service } in
    let asked : Part = record { position = to_z w64 (of_z w64 c.args.of.position); term = to_z w64 (of_z w64 c.args.of.term); service = to_z w32 (of_z w32 c.args.service) } in
    let same : asked ≡ part = λ x. record { position = position x; term = term x; service = service x } in
    let answer : has c.args.self.now asked ≡ has c.args.self.now part = ap (has c.args.self.now) same in
    let gives : c.contains.result ≡ has c.args.self.now asked = c.contains.ensures in
    let t = tells part in
    (λ is. t.0 (sym answer ∙ sym gives ∙ is), λ have. gives ∙ answer ∙ t.1 have)
