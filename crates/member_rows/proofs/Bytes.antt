-- Bytes that read as a packet spell it.
use Rattle.std.proofs.Common.{◌≡◌, ℕ, List, Option, Some, None, refl, sym, ap, ◌∙◌, subst}
use Rattle.wire_prims.specs.Fields.{IsBytes}
use Rattle.wire_prims.specs.declared.fault.Bad.{Bad}
use Rattle.sbe_consensus.specs.Spelling.{HasSpelling, first_fault, packet_from, packet_of, spelling_of, value_of}
use Rattle.sbe_consensus.specs.Templates.{template_of}
use Rattle.sbe_consensus.specs.Laws.{sound, packet_there, value_spells}
use Rattle.sbe_consensus.specs.declared.packet.Packet.{Packet}
use Rattle.sbe_consensus.specs.declared.template.Template.{Template}

some_is : (a b : Packet) → Some a ≡ Some b → a ≡ b
some_is a b e = cc

pub fault-none : (bytes : List ℕ) (b : Bad) → first_fault bytes ≡ Some b → packet_of bytes ≡ None
unfolding packet_of
fault-none bytes b e = ap (λ (o : Option Bad). packet_from o (template_of bytes) bytes) e

no-fault : (bytes : List ℕ) (o : Option Bad) (t : Option Template) (p : Packet) → packet_from o t bytes ≡ Some p → o ≡ None
no-fault bytes (Some b) t p e = absurd (cc)
no-fault bytes None t p e = refl

free : (bytes : List ℕ) (p : Packet) → packet_of bytes ≡ Some p → first_fault bytes ≡ None
unfolding packet_of
free bytes p e = no-fault bytes (first_fault bytes) (template_of bytes) p e

pub read-spells : (bytes : List ℕ) (p : Packet) → IsBytes bytes → packet_of bytes ≡ Some p → HasSpelling p × (spelling_of p ≡ bytes)
read-spells bytes p fits e =
    let s = sound bytes (free bytes p e) in
    let same : value_of s.0 bytes ≡ p = some_is (value_of s.0 bytes) p (sym (packet_there s.0 bytes s.1) ∙ e) in
    subst (λ (q : Packet). HasSpelling q × (spelling_of q ≡ bytes)) same (value_spells bytes fits s.0 s.1)
