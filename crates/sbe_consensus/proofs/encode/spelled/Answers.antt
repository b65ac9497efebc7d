use Rattle.std.proofs.Common.{rules, ◌≡◌, ◌∙◌, sym, ap, FitsSigned, w32, w64}
use Rattle.std.proofs.lemmas.Int.{to_z-of_z}
use Rattle.sbe_consensus.specs.Spelling.{first_of, second_of, member_of}
use Rattle.sbe_consensus.proofs.encode.spelled.Goals as goal

pub returns-in-NewTerm : goal.returns-in-NewTerm
returns-in-NewTerm c =
    let a : FitsSigned w64 c.first_of.result = search rules in
    let b : FitsSigned w64 c.second_of.result = search rules in
    let k : FitsSigned w64 c.in-NewTerm.keep_term = search rules in
    let d : FitsSigned w64 c.in-NewTerm.keep_position = search rules in
    let t : FitsSigned w64 c.in-NewTerm.term = search rules in
    let l : FitsSigned w32 c.member_of.result = search rules in
    let first : c.first_of.result ≡ c.in-NewTerm.asked_term = c.first_of.ensures ∙ ap first_of c.in-NewTerm.is in
    let second : c.second_of.result ≡ c.in-NewTerm.asked_position = c.second_of.ensures ∙ ap second_of c.in-NewTerm.is in
    let member : c.member_of.result ≡ c.in-NewTerm.leader = c.member_of.ensures ∙ ap member_of c.in-NewTerm.is in
    let h = simp to_z-of_z at c.bare-in-NewTerm.ensures in
    rw (c.in-NewTerm.is, sym first, sym second, sym member) h
