-- Three files are written, and the others stay empty.
use Rattle.std.proofs.Common.{◌≢◌, ℕ, IsTrue, sym, ◌∙◌, ap, subst, arith}
use Rattle.cl_base.specs.Disk.{FileState}
use Rattle.node_state.specs.Node as nodes
use Rattle.recording_log.specs.Entries as entries
use Rattle.member_disk.proofs.NewDisk.{fresh_ok}
use Rattle.member_disk.proofs.fresh.format.Goals as goal

pub returns-in-Ok-format-clause-fresh : goal.returns-in-Ok-format-clause-fresh
returns-in-Ok-format-clause-fresh g c told empty =
    let f3 = (g.D.Disk.state c.format_log.new.disk).files in
    let told1 = subst IsTrue (sym c.format.ensures.tells) told in
    let told2 = subst IsTrue (sym c.format-in-Ok.ensures.tells) told1 in
    let first = c.format.ensures.others told in
    let second = c.format-in-Ok.ensures.others told1 in
    let third = c.format_log.ensures.others told2 in
    let node = c.in-Ok.ensures.done told (ap (λ (s : FileState). s.reads) (empty 0)) in
    let log = c.in-Ok-format.ensures.done told1 (ap (λ (s : FileState). s.reads) (first 1 (λ is. absurd (omega arith)) ∙ empty 1)) in
    fresh_ok f3 (subst nodes.IsFresh (sym (third 0 (λ is. absurd (omega arith)) ∙ second 0 (λ is. absurd (omega arith)))) node) (subst entries.IsFresh (sym (third 1 (λ is. absurd (omega arith)))) log)
    (λ f past. third f (λ is. absurd (omega (arith, past, is))) ∙ (second f (λ is. absurd (omega (arith, past, is))) ∙ (first f (λ is. absurd (omega (arith, past, is))) ∙ empty f)))
    c.format_log.result (c.format_log.ensures.done told2) (c.format_log.ensures.settled told2)
