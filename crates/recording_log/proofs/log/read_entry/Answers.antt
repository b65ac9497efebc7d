-- An entry that was read.
use Rattle.std.proofs.Common.{sym, ◌∙◌, arith}
use Rattle.recording_log.proofs.MountLemmas.{gate_read, entry_read}
use Rattle.recording_log.proofs.log.read_entry.Goals as goal

pub returns-then-block-eq-OPEN-clause-gives : goal.returns-then-block-eq-OPEN-clause-gives
returns-then-block-eq-OPEN-clause-gives g c told =
    let read = c.in-Ok.ensures.read told in
    let file = ((g.D.Disk.state c.args.disk.now).files 1).reads in
    let block = c.read_some.new.buf in
    let n = c.in-Ok.n in
    (omega (arith, read.count), (sym (gate_read block file c.args.at n (omega arith) read.bytes) ∙ c.if-block-eq-OPEN.true, c.read.ensures ∙ entry_read block file c.args.at n (omega arith) read.bytes))
