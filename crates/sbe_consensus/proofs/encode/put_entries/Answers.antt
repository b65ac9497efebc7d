use Rattle.sbe_consensus.proofs.Parts.{entry_short}
use Rattle.sbe_consensus.proofs.encode.put_entries.Goals as goal

pub put_counted-requires : goal.put_counted-requires
put_counted-requires c = rw (c.as_slice.ensures, c.entry-item.is) (entry_short c.args.entries.now c.loop-entry.entry-index _ c.loop-entry-test.true c.requires)
