-- What was read of the log is what is wanted.
use Rattle.std.proofs.Common.{List, [], ◌∷◌, drop}
use Rattle.cl_base.specs.declared.entry.Entry.{Entry}
use Rattle.consensus_core.specs.declared.sends.Send.{Send}
use Rattle.consensus_core.specs.declared.sends.Send.TheVariants.{Says, Hands}
use Rattle.consensus_core.specs.Sends.{AreWanted, ranges}
use Rattle.consensus_agent.specs.Reads.{AreRead}

pub read_wanted : (ss : List Send) (es : List Entry) → AreRead (ranges ss) es → AreWanted ss es
read_wanted [] es h = tt
read_wanted (Says to w ∷ ss) es h = read_wanted ss es h
read_wanted (Hands to start from count ∷ ss) es h = (h.0, h.1, read_wanted ss (drop count es) h.2)
