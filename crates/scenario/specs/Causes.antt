-- Causes as they are printed.
use Rattle.std.specs.Prelude.{ℕ, List, codes}
use Rattle.scenario.specs.declared.fault.Cause.{Cause}
use Rattle.scenario.specs.declared.fault.Cause.TheVariants.{Byte, LongLine, UnknownOrder, Arguments, Range, Header, Rounds, Joined, NotJoined, NotBuilt}

abbrev pub cause_text : Cause → List ℕ
cause_text Byte = codes "byte"
cause_text LongLine = codes "long line"
cause_text UnknownOrder = codes "unknown order"
cause_text Arguments = codes "arguments"
cause_text Range = codes "range"
cause_text Header = codes "header"
cause_text Rounds = codes "rounds"
cause_text Joined = codes "joined"
cause_text NotJoined = codes "not joined"
cause_text NotBuilt = codes "not built"
