use Rattle.std.proofs.Common.{arith}
use Rattle.cl_base.specs.declared.entry.Entry.{Entry}
use Rattle.log_segment.proofs.LookLemmas.{looked_ok, quiet_damage}
use Rattle.log_segment.proofs.HeldLemmas.{ranged}
use Rattle.log_segment.proofs.entries.read_found.Goals as goal

pub returns-then-len-eq0-clause-exact : goal.returns-then-len-eq0-clause-exact
returns-then-len-eq0-clause-exact g c told e is size high stands = let least = (ranged e is).least in let none = c.if-len-eq0.true in absurd (omega (arith, least, none, size))

pub returns-then-entry-last_term-clause-looked : goal.returns-then-entry-last_term-clause-looked
returns-then-entry-last_term-clause-looked g c = looked_ok c.in-Ok.ensures.looked (quiet_damage Entry c.wrong_byte-then-entry-last_term.result c.wrong_byte-then-entry-last_term.ensures)
