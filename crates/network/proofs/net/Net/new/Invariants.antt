-- So many links are there, all open.
use Rattle.std.proofs.Common.{◌≡◌}
use Rattle.std.specs.Prelude.{replicate}
use Rattle.network.specs.Net.{open_link}
use Rattle.network.proofs.net.Net.new.Given as goal

abbrev pub invariant-loop : goal.invariant-loop
invariant-loop l = l.links.items ≡ replicate l.counter open_link
