use Rattle.std.proofs.Common.{◌≡◌, List, ◌++◌, drop}
use Rattle.cluster_client.specs.Seen.{new_client}
use Rattle.cluster_client.specs.Runs.{Event, AllComeTo, all_got}
use Rattle.cluster_client.proofs.runs.run_calls.Given as goal

-- what was got, and what is got by what is left, is what is got by all
abbrev pub invariant-loop-call : goal.invariant-loop-call
invariant-loop-call l = (events : List Event) → AllComeTo l.calls events → l.got ++ all_got l.client (drop l.call-index events) ≡ all_got (new_client l.fn.stream l.fn.members) events
