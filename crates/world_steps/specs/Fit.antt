-- Logs that can be sent and indexed.
use Rattle.std.specs.Prelude.{◌≡◌, ◌≤◌, ◌^◌, pos, negsuc, ◌≤ℤ◌, length, List, [], ◌∷◌, ⊤}
use Rattle.entry_log.specs.Log.{Log}
use Rattle.entry_log.specs.Shape.{Shape, shape_of, end_of, end_from, last_term_of, TermsRiseFrom}
use Rattle.sbe_consensus.specs.Spelling.{AreEntries, HasSpelling, spelling_of}
use Rattle.sbe_consensus.specs.declared.packet.Packet.{Packet}
use Rattle.sbe_consensus.specs.declared.packet.Outgoing.{Outgoing}
use Rattle.consensus_core.specs.Fit.{IsSound}
use Rattle.consensus_core.specs.Member.{Member, changed_log}
use Rattle.consensus_core.specs.declared.plan.Plan.{Plan}
use Rattle.consensus_core.specs.declared.row.Row.{Row}
use Rattle.consensus_core.specs.declared.values.Values.{Values}

-- a log within its limit, of events whose terms don't fall
pub record LogFits (log : Log) : Type 0 where
  pub place : end_of (shape_of log) ≤ 16777216
  pub rises : TermsRiseFrom (negsuc 0) (shape_of log)
  pub term : last_term_of (shape_of log) ≤ℤ pos (2 ^ 62)
  pub entries : AreEntries log

-- these entries can go behind a log of this shape
pub record CanIndex (xs : Shape) (rest : Log) : Type 0 where
  pub room : end_from (end_of xs) (shape_of rest) ≤ 16777216
  pub rises : TermsRiseFrom (last_term_of xs) (shape_of rest)
  pub entries : AreEntries rest

-- a member with these values can run over this log
pub record Runs (v : Values) (log : Log) : Type 0 where
  pub log_fits : LogFits log
  pub commit : v.rest.commit ≤ length log

-- and say what it has to say of it
pub record Speaks (v : Values) (p : Plan) (log : Log) : Type 0 where
  pub runs : Runs v log
  pub sound : IsSound v p

-- what a row of a member says of its log can be spelled
abbrev pub SpeaksBy : Member → Row → Type 0
SpeaksBy x row = Speaks row.values row.plan (changed_log row.change x.durable.log)

-- each of these is the spelling of a packet
abbrev pub AreSpelled : List Outgoing → Type 0
AreSpelled [] = ⊤
AreSpelled (o ∷ os) = ((p : Packet) × HasSpelling p × (spelling_of p ≡ o.bytes)) × AreSpelled os
