-- The rows over the shape of a log are the rows over the log.
use Rattle.std.specs.Prelude.{◌≡◌, ℕ, ℤ, ◌+◌, [], ◌∷◌, ◌++◌, length, map, take, nat_le, nat_eq, if◌then◌else◌}
use Rattle.entry_log.specs.Log.{Log, end_after, place, last, name_of, same_term}
use Rattle.entry_log.specs.Shape.{shape_of, end_of, last_term_of, ends_by, terms_to}
use Rattle.entry_log.specs.declared.name.LogName.{LogName}
use Rattle.log_replication.specs.Replication.{kept, past, answer_term, answer_end}
use Rattle.election.specs.declared.member.Election.{Election}
use Rattle.election.specs.declared.member.State.TheVariants.{FollowerReady}
use Rattle.consensus_core.specs.declared.plan.Plan.{Plan}
use Rattle.consensus_core.specs.declared.plan.Plan.TheVariants as plans
use Rattle.consensus_core.specs.declared.plan.Word.TheVariants as words
use Rattle.consensus_core.specs.declared.rest.Rest.{Rest}
use Rattle.consensus_core.specs.declared.row.Row.{Row}
use Rattle.consensus_core.specs.declared.values.Values.{Values}
use Rattle.consensus_core.specs.Rows.{name_of_shape, cuts, takes}
use Rattle.consensus_core.specs.Sendable.{is_end}
use Rattle.consensus_core.specs.Member.{changed_log, said, speaks, entries_in, spelled_packet}
use Rattle.consensus_core.specs.Sends.{sends_of, ranges, spelled}

-- what a row gives over a log
pub record Outcome : Type 0 where
  pub values : Values
  pub log : Log
  pub plan : Plan

abbrev pub over : Log → Row → Outcome
over log row = record { values = row.values; log = changed_log row.change log; plan = row.plan }

-- the number of entries that end at most at this place, of a log that begins at p
abbrev pub entries_to_from : ℕ → ℕ → Log → ℕ
entries_to_from p at [] = 0
entries_to_from p at (x ∷ xs) = if nat_le (end_after p (length x.bytes)) at then 1 + entries_to_from (end_after p (length x.bytes)) at xs else 0

abbrev pub entries_to : ℕ → Log → ℕ
entries_to at log = entries_to_from 0 at log

-- P12 over the log
abbrev pub cuts_log : Election → Rest → Log → ℕ → LogName → ℕ → Outcome
cuts_log e r log from keep now =
    let left = kept keep.term keep.place log in
    let e' = record e { deadline = now + 1000 } in
    if same_term (last left) keep.term
    then record { values = record { election = record e' { state = FollowerReady }; rest = r }; log = left; plan = plans.One from words.Report }
    else record { values = record { election = e'; rest = r }; log = left; plan = plans.One from words.Canvass }

-- P16 over the log
abbrev pub takes_log : Election → Rest → Log → ℕ → ℕ → Log → ℕ → Outcome
takes_log e r log from start entries now =
    record {
      values = record { election = record e { deadline = now + 1000 }; rest = r };
      log = (if nat_le start (place log) then log ++ past start (place log) entries else log);
      plan = plans.One from words.Report;
    }

-- what members say of their logs
abbrev pub SameName : Type 0
SameName = (log : Log) → name_of_shape (shape_of log) ≡ name_of log

-- P13's answer
abbrev pub SameAnswer : Type 0
SameAnswer = (log : Log) (f : ℤ) → (last_term_of (terms_to f (shape_of log)) ≡ answer_term log f) × (end_of (terms_to f (shape_of log)) ≡ answer_end log f)

-- P12
abbrev pub SameCut : Type 0
SameCut = (e : Election) (r : Rest) (log : Log) (from : ℕ) (keep : LogName) (now : ℕ) → over log (cuts e r (shape_of log) from keep now) ≡ cuts_log e r log from keep now

-- P16
abbrev pub SameBatch : Type 0
SameBatch = (e : Election) (r : Rest) (log : Log) (from start : ℕ) (entries : Log) (now : ℕ) → over log (takes e r (shape_of log) from start entries now) ≡ takes_log e r log from start entries now

-- P17, and which places are ends
abbrev pub SameCount : Type 0
SameCount = (log : Log) (at : ℕ) → (ends_by at (shape_of log) ≡ entries_to at log) × (is_end at (shape_of log) ≡ nat_eq (place (take (entries_to at log) log)) at)

-- what is sent, with the entries of the LogBatches read from the log
abbrev pub SameSpelled : Type 0
SameSpelled = (plan : Plan) (v : Values) (log : Log) → map spelled_packet (speaks plan v log) ≡ spelled (sends_of plan v (shape_of log)) v (shape_of log) (entries_in (ranges (sends_of plan v (shape_of log))) log)
