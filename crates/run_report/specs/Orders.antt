-- The lines that are written while a run goes on.
use Rattle.std.specs.Prelude.{ℕ, ℤ, pos, negsuc, List, ◌++◌, codes}
use Rattle.std.specs.Fmt.{decimal}
use Rattle.wire_prims.specs.declared.fault.Bad.{Bad}
use Rattle.wire_prims.specs.declared.fault.BadCause.{BadCause}
use Rattle.wire_prims.specs.declared.fault.BadCause.TheVariants as causes
use Rattle.ingress.specs.declared.outcome.Outcome.{Outcome}
use Rattle.ingress.specs.declared.outcome.Outcome.TheVariants as outcome
use Rattle.line_text.specs.Pieces.{newline, count, value}
use Rattle.run_report.specs.declared.orders.Reply.{Reply}
use Rattle.run_report.specs.declared.orders.Reply.TheVariants as reply

-- the leader that the member knows, or a dash
abbrev pub leader_text : ℤ → List ℕ
leader_text (pos id) = value (codes "not leader ") (pos id)
leader_text (negsuc n) = codes "not leader -"

abbrev pub cause_text : BadCause → List ℕ
cause_text causes.Short = codes "short"
cause_text causes.Schema = codes "schema"
cause_text causes.Template = codes "template"
cause_text causes.Block = codes "block"
cause_text causes.Value = codes "value"
cause_text causes.Trailing = codes "trailing"

abbrev pub bad_text : Bad → List ℕ
bad_text bad = count (codes "bad ") bad.place ++ codes " " ++ cause_text bad.cause

-- what became of what a client sent, or of an action
abbrev pub outcome_text : Outcome → List ℕ
outcome_text outcome.MemberDown = codes "member down"
outcome_text (outcome.Bad bad) = bad_text bad
outcome_text (outcome.NotLeader leader) = leader_text leader
outcome_text (outcome.WrongTerm term) = value (codes "wrong term ") term
outcome_text (outcome.NoSession session) = value (codes "no session ") session
outcome_text (outcome.TooLarge bytes) = count (codes "too large ") bytes
outcome_text outcome.SessionLimit = codes "session limit"
outcome_text outcome.ActionLimit = codes "action limit"
outcome_text (outcome.BackPressure bytes) = count (codes "back pressure ") bytes
outcome_text (outcome.LogFull place) = count (codes "log full ") place
outcome_text outcome.Device = codes "device"
outcome_text outcome.Alive = codes "alive"
outcome_text (outcome.Accepted index) = count (codes "accepted ") index

abbrev pub reply_text : Reply → List ℕ
reply_text (reply.Given o) = outcome_text o
reply_text reply.Fine = codes "ok"
reply_text reply.Running = codes "running"
reply_text (reply.Damaged file place) = count (codes "damaged ") file ++ count (codes " ") place
reply_text reply.NoSnapshot = codes "no snapshot"
reply_text reply.NotOpen = codes "not open"

-- what became of the order in a line
abbrev pub order_line : ℕ → Reply → List ℕ
order_line line r = count (codes "order ") line ++ codes " " ++ reply_text r ++ newline

abbrev pub stopped_line : ℕ → List ℕ
stopped_line member = codes "stopped " ++ decimal member ++ newline

abbrev pub backup_stopped_line : List ℕ
backup_stopped_line = codes "stopped backup" ++ newline
