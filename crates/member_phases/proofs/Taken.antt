-- A row of a member whose services consumed some entries before it.
use Rattle.std.proofs.Common.{◌≡◌, ℕ, true, ◌&&◌, List, ap, ◌∙◌, length-set}
use Rattle.std.specs.Prelude.{nat_lt}
use Rattle.entry_log.specs.Log.{Log}
use Rattle.service_api.specs.declared.shipped.Kind.{Kind}
use Rattle.service_runs.specs.Hosts.{longer}
use Rattle.consensus_core.specs.declared.row.Row.{Row}
use Rattle.consensus_core.specs.Member.{Sent, sent_by}
use Rattle.run_world.specs.Seat.{Fate, Seat, acted, lets_calls}
use Rattle.run_world.specs.RunWorld.{RunWorld, all_sent, committed, due_at, is_free, put, row_at, seat}
use Rattle.member_phases.specs.Frees.{with_consumed}
use Rattle.member_phases.specs.Seats.{with_seat}
use Rattle.member_phases.proofs.Worlds.{seat-there, set-set, up-there}

put-over : (w : RunWorld) (m : ℕ) (q t : Seat) (ps : List Sent) → put m t ps (with_seat m q w) ≡ put m t ps w
put-over w m q t ps = ap (λ (l : List Seat). record { now = w.now; seats = l; net = all_sent m ps w.net; records = w.records; printed = longer w.printed (committed t.member) }) (set-set w.seats m q t)

module _ (w : RunWorld) (m : ℕ) (inputs : List Log) (up : (seat w m).member.up ≡ true) where
  abbrev next : RunWorld
  next = with_seat m (with_consumed inputs (seat w m)) w

  there : seat next m ≡ with_consumed inputs (seat w m)
  there = seat-there w m (with_consumed inputs (seat w m)) (up-there w m up)

  pub row-after : (row : Row) (f : Fate) → row_at m row f next ≡ put m (acted row w.now f (with_consumed inputs (seat w m))) (sent_by row f.cut (seat w m).member) w
  row-after row f =
      ap (λ (z : Seat). put m (acted row w.now f z) (sent_by row f.cut z.member) next) there
      ∙ put-over w m (with_consumed inputs (seat w m)) (acted row w.now f (with_consumed inputs (seat w m))) (sent_by row f.cut (seat w m).member)

  pub free-after : is_free next m ≡ is_free w m
  free-after = λ i. (nat_lt m (length-set w.seats m (with_consumed inputs (seat w m)) i) && (there i).member.up) && lets_calls (there i).phase

  pub due-after : (kinds : List Kind) (now : ℕ) → due_at kinds (seat next m) now ≡ due_at kinds (seat w m) now
  due-after kinds now = ap (λ (z : Seat). due_at kinds z now) there
