-- What a poller's fields say, and the facts that tie them. What each answer tells.
use Rattle.std.specs.Prelude.{◌≡◌, ◌+◌, ◌/◌, ◌%◌, ◌≤◌, ◌==◌, true, false, [], length}
use Rattle.std.specs.Arc.{arc_value}
use Rattle.crossbeam_queue.specs.Passes.{view, IsPassOf}
use Rattle.commit_counter.specs.declared.poller.Poller.TheInside.{Inside}
use Rattle.commit_counter.specs.Words.{known}
use Rattle.commit_counter.specs.Ends.{Polled}

abbrev pub polled_of : Inside → Polled
polled_of p =
    record {
      name = record { queue = p.pass.table_id; words = p.seat.table_id };
      start = p.start;
      list = (view p.pass).taken;
      seen = p.seen / 2;
      last = p.seen % 2 == 1;
    }

pub record IsPoller (p : Inside) : Type 0 where
  pub pass : IsPassOf (arc_value p.image).queue p.pass
  pub pops : (view p.pass).pops ≡ true
  pub seat : p.seat.table_id ≡ (arc_value p.image).words.shared.table_id
  pub free : p.seat.me.1 ≡ []
  pub knows : p.seat.me.0 ≡ known false true 0 p.seen p.position 0
  pub count : p.position ≡ p.start + length (view p.pass).taken
  pub within : p.position ≤ p.seen / 2
