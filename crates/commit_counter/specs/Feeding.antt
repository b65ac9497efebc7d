-- What a feed's fields say, and the facts that tie them.
use Rattle.std.specs.Prelude.{◌≡◌, ◌+◌, ◌/◌, ◌%◌, ◌^◌, ◌<◌, ◌≤◌, ◌==◌, true, false, [], length}
use Rattle.std.specs.Arc.{arc_value}
use Rattle.crossbeam_queue.specs.Passes.{view, IsPassOf}
use Rattle.commit_counter.specs.declared.feed.Feed.TheInside.{Inside}
use Rattle.commit_counter.specs.Words.{known}
use Rattle.commit_counter.specs.Ends.{Fed}

abbrev pub fed_of : Inside → Fed
fed_of f =
    record {
      name = record { queue = f.pass.table_id; words = f.seat.table_id };
      start = f.start;
      list = (view f.pass).fed;
      commit = f.word / 2;
      ended = f.word % 2 == 1;
      role = f.role;
      found = f.seat.me.0.found;
    }

pub record IsFeed (f : Inside) : Type 0 where
  pub pass : IsPassOf (arc_value f.image).queue f.pass
  pub pushes : (view f.pass).pushes ≡ true
  pub seat : f.seat.table_id ≡ (arc_value f.image).words.shared.table_id
  pub free : f.seat.me.1 ≡ []
  pub knows : f.seat.me.0 ≡ known true false f.word 0 0 f.seat.me.0.found
  pub begun : f.start ≤ f.seat.me.0.found
  pub bound : f.word < 2 ^ 63
  pub count : f.pushed ≡ f.start + length (view f.pass).fed
