use Rattle.member_starts.proofs.Formatting.{formatted-first}
use Rattle.member_starts.proofs.a_formatted_disk_is_a_first_seat.Goals as goal

pub returns : goal.returns
returns g c kinds old new blank done = formatted-first _ kinds old new blank done
