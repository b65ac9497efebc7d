use Rattle.std.proofs.Common.{◌≡◌, take}
use Rattle.session_manager.proofs.sessions.Sessions.copy.Given as goal

abbrev pub invariant-loop-place : goal.invariant-loop-place
invariant-loop-place l = l.copies.table ≡ record { listed = take l.place l.self.table.listed; next_id = l.self.table.next_id }
