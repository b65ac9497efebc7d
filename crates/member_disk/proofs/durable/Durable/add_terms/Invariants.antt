use Rattle.std.proofs.Common.{◌≡◌, ◌≤◌, IsTrue, take, Ok}
use Rattle.log_segment.specs.Held.{new_terms}
use Rattle.member_disk.specs.Kept.{ReadsAs, EachStands}
use Rattle.member_disk.specs.Parts.{IsMade, made, term_parts}
use Rattle.member_disk.specs.CutWell.{Spares, no_file}
use Rattle.member_disk.specs.Changes.{HasMoreTerms, HaveTerms}
use Rattle.member_disk.proofs.durable.Durable.add_terms.Given as goal

abbrev pub invariant-loop-entry : goal.invariant-loop-entry
invariant-loop-entry g l = record {
  cause : g.D.Disk.fault_count l.fn.disk ≤ g.D.Disk.fault_count l.disk;
  tells : g.D.Disk.tells l.disk ≡ g.D.Disk.tells l.fn.disk;
  honest : g.D.Disk.is_honest l.disk ≡ g.D.Disk.is_honest l.fn.disk;
  stands : IsTrue (g.D.Disk.tells l.fn.disk) → ReadsAs l.self (g.D.Disk.state l.disk).files;
  more : HasMoreTerms l.fn.self l.self;
  makes : l.self ≡ made (term_parts l.fn.self (take l.entry-index l.entries)) l.fn.self;
  made : IsTrue (g.D.Disk.is_honest l.fn.disk) → EachStands l.fn.self (g.D.Disk.state l.fn.disk).files → IsMade {T = Unit {0}} g.D.Disk.state g.D.Disk.moment g.D.Disk.left_since (term_parts l.fn.self (take l.entry-index l.entries)) l.fn.self l.fn.disk l.disk (Ok tt);
  spares : IsTrue (g.D.Disk.is_honest l.fn.disk) → EachStands l.fn.self (g.D.Disk.state l.fn.disk).files → Spares g.D.Disk.state g.D.Disk.moment g.D.Disk.left_since no_file l.fn.disk l.disk;
  there : HaveTerms l.self.entries (new_terms 0 (take l.entry-index l.entries));
}
