-- What can be known of a source and of a sink in memory, besides their bytes.
use Rattle.std.specs.Prelude.{◌≡◌, ℕ, ◌+◌, ◌-◌, ◌^◌, min, Bool, if◌then◌else◌, List}
use Rattle.cl_base.specs.declared.memory.MemSource.{MemSource}
use Rattle.cl_base.specs.declared.memory.MemSink.{MemSink}

-- one more, but no more than a u64 holds
abbrev pub next : ℕ → ℕ
next n = min (n + 1) (2 ^ 64 - 1)

-- how many reads of a source there were so far
abbrev pub reads_so_far : MemSource → ℕ
reads_so_far s = s.calls

-- the numbers, from 1, of the reads that are to fail
abbrev pub failing_reads : MemSource → List ℕ
failing_reads s = s.failing.items

-- how many writes of a sink there were so far
abbrev pub writes_so_far : MemSink → ℕ
writes_so_far s = s.calls

-- the numbers, from 1, of the writes that are to fail
abbrev pub failing_writes : MemSink → List ℕ
failing_writes s = s.failing.items

-- the count rose by one exactly where the call failed, and else stayed
abbrev pub CountsFault : Bool → ℕ → ℕ → Type 0
CountsFault failed old new = new ≡ (if failed then next old else old)
