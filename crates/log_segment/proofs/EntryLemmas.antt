-- Entries as they are read.
use Rattle.std.proofs.Common.{◌≡◌, ℕ, ◌+◌, ◌-◌, ◌%◌, ◌<◌, ◌≤◌, refl, sym, subst, arith}
use Rattle.cl_base.specs.Faults.{fault_of}
use Rattle.cl_base.specs.declared.fault.Trouble.{Trouble}
use Rattle.cl_base.specs.declared.fault.Trouble.TheVariants as trouble
use Rattle.cl_base.specs.declared.fault.MemberFault.{MemberFault}
use Rattle.cl_base.specs.declared.fault.MemberFault.TheVariants as fault
use Rattle.entry_log.specs.Log.{frames_len, end_after}
use Rattle.log_segment.specs.Looked.{IsNoDamage}
use Rattle.log_segment.proofs.LookLemmas.{err_of}
use Rattle.log_segment.proofs.AppendLemmas.{ends_here}
use Rattle.log_segment.proofs.PadLemmas.{pad_ends}

-- what is never Damaged names no wrong byte
pub no_damage : (T : Type 0) (e : MemberFault) → ((file place : ℕ) → err_of T e ≡ err_of T (fault.Damaged file place) → ⊥) → IsNoDamage e
no_damage T (fault.Damaged file place) never = never file place refl
no_damage T fault.Device never = tt
no_damage T fault.NoMemory never = tt
no_damage T (fault.LogFull place) never = tt

-- an entry that fits where it is written ends in its segment
pub end_within : (p n : ℕ) → p < 16777216 → frames_len n ≤ 65536 - p % 65536 → end_after p n ≤ 16777216
end_within p n low fits = let ends = ends_here p n fits in omega (arith, ends, low, fits)

-- one behind a pad ends in the next
pub end_padded : (p n : ℕ) → p + (65536 - p % 65536) < 16777216 → 65536 - p % 65536 < frames_len n → frames_len n ≤ 65536 → end_after p n ≤ 16777216
end_padded p n low long small = let ends = pad_ends p n (p + (65536 - p % 65536)) long refl in omega (arith, ends, low, small)

-- nor does what a disk answers
pub from_quiet : (t : Trouble) (e : MemberFault) → e ≡ fault_of t → IsNoDamage e
from_quiet trouble.Failed e is = subst IsNoDamage (sym is) tt
from_quiet trouble.NoMemory e is = subst IsNoDamage (sym is) tt
