-- Results that tell of what is so anyway.
use Rattle.std.proofs.Common.{◌≡◌, ℕ, Bool, List, [], take, Result, Ok, Err, OnOk, sym, ap, ◌∙◌, subst}
use Rattle.cl_base.specs.Disk.{DiskState}
use Rattle.commit_counter.specs.declared.role.Role.{Role}
use Rattle.sbe_events.specs.declared.event.Event.{Event}
use Rattle.egress.specs.declared.sent.Sent.{Sent}
use Rattle.module_state.specs.Module.{Module}
use Rattle.member_disk.specs.Kept.{Held as DiskHeld}
use Rattle.member_module.specs.Held.{Held as ModuleHeld}
use Rattle.cl_base.specs.declared.entry.Entry.{Entry}
use Rattle.service_container.specs.Held.{Held}
use Rattle.owed_egress.specs.Taken.{Outboxes, module_over, sent_over}
use Rattle.consensus_agent.specs.Accepted.{OnFault}
use Rattle.consensus_agent.specs.Written.{AreWritten, phase_snapshots}
use Rattle.consensus_agent.specs.declared.fault.AgentFault.{AgentFault}
use Rattle.consensus_agent.specs.declared.fault.AgentFault.TheVariants as fault

pub on_ok : {A B : Type 0} (r : Result A B) (P : Type 0) → P → OnOk r P
on_ok (Ok a) P p = p
on_ok (Err e) P p = tt

-- no entry leaves the module as it is, and owes nothing
pub state_none : (bs : Outboxes) (i n : ℕ) (m : Module) (es : List Event) → n ≡ 0 → m ≡ module_over bs i m (take n es)
state_none bs i n m es none = ap (λ k. module_over bs i m (take k es)) (sym none)

pub owed_none : (role : Role) (bs : Outboxes) (i n : ℕ) (m : Module) (es : List Event) (sent : List Sent) → n ≡ 0 → sent ≡ [] → sent ≡ sent_over role bs i m (take n es)
owed_none role bs i n m es sent none is = is ∙ ap (λ k. sent_over role bs i m (take k es)) (sym none)

-- a fact of a fault of the disk
pub on_fault : {A : Type 0} (r : Result A AgentFault) (P : Type 0) → P → OnFault r P
on_fault (Ok a) P p = tt
on_fault (Err fault.NoMemory) P p = tt
on_fault (Err fault.Device) P p = p
on_fault (Err (fault.Damaged file place)) P p = p

module _ {D : Type 0} (state : D → DiskState) (is_told is_honest : D → Bool) where
  -- no entry has a snapshot written of it
  pub written_none : (cs : List Held) (log : List Entry) (m : ModuleHeld) (n : ℕ) (a b : DiskHeld D) → n ≡ 0 → b ≡ a → AreWritten state is_told is_honest (phase_snapshots cs log m n) a b
  written_none cs log m n a b none same = subst (λ (k : ℕ). AreWritten state is_told is_honest (phase_snapshots cs log m k) a b) (sym none) same
