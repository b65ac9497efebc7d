-- Why a run can't begin.
use Rattle.std.proofs.Common.{◌≡◌, ℕ, ◌+◌, ◌<◌, Bool, true, false, List, arith, refl, sym, subst, ◌⊎◌, inl, inr}
use Rattle.std.proofs.lemmas.Bool.{cases_lt}
use Rattle.std.specs.Prelude.{if◌then◌else◌}
use Rattle.cl_base.specs.Disk.{DiskState}
use Rattle.scenario.specs.Orders.{members_of}
use Rattle.scenario.specs.declared.order.Order.{Order}
use Rattle.run_start.specs.Reading.{AreOrders}
use Rattle.run_start.specs.Begins.{CannotBegin, LookFails, AreFew}
use Rattle.run_start.specs.Needed.{has_backup, disks_of}
use Rattle.run_start.specs.declared.status.Status.{Status}
use Rattle.run_start.specs.declared.status.Status.TheVariants as status

module _ {D : Type 0} (tells : D → Bool) (state : D → DiskState) (faults : D → ℕ) (members needed : ℕ) (old new : List D) where
  -- a look that fails is why the run can't begin
  pub look_begins : (s : Status) → LookFails tells state faults needed old new s → CannotBegin tells state faults members needed old new s
  look_begins (status.Used disk file) h = h
  look_begins (status.DiskFault disk) h = h
  look_begins status.NoMemory h = tt
  look_begins status.Done h = absurd h
  look_begins status.Usage h = absurd h
  look_begins (status.Refused line cause) h = absurd h
  look_begins status.TooLong h = absurd h
  look_begins (status.FewDisks m n) h = absurd h
  look_begins status.ReadFault h = absurd h
  look_begins status.WriteFault h = absurd h

few_or : (b : Bool) (few members : ℕ) → few < members + (if b then 1 else 0) → (few < members) ⊎ ((few ≡ members) × (b ≡ true))
few_or false few members h = inl (omega (arith, h))
few_or true few members h = elim (cases_lt few members) [
  | inl less ↦ inl less
  | inr more ↦ inr (omega (arith, h, more), refl)
]

few_cases : (told : Bool) (had : List ℕ) (orders : List Order) (few members : ℕ) → AreOrders told had orders → (few < members) ⊎ ((few ≡ members) × (has_backup orders ≡ true)) → AreFew told had members few
few_cases told had orders few members are (inl less) = inl less
few_cases told had orders few members are (inr same) = inr (same.0, orders, are, same.1)

-- a run of orders that a source gave lacks disks
pub few_given : (told : Bool) (had : List ℕ) (orders : List Order) (few members : ℕ) → AreOrders told had orders → members ≡ members_of orders → few < disks_of orders → AreFew told had members few
few_given told had orders few members are e h = few_cases told had orders few members are (few_or (has_backup orders) few members (subst (λ m. few < m + (if has_backup orders then 1 else 0)) (sym e) h))

fewer : (b : Bool) (few members : ℕ) → b ≡ false → few < members + (if b then 1 else 0) → few < members
fewer false few members none h = omega (arith, h)
fewer true few members none h = absurd cc

-- a run without a backup lacks disks
pub few_alone : (orders : List Order) (few members : ℕ) → has_backup orders ≡ false → members ≡ members_of orders → few < disks_of orders → few < members
few_alone orders few members none e h = fewer (has_backup orders) few members none (subst (λ m. few < m + (if has_backup orders then 1 else 0)) (sym e) h)
