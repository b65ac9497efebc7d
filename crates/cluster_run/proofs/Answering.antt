-- What the end of a call tells.
use Rattle.std.proofs.Common.{◌≡◌, ℕ, ◌<◌, Bool, IsTrue, List, length, Option, Some, None, refl, sym, subst, inl, inr}
use Rattle.cl_base.specs.Counts.{Rose}
use Rattle.cl_base.specs.Disk.{DiskState}
use Rattle.plan.specs.declared.words.Plan.{Plan}
use Rattle.plan.specs.declared.words.Plan.TheVariants as plans
use Rattle.scenario.specs.declared.fault.Cause.{Cause}
use Rattle.run_start.specs.Begins.{AreFew}
use Rattle.run_start.specs.Disks.{RoseAt, IsUsedAt}
use Rattle.run_start.specs.Reading.{IsFaulty}
use Rattle.run_start.specs.Status.{IsOrGivesUp}
use Rattle.run_start.specs.declared.status.Status.{Status}
use Rattle.run_start.specs.declared.status.Status.TheVariants as status
use Rattle.run_start.proofs.Beginning.{few_given, few_alone}
use Rattle.cluster_run.specs.Ends.{IsRun, IsAnswered}

-- an answer that an unasked call has
abbrev IsUnasked : Status → Type 0
IsUnasked status.Usage = Unit {0}
IsUnasked status.WriteFault = Unit {0}
IsUnasked status.NoMemory = Unit {0}
IsUnasked _ = ⊥

unasked : (s : Status) → IsOrGivesUp s status.Usage → IsUnasked s
unasked s (inl is) = subst IsUnasked (sym is) tt
unasked s (inr (inl is)) = subst IsUnasked (sym is) tt
unasked s (inr (inr is)) = subst IsUnasked (sym is) tt

module _ {D : Type 0} (tells : D → Bool) (state : D → DiskState) (faults : D → ℕ) (old new : List D) (told : Bool) (had : List ℕ) (before after : ℕ) where
  usage_of : (asked : Option Plan) → IsAnswered tells state faults old new asked told had before after status.Usage → asked ≡ None
  usage_of None h = refl
  usage_of (Some (plans.Run dir)) h = absurd h
  usage_of (Some (plans.Make n dir)) h = absurd h.2
  usage_of (Some plans.Check) h = absurd h

  read_fault_of : (asked : Option Plan) → IsAnswered tells state faults old new asked told had before after status.ReadFault → Rose before after
  read_fault_of None h = absurd (unasked status.ReadFault h)
  read_fault_of (Some (plans.Run dir)) h = h
  read_fault_of (Some (plans.Make n dir)) h = absurd h.2
  read_fault_of (Some plans.Check) h = h

  too_long_of : (asked : Option Plan) → IsAnswered tells state faults old new asked told had before after status.TooLong → IsTrue told → 1048576 < length had
  too_long_of None h = absurd (unasked status.TooLong h)
  too_long_of (Some (plans.Run dir)) h = h
  too_long_of (Some (plans.Make n dir)) h = absurd h.2
  too_long_of (Some plans.Check) h = h

  refused_of : (asked : Option Plan) (line : ℕ) (cause : Cause) → IsAnswered tells state faults old new asked told had before after (status.Refused line cause) → IsFaulty told had line cause
  refused_of None line cause h = absurd (unasked (status.Refused line cause) h)
  refused_of (Some (plans.Run dir)) line cause h = h
  refused_of (Some (plans.Make n dir)) line cause h = absurd h.2
  refused_of (Some plans.Check) line cause h = h

  few_disks_of : (asked : Option Plan) (members few : ℕ) → IsAnswered tells state faults old new asked told had before after (status.FewDisks members few) → (few ≡ length old) × AreFew told had members few
  few_disks_of None members few h = absurd (unasked (status.FewDisks members few) h)
  few_disks_of (Some (plans.Run dir)) members few h = (h.2.1, few_given told had h.0 few members h.1 h.2.0 h.2.2)
  few_disks_of (Some (plans.Make n dir)) members few h = (h.2.1, inl (few_alone h.0 few members h.1 h.2.0 h.2.2))
  few_disks_of (Some plans.Check) members few h = absurd h

  used_of : (asked : Option Plan) (member file : ℕ) → IsAnswered tells state faults old new asked told had before after (status.Used member file) → IsUsedAt tells state old member file
  used_of None member file h = absurd (unasked (status.Used member file) h)
  used_of (Some (plans.Run dir)) member file h = h.2.1
  used_of (Some (plans.Make n dir)) member file h = h.2.1
  used_of (Some plans.Check) member file h = absurd h

  disk_fault_of : (asked : Option Plan) (member : ℕ) → IsAnswered tells state faults old new asked told had before after (status.DiskFault member) → RoseAt faults old new member
  disk_fault_of None member h = absurd (unasked (status.DiskFault member) h)
  disk_fault_of (Some (plans.Run dir)) member h = h.2.1
  disk_fault_of (Some (plans.Make n dir)) member h = h.2.1
  disk_fault_of (Some plans.Check) member h = absurd h

  module _ (asked : Option Plan) (s : Status) (ends : IsAnswered tells state faults old new asked told had before after s) where
    as_meant : (meant : Status) → s ≡ meant → IsAnswered tells state faults old new asked told had before after meant
    as_meant meant is = subst (λ x. IsAnswered tells state faults old new asked told had before after x) is ends

    -- each answer's reason, whatever was asked for
    pub usage : s ≡ status.Usage → asked ≡ None
    usage is = usage_of asked (as_meant status.Usage is)

    pub usage_exactly : asked ≡ None → IsOrGivesUp s status.Usage
    usage_exactly is = subst (λ x. IsAnswered tells state faults old new x told had before after s) is ends

    pub run_ends : (dir : Option (List ℕ)) → asked ≡ Some (plans.Run dir) → IsRun tells state faults old new told had before after s
    run_ends dir is = subst (λ x. IsAnswered tells state faults old new x told had before after s) is ends

    pub read_fault : s ≡ status.ReadFault → Rose before after
    read_fault is = read_fault_of asked (as_meant status.ReadFault is)

    pub too_long : s ≡ status.TooLong → IsTrue told → 1048576 < length had
    too_long is = too_long_of asked (as_meant status.TooLong is)

    pub refused : (line : ℕ) (cause : Cause) → s ≡ status.Refused line cause → IsFaulty told had line cause
    refused line cause is = refused_of asked line cause (as_meant (status.Refused line cause) is)

    pub few_disks : (members few : ℕ) → s ≡ status.FewDisks members few → (few ≡ length old) × AreFew told had members few
    few_disks members few is = few_disks_of asked members few (as_meant (status.FewDisks members few) is)

    pub used : (member file : ℕ) → s ≡ status.Used member file → IsUsedAt tells state old member file
    used member file is = used_of asked member file (as_meant (status.Used member file) is)

    pub disk_fault : (member : ℕ) → s ≡ status.DiskFault member → RoseAt faults old new member
    disk_fault member is = disk_fault_of asked member (as_meant (status.DiskFault member) is)
