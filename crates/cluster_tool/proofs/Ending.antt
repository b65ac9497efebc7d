-- How listings end.
use Rattle.std.proofs.Common.{◌≡◌, ◌⊎◌, ℕ, zero, suc, ◌≤◌, Bool, IsTrue, List, [], ◌∷◌, map, Option, Some, None, Err, refl, sym, ap, ◌∙◌, subst, arith, inl, inr}
use Rattle.cl_base.specs.Counts.{Rose}
use Rattle.cl_base.specs.Faults.{HasMountCause}
use Rattle.cl_base.specs.Disk.{FileState, DiskState}
use Rattle.cl_base.specs.declared.fault.MemberFault.{MemberFault}
use Rattle.cl_base.specs.declared.fault.MemberFault.TheVariants as fault
use Rattle.node_state.specs.Node.{IsVersionTwo}
use Rattle.member_disk.specs.Kept.{Kept, Held}
use Rattle.cluster_tool.specs.declared.status.ToolStatus.{ToolStatus}
use Rattle.cluster_tool.specs.declared.status.ToolStatus.TheVariants as status
use Rattle.cluster_tool.specs.Status.{status_of, status_text, IsOrGivesUp}
use Rattle.cluster_tool.specs.Told.{Told}
use Rattle.cluster_tool.specs.Text.{verify_text}
use Rattle.cluster_tool.specs.Words.{Tool, Listing, verify}
use Rattle.cluster_tool.specs.Disks.{IsSeen, IsRead, IsStill, TurnedBy, FailsAt, EndsFor, EndsBoth, AllTell, AreSeen, AreRead, RoseAt, NoneOld, IsOldAt, NamesOld}
use Rattle.cluster_tool.specs.Listed.{IsMounted, StandFor, StandBefore, Leaves, HoldsMore, Lists, services_in, Ends, EndsWith, Runs, Answers}
use Rattle.cluster_tool.proofs.Reading.{untouched_then}
use Rattle.cluster_tool.proofs.Sinks.{leaves_told}

pub rose_before : (a b c : ℕ) → a ≤ b → Rose b c → Rose a c
rose_before a b c up rose = omega (arith, up, rose)

pub rose_after : (a b c : ℕ) → Rose a b → b ≤ c → Rose a c
rose_after a b c rose up = omega (arith, up, rose)

-- nothing is written in the place of these answers
pub quiet : (given meant : ToolStatus) → IsOrGivesUp given meant → (P : ToolStatus → Type 0) → P meant → P status.WriteFault → P status.NoMemory → P given
quiet given meant (inl is) P one two three = subst P (sym is) one
quiet given meant (inr (inl is)) P one two three = subst P (sym is) two
quiet given meant (inr (inr is)) P one two three = subst P (sym is) three

module _ {D : Type 0} (tells honest : D → Bool) (state : D → DiskState) (faults : D → ℕ) where
  pub seen_read : (a b : D) → IsSeen tells honest state faults a b → IsRead tells honest state faults a b
  seen_read a b seen = record { same = seen.same; still = seen.still; later = seen.later; others = λ t g ne. (seen.untouched t).files g; untouched = λ t two. seen.untouched t }

  pub read_seen : (a b c : D) → IsRead tells honest state faults a b → IsSeen tells honest state faults b c → IsRead tells honest state faults a c
  read_seen a b c read seen = record {
    same = seen.same ∙ read.same;
    still = seen.still ∙ read.still;
    later = omega (arith, read.later, seen.later);
    others = λ t g ne. (seen.untouched (subst IsTrue (sym read.same) t)).files g ∙ read.others t g ne;
    untouched = λ t two. untouched_then (state a) (state b) (state c) (read.untouched t two) (seen.untouched (subst IsTrue (sym read.same) t));
  }

  pub seen_seen : (a b c : D) → IsSeen tells honest state faults a b → IsSeen tells honest state faults b c → IsSeen tells honest state faults a c
  seen_seen a b c one two = record {
    same = two.same ∙ one.same;
    still = two.still ∙ one.still;
    later = omega (arith, one.later, two.later);
    untouched = λ t. untouched_then (state a) (state b) (state c) (one.untouched t) (two.untouched (subst IsTrue (sym one.same) t));
  }

  pub seen_then_read : (a b c : D) → IsSeen tells honest state faults a b → IsRead tells honest state faults b c → IsRead tells honest state faults a c
  seen_then_read a b c seen read = record {
    same = read.same ∙ seen.same;
    still = read.still ∙ seen.still;
    later = omega (arith, seen.later, read.later);
    others = λ t g ne. read.others (subst IsTrue (sym seen.same) t) g ne ∙ (seen.untouched t).files g;
    untouched = λ t two. untouched_then (state a) (state b) (state c) (seen.untouched t)
        (read.untouched (subst IsTrue (sym seen.same) t) (subst (λ (s : FileState). IsVersionTwo s.reads) (sym ((seen.untouched t).files 0)) two));
  }

  pub seen_none : (a : D) → IsSeen tells honest state faults a a
  seen_none a = record { same = refl; still = refl; later = omega arith; untouched = λ t. record { files = λ g. refl; lets = refl; burnt = refl } }

  pub all_seen_none : (ds : List D) → AreSeen tells honest state faults ds ds
  all_seen_none [] = tt
  all_seen_none (d ∷ ds) = (seen_none d, all_seen_none ds)

  pub all_read_none : (ds : List D) → AreRead tells honest state faults ds ds
  all_read_none [] = tt
  all_read_none (d ∷ ds) = (seen_read d d (seen_none d), all_read_none ds)

  -- what a fault in reading file 1 means, which isn't damaged where the disk tells its contents
  pub ends_unread : {T : Type 0} (a b : D) (e : MemberFault) → HasMountCause {T = T} (faults a) (faults b) (Err e) → (IsTrue (tells a) → (file place : ℕ) → e ≡ fault.Damaged file place → ⊥) → EndsFor tells faults 0 a b (status_of 0 e)
  ends_unread a b fault.Device cause sound = (refl, cause.device refl)
  ends_unread a b (fault.Damaged file place) cause sound = (refl, λ t. sound t file place refl)
  ends_unread a b fault.NoMemory cause sound = tt
  ends_unread a b (fault.LogFull place) cause sound = tt

  -- ---- lists of disks

  pub all_seen_read : (xs ys : List D) → AreSeen tells honest state faults xs ys → AreRead tells honest state faults xs ys
  all_seen_read [] [] seen = tt
  all_seen_read (a ∷ xs) (b ∷ ys) seen = (seen_read a b seen.0, all_seen_read xs ys seen.1)
  all_seen_read [] (b ∷ ys) seen = absurd seen
  all_seen_read (a ∷ xs) [] seen = absurd seen

  pub all_seen_then_read : (xs ys zs : List D) → AreSeen tells honest state faults xs ys → AreRead tells honest state faults ys zs → AreRead tells honest state faults xs zs
  all_seen_then_read [] [] [] seen read = tt
  all_seen_then_read (a ∷ xs) (b ∷ ys) (c ∷ zs) seen read = (seen_then_read a b c seen.0 read.0, all_seen_then_read xs ys zs seen.1 read.1)
  all_seen_then_read [] [] (c ∷ zs) seen read = absurd read
  all_seen_then_read (a ∷ xs) (b ∷ ys) [] seen read = absurd read
  all_seen_then_read [] (b ∷ ys) zs seen read = absurd seen
  all_seen_then_read (a ∷ xs) [] zs seen read = absurd seen

  pub all_tell_then : (xs ys : List D) → AreSeen tells honest state faults xs ys → AllTell tells xs → AllTell tells ys
  all_tell_then [] [] seen all = tt
  all_tell_then (a ∷ xs) (b ∷ ys) seen all = (subst IsTrue (sym seen.0.same) all.0, all_tell_then xs ys seen.1 all.1)
  all_tell_then [] (b ∷ ys) seen all = absurd seen
  all_tell_then (a ∷ xs) [] seen all = absurd seen

  same_files : (a b : D) → IsSeen tells honest state faults a b → IsTrue (tells a) → (state b).files ≡ (state a).files
  same_files a b seen t = λ i g. (seen.untouched t).files g i

  pub all_files : (xs ys : List D) → AreSeen tells honest state faults xs ys → AllTell tells xs → map (λ d. (state d).files) ys ≡ map (λ d. (state d).files) xs
  all_files [] [] seen all = refl
  all_files (a ∷ xs) (b ∷ ys) seen all = λ i. same_files a b seen.0 all.0 i ∷ all_files xs ys seen.1 all.1 i
  all_files [] (b ∷ ys) seen all = absurd seen
  all_files (a ∷ xs) [] seen all = absurd seen

  pub stand_then : (services : ℕ) (xs ys : List D) (n : ℕ) → AreSeen tells honest state faults xs ys → StandBefore tells state services ys n → StandBefore tells state services xs n
  stand_then services [] [] n seen stand = stand
  stand_then services (a ∷ xs) (b ∷ ys) zero seen stand = tt
  stand_then services (a ∷ xs) (b ∷ ys) (suc n) seen stand =
      (λ t. let k = stand.0 (subst IsTrue (sym seen.0.same) t) in (k.0, subst (λ (fs : ℕ → FileState). StandFor services fs k.0) (same_files a b seen.0 t) k.1), stand_then services xs ys n seen.1 stand.1)
  stand_then services [] (b ∷ ys) n seen stand = absurd seen
  stand_then services (a ∷ xs) [] n seen stand = absurd seen

  pub rose_then : (xs ys zs : List D) (n : ℕ) → AreSeen tells honest state faults xs ys → RoseAt faults ys zs n → RoseAt faults xs zs n
  rose_then (a ∷ xs) (b ∷ ys) (c ∷ zs) zero seen rose = rose_before (faults a) (faults b) (faults c) seen.0.later rose
  rose_then (a ∷ xs) (b ∷ ys) (c ∷ zs) (suc n) seen rose = rose_then xs ys zs n seen.1 rose
  rose_then [] [] zs n seen rose = absurd rose
  rose_then (a ∷ xs) (b ∷ ys) [] n seen rose = absurd rose
  rose_then [] (b ∷ ys) zs n seen rose = absurd seen
  rose_then (a ∷ xs) [] zs n seen rose = absurd seen

  pub none_at : (ds : List D) (n : ℕ) → NoneOld tells state ds → AllTell tells ds → IsOldAt tells state ds n → ⊥
  none_at [] n none all old = old
  none_at (d ∷ ds) zero none all old = none.0 all.0 (old all.0)
  none_at (d ∷ ds) (suc n) none all old = none_at ds n none.1 all.1 old.1

  pub old_once : (ds : List D) (m n : ℕ) → AllTell tells ds → IsOldAt tells state ds m → IsOldAt tells state ds n → m ≡ n
  old_once [] m n all one two = absurd one
  old_once (d ∷ ds) zero zero all one two = refl
  old_once (d ∷ ds) zero (suc n) all one two = absurd (two.0 all.0 (one all.0))
  old_once (d ∷ ds) (suc m) zero all one two = absurd (one.0 all.0 (two all.0))
  old_once (d ∷ ds) (suc m) (suc n) all one two = ap suc (old_once ds m n all.1 one.1 two.1)

  module _ {O : Type 0} (sink_tells : O → Bool) (held : O → List ℕ) (sink_faults : O → ℕ) where
    abbrev End : Listing → List D → List D → O → O → ToolStatus → Type 0
    End = Ends tells honest state faults sink_tells held sink_faults

    abbrev Run : Listing → List D → List D → O → O → ToolStatus → Type 0
    Run = Runs tells honest state faults sink_tells held sink_faults

    abbrev Tell : O → O → ToolStatus → ToolStatus → Type 0
    Tell a b meant given = Told sink_tells held sink_faults a b meant (status_text meant) given

    -- a disk of the list couldn't be mounted
    pub ends_failed : (listing : Listing) (xs ys : List D) (a b : O) (n : ℕ) (meant given : ToolStatus) → AreRead tells honest state faults xs ys → FailsAt (RoseAt faults xs ys n) n meant
        → StandBefore tells state (services_in listing) xs n → Tell a b meant given → End listing xs ys a b given
    ends_failed listing xs ys a b n meant given read fails stand told =
        let R = RoseAt faults xs ys n in
        let by = quiet given meant told.answer in record {
          no_usage = by (λ s. s ≡ status.Usage → ⊥) (λ is. subst (FailsAt R n) is fails) (λ is. absurd cc) (λ is. absurd cc);
          no_old = by (λ s. (d : ℕ) → s ≡ status.Old d → ⊥) (λ d is. subst (FailsAt R n) is fails) (λ d is. absurd cc) (λ d is. absurd cc);
          damaged = by (λ s. (d file place : ℕ) → s ≡ status.Damaged d file place → StandBefore tells state (services_in listing) xs d)
              (λ d file place is. let at : d ≡ n = subst (FailsAt R n) is fails in subst (StandBefore tells state (services_in listing) xs) (sym at) stand) (λ d file place is. absurd cc) (λ d file place is. absurd cc);
          disk_fault = by (λ s. (d : ℕ) → s ≡ status.DiskFault d → RoseAt faults xs ys d)
              (λ d is. let at : (d ≡ n) × R = subst (FailsAt R n) is fails in subst (RoseAt faults xs ys) (sym at.0) at.1) (λ d is. absurd cc) (λ d is. absurd cc);
          done = λ t all is. absurd (by (λ s. s ≡ status.Done → ⊥) (λ is. subst (FailsAt R n) is fails) (λ is. absurd cc) (λ is. absurd cc) is);
          sink = leaves_told sink_tells held sink_faults a b meant given told;
          disks = read;
        }

    -- a disk was mounted and listed
    pub ends_listed : (listing : Listing) (disk mid new : D) (a b : O) (given : ToolStatus) → IsRead tells honest state faults disk mid → IsSeen tells honest state faults mid new → EndsFor tells faults 0 mid new given
        → Leaves sink_tells held sink_faults a b given
        → (IsTrue (sink_tells a) → IsTrue (tells disk) → given ≡ status.Done → HoldsMore (Lists listing ((state disk).files ∷ [])) (held a) (held b))
        → End listing (disk ∷ []) (new ∷ []) a b given
    ends_listed listing disk mid new a b given read seen ends leaves done =
        let E = EndsFor tells faults 0 mid new in record {
          no_usage = λ is. subst E is ends;
          no_old = λ d is. subst E is ends;
          damaged = λ d file place is. let at : (d ≡ 0) × (IsTrue (tells mid) → ⊥) = subst E is ends in subst (StandBefore tells state (services_in listing) (disk ∷ [])) (sym at.0) tt;
          disk_fault = λ d is. let at : (d ≡ 0) × Rose (faults mid) (faults new) = subst E is ends in subst (RoseAt faults (disk ∷ []) (new ∷ [])) (sym at.0) (rose_before (faults disk) (faults mid) (faults new) read.later at.1);
          done = λ t all is. done t all.0 is;
          sink = leaves;
          disks = (read_seen disk mid new read seen, tt);
        }

    -- no disk of the list is of version 1
    pub runs_looked : (listing : Listing) (xs ys zs : List D) (a b : O) (given : ToolStatus) → AreSeen tells honest state faults xs ys → NoneOld tells state xs → End listing ys zs a b given → Run listing xs zs a b given
    runs_looked listing xs ys zs a b given seen none ends = record {
      no_usage = ends.no_usage;
      old_first = λ d is. absurd (ends.no_old d is);
      old_exactly = λ d all old. absurd (none_at xs d none all old);
      damaged = λ d file place is. (none, stand_then (services_in listing) xs ys d seen (ends.damaged d file place is));
      disk_fault = λ d is. rose_then xs ys zs d seen (ends.disk_fault d is);
      done = λ t all is. let more = ends.done t (all_tell_then xs ys seen all) is in record {
        text = more.text;
        lists = subst (λ (fs : List (ℕ → FileState)). Lists listing fs more.text) (all_files xs ys seen all) more.lists;
        holds = more.holds;
      };
      sink = ends.sink;
      disks = all_seen_then_read xs ys zs seen ends.disks;
    }

    names : (xs ys : List D) (n d : ℕ) (meant given : ToolStatus) → IsOrGivesUp given meant → TurnedBy (IsOldAt tells state xs n) (RoseAt faults xs ys n) n meant → AllTell tells xs → n ≤ d → IsOldAt tells state xs d → NamesOld d given
    names xs ys n d meant given (inr (inl is)) turned all up old = inr (inr (inl is))
    names xs ys n d meant given (inr (inr is)) turned all up old = inr (inr (inr is))
    names xs ys n d (status.Old m) given (inl is) turned all up old = inl (is ∙ ap status.Old (turned.0 ∙ old_once xs n d all turned.1 old))
    names xs ys n d (status.DiskFault m) given (inl is) turned all up old = inr (inl (m, omega (arith, turned.0, up), is))
    names xs ys n d status.NoMemory given (inl is) turned all up old = inr (inr (inr is))
    names xs ys n d status.Done given (inl is) turned all up old = absurd turned
    names xs ys n d status.Usage given (inl is) turned all up old = absurd turned
    names xs ys n d status.WriteFault given (inl is) turned all up old = absurd turned
    names xs ys n d (status.Damaged m file place) given (inl is) turned all up old = absurd turned

    -- a disk of the list wasn't to be mounted
    pub runs_turned : (listing : Listing) (xs ys : List D) (a b : O) (n : ℕ) (meant given : ToolStatus) → AreSeen tells honest state faults xs ys
        → TurnedBy (IsOldAt tells state xs n) (RoseAt faults xs ys n) n meant → ((d : ℕ) → AllTell tells xs → IsOldAt tells state xs d → n ≤ d) → Tell a b meant given → Run listing xs ys a b given
    runs_turned listing xs ys a b n meant given seen turned first told =
        let T = TurnedBy (IsOldAt tells state xs n) (RoseAt faults xs ys n) n in
        let by = quiet given meant told.answer in record {
          no_usage = by (λ s. s ≡ status.Usage → ⊥) (λ is. subst T is turned) (λ is. absurd cc) (λ is. absurd cc);
          old_first = λ d is. (
            by (λ s. s ≡ status.Old d → IsOldAt tells state xs d)
                (λ is. let at : (d ≡ n) × IsOldAt tells state xs n = subst T is turned in subst (IsOldAt tells state xs) (sym at.0) at.1) (λ is. absurd cc) (λ is. absurd cc) is,
            seen,
          );
          old_exactly = λ d all old. names xs ys n d meant given told.answer turned all (first d all old) old;
          damaged = λ d file place is. absurd (by (λ s. s ≡ status.Damaged d file place → ⊥) (λ is. subst T is turned) (λ is. absurd cc) (λ is. absurd cc) is);
          disk_fault = λ d is. by (λ s. s ≡ status.DiskFault d → RoseAt faults xs ys d)
              (λ is. let at : (d ≡ n) × RoseAt faults xs ys n = subst T is turned in subst (RoseAt faults xs ys) (sym at.0) at.1) (λ is. absurd cc) (λ is. absurd cc) is;
          done = λ t all is. absurd (by (λ s. s ≡ status.Done → ⊥) (λ is. subst T is turned) (λ is. absurd cc) (λ is. absurd cc) is);
          sink = leaves_told sink_tells held sink_faults a b meant given told;
          disks = all_seen_read xs ys seen;
        }

    -- ---- two disks

    rose_at : (first mid second new new1 : D) (d : ℕ) → faults first ≤ faults mid → RoseAt faults (mid ∷ second ∷ []) (new ∷ new1 ∷ []) d → RoseAt faults (first ∷ second ∷ []) (new ∷ new1 ∷ []) d
    rose_at first mid second new new1 zero later rose = rose_before (faults first) (faults mid) (faults new) later rose
    rose_at first mid second new new1 (suc d) later rose = rose

    stands_at : (first second : D) (d : ℕ) → (IsTrue (tells first) → (kept : Kept) × StandFor 1 (state first).files kept) → (d ≡ 0) ⊎ (d ≡ 1) → StandBefore tells state 1 (first ∷ second ∷ []) d
    stands_at first second d stand (inl is) = subst (StandBefore tells state 1 (first ∷ second ∷ [])) (sym is) tt
    stands_at first second d stand (inr is) = subst (StandBefore tells state 1 (first ∷ second ∷ [])) (sym is) (stand, tt)

    abbrev With : Held D → D → D → D → O → O → ToolStatus → Type 0
    With = EndsWith tells honest state faults sink_tells held sink_faults

    -- the first disk was mounted
    pub ends_both : (first : D) (mid : Held D) (second new new1 : D) (a b : O) (given : ToolStatus) → IsMounted tells honest state faults 1 first mid → With mid second new new1 a b given → End verify (first ∷ second ∷ []) (new ∷ new1 ∷ []) a b given
    ends_both first mid second new new1 a b given mounted ends = record {
      no_usage = ends.no_usage;
      no_old = ends.no_old;
      damaged = λ d file place is. stands_at first second d (λ t. (mid.kept, mounted.stands t)) (ends.damaged d file place is);
      disk_fault = λ d is. rose_at first mid.disk second new new1 d mounted.disk.later (ends.disk_fault d is);
      done = λ t all is. let more = ends.done t (subst IsTrue (sym mounted.disk.same) all.0) all.1.0 is in record {
        text = more.text;
        lists = record { one = mid.kept; two = more.lists.0; first_stands = mounted.stands all.0; second_stands = more.lists.1; is = more.lists.2 };
        holds = more.holds;
      };
      sink = ends.sink;
      disks = (read_seen first mid.disk new mounted.disk ends.first_seen, (ends.second_read, tt));
    }

    -- the second disk couldn't be mounted
    pub with_failed : (mid : Held D) (second new1 : D) (a b : O) (meant given : ToolStatus) → IsRead tells honest state faults second new1 → FailsAt (Rose (faults second) (faults new1)) 1 meant → Tell a b meant given → With mid second mid.disk new1 a b given
    with_failed mid second new1 a b meant given read fails told =
        let R = Rose (faults second) (faults new1) in
        let by = quiet given meant told.answer in record {
          no_usage = by (λ s. s ≡ status.Usage → ⊥) (λ is. subst (FailsAt R 1) is fails) (λ is. absurd cc) (λ is. absurd cc);
          no_old = by (λ s. (d : ℕ) → s ≡ status.Old d → ⊥) (λ d is. subst (FailsAt R 1) is fails) (λ d is. absurd cc) (λ d is. absurd cc);
          damaged = by (λ s. (d file place : ℕ) → s ≡ status.Damaged d file place → (d ≡ 0) ⊎ (d ≡ 1)) (λ d file place is. inr (subst (FailsAt R 1) is fails)) (λ d file place is. absurd cc) (λ d file place is. absurd cc);
          disk_fault = by (λ s. (d : ℕ) → s ≡ status.DiskFault d → RoseAt faults (mid.disk ∷ second ∷ []) (mid.disk ∷ new1 ∷ []) d)
              (λ d is. let at : (d ≡ 1) × R = subst (FailsAt R 1) is fails in subst (RoseAt faults (mid.disk ∷ second ∷ []) (mid.disk ∷ new1 ∷ [])) (sym at.0) at.1) (λ d is. absurd cc) (λ d is. absurd cc);
          done = λ t one two is. absurd (by (λ s. s ≡ status.Done → ⊥) (λ is. subst (FailsAt R 1) is fails) (λ is. absurd cc) (λ is. absurd cc) is);
          sink = leaves_told sink_tells held sink_faults a b meant given told;
          first_seen = seen_none mid.disk;
          second_read = read;
        }

    rose_of : (first new second new1 : D) (d : ℕ) → ((d ≡ 0) × Rose (faults first) (faults new)) ⊎ ((d ≡ 1) × Rose (faults second) (faults new1)) → RoseAt faults (first ∷ second ∷ []) (new ∷ new1 ∷ []) d
    rose_of first new second new1 d (inl at) = subst (RoseAt faults (first ∷ second ∷ []) (new ∷ new1 ∷ [])) (sym at.0) at.1
    rose_of first new second new1 d (inr at) = subst (RoseAt faults (first ∷ second ∷ []) (new ∷ new1 ∷ [])) (sym at.0) at.1

    which : {P Q : Type 0} (d : ℕ) → ((d ≡ 0) × P) ⊎ ((d ≡ 1) × Q) → (d ≡ 0) ⊎ (d ≡ 1)
    which d (inl at) = inl at.0
    which d (inr at) = inr at.0

    rose_second : (second mid new1 : D) (d : ℕ) (P : Type 0) → faults second ≤ faults mid → ((d ≡ 0) × P) ⊎ ((d ≡ 1) × Rose (faults mid) (faults new1)) → ((d ≡ 0) × P) ⊎ ((d ≡ 1) × Rose (faults second) (faults new1))
    rose_second second mid new1 d P later (inl at) = inl at
    rose_second second mid new1 d P later (inr at) = inr (at.0, rose_before (faults second) (faults mid) (faults new1) later at.1)

    -- both were mounted and compared
    pub with_listed : (first : Held D) (second : D) (mid : Held D) (new new1 : Held D) (a b : O) (given : ToolStatus) → IsMounted tells honest state faults 1 second mid
        → IsStill tells honest state faults first new → IsStill tells honest state faults mid new1 → EndsBoth tells faults first.disk new.disk mid.disk new1.disk given
        → Leaves sink_tells held sink_faults a b given
        → (IsTrue (sink_tells a) → IsTrue (tells first.disk) → IsTrue (tells mid.disk) → given ≡ status.Done → HoldsMore (λ text. text ≡ verify_text first.kept.log mid.kept.log) (held a) (held b))
        → With first second new.disk new1.disk a b given
    with_listed first second mid new new1 a b given mounted one two ends leaves done =
        let E = EndsBoth tells faults first.disk new.disk mid.disk new1.disk in record {
          no_usage = λ is. subst E is ends;
          no_old = λ d is. subst E is ends;
          damaged = λ d file place is. which d (subst E is ends);
          disk_fault = λ d is. rose_of first.disk new.disk second new1.disk d (rose_second second mid.disk new1.disk d (Rose (faults first.disk) (faults new.disk)) mounted.disk.later (subst E is ends));
          done = λ t tf ts is. let more = done t tf (subst IsTrue (sym mounted.disk.same) ts) is in record {
            text = more.text;
            lists = (mid.kept, mounted.stands ts, more.lists);
            holds = more.holds;
          };
          sink = leaves;
          first_seen = one.disk;
          second_read = read_seen second mid.disk new1.disk mounted.disk two.disk;
        }

    -- ---- what the words ask for

    abbrev Answer : Option Tool → List D → List D → O → O → ToolStatus → Type 0
    Answer = Answers tells honest state faults sink_tells held sink_faults

    pub answer_stays : (tool : Option Tool) (xs ys : List D) (a b : O) (given : ToolStatus) → Answer tool xs ys a b given → (d : ℕ) → given ≡ status.Old d → AreSeen tells honest state faults xs ys
    answer_stays None xs ys a b given answer d is = absurd (quiet given status.Usage answer.1.answer (λ s. s ≡ status.Old d → ⊥) (λ is. absurd cc) (λ is. absurd cc) (λ is. absurd cc) is)
    answer_stays (Some tool) xs ys a b given answer d is = (answer.old_first d is).1

    pub answer_none_old : (tool : Option Tool) (xs ys : List D) (a b : O) (given : ToolStatus) → Answer tool xs ys a b given → (d file place : ℕ) → given ≡ status.Damaged d file place → NoneOld tells state xs
    answer_none_old None xs ys a b given answer d file place is = absurd (quiet given status.Usage answer.1.answer (λ s. s ≡ status.Damaged d file place → ⊥) (λ is. absurd cc) (λ is. absurd cc) (λ is. absurd cc) is)
    answer_none_old (Some tool) xs ys a b given answer d file place is = (answer.damaged d file place is).0

    pub answer_disks : (tool : Option Tool) (xs ys : List D) (a b : O) (given : ToolStatus) → Answer tool xs ys a b given → AreRead tells honest state faults xs ys
    answer_disks None xs ys a b given answer = subst (AreRead tells honest state faults xs) (sym answer.0) (all_read_none xs)
    answer_disks (Some tool) xs ys a b given answer = answer.disks
