-- What changing calls in a row leave of a fuse, and of a disk without one.
use Rattle.std.specs.Prelude.{◌≡◌, ℕ, ◌+◌, ◌-◌, ◌<◌, ◌≤◌, true, false, ◌||◌, Option, Some, None, Result, Ok, Err, MatchResult}
use Rattle.std.proofs.Common.{inl, inr, sym, ◌∙◌, ap, subst, arith, refl}
use Rattle.std.proofs.lemmas.Bool.{leb-false, leb-true}
use Rattle.cl_base.specs.Counts.{Rose}
use Rattle.cl_base.specs.Disk.{FileState, DiskState, fuse_ends, after_call, Passes, Refused, ChangeGives}
use Rattle.cl_base.specs.Faults.{fault_of}
use Rattle.cl_base.specs.declared.fault.Trouble.{Trouble}
use Rattle.cl_base.specs.declared.fault.Trouble.TheVariants.{Failed, NoMemory}
use Rattle.cl_base.specs.declared.fault.MemberFault.{MemberFault}
use Rattle.cl_base.specs.declared.fault.MemberFault.TheVariants as fault

-- what a fuse lets pass after n calls; no fuse stays no fuse
abbrev pub less : ℕ → Option ℕ → Option ℕ
less n None = None
less n (Some k) = Some (k - n)

-- it lets n calls pass
abbrev pub IsLet : ℕ → Option ℕ → Type 0
IsLet n None = Unit {0}
IsLet n (Some k) = n ≤ k

-- n calls passed
pub record Passed (n : ℕ) (old new : DiskState) : Type 0 where
  pub enough : IsLet n old.lets
  pub lets : new.lets ≡ less n old.lets
  pub burnt : new.burnt ≡ false
  pub own : new.own_faults ≡ old.own_faults

-- a fuse that lets k calls pass ended a change of n calls, and what that left has P
pub record Ended (n : ℕ) (P : DiskState → ℕ → Type 0) (old new : DiskState) : Type 0 where
  pub k : ℕ
  pub lets : old.lets ≡ Some k
  pub few : k < n
  pub left : P new k
  pub own : new.own_faults ≡ old.own_faults

-- Where no fuse has refused a call, a change of n calls fails by no fault of the disk's own exactly where a fuse lets
-- fewer calls pass, and what that leaves has P. Where it is done, the fuse lets that many fewer calls pass, and without
-- a fuse there is still none; the disk's own faults are as many as before.
abbrev pub FuseEnds : {T E : Type 0} → ℕ → E → (DiskState → ℕ → Type 0) → DiskState → DiskState → Result T E → Type 0
FuseEnds n fault P old new result =
    old.burnt ≡ false → MatchResult result (λ _. Passed n old new) (λ e. e ≡ fault → (Rose old.own_faults new.own_faults → ⊥) → Ended n P old new)

less_more : (m n : ℕ) (a : Option ℕ) → less n (less m a) ≡ less (m + n) a
less_more m n None = refl
less_more m n (Some k) = ap Some (omega arith)

let_more : (m n : ℕ) (a : Option ℕ) → IsLet m a → IsLet n (less m a) → IsLet (m + n) a
let_more m n None first second = tt
let_more m n (Some k) first second = omega arith

one_let : (a : Option ℕ) → fuse_ends a ≡ false → IsLet 1 a
one_let None open_fuse = tt
one_let (Some k) open_fuse = let is = leb-false k 0 open_fuse in omega (arith, is)

one_less : (a : Option ℕ) → after_call a ≡ less 1 a
one_less None = refl
one_less (Some k) = refl

none_less : (a : Option ℕ) → a ≡ less 0 a
none_less None = refl
none_less (Some k) = ap Some (omega arith)

none_let : (a : Option ℕ) → IsLet 0 a
none_let None = tt
none_let (Some k) = omega arith

at_its_end : (a : Option ℕ) → fuse_ends a ≡ true → a ≡ Some 0
at_its_end None ends = absurd (cc)
at_its_end (Some k) ends = let is = leb-true k 0 ends in ap Some (omega (arith, is))

-- no call
pub passes_none : (old new : DiskState) → new.lets ≡ old.lets → new.burnt ≡ false → new.own_faults ≡ old.own_faults → Passed 0 old new
passes_none old new lets burnt own = record { enough = none_let old.lets; lets = lets ∙ none_less old.lets; burnt = burnt; own = own }

pub passes_one : {f : ℕ} {next : FileState} {old new : DiskState} → Passes f next old new → Passed 1 old new
passes_one {f} {next} {old} {new} passes = record {
  enough = one_let old.lets passes.let_pass;
  lets = passes.lets ∙ one_less old.lets;
  burnt = passes.burnt;
  own = passes.own;
}

pub passes_more : (m n : ℕ) (old mid new : DiskState) → Passed m old mid → Passed n mid new → Passed (m + n) old new
passes_more m n old mid new first second = record {
  enough = let_more m n old.lets first.enough (subst (IsLet n) first.lets second.enough);
  lets = second.lets ∙ ap (less n) first.lets ∙ less_more m n old.lets;
  burnt = second.burnt;
  own = second.own ∙ first.own;
}

-- a call that failed by no fault of the disk's own was refused, at a fuse that lets none pass
pub refused_at : (T : Type 0) (f : ℕ) (done : FileState → FileState) (tears : FileState → FileState → Type 0) (old new : DiskState) → ChangeGives {T = T} f done tears old new (Err Failed) → old.burnt ≡ false
    → (Rose old.own_faults new.own_faults → ⊥) → (old.lets ≡ Some 0) × Refused old new
refused_at T f done tears old new (inl refused) alive stays =
    let ends : fuse_ends old.lets ≡ true = ap (λ b. b || fuse_ends old.lets) (sym alive) ∙ refused.cause in
    (at_its_end old.lets ends, refused)
refused_at T f done tears old new (inr breaks) alive stays = absurd (stays breaks.own)

-- a fuse that let no call pass left all files as they were
pub record LetNone (was : ℕ → FileState) (left : DiskState) (k : ℕ) : Type 0 where
  pub none : k ≡ 0
  pub files : (g : ℕ) → left.files g ≡ was g

-- one call
pub ends_one : (T : Type 0) (f : ℕ) (done : FileState → FileState) (tears : FileState → FileState → Type 0) (old new : DiskState) (result : Result T Trouble) → ChangeGives f done tears old new result
    → FuseEnds 1 Failed (LetNone old.files) old new result
ends_one T f done tears old new (Ok v) gives alive = passes_one gives
ends_one T f done tears old new (Err Failed) gives alive = λ failed stays.
    let at = refused_at T f done tears old new gives alive stays in
    record { k = 0; lets = at.0; few = omega arith; left = record { none = refl; files = at.1.files }; own = at.1.own }
ends_one T f done tears old new (Err NoMemory) gives alive = λ failed stays. absurd (cc)

-- a fuse's end says less too
pub ends_weaker : (T E : Type 0) (fault : E) (n : ℕ) (P Q : DiskState → ℕ → Type 0) (old new : DiskState) (result : Result T E) → ((k : ℕ) → k < n → P new k → Q new k) → FuseEnds n fault P old new result → FuseEnds n fault Q old new result
ends_weaker T E fault n P Q old new (Ok v) so ends alive = ends alive
ends_weaker T E fault n P Q old new (Err e) so ends alive = λ failed stays.
    let end = ends alive failed stays in
    record { k = end.k; lets = end.lets; few = end.few; left = so end.k end.few end.left; own = end.own }

some_same : (a b : ℕ) → Some a ≡ Some b → a ≡ b
some_same a b same = cc

let_of : (m k : ℕ) (a : Option ℕ) → IsLet m a → less m a ≡ Some k → (a ≡ Some (m + k))
let_of m k None enough is = absurd (cc)
let_of m k (Some j) enough is = ap Some (let same = some_same (j - m) k is in omega (arith, same))

-- what the end of later calls left, after m calls that passed
abbrev pub Later : ℕ → (DiskState → ℕ → Type 0) → DiskState → ℕ → Type 0
Later m P left k = (m ≤ k) × P left (k - m)

-- a change of n calls after m calls that passed
pub fuse_then : (T E : Type 0) (fault : E) (m n : ℕ) (P : DiskState → ℕ → Type 0) (old mid new : DiskState) (result : Result T E) → Passed m old mid → FuseEnds n fault P mid new result
    → FuseEnds (m + n) fault (Later m P) old new result
fuse_then T E fault m n P old mid new (Ok v) first second alive = passes_more m n old mid new first (second first.burnt)
fuse_then T E fault m n P old mid new (Err e) first second alive = λ failed stays.
    let end = second first.burnt failed (λ rose. stays (subst (λ x. Rose x new.own_faults) first.own rose)) in
    let is = let_of m end.k old.lets first.enough (sym first.lets ∙ end.lets) in
    record {
      k = m + end.k;
      lets = is;
      few = omega (arith, end.few);
      left = (omega arith, subst (P new) (omega arith) end.left);
      own = end.own ∙ first.own;
    }

-- what the end of the first m calls left
abbrev pub Early : ℕ → (DiskState → ℕ → Type 0) → DiskState → ℕ → Type 0
Early m P left k = (k < m) × P left k

-- a change that ended in its first m calls
pub fuse_first : (T U E : Type 0) (fault : E) (m n : ℕ) (P : DiskState → ℕ → Type 0) (old new : DiskState) (e : E) → FuseEnds {T = T} m fault P old new (Err e)
    → FuseEnds {T = U} (m + n) fault (Early m P) old new (Err e)
fuse_first T U E fault m n P old new e ends alive = λ failed stays.
    let end = ends alive failed stays in
    record { k = end.k; lets = end.lets; few = omega (arith, end.few); left = (end.few, end.left); own = end.own }

-- a disk's fault as a member's
pub device_is_failed : (t : Trouble) → fault_of t ≡ fault.Device → t ≡ Failed
device_is_failed Failed is = refl
device_is_failed NoMemory is = absurd (cc)

pub fuse_of_member : (T U : Type 0) (n : ℕ) (P : DiskState → ℕ → Type 0) (old new : DiskState) (t : Trouble) (e : MemberFault) → e ≡ fault_of t → FuseEnds {T = T} n Failed P old new (Err t) → FuseEnds {T = U} n fault.Device P old new (Err e)
fuse_of_member T U n P old new t e is ends alive = λ failed stays. ends alive (device_is_failed t (sym is ∙ failed)) stays
