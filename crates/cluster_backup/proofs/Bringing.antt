-- What a backup makes of a packet, from what its parts found.
use Rattle.std.proofs.Common.{All, ◌≡◌, ◌⊎◌, inl, inr, ℕ, zero, suc, ◌+◌, ◌-◌, ◌<◌, ◌≤◌, ℤ, pos, negsuc, ◌≤ℤ◌, ◌<ℤ◌, Bool, true, false, w32, w64, to_z, of_z, List, [], ◌∷◌, length, drop, get_or, Option, Some, None, Result, Err, refl, sym, ◌∙◌, ap, subst, arith}
use Rattle.std.specs.Prelude.{unsigned_abs, nat_lt, nat_le, ◌↔◌, IsTrue}
use Rattle.std.proofs.lemmas.Bool.{cases_eq, ltb-true, ltb-false, lt-ltb, leb-true, le-leb}
use Rattle.std.proofs.lemmas.List.{append-nil, drop_all}
use Rattle.std.proofs.lemmas.Int.{ints, to_z-of_z}
use Rattle.std.proofs.lemmas.List.Elements.{All-head, All-tail}
use Rattle.entry_log.specs.Log.{Log, place, last, end_after}
use Rattle.entry_log.specs.Places.{end_after-past}
use Rattle.entry_log.specs.Shape.{Shape, shape_of, end_of, end_from, last_term_of, end_from-shape_of, last_term_from-shape_of}
use Rattle.log_segment.specs.Held.{IsEventEntry, IsRanged, AreRanged}
use Rattle.recording_log.specs.declared.entry.RecEntry.{RecEntry}
use Rattle.recording_log.specs.declared.entry.SnapshotAt.{SnapshotAt}
use Rattle.recording_log.specs.Sets.{HasSet}
use Rattle.recording_log.specs.Listed.{IsBefore, IsThere, AreSets}
use Rattle.member_disk.specs.Kept.{Kept}
use Rattle.member_disk.specs.Changes.{IsMemberOf, HasMoreTerms, HasAppendCause, IsAppended, IsPut, IsHead, entry_for}
use Rattle.member_disk.specs.declared.durable.SnapshotHead.{SnapshotHead}
use Rattle.cl_base.specs.Disk.{FileState, settled_file}
use Rattle.cl_base.specs.Faults.{HasDeviceCause}
use Rattle.snapshot_store.specs.Snapshots.{spelled}
use Rattle.cluster_backup.specs.Laws.{number_fits}
use Rattle.cl_base.specs.declared.fault.MemberFault.{MemberFault}
use Rattle.cl_base.specs.declared.fault.MemberFault.TheVariants as member_faults
use Rattle.cluster_backup.specs.Spelling.{HasSpelling, AreParts, spelling_of}
use Rattle.cluster_backup.specs.Taking.{entries_of, past, Fits, Grows, IsBehind, AreBehind, EntriesBring, SnapshotBrings, CanPut, Puts, IsAbove, IsLatest, IsLatestAt, IsQuery, number_of, head_of, HasBackupCause, fault_of}
use Rattle.cluster_backup.specs.declared.answer.Taken.{Taken}
use Rattle.cluster_backup.specs.declared.answer.Taken.TheVariants.{Grown, Part, Nothing}
use Rattle.cluster_backup.specs.declared.packet.BackupPacket.{BackupPacket}
use Rattle.cluster_backup.specs.declared.packet.BackupPacket.TheVariants.{Query, Log as LogPacket, Snapshot}
use Rattle.cluster_backup.specs.declared.part.Part.TheVariants as part
use Rattle.cluster_backup.specs.declared.answer.BackupFault.{BackupFault}
use Rattle.cluster_backup.specs.declared.answer.BackupFault.TheVariants as faults
use Rattle.cluster_backup.proofs.Events.{length-shape_of, parts-drop}

-- ---- a log and its shape

pub place_is : (log : Log) → end_of (shape_of log) ≡ place log
place_is log = end_from-shape_of 0 log

pub last_is : (log : Log) → last_term_of (shape_of log) ≡ last log
last_is log = last_term_from-shape_of _ log

-- a position is within a log, by its shape
pub within_log : (log : Log) (xs : Shape) (p position : ℕ) → xs ≡ shape_of log → p ≡ end_of xs → IsTrue (nat_le position p) ↔ position ≤ place log
within_log log xs p position is ends =
    let same : p ≡ place log = ends ∙ ap end_of is ∙ place_is log in
    (λ test. (let low = leb-true position p test in omega (arith, low, same)), λ low. le-leb position p (omega (arith, low, same)))

few_from : (p : ℕ) (xs : Shape) → All IsRanged xs → p + length xs ≤ end_from p xs
few_from p [] all = omega arith
few_from p (x ∷ xs) all =
    let x_is : IsRanged x = All-head IsRanged x xs all in
    let some : 0 < x.len = (let a = x_is.least in omega (arith, a)) in
    let a = end_after-past p x.len some in
    let b = few_from (end_after p x.len) xs (All-tail IsRanged x xs all) in
    omega (arith, a, b)

-- a log has no more entries than bytes
pub few : (xs : Shape) → AreRanged xs → length xs ≤ 16777216
few xs are = let a = few_from 0 xs are.each in let b = are.room in omega (arith, a, b)

-- ---- entries

module _ (log : Log) (xs : Shape) (count : ℕ) (start : ℤ) (events : List (List ℕ)) (is : xs ≡ shape_of log) (counted : count ≡ length xs) where
  count_is : count ≡ length log
  count_is = counted ∙ ap length is ∙ length-shape_of log

  module _ (p : ℕ) (t : ℤ) (entries : Log) (ends : p ≡ end_of xs) (term : t ≡ last_term_of xs) (reached : unsigned_abs start ≤ count → entries ≡ past count start events) (gap : count < unsigned_abs start → entries ≡ []) where
    past_is : unsigned_abs start ≤ count → entries ≡ past (length log) start events
    past_is reach = reached reach ∙ ap (λ n. past n start events) count_is

    fits_here : Fits p t entries → Fits (place log) (last log) entries
    fits_here f = subst (λ n. Fits n (last log) entries) (ends ∙ ap end_of is ∙ place_is log) (subst (λ z. Fits p z entries) (term ∙ ap last_term_of is ∙ last_is log) f)

    fits_there : Fits (place log) (last log) entries → Fits p t entries
    fits_there f = subst (λ n. Fits n t entries) (sym (ends ∙ ap end_of is ∙ place_is log)) (subst (λ z. Fits (place log) z entries) (sym (term ∙ ap last_term_of is ∙ last_is log)) f)

    reaches : Fits p t entries → unsigned_abs start ≤ count
    reaches f = go (nat_lt count (unsigned_abs start)) refl
      where
        go : (b : Bool) → nat_lt count (unsigned_abs start) ≡ b → unsigned_abs start ≤ count
        go true is = absurd (let none = ap length (gap (ltb-true count (unsigned_abs start) is)) in let some = f.batch.some in omega (arith, none, some))
        go false is = ltb-false count (unsigned_abs start) is

    goes_behind : Fits p t entries → All IsEventEntry entries → IsBehind log start events entries
    goes_behind f all = record {
      grows = record { reaches = (let same = count_is in let reach = reaches f in omega (arith, same, reach)); fits = subst (λ (l : Log). Fits (place log) (last log) l) (past_is (reaches f)) (fits_here f) };
      are = past_is (reaches f);
      fits = fits_here f;
      each = all;
    }

    -- entries that fit go behind the log
    pub those_behind : Fits p t entries → All IsEventEntry entries → AreBehind log start events entries
    those_behind f all = let b = goes_behind f all in record { none = λ empty g. (let some = f.batch.some in omega (arith, empty, some)); some = λ more. b }

    -- others don't
    pub none_fit : (Fits p t entries → ⊥) → AreBehind log start events []
    none_fit out = record {
      none = λ empty g. out (fits_there (subst (λ (l : Log). Fits (place log) (last log) l) (sym (past_is (let same = count_is in let reach = g.reaches in omega (arith, same, reach)))) g.fits));
      some = λ more. absurd (omega (arith, more));
    }

-- the parts past a gap, or past those that are there
pub past_parts : (count : ℕ) (start : ℤ) (events found : List (List ℕ)) → (unsigned_abs start ≤ count → found ≡ drop (count - unsigned_abs start) events) → (count < unsigned_abs start → found ≡ []) → AreParts part.Event events → AreParts part.Event found
past_parts count start events found reached gap parts = go (nat_lt count (unsigned_abs start)) refl
  where
    go : (b : Bool) → nat_lt count (unsigned_abs start) ≡ b → AreParts part.Event found
    go true is = subst (AreParts part.Event) (sym (gap (ltb-true count (unsigned_abs start) is))) tt
    go false is = subst (AreParts part.Event) (sym (reached (ltb-false count (unsigned_abs start) is))) (parts-drop (count - unsigned_abs start) events parts)

pub some_entries : (n : ℕ) (b : Bool) → IsTrue b ↔ (n ≡ 0) → b ≡ false → 0 < n
some_entries zero b iff off = absurd (let on : b ≡ true = iff.1 refl in cc)
some_entries (suc n) b iff off = omega arith

-- what is appended, as what the packet brings
pub grown_brings : (old new : Kept) (start : ℤ) (events : List (List ℕ)) (entries : Log) (count : ℕ) → IsBehind old.log start events entries → count ≡ length entries → IsAppended entries old new → EntriesBring old start events (Grown count) new
grown_brings old new start events entries count b counted a = (b.grows, counted ∙ ap length b.are, subst (λ (l : Log). IsAppended l old new) b.are a)

-- ---- services

pub member_of : (service : ℤ) (services : ℕ) → negsuc 0 ≤ℤ service → service <ℤ pos services → IsMemberOf services service
member_of (pos n) services a b = inr (n, refl, omega (arith, ints, b))
member_of (negsuc zero) services a b = inl refl
member_of (negsuc (suc n)) services a b = absurd (omega (arith, ints, a))

pub member_low : (service : ℤ) (services : ℕ) → IsMemberOf services service → negsuc 0 ≤ℤ service
member_low service services (inl is) = omega (arith, ints, is)
member_low service services (inr one) = let is = one.1 in omega (arith, ints, is)

pub member_high : (service : ℤ) (services : ℕ) → IsMemberOf services service → service <ℤ pos services
member_high service services (inl is) = omega (arith, ints, is)
member_high service services (inr one) = let is = one.1 in let low = one.2 in omega (arith, ints, is, low)

-- ---- sets

-- the last of the valid sets has the greatest position
pub latest_at : (kept : Kept) (sets : List SnapshotAt) (d : SnapshotAt) → AreSets kept.services kept.entries sets → 0 < length sets → IsLatestAt kept (get_or sets (length sets - 1) d).position
latest_at kept sets d are some =
    let listed = are.each (length sets - 1) d (omega (arith, some)) in
    record {
      set = ((get_or sets (length sets - 1) d).term, listed.whole);
      latest = λ term other set. up term other (are.all term other set).index (are.all term other set).within ((are.all term other set).position_there d);
    }
  where
    up : (term other : ℤ) (i : ℕ) → i < length sets → pos (get_or sets i d).position ≡ other → other ≤ℤ pos (get_or sets (length sets - 1) d).position
    up term other i within is = elim (cases_eq i (length sets - 1)) [
      | inl same ↦ (let there = ap (λ (k : ℕ). pos (get_or sets k d).position) same in omega (arith, ints, is, there))
      | inr different ↦ before other (get_or sets i d) (get_or sets (length sets - 1) d) is (are.rise i (length sets - 1) d (omega (arith, different)) (omega (arith, within)))
    ]
      where
        before : (other : ℤ) (a z : SnapshotAt) → pos a.position ≡ other → IsBefore a z → other ≤ℤ pos z.position
        before other a z is (inl less) = omega (arith, ints, is, less)
        before other a z is (inr tie) = let even = tie.0 in omega (arith, ints, is, even)

pub none_latest : (kept : Kept) (sets : List SnapshotAt) → AreSets kept.services kept.entries sets → length sets ≡ 0 → (term other : ℤ) → HasSet kept.services kept.entries term other → ⊥
none_latest kept sets are none term other set = let within = (are.all term other set).within in omega (arith, none, within)

pub above_latest : (kept : Kept) (other position : ℕ) → IsLatestAt kept other → other < position → IsAbove position kept
above_latest kept other position at less = λ term q set. let up = at.latest term q set in omega (arith, ints, up, less)

pub latest_above : (kept : Kept) (other position : ℕ) → IsLatestAt kept other → IsAbove position kept → other < position
latest_above kept other position at above = let less = above at.set.0 (pos other) at.set.1 in omega (arith, ints, less)

pub above_some : (kept : Kept) (latest : Option ℕ) (other position : ℕ) → latest ≡ Some other → IsLatest kept latest → IsTrue (nat_lt other position) ↔ IsAbove position kept
above_some kept latest other position is at =
    let here : IsLatestAt kept other = subst (IsLatest kept) is at in
    (λ less. above_latest kept other position here (ltb-true other position less), λ above. lt-ltb other position (latest_above kept other position here above))

pub above_none : (kept : Kept) (latest : Option ℕ) (position : ℕ) → latest ≡ None → IsLatest kept latest → IsTrue true ↔ IsAbove position kept
above_none kept latest position is at =
    let none : IsLatest kept None = subst (IsLatest kept) is at in
    (λ test term other set. absurd (none term other set), λ above. refl)

-- ---- faults

pub same_terms : (k : Kept) → HasMoreTerms k k
same_terms k = record { node = refl; services = refl; log = refl; entries = record { added = []; is = sym (append-nil k.entries); none = tt } }

pub device_back : (t : MemberFault) → fault_of t ≡ faults.Device → t ≡ member_faults.Device
device_back member_faults.Device e = refl
device_back (member_faults.LogFull place) e = absurd cc
device_back (member_faults.Damaged file place) e = absurd cc
device_back member_faults.NoMemory e = absurd cc

err_same : {T E : Type 0} (r : Result T E) (a b : E) → r ≡ Err a → r ≡ Err b → a ≡ b
err_same r a b p q = cc

-- a fault of the disk's in an append, as the backup's
pub append_cause : {T U : Type 0} (old new : ℕ) (r : Result T MemberFault) (t : MemberFault) (e : BackupFault) → HasAppendCause old new r → r ≡ Err t → e ≡ fault_of t → HasBackupCause {T = U} old new (Err e)
append_cause old new r t e h is same = record { later = h.later; device = λ d. h.device (is ∙ ap (λ x. Err x) (device_back t (sym same ∙ err_same (Err e) e faults.Device refl d))) }

-- the same in the putting of a snapshot
pub put_cause : {T U : Type 0} (old new : ℕ) (r : Result T MemberFault) (t : MemberFault) (e : BackupFault) → HasDeviceCause old new r → r ≡ Err t → e ≡ fault_of t → HasBackupCause {T = U} old new (Err e)
put_cause old new r t e h is same = record { later = h.later; device = λ d. h.device (is ∙ ap (λ x. Err x) (device_back t (sym same ∙ err_same (Err e) e faults.Device refl d))) }

pub kept_terms : (k l : Kept) → l ≡ k → HasMoreTerms k l
kept_terms k l is = subst (HasMoreTerms k) (sym is) (same_terms k)

-- ---- packets

pub positive : (z : ℤ) → pos 0 ≤ℤ z → z ≡ pos (unsigned_abs z)
positive (pos n) h = refl
positive (negsuc n) h = absurd (omega (arith, ints, h))

pub log_parts : (p : BackupPacket) (start : ℤ) (events : List (List ℕ)) → p ≡ LogPacket start events → HasSpelling p → AreParts part.Event events
log_parts p start events is h = let s : HasSpelling (LogPacket start events) = subst HasSpelling is h in s.3

-- a signed number that is passed on
abbrev pub passed : ℤ → ℤ
passed z = to_z w64 (of_z w64 z)

abbrev pub passed32 : ℤ → ℤ
passed32 z = to_z w32 (of_z w32 z)

-- what a snapshot is of that a packet names
pub record IsNamed (recording term position stamp service : ℤ) (head : SnapshotHead) : Type 0 where
  pub is : head ≡ head_of recording term position stamp service
  pub low : pos 0 ≤ℤ recording
  pub high : recording <ℤ pos 1024

module _ (p : BackupPacket) (recording term position stamp service : ℤ) (pieces : List (List ℕ)) (is : p ≡ Snapshot recording term position stamp service pieces) (h : HasSpelling p) where
  spells : HasSpelling (Snapshot recording term position stamp service pieces)
  spells = subst HasSpelling is h

  pub snapshot_parts : AreParts part.Piece pieces
  snapshot_parts = spells.6

  pub named : (head : SnapshotHead) → head ≡ head_of (passed recording) (passed term) (passed position) (passed stamp) (passed32 service) → pos 0 ≤ℤ passed recording → passed recording <ℤ pos 1024 → IsNamed recording term position stamp service head
  named head same low high =
      let r : passed recording ≡ recording = to_z-of_z w64 recording spells.0 in
      let t : passed term ≡ term = to_z-of_z w64 term (number_fits term spells.1) in
      let q : passed position ≡ position = to_z-of_z w64 position (number_fits position spells.2) in
      let m : passed stamp ≡ stamp = to_z-of_z w64 stamp (number_fits stamp spells.3) in
      let v : passed32 service ≡ service = to_z-of_z w32 service spells.4 in
      record {
        is = same ∙ ap (λ z. head_of z (passed term) (passed position) (passed stamp) (passed32 service)) r ∙ ap (λ z. head_of recording z (passed position) (passed stamp) (passed32 service)) t ∙ ap (λ z. head_of recording term z (passed stamp) (passed32 service)) q
            ∙ ap (λ z. head_of recording term position z (passed32 service)) m ∙ ap (λ z. head_of recording term position stamp z) v;
        low = subst (λ z. pos 0 ≤ℤ z) r low;
        high = subst (λ z. z <ℤ pos 1024) r high;
      }

  pub snapshot_head : (head : SnapshotHead) → IsNamed recording term position stamp service head → IsHead head
  snapshot_head head n = subst IsHead (sym n.is) (record {
    recording = (let low = n.low in let high = n.high in let same = positive recording low in omega (arith, ints, same, high));
    low = spells.1.0;
    high = spells.1.1;
    position = (let at = spells.2 in let low = at.0 in let high = at.1 in let same = positive position low in omega (arith, ints, same, high));
  })

-- the pieces of a packet's snapshot are in its file, where its entry wasn't there
abbrev pub Stored : Kept → (ℕ → FileState) → BackupPacket → Type 0
Stored old files (Query entries position) = Unit {0}
Stored old files (LogPacket start events) = Unit {0}
Stored old files (Snapshot recording term position stamp service pieces) = (IsThere (entry_for old (head_of recording term position stamp service)) old.entries → ⊥) → files (258 + unsigned_abs recording) ≡ settled_file (spelled pieces)

pub stored_named : (old : Kept) (files : ℕ → FileState) (recording term position stamp service : ℤ) (pieces slice : List (List ℕ)) (head : SnapshotHead) → IsNamed recording term position stamp service head
    → ((IsThere (entry_for old head) old.entries → ⊥) → files (258 + head.recording) ≡ settled_file (spelled slice)) → slice ≡ pieces → Stored old files (Snapshot recording term position stamp service pieces)
stored_named old files recording term position stamp service pieces slice head n stored same =
    subst (λ (l : List (List ℕ)). (IsThere (entry_for old (head_of recording term position stamp service)) old.entries → ⊥) → files (258 + unsigned_abs recording) ≡ settled_file (spelled l)) same
    (subst (λ (h : SnapshotHead). (IsThere (entry_for old h) old.entries → ⊥) → files (258 + h.recording) ≡ settled_file (spelled slice)) n.is stored)

-- where the snapshot can be put
pub can_put_where : (kept : Kept) (head : SnapshotHead) (r : Bool) → head.recording < 1024 → IsMemberOf kept.services head.service → head.position ≤ place kept.log → IsTrue r ↔ IsAbove head.position kept → IsTrue r ↔ CanPut kept head
can_put_where kept head r recording member within above = (λ test. record { recording = recording; service = member; within = within; above = above.0 test }, λ can. above.1 can.above)

-- a recording that is none's snapshot is not put
pub not_put : (kept : Kept) (recording term position stamp service : ℤ) → (pos 0 ≤ℤ recording → pos 1024 ≤ℤ recording) → Puts kept recording (head_of recording term position stamp service) → ⊥
not_put kept recording term position stamp service none puts = let is = positive recording puts.0 in let high = none puts.0 in let low = puts.1.recording in omega (arith, ints, is, high, low)

-- what is put, as what the packet brings
pub snapshot_brings : (old new : Kept) (recording term position stamp service : ℤ) (head : SnapshotHead) (taken : Taken) → head ≡ head_of recording term position stamp service → pos 0 ≤ℤ recording → SnapshotBrings old (pos head.recording) head taken new → SnapshotBrings old recording (head_of recording term position stamp service) taken new
snapshot_brings old new recording term position stamp service head taken same low b =
    subst (λ z. SnapshotBrings old z (head_of recording term position stamp service) taken new) (sym (positive recording low))
    (subst (λ (h : SnapshotHead). SnapshotBrings old (pos h.recording) h taken new) same b)

-- ---- queries

pub query_is : (kept : Kept) (latest : Option ℕ) (xs : Shape) (count : ℕ) (number : ℤ) (bytes : List ℕ) → IsLatest kept latest → xs ≡ shape_of kept.log → count ≡ length xs → number ≡ number_of latest → bytes ≡ spelling_of (Query (pos count) number) → IsQuery kept bytes
query_is kept latest xs count number bytes at is counted same spelled = record {
  latest = latest;
  is = at;
  spelled = spelled ∙ ap (λ n. spelling_of (Query (pos n) number)) (counted ∙ ap length is ∙ length-shape_of kept.log) ∙ ap (λ z. spelling_of (Query (pos (length kept.log)) z)) same;
}
