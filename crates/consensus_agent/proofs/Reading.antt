-- What was read of a log, entry by entry and range by range.
use Rattle.std.proofs.Common.{◌≡◌, ℕ, zero, suc, ◌+◌, ◌-◌, ◌<◌, ◌≤◌, Bool, List, [], ◌∷◌, ◌++◌, length, take, drop, Some, refl, sym, ap, subst, ◌∙◌, arith, length-append, append_assoc}
use Rattle.std.specs.Prelude.{IsTrue, slice_get}
use Rattle.std.proofs.Math.Seq.{take-append_seam, drop-append_seam}
use Rattle.cl_base.specs.declared.entry.Entry.{Entry}
use Rattle.entry_log.specs.Log.{Log}
use Rattle.entry_log.specs.Shape.{entry_shape}
use Rattle.log_segment.specs.Held.{IsEventEntry}
use Rattle.sbe_consensus.specs.Spelling.{AreEntries, IsEntry}
use Rattle.consensus_core.specs.Member.{entries_in}
use Rattle.consensus_core.proofs.Measured.{event_short}
use Rattle.consensus_agent.specs.Reads.{AreRead, IsReadOn}
use Rattle.consensus_agent.proofs.Found.{exactly, like}

-- ---- one entry more

entry_of_event : (x : Entry) → IsEventEntry x → IsEntry x
entry_of_event x is = let short = event_short x.bytes is.0 is.1 in record { event = (is.0, is.1, is.2); short = omega (arith, short) }

entries_more : (es : List Entry) (x : Entry) → AreEntries es → IsEntry x → AreEntries (es ++ x ∷ [])
entries_more [] x are is = (is, tt)
entries_more (e ∷ es) x are is = (are.0, entries_more es x are.1 is)

take_first : (n : ℕ) (log : Log) (x : Entry) → slice_get log n ≡ Some x → take (suc n) log ≡ take n log ++ x ∷ []
take_first n [] x at = absurd (cc)
take_first zero (y ∷ ys) x at = let is : y ≡ x = cc in ap (λ (z : Entry). z ∷ []) is
take_first (suc n) (y ∷ ys) x at = ap (λ (l : Log). y ∷ l) (take_first n ys x at)

take_next : (first n : ℕ) (log : Log) (x : Entry) → slice_get log (first + n) ≡ Some x → take (suc n) (drop first log) ≡ take n (drop first log) ++ x ∷ []
take_next zero n log x at = let none : zero + n ≡ n = omega arith in take_first n log x (subst (λ k. slice_get log k ≡ Some x) none at)
take_next (suc first) n [] x at = absurd (nowhere (suc first + n) at)
  where
    nowhere : (k : ℕ) → slice_get [] k ≡ Some x → ⊥
    nowhere k h = cc
take_next (suc first) n (y ∷ ys) x at = let one : suc first + n ≡ suc (first + n) = omega arith in take_next first n ys x (shift (first + n) (subst (λ k. slice_get (y ∷ ys) k ≡ Some x) one at))
  where
    shift : (k : ℕ) → slice_get (y ∷ ys) (suc k) ≡ Some x → slice_get ys k ≡ Some x
    shift k h = h

append_nil : (es : List Entry) → es ++ [] ≡ es
append_nil [] = refl
append_nil (e ∷ es) = ap (λ (l : List Entry). e ∷ l) (append_nil es)

-- nothing was read yet
pub read_none : (tells : Bool) (log : Log) (first n : ℕ) (old : List Entry) → n ≡ 0 → IsReadOn tells log first n old old
read_none tells log first n old none = record { more = []; behind = sym (append_nil old); many = sym none; entries = tt; same = λ t. sym (ap (λ k. take k (drop first log)) none) }

-- an entry more was read
pub read_next : (tells : Bool) (log : Log) (first i n : ℕ) (old mid new : List Entry) (x : Entry) → first ≤ i → n ≡ suc (i - first) → IsReadOn tells log first (i - first) old mid → IsEventEntry x → (IsTrue tells → slice_get log i ≡ Some x) → new ≡ mid ++ x ∷ [] → IsReadOn tells log first n old new
read_next tells log first i n old mid new x low next read event exact is =
    let count = length-append read.more (x ∷ []) in
    let many = read.many in
    record {
      more = read.more ++ x ∷ [];
      behind = is ∙ ap (λ (l : List Entry). l ++ x ∷ []) read.behind ∙ append_assoc old read.more (x ∷ []);
      many = omega (arith, count, many, next);
      entries = entries_more read.more x read.entries (entry_of_event x event);
      same = λ t.
          let same : i ≡ first + (i - first) = omega (arith, low) in
          let at : slice_get log (first + (i - first)) ≡ Some x = subst (λ k. slice_get log k ≡ Some x) same (exact t) in
          ap (λ (l : List Entry). l ++ x ∷ []) (read.same t) ∙ sym (take_next first (i - first) log x at) ∙ ap (λ k. take k (drop first log)) (sym next);
    }

-- as a disk with this log read it
pub read_at : (tells : Bool) (log own : Log) (first i n : ℕ) (old mid new : List Entry) (x : Entry) → own ≡ log → i < length own → first ≤ i → n ≡ suc (i - first) → IsReadOn tells log first (i - first) old mid
    → ((kept rest : Log) (e : Entry) → own ≡ kept ++ e ∷ rest → length kept ≡ i → IsEventEntry x × (entry_shape x ≡ entry_shape e))
    → (IsTrue tells → (kept rest : Log) (e : Entry) → own ≡ kept ++ e ∷ rest → length kept ≡ i → x ≡ e)
    → new ≡ mid ++ x ∷ [] → IsReadOn tells log first n old new
read_at tells log own first i n old mid new x same below low next read is exact more =
    read_next tells log first i n old mid new x low next read (like own i x below is).event (λ t. subst (λ (l : Log). slice_get l i ≡ Some x) same (exactly own i x below (exact t))) more

-- ---- one range more

-- the first range's entries stand before the rest
pub record IsFront (tells : Bool) (log : Log) (r : ℕ × ℕ) (es rest : List Entry) : Type 0 where
  pub front : List Entry
  pub is : es ≡ front ++ rest
  pub many : length front ≡ r.1
  pub entries : AreEntries front
  pub same : IsTrue tells → front ≡ take r.1 (drop r.0 log)

-- the entries of these ranges and no more
abbrev pub AllRead : Bool → Log → List (ℕ × ℕ) → List Entry → Type 0
AllRead tells log [] es = es ≡ []
AllRead tells log (r ∷ rs) es = (rest : List Entry) × IsFront tells log r es rest × AllRead tells log rs rest

pub read_more : (tells : Bool) (log : Log) (rs : List (ℕ × ℕ)) (r : ℕ × ℕ) (es new : List Entry) → AllRead tells log rs es → IsReadOn tells log r.0 r.1 es new → AllRead tells log (rs ++ r ∷ []) new
read_more tells log [] r es new all read =
    let is : new ≡ read.more ++ [] = read.behind ∙ ap (λ (l : List Entry). l ++ read.more) all ∙ sym (append_nil read.more) in
    ([], record { front = read.more; is = is; many = read.many; entries = read.entries; same = read.same }, refl)
read_more tells log (q ∷ qs) r es new all read =
    let f = all.1 in
    let is : new ≡ f.front ++ (all.0 ++ read.more) = read.behind ∙ ap (λ (l : List Entry). l ++ read.more) f.is ∙ append_assoc f.front all.0 read.more in (
      all.0 ++ read.more,
      record { front = f.front; is = is; many = f.many; entries = f.entries; same = f.same },
      read_more tells log qs r all.0 (all.0 ++ read.more) all.2 (record { more = read.more; behind = refl; many = read.many; entries = read.entries; same = read.same }),
    )

pub are_read : (tells : Bool) (log : Log) (rs : List (ℕ × ℕ)) (es : List Entry) → AllRead tells log rs es → AreRead rs es
are_read tells log [] es all = tt
are_read tells log (r ∷ rs) es all =
    let f = all.1 in
    let is = f.is in
    let many = f.many in
    let count = length-append f.front all.0 in
    let long : length es ≡ length (f.front ++ all.0) = ap (λ (l : List Entry). length l) is in
    let front : take r.1 es ≡ f.front = ap (take r.1) is ∙ ap (λ n. take n (f.front ++ all.0)) (sym many) ∙ take-append_seam f.front all.0 in
    let rest : drop r.1 es ≡ all.0 = ap (drop r.1) is ∙ ap (λ n. drop n (f.front ++ all.0)) (sym many) ∙ drop-append_seam f.front all.0 in
    (omega (arith, count, long, many), subst AreEntries (sym front) f.entries, subst (AreRead rs) (sym rest) (are_read tells log rs all.0 all.2))

-- on a disk that tells its contents they are the log's
pub read_exact : (tells : Bool) (log : Log) (rs : List (ℕ × ℕ)) (es : List Entry) → IsTrue tells → AllRead tells log rs es → es ≡ entries_in rs log
read_exact tells log [] es told all = all
read_exact tells log (r ∷ rs) es told all =
    let f = all.1 in
    f.is ∙ ap (λ (l : List Entry). l ++ all.0) (f.same told) ∙ ap (λ (l : List Entry). take r.1 (drop r.0 log) ++ l) (read_exact tells log rs all.0 told all.2)
