-- What a change, and what is read after it, leaves of a member's disk.
use Rattle.std.proofs.Common.{◌≡◌, inl, ℕ, ◌+◌, ◌==◌, Bool, true, false, IsTrue, List, [], ◌∷◌, ◌++◌, length, take, ℤ, Option, refl, sym, ap, subst, ◌∙◌}
use Rattle.std.specs.Prelude.{Result, Ok, Err, OnOk, OnErr}
use Rattle.std.proofs.lemmas.Bool.{cond-true, cond-false, eqb-true}
use Rattle.cl_base.specs.Disk.{DiskState, FileState, IsImage, IsImageOf}
use Rattle.cl_base.specs.Fuse.{passes_none}
use Rattle.cl_base.specs.Looks.{Looks, Same, looks_same, same_more}
use Rattle.cl_base.specs.declared.fault.MemberFault.{MemberFault}
use Rattle.cl_base.specs.declared.fault.MemberFault.TheVariants as fault
use Rattle.entry_log.specs.Log.{Log}
use Rattle.recording_log.specs.declared.entry.RecEntry.{RecEntry}
use Rattle.log_segment.specs.Held.{new_term_of, new_terms}
use Rattle.member_disk.specs.Kept.{Kept, Held as DiskHeld, EachStands, Stands}
use Rattle.member_disk.specs.Changes.{HasMoreTerms, HaveTerms, IsAppended}
use Rattle.member_disk.specs.CutWell.{IsCutWell, no_file}
use Rattle.member_disk.specs.Parts.{IsMade, Part, append_parts, cut_part, cut_parts, made, raise_part}
use Rattle.member_disk.proofs.CutWells.{durable_same, put_first, snapshots_stay, terms_take}
use Rattle.member_disk.proofs.Terms.{terms_from, terms_stay}
use Rattle.consensus_core.specs.declared.change.Change.{Change}
use Rattle.consensus_core.specs.declared.change.Change.TheVariants as changes
use Rattle.consensus_agent.specs.Disks.{Done, IsRight, KeepsSets, Looked, Went, changed_kept, parts_of}

-- ---- what is kept

keeps_same : (a b : Kept) → b ≡ a → KeepsSets a b
keeps_same a b is = subst (KeepsSets a) (sym is) (record { services = refl; snapshots = refl; terms = λ h. h })

keeps_more : (a b : Kept) → HasMoreTerms a b → KeepsSets a b
keeps_more a b more = record {
  services = more.services;
  snapshots = snapshots_stay a.entries b.entries more.entries;
  terms = λ h. subst (λ (l : Log). HaveTerms b.entries (new_terms 0 l)) (sym more.log) (terms_stay a.entries b.entries (new_terms 0 a.log) more.entries h);
}

terms_append : (entries : List RecEntry) (i : ℕ) (xs ys : Log) → HaveTerms entries (new_terms i xs) → HaveTerms entries (new_terms 0 ys) → HaveTerms entries (new_terms i (xs ++ ys))
terms_append entries i [] ys first second = terms_from entries 0 i ys second
terms_append entries i (x ∷ xs) ys first second = put_first entries (new_term_of i x.bytes) (new_terms (i + 1) xs) (new_terms (i + 1) (xs ++ ys)) first (λ have. terms_append entries (i + 1) xs ys have second)

keeps_appended : (es : Log) (a b : Kept) → IsAppended es a b → KeepsSets a b
keeps_appended es a b is = record {
  services = is.services;
  snapshots = snapshots_stay a.entries b.entries is.entries;
  terms = λ h. subst (λ (l : Log). HaveTerms b.entries (new_terms 0 l)) (sym is.log) (terms_append b.entries 0 a.log es (terms_stay a.entries b.entries (new_terms 0 a.log) is.entries h) is.terms);
}

keeps_cut : (n : ℕ) (a b : Kept) → b ≡ record a { log = take n a.log } → KeepsSets a b
keeps_cut n a b is = subst (KeepsSets a) (sym is) (record { services = refl; snapshots = refl; terms = λ h. terms_take a.entries 0 n a.log h })

keeps_by : {T : Type 0} (P Q : Kept → Kept → Type 0) (a b : Kept) (result : Result T MemberFault) → (P a b → KeepsSets a b) → (Q a b → KeepsSets a b) → OnOk result (P a b) → OnErr result (Q a b) → KeepsSets a b
keeps_by P Q a b (Ok x) p q ok err = p ok
keeps_by P Q a b (Err e) p q ok err = q err

take_all : (xs : Log) → take (length xs) xs ≡ xs
take_all [] = refl
take_all (x ∷ xs) = ap (λ (l : Log). x ∷ l) (take_all xs)

-- a cut made in its parts
cut_makes : (n : ℕ) (k : Kept) → record k { log = take n k.log } ≡ made (cut_parts k n) k
cut_makes n k = at (n == length k.log) refl
  where
    at : (b : Bool) → (n == length k.log) ≡ b → record k { log = take n k.log } ≡ made (cut_parts k n) k
    at true h =
        let parts : cut_parts k n ≡ [] = cond-true (n == length k.log) [] (cut_part k n ∷ []) h in
        let many : n ≡ length k.log = eqb-true n (length k.log) h in
        ap (λ (l : Log). record k { log = l }) (ap (λ m. take m k.log) many ∙ take_all k.log) ∙ ap (λ (ps : List Part). made ps k) (sym parts)
    at false h =
        let parts : cut_parts k n ≡ cut_part k n ∷ [] = cond-false (n == length k.log) [] (cut_part k n ∷ []) h in
        ap (λ (ps : List Part). made ps k) (sym parts)

module _ {D : Type 0} (state : D → DiskState) (moment : D → ℕ) (left_since : D → ℕ → (ℕ → List ℕ) → Type 0) (is_told is_honest : D → Bool) where
  -- ---- a change

  went_by : (change : Change) (a b : DiskHeld D) → is_told b.disk ≡ is_told a.disk → is_honest b.disk ≡ is_honest a.disk → KeepsSets a.kept b.kept
      → (IsTrue (is_honest a.disk) → EachStands a.kept (state a.disk).files → HaveTerms a.kept.entries (new_terms 0 a.kept.log) → IsCutWell state moment left_since no_file a.kept (changed_kept change a.kept) a.disk b.disk)
      → Went state is_told is_honest change a b
  went_by change a b tells honest kept cut = record {
    tells = tells;
    honest = honest;
    kept = kept;
    each = λ right. (cut right.honest right.each right.terms).each;
    files = λ right g high. (cut right.honest right.each right.terms).snapshots.files g high (λ h. h);
  }

  done_by : {T : Type 0} (change : Change) (a b : DiskHeld D) (result : Result T MemberFault) → OnOk result (b.kept ≡ made (parts_of change a.kept) a.kept)
      → (IsTrue (is_honest a.disk) → EachStands a.kept (state a.disk).files → IsMade state moment left_since (parts_of change a.kept) a.kept a.disk b.disk result)
      → OnOk result (Done state is_told is_honest change a b)
  done_by change a b (Ok x) is ran = record {
    stands = λ right. subst (λ (k : Kept). EachStands k (state b.disk).files) (sym is) (ran right.honest right.each).done;
    passed = λ right alive. (ran right.honest right.each).fuse alive;
  }
  done_by change a b (Err e) is ran = tt

  pub raise_went : {T : Type 0} (term : ℤ) (voted : Option ℕ) (a b : DiskHeld D) (result : Result T MemberFault) → is_told b.disk ≡ is_told a.disk → is_honest b.disk ≡ is_honest a.disk
      → OnOk result (b.kept ≡ (raise_part a.kept term voted).makes) → OnErr result (b.kept ≡ a.kept)
      → (IsTrue (is_honest a.disk) → EachStands a.kept (state a.disk).files → HaveTerms a.kept.entries (new_terms 0 a.kept.log) → IsCutWell state moment left_since no_file a.kept (raise_part a.kept term voted).makes a.disk b.disk)
      → Went state is_told is_honest (changes.Raise term voted) a b
  raise_went term voted a b result tells honest ok err cut =
      went_by (changes.Raise term voted) a b tells honest
      (keeps_by (λ x y. y ≡ (raise_part x term voted).makes) (λ x y. y ≡ x) a.kept b.kept result
      (λ is. subst (KeepsSets a.kept) (sym is) (record { services = refl; snapshots = refl; terms = λ h. h }))
      (keeps_same a.kept b.kept) ok err) cut

  pub raise_done : {T : Type 0} (term : ℤ) (voted : Option ℕ) (a b : DiskHeld D) (result : Result T MemberFault) → OnOk result (b.kept ≡ (raise_part a.kept term voted).makes)
      → (IsTrue (is_honest a.disk) → EachStands a.kept (state a.disk).files → IsMade state moment left_since (raise_part a.kept term voted ∷ []) a.kept a.disk b.disk result)
      → OnOk result (Done state is_told is_honest (changes.Raise term voted) a b)
  raise_done term voted a b result is ran = done_by (changes.Raise term voted) a b result is ran

  pub append_went : {T : Type 0} (es : Log) (a b : DiskHeld D) (result : Result T MemberFault) → is_told b.disk ≡ is_told a.disk → is_honest b.disk ≡ is_honest a.disk
      → OnOk result (IsAppended es a.kept b.kept) → OnErr result (HasMoreTerms a.kept b.kept)
      → (IsTrue (is_honest a.disk) → EachStands a.kept (state a.disk).files → HaveTerms a.kept.entries (new_terms 0 a.kept.log) → IsCutWell state moment left_since no_file a.kept (record a.kept { log = a.kept.log ++ es }) a.disk b.disk)
      → Went state is_told is_honest (changes.Append es) a b
  append_went es a b result tells honest ok err cut =
      went_by (changes.Append es) a b tells honest (keeps_by (IsAppended es) HasMoreTerms a.kept b.kept result (keeps_appended es a.kept b.kept) (keeps_more a.kept b.kept) ok err) cut

  pub append_done : {T : Type 0} (es : Log) (a b : DiskHeld D) (result : Result T MemberFault) → OnOk result (b.kept ≡ made (append_parts a.kept es) a.kept)
      → (IsTrue (is_honest a.disk) → EachStands a.kept (state a.disk).files → IsMade state moment left_since (append_parts a.kept es) a.kept a.disk b.disk result)
      → OnOk result (Done state is_told is_honest (changes.Append es) a b)
  append_done es a b result is ran = done_by (changes.Append es) a b result is ran

  pub cut_went : {T : Type 0} (n : ℕ) (a b : DiskHeld D) (result : Result T MemberFault) → is_told b.disk ≡ is_told a.disk → is_honest b.disk ≡ is_honest a.disk
      → OnOk result (b.kept ≡ record a.kept { log = take n a.kept.log }) → OnErr result (b.kept ≡ a.kept)
      → (IsTrue (is_honest a.disk) → EachStands a.kept (state a.disk).files → HaveTerms a.kept.entries (new_terms 0 a.kept.log) → IsCutWell state moment left_since no_file a.kept (record a.kept { log = take n a.kept.log }) a.disk b.disk)
      → Went state is_told is_honest (changes.Cut n) a b
  cut_went n a b result tells honest ok err cut =
      went_by (changes.Cut n) a b tells honest (keeps_by (λ x y. y ≡ record x { log = take n x.log }) (λ x y. y ≡ x) a.kept b.kept result (keeps_cut n a.kept b.kept) (keeps_same a.kept b.kept) ok err) cut

  pub cut_done : {T : Type 0} (n : ℕ) (a b : DiskHeld D) (result : Result T MemberFault) → OnOk result (b.kept ≡ record a.kept { log = take n a.kept.log })
      → (IsTrue (is_honest a.disk) → EachStands a.kept (state a.disk).files → IsMade state moment left_since (cut_parts a.kept n) a.kept a.disk b.disk result)
      → OnOk result (Done state is_told is_honest (changes.Cut n) a b)
  cut_done n a b result is ran = done_by (changes.Cut n) a b result (makes result is) ran
    where
      makes : {T : Type 0} (r : Result T MemberFault) → OnOk r (b.kept ≡ record a.kept { log = take n a.kept.log }) → OnOk r (b.kept ≡ made (cut_parts a.kept n) a.kept)
      makes (Ok x) h = h ∙ cut_makes n a.kept
      makes (Err e) h = tt

module _ {D : Type 0} (state : D → DiskState) (is_told is_honest : D → Bool) where
  -- ---- none

  pub went_none : (change : Change) (a b : DiskHeld D) → b ≡ a → Went state is_told is_honest change a b
  went_none change a b is = subst (Went state is_told is_honest change a) (sym is) (record {
    tells = refl;
    honest = refl;
    kept = keeps_same a.kept a.kept refl;
    each = λ right c image. inl (durable_same a.kept c right.terms (right.each c image));
    files = λ right g high. refl;
  })

  pub done_none : (a b : DiskHeld D) → b ≡ a → Done state is_told is_honest changes.Nothing a b
  done_none a b is = subst (Done state is_told is_honest changes.Nothing a) (sym is) (record { stands = λ right. right.each; passed = λ right alive. passes_none (state a.disk) (state a.disk) refl alive refl })

  -- ---- what is read

  pub looked_none : (a b : DiskHeld D) → b ≡ a → Looked state is_told is_honest a b
  looked_none a b is = subst (Looked state is_told is_honest a) (sym is) (record { kept = refl; tells = refl; honest = refl; files = λ told g. refl })

  pub looked_more : (a b c : DiskHeld D) → Looked state is_told is_honest a b → Looked state is_told is_honest b c → Looked state is_told is_honest a c
  looked_more a b c first second = record {
    kept = second.kept ∙ first.kept;
    tells = second.tells ∙ first.tells;
    honest = second.honest ∙ first.honest;
    files = λ told g. second.files (subst IsTrue (sym first.tells) told) g ∙ first.files told g;
  }

  pub looked_once : {T : Type 0} (a b : DiskHeld D) (result : Result T MemberFault) → b.kept ≡ a.kept → is_told b.disk ≡ is_told a.disk → is_honest b.disk ≡ is_honest a.disk
      → (IsTrue (is_told a.disk) → Looks fault.Device (state a.disk) (state b.disk) result) → Looked state is_told is_honest a b
  looked_once a b result kept tells honest looks = record { kept = kept; tells = tells; honest = honest; files = λ told g. (looks told).files g }

  pub same_once : {T : Type 0} (a b : DiskHeld D) (result : Result T MemberFault) (x : T) → result ≡ Ok x → (IsTrue (is_told a.disk) → Looks fault.Device (state a.disk) (state b.disk) result) → IsTrue (is_told a.disk) → Same (state a.disk) (state b.disk)
  same_once a b (Ok y) x is looks told = looks_same fault.Device (state a.disk) (state b.disk) (Ok y) (looks told) (λ err. absurd (cc))
  same_once a b (Err e) x is looks told = absurd (cc)

  -- one read more
  pub same_next : {T : Type 0} (a b c : DiskHeld D) (result : Result T MemberFault) (x : T) → result ≡ Ok x → is_told b.disk ≡ is_told a.disk → (IsTrue (is_told a.disk) → Same (state a.disk) (state b.disk)) → (IsTrue (is_told b.disk) → Looks fault.Device (state b.disk) (state c.disk) result)
      → IsTrue (is_told a.disk) → Same (state a.disk) (state c.disk)
  same_next a b c result x is tells same looks told = same_more (state a.disk) (state b.disk) (state c.disk) (same told) (same_once b c result x is looks (subst IsTrue (sym tells) told))

  pub looked_next : {T : Type 0} (a b c : DiskHeld D) (result : Result T MemberFault) → Looked state is_told is_honest a b → c.kept ≡ b.kept → is_told c.disk ≡ is_told b.disk → is_honest c.disk ≡ is_honest b.disk
      → (IsTrue (is_told b.disk) → Looks fault.Device (state b.disk) (state c.disk) result) → Looked state is_told is_honest a c
  looked_next a b c result first kept tells honest looks = looked_more a b c first (looked_once b c result kept tells honest looks)

  -- ---- a change, and then what is read

  images_same : (f h : ℕ → FileState) (c : ℕ → List ℕ) → ((g : ℕ) → h g ≡ f g) → IsImageOf h c → IsImageOf f c
  images_same f h c same image g = subst (λ s. IsImage s (c g)) (same g) (image g)

  pub went_looked : (law : (d : D) → IsTrue (is_honest d) → IsTrue (is_told d)) (change : Change) (a b c : DiskHeld D) → Went state is_told is_honest change a b → Looked state is_told is_honest b c → Went state is_told is_honest change a c
  went_looked law change a b c went looked = record {
    tells = looked.tells ∙ went.tells;
    honest = looked.honest ∙ went.honest;
    kept = subst (KeepsSets a.kept) (sym looked.kept) went.kept;
    each = λ right x image. went.each right x (images_same (state b.disk).files (state c.disk).files x (looked.files (told right)) image);
    files = λ right g high. looked.files (told right) g ∙ went.files right g high;
  }
    where
      told : IsRight state is_told is_honest a → IsTrue (is_told b.disk)
      told right = law b.disk (subst IsTrue (sym went.honest) right.honest)

  pub done_looked : (law : (d : D) → IsTrue (is_honest d) → IsTrue (is_told d)) (change : Change) (a b c : DiskHeld D) → is_honest b.disk ≡ is_honest a.disk → Done state is_told is_honest change a b → Looked state is_told is_honest b c
      → (IsTrue (is_told b.disk) → Same (state b.disk) (state c.disk)) → Done state is_told is_honest change a c
  done_looked law change a b c honest done looked same = record {
    stands = λ right x image. subst (λ (k : Kept). EachStands k (state b.disk).files) (sym looked.kept) (done.stands right) x (images_same (state b.disk).files (state c.disk).files x (looked.files (told right)) image);
    passed = λ right alive.
        let first = done.passed right alive in
        let is = same (told right) in
        record { enough = first.enough; lets = is.lets ∙ first.lets; burnt = is.burnt ∙ first.burnt; own = is.own ∙ first.own };
  }
    where
      told : IsRight state is_told is_honest a → IsTrue (is_told b.disk)
      told right = law b.disk (subst IsTrue (sym honest) right.honest)

  -- where nothing touched it between
  pub went_after : (law : (d : D) → IsTrue (is_honest d) → IsTrue (is_told d)) (change : Change) (a b l c : DiskHeld D) → Went state is_told is_honest change a b → l ≡ b → Looked state is_told is_honest l c → Went state is_told is_honest change a c
  went_after law change a b l c went is looked = went_looked law change a b c went (subst (λ (d : DiskHeld D). Looked state is_told is_honest d c) is looked)

  pub done_after : (law : (d : D) → IsTrue (is_honest d) → IsTrue (is_told d)) (change : Change) (a b l c : DiskHeld D) → Went state is_told is_honest change a b → Done state is_told is_honest change a b → l ≡ b → Looked state is_told is_honest l c
      → (IsTrue (is_told l.disk) → Same (state l.disk) (state c.disk)) → Done state is_told is_honest change a c
  done_after law change a b l c went done is looked same =
      done_looked law change a b c went.honest done (subst (λ (d : DiskHeld D). Looked state is_told is_honest d c) is looked)
      (subst (λ (d : DiskHeld D). IsTrue (is_told d.disk) → Same (state d.disk) (state c.disk)) is same)

  pub told_by : (change : Change) (a b l : DiskHeld D) → Went state is_told is_honest change a b → l ≡ b → is_told l.disk ≡ is_told a.disk
  told_by change a b l went is = ap (λ (d : DiskHeld D). is_told d.disk) is ∙ went.tells

  -- what stood stands where it was only looked at
  pub each_looked : (law : (d : D) → IsTrue (is_honest d) → IsTrue (is_told d)) (a b : DiskHeld D) → Looked state is_told is_honest a b → IsTrue (is_honest a.disk) → EachStands a.kept (state a.disk).files → EachStands b.kept (state b.disk).files
  each_looked law a b looked honest each c image =
      subst (λ (k : Kept). Stands k c) (sym looked.kept) (each c (images_same (state a.disk).files (state b.disk).files c (looked.files (law a.disk honest)) image))
