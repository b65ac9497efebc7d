-- What a write that a crash cuts short does to a file's images, and how a run of disk calls goes on.
use Rattle.std.specs.Prelude.{◌≡◌, ◌≢◌, ◌⊎◌, ℕ, ◌+◌, ◌<◌, ◌≤◌, min, max, Bool, true, false, not, ◌&&◌, nat_le, nat_lt, if◌then◌else◌, List, [], ◌∷◌, ◌++◌, map, length, refl, Result, Ok, Err}
use Rattle.std.specs.List.{range_with_len}
use Rattle.std.proofs.Common.{inl, inr, ⊎_elim, sym, ◌∙◌, ap, subst, get_or, arith}
use Rattle.std.proofs.lemmas.Bool.{cases_Bool, cond-true, cond-false, and_parts, and_left, and_right, and_from, or_from, or_parts, ltb-true, lt-ltb, le-ltb, lt-leb, not-true, not_from_false}
use Rattle.std.proofs.lemmas.List.{ext_get_or, get_or-take}
use Rattle.std.proofs.lemmas.List.FromFn.{length-map-range_with_len, get_or-map-range_with_len}
use Rattle.cl_base.specs.Disk.{FileState, DiskState, covers, IsImage, written_file, cut_file, settled_file, synced_file, IsTorn, IsTornWrite, IsTornCut, ChangeGives, Elapses, LeavesOnly}
use Rattle.cl_base.specs.Images.{IsSound, overwritten_other}
use Rattle.cl_base.specs.declared.fault.Trouble.{Trouble}
use Rattle.cl_base.specs.declared.fault.Trouble.TheVariants.{Failed, NoMemory}

-- after a write of n bytes that a crash cuts short: any bytes in the range and past the old end, the same elsewhere
pub record Torn (at n : ℕ) (old new : List ℕ) : Type 0 where
  pub no_shorter : length old ≤ length new
  pub no_longer : length new ≤ max (length old) (at + n)
  pub same : (i : ℕ) → i < length old → i < at ⊎ at + n ≤ i → get_or new i 0 ≡ get_or old i 0

-- the only image of a settled file
pub settled_image : (bytes c : List ℕ) → IsImage (settled_file bytes) c → c ≡ bytes
settled_image bytes c image =
    let len : length c ≡ length bytes = omega (arith, image.no_shorter, image.no_longer) in
    ext_get_or 0 c bytes len (λ i within. image.outside i (omega (arith, len)) within refl)

covers-push_from : (rs : List (ℕ × ℕ)) (a b i : ℕ) → covers rs i ≡ false → (nat_le a i && nat_lt i b) ≡ false → covers (rs ++ (a, b) ∷ []) i ≡ false
covers-push_from [] a b i free out = or_from _ _ out refl
covers-push_from (r ∷ rs) a b i free out =
    let parts = or_parts _ _ free in
    or_from _ _ parts.0 (covers-push_from rs a b i parts.1 out)

-- where a write is torn, each image is an image from before it, torn in the range
pub record FromImage (at n : ℕ) (old : FileState) (c : List ℕ) : Type 0 where
  pub before : List ℕ
  pub image : IsImage old before
  pub torn : Torn at n before c

-- after a cut to n bytes that a crash cuts short: no longer, at least the first n bytes, and these are the same
pub record CutShort (n : ℕ) (old new : List ℕ) : Type 0 where
  pub no_longer : length new ≤ length old
  pub no_shorter : min n (length old) ≤ length new
  pub same : (i : ℕ) → i < length new → i < n → get_or new i 0 ≡ get_or old i 0

-- where a cut is torn, each image is an image from before it, cut short
pub record FromCut (n : ℕ) (old : FileState) (c : List ℕ) : Type 0 where
  pub before : List ℕ
  pub image : IsImage old before
  pub cut : CutShort n before c

module _ (least at end : ℕ) (old new : FileState) (is_torn : IsTorn least at end old new) (ok : IsSound old) (c : List ℕ) (image : IsImage new c) where
  abbrev inside : ℕ → Bool
  inside i = nat_le at i && nat_lt i end

  abbrev takes : ℕ → Bool
  takes i = nat_lt i (length c) && not (inside i)

  abbrev value : ℕ → ℕ
  value i = if takes i then get_or c i 0 else get_or old.synced i 0

  abbrev size : ℕ
  size = max old.least (min (length c) old.most)

  abbrev file : List ℕ
  file = map value (range_with_len 0 size)

  length-file : length file ≡ size
  length-file = length-map-range_with_len value 0 size

  get_or-file : (i : ℕ) → i < length file → get_or file i 0 ≡ value i
  get_or-file i within = get_or-map-range_with_len value 0 size i i 0 (omega (arith, length-file)) (omega arith)

  out : (i : ℕ) → i < at ⊎ end ≤ i → inside i ≡ false
  out i (inl below) = and_left _ _ (lt-leb at i below)
  out i (inr above) = and_right _ _ (le-ltb i end above)

  synced_there : (i : ℕ) → i < length old.synced → covers old.ranges i ≡ false → takes i ≡ true → get_or c i 0 ≡ get_or old.synced i 0
  synced_there i in_synced free take_it =
      let parts = and_parts _ _ take_it in
      let in_c : i < length c = ltb-true i (length c) parts.0 in
      let free_new : covers new.ranges i ≡ false = ap (λ rs. covers rs i) is_torn.ranges ∙ covers-push_from old.ranges at end i free (not-true _ parts.1) in
      image.outside i (omega (arith, ap length is_torn.synced)) in_c free_new ∙ ap (λ l. get_or l i 0) is_torn.synced

  value_synced : (i : ℕ) → i < length old.synced → covers old.ranges i ≡ false → value i ≡ get_or old.synced i 0
  value_synced i in_synced free = elim (cases_Bool (takes i)) [
    | inl is_on ↦ cond-true (takes i) (get_or c i 0) (get_or old.synced i 0) is_on ∙ synced_there i in_synced free is_on
    | inr is_off ↦ cond-false (takes i) (get_or c i 0) (get_or old.synced i 0) is_off
  ]

  value_same : (i : ℕ) → i < length c → i < at ⊎ end ≤ i → value i ≡ get_or c i 0
  value_same i in_c outside = cond-true (takes i) (get_or c i 0) (get_or old.synced i 0) (and_from _ _ (lt-ltb i (length c) in_c) (not_from_false _ (out i outside)))

  was_image : IsImage old file
  was_image = record {
    no_shorter = omega (arith, length-file);
    no_longer = omega (arith, length-file, ok.synced.no_shorter, ok.synced.no_longer);
    outside = λ i in_synced within free. get_or-file i within ∙ value_synced i in_synced free;
  }

  was_same : (i : ℕ) → i < length c → i < length file → i < at ⊎ end ≤ i → get_or c i 0 ≡ get_or file i 0
  was_same i in_c within outside = sym (get_or-file i within ∙ value_same i in_c outside)

pub torn_image : (at n : ℕ) (old new : FileState) → IsTornWrite at n old new → IsSound old → (c : List ℕ) → IsImage new c → FromImage at n old c
torn_image at n old new is_torn ok c image =
    let len = length-file old.least at (at + n) old new is_torn ok c image in
    record {
      before = file old.least at (at + n) old new is_torn ok c image;
      image = was_image old.least at (at + n) old new is_torn ok c image;
      torn = record {
        no_shorter = omega (arith, len, is_torn.no_shorter, image.no_shorter);
        no_longer = omega (arith, len, is_torn.no_longer, image.no_longer, ok.synced.no_shorter, ok.synced.no_longer);
        same = λ i within outside. was_same old.least at (at + n) old new is_torn ok c image i (omega (arith, len, is_torn.no_shorter, image.no_shorter)) within outside;
      };
    }

pub cut_image : (n : ℕ) (old new : FileState) → IsTornCut n old new → IsSound old → (c : List ℕ) → IsImage new c → FromCut n old c
cut_image n old new is_torn ok c image =
    let least = min old.least n in
    let end = length old.reads in
    let len = length-file least n end old new is_torn ok c image in
    let most = ok.reads.no_longer in
    let no_longer = is_torn.no_longer in
    record {
      before = file least n end old new is_torn ok c image;
      image = was_image least n end old new is_torn ok c image;
      cut = record {
        no_longer = omega (arith, len, most, no_longer, image.no_longer);
        no_shorter = omega (arith, len, is_torn.no_shorter, image.no_shorter);
        same = λ i in_c below. was_same least n end old new is_torn ok c image i in_c (omega (arith, len, most, no_longer, image.no_longer)) (inl below);
      };
    }

-- a write that was done is one that was torn
pub written_is_torn : (at : ℕ) (bytes : List ℕ) (s : FileState) → at ≤ length s.reads → IsTornWrite at (length bytes) s (written_file at bytes s)
written_is_torn at bytes s le = record {
  synced = refl;
  ranges = refl;
  no_shorter = omega arith;
  no_longer = omega arith;
  same = λ i within outside. overwritten_other at bytes s.reads i le outside;
}

-- what a write leaves of the files, whatever it answers
pub record MayWrite (f at n : ℕ) (old new : ℕ → FileState) : Type 0 where
  pub this : (new f ≡ old f) ⊎ IsTornWrite at n (old f) (new f)
  pub others : (g : ℕ) → g ≢ f → new g ≡ old g

pub write_may : {T : Type 0} (f at : ℕ) (bytes : List ℕ) (old new : DiskState) (result : Result T Trouble) → at ≤ length (old.files f).reads
    → ChangeGives f (written_file at bytes) (IsTornWrite at (length bytes)) old new result → MayWrite f at (length bytes) old.files new.files
write_may f at bytes old new (Ok v) le gives = record {
  this = inr (subst (λ s. IsTornWrite at (length bytes) (old.files f) s) (sym gives.files.changed) (written_is_torn at bytes (old.files f) le));
  others = gives.files.others;
}
write_may f at bytes old new (Err Failed) le (inl refused) = record { this = inl (refused.files f); others = λ g ne. refused.files g }
write_may f at bytes old new (Err Failed) le (inr breaks) = record { this = inr breaks.torn; others = breaks.others }
write_may f at bytes old new (Err NoMemory) le same = record { this = inl (ap (λ (d : DiskState). d.files f) same); others = λ g ne. ap (λ (d : DiskState). d.files g) same }

-- a cut that was done is one that was torn
pub cut_is_torn : (n : ℕ) (s : FileState) → n ≤ length s.reads → IsTornCut n s (cut_file n s)
cut_is_torn n s le = record {
  synced = refl;
  ranges = refl;
  no_shorter = omega arith;
  no_longer = omega arith;
  same = λ i within outside. ⊎_elim (λ below. get_or-take n s.reads i 0 below) (λ above. absurd (omega arith)) outside;
}

-- what a cut leaves of the files, whatever it answers
pub record MayCut (f n : ℕ) (old new : ℕ → FileState) : Type 0 where
  pub this : (new f ≡ old f) ⊎ IsTornCut n (old f) (new f)
  pub others : (g : ℕ) → g ≢ f → new g ≡ old g

pub cut_may : {T : Type 0} (f n : ℕ) (old new : DiskState) (result : Result T Trouble) → n ≤ length (old.files f).reads
    → ChangeGives f (cut_file n) (IsTornCut n) old new result → MayCut f n old.files new.files
cut_may f n old new (Ok v) le gives = record {
  this = inr (subst (λ s. IsTornCut n (old.files f) s) (sym gives.files.changed) (cut_is_torn n (old.files f) le));
  others = gives.files.others;
}
cut_may f n old new (Err Failed) le (inl refused) = record { this = inl (refused.files f); others = λ g ne. refused.files g }
cut_may f n old new (Err Failed) le (inr breaks) = record { this = inr breaks.torn; others = breaks.others }
cut_may f n old new (Err NoMemory) le same = record { this = inl (ap (λ (d : DiskState). d.files f) same); others = λ g ne. ap (λ (d : DiskState). d.files g) same }

-- what a sync leaves of the files, whatever it answers
pub record MaySync (f : ℕ) (old new : ℕ → FileState) : Type 0 where
  pub this : (new f ≡ old f) ⊎ (new f ≡ synced_file (old f))
  pub others : (g : ℕ) → g ≢ f → new g ≡ old g

pub sync_may : {T : Type 0} (f : ℕ) (old new : DiskState) (result : Result T Trouble)
    → ChangeGives f synced_file (λ was now. now ≡ was) old new result → MaySync f old.files new.files
sync_may f old new (Ok v) gives = record { this = inr gives.files.changed; others = gives.files.others }
sync_may f old new (Err Failed) (inl refused) = record { this = inl (refused.files f); others = λ g ne. refused.files g }
sync_may f old new (Err Failed) (inr breaks) = record { this = inl breaks.torn; others = breaks.others }
sync_may f old new (Err NoMemory) same = record { this = inl (ap (λ (d : DiskState). d.files f) same); others = λ g ne. ap (λ (d : DiskState). d.files g) same }

module _ {D : Type 0} (moment : D → ℕ) (left_since : D → ℕ → (ℕ → List ℕ) → Type 0) where
  -- before the first call
  pub started : (old : D) (P : (ℕ → List ℕ) → Type 0) → ((c : ℕ → List ℕ) → left_since old (moment old) c → P c) → LeavesOnly moment left_since old old P
  started old P here = record { later = omega arith; each = here; before = λ t c le left. inl left }

  -- one call more, after which each image has P
  pub goes_on : (old mid new : D) (P may_leave : (ℕ → List ℕ) → Type 0) → LeavesOnly moment left_since old mid P → Elapses (moment mid) (moment new) (left_since mid) (left_since new) may_leave
      → ((c : ℕ → List ℕ) → may_leave c → P c) → LeavesOnly moment left_since old new P
  goes_on old mid new P may_leave so_far time here = record {
    later = omega (arith, so_far.later, time.later);
    each = λ c left. ⊎_elim (so_far.each c) (here c) (time.nothing_else (moment old) c so_far.later left);
    before = λ t c le left. ⊎_elim (so_far.before t c le) (λ now. inr (here c now)) (time.nothing_else t c (omega (arith, le, so_far.later)) left);
  }

  -- one run after another
  pub run_after : (old mid new : D) (P : (ℕ → List ℕ) → Type 0) → LeavesOnly moment left_since old mid P → LeavesOnly moment left_since mid new P → LeavesOnly moment left_since old new P
  run_after old mid new P first second = record {
    later = omega (arith, first.later, second.later);
    each = λ c left. ⊎_elim (first.each c) (λ is. is) (second.before (moment old) c first.later left);
    before = λ t c le left. ⊎_elim (first.before t c le) (λ is. inr is) (second.before t c (omega (arith, le, first.later)) left);
  }

  -- what is weaker holds too
  pub weaker : (old new : D) (P Q : (ℕ → List ℕ) → Type 0) → ((c : ℕ → List ℕ) → P c → Q c) → LeavesOnly moment left_since old new P → LeavesOnly moment left_since old new Q
  weaker old new P Q so run = record {
    later = run.later;
    each = λ c left. so c (run.each c left);
    before = λ t c le left. ⊎_elim (λ was. inl was) (λ now. inr (so c now)) (run.before t c le left);
  }
