-- How far a run of disk calls has come.
use Rattle.std.proofs.Common.{◌≡◌, ◌≢◌, ℕ, Bool, List, length, ap, ◌∙◌, sym, subst, IsTrue, arith, Result}
use Rattle.cl_base.specs.Disk.{FileState, DiskState, IsImage, IsImageOf, Elapses, LeavesOnly, settled_file, written_file, synced_file, IsTornWrite, ChangeGives}
use Rattle.cl_base.specs.declared.fault.Trouble.{Trouble}
use Rattle.cl_base.specs.Images.{IsSound}
use Rattle.cl_base.specs.Torn.{MayWrite, write_may, sync_may, started, goes_on}
use Rattle.node_state.specs.Node.{Node, BeforeOrAfter}
use Rattle.node_state.specs.Steps.{AllTell, EachTells, IsReady}
use Rattle.node_state.proofs.NodeLemmas.{IsSpare, write_keeps, sync_keeps, select_keeps, either_keeps, all_either, each_image}

module _ {D : Type 0} (state : D → DiskState) (is_honest : D → Bool) (moment : D → ℕ) (left_since : D → ℕ → (ℕ → List ℕ) → Type 0)
    (reads : (d : D) (f : ℕ) → IsTrue (is_honest d) → IsImage ((state d).files f) ((state d).files f).reads)
    (synced : (d : D) (f : ℕ) → IsTrue (is_honest d) → IsImage ((state d).files f) ((state d).files f).synced)
    (tells : D → Bool) (honest_tells : (d : D) → IsTrue (is_honest d) → IsTrue (tells d))
    (only_now : (d : D) (c : ℕ → List ℕ) → IsTrue (is_honest d) → left_since d (moment d) c → IsImageOf (state d).files c)
    (before after : Node) (old : D) where
  abbrev files : D → ℕ → FileState
  files d = (state d).files

  abbrev P : (ℕ → List ℕ) → Type 0
  P = BeforeOrAfter (files old) before after

  pub sound_at : (d : D) (f : ℕ) → IsTrue (is_honest d) → IsSound (files d f)
  sound_at d f honest = record { reads = reads d f honest; synced = synced d f honest }

  -- each image so far tells one of two, and each image now tells the first
  pub record Reached (mid : D) : Type 0 where
    pub honest : IsTrue (is_honest mid)
    pub all : AllTell before (files old) (files mid)
    pub run : LeavesOnly moment left_since old mid P

  pub start : IsTrue (is_honest old) → AllTell before (files old) (files old) → Reached old
  start honest all = record {
    honest = honest;
    all = all;
    run = started moment left_since old P (λ c left. each_image before after (files old) (files old) (all_either before after (files old) (files old) all) c (only_now old c honest left));
  }

  reach : (mid new : D) → Reached mid → is_honest new ≡ is_honest mid → AllTell before (files old) (files new)
      → (IsTrue (is_honest mid) → Elapses (moment mid) (moment new) (left_since mid) (left_since new) (IsImageOf (files new))) → Reached new
  reach mid new so_far same all time = record {
    honest = subst IsTrue (sym same) so_far.honest;
    all = all;
    run = goes_on moment left_since old mid new P (IsImageOf (files new)) so_far.run (time so_far.honest) (each_image before after (files old) (files new) (all_either before after (files old) (files new) all));
  }

  pub size_at : (mid : D) → Reached mid → length (files mid 0).reads ≡ 32
  size_at mid so_far = (so_far.all.this (files mid 0).reads (reads mid 0 so_far.honest)).0.size

  pub write : {T : Type 0} (mid new : D) (at : ℕ) (bytes : List ℕ) (result : Result T Trouble) → Reached mid → is_honest new ≡ is_honest mid → IsSpare before.slot at (length bytes)
      → (IsTrue (tells mid) → ChangeGives 0 (written_file at bytes) (IsTornWrite at (length bytes)) (state mid) (state new) result)
      → (IsTrue (is_honest mid) → Elapses (moment mid) (moment new) (left_since mid) (left_since new) (IsImageOf (files new))) → Reached new
  write mid new at bytes result so_far same spare gives time =
      let may = write_may 0 at bytes (state mid) (state new) result (omega (arith, size_at mid so_far, spare.inside)) (gives (honest_tells mid so_far.honest)) in
      reach mid new so_far same (write_keeps before (files old) (files mid) (files new) so_far.all (sound_at mid 0 so_far.honest) at (length bytes) spare may) time

  pub sync : {T : Type 0} (mid new : D) (result : Result T Trouble) → Reached mid → is_honest new ≡ is_honest mid
      → (IsTrue (tells mid) → ChangeGives 0 synced_file (λ was now. now ≡ was) (state mid) (state new) result)
      → (IsTrue (is_honest mid) → Elapses (moment mid) (moment new) (left_since mid) (left_since new) (IsImageOf (files new))) → Reached new
  sync mid new result so_far same gives time =
      reach mid new so_far same (sync_keeps before (files old) (files mid) (files new) so_far.all (sound_at mid 0 so_far.honest) (sync_may 0 (state mid) (state new) result (gives (honest_tells mid so_far.honest)))) time

  -- each image so far, and each image now, tells one of two
  pub record Chosen (mid : D) : Type 0 where
    pub honest : IsTrue (is_honest mid)
    pub each : EachTells before after (files old) (files mid)
    pub run : LeavesOnly moment left_since old mid P

  choose : (mid new : D) → IsTrue (is_honest mid) → LeavesOnly moment left_since old mid P → is_honest new ≡ is_honest mid → EachTells before after (files old) (files new)
      → (IsTrue (is_honest mid) → Elapses (moment mid) (moment new) (left_since mid) (left_since new) (IsImageOf (files new))) → Chosen new
  choose mid new honest run same each time = record {
    honest = subst IsTrue (sym same) honest;
    each = each;
    run = goes_on moment left_since old mid new P (IsImageOf (files new)) run (time honest) (each_image before after (files old) (files new) each);
  }

  pub select : {T : Type 0} (mid new : D) (bytes one : List ℕ) (result : Result T Trouble) → length one ≡ 1 → IsTrue (is_honest mid) → LeavesOnly moment left_since old mid P → ((f : ℕ) → f ≢ 0 → files mid f ≡ files old f) → is_honest new ≡ is_honest mid
      → IsReady before after bytes → files mid 0 ≡ settled_file bytes
      → (IsTrue (tells mid) → ChangeGives 0 (written_file 16 one) (IsTornWrite 16 (length one)) (state mid) (state new) result)
      → (IsTrue (is_honest mid) → Elapses (moment mid) (moment new) (left_since mid) (left_since new) (IsImageOf (files new))) → Chosen new
  select mid new bytes one result single honest run others same ready is gives time =
      let size : length (files mid 0).reads ≡ 32 = ap (λ (s : FileState). length s.reads) is ∙ ready.tells.0.size in
      let may = write_may 0 16 one (state mid) (state new) result (omega (arith, size)) (gives (honest_tells mid honest)) in
      choose mid new honest run same (select_keeps before after (files old) (files mid) (files new) bytes ready is others (sound_at mid 0 honest) (subst (λ n. MayWrite 0 16 n (files mid) (files new)) single may)) time

  pub settle : {T : Type 0} (mid new : D) (result : Result T Trouble) → Chosen mid → is_honest new ≡ is_honest mid
      → (IsTrue (tells mid) → ChangeGives 0 synced_file (λ was now. now ≡ was) (state mid) (state new) result)
      → (IsTrue (is_honest mid) → Elapses (moment mid) (moment new) (left_since mid) (left_since new) (IsImageOf (files new))) → Chosen new
  settle mid new result so_far same gives time =
      choose mid new so_far.honest so_far.run same (either_keeps before after (files old) (files mid) (files new) so_far.each (sound_at mid 0 so_far.honest) (sync_may 0 (state mid) (state new) result (gives (honest_tells mid so_far.honest)))) time
