-- An append: the TERM entries that a batch wants, and then the batch.
use Rattle.std.specs.Prelude.{OnOk}
use Rattle.std.proofs.Common.{◌≡◌, ◌⊎◌, ℕ, ◌-◌, ◌<◌, ◌≤◌, List, [], ◌∷◌, ◌++◌, Result, Ok, Err, IsTrue, refl, sym, ◌∙◌, ap, subst}
use Rattle.cl_base.specs.Disk.{FileState, LeavesOnly}
use Rattle.cl_base.specs.Every.{takes}
use Rattle.cl_base.specs.Fuse.{FuseEnds}
use Rattle.cl_base.specs.Gated.{is_open_byte}
use Rattle.cl_base.specs.Runs.{DiskLaws, EachImage}
use Rattle.cl_base.specs.declared.fault.MemberFault.{MemberFault}
use Rattle.cl_base.specs.declared.fault.MemberFault.TheVariants.{Device}
use Rattle.entry_log.specs.Log.{Log, place}
use Rattle.log_segment.specs.Segment.{LogIs}
use Rattle.log_segment.specs.Spelled.{append_calls}
use Rattle.log_segment.specs.Whole.{IsApart, LogIsOne, LogLeft}
use Rattle.member_disk.specs.Kept.{Kept, EachStands}
use Rattle.member_disk.specs.Parts.{Part, IsMade, made, term_parts, batch_part, append_parts}
use Rattle.member_disk.proofs.Lists.{made_both, then_all, early_all}
use Rattle.member_disk.proofs.LogFiles.{log_made}
use Rattle.member_disk.proofs.TermRuns.{standing}

module _ {D : Type 0} (L : DiskLaws D) (kept ready : Kept) (batch : Log) (old mid new : D) (result : Result (Unit {0}) MemberFault) (is : ready ≡ made (term_parts kept batch) kept)
    (terms : IsMade {T = Unit {0}} L.state L.moment L.left_since (term_parts kept batch) kept old mid (Ok tt)) (honest : IsTrue (L.is_honest mid)) where
  abbrev log : Log
  log = ready.log ++ batch

  abbrev calls : ℕ
  calls = append_calls (place ready.log) batch

  pub append_made : ((g : ℕ) → g < 2 ⊎ 258 ≤ g → (L.state new).files g ≡ (L.state mid).files g)
      → (EachImage (LogIs ready.log) (L.state mid).files → OnOk result (EachImage (LogIs log) (L.state new).files))
      → (EachImage (LogIs ready.log) (L.state mid).files → EachImage (LogIsOne ready.log log) (L.state new).files)
      → (EachImage (LogIs ready.log) (L.state mid).files → LeavesOnly L.moment L.left_since mid new (LogIsOne ready.log log))
      → LeavesOnly L.moment L.left_since mid new (IsApart (L.state mid).files)
      → (EachImage (LogIs ready.log) (L.state mid).files → FuseEnds calls Device (LogLeft (calls - 1) ready.log log) (L.state mid) (L.state new) result)
      → IsMade L.state L.moment L.left_since (append_parts kept batch) kept old new result
  append_made others done each run apart fuse =
      let all : EachStands ready (L.state mid).files = standing L kept ready batch old mid is terms in
      let there : EachImage (LogIs ready.log) (L.state mid).files = λ c image. (all c image).log in
      let last = log_made L (Unit {0}) ready mid new result honest all log others (done there) (each there) (run there) apart calls (calls - 1) (takes is_open_byte) refl (fuse there) in
      then_all L.state L.moment L.left_since (Unit {0}) (Unit {0}) (term_parts kept batch) (batch_part (made (term_parts kept batch) kept) batch ∷ []) kept old mid tt new result terms
      (subst (λ (k : Kept). IsMade L.state L.moment L.left_since (batch_part k batch ∷ []) k mid new result) is last)

-- what is kept then
pub append_makes : (kept ready after : Kept) (batch : Log) → ready ≡ made (term_parts kept batch) kept → after ≡ record ready { log = ready.log ++ batch } → after ≡ made (append_parts kept batch) kept
append_makes kept ready after batch is now =
    now ∙ ap (λ (k : Kept). (batch_part k batch).makes) is ∙ sym (made_both (term_parts kept batch) (batch_part (made (term_parts kept batch) kept) batch ∷ []) kept)

-- the TERM entries failed
pub append_early : {D : Type 0} (L : DiskLaws D) (kept : Kept) (batch : Log) (old mid : D) (e : MemberFault) → IsMade {T = Unit {0}} L.state L.moment L.left_since (term_parts kept batch) kept old mid (Err e) → IsMade {T = Unit {0}} L.state L.moment L.left_since (append_parts kept batch) kept old mid (Err e)
append_early L kept batch old mid e first = early_all L.state L.moment L.left_since (Unit {0}) (Unit {0}) (term_parts kept batch) (batch_part (made (term_parts kept batch) kept) batch ∷ []) kept old mid e first
