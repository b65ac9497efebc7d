-- Each file is crashed in turn.
use Rattle.std.proofs.Common.{◌≡◌, ◌≢◌, ◌<◌, ◌∙◌, ap, sym, inl, inr, [], slice_set, length, below_more, arith}
use Rattle.std.proofs.lemmas.Grind.{common_steps}
use Rattle.std.proofs.lemmas.Bool.{cases_lt}
use Rattle.cl_base.specs.Disk.{settled_file, left_by}
use Rattle.cl_base.specs.Images.{left_by-settled}
use Rattle.cl_memdisk.specs.Changes.{shown}
use Rattle.cl_memdisk.specs.Files.{file_at}
use Rattle.cl_memdisk.proofs.FilesLemmas.{data_at-get, data_at_past, data_at-set_same, data_at-set_other}
use Rattle.cl_memdisk.proofs.recorded.crash_all.Goals as goal

pub loop-f-preserved : goal.loop-f-preserved
loop-f-preserved c =
    let i = c.loop-f.f-index in
    let files = c.loop-f.files in
    let within : i < length files = grind (arith, common_steps) in
    let this : file_at (slice_set files i c.crash.new.self) i ≡ settled_file (left_by c.args.choice (file_at c.args.files.now i)) =
    ap shown (data_at-set_same files i c.crash.new.self within ∙ c.crash.ensures) ∙ ap (λ s. settled_file (left_by c.args.choice s))
    (sym (ap shown (data_at-get files i c.f-item.result within)) ∙ c.loop-f.invariant.rest i (omega arith)) in
    record {
      done = below_more _ _ (λ k below. let ne : k ≢ i = omega arith in ap shown (data_at-set_other files i k c.crash.new.self ne) ∙ c.loop-f.invariant.done k below) this;
      rest = λ k above. let ne : k ≢ i = omega arith in ap shown (data_at-set_other files i k c.crash.new.self ne) ∙ c.loop-f.invariant.rest k (omega arith);
    }

pub returns : goal.returns
returns c f =
    let choice = c.args.choice in
    elim (cases_lt f c.loop-f.f-index) [
      | inl below ↦ c.loop-f.invariant.done f below
      | inr above ↦
          let was : file_at c.args.files.now f ≡ settled_file [] = ap shown (data_at_past c.args.files.now f (let past = c.loop-f-test.false in omega arith)) in
          c.loop-f.invariant.rest f above ∙ was ∙ ap settled_file (sym (left_by-settled choice [])) ∙ ap (λ s. settled_file (left_by choice s)) (sym was)
    ]
