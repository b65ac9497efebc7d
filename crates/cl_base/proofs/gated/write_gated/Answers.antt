-- Each exit of the gated write.
use Rattle.std.proofs.Common.{◌≡◌, inl, inr, ℕ, ◌+◌, ◌-◌, List, [], ◌∷◌, length, Result, Ok, Err, IsTrue, refl, sym, ◌∙◌, subst, ap, arith}
use Rattle.cl_base.specs.Disk.{FileState, DiskState, settled_file, written_file, left_by}
use Rattle.cl_base.specs.Every.{EveryImage, FileIs}
use Rattle.cl_base.specs.EveryRun.{every_settled, every_through, moment_through, every_weaker}
use Rattle.cl_base.specs.Images.{IsSound, left_is_image}
use Rattle.cl_base.specs.Torn.{Torn, run_after, weaker}
use Rattle.cl_base.specs.Through.{IsTornFrom, ThroughLeft}
use Rattle.cl_base.specs.Fuse.{FuseEnds, Early, Later, ends_weaker, fuse_first, fuse_then}
use Rattle.cl_base.specs.Gated.{FromTwice, GatedImage, GatedLeft, shut, open_byte}
use Rattle.cl_base.specs.declared.fault.Trouble.{Trouble}
use Rattle.cl_base.specs.declared.fault.Trouble.TheVariants.{Failed}
use Rattle.cl_base.proofs.gated.write_gated.Goals as goal

gate_torn : (at : ℕ) (head : List ℕ) (gate : ℕ) (tail : List ℕ) (old : FileState) (e c : List ℕ) → e ≡ shut at head gate tail old.reads → Torn gate 1 e c → GatedImage at head gate tail old c
gate_torn at head gate tail old e c is torn = inr (subst (λ l. Torn gate 1 l c) is torn)

module _ (file at : ℕ) (head : List ℕ) (gate : ℕ) (tail : List ℕ) (s0 s1 : DiskState)
    (images : EveryImage file (FromTwice at (length head) (gate + 1) (length tail) (s0.files file)) s0.files s1.files) (sound : IsSound (s1.files file)) where
  abbrev Left : DiskState → ℕ → Type 0
  Left left k = GatedLeft file at head gate tail (s0.files file) left k

  ended_early : (T : Type 0) (e : Trouble) → FuseEnds {T = T} 3 Failed (λ _ _. Unit {0}) s0 s1 (Err e) → FuseEnds {T = T} 5 Failed Left s0 s1 (Err e)
  ended_early T e ends =
      ends_weaker T Trouble Failed 5 (Early 3 (λ _ _. Unit {0})) Left s0 s1 (Err e)
      (λ k few left. record {
        few = λ small choice. images.this (left_by choice (s1.files file)) (left_is_image choice (s1.files file) sound);
        last = λ is. absurd (omega (arith, left.0));
      })
      (fuse_first T T Trouble Failed 3 2 (λ _ _. Unit {0}) s0 s1 e ends)

  ended_late : (T : Type 0) (s2 : DiskState) (result : Result T Trouble) → s1.files file ≡ settled_file (shut at head gate tail (s0.files file).reads) → FuseEnds {T = Unit {0}} 3 Failed (λ _ _. Unit {0}) s0 s1 (Ok tt)
      → FuseEnds {T = T} 2 Failed (ThroughLeft file gate (open_byte ∷ []) s1.files) s1 s2 result → FuseEnds {T = T} 5 Failed Left s0 s2 result
  ended_late T s2 result is first second alive =
      ends_weaker T Trouble Failed 5 (Later 3 (ThroughLeft file gate (open_byte ∷ []) s1.files)) Left s0 s2 result
      (λ k few left. record {
        few = λ small choice.
            let none : k - 3 ≡ 0 = omega (arith, left.0) in
            let same : s2.files file ≡ s1.files file = left.1.write none in
            subst (λ (s : FileState). FromTwice at (length head) (gate + 1) (length tail) (s0.files file) (left_by choice s)) (sym same) (images.this (left_by choice (s1.files file)) (left_is_image choice (s1.files file) sound));
        last = λ four.
            let one : k - 3 ≡ 1 = omega arith in
            left.1.sync one ∙ ap (written_file gate (open_byte ∷ [])) is;
      })
      (fuse_then T Trouble Failed 3 2 (ThroughLeft file gate (open_byte ∷ []) s1.files) s0 s1 s2 result (first alive) second) alive

pub returns-in-Err-clause-images : goal.returns-in-Err-clause-images
returns-in-Err-clause-images g c honest =
    let d0 = c.args.disk.now in
    let d1 = c.write_shut.new.disk in
    let s0 = g.D.Disk.state d0 in
    let s1 = g.D.Disk.state d1 in
    let f0 = s0.files in
    let f1 = s1.files in
    let told = g.met.D.Disk.honest_tells d0 honest in
    let honest1 = subst IsTrue (sym c.write_shut.ensures.honest) honest in
    let n = length c.args.head.now in
    let m = length c.args.tail.now in
    let file = c.args.file in
    let at = c.args.at in
    let gate = c.args.gate in
    let Twice = FromTwice at n (gate + 1) m (f0 file) in
    let Gated = GatedImage at c.args.head.now gate c.args.tail.now (f0 file) in
    let first = c.write_shut.ensures.images honest in
    every_weaker file Twice f0 Gated f1 (λ x is. inl is) first

pub returns-in-Err-clause-any_moment : goal.returns-in-Err-clause-any_moment
returns-in-Err-clause-any_moment g c honest =
    let d0 = c.args.disk.now in
    let d1 = c.write_shut.new.disk in
    let s0 = g.D.Disk.state d0 in
    let s1 = g.D.Disk.state d1 in
    let f0 = s0.files in
    let f1 = s1.files in
    let told = g.met.D.Disk.honest_tells d0 honest in
    let honest1 = subst IsTrue (sym c.write_shut.ensures.honest) honest in
    let n = length c.args.head.now in
    let m = length c.args.tail.now in
    let file = c.args.file in
    let at = c.args.at in
    let gate = c.args.gate in
    let Twice = FromTwice at n (gate + 1) m (f0 file) in
    let Gated = GatedImage at c.args.head.now gate c.args.tail.now (f0 file) in
    let first = c.write_shut.ensures.images honest in
    weaker g.D.Disk.moment g.D.Disk.left_since d0 d1 (FileIs file Twice f0) (FileIs file Gated f0) (λ x is. record { this = inl is.this; others = is.others }) (c.write_shut.ensures.any_moment honest)

pub returns-in-Err-clause-fuse : goal.returns-in-Err-clause-fuse
returns-in-Err-clause-fuse g c honest =
    let d0 = c.args.disk.now in
    let d1 = c.write_shut.new.disk in
    let s0 = g.D.Disk.state d0 in
    let s1 = g.D.Disk.state d1 in
    let f0 = s0.files in
    let f1 = s1.files in
    let told = g.met.D.Disk.honest_tells d0 honest in
    let honest1 = subst IsTrue (sym c.write_shut.ensures.honest) honest in
    let n = length c.args.head.now in
    let m = length c.args.tail.now in
    let file = c.args.file in
    let at = c.args.at in
    let gate = c.args.gate in
    let Twice = FromTwice at n (gate + 1) m (f0 file) in
    let Gated = GatedImage at c.args.head.now gate c.args.tail.now (f0 file) in
    let first = c.write_shut.ensures.images honest in
    ended_early file at c.args.head.now gate c.args.tail.now s0 s1 first (record { reads = g.met.D.Disk.reads_is_image d1 file honest1; synced = g.met.D.Disk.synced_is_image d1 file honest1 }) (Unit {0}) c.in-Err.trouble (c.in-Err.ensures.fuse told)

pub returns-in-Ok-clause-images : goal.returns-in-Ok-clause-images
returns-in-Ok-clause-images g c honest =
    let d0 = c.args.disk.now in
    let d1 = c.write_shut.new.disk in
    let s0 = g.D.Disk.state d0 in
    let s1 = g.D.Disk.state d1 in
    let f0 = s0.files in
    let f1 = s1.files in
    let told = g.met.D.Disk.honest_tells d0 honest in
    let honest1 = subst IsTrue (sym c.write_shut.ensures.honest) honest in
    let n = length c.args.head.now in
    let m = length c.args.tail.now in
    let file = c.args.file in
    let at = c.args.at in
    let gate = c.args.gate in
    let Twice = FromTwice at n (gate + 1) m (f0 file) in
    let Gated = GatedImage at c.args.head.now gate c.args.tail.now (f0 file) in
    let first = c.write_shut.ensures.images honest in
    let d2 = c.write_through.new.disk in
    let s2 = g.D.Disk.state d2 in
    let bytes = shut at c.args.head.now gate c.args.tail.now (f0 file).reads in
    let ch = c.in-Ok.ensures.done told in
    let All = λ (e : List ℕ). e ≡ bytes in
    let every1 = every_settled file All f0 bytes f1 ch.changed ch.others refl in
    let torn = gate_torn at c.args.head.now gate c.args.tail.now (f0 file) in
    every_through file All f0 Gated gate 1 f1 s2.files every1 torn (c.write_through.ensures.images honest1)

pub returns-in-Ok-clause-any_moment : goal.returns-in-Ok-clause-any_moment
returns-in-Ok-clause-any_moment g c honest =
    let d0 = c.args.disk.now in
    let d1 = c.write_shut.new.disk in
    let s0 = g.D.Disk.state d0 in
    let s1 = g.D.Disk.state d1 in
    let f0 = s0.files in
    let f1 = s1.files in
    let told = g.met.D.Disk.honest_tells d0 honest in
    let honest1 = subst IsTrue (sym c.write_shut.ensures.honest) honest in
    let n = length c.args.head.now in
    let m = length c.args.tail.now in
    let file = c.args.file in
    let at = c.args.at in
    let gate = c.args.gate in
    let Twice = FromTwice at n (gate + 1) m (f0 file) in
    let Gated = GatedImage at c.args.head.now gate c.args.tail.now (f0 file) in
    let first = c.write_shut.ensures.images honest in
    let d2 = c.write_through.new.disk in
    let s2 = g.D.Disk.state d2 in
    let bytes = shut at c.args.head.now gate c.args.tail.now (f0 file).reads in
    let ch = c.in-Ok.ensures.done told in
    let All = λ (e : List ℕ). e ≡ bytes in
    let every1 = every_settled file All f0 bytes f1 ch.changed ch.others refl in
    let torn = gate_torn at c.args.head.now gate c.args.tail.now (f0 file) in
    let run1 = weaker g.D.Disk.moment g.D.Disk.left_since d0 d1 (FileIs file Twice f0) (FileIs file Gated f0) (λ x is. record { this = inl is.this; others = is.others }) (c.write_shut.ensures.any_moment honest) in
    let run2 = weaker g.D.Disk.moment g.D.Disk.left_since d1 d2 (IsTornFrom file gate 1 f1) (FileIs file Gated f0) (moment_through file All f0 Gated gate 1 f1 every1 torn) (c.write_through.ensures.any_moment honest1) in
    run_after g.D.Disk.moment g.D.Disk.left_since d0 d1 d2 (FileIs file Gated f0) run1 run2

pub returns-in-Ok-clause-fuse : goal.returns-in-Ok-clause-fuse
returns-in-Ok-clause-fuse g c honest =
    let d0 = c.args.disk.now in
    let d1 = c.write_shut.new.disk in
    let s0 = g.D.Disk.state d0 in
    let s1 = g.D.Disk.state d1 in
    let f0 = s0.files in
    let f1 = s1.files in
    let told = g.met.D.Disk.honest_tells d0 honest in
    let honest1 = subst IsTrue (sym c.write_shut.ensures.honest) honest in
    let n = length c.args.head.now in
    let m = length c.args.tail.now in
    let file = c.args.file in
    let at = c.args.at in
    let gate = c.args.gate in
    let Twice = FromTwice at n (gate + 1) m (f0 file) in
    let Gated = GatedImage at c.args.head.now gate c.args.tail.now (f0 file) in
    let first = c.write_shut.ensures.images honest in
    let d2 = c.write_through.new.disk in
    let s2 = g.D.Disk.state d2 in
    let bytes = shut at c.args.head.now gate c.args.tail.now (f0 file).reads in
    let ch = c.in-Ok.ensures.done told in
    let All = λ (e : List ℕ). e ≡ bytes in
    let every1 = every_settled file All f0 bytes f1 ch.changed ch.others refl in
    let torn = gate_torn at c.args.head.now gate c.args.tail.now (f0 file) in
    let told1 = subst IsTrue (sym c.write_shut.ensures.tells) told in
    ended_late file at c.args.head.now gate c.args.tail.now s0 s1 first (record { reads = g.met.D.Disk.reads_is_image d1 file honest1; synced = g.met.D.Disk.synced_is_image d1 file honest1 }) (Unit {0}) s2 c.write_through.result ch.changed (c.in-Ok.ensures.fuse told) (c.write_through.ensures.fuse told1)
