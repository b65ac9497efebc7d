-- Each exit of a write behind a gate over two files.
use Rattle.std.proofs.Common.{◌≡◌, ◌≢◌, inl, inr, ℕ, ◌-◌, List, [], ◌∷◌, length, Result, Ok, Err, IsTrue, sym, ◌∙◌, subst, ap, arith}
use Rattle.std.proofs.lemmas.Bool.{cases_eq}
use Rattle.cl_base.specs.Disk.{DiskState, IsImage, IsImageOf, settled_file, written_file, overwritten, left_by}
use Rattle.cl_base.specs.Images.{IsSound, left_is_image}
use Rattle.cl_base.specs.Torn.{Torn}
use Rattle.cl_base.specs.Through.{ThroughLeft}
use Rattle.cl_base.specs.Fuse.{FuseEnds, Early, Later, ends_weaker, fuse_first, fuse_then}
use Rattle.cl_base.specs.Gated.{LedImage, LedLeft, open_byte}
use Rattle.cl_base.specs.Runs.{DiskLaws, EachImage, ComesFrom, TornIn, TornBoth, Reached, start, went, through, whole_settled, both_none}
use Rattle.cl_base.specs.declared.disk.Choice.{Choice}
use Rattle.cl_base.specs.declared.fault.Trouble.{Trouble}
use Rattle.cl_base.specs.declared.fault.Trouble.TheVariants.{Failed}
use Rattle.cl_base.proofs.several.write_led.Given as given
use Rattle.cl_base.proofs.several.write_led.Goals as goal

abbrev laws_of : (g : given.Over) → DiskLaws g.row.D.Denot
laws_of g = record {
  state = g.D.Disk.state;
  is_honest = g.D.Disk.is_honest;
  tells = g.D.Disk.tells;
  moment = g.D.Disk.moment;
  left_since = g.D.Disk.left_since;
  reads = g.met.D.Disk.reads_is_image;
  synced = g.met.D.Disk.synced_is_image;
  honest_tells = g.met.D.Disk.honest_tells;
  only_now = g.met.D.Disk.only_now;
}

module _ (a at : ℕ) (head : List ℕ) (gate b : ℕ) (bytes : List ℕ) (differ : b ≢ a) (s0 s1 : DiskState)
    (images : EachImage (ComesFrom (TornBoth a at (length head) b 0 (length bytes)) s0.files) s1.files) (sound : (f : ℕ) → IsSound (s1.files f)) where
  abbrev Both : (ℕ → List ℕ) → Type 0
  Both c = ComesFrom (TornBoth a at (length head) b 0 (length bytes)) s0.files c

  abbrev Led : (ℕ → List ℕ) → Type 0
  Led c = LedImage a at head gate b bytes s0.files c

  abbrev Left : DiskState → ℕ → Type 0
  Left left k = LedLeft a at head gate b bytes s0.files left k

  start_both : (c : ℕ → List ℕ) → IsImageOf s0.files c → Led c
  start_both c image = inl (record { before = c; image = image; so = both_none a at (length head) b 0 (length bytes) differ c })

  left_both : (choice : Choice) → Both (λ f. left_by choice (s1.files f))
  left_both choice = images (λ f. left_by choice (s1.files f)) (λ f. left_is_image choice (s1.files f) (sound f))

  ended_early : (T : Type 0) (e : Trouble) → FuseEnds {T = T} 4 Failed (λ _ _. Unit {0}) s0 s1 (Err e) → FuseEnds {T = T} 6 Failed Left s0 s1 (Err e)
  ended_early T e ends =
      ends_weaker T Trouble Failed 6 (Early 4 (λ _ _. Unit {0})) Left s0 s1 (Err e)
      (λ k few left. record {
        few = λ small choice. left_both choice;
        first = λ is. absurd (omega (arith, left.0));
        second = λ is. absurd (omega (arith, left.0));
      })
      (fuse_first T T Trouble Failed 4 2 (λ _ _. Unit {0}) s0 s1 e ends)

  -- both files are there
  module _ (first : s1.files a ≡ settled_file (overwritten at head (s0.files a).reads)) (second : s1.files b ≡ settled_file (overwritten 0 bytes (s0.files b).reads))
      (others : (g : ℕ) → g ≢ a → g ≢ b → s1.files g ≡ s0.files g) where
    abbrev There : (ℕ → List ℕ) → Type 0
    There c = (c a ≡ overwritten at head (s0.files a).reads) × (c b ≡ overwritten 0 bytes (s0.files b).reads) × ((g : ℕ) → g ≢ a → g ≢ b → IsImage (s0.files g) (c g))

    all_there : (c : ℕ → List ℕ) → IsImageOf s1.files c → There c
    all_there c image = (
      whole_settled a (overwritten at head (s0.files a).reads) s1.files first c image,
      whole_settled b (overwritten 0 bytes (s0.files b).reads) s1.files second c image,
      λ g ne other. subst (λ s. IsImage s (c g)) (others g ne other) (image g),
    )

    gate_torn : (e c : ℕ → List ℕ) → There e → TornIn a gate 1 e c → Led c
    gate_torn e c there torn = inr (record {
      first = subst (λ l. Torn gate 1 l (c a)) there.0 torn.this;
      second = torn.others b differ ∙ there.1;
      others = λ g ne other. subst (IsImage (s0.files g)) (sym (torn.others g ne)) (there.2 g ne other);
    })

    ended_late : (T : Type 0) (s2 : DiskState) (result : Result T Trouble) → FuseEnds {T = Unit {0}} 4 Failed (λ _ _. Unit {0}) s0 s1 (Ok tt)
        → FuseEnds {T = T} 2 Failed (ThroughLeft a gate (open_byte ∷ []) s1.files) s1 s2 result → ((g : ℕ) → g ≢ a → s2.files g ≡ s1.files g) → FuseEnds {T = T} 6 Failed Left s0 s2 result
    ended_late T s2 result ends then_ends stay alive =
        ends_weaker T Trouble Failed 6 (Later 4 (ThroughLeft a gate (open_byte ∷ []) s1.files)) Left s0 s2 result
        (λ k few left. record {
          few = λ small choice.
              let none : k - 4 ≡ 0 = omega (arith, left.0) in
              let same = left.1.write none in
              let image : IsImageOf s1.files (λ f. left_by choice (s2.files f)) = λ f. as_before choice s2 same stay f in
              images (λ f. left_by choice (s2.files f)) image;
          first = λ five. let one : k - 4 ≡ 1 = omega arith in left.1.sync one ∙ ap (written_file gate (open_byte ∷ [])) first;
          second = λ five. stay b differ ∙ second;
        })
        (fuse_then T Trouble Failed 4 2 (ThroughLeft a gate (open_byte ∷ []) s1.files) s0 s1 s2 result (ends alive) then_ends) alive
      where
        as_before : (choice : Choice) (s2 : DiskState) → s2.files a ≡ s1.files a → ((g : ℕ) → g ≢ a → s2.files g ≡ s1.files g) → (f : ℕ) → IsImage (s1.files f) (left_by choice (s2.files f))
        as_before choice s2 same stay f = elim (cases_eq f a) [
          | inl is ↦ subst (λ h. IsImage (s1.files h) (left_by choice (s2.files h))) (sym is) (subst (λ s. IsImage (s1.files a) (left_by choice s)) (sym same) (left_is_image choice (s1.files a) (sound a)))
          | inr ne ↦ subst (λ s. IsImage (s1.files f) (left_by choice s)) (sym (stay f ne)) (left_is_image choice (s1.files f) (sound f))
        ]

sound_of : {D : Type 0} (L : DiskLaws D) (d : D) → IsTrue (L.is_honest d) → (f : ℕ) → IsSound ((L.state d).files f)
sound_of L d honest f = record { reads = L.reads d f honest; synced = L.synced d f honest }

said : {D : Type 0} (L : DiskLaws D) (old : D) (Q P P2 : (ℕ → List ℕ) → Type 0) (mid : D) → Reached L old Q P mid → EachImage P2 (L.state mid).files → Reached L old Q P2 mid
said L old Q P P2 mid far each = record { honest = far.honest; each = each; run = far.run }

pub returns-in-Err-clause-images : goal.returns-in-Err-clause-images
returns-in-Err-clause-images g c honest =
    let laws = laws_of g in
    let d0 = c.args.disk.now in
    let d1 = c.write_both.new.disk in
    let s0 = g.D.Disk.state d0 in
    let s1 = g.D.Disk.state d1 in
    let told = g.met.D.Disk.honest_tells d0 honest in
    let honest1 = subst IsTrue (sym c.write_both.ensures.honest) honest in
    let a = c.args.first in
    let b = c.args.second in
    let images = c.write_both.ensures.images honest in
    let sound = λ (f : ℕ). sound_of laws d1 honest1 f in
    let Q = Led a c.args.at c.args.head.now c.args.gate b c.args.bytes.now c.requires.apart s0 s1 images sound in
    let B = Both a c.args.at c.args.head.now c.args.gate b c.args.bytes.now c.requires.apart s0 s1 images sound in
    let r0 = start laws d0 Q (IsImageOf s0.files) honest (λ x image. image) (start_both a c.args.at c.args.head.now c.args.gate b c.args.bytes.now c.requires.apart s0 s1 images sound) in
    let r1 = went laws d0 Q (IsImageOf s0.files) B B d0 d1 r0 c.write_both.ensures.honest images (c.write_both.ensures.any_moment honest) (λ x is. inl is) in
    (λ x image. inl (r1.each x image))

pub returns-in-Err-clause-any_moment : goal.returns-in-Err-clause-any_moment
returns-in-Err-clause-any_moment g c honest =
    let laws = laws_of g in
    let d0 = c.args.disk.now in
    let d1 = c.write_both.new.disk in
    let s0 = g.D.Disk.state d0 in
    let s1 = g.D.Disk.state d1 in
    let told = g.met.D.Disk.honest_tells d0 honest in
    let honest1 = subst IsTrue (sym c.write_both.ensures.honest) honest in
    let a = c.args.first in
    let b = c.args.second in
    let images = c.write_both.ensures.images honest in
    let sound = λ (f : ℕ). sound_of laws d1 honest1 f in
    let Q = Led a c.args.at c.args.head.now c.args.gate b c.args.bytes.now c.requires.apart s0 s1 images sound in
    let B = Both a c.args.at c.args.head.now c.args.gate b c.args.bytes.now c.requires.apart s0 s1 images sound in
    let r0 = start laws d0 Q (IsImageOf s0.files) honest (λ x image. image) (start_both a c.args.at c.args.head.now c.args.gate b c.args.bytes.now c.requires.apart s0 s1 images sound) in
    let r1 = went laws d0 Q (IsImageOf s0.files) B B d0 d1 r0 c.write_both.ensures.honest images (c.write_both.ensures.any_moment honest) (λ x is. inl is) in
    r1.run

pub returns-in-Ok-clause-images : goal.returns-in-Ok-clause-images
returns-in-Ok-clause-images g c honest =
    let laws = laws_of g in
    let d0 = c.args.disk.now in
    let d1 = c.write_both.new.disk in
    let s0 = g.D.Disk.state d0 in
    let s1 = g.D.Disk.state d1 in
    let told = g.met.D.Disk.honest_tells d0 honest in
    let honest1 = subst IsTrue (sym c.write_both.ensures.honest) honest in
    let a = c.args.first in
    let b = c.args.second in
    let images = c.write_both.ensures.images honest in
    let sound = λ (f : ℕ). sound_of laws d1 honest1 f in
    let Q = Led a c.args.at c.args.head.now c.args.gate b c.args.bytes.now c.requires.apart s0 s1 images sound in
    let B = Both a c.args.at c.args.head.now c.args.gate b c.args.bytes.now c.requires.apart s0 s1 images sound in
    let r0 = start laws d0 Q (IsImageOf s0.files) honest (λ x image. image) (start_both a c.args.at c.args.head.now c.args.gate b c.args.bytes.now c.requires.apart s0 s1 images sound) in
    let r1 = went laws d0 Q (IsImageOf s0.files) B B d0 d1 r0 c.write_both.ensures.honest images (c.write_both.ensures.any_moment honest) (λ x is. inl is) in
    let d2 = c.write_through.new.disk in
    let first = c.in-Ok.ensures.first told in
    let second = c.in-Ok.ensures.second told in
    let others = c.in-Ok.ensures.others told in
    let There = There a c.args.at c.args.head.now c.args.gate b c.args.bytes.now c.requires.apart s0 s1 images sound first second others in
    let r2 = said laws d0 Q B There d1 r1 (all_there a c.args.at c.args.head.now c.args.gate b c.args.bytes.now c.requires.apart s0 s1 images sound first second others) in
    let r3 = through laws d0 Q There Q a c.args.gate 1 d1 d2 r2 c.write_through.ensures.honest (c.write_through.ensures.images honest1) (c.write_through.ensures.any_moment honest1)
    (gate_torn a c.args.at c.args.head.now c.args.gate b c.args.bytes.now c.requires.apart s0 s1 images sound first second others) (λ x is. is) in
    r3.each

pub returns-in-Ok-clause-any_moment : goal.returns-in-Ok-clause-any_moment
returns-in-Ok-clause-any_moment g c honest =
    let laws = laws_of g in
    let d0 = c.args.disk.now in
    let d1 = c.write_both.new.disk in
    let s0 = g.D.Disk.state d0 in
    let s1 = g.D.Disk.state d1 in
    let told = g.met.D.Disk.honest_tells d0 honest in
    let honest1 = subst IsTrue (sym c.write_both.ensures.honest) honest in
    let a = c.args.first in
    let b = c.args.second in
    let images = c.write_both.ensures.images honest in
    let sound = λ (f : ℕ). sound_of laws d1 honest1 f in
    let Q = Led a c.args.at c.args.head.now c.args.gate b c.args.bytes.now c.requires.apart s0 s1 images sound in
    let B = Both a c.args.at c.args.head.now c.args.gate b c.args.bytes.now c.requires.apart s0 s1 images sound in
    let r0 = start laws d0 Q (IsImageOf s0.files) honest (λ x image. image) (start_both a c.args.at c.args.head.now c.args.gate b c.args.bytes.now c.requires.apart s0 s1 images sound) in
    let r1 = went laws d0 Q (IsImageOf s0.files) B B d0 d1 r0 c.write_both.ensures.honest images (c.write_both.ensures.any_moment honest) (λ x is. inl is) in
    let d2 = c.write_through.new.disk in
    let first = c.in-Ok.ensures.first told in
    let second = c.in-Ok.ensures.second told in
    let others = c.in-Ok.ensures.others told in
    let There = There a c.args.at c.args.head.now c.args.gate b c.args.bytes.now c.requires.apart s0 s1 images sound first second others in
    let r2 = said laws d0 Q B There d1 r1 (all_there a c.args.at c.args.head.now c.args.gate b c.args.bytes.now c.requires.apart s0 s1 images sound first second others) in
    let r3 = through laws d0 Q There Q a c.args.gate 1 d1 d2 r2 c.write_through.ensures.honest (c.write_through.ensures.images honest1) (c.write_through.ensures.any_moment honest1)
    (gate_torn a c.args.at c.args.head.now c.args.gate b c.args.bytes.now c.requires.apart s0 s1 images sound first second others) (λ x is. is) in
    r3.run

pub returns-in-Err-clause-fuse : goal.returns-in-Err-clause-fuse
returns-in-Err-clause-fuse g c honest =
    let laws = laws_of g in
    let d0 = c.args.disk.now in
    let d1 = c.write_both.new.disk in
    let s0 = g.D.Disk.state d0 in
    let s1 = g.D.Disk.state d1 in
    let told = g.met.D.Disk.honest_tells d0 honest in
    let honest1 = subst IsTrue (sym c.write_both.ensures.honest) honest in
    let a = c.args.first in
    let b = c.args.second in
    let images = c.write_both.ensures.images honest in
    let sound = λ (f : ℕ). sound_of laws d1 honest1 f in
    ended_early a c.args.at c.args.head.now c.args.gate b c.args.bytes.now c.requires.apart s0 s1 images sound (Unit {0}) c.in-Err.trouble (c.in-Err.ensures.fuse told)

pub returns-in-Ok-clause-fuse : goal.returns-in-Ok-clause-fuse
returns-in-Ok-clause-fuse g c honest =
    let laws = laws_of g in
    let d0 = c.args.disk.now in
    let d1 = c.write_both.new.disk in
    let s0 = g.D.Disk.state d0 in
    let s1 = g.D.Disk.state d1 in
    let told = g.met.D.Disk.honest_tells d0 honest in
    let honest1 = subst IsTrue (sym c.write_both.ensures.honest) honest in
    let a = c.args.first in
    let b = c.args.second in
    let images = c.write_both.ensures.images honest in
    let sound = λ (f : ℕ). sound_of laws d1 honest1 f in
    let told1 = subst IsTrue (sym c.write_both.ensures.tells) told in
    ended_late a c.args.at c.args.head.now c.args.gate b c.args.bytes.now c.requires.apart s0 s1 images sound (c.in-Ok.ensures.first told) (c.in-Ok.ensures.second told) (c.in-Ok.ensures.others told)
    (Unit {0}) (g.D.Disk.state c.write_through.new.disk) c.write_through.result (c.in-Ok.ensures.fuse told) (c.write_through.ensures.fuse told1) (c.write_through.ensures.others told1)
