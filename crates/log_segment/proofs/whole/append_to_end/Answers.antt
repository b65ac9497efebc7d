-- A closed gate in the next segment, and then an append in this one.
use Rattle.std.specs.Prelude.{◌&&◌, if◌then◌else◌}
use Rattle.std.proofs.Common.{◌≡◌, ◌≢◌, inl, inr, ℕ, ◌+◌, ◌-◌, ◌*◌, ◌<◌, ◌≤◌, List, ◌++◌, replicate, Err, IsTrue, refl, sym, ◌∙◌, subst, arith}
use Rattle.std.proofs.lemmas.Bool.{cases_eq, ne_eqb, eq-eqb}
use Rattle.cl_base.specs.Disk.{DiskState, LeavesOnly, settled_file, overwritten, left_by}
use Rattle.cl_base.specs.Images.{IsSound, left_is_image}
use Rattle.cl_base.specs.Every.{takes}
use Rattle.cl_base.specs.Gated.{is_open_byte}
use Rattle.cl_base.specs.Through.{TornOnly, IsTornFrom, ThroughLeft}
use Rattle.cl_base.specs.Fuse.{Early, Later, ends_weaker, fuse_first, fuse_then}
use Rattle.cl_base.specs.Runs.{DiskLaws, TornIn, Reached, start, went, through, known}
use Rattle.cl_base.specs.declared.fault.Trouble.{Trouble}
use Rattle.cl_base.specs.declared.fault.Trouble.TheVariants.{Failed}
use Rattle.entry_log.specs.Log.{Log, place}
use Rattle.log_segment.specs.Segment.{IsShut, LogIs}
use Rattle.log_segment.specs.Whole.{LogIsOne, LogLeft, CanAppend, CanFill}
use Rattle.log_segment.proofs.ApartLemmas.{not_these, apart_through, apart_after}
use Rattle.log_segment.proofs.WholeLemmas.{torn_beyond, zeros_shut}
use Rattle.log_segment.proofs.StillLemmas.{shut_next}
use Rattle.log_segment.proofs.whole.append_to_end.Given as given
use Rattle.log_segment.proofs.whole.append_to_end.Goals as goal

abbrev laws_of : (g : given.Over) → DiskLaws g.row.D.Denot
laws_of g = record {
  state = g.D.Disk.state;
  is_honest = g.D.Disk.is_honest;
  tells = g.D.Disk.tells;
  moment = g.D.Disk.moment;
  left_since = g.D.Disk.left_since;
  reads = g.met.D.Disk.reads_is_image;
  synced = g.met.D.Disk.synced_is_image;
  honest_tells = g.met.D.Disk.honest_tells;
  only_now = g.met.D.Disk.only_now;
}

module _ {D : Type 0} (L : DiskLaws D) (log batch : Log) (s at : ℕ) (bytes head tail : List ℕ) (d0 d1 : D) (honest : IsTrue (L.is_honest d0)) (can : CanFill log batch s at bytes head tail (L.state d0).files)
    (same : L.is_honest d1 ≡ L.is_honest d0)
    (only : TornOnly (3 + s) 0 32 (L.state d0).files (L.state d1).files) (run : LeavesOnly L.moment L.left_since d0 d1 (IsTornFrom (3 + s) 0 32 (L.state d0).files)) where
  abbrev zeros : List ℕ
  zeros = replicate 32 0

  abbrev One : (ℕ → List ℕ) → Type 0
  One = LogIsOne log (log ++ batch)

  past : place log < (1 + s) * 65536
  past = let in_s = can.is.segment in omega arith

  first : Reached L d0 One (LogIs log) d1
  first = through L d0 One (LogIs log) (LogIs log) (3 + s) 0 32 d0 d1 (start L d0 One (LogIs log) honest can.stands (λ c is. inl is)) same only run
      (λ e c is torn. torn_beyond log (1 + s) 32 0 can.is.laid past e c is (subst (λ k. TornIn k 0 32 e c) (omega arith) torn)) (λ c is. inl is)

  abbrev shut_file : List ℕ
  shut_file = overwritten 0 zeros ((L.state d0).files (3 + s)).reads

  ready : (L.state d1).files (3 + s) ≡ settled_file shut_file → CanAppend log batch s at bytes head tail (L.state d1).files
  ready is = record {
    is = can.is;
    stands = first.each;
    ready = λ c image full low.
        let there = (known L d0 One (LogIs log) (3 + s) shut_file d1 first is).each c image in
        let number : 2 + (s + 1) ≡ 3 + s = omega arith in
        subst (λ k. IsShut 0 (c k)) (sym number) (subst (λ l. IsShut 0 l) (sym there.1) (zeros_shut zeros ((L.state d0).files (3 + s)).reads refl refl));
  }

  sound : (f : ℕ) → IsSound ((L.state d1).files f)
  sound f = record { reads = L.reads d1 f first.honest; synced = L.synced d1 f first.honest }

  left_first : (k : ℕ) → k < 2 → LogLeft 6 log (log ++ batch) (L.state d1) k
  left_first k few choice = subst (λ b. LogIs (if b && takes is_open_byte choice then log ++ batch else log) (λ f. left_by choice ((L.state d1).files f))) (sym (ne_eqb k 6 (λ is. absurd (omega (arith, is)))))
      (first.each (λ f. left_by choice ((L.state d1).files f)) (λ f. left_is_image choice ((L.state d1).files f) (sound f)))

  left_then : (left : DiskState) (k : ℕ) → 2 ≤ k → LogLeft 4 log (log ++ batch) left (k - 2) → LogLeft 6 log (log ++ batch) left k
  left_then left k some is choice = elim (cases_eq k 6) [
    | inl six ↦
        let four : k - 2 ≡ 4 = omega (arith, six) in
        subst (λ b. LogIs (if b && takes is_open_byte choice then log ++ batch else log) (λ f. left_by choice (left.files f))) (eq-eqb (k - 2) 4 four ∙ sym (eq-eqb k 6 six)) (is choice)
    | inr ne ↦
        let not_four : k - 2 ≢ 4 = λ four. ne (omega (arith, four, some)) in
        subst (λ b. LogIs (if b && takes is_open_byte choice then log ++ batch else log) (λ f. left_by choice (left.files f))) (ne_eqb (k - 2) 4 not_four ∙ sym (ne_eqb k 6 ne)) (is choice)
  ]

pub returns-in-Err-clause-each : goal.returns-in-Err-clause-each
returns-in-Err-clause-each g c honest log batch bytes can =
    λ image_files image. inl ((first (laws_of g) log batch c.args.segment c.args.at bytes c.args.head.now c.args.tail.now c.args.disk.now c.write_through.new.disk honest can c.write_through.ensures.honest (c.write_through.ensures.images honest) (c.write_through.ensures.any_moment honest)).each image_files image)

pub returns-in-Err-clause-cut_well : goal.returns-in-Err-clause-cut_well
returns-in-Err-clause-cut_well g c honest log batch bytes can =
    (first (laws_of g) log batch c.args.segment c.args.at bytes c.args.head.now c.args.tail.now c.args.disk.now c.write_through.new.disk honest can c.write_through.ensures.honest (c.write_through.ensures.images honest) (c.write_through.ensures.any_moment honest)).run

pub returns-in-Err-clause-fuse : goal.returns-in-Err-clause-fuse
returns-in-Err-clause-fuse g c honest log batch bytes can =
    let s0 = g.D.Disk.state c.args.disk.now in
    let s1 = g.D.Disk.state c.write_through.new.disk in
    ends_weaker (Unit {0}) Trouble Failed 7 (Early 2 (ThroughLeft (3 + c.args.segment) 0 (replicate 32 0) s0.files)) (LogLeft 6 log (log ++ batch)) s0 s1 (Err c.in-Err.trouble)
    (λ k few left. left_first (laws_of g) log batch c.args.segment c.args.at bytes c.args.head.now c.args.tail.now c.args.disk.now c.write_through.new.disk honest can c.write_through.ensures.honest (c.write_through.ensures.images honest) (c.write_through.ensures.any_moment honest) k left.0)
    (fuse_first (Unit {0}) (Unit {0}) Trouble Failed 2 5 (ThroughLeft (3 + c.args.segment) 0 (replicate 32 0) s0.files) s0 s1 c.in-Err.trouble (c.in-Err.ensures.fuse (g.met.D.Disk.honest_tells c.args.disk.now honest)))

pub returns-in-Ok-clause-done : goal.returns-in-Ok-clause-done
returns-in-Ok-clause-done g c honest log batch bytes can =
    let told = g.met.D.Disk.honest_tells c.args.disk.now honest in
    let can1 = ready (laws_of g) log batch c.args.segment c.args.at bytes c.args.head.now c.args.tail.now c.args.disk.now c.write_through.new.disk honest can c.write_through.ensures.honest (c.write_through.ensures.images honest) (c.write_through.ensures.any_moment honest) (c.in-Ok.ensures.done told).changed in
    c.append_in.ensures.done (subst IsTrue (sym c.write_through.ensures.honest) honest) log batch bytes can1

pub returns-in-Ok-clause-each : goal.returns-in-Ok-clause-each
returns-in-Ok-clause-each g c honest log batch bytes can =
    let told = g.met.D.Disk.honest_tells c.args.disk.now honest in
    let can1 = ready (laws_of g) log batch c.args.segment c.args.at bytes c.args.head.now c.args.tail.now c.args.disk.now c.write_through.new.disk honest can c.write_through.ensures.honest (c.write_through.ensures.images honest) (c.write_through.ensures.any_moment honest) (c.in-Ok.ensures.done told).changed in
    c.append_in.ensures.each (subst IsTrue (sym c.write_through.ensures.honest) honest) log batch bytes can1

pub returns-in-Ok-clause-cut_well : goal.returns-in-Ok-clause-cut_well
returns-in-Ok-clause-cut_well g c honest log batch bytes can =
    let told = g.met.D.Disk.honest_tells c.args.disk.now honest in
    let d0 = c.args.disk.now in
    let d1 = c.write_through.new.disk in
    let d2 = c.append_in.new.disk in
    let one = LogIsOne log (log ++ batch) in
    let r1 = first (laws_of g) log batch c.args.segment c.args.at bytes c.args.head.now c.args.tail.now c.args.disk.now c.write_through.new.disk honest can c.write_through.ensures.honest (c.write_through.ensures.images honest) (c.write_through.ensures.any_moment honest) in
    let can1 = ready (laws_of g) log batch c.args.segment c.args.at bytes c.args.head.now c.args.tail.now c.args.disk.now c.write_through.new.disk honest can c.write_through.ensures.honest (c.write_through.ensures.images honest) (c.write_through.ensures.any_moment honest) (c.in-Ok.ensures.done told).changed in
    let honest1 = subst IsTrue (sym c.write_through.ensures.honest) honest in
    (went (laws_of g) d0 one (LogIs log) one one d1 d2 r1 c.append_in.ensures.honest (c.append_in.ensures.each honest1 log batch bytes can1) (c.append_in.ensures.cut_well honest1 log batch bytes can1) (λ x is. is)).run

pub returns-in-Ok-clause-fuse : goal.returns-in-Ok-clause-fuse
returns-in-Ok-clause-fuse g c honest log batch bytes can alive =
    let told = g.met.D.Disk.honest_tells c.args.disk.now honest in
    let s0 = g.D.Disk.state c.args.disk.now in
    let s1 = g.D.Disk.state c.write_through.new.disk in
    let s2 = g.D.Disk.state c.append_in.new.disk in
    let can1 = ready (laws_of g) log batch c.args.segment c.args.at bytes c.args.head.now c.args.tail.now c.args.disk.now c.write_through.new.disk honest can c.write_through.ensures.honest (c.write_through.ensures.images honest) (c.write_through.ensures.any_moment honest) (c.in-Ok.ensures.done told).changed in
    let honest1 = subst IsTrue (sym c.write_through.ensures.honest) honest in
    ends_weaker (Unit {0}) Trouble Failed 7 (Later 2 (LogLeft 4 log (log ++ batch))) (LogLeft 6 log (log ++ batch)) s0 s2 c.append_in.result
    (λ k few left. left_then (laws_of g) log batch c.args.segment c.args.at bytes c.args.head.now c.args.tail.now c.args.disk.now c.write_through.new.disk honest can c.write_through.ensures.honest (c.write_through.ensures.images honest) (c.write_through.ensures.any_moment honest) s2 k left.0 left.1)
    (fuse_then (Unit {0}) Trouble Failed 2 5 (LogLeft 4 log (log ++ batch)) s0 s1 s2 c.append_in.result (c.in-Ok.ensures.fuse told alive) (c.append_in.ensures.fuse honest1 log batch bytes can1)) alive

pub returns-in-Ok-clause-reads : goal.returns-in-Ok-clause-reads
returns-in-Ok-clause-reads g c told log batch bytes is stands =
    let f0 = (g.D.Disk.state c.args.disk.now).files in
    let f1 = (g.D.Disk.state c.write_through.new.disk).files in
    let next = shut_next log batch c.args.segment c.args.at bytes c.args.head.now c.args.tail.now f0 f1 stands is (c.in-Ok.ensures.done told) in
    c.append_in.ensures.reads (subst IsTrue (sym c.write_through.ensures.tells) told) log batch bytes is next.0 next.1

pub returns-in-Err-clause-apart : goal.returns-in-Err-clause-apart
returns-in-Err-clause-apart g c honest =
    let d0 = c.args.disk.now in
    apart_through g.D.Disk.moment g.D.Disk.left_since d0 c.write_through.new.disk (g.D.Disk.state d0).files (3 + c.args.segment) 0 32 (omega arith) (omega (arith, c.requires.segment)) (c.write_through.ensures.any_moment honest)

pub returns-in-Ok-clause-apart : goal.returns-in-Ok-clause-apart
returns-in-Ok-clause-apart g c honest =
    let d0 = c.args.disk.now in
    let d1 = c.write_through.new.disk in
    let f0 = (g.D.Disk.state d0).files in
    let low : 2 ≤ 3 + c.args.segment = omega arith in
    let high : 3 + c.args.segment < 258 = omega (arith, c.requires.segment) in
    apart_after g.D.Disk.moment g.D.Disk.left_since d0 d1 c.append_in.new.disk f0 (g.D.Disk.state d1).files
    (λ x far. c.write_through.ensures.others (g.met.D.Disk.honest_tells d0 honest) x (not_these x (3 + c.args.segment) low high far))
    (apart_through g.D.Disk.moment g.D.Disk.left_since d0 d1 f0 (3 + c.args.segment) 0 32 low high (c.write_through.ensures.any_moment honest))
    (c.append_in.ensures.apart (subst IsTrue (sym c.write_through.ensures.honest) honest))
