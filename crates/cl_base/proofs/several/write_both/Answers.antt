-- Each exit of the two writes.
use Rattle.std.proofs.Common.{◌≢◌, ℕ, List, length}
use Rattle.cl_base.specs.Disk.{FileState, IsImageOf}
use Rattle.cl_base.specs.Runs.{DiskLaws, ComesFrom, TornIn, TornBoth, start, wrote, through, was_synced, both_none, both_first, both_second}
use Rattle.cl_base.proofs.several.write_both.Given as given
use Rattle.cl_base.proofs.several.write_both.Goals as goal

abbrev laws_of : (g : given.Over) → DiskLaws g.row.D.Denot
laws_of g = record {
  state = g.D.Disk.state;
  is_honest = g.D.Disk.is_honest;
  tells = g.D.Disk.tells;
  moment = g.D.Disk.moment;
  left_since = g.D.Disk.left_since;
  reads = g.met.D.Disk.reads_is_image;
  synced = g.met.D.Disk.synced_is_image;
  honest_tells = g.met.D.Disk.honest_tells;
  only_now = g.met.D.Disk.only_now;
}

module _ (files : ℕ → FileState) (a at n b place m : ℕ) (differ : b ≢ a) where
  abbrev Both : (ℕ → List ℕ) → Type 0
  Both c = ComesFrom (TornBoth a at n b place m) files c

  abbrev First : (ℕ → List ℕ) → Type 0
  First c = ComesFrom (TornIn a at n) files c

  as_both : (c : ℕ → List ℕ) → First c → Both c
  as_both c from = record { before = from.before; image = from.image; so = both_first a at n b place m differ from.before c from.so }

  none_as_both : (c : ℕ → List ℕ) → IsImageOf files c → Both c
  none_as_both c image = record { before = c; image = image; so = both_none a at n b place m differ c }

  torn_first : (e c : ℕ → List ℕ) → IsImageOf files e → TornIn a at n e c → First c
  torn_first e c image torn = record { before = e; image = image; so = torn }

  torn_second : (e c : ℕ → List ℕ) → First e → TornIn b place m e c → Both c
  torn_second e c from torn = record { before = from.before; image = from.image; so = both_second a at n b place m differ from.before e c from.so torn }

pub returns-in-Err-clause-images : goal.returns-in-Err-clause-images
returns-in-Err-clause-images g c honest =
    let laws = laws_of g in
    let d0 = c.args.disk.now in
    let d1 = c.write_at.new.self in
    let f0 = (g.D.Disk.state d0).files in
    let told = g.met.D.Disk.honest_tells d0 honest in
    let n = length c.args.head.now in
    let m = length c.args.bytes.now in
    let differ = c.requires.apart in
    let First = First f0 c.args.first c.args.at n c.args.second c.args.place m differ in
    let Both = Both f0 c.args.first c.args.at n c.args.second c.args.place m differ in
    let r0 = start laws d0 Both (IsImageOf f0) honest (λ x image. image) (none_as_both f0 c.args.first c.args.at n c.args.second c.args.place m differ) in
    let r1 = wrote laws d0 Both (IsImageOf f0) First c.args.first c.args.at c.args.head.now d0 d1 c.write_at.result r0 c.write_at.ensures.honest (c.requires.first told) c.write_at.ensures.told c.write_at.ensures.time
    (torn_first f0 c.args.first c.args.at n c.args.second c.args.place m differ) (as_both f0 c.args.first c.args.at n c.args.second c.args.place m differ) in
    (λ x image. as_both f0 c.args.first c.args.at n c.args.second c.args.place m differ x (r1.each x image))

pub returns-in-Err-clause-any_moment : goal.returns-in-Err-clause-any_moment
returns-in-Err-clause-any_moment g c honest =
    let laws = laws_of g in
    let d0 = c.args.disk.now in
    let d1 = c.write_at.new.self in
    let f0 = (g.D.Disk.state d0).files in
    let told = g.met.D.Disk.honest_tells d0 honest in
    let n = length c.args.head.now in
    let m = length c.args.bytes.now in
    let differ = c.requires.apart in
    let First = First f0 c.args.first c.args.at n c.args.second c.args.place m differ in
    let Both = Both f0 c.args.first c.args.at n c.args.second c.args.place m differ in
    let r0 = start laws d0 Both (IsImageOf f0) honest (λ x image. image) (none_as_both f0 c.args.first c.args.at n c.args.second c.args.place m differ) in
    let r1 = wrote laws d0 Both (IsImageOf f0) First c.args.first c.args.at c.args.head.now d0 d1 c.write_at.result r0 c.write_at.ensures.honest (c.requires.first told) c.write_at.ensures.told c.write_at.ensures.time
    (torn_first f0 c.args.first c.args.at n c.args.second c.args.place m differ) (as_both f0 c.args.first c.args.at n c.args.second c.args.place m differ) in
    r1.run

pub returns-in-Err-write_through-clause-images : goal.returns-in-Err-write_through-clause-images
returns-in-Err-write_through-clause-images g c honest =
    let laws = laws_of g in
    let d0 = c.args.disk.now in
    let d1 = c.write_at.new.self in
    let f0 = (g.D.Disk.state d0).files in
    let told = g.met.D.Disk.honest_tells d0 honest in
    let n = length c.args.head.now in
    let m = length c.args.bytes.now in
    let differ = c.requires.apart in
    let First = First f0 c.args.first c.args.at n c.args.second c.args.place m differ in
    let Both = Both f0 c.args.first c.args.at n c.args.second c.args.place m differ in
    let r0 = start laws d0 Both (IsImageOf f0) honest (λ x image. image) (none_as_both f0 c.args.first c.args.at n c.args.second c.args.place m differ) in
    let r1 = wrote laws d0 Both (IsImageOf f0) First c.args.first c.args.at c.args.head.now d0 d1 c.write_at.result r0 c.write_at.ensures.honest (c.requires.first told) c.write_at.ensures.told c.write_at.ensures.time
    (torn_first f0 c.args.first c.args.at n c.args.second c.args.place m differ) (as_both f0 c.args.first c.args.at n c.args.second c.args.place m differ) in
    let d2 = c.write_through.new.disk in
    let r2 = through laws d0 Both First Both c.args.second c.args.place m d1 d2 r1 c.write_through.ensures.honest (c.write_through.ensures.images r1.honest) (c.write_through.ensures.any_moment r1.honest)
    (torn_second f0 c.args.first c.args.at n c.args.second c.args.place m differ) (λ x is. is) in
    r2.each

pub returns-in-Err-write_through-clause-any_moment : goal.returns-in-Err-write_through-clause-any_moment
returns-in-Err-write_through-clause-any_moment g c honest =
    let laws = laws_of g in
    let d0 = c.args.disk.now in
    let d1 = c.write_at.new.self in
    let f0 = (g.D.Disk.state d0).files in
    let told = g.met.D.Disk.honest_tells d0 honest in
    let n = length c.args.head.now in
    let m = length c.args.bytes.now in
    let differ = c.requires.apart in
    let First = First f0 c.args.first c.args.at n c.args.second c.args.place m differ in
    let Both = Both f0 c.args.first c.args.at n c.args.second c.args.place m differ in
    let r0 = start laws d0 Both (IsImageOf f0) honest (λ x image. image) (none_as_both f0 c.args.first c.args.at n c.args.second c.args.place m differ) in
    let r1 = wrote laws d0 Both (IsImageOf f0) First c.args.first c.args.at c.args.head.now d0 d1 c.write_at.result r0 c.write_at.ensures.honest (c.requires.first told) c.write_at.ensures.told c.write_at.ensures.time
    (torn_first f0 c.args.first c.args.at n c.args.second c.args.place m differ) (as_both f0 c.args.first c.args.at n c.args.second c.args.place m differ) in
    let d2 = c.write_through.new.disk in
    let r2 = through laws d0 Both First Both c.args.second c.args.place m d1 d2 r1 c.write_through.ensures.honest (c.write_through.ensures.images r1.honest) (c.write_through.ensures.any_moment r1.honest)
    (torn_second f0 c.args.first c.args.at n c.args.second c.args.place m differ) (λ x is. is) in
    r2.run

pub returns-in-Ok-write_through-clause-images : goal.returns-in-Ok-write_through-clause-images
returns-in-Ok-write_through-clause-images g c honest =
    let laws = laws_of g in
    let d0 = c.args.disk.now in
    let d1 = c.write_at.new.self in
    let f0 = (g.D.Disk.state d0).files in
    let told = g.met.D.Disk.honest_tells d0 honest in
    let n = length c.args.head.now in
    let m = length c.args.bytes.now in
    let differ = c.requires.apart in
    let First = First f0 c.args.first c.args.at n c.args.second c.args.place m differ in
    let Both = Both f0 c.args.first c.args.at n c.args.second c.args.place m differ in
    let r0 = start laws d0 Both (IsImageOf f0) honest (λ x image. image) (none_as_both f0 c.args.first c.args.at n c.args.second c.args.place m differ) in
    let r1 = wrote laws d0 Both (IsImageOf f0) First c.args.first c.args.at c.args.head.now d0 d1 c.write_at.result r0 c.write_at.ensures.honest (c.requires.first told) c.write_at.ensures.told c.write_at.ensures.time
    (torn_first f0 c.args.first c.args.at n c.args.second c.args.place m differ) (as_both f0 c.args.first c.args.at n c.args.second c.args.place m differ) in
    let d2 = c.write_through.new.disk in
    let r2 = through laws d0 Both First Both c.args.second c.args.place m d1 d2 r1 c.write_through.ensures.honest (c.write_through.ensures.images r1.honest) (c.write_through.ensures.any_moment r1.honest)
    (torn_second f0 c.args.first c.args.at n c.args.second c.args.place m differ) (λ x is. is) in
    let d3 = c.sync.new.self in
    let r3 = was_synced laws d0 Both Both c.args.first d2 d3 c.sync.result r2 c.sync.ensures.honest c.sync.ensures.told c.sync.ensures.time (λ x is. is) in
    r3.each

pub returns-in-Ok-write_through-clause-any_moment : goal.returns-in-Ok-write_through-clause-any_moment
returns-in-Ok-write_through-clause-any_moment g c honest =
    let laws = laws_of g in
    let d0 = c.args.disk.now in
    let d1 = c.write_at.new.self in
    let f0 = (g.D.Disk.state d0).files in
    let told = g.met.D.Disk.honest_tells d0 honest in
    let n = length c.args.head.now in
    let m = length c.args.bytes.now in
    let differ = c.requires.apart in
    let First = First f0 c.args.first c.args.at n c.args.second c.args.place m differ in
    let Both = Both f0 c.args.first c.args.at n c.args.second c.args.place m differ in
    let r0 = start laws d0 Both (IsImageOf f0) honest (λ x image. image) (none_as_both f0 c.args.first c.args.at n c.args.second c.args.place m differ) in
    let r1 = wrote laws d0 Both (IsImageOf f0) First c.args.first c.args.at c.args.head.now d0 d1 c.write_at.result r0 c.write_at.ensures.honest (c.requires.first told) c.write_at.ensures.told c.write_at.ensures.time
    (torn_first f0 c.args.first c.args.at n c.args.second c.args.place m differ) (as_both f0 c.args.first c.args.at n c.args.second c.args.place m differ) in
    let d2 = c.write_through.new.disk in
    let r2 = through laws d0 Both First Both c.args.second c.args.place m d1 d2 r1 c.write_through.ensures.honest (c.write_through.ensures.images r1.honest) (c.write_through.ensures.any_moment r1.honest)
    (torn_second f0 c.args.first c.args.at n c.args.second c.args.place m differ) (λ x is. is) in
    let d3 = c.sync.new.self in
    let r3 = was_synced laws d0 Both Both c.args.first d2 d3 c.sync.result r2 c.sync.ensures.honest c.sync.ensures.told c.sync.ensures.time (λ x is. is) in
    r3.run
