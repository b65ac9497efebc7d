use Rattle.std.proofs.Common.{◌≡◌, ◌<◌, min, IsTrue, length, get_or, ap, sym, ◌∙◌, subst, arith}
use Rattle.std.proofs.lemmas.List.{length-map}
use Rattle.entry_log.specs.Shape.{entry_shape}
use Rattle.member_disk.specs.Kept.{Kept}
use Rattle.cluster_tool.specs.Compared.{differing, longer}
use Rattle.cluster_tool.proofs.Logs.{no_entry, goes_on, stops_at, ends_at}
use Rattle.cluster_tool.proofs.Reading.{still_then}
use Rattle.cluster_tool.proofs.compare.compared.Goals as goal

pub returns-in-Ok-Some-clause-compared : goal.returns-in-Ok-Some-clause-compared
returns-in-Ok-Some-clause-compared g c t1 t2 =
    let i = c.loop-index.index in
    let one = c.args.first.now.kept.log in
    let two = c.args.second.now.kept.log in
    let was = c.loop-index.invariant in
    let one_all = c.entries-one.ensures.count ∙ ap length c.index.ensures.index ∙ length-map one entry_shape in
    let two_all = c.entries-two.ensures.count ∙ ap length c.index-2.ensures.index ∙ length-map two entry_shape in
    let least = c.min-common.ensures in
    let one_below : i < length one = omega (arith, one_all, two_all, least) in
    let two_below : i < length two = omega (arith, one_all, two_all, least) in
    let differs = c.in-Ok-Some.ensures.differing (subst IsTrue (sym was.one.disk.same) t1) (subst IsTrue (sym was.two.disk.same) t2) no_entry in
    let found = sym c.in-Ok-Some.field-0-is ∙ differs
    ∙ ap (λ (k : Kept). differing (get_or k.log i no_entry) (get_or c.loop-index.second.kept.log i no_entry) i) was.one.kept
    ∙ ap (λ (k : Kept). differing (get_or one i no_entry) (get_or k.log i no_entry) i) was.two.kept in
    sym (was.same t1 t2 ∙ stops_at i one two no_entry c.in-Ok-Some.comparison one_below two_below found)

pub loop-index-preserved : goal.loop-index-preserved
loop-index-preserved g c =
    let i = c.loop-index.index in
    let one = c.args.first.now.kept.log in
    let two = c.args.second.now.kept.log in
    let was = c.loop-index.invariant in
    let one_all = c.entries-one.ensures.count ∙ ap length c.index.ensures.index ∙ length-map one entry_shape in
    let two_all = c.entries-two.ensures.count ∙ ap length c.index-2.ensures.index ∙ length-map two entry_shape in
    let least = c.min-common.ensures in
    let one_below : i < length one = omega (arith, one_all, two_all, least) in
    let two_below : i < length two = omega (arith, one_all, two_all, least) in
    record {
      one = still_then g.D.Disk.tells g.D.Disk.is_honest g.D.Disk.state g.D.Disk.fault_count c.args.first.now c.loop-index.first c.compared_at.new.first was.one c.compared_at.ensures.first;
      two = still_then g.D.Disk.tells g.D.Disk.is_honest g.D.Disk.state g.D.Disk.fault_count c.args.second.now c.loop-index.second c.compared_at.new.second was.two c.compared_at.ensures.second;
      same = λ t1 t2.
          let differs = c.in-Ok-None.ensures.differing (subst IsTrue (sym was.one.disk.same) t1) (subst IsTrue (sym was.two.disk.same) t2) no_entry in
          let none = sym c.in-Ok-None.field-0-is ∙ differs
          ∙ ap (λ (k : Kept). differing (get_or k.log i no_entry) (get_or c.loop-index.second.kept.log i no_entry) i) was.one.kept
          ∙ ap (λ (k : Kept). differing (get_or one i no_entry) (get_or k.log i no_entry) i) was.two.kept in
          was.same t1 t2 ∙ goes_on i one two no_entry one_below two_below none;
    }

pub returns-clause-compared : goal.returns-clause-compared
returns-clause-compared g c t1 t2 =
    let i = c.loop-index.index in
    let one = c.args.first.now.kept.log in
    let two = c.args.second.now.kept.log in
    let was = c.loop-index.invariant in
    let one_all = c.entries-one.ensures.count ∙ ap length c.index.ensures.index ∙ length-map one entry_shape in
    let two_all = c.entries-two.ensures.count ∙ ap length c.index-2.ensures.index ∙ length-map two entry_shape in
    let least = c.min-common.ensures in
    let here : c.min-common.result ≡ i = omega arith in
    let at_end : i ≡ min (length one) (length two) = omega (arith, one_all, two_all, least, here) in
    let outcome : c.longer.result ≡ longer (length one) (length two) = c.longer.ensures ∙ ap (λ n. longer n c.entries-two.result) one_all ∙ ap (λ n. longer (length one) n) two_all in
    let so = was.same t1 t2 ∙ ends_at i one two at_end in
    (λ j. record { common = here j; outcome = outcome j }) ∙ sym so
