use Rattle.std.proofs.Common.{◌+◌, ◌<◌, IsTrue, length, get_or, ap, sym, ◌∙◌, subst, arith}
use Rattle.std.proofs.lemmas.List.{length-map}
use Rattle.entry_log.specs.Shape.{entry_shape}
use Rattle.member_disk.specs.Kept.{Kept}
use Rattle.cluster_tool.specs.Text.{begun}
use Rattle.cluster_tool.proofs.Logs.{no_entry, count_more}
use Rattle.cluster_tool.proofs.Reading.{still_then}
use Rattle.cluster_tool.proofs.describe.count_terms.Goals as goal

pub terms_at-requires-clause-index : goal.terms_at-requires-clause-index
terms_at-requires-clause-index g c =
    let i = c.loop-index.index in
    let all = c.entries-entries.ensures.count ∙ ap length c.index.ensures.index ∙ length-map c.args.member.now.kept.log entry_shape in
    subst (λ (kept : Kept). i < length kept.log) (sym c.loop-index.invariant.still.kept) (omega (arith, all))

pub loop-index-preserved : goal.loop-index-preserved
loop-index-preserved g c =
    let i = c.loop-index.index in
    let log = c.args.member.now.kept.log in
    let was = c.loop-index.invariant in
    let all = c.entries-entries.ensures.count ∙ ap length c.index.ensures.index ∙ length-map log entry_shape in
    let below : i < length log = omega (arith, all) in
    let few = c.in-Ok.ensures.few in
    record {
      still = still_then g.D.Disk.tells g.D.Disk.is_honest g.D.Disk.state g.D.Disk.fault_count c.args.member.now c.loop-index.member c.terms_at.new.member was.still c.in-Ok.ensures.reads.still;
      few = omega (arith, few, was.few);
      count = λ t.
          let more = c.in-Ok.ensures.begun (subst IsTrue (sym was.still.disk.same) t) no_entry in
          let is = more ∙ ap (λ (kept : Kept). begun (get_or kept.log i no_entry).bytes) was.still.kept in
          ap (λ n. n + c.in-Ok.more) (was.count t) ∙ sym (count_more i log no_entry c.in-Ok.more below is);
    }
