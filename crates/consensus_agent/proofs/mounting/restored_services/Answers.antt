use Rattle.std.proofs.Common.{◌≡◌, ℕ, ◌+◌, ◌<◌, IsTrue, List, [], ◌∷◌, ◌++◌, length, take, get_or, ap, sym, subst, ◌∙◌, arith, length-append}
use Rattle.std.specs.Prelude.{unwrap_or}
use Rattle.std.proofs.lemmas.Grind.{common_steps}
use Rattle.std.proofs.lemmas.List.{take_more}
use Rattle.cl_base.specs.Disk.{FileState}
use Rattle.member_disk.specs.Kept.{Kept}
use Rattle.service_api.specs.declared.shipped.Kind.{Kind}
use Rattle.service_api.specs.declared.shipped.Kind.TheVariants as kinds
use Rattle.service_container.specs.Held.{Held as ContainerHeld}
use Rattle.service_phases.specs.Pairs.{Each}
use Rattle.service_phases.specs.Phases.{IsAt}
use Rattle.consensus_agent.specs.Restored.{GoOn, GoesOn}
use Rattle.consensus_agent.proofs.Disking.{looked_more}
use Rattle.consensus_agent.proofs.Phasing.{each_push}
use Rattle.consensus_agent.proofs.Quiets.{quiet_more}
use Rattle.consensus_agent.proofs.Restoring.{go_more, goes_back}
use Rattle.consensus_agent.proofs.mounting.restored_services.Goals as goal

pub loop-kind-preserved : goal.loop-kind-preserved
loop-kind-preserved g c =
    let inv = c.loop-kind.invariant in
    let base : ℕ = unwrap_or c.args.entries 0 in
    let i : ℕ = c.loop-kind.kind-index in
    let xs : List ContainerHeld = c.loop-kind.containers.items in
    let x : ContainerHeld = c.in_ok-container.container in
    let items : c.push.new.self.items ≡ xs ++ x ∷ [] = grind (arith, common_steps) in
    let many : length xs ≡ i = inv.many in
    let count : length (xs ++ x ∷ []) ≡ length xs + 1 = length-append xs (x ∷ []) in
    let kind : Kind = get_or c.args.kinds.now i kinds.Echo in
    let more : take (i + 1) c.args.kinds.now ≡ take i c.args.kinds.now ++ kind ∷ [] = take_more c.args.kinds.now i kinds.Echo c.loop-kind-test.true in
    let kept : Kept = c.args.disk.now.kept in
    let files : ℕ → FileState = (g.D.Disk.state c.args.disk.now.disk).files in
    record {
      services = subst (Each (IsAt base)) (sym items) (each_push base xs x inv.services c.in_ok-container.ensures.at);
      many = ap length items ∙ omega (arith, count, many);
      looked = looked_more g.D.Disk.state g.D.Disk.tells g.D.Disk.is_honest c.args.disk.now c.loop-kind.disk c.restored_one.new.disk inv.looked c.restored_one.ensures.looked;
      quiet = quiet_more g.D.Disk.fault_count g.D.Disk.state g.D.Disk.tells c.args.disk.now c.loop-kind.disk c.restored_one.new.disk inv.looked.tells inv.quiet c.in_ok-container.ensures.quiet;
      kept = c.restored_one.ensures.kept ∙ inv.kept;
      whole = c.restored_one.ensures.whole;
      on = λ told.
          let one : GoesOn c.loop-kind.disk.kept (g.D.Disk.state c.loop-kind.disk.disk).files base kind c.len-service.result x = c.in_ok-container.ensures.on (subst IsTrue (sym inv.looked.tells) told) in
          let here : GoesOn kept files base kind c.len-service.result x = goes_back kept c.loop-kind.disk.kept files (g.D.Disk.state c.loop-kind.disk.disk).files base kind c.len-service.result x inv.looked.kept (inv.looked.files told) one in
          let at : c.len-service.result ≡ 0 + length xs = (let is = c.len-service.ensures in omega (arith, is)) in
          subst (λ (ks : List Kind). GoOn kept files base ks 0 c.push.new.self.items) (sym more)
          (subst (λ (cs : List ContainerHeld). GoOn kept files base (take i c.args.kinds.now ++ kind ∷ []) 0 cs) (sym items) (go_more kept files base (take i c.args.kinds.now) kind 0 c.len-service.result xs x at (inv.on told) here));
    }
