use Rattle.std.proofs.Common.{◌≡◌, ℕ, IsTrue, length, ap, sym, subst}
use Rattle.cl_base.specs.Disk.{FileState}
use Rattle.member_disk.specs.Kept.{Kept}
use Rattle.member_module.specs.Held.{Held as ModuleHeld}
use Rattle.module_state.specs.Module.{Module}
use Rattle.consensus_agent.specs.Restored.{GoOn, IsRestored}
use Rattle.consensus_agent.proofs.Restoring.{module_back}
use Rattle.consensus_agent.proofs.mounting.restored.Goals as goal

pub returns-clause-on : goal.returns-clause-on
returns-clause-on g c told =
    let kept : Kept = c.args.disk.now.kept in
    let files : ℕ → FileState = (g.D.Disk.state c.args.disk.now.disk).files in
    let mid = c.restored_services.new.disk in
    let looked = c.restored_services.ensures.looked in
    let there : IsRestored mid.kept (g.D.Disk.state mid.disk).files (length c.args.kinds.now) c.in_ok-state.state = c.in_ok-state.ensures.on (subst IsTrue (sym looked.tells) told) in
    record {
      services = subst (λ (base : ℕ). GoOn kept files base c.args.kinds.now 0 c.in_ok-containers.containers.items) (sym c.unwrap_or-base.ensures) (c.in_ok-containers.ensures.on told);
      state = subst (λ (m : Module). IsRestored kept files (length c.args.kinds.now) m) (sym (ap (λ (m : ModuleHeld). m.state) c.new.ensures.rest))
          (module_back kept mid.kept files (g.D.Disk.state mid.disk).files (length c.args.kinds.now) c.in_ok-state.state looked.kept (looked.files told) there);
    }
