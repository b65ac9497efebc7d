use Rattle.echo_run.proofs.Driving.{dutied, dutied_world}
use Rattle.echo_run.proofs.run.Run.turn.Goals as goal

pub returns-in_default : goal.returns-in_default
returns-in_default c =
    let r = c.args.self.now in
    record {
      kept = dutied r c.step.new.self c.requires.kept c.step.ensures.state;
      world = dutied_world r c.step.new.self c.requires.kept c.in_default.not-LeaderInit c.in_default.not-LeaderReady c.step.ensures.state;
    }
