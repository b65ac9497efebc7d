use Rattle.member_asks.proofs.Between.{asked-between}
use Rattle.member_asks.proofs.is_asked_between_phases.Goals as goal

pub returns : goal.returns
returns c kinds free m w u x v first asked last = asked-between kinds free m w u x v first asked last
