use Rattle.std.proofs.Common.{arith}
use Rattle.owed_egress.proofs.Asked.{module_goes_on}
use Rattle.owed_egress.proofs.laws.the_module_takes_what_its_services_ask.Goals as goal

pub returns : goal.returns
returns c kinds log first n room fits = module_goes_on kinds log first n n (omega arith) room fits
