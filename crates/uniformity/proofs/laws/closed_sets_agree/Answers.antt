use Rattle.uniformity.proofs.Law.{closed_agree}
use Rattle.uniformity.proofs.laws.closed_sets_agree.Goals as goal

pub returns : goal.returns
returns c = closed_agree
