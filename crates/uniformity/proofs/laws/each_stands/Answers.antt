use Rattle.uniformity.proofs.Standing.{each_stands}
use Rattle.uniformity.proofs.laws.each_stands.Goals as goal

pub returns : goal.returns
returns c = each_stands
