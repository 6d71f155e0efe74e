use Rattle.uniformity.proofs.Standing.{places_agree}
use Rattle.uniformity.proofs.laws.places_agree.Goals as goal

pub returns : goal.returns
returns c = places_agree
