use Rattle.reg_alloc.proofs.Standing.{places_are_within}
use Rattle.reg_alloc.proofs.laws.places_are_within.Goals as goal

pub returns : goal.returns
returns c = places_are_within
