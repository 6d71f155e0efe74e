use Rattle.program_launches.proofs.Declaring.{declared_are_there}
use Rattle.program_launches.proofs.laws.declared_are_there.Goals as goal

pub returns : goal.returns
returns c = declared_are_there
