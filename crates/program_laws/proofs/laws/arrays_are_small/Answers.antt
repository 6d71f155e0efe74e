use Rattle.program_laws.proofs.Bodies.{arrays_small}
use Rattle.program_laws.proofs.laws.arrays_are_small.Goals as goal

pub returns : goal.returns
returns c = arrays_small
