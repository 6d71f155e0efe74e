use Rattle.program_launches.proofs.Keeping.{tame_are_orderly}
use Rattle.program_launches.proofs.laws.tame_are_orderly.Goals as goal

pub returns : goal.returns
returns c = tame_are_orderly
