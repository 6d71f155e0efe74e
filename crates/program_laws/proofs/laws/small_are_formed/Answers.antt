use Rattle.program_laws.proofs.Forming.{small_formed}
use Rattle.program_laws.proofs.laws.small_are_formed.Goals as goal

pub returns : goal.returns
returns c = small_formed
