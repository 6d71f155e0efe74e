use Rattle.program_laws.proofs.NoRecursion.{none_recursive}
use Rattle.program_laws.proofs.laws.none_is_recursive.Goals as goal

pub returns : goal.returns
returns c = none_recursive
