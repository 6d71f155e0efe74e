use Rattle.flat_typing.proofs.Variables.{variables_few}
use Rattle.flat_typing.proofs.laws.variables_are_few.Goals as goal

pub returns : goal.returns
returns c = variables_few
