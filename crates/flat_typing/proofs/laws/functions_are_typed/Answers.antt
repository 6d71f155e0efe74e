use Rattle.flat_typing.proofs.Bodies.{function_typed}
use Rattle.flat_typing.proofs.laws.functions_are_typed.Goals as goal

pub returns : goal.returns
returns c = function_typed
