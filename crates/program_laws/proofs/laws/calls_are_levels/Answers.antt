use Rattle.program_laws.proofs.Levels.{calls_are_levels}
use Rattle.program_laws.proofs.laws.calls_are_levels.Goals as goal

pub returns : goal.returns
returns c = calls_are_levels
