use Rattle.program_launches.proofs.Keeping.{launches_settle}
use Rattle.program_launches.proofs.laws.launches_settle.Goals as goal

pub returns : goal.returns
returns c = launches_settle
