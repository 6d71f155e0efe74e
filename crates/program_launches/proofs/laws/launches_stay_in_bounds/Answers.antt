use Rattle.program_launches.proofs.Keeping.{launches_stay_in_bounds}
use Rattle.program_launches.proofs.laws.launches_stay_in_bounds.Goals as goal

pub returns : goal.returns
returns c = launches_stay_in_bounds
