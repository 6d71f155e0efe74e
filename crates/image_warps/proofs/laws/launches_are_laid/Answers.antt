use Rattle.image_warps.proofs.Starts.{launches_are_laid}
use Rattle.image_warps.proofs.laws.launches_are_laid.Goals as goal

pub returns : goal.returns
returns c = launches_are_laid
