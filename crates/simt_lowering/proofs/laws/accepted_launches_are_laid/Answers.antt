use Rattle.simt_lowering.proofs.LaidLanes.{accepted_is_laid}
use Rattle.simt_lowering.proofs.laws.accepted_launches_are_laid.Goals as goal

pub returns : goal.returns
returns c = accepted_is_laid
