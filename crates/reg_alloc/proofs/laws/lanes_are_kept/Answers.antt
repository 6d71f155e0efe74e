use Rattle.reg_alloc.proofs.KeptLanes.{lanes_are_kept}
use Rattle.reg_alloc.proofs.laws.lanes_are_kept.Goals as goal

pub returns : goal.returns
returns c = lanes_are_kept
