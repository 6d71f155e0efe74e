use Rattle.reg_alloc.proofs.Standing.{blocks_stand}
use Rattle.reg_alloc.proofs.laws.blocks_stand.Goals as goal

pub returns : goal.returns
returns c = blocks_stand
